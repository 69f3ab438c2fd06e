-- Laws of the pass over a leaf as a whole: the ways out of `pass` and of `check_leaf`.
-- Assumes nothing.
use mathlib.Core.Path.{◌≡◌, refl, sym, ◌∙◌}
use mathlib.Core.Bool.{true}
use mathlib.Core.List.{List}
use mathlib.Core.Logic.{inl, inr}
use Prim.Native.Nat.{ℕ, ◌+◌, ◌-◌, ◌*◌, ◌≤◌}
use native.Mathlib.Omega.{arith}
use lib.ListN.{set}
use lib.Seq.{get_or-set_other}
use Rattle.cell.specs.Cell.{child_width}
use Rattle.leaf.specs.Whole.{LeafType}
use Rattle.page.specs.declared.Place.{Place}
use Rattle.leaf_pass.specs.declared.Leaf.{Leaf}
use Rattle.page.specs.Header.{page_type, first_freeblock, cell_count, content_start, fragment_bytes, right_pointer}
use Rattle.page.specs.Place.{allowed}
use Rattle.page.specs.Sound.{Span, Freeblocks, cell_spans, Sound}
use Rattle.page.specs.Steps.{Cleared, Falls, Opened}
use Rattle.leaf_pass.specs.Scan.{Rows, AllTaken, Passed}
use Rattle.leaf_pass.specs.Ends.{Marks, gap_before, gaps_before, FreeMarked}
use Rattle.leaf_pass.specs.Calm.{Calm}
use Rattle.page.proofs.Table.{all-within}
use Rattle.page.proofs.Refusals.{refused-not, falls-sound}
use Rattle.page.proofs.Ways.{checked-page}
use Rattle.leaf_pass.proofs.EndsLaws.{ends-sound}

leaf-width : (type : ℕ) → LeafType type → child_width type ≡ 0
leaf-width type (inl e) = rw e
leaf-width type (inr e) = rw e

module _ (p : List ℕ) (u head kind start first : ℕ) (o : Opened p u head kind start first) (n : ℕ) (count : n ≡ cell_count p head)
    (bytes : ℕ) (t : AllTaken p u head bytes) (least next from to : ℕ) (r : Rows p u head (cell_count p head) least next from to) where
  pub passed : Sound p u head → Passed p u head least (record { kind = kind; cells = n; next = next; from = from; to = to })
  passed s = record { sound = refused-not p u head t.fault s; type = o.type; count = count; rows = rw count r }

  pub passed-falling :
      Falls u (cell_spans p u head 0 (cell_count p head)) → start ≤ u → first + 2 * n ≤ start → first_freeblock p head ≡ 0 →
      (fragments : ℕ) → fragments ≡ fragment_bytes p head → fragments ≤ 60 → bytes + fragments ≡ u - start → Passed p u head least (record { kind = kind; cells = n; next = next; from = from; to = to })
  passed-falling f content array none fragments b few sum =
      passed
      (falls-sound p u head (omega (arith, o.array, o.content)) (omega (arith, o.content)) (omega arith) none
      (all-within (content_start p head) u (cell_spans p u head 0 (cell_count p head)) t.lie) f (omega (arith, t.bytes, o.content)))

  -- m₁ is the table cleared, m₂ with the cells marked, m₃ with the freeblocks; top, some, all: the gaps before u, with those before cells, with all
  module _ (m₀ m₁ m₂ m₃ : List ℕ) (c : Cleared m₀ m₁ start u)
      (k : Marks (content_start p head) u (set m₁ (start - 1) 1) m₂ (cell_spans p u head 0 (cell_count p head)))
      (block taken : ℕ) (begins : block ≡ first_freeblock p head) (f : FreeMarked p start u block m₂ m₃ taken)
      (content : start ≤ u) (array : first + 2 * n ≤ start) where
    pub passed-marking :
        (fragments : ℕ) → fragments ≡ fragment_bytes p head → fragments ≤ 60 → bytes + taken + fragments ≡ u - start →
        (top some all : ℕ) → (top ≤ fragments → top ≡ gap_before m₃ (u - start) u) →
        (some ≤ fragments → some ≡ top + gaps_before m₃ start (cell_spans p u head 0 (cell_count p head))) →
        ((ss : List Span) → Freeblocks p u block ss → all ≤ fragments → all ≡ some + gaps_before m₃ start ss) → all ≡ fragments →
        Passed p u head least (record { kind = kind; cells = n; next = next; from = from; to = to })
    passed-marking fragments b low sum top some all g h i e =
        let w = rw (o.content, begins) at f in
        let third = rw o.content at (i w.0 (rw begins w.1) (omega arith)) in
        let second = rw o.content at (h (omega arith)) in
        let first = rw o.content at (g (omega arith)) in
        passed
        (ends-sound p u head (set m₁ (start - 1) 1) m₂ m₃ w.0
        (omega (arith, o.array, o.content)) (omega (arith, o.content)) (omega arith)
        (λ j l q. get_or-set_other m₁ (start - 1) j 1 0 (omega (arith, o.content, o.array)) ∙ c.zero j (omega (arith, o.content)) q)
        k w.3 t.lie w.2 w.1 (omega (arith, t.bytes, w.4, o.content)) (omega arith))

pub calm-passed :
    (place : Place) (p : List ℕ) (u head least : ℕ) (r : Leaf) → Passed p u head least r → allowed place (page_type p head) ≡ true → LeafType (page_type p head) →
    Calm place p u head least r
calm-passed place p u head least r c suits l =
    let right : 0 ≡ right_pointer p head = rw (leaf-width (page_type p head) l) refl in
    record {
      page = rw c.type (sym (checked-page place p u head suits 0 c.sound refl r.cells 0 c.count right));
      leaf = rw c.type l;
      rows = c.rows;
    }
