-- The ways of the cursor, as the code goes.
-- Assumes nothing.
use Prim.Native.Nat.{ℕ, suc, ◌+◌, ◌-◌, ◌<◌, ◌≤◌}
use mathlib.Core.Bool.{true, false}
use mathlib.Core.Path.{◌≡◌, refl, sym, ap, ◌∙◌}
use mathlib.Core.Logic.{◌≢◌}
use mathlib.Core.List.{List, []}
use lib.IntN.{ℤ}
use lib.ListN.{length}
use native.Mathlib.Omega.{arith}
use borrow.Author.Tests.{eq-eqb, ne_eqb}
use Rattle.std.specs.Prelude.{Result, Ok, Err, Option, Some, None}
use Rattle.number.specs.Bytes.{bias_of}
use Rattle.refusal.specs.declared.Rule.{Rule}
use Rattle.refusal.specs.declared.Refusal.{Refusal}
use Rattle.refusal.specs.Rule.{number_of}
use Rattle.header.specs.declared.Header.{Header}
use Rattle.header.specs.Header.{header_in, header_refusal, pages_of}
use Rattle.header.specs.Told as HT
use Rattle.header.proofs.Laws.{told-number, told-stops}
use Rattle.cell.specs.declared.Cell as C
use Rattle.page.specs.declared.Place.TheVariants.{TablePage}
use Rattle.page.specs.Checked as K
use Rattle.page.specs.Fault.{checked_of}
use Rattle.dealing.specs.File.{File, Cell, table_page, level_limit}
use Rattle.dealing.specs.Walk.{fault_in, in_range}
use Rattle.dealing.proofs.Passed.{range-in, in-range}
use Rattle.dealing.specs.Cursor as L
use Rattle.dealing.proofs.Listing.{or_else}
use Rattle.dealing.proofs.CursorLaws as W
use Rattle.image.specs.Pages.{page_in, head_of, cell_in}
use Rattle.image.specs.Image.{file_of}
use Rattle.image.specs.Ready.{Opened, PageAt}
use Rattle.image.proofs.Shape.{shape}
use Rattle.lookup.specs.Ready.{TreeAt, opening_refusal}
use Rattle.lookup.proofs.Ways.{opening-lost, index_in, same, Fit, refused-at, fault-table, inner-kind, leaf_type, inner_type}
use Rattle.cursor.specs.Answers.{zeros, put_at, blank, pages_from, indices_from, row_of, shown_of, stands_at, stepped, answer_of, opened, first_of, seek_of}
use Rattle.cursor.specs.Shown as Sh
use Rattle.cursor.specs.declared.Cursor as Cu
use Rattle.cursor.specs.declared.Standing.{Standing}
use Rattle.cursor.specs.Stepped as St
use Rattle.cursor.specs.Told.{told_row, told}

-- ---- a cell of a page that was checked
module _ {b : List ℕ} {h : Header} {p kind count : ℕ} (t : TreeAt b h p kind count) (i : ℕ) (c : C.Cell) (less : i < count) (is : c ≡ cell_in b p i) where
  row_is : ((file_of b).cell p i).row ≡ c.row
  row_is = ap (λ (c : Cell). c.row) (same t i c less is)

  pub child-is : c.child ≡ L.child_at (file_of b) p i
  child-is = sym (W.child-cell (file_of b) p i (index_in t i c less is) ∙ ap (λ (c : Cell). c.child) (same t i c less is))

  module _ (x : ℕ) where
    pub index-found : x ≤ c.row → (L.index_for (file_of b) x p i (count - i)) ≡ i
    index-found l =
        let e = row_is in
        ap (λ k. L.index_for (file_of b) x p i (k - i)) t.count_is ∙ W.index-here (file_of b) x p i (index_in t i c less is) (omega arith)

    pub index-passed : c.row < x → L.index_for (file_of b) x p i (count - i) ≡ L.index_for (file_of b) x p (i + 1) (count - (i + 1))
    index-passed l =
        let e = row_is in
        ap (λ k. L.index_for (file_of b) x p i (k - i)) t.count_is ∙ W.index_on (file_of b) x p i (index_in t i c less is) (omega arith)
        ∙ ap (λ k. L.index_for (file_of b) x p (i + 1) (k - (i + 1))) (sym t.count_is)

    pub leaf-passed : c.row < x → L.shown_from (file_of b) x (L.leaf_met p i (count - i)) ≡ L.shown_from (file_of b) x (L.leaf_met p (i + 1) (count - (i + 1)))
    leaf-passed l =
        let e = row_is in
        ap (λ k. L.shown_from (file_of b) x (L.leaf_met p i (k - i))) t.count_is ∙ W.leaf-on (file_of b) x p i (index_in t i c less is) (omega arith)
        ∙ ap (λ k. L.shown_from (file_of b) x (L.leaf_met p (i + 1) (k - (i + 1)))) (sym t.count_is)

    pub leaf-found : (s : L.Shown) (above : ℕ) → s ≡ L.shown_from (file_of b) x (L.leaf_met p i (count - i)) → x ≤ c.row
        → (r : St.Stepped) → r ≡ stepped (Sh.Row p i c.payload (row_of c.row)) (put_at (record { levels = above + 1; pages = zeros; cells = zeros }) above p i)
        → r ≡ answer_of (file_of b) blank above s
    unfolding pages_from indices_from
    leaf-found s above e l r k =
        let q = row_is in
        let n : ((file_of b).cell p i).length ≡ c.payload = ap (λ (c : Cell). c.length) (same t i c less is) in
        let z : above + 1 ≡ suc (above + 0) = omega arith in
        let y : s ≡ L.at (record { above = []; page = p; index = i }) =
        e ∙ ap (λ k. L.shown_from (file_of b) x (L.leaf_met p i (k - i))) t.count_is ∙ W.leaf-here (file_of b) x p i (index_in t i c less is) (omega arith) in
        k ∙ rw (y, n, q, z)

module _ {b : List ℕ} {h : Header} {p kind count : ℕ} (t : TreeAt b h p kind count) (i x : ℕ) (over : count ≤ i) where
  pub leaf-over : L.shown_from (file_of b) x (L.leaf_met p i (count - i)) ≡ L.end
  leaf-over = ap (λ k. L.shown_from (file_of b) x (L.leaf_met p i (k - i))) t.count_is ∙ W.leaf-end (file_of b) x p i (omega (arith, t.count_is))

  pub index-over : L.index_for (file_of b) x p i (count - i) ≡ i
  index-over = ap (λ k. L.index_for (file_of b) x p i (k - i)) t.count_is ∙ W.index-end (file_of b) x p i (omega (arith, t.count_is))

  pub child-over : L.child_at (file_of b) p i ≡ (file_of b).right p
  child-over = W.child-right (file_of b) p i (omega (arith, t.count_is))

-- ---- answers
module _ (f : File) (k : ℕ) where
  pub answer-end : (s : L.Shown) → s ≡ L.end → stepped Sh.End blank ≡ answer_of f blank k s
  answer-end s e = rw e

  pub answer-refused : (s : L.Shown) (n p : ℕ) → s ≡ L.refuses n p → stepped (Sh.Refused n p) blank ≡ answer_of f blank k s
  answer-refused s n p e = rw e

  pub is-end : (s : L.Shown) → shown_of f s ≡ Sh.End → s ≡ L.end
  is-end L.end e = refl
  is-end (L.at y) e = absurd (let z : ◌≡◌ {A = ℕ} 0 1 = cc in omega arith)
  is-end (L.refuses n p) e = absurd (let z : ◌≡◌ {A = ℕ} 0 1 = cc in omega arith)

-- a row that is shown
pub shown-is : {page cell length : ℕ} {row : ℤ} {c : Cu.Cursor} (s : Standing) → s.row ≡ record { page = page; cell = cell; length = length; number = row } → s.cursor ≡ c
    → told_row (Some s) ≡ stepped (Sh.Row page cell length row) c
shown-is s e f = rw (e, f) refl

-- ---- one answer after the other
module _ (f : File) (k : ℕ) (s rest : L.Shown) (r : St.Stepped) (e : r ≡ answer_of f blank k s) where
  shown_told : r.shown ≡ shown_of f s
  shown_told = ap (λ (r : St.Stepped). r.shown) e

  pub first_ends : r.shown ≡ Sh.End → W.or_next s rest ≡ rest
  first_ends z = let q : s ≡ L.end = is-end f k s (sym shown_told ∙ z) in rw q

  pub first-row : (x y n : ℕ) (z : ℤ) → r.shown ≡ Sh.Row x y n z → r ≡ answer_of f blank k (W.or_next s rest)
  first-row x y n z q = e ∙ ap (answer_of f blank k) (go s (sym shown_told ∙ q))
    where
      go : (s : L.Shown) → shown_of f s ≡ Sh.Row x y n z → s ≡ W.or_next s rest
      go L.end q = absurd (let z : ◌≡◌ {A = ℕ} 0 1 = cc in omega arith)
      go (L.at y) q = refl
      go (L.refuses n p) q = refl

  pub first-refuses : (n q : ℕ) → r.shown ≡ Sh.Refused n q → r ≡ answer_of f blank k (W.or_next s rest)
  first-refuses n q z = e ∙ ap (answer_of f blank k) (go s (sym shown_told ∙ z))
    where
      go : (s : L.Shown) → shown_of f s ≡ Sh.Refused n q → s ≡ W.or_next s rest
      go L.end q = absurd (let z : ◌≡◌ {A = ℕ} 0 1 = cc in omega arith)
      go (L.at y) q = refl
      go (L.refuses n p) q = refl

-- the answer from one level further down, with page p and index i put before its path
module _ (f : File) (k p i : ℕ) (s rest : L.Shown) (r : St.Stepped) (e : r ≡ answer_of f blank (suc k) s) where
  below-told : r.shown ≡ shown_of f s
  below-told = ap (λ (r : St.Stepped). r.shown) e

  pub below-ends : r.shown ≡ Sh.End → or_else p i s rest ≡ rest
  below-ends z = let q : s ≡ L.end = is-end f k s (sym below-told ∙ z) in rw q

  pub below-ended : r.shown ≡ Sh.End → r ≡ answer_of f blank k (or_else p i s L.end)
  below-ended z = let q : s ≡ L.end = is-end f k s (sym below-told ∙ z) in e ∙ rw q

  pub below-refuses : (n q : ℕ) → r.shown ≡ Sh.Refused n q → r ≡ answer_of f blank k (or_else p i s rest)
  below-refuses n q z = e ∙ go s (sym below-told ∙ z)
    where
      go : (s : L.Shown) → shown_of f s ≡ Sh.Refused n q → answer_of f blank (suc k) s ≡ answer_of f blank k (or_else p i s rest)
      go L.end q = absurd (let z : ◌≡◌ {A = ℕ} 0 1 = cc in omega arith)
      go (L.at y) q = absurd (let z : ◌≡◌ {A = ℕ} 0 1 = cc in omega arith)
      go (L.refuses n p) q = refl

  pub below_row : (x y n : ℕ) (z : ℤ) → r.shown ≡ Sh.Row x y n z → (c : Cu.Cursor) → c ≡ put_at r.cursor k p i
      → stepped r.shown c ≡ answer_of f blank k (or_else p i s rest)
  unfolding pages_from indices_from
  below_row x y n z q c c-is =
      ap (stepped r.shown) (c-is ∙ ap (λ (r : St.Stepped). put_at r.cursor k p i) e) ∙ ap (λ t. stepped t (put_at (stands_at blank (suc k) s) k p i)) below-told ∙ go s (sym below-told ∙ q)
    where
      go : (s : L.Shown) → shown_of f s ≡ Sh.Row x y n z → stepped (shown_of f s) (put_at (stands_at blank (suc k) s) k p i) ≡ answer_of f blank k (or_else p i s rest)
      go L.end q = absurd (let z : ◌≡◌ {A = ℕ} 0 1 = cc in omega arith)
      go (L.refuses n p) q = absurd (let z : ◌≡◌ {A = ℕ} 0 1 = cc in omega arith)
      go (L.at y) q =
          let m : suc (suc k + length y.above) ≡ suc (k + suc (length y.above)) = omega arith in
          rw m

-- ---- a child of an interior page
module _ {b : List ℕ} {h : Header} {p count : ℕ} (t : TreeAt b h p 5 count) (levels i least from target : ℕ) (is : target ≡ L.child_at (file_of b) p i) (few : levels < 20) where
  abbrev Child : St.Stepped → Type 0
  Child r = r ≡ answer_of (file_of b) blank (19 - levels) (L.shown_from (file_of b) least (L.child_met (file_of b) (L.listing_from (file_of b) from levels) p i))

  pub child-lost : in_range h.pages target ≡ false → Child (stepped (Sh.Refused 20 p) blank)
  child-lost out =
      let s = shape t.at.opened in
      answer-refused (file_of b) (19 - levels) _ 20 p
      (W.child-refused (file_of b) p i (L.listing_from (file_of b) from levels) least
      (λ l m. let k : in_range h.pages target ≡ true = range-in h.pages target (omega arith) (omega (arith, s.N-is)) in cc))

  module _ (z : in_range h.pages target ≡ true) (r : St.Stepped)
      (e : r ≡ answer_of (file_of b) blank (20 - levels) (L.shown_from (file_of b) least (L.listing_from (file_of b) from levels target))) where
    below : L.Shown
    below = L.shown_from (file_of b) least (L.listing_from (file_of b) from levels (L.child_at (file_of b) p i))

    met : L.shown_from (file_of b) least (L.child_met (file_of b) (L.listing_from (file_of b) from levels) p i) ≡ or_else p i below L.end
    unfolding below
    met =
        let s = shape t.at.opened in let w = in-range h.pages target z in
        W.child-shown (file_of b) p i (L.listing_from (file_of b) from levels) least (omega arith) (omega (arith, s.N-is))

    one_down : r ≡ answer_of (file_of b) blank (suc (19 - levels)) below
    unfolding below
    one_down =
        let k : 20 - levels ≡ suc (19 - levels) = omega arith in
        e ∙ ap (λ t. answer_of (file_of b) blank (20 - levels) (L.shown_from (file_of b) least (L.listing_from (file_of b) from levels t))) is
        ∙ ap (λ k. answer_of (file_of b) blank k (L.shown_from (file_of b) least (L.listing_from (file_of b) from levels (L.child_at (file_of b) p i)))) k

    pub child-ends : r.shown ≡ Sh.End → Child r
    child-ends q = below-ended (file_of b) (19 - levels) p i below L.end r one_down q ∙ ap (answer_of (file_of b) blank (19 - levels)) (sym met)

    pub child-refuses : (n q : ℕ) → r.shown ≡ Sh.Refused n q → Child r
    child-refuses n q w = below-refuses (file_of b) (19 - levels) p i below L.end r one_down n q w ∙ ap (answer_of (file_of b) blank (19 - levels)) (sym met)

    pub child-row : (x y n : ℕ) (v : ℤ) → r.shown ≡ Sh.Row x y n v → (c : Cu.Cursor) → c ≡ put_at r.cursor (19 - levels) p i → Child (stepped r.shown c)
    child-row x y n v w c c-is = below_row (file_of b) (19 - levels) p i below L.end r one_down x y n v w c c-is ∙ ap (answer_of (file_of b) blank (19 - levels)) (sym met)

-- ---- its children from index i on
module _ {b : List ℕ} {h : Header} {p count : ℕ} (t : TreeAt b h p 5 count) (levels i least : ℕ) where
  abbrev rest_from : ℕ → L.Shown
  rest_from i = L.shown_from (file_of b) least (L.inner_met (file_of b) (L.listing (file_of b) levels) p i (count + 1 - i))

  pub children-over : count < i → rest_from i ≡ L.end
  children-over l =
      ap (λ n. L.shown_from (file_of b) least (L.inner_met (file_of b) (L.listing (file_of b) levels) p i (n + 1 - i))) t.count_is
      ∙ ap (L.shown_from (file_of b) least) (W.inner-end (file_of b) p i (L.listing (file_of b) levels) (omega (arith, t.count_is))) ∙ W.shown-none (file_of b) least

  module _ (less : i ≤ count) (k : ℕ) (r : St.Stepped)
      (e : r ≡ answer_of (file_of b) blank k (L.shown_from (file_of b) least (L.child_met (file_of b) (L.listing_from (file_of b) 0 levels) p i))) where
    here : L.Shown
    here = L.shown_from (file_of b) least (L.child_met (file_of b) (L.listing_from (file_of b) 0 levels) p i)

    opened_up : rest_from i ≡ W.or_next here (rest_from (i + 1))
    unfolding here
    opened_up =
        ap (λ n. L.shown_from (file_of b) least (L.inner_met (file_of b) (L.listing (file_of b) levels) p i (n + 1 - i))) t.count_is
        ∙ ap (L.shown_from (file_of b) least) (W.inner-more (file_of b) p i (L.listing (file_of b) levels) (omega (arith, t.count_is)))
        ∙ W.shown-append (file_of b) least (L.child_met (file_of b) (L.listing (file_of b) levels) p i) (L.inner_met (file_of b) (L.listing (file_of b) levels) p (i + 1) ((file_of b).count p + 1 - (i + 1)))
        ∙ ap (λ m. W.or_next (L.shown_from (file_of b) least m) (L.shown_from (file_of b) least (L.inner_met (file_of b) (L.listing (file_of b) levels) p (i + 1) ((file_of b).count p + 1 - (i + 1)))))
        (W.child-same (file_of b) (L.listing (file_of b) levels) (L.listing_from (file_of b) 0 levels) p i (sym (W.from-0 (file_of b) levels (L.child_at (file_of b) p i))))
        ∙ ap (λ n. W.or_next (L.shown_from (file_of b) least (L.child_met (file_of b) (L.listing_from (file_of b) 0 levels) p i)) (L.shown_from (file_of b) least (L.inner_met (file_of b) (L.listing (file_of b) levels) p (i + 1) (n + 1 - (i + 1))))) (sym t.count_is)

    pub children-on : r.shown ≡ Sh.End → rest_from i ≡ rest_from (i + 1)
    unfolding here
    children-on z = opened_up ∙ first_ends (file_of b) k here (rest_from (i + 1)) r e z

    pub children-row : (x y n : ℕ) (z : ℤ) → r.shown ≡ Sh.Row x y n z → r ≡ answer_of (file_of b) blank k (rest_from i)
    unfolding here
    children-row x y n z q = first-row (file_of b) k here (rest_from (i + 1)) r e x y n z q ∙ ap (answer_of (file_of b) blank k) (sym opened_up)

    pub children-stop : (n q : ℕ) → r.shown ≡ Sh.Refused n q → r ≡ answer_of (file_of b) blank k (rest_from i)
    unfolding here
    children-stop n q z = first-refuses (file_of b) k here (rest_from (i + 1)) r e n q z ∙ ap (answer_of (file_of b) blank k) (sym opened_up)

-- ---- a page that is entered
module _ {b : List ℕ} {h : Header} {p : ℕ} (a : PageAt b h p) (levels least from : ℕ) where
  abbrev Entered : St.Stepped → Type 0
  Entered r = r ≡ answer_of (file_of b) blank (20 - levels) (L.shown_from (file_of b) least (L.listing_from (file_of b) from levels p))

  pub page-deep : levels ≡ 0 → Entered (stepped (Sh.Refused 24 p) blank)
  page-deep z =
      answer-refused (file_of b) (20 - levels) _ 24 p (ap (L.shown_from (file_of b) least) (W.from_deep (file_of b) from levels p z) ∙ W.shown-stop (file_of b) least 24 p)

  module _ (some : levels ≢ 0) where
    pub page-refused : (number : ℕ) → K.Refused number ≡ checked_of TablePage (page_in b p) h.usable (head_of p)
        → Entered (stepped (Sh.Refused number p) blank)
    page-refused number c =
        let w = refused-at TablePage a number c in
        let q : number ≡ fault_in (file_of b) table_page p = w.0 ∙ sym (fault-table b p) in
        answer-refused (file_of b) (20 - levels) _ number p
        (ap (L.shown_from (file_of b) least) (W.from-fault (file_of b) from levels p some (λ z. w.1 (q ∙ z)))
        ∙ W.shown-stop (file_of b) least (fault_in (file_of b) table_page p) p ∙ ap (λ n. L.refuses n p) (sym q))

    module _ {kind count right : ℕ} (w : Fit TablePage a kind count right) where
      fit : fault_in (file_of b) table_page p ≡ 0
      fit = fault-table b p ∙ w.none

      pub leaf-tree : kind ≡ 13 → TreeAt b h p 13 count
      leaf-tree k = record { at = w.tree.at; kind_is = sym k ∙ w.tree.kind_is; sound = w.tree.sound; count_is = w.tree.count_is }

      pub page-leaf : kind ≡ 13 → (r : St.Stepped) → r ≡ answer_of (file_of b) blank (20 - levels) (L.shown_from (file_of b) least (L.leaf_met p 0 (count - 0))) → Entered r
      page-leaf k r e =
          let z : count - 0 ≡ (file_of b).count p = (let c = w.tree.count_is in omega arith) in
          e ∙ ap (λ n. answer_of (file_of b) blank (20 - levels) (L.shown_from (file_of b) least (L.leaf_met p 0 n))) z
          ∙ ap (λ m. answer_of (file_of b) blank (20 - levels) (L.shown_from (file_of b) least m)) (sym (W.from-leaf (file_of b) from levels p some fit (leaf_type (file_of b) p kind w.tree.kind_is k)))

      module _ (k : kind ≢ 13) (i : ℕ) (is : i ≡ L.index_for (file_of b) from p 0 count) where
        one : L.Shown
        one = L.shown_from (file_of b) least (L.child_met (file_of b) (L.listing_from (file_of b) from (levels - 1)) p i)

        others : L.Shown
        others = L.shown_from (file_of b) least (L.inner_met (file_of b) (L.listing (file_of b) (levels - 1)) p (i + 1) (count + 1 - (i + 1)))

        parted : L.shown_from (file_of b) least (L.listing_from (file_of b) from levels p) ≡ W.or_next one others
        unfolding one others
        parted =
            let c = w.tree.count_is in
            ap (L.shown_from (file_of b) least)
            (W.from_inner (file_of b) from levels p some fit (inner_type (file_of b) p kind w.tree.kind_is (inner-kind a levels least some w k)) i (is ∙ ap (L.index_for (file_of b) from p 0) c))
            ∙ W.shown-append (file_of b) least (L.child_met (file_of b) (L.listing_from (file_of b) from (levels - 1)) p i)
            (L.inner_met (file_of b) (L.listing (file_of b) (levels - 1)) p (i + 1) ((file_of b).count p + 1 - (i + 1)))
            ∙ ap (λ n. W.or_next (L.shown_from (file_of b) least (L.child_met (file_of b) (L.listing_from (file_of b) from (levels - 1)) p i))
            (L.shown_from (file_of b) least (L.inner_met (file_of b) (L.listing (file_of b) (levels - 1)) p (i + 1) (n + 1 - (i + 1))))) (sym c)

        module _ (s : St.Stepped)
            (e : s ≡ answer_of (file_of b) blank (19 - (levels - 1)) (L.shown_from (file_of b) least (L.child_met (file_of b) (L.listing_from (file_of b) from (levels - 1)) p i))) where
          level : 19 - (levels - 1) ≡ 20 - levels
          level = omega arith

          to : (r : St.Stepped) → r ≡ answer_of (file_of b) blank (19 - (levels - 1)) (W.or_next one others) → Entered r
          to r q = q ∙ ap (λ k. answer_of (file_of b) blank k (W.or_next one others)) level ∙ ap (answer_of (file_of b) blank (20 - levels)) (sym parted)

          pub page-next : s.shown ≡ Sh.End → (r : St.Stepped)
              → r ≡ answer_of (file_of b) blank (19 - (levels - 1)) (L.shown_from (file_of b) least (L.inner_met (file_of b) (L.listing (file_of b) (levels - 1)) p (i + 1) (count + 1 - (i + 1)))) → Entered r
          unfolding one others
          page-next z r q = to r (q ∙ ap (answer_of (file_of b) blank (19 - (levels - 1))) (sym (first_ends (file_of b) (19 - (levels - 1)) one others s e z)))

          pub page-row : (x y n : ℕ) (z : ℤ) → s.shown ≡ Sh.Row x y n z → Entered s
          unfolding one
          page-row x y n z q = to s (first-row (file_of b) (19 - (levels - 1)) one others s e x y n z q)

          pub page-stop : (n q : ℕ) → s.shown ≡ Sh.Refused n q → Entered s
          unfolding one
          page-stop n q z = to s (first-refuses (file_of b) (19 - (levels - 1)) one others s e n q z)

-- ---- the header's refusals, and the root
pub header-stops : (b : List ℕ) (rule : Rule) → HT.told (Err rule) ≡ header_in b → (s : L.Shown) → opened b s ≡ L.refuses (number_of rule) 0
header-stops b rule e s = rw (told-stops b rule e, told-number b rule e)

pub header-passes : {b : List ℕ} {h : Header} → Opened b h → (s : L.Shown) → opened b s ≡ s
header-passes {b} {h} o s = rw (eq-eqb (header_refusal b) 0 o.passes)

-- the refusal keeps the cursor that there was
pub keeps : (f : File) (kept : Cu.Cursor) (k : ℕ) (s : L.Shown) (r : Result (Option Standing) Refusal) → told blank r ≡ answer_of f blank k s → told kept r ≡ answer_of f kept k s
keeps f kept k L.end (Ok None) e = e
keeps f kept k (L.at y) (Ok None) e = absurd (let w = ap (λ (r : St.Stepped). r.shown) e in let z : ◌≡◌ {A = ℕ} 0 1 = cc in omega arith)
keeps f kept k (L.refuses n p) (Ok None) e = absurd (let w = ap (λ (r : St.Stepped). r.shown) e in let z : ◌≡◌ {A = ℕ} 0 1 = cc in omega arith)
keeps f kept k L.end (Ok (Some x)) e = absurd (let w = ap (λ (r : St.Stepped). r.shown) e in let z : ◌≡◌ {A = ℕ} 0 1 = cc in omega arith)
keeps f kept k (L.at y) (Ok (Some x)) e = e
keeps f kept k (L.refuses n p) (Ok (Some x)) e = absurd (let w = ap (λ (r : St.Stepped). r.shown) e in let z : ◌≡◌ {A = ℕ} 0 1 = cc in omega arith)
keeps f kept k L.end (Err x) e = absurd (let w = ap (λ (r : St.Stepped). r.shown) e in let z : ◌≡◌ {A = ℕ} 0 1 = cc in omega arith)
keeps f kept k (L.at y) (Err x) e = absurd (let w = ap (λ (r : St.Stepped). r.shown) e in let z : ◌≡◌ {A = ℕ} 0 1 = cc in omega arith)
keeps f kept k (L.refuses n p) (Err x) e = ap (λ (r : St.Stepped). stepped r.shown kept) e

outside : (b : List ℕ) (root : ℕ) → in_range (pages_of b) root ≡ false → 1 ≤ root → root ≤ (file_of b).N → ⊥
unfolding file_of
outside b root z l m = let k : in_range (pages_of b) root ≡ true = range-in (pages_of b) root l m in cc

module _ (b : List ℕ) (root : ℕ) (rule : Rule) (e : number_of rule ≡ opening_refusal b root 20) where
  pub first-refused : stepped (Sh.Refused (number_of rule) 0) blank ≡ first_of b root
  unfolding first_of
  first-refused =
      opening-lost b root 20 rule e (λ n. stepped (Sh.Refused n 0) blank ≡ first_of b root) (λ y. rw y) (λ y z. rw (y, W.first-outside (file_of b) root (outside b root z)))

  pub seek-refused : (row : ℤ) → stepped (Sh.Refused (number_of rule) 0) blank ≡ seek_of b root row
  unfolding seek_of
  seek-refused row =
      opening-lost b root 20 rule e (λ n. stepped (Sh.Refused n 0) blank ≡ seek_of b root row) (λ y. rw y) (λ y z. rw (y, W.seek-outside (file_of b) root (bias_of row) (outside b root z)))

module _ {b : List ℕ} {h : Header} {root : ℕ} (a : PageAt b h root) (r : St.Stepped) where
  pub first-down : r ≡ answer_of (file_of b) blank 0 (L.shown_from (file_of b) 0 (L.listing_from (file_of b) 0 level_limit root)) → r ≡ first_of b root
  unfolding first_of
  first-down q =
      let s = shape a.opened in
      q ∙ ap (answer_of (file_of b) blank 0) (sym (header-passes a.opened (L.first (file_of b) root) ∙ W.first-inside (file_of b) root a.low (omega (arith, s.N-is, a.high))))

  pub seek-down : (row : ℤ) (x : ℕ) → x ≡ bias_of row → r ≡ answer_of (file_of b) blank 0 (L.shown_from (file_of b) x (L.listing_from (file_of b) x level_limit root)) → r ≡ seek_of b root row
  unfolding seek_of
  seek-down row x e q =
      let s = shape a.opened in
      q ∙ ap (λ x. answer_of (file_of b) blank 0 (L.shown_from (file_of b) x (L.listing_from (file_of b) x level_limit root))) e
      ∙ ap (answer_of (file_of b) blank 0) (sym (header-passes a.opened (L.seek (file_of b) root (bias_of row)) ∙ W.seek-inside (file_of b) root (bias_of row) a.low (omega (arith, s.N-is, a.high))))
