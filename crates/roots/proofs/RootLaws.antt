-- A schema row and the root it names; rows and children of the schema tree, one after the other.
use Prim.Native.Nat.{ℕ, suc, ◌+◌, ◌-◌, ◌<◌, ◌≤◌}
use mathlib.Core.Path.{◌≡◌, refl, sym, ap, ◌∙◌}
use mathlib.Core.Bool.{Bool, true, false, cond}
use mathlib.Core.List.{List, [], ◌∷◌, ◌++◌, append-nil}
use native.Mathlib.Omega.{arith}
use Rattle.header.specs.declared.Header.{Header}
use Rattle.cell.specs.declared.Cell.{Cell}
use Rattle.dealing.specs.File.{File, Page, Place, Column4, is_leaf, is_table, child_place, suits, leaf_type, table_type}
use Rattle.dealing.specs.Walk.{schema_tree, plain_tree, is_named, mode_for, Named, nothing, root, fit, named_by, root_at, leaf_roots, tree_events, root_events, State, Outcome, went, refused, run, fault_in}
use Rattle.dealing.proofs.RunLaws.{run_none, then-went, then-refused}
use Rattle.dealing.proofs.WalkLaws.{rest_of, rest_more, roots-append}
use Rattle.dealing.proofs.Passed.{Passed, passed-some, passed-fault, passed-chain, passed-fit, passed-child, passed-right}
use Rattle.image.specs.Image.{file_of}
use Rattle.image.specs.Schema.{column4_of}
use Rattle.image.specs.Pages.{cell_in}
use Rattle.image.specs.Payload.{cell_bytes, payload_of}
use Rattle.image.specs.Ready.{Opened, PageAt}
use Rattle.image.proofs.Shape.{shape}
use Rattle.image.proofs.Tree.{cell-reads}
use Rattle.payload.specs.Copy.{Fetchable}
use Rattle.schema.specs.Row.{row_is, row_named}
use Rattle.std.proofs.Common.{Option, Some, None, Result, Ok, Err}
use Rattle.refusal.specs.declared.Rule.{Rule}
use Rattle.tree.specs.Spots.{spot_of, mode_of, Tests, SoundAt, room_for}
use Rattle.tree.specs.declared.Mode as M
use Rattle.tree.specs.declared.Spot as S
use Rattle.tree.specs.Found as F
use Rattle.roots.specs.Again.{Walked, RowsAt, room_of}

-- scratch is enough for a page's marks, and for two payloads in a tree that is walked in order
module _ {b : List ℕ} {h : Header} (o : Opened b h) where
  few : h.usable ≤ 65536
  few = let s = shape o in omega (arith, s.inside, s.most)

  pub scratch-marks : (ordered : List ℕ) (n : ℕ) → room_of h ordered ≤ n → h.usable ≤ n
  unfolding room_of
  scratch-marks [] n l = l
  scratch-marks (x ∷ xs) n l = omega (arith, few)

  at_most : (m : M.Mode) → room_for h m ≤ 131072
  unfolding room_for
  at_most M.TheVariants.Schema = omega (arith, few)
  at_most M.TheVariants.Plain = omega (arith, few)
  at_most M.TheVariants.Ordered = omega arith

  plain-only : (m : M.Mode) → mode_of m ≡ plain_tree → room_for h m ≤ h.usable
  unfolding room_for
  plain-only M.TheVariants.Schema e = omega arith
  plain-only M.TheVariants.Plain e = omega arith
  plain-only M.TheVariants.Ordered e = absurd (let z : ◌≡◌ {A = ℕ} 0 1 = cc in omega arith)

  pub scratch-for : (m : M.Mode) (ordered : List ℕ) (r n : ℕ) → mode_of m ≡ mode_for ordered r → room_of h ordered ≤ n → room_for h m ≤ n
  unfolding room_of is_named
  scratch-for m [] r n e l = let x = plain-only m e in omega arith
  scratch-for m (y ∷ ys) r n e l = let x = at_most m in omega arith

-- the row of a cell can be fetched
pub row-fetchable : (b : List ℕ) (h : Header) (p kind i : ℕ) (c : Cell) → SoundAt b h p kind → RowsAt (file_of b) p → i < (file_of b).count p → c ≡ cell_in b p i
    → Fetchable b h p c 65536
unfolding file_of
row-fetchable b h p kind i c s r l e =
    let w = cell-reads s.at s.sound i l in
    let u = shape s.at.opened in
    let v = u.usable_is in
    rw e
    (record {
      at = s.at;
      split = w.part;
      within = let a = w.ends in let z = w.within in omega arith;
      chain = r.chain i l;
      fits = let z = w.limit in omega arith;
    })

-- the record that is read is that of the cell
pub row-column4 : (b : List ℕ) (p i : ℕ) (c : Cell) → c ≡ cell_in b p i → column4_of (cell_bytes b p c) ≡ (file_of b).column4 p i
unfolding file_of payload_of
row-column4 b p i c e = rw e refl

-- what a fit row names
module _ (N : ℕ) (v : Column4) (fits : fit N v ≡ true) where
  named : (r : Result (Option ℕ) Rule) → r ≡ row_is N v → r ≡ Ok (row_named (named_by v))
  unfolding row_is
  named r e = e ∙ rw fits refl

  row-nothing : (n : Named) → ◌≡◌ {A = Result (Option ℕ) Rule} (Ok None) (Ok (row_named n)) → n ≡ nothing
  row-nothing nothing e = refl
  row-nothing (root x) e = absurd (let z : ◌≡◌ {A = ℕ} 0 1 = cc in omega arith)

  row-root : (x : ℕ) (n : Named) → ◌≡◌ {A = Result (Option ℕ) Rule} (Ok (Some x)) (Ok (row_named n)) → n ≡ root x
  row-root x nothing e = absurd (let z : ◌≡◌ {A = ℕ} 0 1 = cc in omega arith)
  row-root x (root y) e = cc

  pub names-nothing : (r : Result (Option ℕ) Rule) → r ≡ row_is N v → r ≡ Ok None → named_by v ≡ nothing
  names-nothing r e f = row-nothing (named_by v) (sym f ∙ named r e)

  pub never-unfit : (r : Result (Option ℕ) Rule) → r ≡ row_is N v → (rule : Rule) → r ≡ Err rule → ⊥
  never-unfit r e rule f = let w = named r e in let z : ◌≡◌ {A = ℕ} 0 1 = cc in omega arith

  pub names-root : (r : Result (Option ℕ) Rule) (x : ℕ) → r ≡ row_is N v → r ≡ Ok (Some x) → named_by v ≡ root x
  names-root r x e f = row-root x (named_by v) (sym f ∙ named r e)

-- the events of one row
module _ (ordered : List ℕ) (f : File) (p : ℕ) (s : State) (n : Named) where
  pub row-none-run : n ≡ nothing → run f.N s (root_events ordered f (root_at p n)) ≡ went s
  unfolding root_events
  row-none-run e = rw e (run_none f.N s)

  pub row-root-run : (x : ℕ) (o : Outcome) → n ≡ root x → run f.N s (tree_events ordered f p x) ≡ o → run f.N s (root_events ordered f (root_at p n)) ≡ o
  unfolding root_events
  row-root-run x o e r = rw e (ap (run f.N s) (append-nil (tree_events ordered f p x)) ∙ r)

-- a leaf's rows: one more row, from what one row gives
module _ (ordered : List ℕ) (f : File) (p i : ℕ) (s : State) (h : i < f.count p) where
  rows_next : root_events ordered f (leaf_roots f p i (rest_of f p i)) ≡ root_events ordered f (root_at p (named_by (f.column4 p i))) ++ root_events ordered f (leaf_roots f p (i + 1) (rest_of f p (i + 1)))
  unfolding leaf_roots
  rows_next =
      let e : suc i ≡ i + 1 = omega arith in
      rw (rest_more f p i h, e) (roots-append ordered f (root_at p (named_by (f.column4 p i))) (leaf_roots f p (i + 1) (rest_of f p (i + 1))))

  pub row-stops : (x q : ℕ) → run f.N s (root_events ordered f (root_at p (named_by (f.column4 p i)))) ≡ refused x q → run f.N s (root_events ordered f (leaf_roots f p i (rest_of f p i))) ≡ refused x q
  row-stops x q e = ap (run f.N s) rows_next ∙ then-refused f.N s x q (root_events ordered f (root_at p (named_by (f.column4 p i)))) _ e

  pub row_goes : (s' : State) → run f.N s (root_events ordered f (root_at p (named_by (f.column4 p i)))) ≡ went s'
      → run f.N s (root_events ordered f (leaf_roots f p i (rest_of f p i))) ≡ run f.N s' (root_events ordered f (leaf_roots f p (i + 1) (rest_of f p (i + 1))))
  row_goes s' e = ap (run f.N s) rows_next ∙ then-went f.N s s' (root_events ordered f (root_at p (named_by (f.column4 p i)))) _ e

-- a page that was walked through, and is read again
module _ {b : List ℕ} {h : Header} {levels : ℕ} {place : Place} {p : ℕ} (at : PageAt b h p) (w : Walked (file_of b) levels place p)
    {r : F.Found} (t : Tests (file_of b) place p r) where
  abbrev f : File
  f = file_of b

  passed : Passed f schema_tree levels place p
  passed = (w.before, w.after, w.goes)

  pub some-levels : levels ≡ 0 → ⊥
  some-levels = passed-some f schema_tree levels place p passed

  pub no-fault : r.fault ≡ 0
  no-fault = t.fault_is ∙ passed-fault f schema_tree levels place p passed

  sound : (o : Bool) (broken : ℕ) → cond o broken 22 ≡ 0 → broken ≡ 0
  sound true n e = e
  sound false n e = absurd (omega arith)

  pub sound-again : SoundAt b h p r.kind
  unfolding fault_in
  sound-again = record { at = at; kind_is = t.kind_is no-fault; sound = sound (suits place (f.type p)) (f.broken p) (passed-fault f schema_tree levels place p passed) }

  pub cells-again : r.cells ≡ f.count p
  cells-again = t.cells_is no-fault

  pub right-again : r.right ≡ f.right p
  right-again = t.right_is no-fault

  pub leaf-again : leaf_type r.kind ≡ is_leaf f p
  unfolding is_leaf
  leaf-again = ap leaf_type (t.kind_is no-fault)

  pub rows-again : is_leaf f p ≡ true → RowsAt f p
  rows-again l =
      record {
        chain = λ i k. passed-chain f schema_tree levels place p passed l i k;
        fits = λ i k. passed-fit f schema_tree levels place p passed l refl i k;
      }

  page-of : (q : ℕ) → Page f q → PageAt b h q
  page-of q g = let n = (shape at.opened).N-is in record { opened = at.opened; low = g.0; high = omega (arith, g.1) }

  place-again : (o : S.Spot) → spot_of o ≡ child_place (table_type r.kind) → spot_of o ≡ child_place (is_table f p)
  unfolding is_table
  place-again o e = e ∙ ap (λ (k : ℕ). child_place (table_type k)) (t.kind_is no-fault)

  below : (o : S.Spot) (q : ℕ) → spot_of o ≡ child_place (table_type r.kind) → Page f q × Passed f schema_tree (levels - 1) (child_place (is_table f p)) q
      → PageAt b h q × Walked f (levels - 1) (spot_of o) q
  below o q e g = (page-of q g.0, record { before = g.1.0; after = g.1.1; goes = rw (place-again o e) g.1.2 })

  pub child-again : (o : S.Spot) (i q : ℕ) → spot_of o ≡ child_place (table_type r.kind) → is_leaf f p ≡ false → i < f.count p → q ≡ (f.cell p i).child
      → PageAt b h q × Walked f (levels - 1) (spot_of o) q
  child-again o i q e l k c = rw c (below o (f.cell p i).child e (passed-child f schema_tree levels place p passed l i k))

  pub last-again : (o : S.Spot) (q : ℕ) → spot_of o ≡ child_place (table_type r.kind) → is_leaf f p ≡ false → q ≡ f.right p
      → PageAt b h q × Walked f (levels - 1) (spot_of o) q
  last-again o q e l c = rw c (below o (f.right p) e (passed-right f schema_tree levels place p passed l))

-- the child of a cell that was read
pub cell-child : (b : List ℕ) (p i : ℕ) (c : Cell) → c ≡ cell_in b p i → c.child ≡ ((file_of b).cell p i).child
unfolding file_of
cell-child b p i c e = ap (λ (x : Cell). x.child) e
