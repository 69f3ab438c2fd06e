use Rattle.std.proofs.lemmas.Result.{err_from_is_err_and}
use Prim.Native.Nat.{ℕ, ◌<◌}
use mathlib.Core.Path.{◌≡◌, sym, ap, ◌∙◌}
use mathlib.Core.Bool.{Bool, false}
use mathlib.Core.List.{List}
use native.Mathlib.Omega.{arith}
use Rattle.header.specs.declared.Header.{Header}
use Rattle.dealing.specs.File.{is_table, table_type}
use Rattle.dealing.specs.Walk.{is_ordered, entry_of, run}
use Rattle.dealing.proofs.RunLaws.{run_none}
use Rattle.image.specs.Image.{file_of}
use Rattle.ledger.specs.Ledger.{state_of}
use Rattle.tree.specs.Spots.{mode_of, SoundAt}
use Rattle.tree.proofs.Turns.{after-right, after_table, after-stops, after-goes}
use Rattle.tree.proofs.Cells.{table_is, cell-at, cell_is, cell-payload, cell-walked}
use Rattle.tree.proofs.after_child.Goals as goal

-- the turn is a cell's
module _ {b : List ℕ} {h : Header} {p kind cells i : ℕ} (l : i < cells) (g : SoundAt b h p kind × (cells ≡ (file_of b).count p)) where
  inside : i < (file_of b).count p
  inside = omega (arith, g.1)

  table : (t : Bool) → t ≡ table_type kind → is_table (file_of b) p ≡ t
  table t e = sym (table_is _ _ _ g.0.kind_is) ∙ sym e

pub returns-then-cells-i : goal.returns-then-cells-i
returns-then-cells-i c =
    let a = c.args in let f = file_of a.image.now in
    ap (run f.N (state_of a.image.now a.kinds.now a.namers.now a.t)) (after-right f _ _ _ _ (omega arith)) ∙ run_none f.N _

pub returns-then-is_table : goal.returns-then-is_table
returns-then-is_table c =
    let a = c.args in let b = a.image.now in let f = file_of b in let l : a.i < a.cells = omega arith in
    ap (run f.N (state_of b a.kinds.now a.namers.now a.t)) (after_table f _ _ _ _ _ l (table l (c.requires.0 l) _ c.if-is_table.ensures) c.key_at-key.ensures)
    ∙ c.take_key.ensures f.N b a.kinds.now a.namers.now

pub walk_payload-requires : goal.walk_payload-requires
walk_payload-requires c =
    let l : c.args.i < c.args.cells = omega arith in let g = c.requires.0 l in
    (cell-at g.0 (inside l g) c.tree_cell-c.ensures, c.requires.1)

pub inner_last-requires : goal.inner_last-requires
inner_last-requires c =
    let a = c.args in let b = a.image.now in let f = file_of b in let l : a.i < a.cells = omega arith in let g = c.requires.0 l in
    let v = cell-walked g.0 (inside l g) c.tree_cell-c.ensures _ _
    (ap (run f.N (state_of b a.kinds.now a.namers.now a.t)) (cell-payload g.0 (inside l g) c.tree_cell-c.ensures) ∙ c.in_ok-walk_payload.ensures _ _) in
    (v.0, v.1, omega (arith, c.requires.2))

pub returns-in_err-walk_payload : goal.returns-in_err-walk_payload
returns-in_err-walk_payload c =
    let a = c.args in let b = a.image.now in let f = file_of b in let l : a.i < a.cells = omega arith in let g = c.requires.0 l in
    let q = err_from_is_err_and c.from_residual.result c.from_residual.ensures.1 in
    rw (q.1, q.2) (after-stops _ _ _ _ _ l (table l g _ c.if-is_table.ensures) _ _ _
    (ap (run f.N (state_of b a.kinds.now a.namers.now a.t)) (cell-payload g.0 (inside l g) c.tree_cell-c.ensures) ∙ c.in_err-walk_payload.ensures _ _))

pub returns : goal.returns
returns c =
    let a = c.args in let b = a.image.now in let f = file_of b in let l : a.i < a.cells = omega arith in let g = c.requires.0 l in
    let w = c.walk_payload.new in
    after-goes _ _ _ _ _ l (table l g _ c.if-is_table.ensures) _ _
    (ap (run f.N (state_of b a.kinds.now a.namers.now a.t)) (cell-payload g.0 (inside l g) c.tree_cell-c.ensures) ∙ c.in_ok-walk_payload.ensures _ _)
    ∙ ap (λ x. run f.N (state_of b w.kinds w.namers a.t) (entry_of (is_ordered (mode_of a.mode)) false a.p x)) (cell_is g.0 (inside l g) c.tree_cell-c.ensures)
    ∙ c.inner_last.ensures _ _
