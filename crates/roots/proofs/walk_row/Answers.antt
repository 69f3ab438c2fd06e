use Rattle.std.proofs.Common.{Ok}
use mathlib.Core.Path.{◌≡◌, sym, ap, ◌∙◌}
use mathlib.Core.Bool.{true}
use Prim.Native.Nat.{ℕ}
use Rattle.dealing.specs.Walk.{fit}
use Rattle.image.specs.Image.{file_of}
use Rattle.image.proofs.Shape.{shape}
use Rattle.schema.specs.Row.{row_is}
use Rattle.roots.proofs.RootLaws.{row-fetchable, row-column4, names-nothing, never-unfit, names-root, row-none-run, row-root-run}
use Rattle.roots.proofs.walk_row.Goals as goal
use Rattle.roots.proofs.walk_row.Goals.{After-row_at}

fits : (c : After-row_at) → let a = c.args in let f = file_of a.image.now in fit f.N (f.column4 a.p a.i) ≡ true
fits c = c.requires.1.fits _ c.requires.2

row : (c : After-row_at) → let a = c.args in let f = file_of a.image.now in c.row_at.result ≡ row_is f.N (f.column4 a.p a.i)
row c =
    let a = c.args in let f = file_of a.image.now in
    c.row_at.ensures
    ∙ ap (row_is a.h.pages) (row-column4 a.image.now a.p a.i c.tree_cell-c.result c.tree_cell-c.ensures)
    ∙ ap (λ (n : ℕ). row_is n (f.column4 a.p a.i)) (sym (shape c.requires.0.at.opened).N-is)

pub row_at-requires : goal.row_at-requires
row_at-requires c = let P = c.requires in row-fetchable _ _ _ _ _ _ P.0 P.1 P.2 c.tree_cell-c.ensures

pub returns-in-Err : goal.returns-in-Err
returns-in-Err c =
    let w = (goal.at.returns-in-Err c).After-row_at in
    absurd (never-unfit _ _ (fits w) _ (row w) _ c.in-Err.is)

pub returns-in-Ok-None : goal.returns-in-Ok-None
returns-in-Ok-None c =
    let w = (goal.at.returns-in-Ok-None c).After-row_at in
    (row-none-run _ _ _ _ _ (names-nothing _ _ (fits w) _ (row w) (c.in-Ok-None.is ∙ ap Ok c.in-Ok-None.field-0-is)), c.requires.5)

pub returns-in-Ok-Some : goal.returns-in-Ok-Some
returns-in-Ok-Some c =
    let w = (goal.at.returns-in-Ok-Some c).After-row_at in (
      row-root-run _ _ _ _ _ c.in-Ok-Some.root _ (names-root _ _ (fits w) _ c.in-Ok-Some.root (row w) (c.in-Ok-Some.is ∙ ap Ok c.in-Ok-Some.field-0-is)) (c.walk_tree.ensures.0 c.args.t),
      c.walk_tree.ensures.1,
    )
