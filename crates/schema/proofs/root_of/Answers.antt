use mathlib.Core.Path.{◌∙◌, ap}
use lib.IntN.{ℤ}
use mir.Syntax.{w64}
use mir.ValLaws.{to_z-of_z}
use Rattle.dealing.specs.File.{integer}
use Rattle.schema.specs.Row.{row_is}
use Rattle.schema.proofs.RowLaws.{root_none, root-one, root-far, root_names, root-wide}
use Rattle.schema.proofs.root_of.Goals as goal

pub returns-in-Ok-eq0 : goal.returns-in-Ok-eq0
returns-in-Ok-eq0 c =
    let x = c.in-Ok-eq0 in
    root_none c.args.n x.field-0 _ x.ensures.0 x.ensures.1 x.field-0-test
    ∙ ap (λ (z : ℤ). row_is c.args.n (integer z)) (to_z-of_z w64 c.args.page c.ranges.page)

pub returns-in-Ok : goal.returns-in-Ok
returns-in-Ok c =
    let x = c.in-Ok in
    root_names c.args.n x.root _ x.ensures.0 x.ensures.1 c.if-root-ge2.true c.if-root-n.true
    ∙ ap (λ (z : ℤ). row_is c.args.n (integer z)) (to_z-of_z w64 c.args.page c.ranges.page)

pub returns-in_default : goal.returns-in_default
returns-in_default c =
    let x = c.in-Ok in
    root-far c.args.n x.root _ x.ensures.0 x.ensures.1 c.if-root-ge2.true c.if-root-n.false
    ∙ ap (λ (z : ℤ). row_is c.args.n (integer z)) (to_z-of_z w64 c.args.page c.ranges.page)

pub returns-in_default-2 : goal.returns-in_default-2
returns-in_default-2 c =
    let x = c.in-Ok in
    root-one c.args.n x.root _ x.ensures.0 x.ensures.1 x.root-test.1 c.if-root-ge2.false
    ∙ ap (λ (z : ℤ). row_is c.args.n (integer z)) (to_z-of_z w64 c.args.page c.ranges.page)

pub returns-in_default-3 : goal.returns-in_default-3
returns-in_default-3 c =
    root-wide c.args.n c.requires _ (rw c.in_default.is at c.try_from.ensures)
    ∙ ap (λ (z : ℤ). row_is c.args.n (integer z)) (to_z-of_z w64 c.args.page c.ranges.page)
