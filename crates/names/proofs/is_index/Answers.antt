use mathlib.Core.Path.{sym, ap, ◌∙◌}
use mathlib.Core.Logic.{inl, inr}
use native.Mathlib.Omega.{arith}
use borrow.Author.Rules.{rules}
use Rattle.dealing.specs.File.{index_type}
use Rattle.image.proofs.Shape.{shape, at-within}
use Rattle.names.proofs.Laws.{type-is, index-other}
use Rattle.names.proofs.is_index.Goals as goal

pub page_of-page-requires : goal.page_of-page-requires
page_of-page-requires c = at-within c.requires

pub bounds-page-head_of : goal.bounds-page-head_of
bounds-page-head_of c = omega (arith, c.page_of-page.ensures.1, c.head_of.ensures.1, (shape c.requires.opened).least)

pub returns-in-2 : goal.returns-in-2
returns-in-2 c =
    let e = type-is c.args.r c.page_of-page.result.now c.head_of.result c.requires.opened c.page_of-page.ensures.0 c.head_of.ensures.0 in
    elim c.in-2.is [
      | inl k ↦ ap index_type (sym k ∙ e)
      | inr k ↦ ap index_type (sym k ∙ e)
    ]

pub returns-in_default : goal.returns-in_default
returns-in_default c =
    let e = type-is c.args.r c.page_of-page.result.now c.head_of.result c.requires.opened c.page_of-page.ensures.0 c.head_of.ensures.0 in
    index-other _ _ e (search rules) (search rules)
