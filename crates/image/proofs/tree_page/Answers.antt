use mathlib.Core.Path.{ap, ◌∙◌}
use native.Mathlib.Omega.{arith}
use Rattle.page.specs.Fault.{checked_of}
use Rattle.image.specs.Pages.{page_in}
use Rattle.image.proofs.Shape.{shape, at-within}
use Rattle.image.proofs.Tree.{page_is}
use Rattle.image.proofs.tree_page.Goals as goal

pub page_of-page-requires : goal.page_of-page-requires
page_of-page-requires c = at-within c.requires.0

pub check_page-requires : goal.check_page-requires
check_page-requires c =
    let s = shape c.requires.0.opened in
    let q = c.page_of-page.ensures.1 in
    let g = c.head_of.ensures.1 in
    let l = c.requires.1 in
    (omega arith, omega arith, omega arith, omega arith, omega arith)

pub returns : goal.returns
returns c =
    let a = c.args in
    let b = a.image.now in
    let s = shape c.requires.0.opened in
    let q = c.page_of-page.result.now in
    let e = page_is a.p q c.requires.0.opened c.page_of-page.ensures.0 in
    let g = c.head_of.ensures in
    c.check_page.ensures.0
    ∙ ap (λ x. checked_of a.place x a.h.usable c.head_of.result) e
    ∙ ap (checked_of a.place (page_in b a.p) a.h.usable) g.0
