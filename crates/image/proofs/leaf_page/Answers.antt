use mathlib.Core.Path.{subst}
use native.Mathlib.Omega.{arith}
use Rattle.std.proofs.lemmas.Option.{IfSome_then}
use Rattle.leaf_pass.specs.Calm.{Calm}
use Rattle.image.specs.Pages.{page_in}
use Rattle.image.proofs.Shape.{shape, at-within}
use Rattle.image.proofs.Tree.{page_is}
use Rattle.image.proofs.leaf_page.Goals as goal

pub page_of-page-requires : goal.page_of-page-requires
page_of-page-requires c = at-within c.requires.0

pub check_leaf-requires : goal.check_leaf-requires
check_leaf-requires c =
    let s = shape c.requires.0.opened in
    let q = c.page_of-page.ensures.1 in
    let g = c.head_of.ensures.1 in
    let l = c.requires.1 in
    (omega arith, omega arith, omega arith, omega arith, omega arith)

pub returns : goal.returns
returns c =
    let a = c.args in
    let page = c.page_of-page in
    let head = c.head_of in
    let found = c.check_leaf in
    let e = page_is a.p page.result.now c.requires.0.opened page.ensures.0 in
    IfSome_then found.result found.ensures.calm
    (λ leaf calm. subst (λ x. Calm a.place (page_in a.image.now a.p) a.h.usable x a.least leaf) head.ensures.0
    (subst (λ x. Calm a.place x a.h.usable head.result a.least leaf) e calm))
