use mathlib.Core.Path.{refl, sym, ap, ◌∙◌}
use native.Mathlib.Omega.{arith}
use Rattle.page.specs.Header.{page_type, cell_of}
use Rattle.image.specs.Pages.{page_in, head_of, cell_in}
use Rattle.image.proofs.Shape.{shape, at-within}
use Rattle.image.proofs.Fields.{type-field}
use Rattle.image.proofs.Tree.{page_is, pointer-inside}
use Rattle.image.proofs.tree_cell.Goals as goal

pub page_of-page-requires : goal.page_of-page-requires
page_of-page-requires c = at-within c.requires.0

pub cell_of-requires : goal.cell_of-requires
cell_of-requires c =
    let a = c.args in
    let b = a.image.now in
    let s = shape c.requires.0.opened in
    let q = c.page_of-page.result.now in
    let e = page_is _ _ c.requires.0.opened c.page_of-page.ensures.0 in
    let g = c.head_of.ensures in
    let l = c.page_of-page.ensures.1 in (
      omega arith,
      omega arith,
      omega arith,
      omega arith,
      c.requires.1 ∙ type-field _ _ ∙ sym (ap (λ x. page_type x (head_of a.p)) e) ∙ sym (ap (page_type q) g.0),
      pointer-inside c.requires.0 c.requires.2 _ _ _ _ e refl g.0 c.requires.3,
    )

pub returns : goal.returns
unfolding cell_in
returns c =
    let a = c.args in
    let b = a.image.now in
    let s = shape c.requires.0.opened in
    let e = page_is _ _ c.requires.0.opened c.page_of-page.ensures.0 in
    let g = c.head_of.ensures in
    c.cell_of.ensures
    ∙ ap (λ x. cell_of x a.h.usable c.head_of.result a.i) e
    ∙ ap (λ x. cell_of (page_in b a.p) a.h.usable x a.i) g.0
    ∙ ap (λ x. cell_of (page_in b a.p) x (head_of a.p) a.i) s.usable_is
