use native.Mathlib.Omega.{arith}
use Rattle.image.proofs.Shape.{shape, at-within}
use Rattle.image.proofs.Tree.{page_is}
use Rattle.spelling.proofs.Laws.{tree-sound, tree-counted}
use Rattle.spelling.proofs.tree_long.Goals as goal

pub page_of-page-requires : goal.page_of-page-requires
page_of-page-requires c = at-within c.requires.0

pub page_long-requires : goal.page_long-requires
page_long-requires c =
    let a = c.args in
    let h = shape c.requires.0.opened in
    let q = c.page_of-page.result.now in
    let e = page_is a.p q c.requires.0.opened c.page_of-page.ensures.0 in
    let l = c.page_of-page.ensures.1 in (
      omega (arith, h.used),
      omega (arith, h.inside, h.most),
      omega (arith, h.inside, l),
      c.head_of.ensures.1,
      tree-sound a.image.now a.p q _ c.head_of.result e h.usable_is c.head_of.ensures.0 c.requires.1,
    )

pub returns : goal.returns
returns c =
    let a = c.args in
    let h = shape c.requires.0.opened in
    let q = c.page_of-page.result.now in
    let e = page_is a.p q c.requires.0.opened c.page_of-page.ensures.0 in
    (tree-counted a.image.now a.p q _ c.head_of.result e h.usable_is c.head_of.ensures.0 _ c.page_long.ensures.0, c.page_long.ensures.1)
