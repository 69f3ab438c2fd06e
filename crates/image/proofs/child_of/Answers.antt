use mathlib.Core.Path.{◌≡◌, sym, ap, ◌∙◌}
use Prim.Native.Nat.{◌+◌, ◌*◌, ◌≤◌}
use native.Mathlib.Omega.{arith}
use Rattle.number.specs.Bytes.{be}
use Rattle.cell.specs.Cell.{child_width}
use Rattle.image.specs.Pages.{page_in}
use Rattle.image.specs.Image.{file_of}
use Rattle.image.proofs.Shape.{shape, at-within}
use Rattle.image.proofs.Tree.{page_is, width-4, inner-inside, inner-within, inner-child, leaf-child}
use Rattle.image.proofs.child_of.Goals as goal
use Rattle.image.proofs.child_of.Goals.{After-head_of-head}

inner : (c : After-head_of-head) → let a = c.args in child_width ((file_of a.image.now).type a.p) ≡ 4
inner c =
    let a = c.args in
    width-4 ((file_of a.image.now).type a.p) (λ z. c.if-child_width-eq0.false (c.child_width.ensures ∙ ap child_width c.requires.1 ∙ z))

page : (c : After-head_of-head) → let a = c.args in c.page_of-page.result.now ≡ page_in a.image.now a.p
page c = page_is _ _ c.requires.0.opened c.page_of-page.ensures.0

inside : (c : After-head_of-head) → c.head_of-head.result + 12 + 2 * c.args.i + 2 ≤ c.args.h.usable
inside c = let P = c.requires in inner-inside P.0 P.2 _ _ _ (page c) c.head_of-head.ensures.0 P.3 (inner c)

pub returns-then-child_width-eq0 : goal.returns-then-child_width-eq0
returns-then-child_width-eq0 c =
    let P = c.requires in
    leaf-child P.0 P.2 _ P.3 (sym (ap child_width P.1) ∙ sym c.child_width.ensures ∙ c.if-child_width-eq0.true)

pub page_of-page-requires : goal.page_of-page-requires
page_of-page-requires c = at-within c.requires.0

pub overflow_mul-i : goal.overflow_mul-i
overflow_mul-i c = let s = shape c.requires.0.opened in omega (arith, inside (goal.at.overflow_mul-i c).After-head_of-head, s.inside, s.most)

pub overflow_add-head-2 : goal.overflow_add-head-2
overflow_add-head-2 c = let s = shape c.requires.0.opened in omega (arith, inside (goal.at.overflow_add-head-2 c).After-head_of-head, s.inside, s.most)

pub be16-at-requires : goal.be16-at-requires
be16-at-requires c =
    let s = shape c.requires.0.opened in omega (arith, inside (goal.at.be16-at-requires c).After-head_of-head, c.page_of-page.ensures.1, s.inside)

pub be32-requires : goal.be32-requires
be32-requires c =
    let P = c.requires in let s = shape P.0.opened in
    omega (arith, c.be16-at.ensures.0, inner-within P.0 P.2 _ _ _ (page (goal.at.be32-requires c).After-head_of-head) c.head_of-head.ensures.0 P.3 (inner (goal.at.be32-requires c).After-head_of-head), c.page_of-page.ensures.1, s.inside)

pub returns : goal.returns
returns c =
    let P = c.requires in
    c.be32.ensures ∙ ap (be 4 c.page_of-page.result.now) c.be16-at.ensures.0
    ∙ inner-child P.0 P.2 _ _ _ (page (goal.at.returns c).After-head_of-head) c.head_of-head.ensures.0 P.3 (inner (goal.at.returns c).After-head_of-head)
