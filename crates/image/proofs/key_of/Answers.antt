use mathlib.Core.Path.{◌≡◌, ap, ◌∙◌}
use Prim.Native.Nat.{◌+◌, ◌*◌, ◌≤◌}
use native.Mathlib.Omega.{arith}
use Rattle.number.specs.Bytes.{biased}
use Rattle.number.specs.Varint.{varint_bits}
use Rattle.number.specs.declared.Word.{Word}
use Rattle.cell.specs.Cell.{child_width}
use Rattle.image.specs.Pages.{page_in}
use Rattle.image.specs.Image.{file_of}
use Rattle.image.proofs.Shape.{shape, at-within}
use Rattle.image.proofs.Tree.{page_is, inner-inside, inner-key}
use Rattle.image.proofs.key_of.Goals as goal
use Rattle.image.proofs.key_of.Goals.{After-head_of-head}

inner : (c : After-head_of-head) → let a = c.args in child_width ((file_of a.image.now).type a.p) ≡ 4
inner c = ap child_width c.requires.1

page : (c : After-head_of-head) → let a = c.args in c.page_of-page.result.now ≡ page_in a.image.now a.p
page c = page_is _ _ c.requires.0.opened c.page_of-page.ensures.0

inside : (c : After-head_of-head) → c.head_of-head.result + 12 + 2 * c.args.i + 2 ≤ c.args.h.usable
inside c = let P = c.requires in inner-inside P.0 P.2 _ _ _ (page c) c.head_of-head.ensures.0 P.3 (inner c)

pub page_of-page-requires : goal.page_of-page-requires
page_of-page-requires c = at-within c.requires.0

pub overflow_mul-i : goal.overflow_mul-i
overflow_mul-i c = let s = shape c.requires.0.opened in omega (arith, inside (goal.at.overflow_mul-i c).After-head_of-head, s.inside, s.most)

pub overflow_add-head-2 : goal.overflow_add-head-2
overflow_add-head-2 c = let s = shape c.requires.0.opened in omega (arith, inside (goal.at.overflow_add-head-2 c).After-head_of-head, s.inside, s.most)

pub be16-at-requires : goal.be16-at-requires
be16-at-requires c =
    let s = shape c.requires.0.opened in omega (arith, inside (goal.at.be16-at-requires c).After-head_of-head, c.page_of-page.ensures.1, s.inside)

pub returns : goal.returns
returns c =
    let P = c.requires in let q = c.page_of-page.result.now in let u = c.args.h.usable in
    c.bias.ensures
    ∙ ap (λ (w : Word). biased w.bits) c.varint_word-key.ensures
    ∙ ap (λ x. biased (varint_bits q (x + 4) u)) c.be16-at.ensures.0
    ∙ inner-key P.0 P.2 _ _ _ (page (goal.at.returns c).After-head_of-head) c.head_of-head.ensures.0 P.3 (inner (goal.at.returns c).After-head_of-head) P.1
