use mathlib.Core.Path.{refl, sym, ap, ◌∙◌}
use native.Mathlib.Omega.{arith}
use Rattle.paging.specs.Pages.{over}
use Rattle.image.proofs.Shape.{shape}
use Rattle.payload.proofs.CopyLaws.{first-page, first-within, more-chained, page-copied, rest-none, over_none}
use Rattle.payload.proofs.copy_chain.Goals as goal

pub overflow_sub-room : goal.overflow_sub-room
overflow_sub-room c =
    let s = shape c.requires.0 in
    omega arith

pub lay_part-requires : goal.lay_part-requires
lay_part-requires c = (
  first-page _ _ c.requires.0 _ _ _ _ (omega arith) c.loop-at.invariant.3 c.min-n.ensures,
  first-within _ _ c.requires.0 _ _ _ _ (omega arith) c.loop-at.invariant.3 c.min-n.ensures,
  omega arith,
)

pub word_at-t-requires : goal.word_at-t-requires
word_at-t-requires c =
    let s = shape c.requires.0 in
    (first-page _ _ c.requires.0 _ _ _ _ (omega arith) c.loop-at.invariant.3 c.min-n.ensures, omega arith)

pub loop-at-smaller : goal.loop-at-smaller
loop-at-smaller c =
    let s = shape c.requires.0 in
    omega arith

pub loop-at-preserved : goal.loop-at-preserved
loop-at-preserved c = (
  omega arith,
  c.lay_part.auto.out ∙ c.loop-at.invariant.1,
  refl,
  more-chained _ _ c.requires.0 _ _ _ _ (omega arith) c.loop-at.invariant.3 c.min-n.ensures _ c.word_at-t.ensures,
  page-copied _ _ c.requires.0 _ _ _ _
      (omega arith) c.loop-at.invariant.3 c.min-n.ensures _ _ _ (omega arith) c.word_at-t.ensures
      c.lay_part.ensures ∙ c.loop-at.invariant.4,
)

pub returns : goal.returns
returns c =
    let s = shape c.requires.0 in
    sym (over_none c.loop-at.out c.loop-at.at) ∙ ap (over c.loop-at.out c.loop-at.at)
    (sym (rest-none _ _ _ (omega arith) (omega arith))) ∙ c.loop-at.invariant.4
