use mathlib.Core.Path.{ap, ◌∙◌}
use native.Mathlib.Omega.{arith}
use Rattle.wal.specs.Told.{part_told}
use Rattle.wal.proofs.ViewLaws.{or-told}
use Rattle.wal.proofs.FrameLaws.{frame-prev}
use Rattle.frames.proofs.PartLaws.{frame_below, by_zero, by-none, by-frame}
use Rattle.frames.proofs.entry_part.Goals as goal

pub returns-then-entry-eq0 : goal.returns-then-entry-eq0
returns-then-entry-eq0 c =
    by_zero _ _ _ _ _ _ c.if-entry-eq0.true (ap part_told c.ok_or.ensures.value ∙ or-told _ _ ∙ c.image_part.ensures 43)

pub frame_at-end-requires : goal.frame_at-end-requires
frame_at-end-requires c = (c.requires.2, frame_below _ _ c.requires.2 c.requires.3)

pub returns-then-log-end : goal.returns-then-log-end
returns-then-log-end c = by-none _ _ _ _ _ c.if-entry-eq0.false _ c.frame_at-end.ensures c.if-log-end.true

pub overflow_sub-result : goal.overflow_sub-result
overflow_sub-result c =
    let some = c.if-entry-eq0.false in
    omega (arith, c.frame_at-end.ensures, frame-prev c.args.size c.args.entry (omega arith))

pub returns : goal.returns
returns c = by-frame _ _ _ _ _ c.if-entry-eq0.false _ c.frame_at-end.ensures c.if-log-end.false
