use Prim.Native.Nat.{suc}
use mathlib.Core.Path.{◌≡◌}
use mathlib.Core.Logic.{inl, inr}
use borrow.Author.Rules.{rules}
use Rattle.wal.specs.Sums.{is_big}
use Rattle.wal.specs.Frames.{sums_after}
use Rattle.wal.proofs.SumLaws.{summing-next, four-summed, frame-summed}
use Rattle.wal.proofs.ScanLaws.{begins, found-short, found-unmarked, found-uncarried, sums_next, next-frame}
use Rattle.wal.proofs.scan_words.Goals as goal
use Rattle.wal.proofs.scan_words.Goals.{After-loop-k, then-log-at-via-then-log-at, then-log-at-via-else-log-at+then-not-is_marked, then-be32-ne0, else-be32-ne0}

-- behind both loops over a frame's page: the sums over it
summed : (c : After-loop-k)
    → sums_after (is_big c.args.order) c.args.size c.args.log.now (suc c.frames.counting) ≡ (c.loop-k.sums.s0, c.loop-k.sums.s1)
summed c =
    let sums = frame-summed _ _ _ _ _ _ _ _ _ _ _ _ _ _ c.over-sums.ensures c.loop-i.invariant c.loop-k.invariant c.loop-k-test.false in
    sums_next _ _ _ _ _ _ _ _ c.frames.invariant _ _ sums

pub frames-init : goal.frames-init
frames-init c =
    let pre = c.requires in
    begins _ _ _ _ _ pre.0 (search rules) (search rules) pre.3 c.be32.ensures c.be32-2.ensures

pub returns-then-log-at : goal.returns-then-log-at
returns-then-log-at c =
    elim c.then-log-at.branch [
      | then-log-at-via-then-log-at w ↦ found-short _ _ _ _ _ _ _ _ c.frames.invariant w.if-log-at.true
      | then-log-at-via-else-log-at+then-not-is_marked w ↦ found-unmarked _ _ _ _ _ _ _ _ c.frames.invariant _ w.is_marked.ensures w.if-not-is_marked.true
    ]

pub loop-i-preserved : goal.loop-i-preserved
loop-i-preserved c =
    let sums = four-summed _ _ _ _ _ _ _ _ _ _ _ c.over-p.ensures c.over-q.ensures c.over-r.ensures _ c.over-sums-in-loop-i.ensures in
    summing-next _ _ _ _ _ _ _ _ _ _ c.loop-i.invariant 4 _ _ (search rules) (search rules) c.loop-i-test.true sums

pub loop-k-preserved : goal.loop-k-preserved
loop-k-preserved c = summing-next _ _ _ _ _ _ _ _ _ _ c.loop-k.invariant 1 _ _ (search rules) (search rules) (search rules) c.over-sums-in-loop-k.ensures

pub returns-then-not-is_carried : goal.returns-then-not-is_carried
returns-then-not-is_carried c =
    found-uncarried _ _ _ _ _ _ _ _ c.frames.invariant _ _ _ (summed (goal.at.returns-then-not-is_carried c).After-loop-k)
    c.is_carried.ensures c.if-not-is_carried.true

pub frames-preserved : goal.frames-preserved
frames-preserved c =
    let lows = c.loop-k.invariant in
    let next = next-frame _ _ _ _ _ _ _ _ c.frames.invariant _ _ _ _ _ lows.low0 lows.low1 c.if-log-at.false
    c.is_marked.ensures c.if-not-is_marked.false (summed (goal.at.frames-preserved c).After-loop-k)
    c.is_carried.ensures c.if-not-is_carried.false c.be32-in-frames.ensures in
    next _ (elim c.if-be32-ne0.branch [ then-be32-ne0 w ↦ inl (w.if-be32-ne0.true, w.commit-is) | else-be32-ne0 w ↦ inr (w.if-be32-ne0.false, w.commit-is) ])
