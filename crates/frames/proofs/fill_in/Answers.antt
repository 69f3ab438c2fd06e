use Prim.Native.Nat.{◌+◌, ◌≤◌}
use mathlib.Core.Path.{◌≡◌, refl}
use native.Mathlib.Omega.{arith}
use mathlib.Core.List.{◌++◌}
use lib.ListN.{length, drop, replicate}
use Rattle.wal.specs.Frames.{frame_at}
use Rattle.wal.proofs.FrameLaws.{frame-inside}
use Rattle.frames.proofs.LateLaws.{fits-entry}
use Rattle.frames.proofs.FillLaws.{zeroed, cleared-length, filling-none, filling-next, filled}
use Rattle.frames.proofs.fill_in.Goals as goal
use Rattle.frames.proofs.fill_in.Goals.{After-fill, In-loop-k}

-- in a turn: the whole frame lies within the log
inside : (c : In-loop-k) → frame_at c.args.view.now.state.size c.loop-k.k + (24 + c.args.view.now.state.size) ≤ length c.args.view.now.log.now
inside c =
    let view = c.args.view.now in
    frame-inside view.state.size c.loop-k.k view.state.frames _ view.log.now refl c.loop-k-test.true view.bounds.within

-- all entries of pages are 0 before the first turn
zeros : (c : After-fill) → c.fill.new.self ++ drop c.args.view.now.state.pages c.args.table.now ≡ replicate c.args.view.now.state.pages 0 ++ drop c.args.view.now.state.pages c.args.table.now
zeros c = zeroed _ _ _ c.requires.0 (c.fill.ensures.after (λ y e. e))

pub loop-k-init : goal.loop-k-init
loop-k-init c =
    let cleared = zeros (goal.at.loop-k-init c).After-fill in
    let long = cleared-length _ _ _ c.requires.0 cleared in
    (omega (arith, long, c.requires.0), filling-none _ _ _ c.requires.0 cleared _ _)

pub frame_at-requires : goal.frame_at-requires
frame_at-requires c = (c.args.view.now.bounds.most, omega (arith, inside (goal.at.frame_at-requires c).In-loop-k))

pub be32-page-requires : goal.be32-page-requires
be32-page-requires c = omega (arith, c.frame_at.ensures, inside (goal.at.be32-page-requires c).In-loop-k)

pub note-requires : goal.note-requires
note-requires c =
    (c.loop-k.invariant.0, λ o. fits-entry _ _ _ _ _ _ _ _ c.requires.1 c.loop-k-test.true refl c.frame_at.ensures c.be32-page.ensures o)

pub loop-k-preserved : goal.loop-k-preserved
loop-k-preserved c =
    let note = c.note.ensures in
    (omega (arith, note.same, c.loop-k.invariant.0), filling-next _ _ _ _ _ _ _ _ _ _ c.loop-k.invariant.1 refl c.frame_at.ensures c.be32-page.ensures note)

pub returns : goal.returns
returns c =
    let e : c.loop-k.k ≡ c.args.view.now.state.frames = omega arith in
    filled _ _ _ _ _ _ _ _ c.requires.0 (zeros (goal.at.returns c).After-fill) e c.loop-k.invariant.1
