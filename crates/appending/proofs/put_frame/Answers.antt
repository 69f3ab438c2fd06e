use Rattle.appending.proofs.LaidLaws.{frame_summed, frame-laid}
use Rattle.appending.proofs.put_frame.Goals as goal

pub returns-clause-sums : goal.returns-clause-sums
returns-clause-sums c = frame_summed _ _ _ _ _ _ c.requires c.put_two.ensures _ _ _ _ _ _ _ c.over-h.ensures c.page_sums-t.ensures

pub returns-clause-output : goal.returns-clause-output
returns-clause-output c =
    frame-laid _ _ _ _ _ _ c.requires c.put_two.ensures _ _ _ _ _ _ _ c.put_two-2.ensures c.put_two-3.ensures c.lay.ensures
