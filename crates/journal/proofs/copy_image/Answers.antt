use Rattle.std.proofs.Common.{[]}
use Rattle.journal.proofs.EndLaws.{copy-44, copy_done}
use Rattle.journal.proofs.copy_image.Goals as goal

pub returns-then-out-length : goal.returns-then-out-length
returns-then-out-length c = let r = copy-44 [] c.args.image.now _ c.if-out-length.true in record { answer = r.0; bytes = r.1 }

pub returns : goal.returns
returns c = let r = copy_done [] c.args.image.now _ _ c.if-out-length.false c.lay.ensures in record { answer = r.0; bytes = r.1 }
