use native.Mathlib.Omega.{arith}
use Rattle.writing.proofs.RowLaws.{body-laid}
use Rattle.writing.proofs.put_body.Goals as goal

pub returns : goal.returns
returns c =
    let link = c.put_link in
    body-laid _ _ _ _ _ c.args.local c.args.payload.now _ (omega arith) c.lay.ensures link.ensures (omega arith)
