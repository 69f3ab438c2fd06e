use Rattle.compare.proofs.BytesLaws.{parts-told}
use Rattle.compare.proofs.bytes.Goals as goal

pub returns : goal.returns
returns c = parts-told c.args.a.now c.args.p c.args.m c.args.b.now c.args.q c.args.n _ c.cmp.ensures
