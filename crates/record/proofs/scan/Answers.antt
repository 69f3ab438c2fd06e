use Rattle.std.specs.Prelude.{None}
use Rattle.record.proofs.HeadLaws.{head-none, head-is}
use Rattle.record.proofs.ScanLaws.{scan-within}
use Rattle.record.proofs.scan.Goals.{then-head-eq0-via-then-head-eq0, then-head-eq0-via-else-head-eq0+then-head}
use Rattle.record.proofs.scan.Goals as goal

pub returns-then-head-eq0 : goal.returns-then-head-eq0
returns-then-head-eq0 c =
    let w = c.varint_word-head in
    let a = c.args in
    elim c.then-head-eq0.branch [
      | then-head-eq0-via-then-head-eq0 x ↦ head-none _ _ w.result w.ensures x.if-head-eq0.true
      | then-head-eq0-via-else-head-eq0+then-head x ↦
          head-is _ _ w.result w.ensures x.if-head-eq0.false None (scan-within a.b.now w.result.length w.result.bits a.i x.if-head.true)
    ]

pub returns : goal.returns
returns c =
    head-is _ _ c.varint_word-head.result c.varint_word-head.ensures c.if-head-eq0.false
    c.scan_types.result c.scan_types.ensures
