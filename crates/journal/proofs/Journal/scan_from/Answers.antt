use Rattle.std.proofs.Common.{suc, length, sym, ap, ◌∙◌}
use Rattle.journal.specs.Reading.{rest_of}
use Rattle.journal.proofs.MarkLaws.{records-fit}
use Rattle.journal.proofs.ScanLaws.{scan-start, scan-twice, scan-taken, scan-out}
use Rattle.journal.proofs.Journal.scan_from.Goals as goal

pub loop-record-init : goal.loop-record-init
loop-record-init c =
    let f = c.args.self.now.fields in
    let e = ap rest_of c.into_iter-record-iterator.ensures.into_iter_gives ∙ c.records_from-record-items.ensures in
    (tt, tt, rw e (scan-start _ _ _ _ _ (records-fit _ _ _ f.sizes.is_size f.is_pages (suc (length c.args.self.now.bytes.now)) _ _ _)))

pub returns-then-has_bit : goal.returns-then-has_bit
returns-then-has_bit c =
    scan-twice _ _ _ _ _ _ _ c.loop-record.invariant.2 _ _ c.in-Some.ensures.steps _ (sym c.has_bit.ensures ∙ c.if-has_bit.true)

pub loop-record-preserved : goal.loop-record-preserved
loop-record-preserved c =
    (tt, tt, scan-taken _ _ _ _ _ _ _ c.loop-record.invariant.2 _ _ c.in-Some.ensures.steps _ (sym c.has_bit.ensures ∙ c.if-has_bit.false) c.put_bit.ensures)

pub returns : goal.returns
returns c = scan-out _ _ _ _ _ _ _ c.loop-record.invariant.2 c.in-None.ensures.steps.0
