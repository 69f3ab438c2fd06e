use Rattle.std.proofs.Common.{ap, ◌∙◌}
use Rattle.journal.specs.Reading.{rest_of}
use Rattle.journal.proofs.MarkLaws.{laid-fit}
use Rattle.journal.proofs.LayLaws.{lay-start, lay-next, lay-end}
use Rattle.journal.proofs.Journal.lay_records.Goals as goal

pub loop-record-init : goal.loop-record-init
loop-record-init c =
    let f = c.args.self.now.fields in
    let e = ap rest_of c.into_iter-record-iterator.ensures.into_iter_gives ∙ c.records-record-items.ensures in
    (tt, tt, rw e (lay-start _ _ _ _ _ (laid-fit _ _ _ f.sizes.is_size f.is_pages)))

pub loop-record-preserved : goal.loop-record-preserved
loop-record-preserved c =
    (tt, tt, lay-next _ _ _ _ _ _ _ c.loop-record.invariant.2 _ _ c.in-Some.ensures.steps _ c.lay.ensures c.lay.auto.out)

pub returns : goal.returns
returns c = lay-end _ _ _ _ _ _ _ c.loop-record.invariant.2 c.in-None.ensures.steps.0
