use Rattle.cells.proofs.Laws.{copied-bytes, copied-reads, copied-not}
use Rattle.cells.proofs.copied_into.Goals as goal

pub returns-in-Yes : goal.returns-in-Yes
returns-in-Yes c =
    let e = copied-bytes c.requires c.args.work.now c.copy_payload.new.out c.copy_payload.ensures in
    copied-reads c.requires _ e _ c.reads.ensures c.in-Yes.is

pub returns-in_default : goal.returns-in_default
returns-in_default c =
    let e = copied-bytes c.requires c.args.work.now c.copy_payload.new.out c.copy_payload.ensures in
    copied-not c.requires _ e _ c.reads.ensures c.in_default.not-Yes
