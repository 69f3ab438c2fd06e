use Rattle.journal_summary.proofs.TellLaws.{is-told}
use Rattle.journal_summary.proofs.tell.Goals as goal

pub returns : goal.returns
returns c =
    is-told _ _ _ _ c.args.journal.now.fields _ _ _ c.count_up-read.ensures c.refusal_of.ensures c.capped.ensures
