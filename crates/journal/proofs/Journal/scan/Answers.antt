use Rattle.journal.proofs.Journal.scan.Goals as goal

pub returns : goal.returns
returns c = rw c.first.ensures at c.scan_from.ensures
