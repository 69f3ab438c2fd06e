use Rattle.journal_summary.proofs.TellLaws.{of-short, of-magic, of-41, of_told}
use Rattle.journal_summary.proofs.Theorems.{agrees}
use Rattle.journal_summary.proofs.inspect.Goals as goal

pub returns-then-bytes-lt28 : goal.returns-then-bytes-lt28
returns-then-bytes-lt28 c =
    let e = of-short _ _ c.if-bytes-lt28.true c.untold.ensures in
    record { answer = e; recovery = agrees _ _ e }

pub returns-then-not-is_magic : goal.returns-then-not-is_magic
returns-then-not-is_magic c =
    let e = of-magic _ _ c.if-bytes-lt28.false _ c.is_magic.ensures c.if-not-is_magic.true c.untold-then-not-is_magic.ensures in
    record { answer = e; recovery = agrees _ _ e }

pub returns-in-Ok : goal.returns-in-Ok
returns-in-Ok c =
    let ok = c.in-Ok.ensures.ok in
    let e = of_told _ _ c.if-bytes-lt28.false _ c.is_magic.ensures c.if-not-is_magic.false ok.1 (rw ok.0 at c.tell.ensures) in
    record { answer = e; recovery = agrees _ _ e }

pub returns-in-Err : goal.returns-in-Err
returns-in-Err c =
    let err = c.in-Err.ensures.err in
    let e = of-41 _ _ c.if-bytes-lt28.false _ c.is_magic.ensures c.if-not-is_magic.false err.1 (rw err.0 at c.untold-in-Err.ensures) in
    record { answer = e; recovery = agrees _ _ e }
