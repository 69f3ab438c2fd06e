use Rattle.journal.proofs.EndLaws.{restore-45, restore-43, restore-44, restore-done}
use Rattle.journal.proofs.Journal.restore_in.Goals as goal

pub returns-then-scan : goal.returns-then-scan
returns-then-scan c =
    let r = restore-45 _ _ _ _ c.args.self.now.fields _ c.requires.2 _ _ c.scan.ensures c.args.image.now c.args.out.now c.if-scan.true in
    record { answer = r.answer; bytes = r.bytes }

pub returns-then-is_missing : goal.returns-then-is_missing
returns-then-is_missing c =
    let r = restore-43 _ _ _ _ c.args.self.now.fields _ c.requires.2 _ _ c.scan.ensures c.args.image.now c.args.out.now c.if-scan.false
    _ c.lock_page.ensures _ c.note.ensures _ c.is_missing.ensures c.if-is_missing.true in
    record { answer = r.answer; bytes = r.bytes }

pub returns-then-out-length : goal.returns-then-out-length
returns-then-out-length c =
    let r = restore-44 _ _ _ _ c.args.self.now.fields _ c.requires.2 _ _ c.scan.ensures c.args.image.now c.args.out.now c.if-scan.false
    _ c.lock_page.ensures _ c.note.ensures _ c.is_missing.ensures c.if-is_missing.false c.if-out-length.true in
    record { answer = r.answer; bytes = r.bytes }

pub returns : goal.returns
returns c =
    let r = restore-done _ _ _ _ c.args.self.now.fields _ c.requires.2 _ _ c.scan.ensures c.args.image.now c.args.out.now c.if-scan.false
    _ c.lock_page.ensures _ c.note.ensures _ c.is_missing.ensures c.if-is_missing.false _ _ c.if-out-length.false c.lay_image.ensures
    c.lay_records.ensures in
    record { answer = r.answer; bytes = r.bytes }
