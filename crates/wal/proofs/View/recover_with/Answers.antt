use Rattle.wal.proofs.MarkLaws.{marks-lock}
use Rattle.wal.proofs.RecoverLaws.{laid-missing, laid-small, laid-whole}
use Rattle.wal.proofs.View.recover_with.Goals as goal

pub returns-then-is_missing : goal.returns-then-is_missing
returns-then-is_missing c =
    let covers = marks-lock _ _ _ _ _ _ _ c.mark_frames.ensures c.lock_page.ensures c.note.ensures in
    laid-missing _ _ c.args.out.now _ _ _ c.args.self.now.bounds _ covers _ c.is_missing.ensures c.if-is_missing.true

pub returns-then-out-pages : goal.returns-then-out-pages
returns-then-out-pages c =
    let covers = marks-lock _ _ _ _ _ _ _ c.mark_frames.ensures c.lock_page.ensures c.note.ensures in
    laid-small _ _ c.args.out.now _ _ _ c.args.self.now.bounds _ covers _ c.is_missing.ensures c.if-is_missing.false c.if-out-pages.true

pub returns : goal.returns
returns c =
    let covers = marks-lock _ _ _ _ _ _ _ c.mark_frames.ensures c.lock_page.ensures c.note.ensures in
    laid-whole _ _ c.args.out.now _ _ _ c.args.self.now.bounds _ covers _ c.is_missing.ensures _ _ c.if-is_missing.false c.if-out-pages.false
    c.lay_image.ensures c.lay_frames.ensures
