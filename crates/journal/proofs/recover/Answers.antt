use Rattle.std.proofs.Common.{◌≡◌, false, refl, sym, ap, ◌∙◌, arith}
use Rattle.std.proofs.lemmas.Result.{err_from_is_err_and}
use Rattle.journal.specs.Header.{absent, pages_in}
use Rattle.journal.proofs.EndLaws.{there-28, recover-copied, recover-41, recover-42, recover-restored}
use Rattle.journal.proofs.recover.Goals as goal
use Rattle.journal.proofs.recover.Goals.{Else-is_absent}

there : (c : Else-is_absent) → absent c.args.journal.now ≡ false
there c = sym c.is_absent.ensures ∙ c.if-is_absent.false

pub returns-then-is_absent : goal.returns-then-is_absent
returns-then-is_absent c =
    let r = recover-copied _ _ _ _ _ (sym c.is_absent.ensures ∙ c.if-is_absent.true) c.copy_image.ensures.answer c.copy_image.ensures.bytes in
    record { answer = r.answer; bytes = r.bytes }

pub new-requires : goal.new-requires
new-requires c = there-28 _ (there (goal.at.new-requires c).Else-is_absent)

pub returns-in_err-journal : goal.returns-in_err-journal
returns-in_err-journal c =
    let p = err_from_is_err_and c.from_residual.result c.from_residual.ensures.1 in
    let e = c.in_err-journal.ensures.err in
    let r = recover-41 _ c.args.image.now c.args.out.now (there (goal.at.returns-in_err-journal c).Else-is_absent) (record { refusal = 41; pages = 0; length = 0 }) e.1 refl in
    record { answer = rw (p.1, p.2) (λ i. record { refusal = e.0 i; pages = 0; length = 0 }) ∙ r.answer; bytes = r.bytes }

pub returns-then-journal-gt-PAGE_LIMIT : goal.returns-then-journal-gt-PAGE_LIMIT
returns-then-journal-gt-PAGE_LIMIT c =
    let ok = c.in_ok-journal.ensures.ok in
    let pages = c.in_ok-journal.journal.fields.is_pages ∙ ap pages_in ok.0 in
    let r = recover-42 _ c.args.image.now c.args.out.now (there (goal.at.returns-then-journal-gt-PAGE_LIMIT c).Else-is_absent) ok.1 _
    (omega (arith, pages, c.if-journal-gt-PAGE_LIMIT.true)) refl in
    record { answer = r.answer; bytes = r.bytes }

pub returns : goal.returns
returns c =
    let ok = c.in_ok-journal.ensures.ok in
    let pages = c.in_ok-journal.journal.fields.is_pages ∙ ap pages_in ok.0 in
    let r = recover-restored _ c.args.image.now c.args.out.now (there (goal.at.returns c).Else-is_absent) ok.1 _ _
    (omega (arith, pages, c.if-journal-gt-PAGE_LIMIT.false)) (rw ok.0 at c.restore.ensures.answer) (rw ok.0 at c.restore.ensures.bytes) in
    record { answer = r.answer; bytes = r.bytes }
