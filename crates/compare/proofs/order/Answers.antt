use mathlib.Core.Path.{◌≡◌, ◌∙◌}
use native.Mathlib.Omega.{arith}
use Rattle.std.specs.Prelude.{Some, None, Err}
use Rattle.compare.specs.declared.Unread.TheVariants.{First, Second}
use Rattle.compare.proofs.AnswerLaws.{counted-reads, uncounted, first-unread, second-unread, answer-is}
use Rattle.compare.proofs.order.Goals as goal

pub returns-in_err-ok_or : goal.returns-in_err-ok_or
returns-in_err-ok_or c =
    let h : c.from_residual.result ≡ Err First = grind arith in
    let s : c.column_count.result ≡ None = grind arith in
    h ∙ first-unread _ _ (uncounted _ _ c.column_count.ensures s)

pub returns-in_err-ok_or-2 : goal.returns-in_err-ok_or-2
returns-in_err-ok_or-2 c =
    let h : c.from_residual-in_err-ok_or-2.result ≡ Err Second = grind arith in
    let s : c.column_count-2.result ≡ None = grind arith in
    let f : c.column_count.result ≡ Some c.in_ok-ok_or.field-0 = grind arith in
    h ∙ second-unread _ _ (counted-reads _ _ c.column_count.ensures _ f) (uncounted _ _ c.column_count-2.ensures s)

pub records-requires : goal.records-requires
records-requires c =
    let f : c.column_count.result ≡ Some c.in_ok-ok_or.field-0 = grind arith in
    let s : c.column_count-2.result ≡ Some c.in_ok-ok_or-2.field-0 = grind arith in
    (counted-reads _ _ c.column_count.ensures _ f, counted-reads _ _ c.column_count-2.ensures _ s)

pub returns : goal.returns
returns c =
    let f : c.column_count.result ≡ Some c.in_ok-ok_or.field-0 = grind arith in
    let s : c.column_count-2.result ≡ Some c.in_ok-ok_or-2.field-0 = grind arith in
    answer-is _ _ (counted-reads _ _ c.column_count.ensures _ f) (counted-reads _ _ c.column_count-2.ensures _ s) _ c.records.ensures
