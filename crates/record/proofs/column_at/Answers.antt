use mathlib.Core.Path.{sym, ap, ◌∙◌, ◌≡◌}
use Rattle.std.specs.Prelude.{Some, None, Ok, Err}
use native.Mathlib.Omega.{arith}
use Rattle.record.specs.declared.NoValue.TheVariants.{DoesNotRead, Missing}
use Rattle.record.proofs.ColumnLaws.{asked, asked-is, shown_at, spot_fits}
use Rattle.record.proofs.column_at.Goals as goal

pub returns-in_err-scan : goal.returns-in_err-scan
returns-in_err-scan c =
    let h : c.from_residual.result ≡ Err DoesNotRead = grind arith in
    let s : c.scan.result ≡ None = grind arith in
    h ∙ ap (asked c.args.b.now) (sym s ∙ c.scan.ensures) ∙ asked-is _ _

pub returns-in_err-spot : goal.returns-in_err-spot
returns-in_err-spot c =
    let h : c.from_residual-in_err-spot.result ≡ Err Missing = grind arith in
    let s : c.scan.result ≡ Some c.in_ok-scan.scan = grind arith in
    let f : c.in_ok-scan.scan.found ≡ None = grind arith in
    h ∙ ap (shown_at c.args.b.now) (sym f) ∙ ap (asked c.args.b.now) (sym s ∙ c.scan.ensures) ∙ asked-is _ _

pub value_at-requires : goal.value_at-requires
value_at-requires c =
    let s : c.scan.result ≡ Some c.in_ok-scan.scan = grind arith in
    let f : c.in_ok-scan.scan.found ≡ Some c.in_ok-spot.spot = grind arith in
    spot_fits _ _ _ _ (sym c.scan.ensures ∙ s) f

pub returns : goal.returns
returns c =
    let s : c.scan.result ≡ Some c.in_ok-scan.scan = grind arith in
    let f : c.in_ok-scan.scan.found ≡ Some c.in_ok-spot.spot = grind arith in
    ap Ok c.value_at.ensures ∙ ap (shown_at c.args.b.now) (sym f) ∙ ap (asked c.args.b.now) (sym s ∙ c.scan.ensures) ∙ asked-is _ _
