use mathlib.Core.Bool.{false≢true}
use Prim.Native.Nat.{◌+◌}
use mathlib.Core.Path.{◌≡◌, refl, sym, ap, ◌∙◌}
use borrow.Author.Tests.{eqb-true}
use native.Mathlib.Omega.{arith}
use lib.ListN.{length, get_or}
use lib.IntN.{pos}
use borrow.Author.Rules.{rules, sfits_of}
use mir.Val.{SFits}
use mir.Syntax.{w64}
use mir.ValLaws.{to_z-of_z}
use Rattle.number.specs.Bytes.{bias_of}
use Rattle.builder.proofs.Refused.{rising-on, rising-not, rising-end, rising-few, fits_all, fits-none}
use Rattle.builder.proofs.rises.Goals as goal
use Rattle.builder.proofs.rises.Goals.{After-bias_of-next}

pub returns-then-is_empty : goal.returns-then-is_empty
returns-then-is_empty c =
    let z : length c.args.rows.now ≡ 0 = eqb-true (length c.args.rows.now) 0 (sym c.is_empty.ensures ∙ c.if-is_empty.true) in
    (rising-few _ (omega arith), λ _. fits-none _ (omega arith))

-- the next row's number, made so that all are positive
next : (c : After-bias_of-next) → c.bias_of-next.result ≡ bias_of (get_or c.args.rows.now (c.loop-i.i + 1) (pos 0))
next c =
    c.bias_of-next.ensures
    ∙ ap bias_of (to_z-of_z w64 (get_or c.args.rows.now (c.loop-i.i + 1) (pos 0)) (search (rules, sfits_of)))

pub returns-then-next-last : goal.returns-then-next-last
returns-then-next-last c = (
  rising-not _ _ _ _ _ c.loop-i-test.true (next (goal.at.returns-then-next-last c).After-bias_of-next) c.if-next-last.true c.loop-i.invariant.1,
  λ e. absurd (false≢true e),
)

pub loop-i-preserved : goal.loop-i-preserved
loop-i-preserved c =
    let fits : SFits w64 (get_or c.args.rows.now (c.loop-i.i + 1) (pos 0)) = search (rules, sfits_of) in
    (refl, rising-on _ _ _ _ _ c.loop-i-test.true (next (goal.at.loop-i-preserved c).After-bias_of-next) c.if-next-last.false fits c.loop-i.invariant.1)

pub returns : goal.returns
returns c =
    let l = c.loop-i in
    (rising-end _ _ _ _ c.loop-i-test.false l.invariant.1, λ _. fits_all _ _ (omega (arith, c.loop-i-test.false)) l.invariant.1.fit)
