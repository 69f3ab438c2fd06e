use mir.Syntax.{w64}
use mir.ValLaws.{to_z-of_z}
use Rattle.compare.proofs.NumberLaws.{plus-plus-is, plus-zero-is, plus-minus-is, minus-plus-is, minus-minus-is}
use Rattle.compare.proofs.integer_real.Goals as goal

pub returns-in-false-true : goal.returns-in-false-true
returns-in-false-true c =
    plus-plus-is c.args.n _ (to_z-of_z w64 c.args.n c.ranges.n) c.unsigned_abs-size.result c.unsigned_abs-size.ensures.value _ c.in-false-true.is-0 _ c.in-false-true.is-1 c.magnitudes-in-false-true.ensures

pub returns-in-true-true : goal.returns-in-true-true
returns-in-true-true c =
    minus-plus-is c.args.n _ (to_z-of_z w64 c.args.n c.ranges.n) c.unsigned_abs-size.result c.unsigned_abs-size.ensures.value _ c.in-true-true.is-0 c.in-true-true.is-1

pub returns-in-true-false : goal.returns-in-true-false
returns-in-true-false c =
    minus-minus-is c.args.n _ (to_z-of_z w64 c.args.n c.ranges.n) c.unsigned_abs-size.result c.unsigned_abs-size.ensures.value _ c.in-true-false.is-0 _ _ c.in-true-false.is-1 c.magnitudes.ensures c.reverse.ensures

pub returns-in-false-false : goal.returns-in-false-false
returns-in-false-false c =
    plus-zero-is c.args.n _ (to_z-of_z w64 c.args.n c.ranges.n) c.unsigned_abs-size.result c.unsigned_abs-size.ensures.value _ c.in-false-false.is-0 _ c.if-bits.true c.magnitudes-in-false-false.ensures

pub returns-in-false-false-2 : goal.returns-in-false-false-2
returns-in-false-false-2 c =
    plus-minus-is c.args.n _ (to_z-of_z w64 c.args.n c.ranges.n) c.unsigned_abs-size.result c.unsigned_abs-size.ensures.value _ c.in-false-false.is-0 c.in-false-false.is-1 c.if-bits.false
