use native.Mathlib.Omega.{arith}
use Rattle.filling.proofs.Sums.{keys-most, keys-some, grouped-one, grouped-all}
use Rattle.filling.proofs.inner_group.Goals as goal

pub overflow_sub-k : goal.overflow_sub-k
overflow_sub-k c = let a = c.args in omega (arith, c.inner_taken-taken.ensures, keys-most a.keys.now a.k a.i 0)

pub overflow_sub-result : goal.overflow_sub-result
overflow_sub-result c =
    let a = c.args in
    omega (arith, c.inner_taken-taken.ensures, keys-some a.keys.now a.k a.i (omega arith))

pub returns-then-k-taken-eq1 : goal.returns-then-k-taken-eq1
returns-then-k-taken-eq1 c = grouped-one _ _ _ _ c.inner_taken-taken.ensures c.if-k-taken-eq1.true

pub returns-else-k-taken-eq1 : goal.returns-else-k-taken-eq1
returns-else-k-taken-eq1 c = grouped-all _ _ _ _ c.inner_taken-taken.ensures c.if-k-taken-eq1.false
