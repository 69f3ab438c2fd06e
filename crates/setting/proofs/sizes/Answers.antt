use native.Mathlib.Omega.{arith}
use Rattle.setting.proofs.LayLaws as W
use Rattle.setting.proofs.sizes.Goals as goal

pub overflow_add-sum : goal.overflow_add-sum
overflow_add-sum c =
    omega (
      arith,
      c.loop-k.invariant.most,
      c.size_at-sum.ensures,
      c.requires.0.most,
      W.place-low {k = c.loop-k.k} c.requires.0 (omega arith),
    )

pub loop-k-preserved : goal.loop-k-preserved
loop-k-preserved c =
    W.sum-on _ _ _ _ _ _ _ _ (omega arith) c.loop-k.invariant c.size_at-sum.ensures

pub returns : goal.returns
returns c = W.sum-ends _ _ _ _ _ _ _ (omega arith) c.loop-k.invariant
