use native.Mathlib.Omega.{arith}
use Rattle.leaf.proofs.RecordLaws.{size-flat, pick-five}
use Rattle.leaf.proofs.size_flat.Goals as goal

pub returns : goal.returns
returns c = (
  size-flat _ _ _ _ _ c.pick.ensures.0 c.pick-2.ensures.0 c.pick-3.ensures.0 c.size_long.ensures,
  omega (arith, pick-five c.args.t _ c.pick.ensures.0),
)
