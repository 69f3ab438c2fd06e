use native.Mathlib.Omega.{arith}
use Rattle.builder.proofs.PlanLaws.{several-most, row-counts-most}
use Rattle.builder.proofs.counted.Goals as goal

pub top_keys-inners-requires : goal.top_keys-inners-requires
top_keys-inners-requires c =
    omega (
      arith,
      c.leaf_keys-found.ensures.0,
      c.several-low.ensures,
      several-most c.leaf_keys-found.result,
      row-counts-most c.args.rows.now c.args.lengths.now,
      c.requires.1,
      c.requires.2,
    )
