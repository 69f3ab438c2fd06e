use mathlib.Core.Path.{subst⁻¹}
use Rattle.compare.specs.Values.{Within}
use Rattle.compare.proofs.ColumnLaws.{value-within}
use Rattle.compare.proofs.values.Goals as goal

pub columns-requires : goal.columns-requires
columns-requires c = (
  subst⁻¹ (Within c.args.a.now) c.value_at-v.ensures (value-within c.args.a.now c.args.s c.args.p c.requires.0),
  subst⁻¹
      (Within c.args.b.now) c.value_at-w.ensures (value-within c.args.b.now c.args.t c.args.q c.requires.1),
)
