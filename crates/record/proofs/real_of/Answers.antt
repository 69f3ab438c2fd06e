use mathlib.Core.Path.{refl}
use native.Mathlib.Omega.{arith}
use Rattle.std.proofs.lemmas.Float.{not_nan_f64_bits}
use Rattle.record.proofs.SerialLaws.{null-real, some-real}
use Rattle.record.proofs.real_of.Goals as goal

pub returns-then-bits-gt9218868437227405312 : goal.returns-then-bits-gt9218868437227405312
returns-then-bits-gt9218868437227405312 c = null-real c.args.bits (omega arith)

pub float_from_bits-result : goal.float_from_bits-result
float_from_bits-result c = not_nan_f64_bits c.args.bits (omega arith)

pub returns : goal.returns
returns c = some-real c.args.bits _ (omega arith) refl
