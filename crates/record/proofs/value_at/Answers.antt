use mathlib.Core.Path.{refl, ◌∙◌}
use native.Mathlib.Omega.{arith}
use mir.Syntax.{w64}
use mir.ValLaws.{to_z-of_z}
use Rattle.record.specs.Serial.{value_of}
use Rattle.record.proofs.ValueLaws.{int-size, real-size, value-int, value-real, value-blob, value-text}
use Rattle.record.proofs.value_at.Goals as goal

pub returns-in-0 : goal.returns-in-0
unfolding value_of
returns-in-0 c = rw c.in-0.is refl

pub signed_be-requires : goal.signed_be-requires
signed_be-requires c =
    omega (arith, c.requires, c.size_of-length.ensures, int-size c.args.t (λ e. omega arith) (omega arith))

pub returns-in-1-to-6 : goal.returns-in-1-to-6
returns-in-1-to-6 c =
    value-int _ _ _ c.size_of-length.result _ c.size_of-length.ensures (λ e. omega arith) (omega arith)
    (to_z-of_z w64 c.signed_be.result (record { sfits = c.signed_be.type_inv }) ∙ c.signed_be.ensures)

pub be-requires : goal.be-requires
be-requires c = omega (arith, c.requires, real-size c.args.t c.in-7.is)

pub returns-in-7 : goal.returns-in-7
returns-in-7 c = value-real _ _ _ _ c.be.result c.in-7.is c.real_of.ensures c.be.ensures.0

pub returns-in-8 : goal.returns-in-8
unfolding value_of
returns-in-8 c = rw c.in-8.is refl

pub returns-in-9 : goal.returns-in-9
unfolding value_of
returns-in-9 c = rw c.in-9.is refl

pub returns-in_default : goal.returns-in_default
returns-in_default c =
    value-blob _ _ _ c.size_of-length.result c.size_of-length.ensures (λ e. omega arith) (omega arith) (λ e. omega arith)
    (λ e. omega arith) (λ e. omega arith) c.if-t-eq0.true

pub returns-in_default-2 : goal.returns-in_default-2
returns-in_default-2 c =
    value-text _ _ _ c.size_of-length.result c.size_of-length.ensures (λ e. omega arith) (omega arith) (λ e. omega arith)
    (λ e. omega arith) (λ e. omega arith) c.if-t-eq0.false
