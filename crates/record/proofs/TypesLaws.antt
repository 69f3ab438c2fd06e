-- The walk over a header's serial types, step by step.
use Prim.Native.Nat.{ℕ, zero, suc, ◌+◌, ◌-◌, ◌<◌}
use mathlib.Core.Path.{◌≡◌, ap, ◌∙◌}
use mathlib.Core.Bool.{true, false}
use mathlib.Core.List.{List, []}
use mathlib.Core.Logic.{⊎_elim}
use native.Mathlib.Omega.{arith}
use borrow.Author.Tests.{eq-eqb, ne_eqb}
use Rattle.number.proofs.VarintLaws.{varint-cases, varint-whole}
use Rattle.number.specs.Varint.{varint_length, varint_bits}
use Rattle.number.specs.declared.Word.{Word}
use Rattle.record.specs.Serial.{refused}
use Rattle.record.specs.Record.{broken, types, first, types_from, types_at}

module _ (b : List ℕ) (h : ℕ) where
  -- the steps do not matter, where there are enough
  pub types_same : (l m at : ℕ) → h - at < l → h - at < m → types_from l b h at ≡ types_from m b h at
  unfolding types_from
  types_same zero m at p q = absurd (omega arith)
  types_same (suc l) zero at p q = absurd (omega arith)
  types_same (suc l) (suc m) at p q =
      ⊎_elim
      (λ e. let z : varint_length b at h ≡ 0 = ap (λ (w : Word). w.length) e in simp (eq-eqb (varint_length b at h) 0 z))
      (λ w. rw (types_same l m (at + varint_length b at h) (omega (arith, w.some, w.ends)) (omega (arith, w.some, w.ends))))
      (varint-cases b at h)

  module _ (at : ℕ) where
    pub types-end : at ≡ h → types_at b h at ≡ types []
    unfolding types_from
    types-end e = simp (eq-eqb at h e)

    module _ (on : at ≡ h → ⊥) where
      pub types-short : varint_length b at h ≡ 0 → types_at b h at ≡ broken
      unfolding types_from
      types-short e = simp (ne_eqb at h on, eq-eqb (varint_length b at h) 0 e)

      pub types-refused : refused (varint_bits b at h) ≡ true → types_at b h at ≡ broken
      unfolding types_from
      types-refused e =
          ⊎_elim
          (λ w. types-short (ap (λ (w : Word). w.length) w))
          (λ w. simp (ne_eqb at h on, ne_eqb (varint_length b at h) 0 (λ z. omega (arith, w.some)), e))
          (varint-cases b at h)

      pub types-next : 0 < varint_length b at h → refused (varint_bits b at h) ≡ false
          → types_at b h at ≡ first (varint_bits b at h) (types_at b h (at + varint_length b at h))
      unfolding types_from
      types-next s e =
          let w = varint-whole b at h s in
          (simp (ne_eqb at h on, ne_eqb (varint_length b at h) 0 (λ z. omega arith), e))
          ∙ ap (first (varint_bits b at h))
          (types_same (h - at) (suc (h - (at + varint_length b at h))) (at + varint_length b at h) (omega (arith, w.ends)) (omega arith))
