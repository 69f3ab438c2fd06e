-- `types_of` gives exactly the types that `Layout` states.
use Prim.Native.Nat.{ℕ, zero, suc, ◌+◌, ◌-◌, ◌≤◌}
use mathlib.Core.Path.{◌≡◌, refl, sym, ap, ◌∙◌, subst}
use mathlib.Core.Bool.{Bool, true, false, cond}
use mathlib.Core.List.{List, [], ◌∷◌}
use lib.Dec.{eqb}
use lib.ListN.{length}
use native.Mathlib.Omega.{arith}
use borrow.Author.Tests.{eq-eqb, ne_eqb, eqb-true, eqb-false}
use Rattle.number.proofs.VarintLaws.{varint-whole}
use Rattle.number.specs.Varint.{varint_length, varint_bits}
use Rattle.record.proofs.TypesLaws.{types-end, types-next}
use Rattle.record.specs.Layout.{Spelled, Layout}
use Rattle.record.specs.Record.{Types, broken, types, first, types_from, types_at, sizes, filling, header_of, own_of, types_of}
use Rattle.record.specs.Serial.{refused}

pub nothing : {A : Type 0} (ts : List ℕ) → broken ≡ types ts → A
nothing ts e = absurd (let z : ◌≡◌ {A = ℕ} 0 1 = cc in omega arith)

pub same-types : (us ts : List ℕ) → types us ≡ types ts → us ≡ ts
same-types us ts e = cc

-- a computation by a test, taken apart
pub by-test : (t : Bool) (x y r : Types) {A : Type 0} → (t ≡ true → x ≡ r → A) → (t ≡ false → y ≡ r → A) → cond t x y ≡ r → A
by-test true x y r f g e = f refl e
by-test false x y r f g e = g refl e

module _ (b : List ℕ) (h : ℕ) where
  pub spelled-types : (at : ℕ) (ts : List ℕ) → Spelled b h at ts → types_at b h at ≡ types ts
  unfolding Spelled
  spelled-types at [] e = types-end b h at e
  spelled-types at (t ∷ ts) (s, v, f, r) =
      let w = varint-whole b at h s in
      types-next b h at (λ e. omega (arith, w.ends)) s (ap refused v ∙ f)
      ∙ ap (first (varint_bits b at h)) (spelled-types (at + varint_length b at h) ts r)
      ∙ ap (λ (x : ℕ). types (x ∷ ts)) v

  pub spelled-within : (at : ℕ) (ts : List ℕ) → Spelled b h at ts → at ≤ h
  unfolding Spelled
  spelled-within at [] e = omega arith
  spelled-within at (t ∷ ts) s = let w = varint-whole b at h s.0 in omega (arith, w.ends)

  after : (at : ℕ) (ts : List ℕ) → eqb (varint_length b at h) 0 ≡ false → refused (varint_bits b at h) ≡ false → (r : Types)
      → ((us : List ℕ) → r ≡ types us → Spelled b h (at + varint_length b at h) us) → first (varint_bits b at h) r ≡ types ts → Spelled b h at ts
  unfolding Spelled
  after at ts z f broken rest q = nothing ts q
  after at ts z f (types us) rest q =
      subst (Spelled b h at) (same-types (varint_bits b at h ∷ us) ts q)
      (omega (arith, eqb-false (varint_length b at h) 0 z), refl, f, rest us refl)

  pub types-spelled : (left at : ℕ) (ts : List ℕ) → types_from left b h at ≡ types ts → Spelled b h at ts
  unfolding types_from Spelled
  types-spelled zero at ts e = nothing ts e
  types-spelled (suc left) at ts e =
      by-test (eqb at h) _ _ (types ts)
      (λ p q. subst (Spelled b h at) (same-types [] ts q) (eqb-true at h p))
      (λ p.
      by-test (eqb (varint_length b at h) 0) _ _ (types ts)
      (λ z q. nothing ts q)
      (λ z.
      by-test (refused (varint_bits b at h)) _ _ (types ts)
      (λ f q. nothing ts q)
      (λ f q.
      after at ts z f (types_from left b h (at + varint_length b at h)) (λ us r. types-spelled left (at + varint_length b at h) us r) q)))
      e

filling-keeps : (b : List ℕ) (h : ℕ) (r : Types) (ts : List ℕ) → filling b h r ≡ types ts → (r ≡ types ts) × (h + sizes ts ≡ length b)
filling-keeps b h broken ts e = nothing ts e
filling-keeps b h (types us) ts e =
    by-test (eqb (h + sizes us) (length b)) _ _ (types ts)
    (λ p q. (q, ap (λ (l : List ℕ). h + sizes l) (sym (same-types us ts q)) ∙ eqb-true _ _ p))
    (λ p q. nothing ts q)
    e

module _ (b : List ℕ) (ts : List ℕ) where
  pub reads-layout : types_of b ≡ types ts → Layout b ts
  unfolding types_of
  reads-layout e =
      by-test (eqb (own_of b) 0) _ _ (types ts)
      (λ p q. nothing ts q)
      (λ p q.
      let k = filling-keeps b (header_of b) (types_at b (header_of b) (own_of b)) ts q in
      record {
        header = omega (arith, eqb-false (own_of b) 0 p);
        types = types-spelled b (header_of b) (suc (header_of b - own_of b)) (own_of b) ts k.0;
        values = k.1;
      })
      e

  pub layout-reads : Layout b ts → types_of b ≡ types ts
  unfolding types_of
  layout-reads l =
      let s = spelled-types b (header_of b) (own_of b) ts l.types in
      simp (ne_eqb (own_of b) 0 (λ z. omega (arith, l.header)), s, eq-eqb (header_of b + sizes ts) (length b) l.values)
