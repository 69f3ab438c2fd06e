-- Two images of one length with the same first hundred bytes: what their headers say is the same.
use Prim.Native.Nat.{ℕ, ◌+◌, ◌-◌, ◌/◌, ◌≤◌, ◌<◌}
use mathlib.Core.Path.{◌≡◌, refl, ap, ap₂}
use mathlib.Core.List.{List, [], ◌∷◌}
use lib.ListN.{length, replicate}
use native.Mathlib.Omega.{arith}
use Rattle.number.specs.Bytes.{byte_at, be}
use Rattle.number.proofs.BeLaws.{be-same}
use Rattle.header.specs.Header.{magic, holds, size_for, size_of, present_of, counted, pages_of, usable_of, form_refusal, field_refusal, header_refusal}
use Rattle.image.specs.Maps.{vacuum_in, fixed_in}

module _ (b c : List ℕ) (long : length c ≡ length b) (same : (i : ℕ) → i < 100 → byte_at c i ≡ byte_at b i) where
  pub be-kept : (k at : ℕ) → at + k ≤ 100 → be k c at ≡ be k b at
  be-kept k at h = be-same k c b at at (λ i l. same (at + i) (omega arith))

  holds_kept : (at : ℕ) (xs : List ℕ) → at + length xs ≤ 100 → holds c at xs ≡ holds b at xs
  unfolding holds
  holds_kept at [] h = refl
  holds_kept at (x ∷ xs) h = rw (same at (omega arith), holds_kept (at + 1) xs (omega arith)) refl

  pub size-kept : size_of c ≡ size_of b
  unfolding size_of
  size-kept = ap size_for (be-kept 2 16 (omega arith))

  pub usable-kept : usable_of c ≡ usable_of b
  unfolding usable_of
  usable-kept = ap₂ ◌-◌ size-kept (same 20 (omega arith))

  present-kept : present_of c ≡ present_of b
  unfolding present_of
  present-kept = ap₂ ◌/◌ long size-kept

  counted-kept : counted c ≡ counted b
  unfolding counted
  counted-kept = rw (be-kept 4 28 (omega arith), be-kept 4 24 (omega arith), be-kept 4 92 (omega arith)) refl

  pub pages-kept : pages_of c ≡ pages_of b
  unfolding pages_of
  pages-kept = rw (counted-kept, be-kept 4 28 (omega arith), present-kept) refl

  form-kept : form_refusal c ≡ form_refusal b
  unfolding form_refusal
  form-kept = rw (long, holds_kept 0 magic (omega arith), size-kept) refl

  field-kept : field_refusal c ≡ field_refusal b
  unfolding field_refusal
  field-kept =
      rw (
        usable-kept,
        holds_kept 21 (64 ∷ 32 ∷ 32 ∷ []) (omega arith),
        same 19 (omega arith),
        present-kept,
        pages-kept,
        be-kept 4 52 (omega arith),
        be-kept 4 64 (omega arith),
        holds_kept 72 (replicate 20 0) (omega arith),
      ) refl

  pub refusal-kept : header_refusal c ≡ header_refusal b
  unfolding header_refusal
  refusal-kept = rw (form-kept, field-kept) refl

  pub vacuum-kept : vacuum_in c ≡ vacuum_in b
  vacuum-kept = be-kept 4 52 (omega arith)

  pub fixed_kept : (p : ℕ) → fixed_in c p ≡ fixed_in b p
  unfolding fixed_in
  fixed_kept p = rw (size-kept, usable-kept, vacuum-kept) refl
