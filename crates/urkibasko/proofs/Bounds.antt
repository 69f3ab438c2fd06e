-- Numbers that fit 32 bits.
use Prim.Native.Nat.{ℕ, ◌*◌, ◌^◌, ◌≤◌}
use mathlib.Core.Path.{◌≡◌, sym, ap, ◌∙◌}
use mathlib.Core.Bool.{Bool, true, false, cond}
use mathlib.Core.List.{List}
use lib.Dec.{ltb, eqb}
use lib.IntN.{ℤ}
use Rattle.std.specs.Prelude.{Option, Some, None}
use native.Mathlib.Omega.{arith}
use borrow.Author.Tests.{eqb-true}
use Rattle.number.specs.Bytes.{word_of, signed_of}
use Rattle.number.specs.Varint.{number_is, varint_at, varint_size, is_shortest, answer_of, written_of}
use Rattle.number.specs.declared.Varint.{Varint}
use Rattle.number.proofs.Cases.{by_cond}
use Rattle.number.proofs.VarintLaws.{varint-length}
use Rattle.number.proofs.SpellingLaws.{varint-size}
use Rattle.paging.specs.Pages.{page_limit}
use Rattle.wal.specs.View.{pair_state, refusal_in, recovered_is, recover_of}
use Rattle.wal.specs.Recovered.{Recovered}
use Rattle.wal.proofs.ViewLaws.{state-bounds}
use Rattle.frames.specs.Table.{fill_refusal, filled_is, fill_of}
use Rattle.frames.specs.Filled.{Filled}
use Rattle.frames.proofs.Theorems.{fill-passes}

-- of a varint read
one_number : (t : Bool) (x v : Varint) → cond t None (Some x) ≡ Some v → v ≡ x
one_number true x v e = absurd (let y : ◌≡◌ {A = ℕ} 0 1 = cc in omega arith)
one_number false x v e = cc

pub read_length : (b : List ℕ) (at end : ℕ) (r : Option Varint) (v : Varint) → r ≡ answer_of (varint_at b at end) → r ≡ Some v → v.length ≤ 9
read_length b at end r v e h =
    let w = varint_at b at end in
    let k : v ≡ number_is (signed_of (2 ^ 63) w.bits) w.length (is_shortest w.length w.bits) = one_number (eqb w.length 0) _ v (sym e ∙ h) in
    omega (arith, varint-length b at end, ap (λ (x : Varint). x.length) k)

-- of a varint written
one_written : (t : Bool) (m n : ℕ) → cond t None (Some m) ≡ Some n → n ≡ m
one_written true m n e = absurd (let y : ◌≡◌ {A = ℕ} 0 1 = cc in omega arith)
one_written false m n e = cc

pub written-length : (v : ℤ) (room : ℕ) (r : Option ℕ) (n : ℕ) → r ≡ written_of v room → r ≡ Some n → n ≤ 9
written-length v room r n e h =
    let k : n ≡ varint_size (word_of v) = one_written (ltb room (varint_size (word_of v))) (varint_size (word_of v)) n (sym e ∙ h) in
    omega (arith, varint-size (word_of v))

-- of pages recovered from a log
module _ (log image : List ℕ) (room : ℕ) where
  passed : refusal_in (pair_state log image) log image room ≡ 0 → (pair_state log image).refusal ≡ 0
  unfolding refusal_in
  passed = by_cond (λ (n : ℕ). n ≡ 0 → (pair_state log image).refusal ≡ 0) (eqb (pair_state log image).refusal 0) _ _ (λ t e. eqb-true _ _ t) (λ t e. e)

  pub recovered-pages : (r : Recovered) → r ≡ recover_of log image room → r.pages ≤ page_limit
  unfolding recover_of
  recovered-pages r e =
      let s = pair_state log image in
      rw e
      (by_cond (λ (x : Recovered). x.pages ≤ page_limit) (eqb (refusal_in s log image room) 0) (recovered_is 0 s.pages (s.pages * s.size)) _
      (λ t. (state-bounds log image (passed (eqb-true _ _ t))).few)
      (λ t. omega arith))

-- of a table filled from a log
module _ (log image : List ℕ) (long : ℕ) where
  pub filled-small : (r : Filled) → r ≡ fill_of log image long → (r.pages ≤ page_limit) × (r.size ≤ 65536)
  unfolding fill_of
  filled-small r e =
      let s = pair_state log image in
      rw e
      (by_cond (λ (x : Filled). (x.pages ≤ page_limit) × (x.size ≤ 65536)) (eqb (fill_refusal s log long) 0) (filled_is 0 s.pages s.size) _
      (λ t. let b = state-bounds log image (fill-passes s log long (eqb-true _ _ t)).state in (b.few, b.most))
      (λ t. (omega arith, omega arith)))
