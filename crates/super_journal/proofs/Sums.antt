-- The sum of a name, by what is left: what was summed and what is still to be summed are all of it.
use Rattle.std.proofs.Common.{◌≡◌, ℕ, ◌+◌, ◌%◌, ◌^◌, ◌<◌, ◌≤◌, List, [], ◌∷◌, length, drop, get_or, refl, ap, arith}
use Rattle.std.proofs.Math.Seq.{drop-length}
use Rattle.std.proofs.lemmas.List.{drop_more}
use Rattle.super_journal.specs.Name.{signed_byte, signed_sum}

pub record Summing (l : List ℕ) (i s : ℕ) : Type 0 where
  pub small : s < 2 ^ 32
  pub within : i ≤ length l
  pub all : (s + signed_sum (drop i l)) % 2 ^ 32 ≡ signed_sum l

signed-small : (l : List ℕ) → signed_sum l < 2 ^ 32
unfolding signed_sum
signed-small [] = omega arith
signed-small (x ∷ xs) = omega arith

pub sum_starts : (l : List ℕ) → Summing l 0 0
sum_starts l = record { small = omega arith; within = omega arith; all = omega (arith, signed-small l) }

pub sum_on : (l : List ℕ) (i s b : ℕ) → Summing l i s → i < length l → b ≡ signed_byte (get_or l i 0) → Summing l (i + 1) ((s + b) % 2 ^ 32)
unfolding signed_sum
sum_on l i s b g h e =
    let d : signed_sum (drop i l) ≡ (signed_byte (get_or l i 0) + signed_sum (drop (i + 1) l)) % 2 ^ 32 = ap signed_sum (drop_more l i 0 h) in
    record { small = omega arith; within = omega arith; all = omega (arith, d, e, g.all) }

pub sum_ends : (l : List ℕ) (i s : ℕ) → Summing l i s → length l ≤ i → s ≡ signed_sum l
unfolding signed_sum
sum_ends l i s g h =
    let k : i ≡ length l = omega (arith, g.within) in
    let d : signed_sum (drop i l) ≡ 0 = rw (k, drop-length) refl in
    omega (arith, g.small, g.all, d)
