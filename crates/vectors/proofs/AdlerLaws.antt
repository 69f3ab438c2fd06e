-- The sum of a list, number by number: whatever becomes of the rest becomes of the whole.
use Rattle.std.proofs.Common.{◌≡◌, ℕ, ◌+◌, ◌*◌, ◌%◌, ◌<◌, ◌≤◌, List, length, get_or, drop, refl, add-one, arith, drop-cons}
use Rattle.std.proofs.Math.ListN.{drop_of_length-le}
use Rattle.vectors.specs.Adler.{adler_from, adler}

pub record Summing (b : List ℕ) (low high i : ℕ) : Type 0 where
  pub within : i ≤ length b
  pub low_small : low < 65521
  pub high_small : high < 65521
  pub is : adler_from low high (drop i b) ≡ adler b

pub adler-start : (b : List ℕ) → Summing b 1 0 0
adler-start b = record { within = omega arith; low_small = omega arith; high_small = omega arith; is = refl }

pub adler-more : (b : List ℕ) (low high i w low' high' i' : ℕ) → Summing b low high i → i < length b → w ≡ get_or b i 0
    → low' ≡ (low + w) % 65521 → high' ≡ (high + low') % 65521 → i' ≡ i + 1 → Summing b low' high' i'
unfolding adler_from
adler-more b low high i w low' high' i' s h e f g k =
    record {
      within = omega arith;
      low_small = omega arith;
      high_small = omega arith;
      is = rw (g, f, e, k, add-one i) (rw (drop-cons b i 0 h) at s.is);
    }

-- the same with each number written out
pub adler-next : (b : List ℕ) (low high i : ℕ) → Summing b low high i → i < length b
    → Summing b ((low + get_or b i 0) % 65521) ((high + (low + get_or b i 0) % 65521) % 65521) (i + 1)
adler-next b low high i s h = adler-more b low high i _ _ _ _ s h refl refl refl refl

pub adler-end : (b : List ℕ) (low high i : ℕ) → Summing b low high i → length b ≤ i → high * 65536 + low ≡ adler b
unfolding adler_from
adler-end b low high i s h = rw (drop_of_length-le b h) at s.is

pub ruleset sums = (adler-start, adler-next, adler-end)
