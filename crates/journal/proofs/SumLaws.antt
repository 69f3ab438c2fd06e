-- The sum of a page, byte by byte: with `offset` bytes of the page still before it, the bytes at its size less 200, 400, .. down to `offset` are in.
use Rattle.std.proofs.Common.{◌≡◌, ℕ, suc, ◌+◌, ◌-◌, ◌*◌, ◌/◌, ◌%◌, ◌^◌, ◌<◌, ◌≤◌, List, refl, ap, ◌∙◌, arith, rules}
use Rattle.number.specs.Bytes.{byte_at}
use Rattle.journal.specs.Records.{sum_of}

pub record Summing (j : List ℕ) (nonce at size sum offset : ℕ) : Type 0 where
  pub some : 1 ≤ offset
  pub within : offset ≤ size
  pub even : (size - offset) % 200 ≡ 0
  pub small : sum < 2 ^ 32
  pub is : sum ≡ sum_of j nonce at size ((size - offset) / 200)

pub sum-start : (j : List ℕ) (nonce at size : ℕ) → 1 ≤ size → nonce < 2 ^ 32 → Summing j nonce at size nonce size
unfolding sum_of
sum-start j nonce at size h k =
    let e : size - size ≡ 0 = omega arith in
    record { some = h; within = omega arith; even = rw e refl; small = k; is = rw e refl }

pub sum_more : (j : List ℕ) (nonce at size sum offset offset' w s : ℕ) → Summing j nonce at size sum offset → 200 < offset → offset' ≡ offset - 200
    → w ≡ byte_at j (at + offset') → s ≡ (sum + w) % 2 ^ 32 → Summing j nonce at size s offset'
unfolding sum_of
sum_more j nonce at size sum offset offset' w s i h o e f =
    let k : (size - offset') / 200 ≡ suc ((size - offset) / 200) = omega (arith, i.even, i.within) in
    let l : size - 200 * suc ((size - offset) / 200) ≡ offset' = omega (arith, i.even, i.within) in
    record {
      some = omega arith;
      within = omega (arith, i.within);
      even = omega (arith, i.even, i.within);
      small = omega arith;
      is = rw (k, l) (f ∙ ap (λ (x : ℕ). (x + w) % 2 ^ 32) i.is ∙ ap (λ (x : ℕ). (sum_of j nonce at size ((size - offset) / 200) + x) % 2 ^ 32) e);
    }

pub ruleset sums = (rules, sum-start, sum_more)
