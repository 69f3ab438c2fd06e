-- Words for what is said of segments in proofs/Theorems.antt. The code does not use them.
use Rattle.std.specs.Prelude.{◌≡◌, ℕ, zero, suc, ◌+◌, ◌-◌, ◌*◌, ◌≤◌, true, false, cond, List, [], ◌∷◌, ◌≢◌, nat_lt}
use Rattle.number.specs.Bytes.{be}
use Rattle.journal.specs.Header.{nonce_at, most_at, pages_in, sector_of, size_of, headed}
use Rattle.journal.specs.Records.{Record, record_at, after, ends, sector_from}

-- Where reading comes to: `left` more records with that nonce are counted, from `at` on. It begins behind the first header, passes a record that does not end
-- the journal, and opens the next segment where no record is left and a header stands.
pub data Reached (j : List ℕ) : (nonce left at : ℕ) → Type 0 where
  begins : Reached j (nonce_at j 0) (most_at j 0) (sector_of j)
  passes : {nonce left at : ℕ} → Reached j nonce left at → (left ≢ 0) → ends j nonce at ≡ false → Reached j nonce (left - 1) (after j at)
  opens : {nonce left at : ℕ} → Reached j nonce left at → left ≡ 0 → headed j (sector_from j at) ≡ true
      → Reached j (nonce_at j (sector_from j at)) (most_at j (sector_from j at)) (sector_from j at + sector_of j)

-- x is a record that reading comes to and that does not end the journal; its number is at most n
pub record Read (j : List ℕ) (x : Record) : Type 0 where
  pub nonce : ℕ
  pub left : ℕ
  pub at : ℕ
  pub reached : Reached j nonce left at
  pub counted : left ≡ 0 → ⊥
  pub stands : ends j nonce at ≡ false
  pub within : be 4 j at ≤ pages_in j
  pub is : x ≡ record_at j at

-- One segment: how many records stand before the end, of at most `left` from `at` on, ..
unfoldable pub count_from : List ℕ → (nonce left at : ℕ) → ℕ
count_from j nonce zero at = 0
count_from j nonce (suc left) at = cond (ends j nonce at) 0 (suc (count_from j nonce left (after j at)))

-- .. and those of the k records from `at` on that are laid down: numbers above n are skipped
unfoldable pub laid_from : List ℕ → (k at : ℕ) → List Record
laid_from j zero at = []
laid_from j (suc k) at =
    cond (nat_lt (pages_in j) (be 4 j at)) (laid_from j k (after j at)) (record_at j at ∷ laid_from j k (after j at))

-- where `left` counted records from `at` on end
abbrev pub end_of : List ℕ → (left at : ℕ) → ℕ
end_of j left at = at + left * (size_of j + 8)
