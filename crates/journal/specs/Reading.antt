-- How the code goes through a journal's records: it steps over headers to the next record that counts.
use Rattle.std.specs.Prelude.{◌≡◌, ℕ, suc, ◌+◌, ◌≤◌, Bool, true, false, List, [], length, ◌≢◌, Option, MatchOption}
use Rattle.journal.specs.Header.{nonce_at, most_at, sector_of}
use Rattle.journal.specs.Records.{Record, ends}
pub use Rattle.journal.specs.Records.{rest_from}
use Rattle.journal.specs.declared.Record as R
use Rattle.journal.specs.declared.Records.{Records}

-- a record, as the definitions have it
abbrev pub record_of : R.Record → Record
record_of r = record { number = r.number; place = r.place }

-- what is still to be laid down
abbrev pub rest_of : Records → List Record
rest_of r = rest_from r.journal.bytes.now r.nonce r.left r.at

-- s is where the segment behind `at` begins
pub record Follows (j : List ℕ) (at s : ℕ) : Type 0 where
  pub same : (nonce : ℕ) → rest_from j nonce 0 at ≡ rest_from j (nonce_at j s) (most_at j s) (s + sector_of j)
  pub on : at ≤ s
  pub within : s + sector_of j ≤ length j

-- the next segment's place, or none: then nothing more is read
abbrev pub NextHeader : (j : List ℕ) (at : ℕ) → Option ℕ → Type 0
NextHeader j at r = MatchOption r ((nonce : ℕ) → rest_from j nonce 0 at ≡ []) (Follows j at)

-- where a record counts it stands at `at`; else nothing more is read
pub record Settled (from r : Records) (counts : Bool) : Type 0 where
  pub journal : r.journal ≡ from.journal
  pub same : rest_of r ≡ rest_of from
  pub on : from.at ≤ r.at
  pub some : counts ≡ true → (r.left ≢ 0)
  pub stands : counts ≡ true → ends r.journal.bytes.now r.nonce r.at ≡ false
  pub finished : counts ≡ false → rest_of r ≡ []
