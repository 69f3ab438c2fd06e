-- The first n entries of three ledgers written down.
use Rattle.std.specs.Prelude.{ℕ, ◌+◌, ◌*◌, cond, List, ◌++◌, ltb, length, drop, Result, Ok, Err}
use Rattle.wire.specs.Wire.{proposal_of}
use Rattle.refusal.specs.declared.Rule as R

-- so many pages at most: the length of their entries and the version fits 4 bytes
abbrev pub most_pages : ℕ
most_pages = 477218588

-- 5 over so many pages, 12 where a ledger is too small, 44 where the output is; else the bytes written
unfoldable pub written_of : (n kinds namers steps out : ℕ) → Result ℕ R.Rule
written_of n k h s o =
    cond (ltb most_pages n) (Err R.TheVariants.TooManyPages)
    (cond (ltb k n) (Err R.TheVariants.SmallLedgers)
    (cond (ltb h n) (Err R.TheVariants.SmallLedgers)
    (cond (ltb s n) (Err R.TheVariants.SmallLedgers)
    (cond (ltb o (5 + n * 9)) (Err R.TheVariants.SmallOutput) (Ok (5 + n * 9))))))

-- the output then: as it was on a refusal; what lies past the bytes written never changes
abbrev pub out_of : Result ℕ R.Rule → (n : ℕ) (kinds namers steps out : List ℕ) → List ℕ
out_of (Ok length) n ks ns ss out = proposal_of n ks ns ss ++ drop length out
out_of (Err rule) n ks ns ss out = out
