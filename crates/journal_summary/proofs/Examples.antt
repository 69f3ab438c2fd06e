-- Worked by hand: a header that counts one record, of 512-byte pages and sectors, and one that counts all; the ways out; and a whole
-- journal of two segments.
use Prim.Native.Nat.{ℕ}
use mathlib.Core.Path.{◌≡◌, refl, ap, ◌∙◌}
use mathlib.Core.Bool.{cond}
use mathlib.Core.List.{List, [], ◌∷◌, ◌++◌}
use native.Mathlib.Omega.{arith}
use lib.Dec.{ltb}
use lib.ListN.{replicate, take}
use Rattle.number.specs.Bytes.{be}
use Rattle.paging.specs.Pages.{page_limit, size_fits, lock_page}
use Rattle.journal.specs.Header.{headed}
use Rattle.journal.specs.Records.{sum_of, ends, Record, record_at, offer, records_from, laid, carries, twice}
use Rattle.journal.proofs.ReadingLaws.{step-header, step-record, step-ends}
use Rattle.journal_summary.specs.Summary.{header_stop, record_stop, layable, tally_is, plus, tally_from, tally_of, untold, capped}
use Rattle.journal_summary.specs.Summary.{summary_is, refusal_of, told, summary_in, journal_summary_of}
use Rattle.journal_summary.proofs.TallyLaws.{tally-header, tally-record, tally-ends}

abbrev one : List ℕ
one = 217 ∷ 213 ∷ 5 ∷ 249 ∷ 32 ∷ 161 ∷ 99 ∷ 215 ∷ 0 ∷ 0 ∷ 0 ∷ 1 ∷ 0 ∷ 0 ∷ 0 ∷ 5 ∷ 0 ∷ 0 ∷ 0 ∷ 2 ∷ 0 ∷ 0 ∷ 2 ∷ 0 ∷ 0 ∷ 0 ∷ 2 ∷ 0 ∷ []

abbrev all : List ℕ
all = 217 ∷ 213 ∷ 5 ∷ 249 ∷ 32 ∷ 161 ∷ 99 ∷ 215 ∷ 255 ∷ 255 ∷ 255 ∷ 255 ∷ 0 ∷ 0 ∷ 0 ∷ 5 ∷ 0 ∷ 0 ∷ 0 ∷ 2 ∷ 0 ∷ 0 ∷ 2 ∷ 0 ∷ 0 ∷ 0 ∷ 2 ∷ 0 ∷ []

headers : (journal_summary_of (take 27 one) ≡ untold 0 1) × (journal_summary_of (0 ∷ one) ≡ untold 0 2)
unfolding journal_summary_of be
headers = (refl, refl)

-- behind the records: no room for a header, zeros, a magic that ends otherwise, and the magic, so that the sizes differ
next : (header_stop (one ++ replicate 484 0) 512 ≡ 0) × (header_stop (one ++ replicate 600 0) 512 ≡ 1)
    × (header_stop (one ++ replicate 484 0 ++ (0 ∷ take 27 one)) 512 ≡ 1) × (header_stop one 0 ≡ 2)
unfolding header_stop be
next = (refl, refl, refl, refl)

-- no byte of a record, and one: counted, it is cut both times; where all count, the file ends there the first time
cut : (record_stop (one ++ replicate 484 0) 0 512 ≡ 3) × (record_stop (one ++ replicate 485 0) 0 512 ≡ 3)
    × (record_stop (all ++ replicate 484 0) 0 512 ≡ 7) × (record_stop (all ++ replicate 485 0) 0 512 ≡ 3)
unfolding record_stop be
cut = (refl, refl, refl, refl)

-- a whole record: its number
abbrev stop : (a b c d : ℕ) → ℕ
stop a b c d = record_stop (one ++ replicate 484 0 ++ (a ∷ b ∷ c ∷ d ∷ replicate 516 0)) 0 512

reasons : (stop 0 0 0 0 ≡ 4) × (stop 0 32 0 1 ≡ 6) × (stop 0 0 0 1 ≡ 5)
unfolding record_stop be lock_page
reasons = (refl, refl, refl)

-- A page of zeros, whose sum is the nonce 5. Two segments, n being 2: page 1, which a count of 1 takes; then, behind a header at 1536,
-- pages 3, above n, and 2, which ffffffff takes.
abbrev page : (p : ℕ) → List ℕ
page p = 0 ∷ 0 ∷ 0 ∷ p ∷ replicate 512 0 ++ (0 ∷ 0 ∷ 0 ∷ 5 ∷ [])

abbrev segments : List ℕ
segments = one ++ replicate 484 0 ++ page 1 ++ replicate 504 0 ++ all ++ replicate 484 0 ++ page 3 ++ page 2

-- step by step: the headers and records counted, and the records laid down
first : tally_from 3089 segments 0 1 512 ≡ plus 0 1 1 (tally_from 3088 segments 0 0 1032)
unfolding ends sum_of be lock_page layable
first = tally-record segments 3088 0 1 512 (λ k. omega arith) refl

second : tally_from 3088 segments 0 0 1032 ≡ plus 1 0 0 (tally_from 3087 segments 1536 3088 2048)
unfolding headed be
second = tally-header segments 3087 0 0 1032 refl refl

third : tally_from 3087 segments 1536 3088 2048 ≡ plus 0 1 0 (tally_from 3086 segments 1536 3087 2568)
unfolding ends sum_of be lock_page layable
third = tally-record segments 3086 1536 3088 2048 (λ k. omega arith) refl

fourth : tally_from 3086 segments 1536 3087 2568 ≡ plus 0 1 1 (tally_from 3085 segments 1536 3086 3088)
unfolding ends sum_of be lock_page layable
fourth = tally-record segments 3085 1536 3087 2568 (λ k. omega arith) refl

fifth : tally_from 3085 segments 1536 3086 3088 ≡ tally_is 0 0 0 7
unfolding ends record_stop be
fifth = tally-ends segments 3084 1536 3086 3088 (λ k. omega arith) refl

tallied : tally_of segments ≡ tally_is 2 3 2 7
unfolding tally_of be
tallied =
    ap (plus 1 0 0) (first ∙ ap (plus 0 1 1) (second ∙ ap (plus 1 0 0) (third ∙ ap (plus 0 1 0) (fourth ∙ ap (plus 0 1 1) fifth))))

laid-first : records_from 3089 segments 5 1 512 ≡ record_at segments 512 ∷ records_from 3088 segments 5 0 1032
unfolding ends sum_of be lock_page offer
laid-first = step-record segments 3088 5 1 512 (λ k. omega arith) refl

laid-second : records_from 3088 segments 5 0 1032 ≡ records_from 3087 segments 5 3088 2048
unfolding headed be
laid-second = step-header segments 3087 5 0 1032 refl refl

laid-third : records_from 3087 segments 5 3088 2048 ≡ records_from 3086 segments 5 3087 2568
unfolding ends sum_of be lock_page offer
laid-third = step-record segments 3086 5 3088 2048 (λ k. omega arith) refl

laid-fourth : records_from 3086 segments 5 3087 2568 ≡ record_at segments 2568 ∷ records_from 3085 segments 5 3086 3088
unfolding ends sum_of be lock_page offer
laid-fourth = step-record segments 3085 5 3087 2568 (λ k. omega arith) refl

laid-fifth : records_from 3085 segments 5 3086 3088 ≡ []
unfolding ends be
laid-fifth = step-ends segments 3084 5 3086 3088 (λ k. omega arith) refl

laid-all : laid segments ≡ record_at segments 512 ∷ record_at segments 2568 ∷ []
unfolding be
laid-all =
    laid-first ∙ ap (λ (x : List Record). record_at segments 512 ∷ x)
    (laid-second ∙ laid-third ∙ laid-fourth ∙ ap (λ (x : List Record). record_at segments 2568 ∷ x) laid-fifth)

accepted : refusal_of segments ≡ 0
unfolding refusal_of twice carries be
accepted = ap (λ (x : List Record). cond (ltb page_limit 2) 42 (cond (twice x) 45 0)) laid-all

whole : journal_summary_of segments
    ≡ record { refusal = 0; header = 0; page_size = 512; sector_size = 512; pages = 2; segments = 2; counting = 3; laid = 2; stop = 7 }
unfolding journal_summary_of summary_in told capped be size_fits
whole = λ i. summary_is (accepted i) 512 512 2 (tallied i)
