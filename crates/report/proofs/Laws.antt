-- What the parts of a report give, as the code goes.
-- Assumes nothing.
use Rattle.std.proofs.Common.{◌≡◌, ℕ, ◌+◌, ◌-◌, ◌%◌, ◌^◌, ◌≤◌, Bool, true, false, cond, List, [], ◌∷◌, ◌++◌, length, take, drop, sym, refl, ap, ◌∙◌, subst, arith}
use lib.Ieee.{Float, binary64, add, is_nan}
use Rattle.record.specs.Record.{column_at}
use Rattle.image.specs.Payload.{payload_of}
use Rattle.lookup.specs.Answers.{fetched_of, out_of}
use Rattle.lookup.specs.Fetched as Fe
use Rattle.lookup.proofs.Shown.{copied-length}
use Rattle.report.specs.Told.{sum_told, nan_told, totals_told}
use Rattle.report.specs.Summary.{zero_bits, lesser, greater, added, told_of}
use Rattle.report.specs.Rows.{value_level, if_fetched, level_of, laid_over}
use Rattle.std.specs.Prelude.{Option}
use Rattle.report.specs.declared.Summary as Su
use Rattle.report.specs.Level as Le

-- ---- a summary
pub totals-are : (s : Su.Summary) (sum : Option Float) → sum_told sum ≡ cond (is_nan s.sum) zero_bits s.sum → nan_told sum ≡ is_nan s.sum
    → totals_told (record { least = s.least; greatest = s.greatest; sum = sum; count = s.count }) ≡ told_of s
unfolding told_of
totals-are s sum e f = rw (e, f) refl

abbrev pub made : (least greatest sum : Float) (count : ℕ) → Su.Summary
made l g s n = record { least = l; greatest = g; sum = s; count = n }

pub added_more : (s : Su.Summary) (met : Bool) (x l g : Float) (n : ℕ) → met ≡ true → l ≡ lesser s.least x → g ≡ greater s.greatest x → n ≡ (s.count + 1) % 2 ^ 64
    → made l g (add binary64 s.sum x) n ≡ added met s x
unfolding added
added_more s met x l g n m e f k = rw (m, e, f, k)

pub added-first : (s : Su.Summary) (met : Bool) (x : Float) (n : ℕ) → met ≡ false → n ≡ (s.count + 1) % 2 ^ 64 → made x x (add binary64 s.sum x) n ≡ added met s x
unfolding added
added-first s met x n m k = rw (m, k)

-- ---- a row
pub fetch-refuses : (b : List ℕ) (column p i : ℕ) (room out : List ℕ) (r : Fe.Fetched) → r ≡ fetched_of b p i (length room) → out ≡ out_of r (payload_of b p i) room
    → (number page : ℕ) → r ≡ Fe.Refused number page
    → (Le.Refused number page ≡ level_of b column p i (length room)) × (out ≡ laid_over b p i room)
unfolding level_of laid_over
fetch-refuses b column p i room out r e o number page k = (
  ap (λ f. if_fetched f (value_level p (column_at (payload_of b p i) column))) (sym k ∙ e),
  o ∙ ap (λ f. out_of f (payload_of b p i) room) e,
)

take-front : (s t : List ℕ) → take (length s) (s ++ t) ≡ s
take-front [] t = refl
take-front (x ∷ s) t = ap (λ l. x ∷ l) (take-front s t)

module _ (b : List ℕ) (p i : ℕ) (room out : List ℕ) (r : Fe.Fetched) (e : r ≡ fetched_of b p i (length room)) (o : out ≡ out_of r (payload_of b p i) room) (n : ℕ) (k : r ≡ Fe.Copied n) where
  pub fetched-fits : n ≤ length room
  fetched-fits = (copied-length b p i (length room) n (sym e ∙ k)).2

  -- what stands at the room's start is the payload
  pub fetched-front : take n out ≡ payload_of b p i
  fetched-front =
      let l = copied-length b p i (length room) n (sym e ∙ k) in
      ap (take n) (o ∙ ap (λ f. out_of f (payload_of b p i) room) k) ∙ ap (λ m. take m (payload_of b p i ++ drop n room)) l.0 ∙ take-front (payload_of b p i) (drop n room)

  pub fetch-copies : (column : ℕ) (l : Le.Level) → l ≡ value_level p (column_at (take n out) column)
      → (l ≡ level_of b column p i (length room)) × (out ≡ laid_over b p i room)
  unfolding level_of laid_over
  fetch-copies column l q = (
    q ∙ ap (λ s. value_level p (column_at s column)) fetched-front ∙ ap (λ f. if_fetched f (value_level p (column_at (payload_of b p i) column))) (sym k ∙ e),
    o ∙ ap (λ f. out_of f (payload_of b p i) room) e,
  )
