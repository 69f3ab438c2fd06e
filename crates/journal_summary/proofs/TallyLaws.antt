-- Counting on by one step, with steps enough for all of the journal.
use Prim.Native.Nat.{ℕ, zero, suc, ◌+◌, ◌-◌, ◌<◌, ◌≤◌}
use mathlib.Core.Path.{◌≡◌, sym, ap, ◌∙◌}
use mathlib.Core.Bool.{true, false, false≢true}
use mathlib.Core.List.{List}
use mathlib.Core.Logic.{◌⊎◌, inl, inr, ⊎_elim}
use native.Mathlib.Omega.{arith}
use lib.Dec.{eqb}
use lib.ListN.{length}
use borrow.Author.Tests.{eq-eqb, ne_eqb, eqb-true, eqb-false}
use Rattle.number.specs.Bytes.{be}
use Rattle.number.proofs.Cases.{true-or-false, lt-or-ge}
use Rattle.journal.specs.Header.{nonce_at, most_at, pages_in, sector_of, headed}
use Rattle.journal.specs.Records.{after, ends, sector_from}
use Rattle.journal.proofs.RecordLaws.{going_on}
use Rattle.journal.proofs.ReadingLaws.{not-headed}
use Rattle.journal_summary.specs.Summary.{header_stop, record_stop, layable, tally_is, plus, tally_from}
use Rattle.journal_summary.specs.Summary.{Tally}

-- more before more
pub plus-plus : (a b c d e f : ℕ) (t : Tally) → plus a b c (plus d e f t) ≡ plus (a + d) (b + e) (c + f) t
plus-plus a b c d e f t =
    let p : a + (d + t.segments) ≡ a + d + t.segments = omega arith in
    let q : b + (e + t.counting) ≡ b + e + t.counting = omega arith in
    let r : c + (f + t.laid) ≡ c + f + t.laid = omega arith in
    λ i. tally_is (p i) (q i) (r i) t.stop

-- where a header stands it fits
pub headed-fits : (j : List ℕ) (s : ℕ) → headed j s ≡ true → s + 28 ≤ length j
headed-fits j s h =
    ⊎_elim (λ (l : length j < s + 28). absurd (false≢true (sym (not-headed j s l) ∙ h))) (λ (l : s + 28 ≤ length j). l) (lt-or-ge (length j) (s + 28))

-- one step
module _ (j : List ℕ) (f s left at : ℕ) where
  pub tally-header : left ≡ 0 → headed j (sector_from j at) ≡ true
      → tally_from (suc f) j s left at ≡ plus 1 0 0 (tally_from f j (sector_from j at) (most_at j (sector_from j at)) (sector_from j at + sector_of j))
  unfolding tally_from
  tally-header z h = simp (eq-eqb left 0 z, h)

  pub tally-none : left ≡ 0 → headed j (sector_from j at) ≡ false → tally_from (suc f) j s left at ≡ tally_is 0 0 0 (header_stop j (sector_from j at))
  unfolding tally_from
  tally-none z h = simp (eq-eqb left 0 z, h)

  pub tally-record : (left ≡ 0 → ⊥) → ends j (nonce_at j s) at ≡ false
      → tally_from (suc f) j s left at ≡ plus 0 1 (layable (pages_in j) (be 4 j at)) (tally_from f j s (left - 1) (after j at))
  unfolding tally_from
  tally-record z h = simp (ne_eqb left 0 z, h)

  pub tally-ends : (left ≡ 0 → ⊥) → ends j (nonce_at j s) at ≡ true → tally_from (suc f) j s left at ≡ tally_is 0 0 0 (record_stop j s at)
  unfolding tally_from
  tally-ends z h = simp (ne_eqb left 0 z, h)

-- which step it is
pub data Step (j : List ℕ) (s left at : ℕ) : Type 0 where
  header : left ≡ 0 → headed j (sector_from j at) ≡ true → Step j s left at
  none : left ≡ 0 → headed j (sector_from j at) ≡ false → Step j s left at
  counts : (left ≡ 0 → ⊥) → ends j (nonce_at j s) at ≡ false → Step j s left at
  fails : (left ≡ 0 → ⊥) → ends j (nonce_at j s) at ≡ true → Step j s left at

pub step_of : (j : List ℕ) (s left at : ℕ) → Step j s left at
step_of j s left at = go (true-or-false (eqb left 0)) (true-or-false (headed j (sector_from j at))) (true-or-false (ends j (nonce_at j s) at))
  where
    go : (eqb left 0 ≡ true) ⊎ (eqb left 0 ≡ false) → (headed j (sector_from j at) ≡ true) ⊎ (headed j (sector_from j at) ≡ false)
        → (ends j (nonce_at j s) at ≡ true) ⊎ (ends j (nonce_at j s) at ≡ false) → Step j s left at
    go (inl z) (inl h) e = header (eqb-true left 0 z) h
    go (inl z) (inr h) e = none (eqb-true left 0 z) h
    go (inr z) h (inl e) = fails (eqb-false left 0 z) e
    go (inr z) h (inr e) = counts (eqb-false left 0 z) e

-- steps enough: one is left, also where all bytes are passed
abbrev pub Enough : (j : List ℕ) (f at : ℕ) → Type 0
Enough j f at = (1 ≤ f) × (length j + 2 ≤ at + f)

module _ (j : List ℕ) (some : 1 ≤ sector_of j) where
  pub enough-header : (f at : ℕ) → Enough j (suc f) at → headed j (sector_from j at) ≡ true → Enough j f (sector_from j at + sector_of j)
  enough-header f at e h = let l = headed-fits j (sector_from j at) h in (omega (arith, e.1, l), omega (arith, e.1, some))

  pub enough-record : (f nonce at : ℕ) → Enough j (suc f) at → ends j nonce at ≡ false → Enough j f (after j at)
  enough-record f nonce at e h = let l = (going_on j nonce at h).0 in (omega (arith, e.1, l), omega (arith, e.1))

  enough : (f g s left at : ℕ) → Enough j f at → Enough j g at → tally_from f j s left at ≡ tally_from g j s left at
  enough zero g s left at a b = absurd (let l = a.0 in omega arith)
  enough (suc f) zero s left at a b = absurd (let l = b.0 in omega arith)
  enough (suc f) (suc g) s left at a b =
      go
      (enough f g (sector_from j at) (most_at j (sector_from j at)) (sector_from j at + sector_of j))
      (enough f g s (left - 1) (after j at))
      (step_of j s left at)
    where
      go : (Enough j f (sector_from j at + sector_of j) → Enough j g (sector_from j at + sector_of j)
          → tally_from f j (sector_from j at) (most_at j (sector_from j at)) (sector_from j at + sector_of j)
          ≡ tally_from g j (sector_from j at) (most_at j (sector_from j at)) (sector_from j at + sector_of j))
          → (Enough j f (after j at) → Enough j g (after j at) → tally_from f j s (left - 1) (after j at) ≡ tally_from g j s (left - 1) (after j at))
          → Step j s left at → tally_from (suc f) j s left at ≡ tally_from (suc g) j s left at
      go headers records (header z h) =
          tally-header j f s left at z h ∙ ap (plus 1 0 0) (headers (enough-header f at a h) (enough-header g at b h))
          ∙ sym (tally-header j g s left at z h)
      go headers records (none z h) = tally-none j f s left at z h ∙ sym (tally-none j g s left at z h)
      go headers records (counts z h) =
          tally-record j f s left at z h
          ∙ ap (plus 0 1 (layable (pages_in j) (be 4 j at))) (records (enough-record f (nonce_at j s) at a h) (enough-record g (nonce_at j s) at b h))
          ∙ sym (tally-record j g s left at z h)
      go headers records (fails z h) = tally-ends j f s left at z h ∙ sym (tally-ends j g s left at z h)

  -- with all steps
  abbrev pub tally_rest : (s left at : ℕ) → Tally
  tally_rest s left at = tally_from (suc (length j)) j s left at

  module _ (s left at : ℕ) (on : 1 ≤ at) where
    all : Enough j (suc (length j)) at
    all = (omega arith, omega arith)

    pub rest-header : left ≡ 0 → headed j (sector_from j at) ≡ true
        → tally_rest s left at ≡ plus 1 0 0 (tally_rest (sector_from j at) (most_at j (sector_from j at)) (sector_from j at + sector_of j))
    rest-header z h =
        tally-header j (length j) s left at z h
        ∙ ap (plus 1 0 0)
        (enough (length j) (suc (length j)) (sector_from j at) (most_at j (sector_from j at)) (sector_from j at + sector_of j)
        (enough-header (length j) at all h) (omega arith, omega arith))

    pub rest-record : (left ≡ 0 → ⊥) → ends j (nonce_at j s) at ≡ false
        → tally_rest s left at ≡ plus 0 1 (layable (pages_in j) (be 4 j at)) (tally_rest s (left - 1) (after j at))
    rest-record z h =
        tally-record j (length j) s left at z h
        ∙ ap (plus 0 1 (layable (pages_in j) (be 4 j at)))
        (enough (length j) (suc (length j)) s (left - 1) (after j at) (enough-record (length j) (nonce_at j s) at all h) (omega arith, omega arith))
