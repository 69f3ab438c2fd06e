-- Each way out of `ends_at`; what a record that does not end the records has.
use Rattle.std.proofs.Common.{◌≡◌, ℕ, suc, ◌+◌, ◌-◌, ◌/◌, ◌<◌, ◌≤◌, Bool, true, false, cond, not, eqb, ◌⊎◌, List, length, sym, refl, ap, ◌∙◌, inl, inr, ⊎_elim, eq-zero-or-pos, arith, rules, le-ltb, lt-ltb, eq-eqb, ne_eqb, eqb-true}
use Rattle.number.proofs.Cases.{lt-or-ge}
use Rattle.number.specs.Bytes.{be}
use Rattle.paging.specs.Pages.{lock_page}
use Rattle.journal.specs.Header.{size_of}
use Rattle.journal.specs.Records.{sum_of, after, ends}

pub ends-far : (j : List ℕ) (nonce at : ℕ) → length j < at → true ≡ ends j nonce at
unfolding ends
ends-far j nonce at h = let k : length j < after j at = omega arith in simp (lt-ltb _ _ k)

pub ends-short : (j : List ℕ) (nonce at size : ℕ) → size ≡ size_of j → at ≤ length j → length j - at < size + 8 → true ≡ ends j nonce at
unfolding ends
ends-short j nonce at size e h g = let k : length j < after j at = omega arith in simp (lt-ltb _ _ k)

pub ends-zero : (j : List ℕ) (nonce at size number : ℕ) → size ≡ size_of j → at ≤ length j → size + 8 ≤ length j - at → number ≡ be 4 j at
    → number ≡ 0 → true ≡ ends j nonce at
unfolding ends
ends-zero j nonce at size number e h g f z =
    let k : after j at ≤ length j = omega arith in
    let w : be 4 j at ≡ 0 = sym f ∙ z in
    simp (le-ltb _ _ k, eq-eqb _ _ w)

pub ends-lock : (j : List ℕ) (nonce at size number lock : ℕ) → size ≡ size_of j → at ≤ length j → size + 8 ≤ length j - at
    → number ≡ be 4 j at → (number ≡ 0 → ⊥)
    → lock ≡ lock_page size → number ≡ lock → true ≡ ends j nonce at
unfolding ends
ends-lock j nonce at size number lock e h g f z is-lock same =
    let k : after j at ≤ length j = omega arith in
    let w : be 4 j at ≡ 0 → ⊥ = λ x. z (f ∙ x) in
    let l : be 4 j at ≡ lock_page (size_of j) = sym f ∙ same ∙ is-lock ∙ ap lock_page e in
    simp (le-ltb _ _ k, ne_eqb _ _ w, eq-eqb _ _ l)

pub ends-sum : (j : List ℕ) (at size nonce number lock stored sum : ℕ) → size ≡ size_of j → at ≤ length j → size + 8 ≤ length j - at
    → number ≡ be 4 j at
    → (number ≡ 0 → ⊥) → lock ≡ lock_page size → (number ≡ lock → ⊥) → stored ≡ be 4 j (at + 4 + size)
    → sum ≡ sum_of j nonce (at + 4) size ((size - 1) / 200) → not (eqb stored sum) ≡ ends j nonce at
unfolding ends
ends-sum j at size nonce number lock stored sum e h g f z is-lock other s t =
    let k : after j at ≤ length j = omega arith in
    let w : be 4 j at ≡ 0 → ⊥ = λ x. z (f ∙ x) in
    let l : be 4 j at ≡ lock_page (size_of j) → ⊥ = λ x. other (f ∙ x ∙ sym (is-lock ∙ ap lock_page e)) in
    simp (le-ltb _ _ k, ne_eqb _ _ w, ne_eqb _ _ l, s, t, e)

pub ruleset ending = (rules, ends-far, ends-short, ends-zero, ends-lock, ends-sum)

-- a record that does not end them is whole, and its number is not 0
pub going_on : (j : List ℕ) (nonce at : ℕ) → ends j nonce at ≡ false → (after j at ≤ length j) × (1 ≤ be 4 j at)
unfolding ends
going_on j nonce at h =
    ⊎_elim
    (λ (short : length j < after j at). absurd (let z : ◌≡◌ {A = Bool} true false = simp (lt-ltb _ _ short) at h in
    let y : ◌≡◌ {A = ℕ} 0 1 = cc in omega arith))
    (λ (whole : after j at ≤ length j).
    ⊎_elim
    (λ (z : be 4 j at ≡ 0). absurd (let x : ◌≡◌ {A = Bool} true false = simp (le-ltb _ _ whole, eq-eqb _ _ z) at h in
    let y : ◌≡◌ {A = ℕ} 0 1 = cc in omega arith))
    (λ (some : 1 ≤ be 4 j at). (whole, some))
    (eq-zero-or-pos (be 4 j at)))
    (lt-or-ge (length j) (after j at))

-- a record with the lock-byte page's number ends them, whatever its sum
pub lock-ends : (j : List ℕ) (nonce at : ℕ) → be 4 j at ≡ lock_page (size_of j) → ends j nonce at ≡ true
unfolding ends
lock-ends j nonce at h =
    ⊎_elim
    (λ (short : length j < after j at). simp (lt-ltb _ _ short))
    (λ (whole : after j at ≤ length j).
    ⊎_elim
    (λ (z : be 4 j at ≡ 0). simp (le-ltb _ _ whole, eq-eqb _ _ z))
    (λ (some : 1 ≤ be 4 j at).
    let w : be 4 j at ≡ 0 → ⊥ = λ x. omega arith in
    simp (le-ltb _ _ whole, ne_eqb _ _ w, eq-eqb (be 4 j at) (lock_page (size_of j)) h))
    (eq-zero-or-pos (be 4 j at)))
    (lt-or-ge (length j) (after j at))
