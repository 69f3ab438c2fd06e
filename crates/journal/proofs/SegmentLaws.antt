-- Reading by segments: what is laid down is what reading comes to, and a segment's records stand before those of the next.
use Rattle.std.proofs.Common.{◌≡◌, ℕ, zero, suc, ◌+◌, ◌-◌, ◌*◌, ◌/◌, ◌%◌, ◌<◌, ◌≤◌, Bool, true, false, cond, eqb, ltb, ◌⊎◌, List, [], ◌∷◌, ◌++◌, length, sym, refl, ap, ◌∙◌, inl, inr, ⊎_elim, mod-lt, mod-eq_of_lt, suc-mul, eq-zero-or-pos, mul-le-mul_left, zero-mul, mul-suc, arith, le-ltb, lt-ltb, eqb-true}
use mathlib.Core.List.Memᴰ
use mathlib.Core.List.{Memᴰ as Mem}
use native.Mathlib.Nat.{mod_self, div-add-mod, mul-mod_right}
use borrow.Author.Tests.{eqb-false}
use Rattle.number.proofs.Cases.{true-or-false, lt-or-ge}
use Rattle.number.specs.Bytes.{be}
use Rattle.journal.specs.Header.{pages_in, sector_of, size_of, headed}
use Rattle.journal.specs.Records.{Record, record_at, after, ends, offer, sector_from, records_from, laid}
use Rattle.journal.specs.Reading.{rest_from}
use Rattle.journal.specs.Segments.{Reached, begins, passes, opens, Read, count_from, laid_from, end_of}
use Rattle.journal.proofs.ReadingLaws.{step-none, step-ends, rest-header, rest-record}

-- a record that is offered is the first, or it is skipped
offered : (j : List ℕ) (at : ℕ) (rs : List Record) (x : Record) → Mem x (offer j at rs) → ((x ≡ record_at j at) × (be 4 j at ≤ pages_in j)) ⊎ Mem x rs
unfolding offer
offered j at rs x m =
    ⊎_elim
    (λ (h : pages_in j < be 4 j at). inr (simp (lt-ltb _ _ h) at m))
    (λ (h : be 4 j at ≤ pages_in j).
    let m' : Mem x (record_at j at ∷ rs) = simp (le-ltb _ _ h) at m in
    ⊎_elim (λ (e : x ≡ record_at j at). inl (e, h)) (λ (n : Mem x rs). inr n) (Memᴰ.cases_cons m'))
    (lt-or-ge (pages_in j) (be 4 j at))

offered-rest : (j : List ℕ) (at : ℕ) (rs : List Record) (x : Record) → Mem x rs → Mem x (offer j at rs)
unfolding offer
offered-rest j at rs x m =
    ⊎_elim
    (λ (h : pages_in j < be 4 j at). rw (lt-ltb _ _ h) m)
    (λ (h : be 4 j at ≤ pages_in j). rw (le-ltb _ _ h) (Memᴰ.tail m))
    (lt-or-ge (pages_in j) (be 4 j at))

offered-first : (j : List ℕ) (at : ℕ) (rs : List Record) → be 4 j at ≤ pages_in j → Mem (record_at j at) (offer j at rs)
unfolding offer
offered-first j at rs h = rw (le-ltb _ _ h) (Memᴰ.head refl)

-- a multiple of s is no less than the next one behind what it is not below
multiple-least : (s q k x : ℕ) → 1 ≤ x → s * q + x ≤ s * k → s * q + s ≤ s * k
multiple-least s q k x one h =
    ⊎_elim
    (λ (l : q < k). let e : s * suc q ≤ s * k = mul-le-mul_left s l in omega (arith, mul-suc s q))
    (λ (l : k ≤ q). absurd (omega (arith, mul-le-mul_left {m = k} {n = q} s l)))
    (lt-or-ge q k)

module _ (j : List ℕ) (some : 1 ≤ sector_of j) where
  -- the first multiple of the sector size from `at` on
  pub next_multiple : (at : ℕ)
      → (sector_from j at % sector_of j ≡ 0) × (at ≤ sector_from j at) × ((m : ℕ) → m % sector_of j ≡ 0 → at ≤ m → sector_from j at ≤ m)
  next_multiple at =
      let s : ℕ = sector_of j in
      let whole : s * (at / s) + at % s ≡ at = div-add-mod at s in
      let under : at % s < s = mod-lt at {m = s} some in
      ⊎_elim
      (λ (z : at % s ≡ 0).
      let full : s - at % s ≡ s = omega arith in
      let e : (s - at % s) % s ≡ 0 = rw full (mod_self s) in
      let is : sector_from j at ≡ at = rw e (omega arith) in
      (ap (λ (x : ℕ). x % s) is ∙ z, omega arith, λ m a b. omega arith))
      (λ (p : 1 ≤ at % s).
      let e : (s - at % s) % s ≡ s - at % s = mod-eq_of_lt {n = s - at % s} {m = s} (omega arith) in
      let is : sector_from j at ≡ s * suc (at / s) = rw e (omega (arith, mul-suc s (at / s))) in (
        ap (λ (x : ℕ). x % s) is ∙ mul-mod_right s (suc (at / s)),
        omega arith,
        λ m a b.
            let m-is : s * (m / s) + m % s ≡ m = div-add-mod m s in
            let h = multiple-least s (at / s) (m / s) (at % s) p (omega arith) in
            omega (arith, mul-suc s (at / s)),
      ))
      (eq-zero-or-pos (at % s))

  -- what is laid down from a place that reading comes to is laid down of the whole
  from-here : {nonce left at : ℕ} → Reached j nonce left at → (x : Record) → Mem x (rest_from j nonce left at) → Mem x (laid j)
  from-here begins x m = m
  from-here (passes {nonce} {left} {at} r z e) x m = from-here r x (rw (rest-record j some nonce left at z e) (offered-rest j at _ x m))
  from-here (opens {nonce} {left} {at} r z h) x m = from-here r x (rw (z, rest-header j some nonce at h) m)

  pub reached-laid : {nonce left at : ℕ} → Reached j nonce left at → (left ≡ 0 → ⊥) → ends j nonce at ≡ false → be 4 j at ≤ pages_in j
      → Mem (record_at j at) (laid j)
  reached-laid {nonce} {left} {at} r z e h = from-here r (record_at j at) (rw (rest-record j some nonce left at z e) (offered-first j at _ h))

  -- what is laid down stands before a place that reading comes to, or is still to come there
  before : {nonce left at : ℕ} → Reached j nonce left at → (x : Record) → Mem x (laid j)
      → (x.place + size_of j + 4 ≤ at) ⊎ Mem x (rest_from j nonce left at)
  before begins x m = inr m
  before (passes {nonce} {left} {at} r z e) x m =
      ⊎_elim
      (λ (h : x.place + size_of j + 4 ≤ at). inl (omega arith))
      (λ (n : Mem x (rest_from j nonce left at)).
      ⊎_elim
      (λ (f : (x ≡ record_at j at) × (be 4 j at ≤ pages_in j)). let p : x.place ≡ at + 4 = ap (λ (y : Record). y.place) f.0 in inl (omega arith))
      (λ (k : Mem x (rest_from j nonce (left - 1) (after j at))). inr k)
      (offered j at _ x (rw (rest-record j some nonce left at z e) at n)))
      (before r x m)
  before (opens {nonce} {left} {at} r z h) x m =
      ⊎_elim
      (λ (k : x.place + size_of j + 4 ≤ at). inl (omega arith))
      (λ (n : Mem x (rest_from j nonce left at)). inr (rw (z, rest-header j some nonce at h) at n))
      (before r x m)

  pub none-behind : {nonce left at : ℕ} → Reached j nonce left at → rest_from j nonce left at ≡ [] → (x : Record) → Mem x (laid j)
      → x.place + size_of j + 4 ≤ at
  none-behind {nonce} {left} {at} r e x m =
      ⊎_elim
      (λ (h : x.place + size_of j + 4 ≤ at). h)
      (λ (n : Mem x (rest_from j nonce left at)). absurd (Memᴰ.not-nil (rw e at n)))
      (before r x m)

  -- one segment: all its counted records stand, or one ends the journal
  module _ (nonce : ℕ) where
    first_of : (left at : ℕ) → end_of j (suc left) at ≡ end_of j left (after j at)
    first_of left at = omega (arith, suc-mul left (size_of j + 8))

    one_more : (left at : ℕ) → ends j nonce at ≡ false → rest_from j nonce (suc left) at ≡ offer j at (rest_from j nonce left (after j at))
    one_more left at e =
        let k : suc left - 1 ≡ left = omega arith in
        rest-record j some nonce (suc left) at (λ z. omega arith) e ∙ ap (λ (x : ℕ). offer j at (rest_from j nonce x (after j at))) k

    pub alone : (left at : ℕ) → (count_from j nonce left at ≡ left → headed j (sector_from j (end_of j left at)) ≡ false)
        → rest_from j nonce left at ≡ laid_from j (count_from j nonce left at) at
    unfolding count_from laid_from offer
    alone zero at h =
        let e : end_of j 0 at ≡ at = omega (arith, zero-mul (size_of j + 8)) in
        step-none j (length j) nonce 0 at refl (rw e at (h refl))
    alone (suc left) at h =
        ⊎_elim
        (λ (e : ends j nonce at ≡ true). step-ends j (length j) nonce (suc left) at (λ z. omega arith) e ∙ rw e refl)
        (λ (e : ends j nonce at ≡ false).
        let c : count_from j nonce (suc left) at ≡ suc (count_from j nonce left (after j at)) = simp e in
        let ih =
        alone left (after j at)
        (λ k. ap (λ (x : ℕ). headed j (sector_from j x)) (sym (first_of left at)) ∙ h (c ∙ ap suc k)) in
        one_more left at e ∙ ap (offer j at) ih ∙ sym (ap (λ (k : ℕ). laid_from j k at) c))
        (true-or-false (ends j nonce at))

    pub followed : (left at : ℕ) → count_from j nonce left at ≡ left
        → rest_from j nonce left at ≡ laid_from j left at ++ rest_from j nonce 0 (end_of j left at)
    unfolding count_from laid_from offer
    followed zero at h =
        let e : end_of j 0 at ≡ at = omega (arith, zero-mul (size_of j + 8)) in
        rw e refl
    followed (suc left) at h =
        ⊎_elim
        (λ (e : ends j nonce at ≡ true). absurd (let z : ◌≡◌ {A = ℕ} 0 (suc left) = simp e at h in omega arith))
        (λ (e : ends j nonce at ≡ false).
        let c : suc (count_from j nonce left (after j at)) ≡ suc left = simp e at h in
        let ih = followed left (after j at) (omega arith) in
        let ih' : rest_from j nonce left (after j at) ≡ laid_from j left (after j at) ++ rest_from j nonce 0 (end_of j (suc left) at) =
        ih ∙ ap (λ (x : ℕ). laid_from j left (after j at) ++ rest_from j nonce 0 x) (sym (first_of left at)) in
        one_more left at e ∙ ap (offer j at) ih'
        ∙ joined (ltb (pages_in j) (be 4 j at)) (record_at j at) (laid_from j left (after j at)) (rest_from j nonce 0 (end_of j (suc left) at)))
        (true-or-false (ends j nonce at))
      where
        joined : (b : Bool) (r : Record) (xs ys : List Record) → cond b (xs ++ ys) (r ∷ (xs ++ ys)) ≡ cond b xs (r ∷ xs) ++ ys
        joined true r xs ys = refl
        joined false r xs ys = refl

-- what is laid down is read
module _ (j : List ℕ) where
  read-from : (f : ℕ) {nonce left at : ℕ} → Reached j nonce left at → (x : Record) → Mem x (records_from f j nonce left at) → Read j x
  unfolding records_from
  read-from zero r x m = absurd (Memᴰ.not-nil m)
  read-from (suc f) {nonce} {left} {at} r x m =
      ⊎_elim
      (λ (z : eqb left 0 ≡ true).
      ⊎_elim
      (λ (h : headed j (sector_from j at) ≡ true). read-from f (opens r (eqb-true left 0 z) h) x (simp (z, h) at m))
      (λ (h : headed j (sector_from j at) ≡ false). absurd (Memᴰ.not-nil (simp (z, h) at m)))
      (true-or-false (headed j (sector_from j at))))
      (λ (z : eqb left 0 ≡ false).
      ⊎_elim
      (λ (e : ends j nonce at ≡ true). absurd (Memᴰ.not-nil (simp (z, e) at m)))
      (λ (e : ends j nonce at ≡ false).
      ⊎_elim
      (λ (g : (x ≡ record_at j at) × (be 4 j at ≤ pages_in j)).
      record { nonce = nonce; left = left; at = at; reached = r; counted = eqb-false left 0 z; stands = e; within = g.1; is = g.0 })
      (λ (k : Mem x (records_from f j nonce (left - 1) (after j at))). read-from f (passes r (eqb-false left 0 z) e) x k)
      (offered j at (records_from f j nonce (left - 1) (after j at)) x (simp (z, e) at m)))
      (true-or-false (ends j nonce at)))
      (true-or-false (eqb left 0))

  pub laid-read : (x : Record) → Mem x (laid j) → Read j x
  laid-read x m = read-from (suc (length j)) begins x m
