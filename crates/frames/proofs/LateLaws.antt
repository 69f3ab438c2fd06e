-- Laws of late frames: of those that no entry can hold.
use Prim.Native.Nat.{ℕ, zero, suc, ◌+◌, ◌<◌, ◌≤◌}
use mathlib.Core.Path.{◌≡◌, refl, sym, ap, ◌∙◌}
use mathlib.Core.Logic.{⊎_elim}
use mathlib.Core.Bool.{Bool, true, false, true≢false}
use mathlib.Core.List.{List}
use native.Mathlib.Decide.{dec_le}
use native.Mathlib.Omega.{arith}
use lib.Dec.{eqb, leb}
use borrow.Author.Tests.{lt-ltb, le-ltb, eq-eqb, ne_eqb, le-leb, eqb-true, eqb-false, leb-true}
use Rattle.number.specs.Bytes.{be}
use Rattle.number.proofs.Cases.{lt-or-ge, by_cond}
use Rattle.wal.specs.Frames.{frame_at, page_number, last_of, last_frame}
use Rattle.wal.proofs.CutLaws.{last-later}
use Rattle.wal.proofs.FrameLaws.{last-below, last-passes}
use Rattle.frames.specs.Table.{entry_limit, late}
use Rattle.frames.specs.Filling.{of_pages}

-- ---- pages of 1 to n
pub of-pages : (n p : ℕ) → 1 ≤ p → p ≤ n → of_pages n p ≡ true
of-pages n p a b = rw (ne_eqb p 0 (λ z. omega arith)) (le-leb p n b)

pub are-of : (n p : ℕ) → of_pages n p ≡ true → (1 ≤ p) × (p ≤ n)
are-of n p =
    by_cond (λ (t : Bool). t ≡ true → (1 ≤ p) × (p ≤ n)) (eqb p 0) false (leb p n)
    (λ z h. absurd (true≢false (sym h)))
    (λ z h. let nz = eqb-false p 0 z in (omega arith, leb-true p n h))

-- ---- the last frame is no earlier than any frame that holds the page
pub last-above : (test : ℕ → Bool) (m k : ℕ) → k < m → test k ≡ true → suc k ≤ last_of test m
last-above test m k l h =
    ⊎_elim (λ (a : k < last_of test m). a) (λ (b : last_of test m ≤ k). absurd (true≢false (sym h ∙ last-later test m (last_of test m) k refl b l)))
    (lt-or-ge k (last_of test m))

module _ (size : ℕ) (log : List ℕ) (m : ℕ) where
  pub late-none : (n : ℕ) → ((p : ℕ) → 1 ≤ p → p ≤ n → last_frame size log p m ≤ entry_limit) → late size log m n ≡ false
  unfolding late
  late-none zero h = refl
  late-none (suc n) h =
      rw (late-none n (λ p a b. h p a (omega arith)), le-ltb entry_limit (last_frame size log (suc n) m) (h (suc n) (omega arith) (omega arith))) refl

  pub late-some : (n p : ℕ) → 1 ≤ p → p ≤ n → entry_limit < last_frame size log p m → late size log m n ≡ true
  unfolding late
  late-some zero p a b l = absurd (omega arith)
  late-some (suc n) p a b l = go (late-some n p a) (dec_le p n)
    where
      go : (p ≤ n → entry_limit < last_frame size log p m → late size log m n ≡ true) → Dec (p ≤ n) → late size log m (suc n) ≡ true
      go r (yes w) = rw (r w l) refl
      go r (no w) =
          let e : p ≡ suc n = omega arith in
          by_cond (λ (t : Bool). t ≡ true) (late size log m n) true _ (λ z. refl) (λ z. lt-ltb entry_limit (last_frame size log (suc n) m) (rw e at l))

  -- where none is late, a frame that holds a page of 1 to n fits an entry
  pub not_late : (n k : ℕ) → late size log m n ≡ false → k < m → of_pages n (page_number size log k) ≡ true → suc k ≤ entry_limit
  not_late n k h l o =
      let p : ℕ = page_number size log k in
      let r = are-of n p o in
      let above : suc k ≤ last_frame size log p m = last-above (λ (j : ℕ). eqb (page_number size log j) p) m k l (eq-eqb (page_number size log k) p refl) in
      ⊎_elim
      (λ (a : entry_limit < last_frame size log p m). absurd (true≢false (sym (late-some n p r.0 r.1 a) ∙ h)))
      (λ (b : last_frame size log p m ≤ entry_limit). omega arith)
      (lt-or-ge entry_limit (last_frame size log p m))

  -- as the code finds it
  pub fits-entry : (n k k' at p : ℕ) → late size log m n ≡ false → k < m → k' ≡ k + 1 → at ≡ frame_at size k → p ≡ be 4 log at → of_pages n p ≡ true → k' ≤ entry_limit
  fits-entry n k k' at p h l e place number o =
      let q : of_pages n (page_number size log k) ≡ true = ap (λ (x : ℕ). of_pages n (be 4 log x)) (sym place) ∙ ap (of_pages n) (sym number) ∙ o in
      omega (arith, not_late n k h l q)

  -- ---- the ways out of the search
  pub late-few : (n : ℕ) → m ≤ entry_limit → false ≡ late size log m n
  late-few n h =
      sym (late-none n (λ p a b. omega (arith, last-below (λ (j : ℕ). eqb (page_number size log j) p) m)))

  pub late-found : (n k at p : ℕ) (b : Bool) → entry_limit ≤ k → k < m → at ≡ frame_at size k → p ≡ be 4 log at → b ≡ of_pages n p → b ≡ true → true ≡ late size log m n
  late-found n k at p b far l place number is t =
      let e : page_number size log k ≡ p = ap (be 4 log) (sym place) ∙ sym number in
      let r = are-of n p (sym is ∙ t) in
      let above : suc k ≤ last_frame size log p m = last-above (λ (j : ℕ). eqb (page_number size log j) p) m k l (eq-eqb (page_number size log k) p e) in
      sym (late-some n p r.0 r.1 (omega arith))

-- so far no late frame was found to hold a page of 1 to n
pub record NoneTo (size : ℕ) (log : List ℕ) (n k : ℕ) : Type 0 where
  pub none : (j : ℕ) → entry_limit ≤ j → j < k → of_pages n (page_number size log j) ≡ false

pub none-next : (size : ℕ) (log : List ℕ) (n k at p : ℕ) (b : Bool) → NoneTo size log n k → at ≡ frame_at size k → p ≡ be 4 log at → b ≡ of_pages n p → b ≡ false
    → NoneTo size log n (k + 1)
none-next size log n k at p b h place number is f = record { none = λ j a l. go j a l (dec_le (suc j) k) }
  where
    here : of_pages n (page_number size log k) ≡ false
    here = ap (λ (x : ℕ). of_pages n (be 4 log x)) (sym place) ∙ ap (of_pages n) (sym number) ∙ sym is ∙ f

    go : (j : ℕ) → entry_limit ≤ j → j < k + 1 → Dec (suc j ≤ k) → of_pages n (page_number size log j) ≡ false
    go j a l (yes w) = h.none j a w
    go j a l (no w) = let e : j ≡ k = omega arith in rw e here

pub none-late : (size : ℕ) (log : List ℕ) (m n k : ℕ) → NoneTo size log n k → m ≤ k → false ≡ late size log m n
none-late size log m n k h out = sym (late-none size log m n (λ p a b. go p a b (last_frame size log p m) refl))
  where
    go : (p : ℕ) → 1 ≤ p → p ≤ n → (f : ℕ) → last_frame size log p m ≡ f → f ≤ entry_limit
    go p a b zero e = omega arith
    go p a b (suc j) e =
        let test : ℕ → Bool = λ (i : ℕ). eqb (page_number size log i) p in
        let is : page_number size log j ≡ p = eqb-true _ _ (last-passes test m j e) in
        let below : suc j ≤ m = rw (← e) (last-below test m) in
        ⊎_elim
        (λ (l : j < entry_limit). l)
        (λ (g : entry_limit ≤ j). absurd (true≢false (sym (of-pages n p a b) ∙ ap (of_pages n) (sym is) ∙ h.none j g (omega arith))))
        (lt-or-ge j entry_limit)
