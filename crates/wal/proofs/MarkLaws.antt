-- Laws of the marks of pages that frames hold, and of the search for a page's last frame.
use Prim.Native.Nat.{ℕ, suc, ◌+◌, ◌-◌, ◌<◌, ◌≤◌}
use mathlib.Core.Path.{◌≡◌, refl, sym, ap, ◌∙◌}
use mathlib.Core.Bool.{Bool, true, false, cond, not}
use mathlib.Core.List.{List}
use native.Mathlib.Numerals.{add-one}
use native.Mathlib.Omega.{arith}
use lib.Dec.{eqb}
use borrow.Author.Tests.{eq-eqb, ne_eqb}
use Rattle.number.specs.Bytes.{be}
use Rattle.wal.specs.Frames.{frame_at, page_number, last_of, last_frame}
use Rattle.paging.specs.Pages.{lock_page}
use Rattle.paging.specs.Bits.{Clear, Noted}
use Rattle.wal.specs.Whole.{Marks, Covers}

-- ---- the marks, frame by frame
pub marks-none : (size : ℕ) (log : List ℕ) (n : ℕ) (t : List ℕ) → Clear t → Marks size log 0 n t
unfolding last_of
marks-none size log n t h = record { entry = λ j l. h.none j }

held_next : (b : Bool) (k x : ℕ) → cond b true (not (eqb x 0)) ≡ not (eqb (cond b (suc k) x) 0)
held_next true k x = rw (ne_eqb (suc k) 0 (λ z. omega arith)) refl
held_next false k x = refl

pub marks-next : (size : ℕ) (log : List ℕ) (n : ℕ) (t t' : List ℕ) (k at p : ℕ) → Marks size log k n t → at ≡ frame_at size k → p ≡ be 4 log at → Noted n t p t'
    → Marks size log (k + 1) n t'
unfolding last_of
marks-next size log n t t' k at p h place number noted =
    record {
      entry = λ j l.
          let q : be 4 log (frame_at size k) ≡ p = ap (be 4 log) (sym place) ∙ sym number in
          noted.entry j l ∙ rw (add-one, q, h.entry j l) (held_next (eqb p (suc j)) k (last_frame size log (suc j) k));
    }

-- the lock-byte page's mark, set last
pub marks-lock : (size : ℕ) (log : List ℕ) (m n : ℕ) (t t' : List ℕ) (l : ℕ) → Marks size log m n t → l ≡ lock_page size → Noted n t l t' → Covers size log m n t'
marks-lock size log m n t t' l h is-l noted = record { entry = λ j k. noted.entry j k ∙ rw (is-l, h.entry j k) refl }

-- ---- the search, downwards
module _ (size : ℕ) (log : List ℕ) (page m k : ℕ) (some : 0 < k) (left : last_frame size log page m ≡ last_frame size log page k)
    (at x : ℕ) (place : at ≡ frame_at size (k - 1)) (number : x ≡ be 4 log at) where
  is_number : page_number size log (k - 1) ≡ x
  is_number = ap (be 4 log) (sym place) ∙ sym number

  last-is : last_frame size log page k ≡ cond (eqb x page) k (last_frame size log page (k - 1))
  unfolding last_of
  last-is =
      let e : k ≡ suc (k - 1) = omega arith in
      ap (last_frame size log page) e ∙ rw is_number (rw (← e) refl)

  pub last-hit : x ≡ page → k ≡ last_frame size log page m
  last-hit h = sym (left ∙ last-is ∙ rw (eq-eqb x page h) refl)

  pub last-miss : (x ≡ page → ⊥) → last_frame size log page m ≡ last_frame size log page (k - 1)
  last-miss h = left ∙ last-is ∙ rw (ne_eqb x page h) refl

pub last_out : (size : ℕ) (log : List ℕ) (page m k : ℕ) → k ≤ 0 → last_frame size log page m ≡ last_frame size log page k → 0 ≡ last_frame size log page m
unfolding last_of
last_out size log page m k h e = let z : k ≡ 0 = omega arith in sym (rw z at e)
