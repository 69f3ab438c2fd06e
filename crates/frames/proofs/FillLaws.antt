-- Laws of the table while it is filled, and of what the fill answers and leaves.
use Prim.Native.Nat.{ℕ, zero, suc, ◌+◌, ◌-◌, ◌<◌, ◌≤◌}
use mathlib.Core.Path.{◌≡◌, refl, sym, ap, ◌∙◌}
use mathlib.Core.Bool.{Bool, true, false}
use mathlib.Core.List.{List, [], ◌∷◌, ◌++◌}
use native.Mathlib.Decide.{dec_le}
use native.Mathlib.Numerals.{add-one}
use native.Mathlib.Omega.{arith}
use lib.ListN.{length, get_or, drop, replicate, length-append, length-drop, length-take, take, get_or-replicate, length-replicate, get_or-append}
use lib.Seq.{drop-append_seam, get_or-append-add, get_or-drop, ext_get_or}
use borrow.Author.Tests.{eq-eqb, ne_eqb, lt-ltb, le-ltb}
use Rattle.number.specs.Bytes.{be}
use Rattle.wal.specs.Frames.{frame_at, last_of, last_frame}
use Rattle.wal.specs.View.{pair_state}
use Rattle.wal.specs.State.{State}
use Rattle.frames.specs.Table.{late, fill_refusal, filled_is, fill_of, last_frames, table_of}
use Rattle.frames.specs.Filling.{Noted, Filling}

-- ---- a list before another
behind : (x t : List ℕ) (n j : ℕ) → length x ≡ n → n ≤ j → get_or (x ++ drop n t) j 0 ≡ get_or t j 0
behind x t n j e l =
    let k : ℕ = j - n in
    let i : length x + k ≡ j = omega arith in
    let i' : n + k ≡ j = omega arith in
    rw i at (get_or-append-add x (drop n t) k 0) ∙ get_or-drop n t k 0 ∙ ap (λ (q : ℕ). get_or t q 0) i'

-- ---- the table, frame by frame
pub zeroed : (n : ℕ) (t w : List ℕ) → n ≤ length t → w ≡ replicate (length (take n t)) 0 → w ++ drop n t ≡ replicate n 0 ++ drop n t
zeroed n t w fits e =
    let z : length (take n t) ≡ n = omega (arith, length-take n t) in
    rw (e, z) refl

-- all entries of pages are 0 at first
module _ (n : ℕ) (t₀ t : List ℕ) (fits : n ≤ length t₀) (e : t ≡ replicate n 0 ++ drop n t₀) where
  pub cleared-length : length t ≡ length t₀
  cleared-length = rw e (simp (length-append, length-replicate, length-drop) (omega arith))

  cleared-drop : drop n t ≡ drop n t₀
  cleared-drop =
      let z : length {A = ℕ} (replicate n 0) ≡ n = length-replicate n 0 in
      ap (drop n) e ∙ rw z at (drop-append_seam (replicate n 0) (drop n t₀))

  pub filling-none : (size : ℕ) (log : List ℕ) → Filling size log 0 n t t
  unfolding last_of
  filling-none size log =
      record {
        same = refl;
        entry = λ j l. rw e (get_or-append (replicate n 0) (drop n t₀) 0 j (rw (length-replicate {A = ℕ} n 0) l) ∙ get_or-replicate n j 0 0 l);
        past = λ j l. refl;
      }

pub filling-next : (size : ℕ) (log : List ℕ) (n : ℕ) (t₀ t t' : List ℕ) (k k' at p : ℕ) → Filling size log k n t₀ t → k' ≡ k + 1 → at ≡ frame_at size k → p ≡ be 4 log at
    → Noted n t p k' t' → Filling size log k' n t₀ t'
unfolding last_of
filling-next size log n t₀ t t' k k' at p h e place number noted =
    record {
      same = noted.same ∙ h.same;
      entry = λ j l.
          let q : be 4 log (frame_at size k) ≡ p = ap (be 4 log) (sym place) ∙ sym number in
          noted.entry j l ∙ rw (e, add-one, q, ← h.entry j l) refl;
      past = λ j l. noted.past j l ∙ h.past j l;
    }

-- ---- the entries of the pages 1 to n
module _ (size : ℕ) (log : List ℕ) (m : ℕ) where
  pub frames-length : (n : ℕ) → length (last_frames size log m n) ≡ n
  unfolding last_frames
  frames-length zero = refl
  frames-length (suc n) = length-append (last_frames size log m n) (last_frame size log (suc n) m ∷ []) ∙ rw (frames-length n) (add-one n)

  pub frames-at : (n j : ℕ) → j < n → get_or (last_frames size log m n) j 0 ≡ last_frame size log (suc j) m
  unfolding last_frames
  frames-at zero j l = absurd (omega arith)
  frames-at (suc n) j l = go (frames-at n j) (dec_le (suc j) n)
    where
      go : (j < n → get_or (last_frames size log m n) j 0 ≡ last_frame size log (suc j) m) → Dec (suc j ≤ n)
          → get_or (last_frames size log m n ++ (last_frame size log (suc n) m ∷ [])) j 0 ≡ last_frame size log (suc j) m
      go r (yes w) = get_or-append (last_frames size log m n) (last_frame size log (suc n) m ∷ []) 0 j (rw (frames-length n) w) ∙ r w
      go r (no w) =
          let e : n ≡ j = omega arith in
          let i : length (last_frames size log m n) + 0 ≡ j = omega (arith, frames-length n) in
          rw i at (get_or-append-add (last_frames size log m n) (last_frame size log (suc n) m ∷ []) 0 0) ∙ ap (λ (q : ℕ). last_frame size log (suc q) m) e

  -- a table filled from all m frames
  filled-from : (n : ℕ) (t₀ t : List ℕ) → n ≤ length t₀ → Filling size log m n t₀ t → t ≡ last_frames size log m n ++ drop n t₀
  filled-from n t₀ t fits h =
      ext_get_or 0 t (last_frames size log m n ++ drop n t₀)
      (h.same ∙ simp (length-append, length-drop) (omega (arith, frames-length n)))
      (λ j l. go j (dec_le (suc j) n))
    where
      go : (j : ℕ) → Dec (suc j ≤ n) → get_or t j 0 ≡ get_or (last_frames size log m n ++ drop n t₀) j 0
      go j (yes w) =
          h.entry j w ∙ sym (frames-at n j w)
          ∙ sym (get_or-append (last_frames size log m n) (drop n t₀) 0 j (rw (frames-length n) w))
      go j (no w) = h.past j (omega arith) ∙ sym (behind (last_frames size log m n) t₀ n j (frames-length n) (omega arith))

  pub filled : (n k : ℕ) (t₀ t t' : List ℕ) → n ≤ length t₀ → t ≡ replicate n 0 ++ drop n t₀ → k ≡ m → Filling size log k n t t'
      → t' ≡ last_frames size log m n ++ drop n t₀
  filled n k t₀ t t' fits e all h =
      let long = cleared-length n t₀ t fits e in
      filled-from n t t' (omega arith) (rw all at h) ∙ ap (λ (x : List ℕ). last_frames size log m n ++ x) (cleared-drop n t₀ t fits e)

-- ---- the ways out of the fill
module _ (log image t : List ℕ) (s : State) (e : s ≡ pair_state log image) where
  -- a refusal of the state, and a refusal of the table
  pub refused-early : (s.refusal ≡ 0 → ⊥) → fill_refusal (pair_state log image) log (length t) ≡ s.refusal
  unfolding fill_refusal
  refused-early n = rw (← e) (simp (ne_eqb s.refusal 0 n))

  pub refused-short : s.refusal ≡ 0 → length t < s.pages → fill_refusal (pair_state log image) log (length t) ≡ 47
  unfolding fill_refusal
  refused-short r l = rw (← e) (simp (eq-eqb s.refusal 0 r, lt-ltb (length t) s.pages l))

  pub refused-late : s.refusal ≡ 0 → s.pages ≤ length t → (b : Bool) → b ≡ late s.size log s.frames s.pages → b ≡ true → fill_refusal (pair_state log image) log (length t) ≡ 47
  unfolding fill_refusal
  refused-late r l b is h = rw (← e) (simp (eq-eqb s.refusal 0 r, le-ltb (length t) s.pages l, sym is ∙ h))

  pub passes : s.refusal ≡ 0 → s.pages ≤ length t → (b : Bool) → b ≡ late s.size log s.frames s.pages → b ≡ false → fill_refusal (pair_state log image) log (length t) ≡ 0
  unfolding fill_refusal
  passes r l b is h = rw (← e) (simp (eq-eqb s.refusal 0 r, le-ltb (length t) s.pages l, sym is ∙ h))

-- what is answered and left with a refusal, and without
module _ (log image t : List ℕ) where
  pub answers-refusal : (x : ℕ) → fill_refusal (pair_state log image) log (length t) ≡ x → (x ≡ 0 → ⊥) → filled_is x 0 0 ≡ fill_of log image (length t)
  unfolding fill_of
  answers-refusal x e n = rw e (simp (ne_eqb x 0 n))

  pub leaves_table : (x : ℕ) → fill_refusal (pair_state log image) log (length t) ≡ x → (x ≡ 0 → ⊥) → t ≡ table_of log image t
  unfolding table_of
  leaves_table x e n = rw e (simp (ne_eqb x 0 n))

  module _ (s : State) (is : s ≡ pair_state log image) (e : fill_refusal (pair_state log image) log (length t) ≡ 0) where
    pub answers-filled : filled_is 0 s.pages s.size ≡ fill_of log image (length t)
    unfolding fill_of
    answers-filled = rw (e, ← is) refl

    pub leaves-filled : (t' : List ℕ) → t' ≡ last_frames s.size log s.frames s.pages ++ drop s.pages t → t' ≡ table_of log image t
    unfolding table_of
    leaves-filled t' h = h ∙ rw (e, ← is) refl
