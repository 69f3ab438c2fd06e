-- The scan's turns and ways out.
use Prim.Native.Nat.{ℕ, zero, suc, ◌+◌, ◌-◌, ◌^◌, ◌<◌, ◌≤◌}
use mathlib.Core.Path.{◌≡◌, refl, sym, ap, ◌∙◌}
use mathlib.Core.Bool.{Bool, true, false}
use mathlib.Core.Logic.{◌⊎◌, inl, inr}
use mathlib.Core.List.{List}
use native.Mathlib.Numerals.{add-one}
use native.Mathlib.Omega.{arith}
use lib.Dec.{eqb}
use lib.ListN.{length}
use borrow.Author.Tests.{eq-eqb, ne_eqb, eqb-true}
use Rattle.number.specs.Bytes.{be}
use Rattle.wal.specs.Sums.{Sums}
use Rattle.wal.specs.Frames.{frame_at, marked, carries, header_sums, frame_sums, sums_after, holds, counting, commits, commit_size, last_of, last_commit, count_of, scan_of}
use Rattle.wal.proofs.FrameLaws.{and_left, and_right, frame-first, frame-next, short-fails, unmarked-fails, uncarried-fails, frame-holds, none-behind, last-same, last_found}

-- before a frame is looked at: all before it count, the sums are carried on over them, and `commit` is the last commit among them
pub record Scanned (big : Bool) (size : ℕ) (log : List ℕ) (at frame s0 s1 commit : ℕ) : Type 0 where
  pub within : at ≤ length log
  pub far : frame + 32 ≤ at
  pub low0 : s0 < 2 ^ 32
  pub low1 : s1 < 2 ^ 32
  pub place : at ≡ frame_at size frame
  pub counted : counting big size log frame ≡ true
  pub sums : sums_after big size log frame ≡ (s0, s1)
  pub last : commit ≡ last_of (commits big size log) frame

-- the scan begins behind the header, with the sums that the header carries
pub begins : (big : Bool) (size : ℕ) (log : List ℕ) (x y : ℕ) → 32 ≤ length log → x < 2 ^ 32 → y < 2 ^ 32
    → carries log 8 (header_sums big log) ≡ true → x ≡ be 4 log 24 → y ≡ be 4 log 28 → Scanned big size log 32 0 x y 0
unfolding carries counting sums_after last_of
begins big size log x y l p q h e f =
    record {
      within = l;
      far = omega arith;
      low0 = p;
      low1 = q;
      place = sym (frame-first size);
      counted = refl;
      sums = pair_is (header_sums big log) x y (sym e0 ∙ sym e) (sym e1 ∙ sym f);
      last = refl;
    }
  where
    pair_is : (s : Sums) (a b : ℕ) → s.0 ≡ a → s.1 ≡ b → s ≡ (a, b)
    pair_is s a b g k = λ i. (g i, k i)

    e0 : be 4 log 24 ≡ (header_sums big log).0
    e0 = eqb-true _ _ (and_left (eqb (be 4 log 24) (header_sums big log).0) (eqb (be 4 log 28) (header_sums big log).1) h)

    e1 : be 4 log 28 ≡ (header_sums big log).1
    e1 = eqb-true _ _ (and_right (eqb (be 4 log 24) (header_sums big log).0) (eqb (be 4 log 28) (header_sums big log).1) h)

-- all of the first k frames count, and frame k does not
pub count-found : (big : Bool) (size : ℕ) (log : List ℕ) (k : ℕ) → counting big size log k ≡ true → holds big size log k ≡ false → k ≤ length log → count_of big size log ≡ k
unfolding last_of
count-found big size log k c f l = last-same (λ (j : ℕ). counting big size log (suc j)) k (length log) (λ j m. none-behind big size log k (suc j) f (omega arith)) l ∙ all k c
  where
    all : (m : ℕ) → counting big size log m ≡ true → last_of (λ (j : ℕ). counting big size log (suc j)) m ≡ m
    all zero h = refl
    all (suc m) h = rw h

module _ (big : Bool) (size : ℕ) (log : List ℕ) (at frame s0 s1 commit : ℕ) (h : Scanned big size log at frame s0 s1 commit) where
  next_place : frame_at size (suc frame) ≡ at + (24 + size)
  next_place = frame-next size frame ∙ ap (λ (n : ℕ). n + (24 + size)) (sym h.place)

  found : holds big size log frame ≡ false → record { counting = frame; commit = commit } ≡ scan_of big size log
  found f =
      let l : frame ≤ length log = omega (arith, h.within, h.far) in
      let a : frame ≡ count_of big size log = sym (count-found big size log frame h.counted f l) in
      let b : commit ≡ last_commit big size log = h.last ∙ sym (last_found big size log frame f l) in
      λ i. record { counting = a i; commit = b i }

  pub found-short : length log - at < 24 + size → record { counting = frame; commit = commit } ≡ scan_of big size log
  found-short l = found (short-fails big size log frame (rw next_place (omega (arith, h.within))))

  pub found-unmarked : (m : Bool) → m ≡ marked size log at → m ≡ false → record { counting = frame; commit = commit } ≡ scan_of big size log
  found-unmarked m e f = found (unmarked-fails big size log frame (ap (marked size log) (sym h.place) ∙ sym e ∙ f))

  -- the sums carried on over this frame
  pub sums_next : (r0 r1 : ℕ) → frame_sums big size log at (s0, s1) ≡ (r0, r1) → sums_after big size log (suc frame) ≡ (r0, r1)
  unfolding sums_after
  sums_next r0 r1 e = rw (h.sums, ← h.place) e

  pub found-uncarried : (r0 r1 : ℕ) (b : Bool) → sums_after big size log (suc frame) ≡ (r0, r1) → b ≡ carries log at (r0, r1) → b ≡ false
      → record { counting = frame; commit = commit } ≡ scan_of big size log
  found-uncarried r0 r1 b s e f =
      found (uncarried-fails big size log frame (rw (s, ← h.place) (sym e ∙ f)))

  module _ (r0 r1 n : ℕ) (m b : Bool) (low0 : r0 < 2 ^ 32) (low1 : r1 < 2 ^ 32) (l : 24 + size ≤ length log - at)
      (em : m ≡ marked size log at) (tm : m ≡ true) (s : sums_after big size log (suc frame) ≡ (r0, r1))
      (eb : b ≡ carries log at (r0, r1)) (tb : b ≡ true) (en : n ≡ be 4 log (at + 4)) where
    it-counts : counting big size log (suc frame) ≡ true
    unfolding counting
    it-counts =
        rw h.counted
        (frame-holds big size log frame (rw next_place (omega (arith, h.within)))
        (rw (← h.place) (sym em ∙ tm))
        (rw (s, ← h.place) (sym eb ∙ tb)))

    turn : (commit' : ℕ) → commit' ≡ last_of (commits big size log) (suc frame)
        → Scanned big size log (at + (24 + size)) (frame + 1) r0 r1 commit'
    turn commit' e =
        record {
          within = omega (arith, h.within);
          far = omega (arith, h.far);
          low0 = low0;
          low1 = low1;
          place = rw add-one (sym next_place);
          counted = rw add-one it-counts;
          sums = rw add-one s;
          last = rw add-one e;
        }

    -- a frame that counts: the last commit is this one, or the one before
    pub next-frame : (commit' : ℕ) → ((n ≡ 0 → ⊥) × (commit' ≡ frame + 1)) ⊎ ((n ≡ 0) × (commit' ≡ commit))
        → Scanned big size log (at + (24 + size)) (frame + 1) r0 r1 commit'
    unfolding last_of commits
    next-frame commit' (inl w) =
        let there : commit_size size log frame ≡ 0 → ⊥ = λ k. w.0 (en ∙ ap (λ (x : ℕ). be 4 log (x + 4)) h.place ∙ k) in
        turn commit' (rw (it-counts, ne_eqb (commit_size size log frame) 0 there) (w.1 ∙ add-one frame))
    next-frame commit' (inr w) =
        let none : commit_size size log frame ≡ 0 = ap (λ (x : ℕ). be 4 log (x + 4)) (sym h.place) ∙ sym en ∙ w.0 in
        turn commit' (rw (it-counts, eq-eqb (commit_size size log frame) 0 none) (w.1 ∙ h.last))
