-- Laws of a page by a table: the ways out of the code, and where the part lies.
use Prim.Native.Nat.{ℕ, ◌+◌, ◌-◌, ◌*◌, ◌^◌, ◌<◌, ◌≤◌}
use mathlib.Core.Path.{◌≡◌, sym, ◌∙◌}
use mathlib.Core.Logic.{⊎_elim}
use mathlib.Core.Bool.{Bool, true, false}
use mathlib.Core.List.{List}
use native.Mathlib.Nat.{le-div_iff_mul-le, mul-le-mul}
use native.Mathlib.Omega.{arith}
use lib.ListN.{length, get_or}
use borrow.Author.Tests.{eq-eqb, ne_eqb, lt-ltb, le-ltb}
use Rattle.number.proofs.Cases.{lt-or-ge}
use Rattle.paging.specs.Pages.{size_fits, lock_page}
use Rattle.wal.specs.Frames.{frame_at}
use Rattle.wal.specs.View.{no_part, part_is, image_part}
use Rattle.wal.specs.Part.{Part}
use Rattle.wal.proofs.FrameLaws.{frame-prev}
use Rattle.frames.specs.Table.{whole_frames, entry_part, part_by}

-- ---- whole frames
-- a frame is one of the whole frames exactly where it ends by the log's end
pub frame-whole : (size : ℕ) (log : List ℕ) (e : ℕ) → 0 < e → frame_at size e ≤ length log → e ≤ whole_frames size log
unfolding frame_at
frame-whole size log e some h =
    (le-div_iff_mul-le {k = 24 + size} {x = e} {y = length log - 32} (omega arith)).1 (omega arith)

pub whole-frame : (size : ℕ) (log : List ℕ) (e : ℕ) → 0 < e → e ≤ whole_frames size log → frame_at size e ≤ length log
unfolding frame_at
whole-frame size log e some h =
    let m : e * (24 + size) ≤ length log - 32 = (le-div_iff_mul-le {k = 24 + size} {x = e} {y = length log - 32} (omega arith)).0 h in
    let b : 1 * 1 ≤ e * (24 + size) = mul-le-mul {n₁ = 1} {m₁ = 1} {n₂ = e} {m₂ = 24 + size} some (omega arith) in
    omega arith

-- ---- products
pub frame_below : (size e : ℕ) → size ≤ 65536 → e < 2 ^ 32 → frame_at size e < 2 ^ 64
unfolding frame_at
frame_below size e a b =
    let m : e * (24 + size) ≤ 4294967296 * 65560 = mul-le-mul {n₁ = e} {m₁ = 24 + size} {n₂ = 4294967296} {m₂ = 65560} (omega arith) (omega arith) in
    omega arith

-- ---- the ways out, by an entry
module _ (size : ℕ) (log image : List ℕ) (e p : ℕ) where
  pub by_zero : (r : Part) → e ≡ 0 → r ≡ image_part 43 size image p → r ≡ entry_part size log image e p
  unfolding entry_part
  by_zero r z h = h ∙ sym (simp (le-ltb (whole_frames size log) e (omega arith), eq-eqb e 0 z))

  module _ (some : e ≡ 0 → ⊥) (end : ℕ) (place : end ≡ frame_at size e) where
    pub by-none : length log < end → no_part 43 ≡ entry_part size log image e p
    unfolding entry_part
    by-none l =
        let past : whole_frames size log < e =
        ⊎_elim (λ (a : whole_frames size log < e). a) (λ (b : e ≤ whole_frames size log). absurd (let w = whole-frame size log e (omega arith) b in omega arith))
        (lt-or-ge (whole_frames size log) e) in
        simp (lt-ltb (whole_frames size log) e past)

    pub by-frame : end ≤ length log → part_is 0 true (end - size) size ≡ entry_part size log image e p
    unfolding entry_part
    by-frame l =
        let w : e ≤ whole_frames size log = frame-whole size log e (omega arith) (rw (← place) l) in
        let i : end - size ≡ frame_at size (e - 1) + 24 = omega (arith, frame-prev size e (omega arith)) in
        simp (le-ltb (whole_frames size log) e w, ne_eqb e 0 some, i)

-- ---- the ways out, by a table
module _ (log image t : List ℕ) (n size p : ℕ) (b : Bool) (is : b ≡ size_fits size) where
  pub by_size : b ≡ false → no_part 41 ≡ part_by log image t n size p
  unfolding part_by
  by_size h = simp (sym is ∙ h)

  module _ (h : b ≡ true) where
    pub by-short : length t < n → no_part 47 ≡ part_by log image t n size p
    unfolding part_by
    by-short l = simp (sym is ∙ h, lt-ltb (length t) n l)

    module _ (long : n ≤ length t) where
      pub by-page-zero : p ≡ 0 → no_part 46 ≡ part_by log image t n size p
      unfolding part_by
      by-page-zero z = simp (sym is ∙ h, le-ltb (length t) n long, eq-eqb p 0 z)

      module _ (some : p ≡ 0 → ⊥) where
        pub by-page-past : n < p → no_part 46 ≡ part_by log image t n size p
        unfolding part_by
        by-page-past l = simp (sym is ∙ h, le-ltb (length t) n long, ne_eqb p 0 some, lt-ltb n p l)

        module _ (low : p ≤ n) (l : ℕ) (is-l : l ≡ lock_page size) where
          pub by-lock : (r : Part) → p ≡ l → r ≡ image_part 46 size image p → r ≡ part_by log image t n size p
          unfolding part_by
          by-lock r e g = g ∙ sym (simp (sym is ∙ h, le-ltb (length t) n long, ne_eqb p 0 some, le-ltb n p low, eq-eqb p (lock_page size) (e ∙ is-l)))

          pub by-entry : (r : Part) (e : ℕ) → (p ≡ l → ⊥) → e ≡ get_or t (p - 1) 0 → r ≡ entry_part size log image e p → r ≡ part_by log image t n size p
          unfolding part_by
          by-entry r e ne is-e g =
              g ∙ sym (simp (sym is ∙ h, le-ltb (length t) n long, ne_eqb p 0 some, le-ltb n p low, ne_eqb p (lock_page size) (λ k. ne (k ∙ sym is-l)), ← is-e))
