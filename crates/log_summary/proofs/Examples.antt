-- Worked by hand: pages of 512 bytes; a header with salts 1 and 2, alone, damaged, before the beginning of a frame, and before whole frames.
use Prim.Native.Nat.{ℕ}
use mathlib.Core.Path.{◌≡◌, refl, ap, ◌∙◌}
use mathlib.Core.Bool.{true, false}
use mathlib.Core.List.{List, [], ◌∷◌, ◌++◌}
use native.Mathlib.Omega.{arith}
use lib.ListN.{replicate, take}
use Rattle.number.specs.Bytes.{be}
use Rattle.paging.specs.Pages.{size_fits, lock_page}
use Rattle.wal.specs.Sums.{sums_over}
use Rattle.wal.specs.Frames.{frame_at, marked, carries, frame_sums, sums_after, holds, counting, commits, last_of, last_commit, salted, count_of}
use Rattle.wal.proofs.FrameLaws.{unmarked-fails, last_found}
use Rattle.log_summary.specs.Summary.{Summary, size_after, stop_at, over_limit, untold, told, summary_in, log_summary_of}
use Rattle.wal.proofs.ScanLaws.{count-found}

abbrev header : List ℕ
header = 55 ∷ 127 ∷ 6 ∷ 131 ∷ 0 ∷ 45 ∷ 226 ∷ 24 ∷ 0 ∷ 0 ∷ 2 ∷ 0 ∷ 0 ∷ 0 ∷ 0 ∷ 0 ∷ 0 ∷ 0 ∷ 0 ∷ 1 ∷ 0 ∷ 0 ∷ 0 ∷ 2 ∷ 22 ∷ 4 ∷ 202 ∷ 216 ∷ 188 ∷ 221 ∷ 164 ∷ 147 ∷ []

-- version 3007001; a page size of 768; the last byte of the sums
abbrev other_version : List ℕ
other_version = 55 ∷ 127 ∷ 6 ∷ 131 ∷ 0 ∷ 45 ∷ 226 ∷ 25 ∷ 0 ∷ 0 ∷ 2 ∷ 0 ∷ 0 ∷ 0 ∷ 0 ∷ 0 ∷ 0 ∷ 0 ∷ 0 ∷ 1 ∷ 0 ∷ 0 ∷ 0 ∷ 2 ∷ 22 ∷ 4 ∷ 202 ∷ 219 ∷ 188 ∷ 221 ∷ 164 ∷ 152 ∷ []

abbrev other_size : List ℕ
other_size = 55 ∷ 127 ∷ 6 ∷ 131 ∷ 0 ∷ 45 ∷ 226 ∷ 24 ∷ 0 ∷ 0 ∷ 3 ∷ 0 ∷ 0 ∷ 0 ∷ 0 ∷ 0 ∷ 0 ∷ 0 ∷ 0 ∷ 1 ∷ 0 ∷ 0 ∷ 0 ∷ 2 ∷ 22 ∷ 4 ∷ 204 ∷ 216 ∷ 188 ∷ 221 ∷ 167 ∷ 147 ∷ []

abbrev other_sums : List ℕ
other_sums = 55 ∷ 127 ∷ 6 ∷ 131 ∷ 0 ∷ 45 ∷ 226 ∷ 24 ∷ 0 ∷ 0 ∷ 2 ∷ 0 ∷ 0 ∷ 0 ∷ 0 ∷ 0 ∷ 0 ∷ 0 ∷ 0 ∷ 1 ∷ 0 ∷ 0 ∷ 0 ∷ 2 ∷ 22 ∷ 4 ∷ 202 ∷ 216 ∷ 188 ∷ 221 ∷ 164 ∷ 146 ∷ []

abbrev accepted : (stop : ℕ) → Summary
accepted stop = record { refusal = 0; header = 0; page_size = 512; pages = 0; frames = 0; counting = 0; in_force = 0; stop = stop }

headers : (log_summary_of (take 31 header) ≡ untold 0 1) × (log_summary_of (0 ∷ header) ≡ untold 0 2) × (log_summary_of other_sums ≡ untold 0 3)
    × (log_summary_of other_version ≡ untold 40 0) × (log_summary_of other_size ≡ untold 41 0)
unfolding log_summary_of summary_in carries sums_over be size_fits
headers = (refl, refl, refl, refl, refl)

-- no frame, and a frame of which one byte is there
ends : (log_summary_of header ≡ accepted 0) × (log_summary_of (header ++ (7 ∷ [])) ≡ accepted 1)
unfolding log_summary_of summary_in told size_after over_limit stop_at carries sums_over be size_fits frame_at holds counting commits last_of
ends = (refl, refl)

-- a whole frame behind the header: its number, its salts, and zeros
abbrev stop : (a b c d salt salt' : ℕ) → ℕ
stop a b c d salt salt' = stop_at 512 (header ++ (a ∷ b ∷ c ∷ d ∷ 0 ∷ 0 ∷ 0 ∷ 0 ∷ 0 ∷ 0 ∷ 0 ∷ salt ∷ 0 ∷ 0 ∷ 0 ∷ salt' ∷ replicate 520 0)) 32

-- number 0, before the salts; 2097153, the lock-byte page's, before the salts; another salt; and else the sums
reasons : (stop 0 0 0 0 0 0 ≡ 2) × (stop 0 32 0 1 0 0 ≡ 5) × (stop 0 0 0 1 1 0 ≡ 3) × (stop 0 0 0 1 0 2 ≡ 3) × (stop 0 0 0 1 1 2 ≡ 4)
unfolding stop_at salted be lock_page
reasons = (refl, refl, refl, refl, refl)

-- Two frames of zeros: page 1, a commit of one page, and page 2, which is none. The third has other salts.
abbrev frames : List ℕ
frames =
    header
    ++ (0 ∷ 0 ∷ 0 ∷ 1 ∷ 0 ∷ 0 ∷ 0 ∷ 1 ∷ 0 ∷ 0 ∷ 0 ∷ 1 ∷ 0 ∷ 0 ∷ 0 ∷ 2 ∷ 37 ∷ 113 ∷ 131 ∷ 60 ∷ 184 ∷ 245 ∷ 30 ∷ 28 ∷ replicate 512 0)
    ++ (0 ∷ 0 ∷ 0 ∷ 2 ∷ 0 ∷ 0 ∷ 0 ∷ 0 ∷ 0 ∷ 0 ∷ 0 ∷ 1 ∷ 0 ∷ 0 ∷ 0 ∷ 2 ∷ 234 ∷ 254 ∷ 57 ∷ 0 ∷ 184 ∷ 189 ∷ 16 ∷ 110 ∷ replicate 512 0)
    ++ (0 ∷ 0 ∷ 0 ∷ 1 ∷ replicate 532 0)

sums-one : sums_after true 512 frames 1 ≡ (628196156, 3103071772)
unfolding sums_after sums_over be frame_at
sums-one = refl

over-second : frame_sums true 512 frames 568 (628196156, 3103071772) ≡ (3942529280, 3099398254)
unfolding sums_over be
over-second = refl

sums-two : sums_after true 512 frames 2 ≡ (3942529280, 3099398254)
unfolding sums_after frame_at
sums-two = ap (frame_sums true 512 frames 568) sums-one ∙ over-second

first : holds true 512 frames 0 ≡ true
unfolding holds frame_at marked carries be lock_page
first = rw sums-one refl

second : holds true 512 frames 1 ≡ true
unfolding holds frame_at marked carries be lock_page
second = rw sums-two refl

third : holds true 512 frames 2 ≡ false
unfolding frame_at marked be lock_page
third = unmarked-fails true 512 frames 2 refl

both : counting true 512 frames 2 ≡ true
unfolding counting
both = simp (first, second)

counted : count_of true 512 frames ≡ 2
counted = count-found true 512 frames 2 both third (omega arith)

in-force : last_commit true 512 frames ≡ 1
unfolding last_of commits counting frame_at be
in-force = last_found true 512 frames 2 third (omega arith) ∙ simp (first, second)

whole : log_summary_of frames
    ≡ record { refusal = 0; header = 0; page_size = 512; pages = 1; frames = 3; counting = 2; in_force = 1; stop = 3 }
unfolding log_summary_of summary_in told size_after over_limit stop_at salted carries sums_over be size_fits frame_at lock_page
whole =
    λ i. record {
      refusal = over_limit (size_after 512 frames (in-force i));
      header = 0;
      page_size = 512;
      pages = size_after 512 frames (in-force i);
      frames = 3;
      counting = counted i;
      in_force = in-force i;
      stop = stop_at 512 frames (frame_at 512 (counted i));
    }
