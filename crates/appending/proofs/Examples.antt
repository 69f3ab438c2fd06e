-- Headers, tails, commits and refusals worked out.
use Rattle.std.proofs.Common.{◌≡◌, ℕ, false, List, [], ◌∷◌, ◌++◌, take, drop, refl, arith}
use lib.ListN.{replicate}
use Rattle.paging.specs.Pages.{lock_page, size_fits}
use Rattle.wal.specs.Sums.{le, sums_over}
use Rattle.appending.specs.Written.{be_bytes, word4, header_fields, field_sums, header_bytes, frame_bytes, frames_from, sums_from}
use Rattle.appending.specs.Tail.{tail_is, tail_of}
use Rattle.appending.specs.Answers.{tail_fits, number_fits, numbers_fit, given_fits, append_refusal}
use Rattle.appending.proofs.OpenLaws.{header-tail}

-- page size 4096, sequence 0, salts 11223344 and fedcba98, both sums over the 24 bytes before them
pub header-4096 : header_bytes 4096 0 0x11223344 0xfedcba98
    ≡ 55 ∷ 127 ∷ 6 ∷ 130 ∷ 0 ∷ 45 ∷ 226 ∷ 24 ∷ 0 ∷ 0 ∷ 16 ∷ 0 ∷ 0 ∷ 0 ∷ 0 ∷ 0 ∷ 17 ∷ 34 ∷ 51 ∷ 68 ∷ 254 ∷ 220 ∷ 186 ∷ 152 ∷ 25 ∷ 26 ∷ 37 ∷ 36 ∷ 105 ∷ 188 ∷ 217 ∷ 199 ∷ []
unfolding header_bytes header_fields be_bytes sums_over le
header-4096 = refl

-- its tail: the two numbers behind the salts are those sums
pub tail-4096 : tail_of (header_bytes 4096 0 0x11223344 0xfedcba98) ≡ 4096 ∷ 0 ∷ 0x11223344 ∷ 0xfedcba98 ∷ 0x191a2524 ∷ 0x69bcd9c7 ∷ 0 ∷ 0 ∷ []
unfolding size_fits header_fields be_bytes sums_over le
tail-4096 = header-tail 4096 0 0x11223344 0xfedcba98 refl (omega arith) (omega arith)

-- ---- behind a header with page size 512, sequence 0 and those salts, a commit of 2 pages of zeros: page 2, then page 1
abbrev two : List ℕ
two =
    frames_from false 512 (word4 0x11223344 ++ word4 0xfedcba98) 2 (2 ∷ 1 ∷ []) (replicate 1024 0) (419308836, 1771231687)

pub sums-512 : field_sums 512 0 0x11223344 0xfedcba98 ≡ (419308836, 1771231687)
unfolding header_fields be_bytes sums_over le
sums-512 = refl

-- the first frame's 24 bytes say 2, and that it is no commit
pub first-of-two : take 24 two ≡ 0 ∷ 0 ∷ 0 ∷ 2 ∷ 0 ∷ 0 ∷ 0 ∷ 0 ∷ 17 ∷ 34 ∷ 51 ∷ 68 ∷ 254 ∷ 220 ∷ 186 ∷ 152 ∷ 242 ∷ 52 ∷ 181 ∷ 153 ∷ 77 ∷ 163 ∷ 121 ∷ 251 ∷ []
unfolding frames_from frame_bytes be_bytes sums_over le
first-of-two = refl

-- the second's say 1, and that the file has 2 pages now
pub second-of-two : take 24 (drop 536 two) ≡ 0 ∷ 0 ∷ 0 ∷ 1 ∷ 0 ∷ 0 ∷ 0 ∷ 2 ∷ 17 ∷ 34 ∷ 51 ∷ 68 ∷ 254 ∷ 220 ∷ 186 ∷ 152 ∷ 90 ∷ 181 ∷ 212 ∷ 207 ∷ 33 ∷ 146 ∷ 107 ∷ 34 ∷ []
unfolding frames_from frame_bytes be_bytes sums_over le
second-of-two = refl

-- and the sums in it are what the tail has then
pub sums-of-two : sums_from false 512 2 (2 ∷ 1 ∷ []) (replicate 1024 0) (419308836, 1771231687) ≡ (1521865935, 563243810)
unfolding sums_from be_bytes sums_over le
sums-of-two = refl

-- ---- refusals of a commit by the tail of a log of that page size, of little-endian words
abbrev tail : (frames : ℕ) → List ℕ
tail frames = tail_is 512 false 0x11223344 0xfedcba98 (419308836, 1771231687) frames 0

abbrev refusal : (tail : List ℕ) (n : ℕ) (numbers : List ℕ) (long room : ℕ) → ℕ
refusal tail n numbers long room = append_refusal tail n numbers long room

pub none : refusal (tail 0) 2 (2 ∷ 1 ∷ []) 1024 1072 ≡ 0
unfolding append_refusal tail_fits size_fits given_fits numbers_fit number_fits lock_page
none = refl

pub no-room : refusal (tail 0) 2 (2 ∷ 1 ∷ []) 1024 1071 ≡ 44
unfolding append_refusal tail_fits size_fits given_fits numbers_fit number_fits lock_page
no-room = refl

pub no-pages : refusal (tail 0) 2 [] 0 1072 ≡ 51
unfolding append_refusal tail_fits size_fits given_fits numbers_fit number_fits lock_page
no-pages = refl

pub of-no-pages : refusal (tail 0) 0 (1 ∷ []) 512 1072 ≡ 51
unfolding append_refusal tail_fits size_fits given_fits numbers_fit number_fits lock_page
of-no-pages = refl

pub page-above : refusal (tail 0) 2 (3 ∷ []) 512 1072 ≡ 51
unfolding append_refusal tail_fits size_fits given_fits numbers_fit number_fits lock_page
page-above = refl

pub lock-page : refusal (tail 0) 2097153 (2097153 ∷ []) 512 1072 ≡ 51
unfolding append_refusal tail_fits size_fits given_fits numbers_fit number_fits lock_page
lock-page = refl

pub short-pages : refusal (tail 0) 2 (2 ∷ 1 ∷ []) 1023 1072 ≡ 51
unfolding append_refusal tail_fits size_fits given_fits numbers_fit number_fits lock_page
short-pages = refl

pub too-many-pages : refusal (tail 0) 2200001 [] 1023 0 ≡ 42
unfolding append_refusal tail_fits size_fits
too-many-pages = refl

pub too-many-frames : refusal (tail 4294967294) 2 (2 ∷ 1 ∷ []) 1024 0 ≡ 47
unfolding append_refusal tail_fits size_fits given_fits numbers_fit number_fits lock_page
too-many-frames = refl

pub other-order : refusal (512 ∷ 2 ∷ 0 ∷ 0 ∷ 0 ∷ 0 ∷ 0 ∷ 0 ∷ []) 2200001 [] 1023 0 ≡ 41
unfolding append_refusal tail_fits size_fits
other-order = refl

pub few-words : refusal (513 ∷ []) 2200001 [] 1023 0 ≡ 44
unfolding append_refusal
few-words = refl
