-- What is written: the header of a fresh log, and the frames of one commit behind the last commit in force of a log.
use Rattle.std.specs.Prelude.{ℕ, zero, suc, ◌/◌, ◌%◌, Bool, false, cond, List, [], ◌∷◌, ◌++◌, eqb, length, take, drop}
use Rattle.number.specs.Bytes.{part}
use Rattle.wal.specs.Sums.{Sums, sums_over}
use Rattle.wal.specs.Frames.{last_commit, sums_after}
use Rattle.wal.specs.State.{little_magic, log_version, size_of}

-- n in `width` bytes, the big end first; of a number too large for them its low bytes
unfoldable pub be_bytes : (width n : ℕ) → List ℕ
be_bytes zero n = []
be_bytes (suc k) n = be_bytes k (n / 256) ++ ((n % 256) ∷ [])

-- in 4 bytes
abbrev pub word4 : (n : ℕ) → List ℕ
word4 n = be_bytes 4 n

-- two sums, as a header and a frame carry them
abbrev pub sum_bytes : Sums → List ℕ
sum_bytes s = word4 s.0 ++ word4 s.1

-- ---- the header
-- its first 24 bytes: magic, which says that words are little-endian, version, page size, sequence, two salts
unfoldable pub header_fields : (size sequence salt1 salt2 : ℕ) → List ℕ
header_fields size sequence salt1 salt2 =
    word4 little_magic ++ (word4 log_version ++ (word4 size ++ (word4 sequence ++ (word4 salt1 ++ word4 salt2))))

-- the sums over them
abbrev pub field_sums : (size sequence salt1 salt2 : ℕ) → Sums
field_sums size sequence salt1 salt2 = sums_over false (header_fields size sequence salt1 salt2) 0 3 (0, 0)

-- the whole
unfoldable pub header_bytes : (size sequence salt1 salt2 : ℕ) → List ℕ
header_bytes size sequence salt1 salt2 = header_fields size sequence salt1 salt2 ++ sum_bytes (field_sums size sequence salt1 salt2)

-- ---- frames
-- a frame's first 8 bytes: the page's number, and the size after commit or 0
abbrev pub frame_head : (p commit : ℕ) → List ℕ
frame_head p commit = word4 p ++ word4 commit

-- the sums carried on from s over a frame
abbrev pub sums_on : (big : Bool) (size p commit : ℕ) (page : List ℕ) → Sums → Sums
sums_on big size p commit page s = sums_over big page 0 (size / 8) (sums_over big (frame_head p commit) 0 1 s)

-- a frame that carries the sums t
unfoldable pub frame_bytes : (salts : List ℕ) (p commit : ℕ) (page : List ℕ) → Sums → List ℕ
frame_bytes salts p commit page t = frame_head p commit ++ (salts ++ (sum_bytes t ++ page))

-- the size after commit of a frame that so many frames follow: n for the last
abbrev pub commit_for : (n left : ℕ) → ℕ
commit_for n left = cond (eqb left 0) n 0

-- frames for those pages, whose bytes stand side by side in `pages`, the sums carried on from s
unfoldable pub frames_from : (big : Bool) (size : ℕ) (salts : List ℕ) (n : ℕ) (numbers pages : List ℕ) → Sums → List ℕ
frames_from big size salts n [] pages s = []
frames_from big size salts n (p ∷ rest) pages s =
    frame_bytes salts p (commit_for n (length rest)) (take size pages) (sums_on big size p (commit_for n (length rest)) (take size pages) s)
    ++ frames_from big size salts n rest (drop size pages) (sums_on big size p (commit_for n (length rest)) (take size pages) s)

-- the sums carried on over them
unfoldable pub sums_from : (big : Bool) (size n : ℕ) (numbers pages : List ℕ) → Sums → Sums
sums_from big size n [] pages s = s
sums_from big size n (p ∷ rest) pages s =
    sums_from big size n rest (drop size pages) (sums_on big size p (commit_for n (length rest)) (take size pages) s)

-- the frames of a commit of n pages behind the last commit in force of a log: its salts, its word order, its sums carried on
abbrev pub frames_bytes : (big : Bool) (log : List ℕ) (n : ℕ) (numbers pages : List ℕ) → List ℕ
frames_bytes big log n numbers pages =
    frames_from big (size_of log) (part log 16 8) n numbers pages (sums_after big (size_of log) log (last_commit big (size_of log) log))
