-- The words of the theorems (proofs/Theorems.antt), and of what the calls promise.
use Rattle.std.specs.Prelude.{ℕ, ◌+◌, ◌-◌, ◌*◌, ◌≤◌, ◌<◌, ◌≡◌, ◌⊎◌, Bool, List, [], ◌++◌, ltb, length, get_or, take}
use Rattle.number.specs.Bytes.{be, part}
use Rattle.header.specs.Header.{pages_in}
use Rattle.paging.specs.Pages.{page_limit, lock_page}
use Rattle.wal.specs.Frames.{last_frame}
use Rattle.wal.specs.State.{size_of, state_is, state_of}
use Rattle.wal.specs.View.{image_state, pair_state, page_of, view_of, shown_at, whole_of, refusal_in}
use Rattle.wal.specs.Promises.{Shown, Begins, in_force}
use Rattle.appending.specs.Written.{frames_bytes}
use Rattle.appending.specs.Tail.{big_of, frames_of, IsTail}
use Rattle.appending.specs.Appended.{Appended}

-- ---- headers
-- the image alone is shown: n, every page, its bytes, the whole file, every refusal
abbrev pub ShowsAlone : (log image : List ℕ) → Type 0
ShowsAlone log image = Shown log image (image_state image) []

-- what the tail and the output are to a fresh log with those salts: its header is the first 32 bytes of the output
pub record Opens (salt1 salt2 : ℕ) (tail out : List ℕ) : Type 0 where
  -- cut anywhere, or whole, it shows the image alone;
  pub cuts : (c : ℕ) (image : List ℕ) → c ≤ 32 → ShowsAlone (take c out) image
  -- and so with any bytes behind it where the first frame there has another salt
  pub leftovers : (x image : List ℕ) → (be 4 x 8 ≡ salt1 → ⊥) ⊎ (be 4 x 12 ≡ salt2 → ⊥) → ShowsAlone (take 32 out ++ x) image
  -- the tail is that of the header
  pub next : IsTail tail (take 32 out)

-- ---- commits
-- what a commit of n pages is given: some pages, each of 1 to n and not the lock-byte page, with their bytes side by side
pub record Fits (size n : ℕ) (numbers pages : List ℕ) : Type 0 where
  pub some : 1 ≤ length numbers
  pub few : n ≤ page_limit
  pub low : (i : ℕ) → i < length numbers → 1 ≤ get_or numbers i 0
  pub high : (i : ℕ) → i < length numbers → get_or numbers i 0 ≤ n
  pub unlocked : (i : ℕ) → i < length numbers → get_or numbers i 0 ≡ lock_page size → ⊥
  pub whole : length pages ≡ length numbers * size

-- page p is not given
abbrev pub NotGiven : (numbers : List ℕ) (p : ℕ) → Type 0
NotGiven numbers p = (i : ℕ) → i < length numbers → get_or numbers i 0 ≡ p → ⊥

-- with no commit in force the image passes 1 to 5 with the log's page size
abbrev pub SizedIfAlone : (log image : List ℕ) → Type 0
SizedIfAlone log image = frames_of log ≡ 0 → ((pages_in image).refusal ≡ 0) × ((pages_in image).size ≡ size_of log)

-- the log with that commit behind its last commit in force; what lay behind that is gone
abbrev pub committed : (big : Bool) (log : List ℕ) (n : ℕ) (numbers pages : List ℕ) → List ℕ
committed big log n numbers pages = in_force big log ++ frames_bytes big log n numbers pages

-- the same, the write cut behind c bytes of the frames
abbrev pub torn_at : (big : Bool) (log : List ℕ) (n : ℕ) (numbers pages : List ℕ) (c : ℕ) → List ℕ
torn_at big log n numbers pages c = in_force big log ++ take c (frames_bytes big log n numbers pages)

-- two logs show the same with that image: n, every page, its bytes, the whole file, every refusal
pub record Alike (a b image : List ℕ) : Type 0 where
  pub state : pair_state a image ≡ pair_state b image
  pub page : (p : ℕ) → page_of a image p ≡ page_of b image p
  pub view : (p : ℕ) → view_of a image p ≡ view_of b image p
  pub whole : whole_of a image ≡ whole_of b image
  pub refusal : (room : ℕ) → refusal_in (pair_state a image) a image room ≡ refusal_in (pair_state b image) b image room

-- the log cut at the answer's place, and the frames behind it
abbrev pub written_to : (log : List ℕ) (r : Appended) (out : List ℕ) → List ℕ
written_to log r out = take r.at log ++ take r.length out

-- what the answer r, the tail and the output are to a log whose tail was given
pub record Appends (log : List ℕ) (n : ℕ) (numbers pages : List ℕ) (r : Appended) (tail out : List ℕ) : Type 0 where
  pub fits : Fits (size_of log) n numbers pages
  -- the frames of that commit, to stand behind the last commit in force
  pub base : take r.at log ≡ in_force (big_of log) log
  pub frames : take r.length out ≡ frames_bytes (big_of log) log n numbers pages
  -- whatever bytes stand there, the frames in force begin with those that were
  pub behind : (x : List ℕ) → Begins (take r.at log) (in_force (big_of log) (take r.at log ++ x))
  -- cut anywhere before their end, they change nothing that is shown
  pub cuts : (c : ℕ) (image : List ℕ) → c < r.length → Alike (take r.at log ++ take c out) log image
  -- uncut, they are a commit of n pages:
  pub state : state_of (written_to log r out) ≡ state_is 0 (size_of log) (frames_of log + length numbers) n
  -- each page given shows the bytes given for it last,
  pub given : (image : List ℕ) (p i : ℕ) → i < length numbers → get_or numbers i 0 ≡ p → ((j : ℕ) → i < j → j < length numbers → get_or numbers j 0 ≡ p → ⊥)
      → view_of (written_to log r out) image p ≡ part pages (i * size_of log) (size_of log)
  -- each other page that is of both the old pages and the new ones shows what it showed (with no commit before, the image has to be one, with the log's page size),
  pub kept : (image : List ℕ) (p : ℕ) → NotGiven numbers p → SizedIfAlone log image → 1 ≤ p → p ≤ n → p ≤ (pair_state log image).pages
      → (page_of (written_to log r out) image p ≡ page_of log image p) × (view_of (written_to log r out) image p ≡ view_of log image p)
  -- and the bytes of every other page, of the old pages or not, are those of the last frame in force before or of the image
  pub shown : (image : List ℕ) (p : ℕ) → NotGiven numbers p
      → shown_at (size_of log) (written_to log r out) image (frames_of log + length numbers) p ≡ shown_at (size_of log) log image (frames_of log) p
  -- the tail is that of the log with them
  pub next : IsTail tail (written_to log r out)

-- ---- checkpoints
-- page p lies wholly within both images or within neither; where within both, with the same bytes
pub record SamePage (size : ℕ) (a b : List ℕ) (p : ℕ) : Type 0 where
  pub there : ltb (length a) (p * size) ≡ ltb (length b) (p * size)
  pub bytes : p * size ≤ length a → part a ((p - 1) * size) size ≡ part b ((p - 1) * size) size

-- b may be a with whatever bytes on the pages of 1 to n that the first m frames hold, and past n
abbrev pub SameBelow : (size : ℕ) (log : List ℕ) (m n : ℕ) (a b : List ℕ) → Type 0
SameBelow size log m n a b = (p : ℕ) → 1 ≤ p → p ≤ n → last_frame size log p m ≡ 0 → SamePage size a b p

-- two images show the same under that log; the whole file, where whole recovery is not refused
pub record AlikeBelow (log a b : List ℕ) : Type 0 where
  pub state : pair_state log a ≡ pair_state log b
  pub page : (p : ℕ) → page_of log a p ≡ page_of log b p
  pub view : (p : ℕ) → view_of log a p ≡ view_of log b p
  pub refusal : (room : ℕ) → refusal_in (pair_state log a) log a room ≡ refusal_in (pair_state log b) log b room
  pub whole : (room : ℕ) → refusal_in (pair_state log a) log a room ≡ 0 → whole_of log a ≡ whole_of log b

-- with that log the image is shown as it is: n pages of that size
pub record ShowsImage (log image : List ℕ) (size n : ℕ) : Type 0 where
  pub pages : (pair_state log image).pages ≡ n
  pub page_size : (pair_state log image).size ≡ size
  pub whole : whole_of log image ≡ image
  pub view : (p : ℕ) → 1 ≤ p → p ≤ n → view_of log image p ≡ part image ((p - 1) * size) size
