-- What a log and an image show: the state of the pair, one page of it, and the whole file.
use Rattle.std.specs.Prelude.{ℕ, zero, suc, ◌+◌, ◌-◌, ◌*◌, Bool, true, false, cond, List, ◌++◌, ltb, eqb, length, drop}
use Rattle.number.specs.Bytes.{part}
use Rattle.header.specs.Header.{pages_in}
use Rattle.paging.specs.Pages.{lock_page, lock_bytes, join_pages}
use Rattle.wal.specs.Frames.{frame_at, last_frame}
use Rattle.wal.specs.State.{State, state_is, state_of}
use Rattle.wal.specs.Part.{Part}
use Rattle.wal.specs.Recovered.{Recovered}

-- with nothing to recover the image alone: refusals 1 to 5 on it, its own page size, and n the pages present
abbrev pub image_state : (image : List ℕ) → State
image_state image = state_is (pages_in image).refusal (pages_in image).size 0 (pages_in image).pages

-- the state of the pair
unfoldable pub pair_state : (log image : List ℕ) → State
pair_state log image =
    cond (eqb (state_of log).refusal 0) (cond (eqb (state_of log).frames 0) (image_state image) (state_of log)) (state_of log)

-- page p of 1 to n is in neither place: no frame in force holds it, and it does not lie wholly within the image, cut at the page size. The lock-byte
-- page is never missed.
abbrev pub in_neither : (size : ℕ) (log image : List ℕ) (m p : ℕ) → Bool
in_neither size log image m p =
    cond (eqb p (lock_page size)) false (cond (eqb (last_frame size log p m) 0) (ltb (length image) (p * size)) false)

abbrev pub part_is : (refusal : ℕ) (logged : Bool) (start length : ℕ) → Part
part_is refusal logged start length = record { refusal = refusal; logged = logged; start = start; length = length }

-- on refusal the part is empty
abbrev pub no_part : (refusal : ℕ) → Part
no_part refusal = part_is refusal false 0 0

-- page p of the image, refused with that number where it does not lie wholly within it
unfoldable pub image_part : (refusal size : ℕ) (image : List ℕ) (p : ℕ) → Part
image_part refusal size image p = cond (ltb (length image) (p * size)) (no_part refusal) (part_is 0 false ((p - 1) * size) size)

-- page p of n, the first m frames in force: 46, 43, or a part of the log or of the image. The lock-byte page is the image's, or does not exist.
unfoldable pub page_at : (size : ℕ) (log image : List ℕ) (m n p : ℕ) → Part
page_at size log image m n p =
    cond (eqb p 0) (no_part 46)
    (cond (ltb n p) (no_part 46)
    (cond (eqb p (lock_page size)) (image_part 46 size image p)
    (cond (eqb (last_frame size log p m) 0) (image_part 43 size image p)
    (part_is 0 true (frame_at size (last_frame size log p m - 1) + 24) size))))

-- one page of a state
unfoldable pub page_in : State → (log image : List ℕ) (p : ℕ) → Part
page_in s log image p =
    cond (eqb s.refusal 0) (page_at s.size log image s.frames s.pages p) (no_part s.refusal)

-- one page of the pair
abbrev pub page_of : (log image : List ℕ) (p : ℕ) → Part
page_of log image p = page_in (pair_state log image) log image p

-- the bytes of a part
abbrev pub bytes_of : (log image : List ℕ) → Part → List ℕ
bytes_of log image r = cond r.logged (part log r.start r.length) (part image r.start r.length)

-- the bytes shown of page p
abbrev pub view_of : (log image : List ℕ) (p : ℕ) → List ℕ
view_of log image p = bytes_of log image (page_of log image p)

-- the bytes of page p, from frame number f or, where that is 0, from the image
unfoldable pub page_from : (size : ℕ) (log image : List ℕ) (f p : ℕ) → List ℕ
page_from size log image f p = cond (eqb f 0) (part image ((p - 1) * size) size) (part log (frame_at size (f - 1) + 24) size)

-- the bytes of page p where the first m frames are in force: of the last of them that holds it, or else of the image. The lock-byte page is copied
-- from the image, or is zeros.
unfoldable pub shown_at : (size : ℕ) (log image : List ℕ) (m p : ℕ) → List ℕ
shown_at size log image m p =
    cond (eqb p (lock_page size)) (lock_bytes size image) (page_from size log image (last_frame size log p m) p)

-- some page of 1 to n is in neither place
unfoldable pub missing : (size : ℕ) (log image : List ℕ) (m n : ℕ) → Bool
missing size log image m zero = false
missing size log image m (suc k) = cond (missing size log image m k) true (in_neither size log image m (suc k))

-- whole recovery of n pages into `room` bytes: 43, 44, or 0
unfoldable pub room_refusal : (size : ℕ) (log image : List ℕ) (m n room : ℕ) → ℕ
room_refusal size log image m n room = cond (missing size log image m n) 43 (cond (ltb room (n * size)) 44 0)

-- the first refusal of whole recovery, or 0
unfoldable pub refusal_in : State → (log image : List ℕ) (room : ℕ) → ℕ
refusal_in s log image room =
    cond (eqb s.refusal 0) (room_refusal s.size log image s.frames s.pages room) s.refusal

abbrev pub recovered_is : (refusal pages length : ℕ) → Recovered
recovered_is refusal pages length = record { refusal = refusal; pages = pages; length = length }

-- the answer: n pages and their length, both 0 on refusal
unfoldable pub recover_of : (log image : List ℕ) (room : ℕ) → Recovered
recover_of log image room =
    let s = pair_state log image in
    cond (eqb (refusal_in s log image room) 0) (recovered_is 0 s.pages (s.pages * s.size))
    (recovered_is (refusal_in s log image room) 0 0)

-- all pages of a state, side by side
abbrev pub whole_in : State → (log image : List ℕ) → List ℕ
whole_in s log image = join_pages (shown_at s.size log image s.frames) s.pages

-- the recovered file
abbrev pub whole_of : (log image : List ℕ) → List ℕ
whole_of log image = whole_in (pair_state log image) log image

-- what the lent output holds at the end: on success the file and, past it, what it held; else what it held
unfoldable pub out_of : (log image out : List ℕ) → List ℕ
out_of log image out =
    let s = pair_state log image in
    cond (eqb (refusal_in s log image (length out)) 0) (whole_in s log image ++ drop (s.pages * s.size) out) out
