-- What a writer of logs promises. The words are in specs/Promises.antt; `in_force big log` is the log up to the end of its last commit in force.
use Prim.Native.Nat.{ℕ, ◌+◌, ◌*◌, ◌/◌, ◌^◌, ◌<◌, ◌≤◌}
use mathlib.Core.Path.{◌≡◌, sym, ap, ◌∙◌, subst}
use mathlib.Core.Logic.{◌⊎◌, ⊎_elim}
use mathlib.Core.Bool.{Bool, true, false}
use mathlib.Core.List.{List, ◌++◌}
use native.Mathlib.Omega.{arith}
use lib.ListN.{length, get_or, take, drop, length-take}
use lib.Seq.{take-length, take_all}
use Rattle.number.specs.Bytes.{byte_at, be, part}
use Rattle.number.proofs.BeLaws.{be-bound}
use Rattle.number.proofs.Cases.{lt-or-ge}
use Rattle.number.proofs.VarintReading.{Stands}
use Rattle.header.specs.Header.{pages_in}
use Rattle.paging.specs.Pages.{size_fits, lock_page}
use Rattle.wal.specs.Frames.{sums_after, commits, last_commit, last_frame}
use Rattle.wal.specs.State.{size_of, state_is, nothing, state_of}
use Rattle.wal.specs.View.{pair_state, page_of, view_of, shown_at, whole_of, refusal_in}
use Rattle.wal.specs.Promises.{Accepted, in_force, Begins}
use Rattle.wal.proofs.FrameLaws.{frame-first}
use Rattle.wal.proofs.AgreeLaws.{succeeds, view-page}
use Rattle.wal.proofs.ViewLaws.{state-bounds}
use Rattle.wal.proofs.ShownLaws.{Agree}
use Rattle.wal.proofs.Theorems.{other_salts}
use Rattle.wal.proofs.Grows.{append-force}
use Rattle.appending.specs.Written.{header_bytes, sums_from, frames_bytes}
use Rattle.appending.specs.Tail.{tail_is, big_of, frames_of, tail_of, IsTail}
use Rattle.appending.specs.Answers.{frame_limit, told_is, scan_of, scan_tail, begin_of, begin_out, begin_tail, append_of, append_out, append_tail}
use Rattle.appending.specs.Promises.{ShowsAlone, Opens, Fits, NotGiven, SizedIfAlone, committed, torn_at, Alike, Appends, SameBelow, AlikeBelow, ShowsImage}
use Rattle.appending.proofs.BytesLaws.{AllBytes}
use Rattle.appending.proofs.AgainLaws.{header-stands}
use Rattle.appending.proofs.AppendLaws as A
use Rattle.appending.proofs.HeaderLaws as H
use Rattle.appending.proofs.CheckpointLaws as C
use Rattle.appending.proofs.TailLaws as L
use Rattle.appending.proofs.OpenLaws as O
use Rattle.appending.proofs.BehindLaws as B
use Rattle.appending.proofs.CommitLaws as W
use Rattle.appending.proofs.ResetLaws as T
use Rattle.appending.proofs.ResetShown as R

-- ==== The tail
-- Where `log_tail` refuses nothing, the words begin with the log's tail, and the log has an accepted header.
pub tail-answered : (log tail : List ℕ) → AllBytes log → (scan_of log (length tail)).refusal ≡ 0 → IsTail (scan_tail log tail) log
tail-answered log tail f h = L.scan-tail log tail f h

-- Whatever has an accepted header, a state that is not refused and no more frames in force than a tail tells, it does not refuse where there is room.
pub tail-told : (big : Bool) (log : List ℕ) (words : ℕ) → Accepted big log → (state_of log).refusal ≡ 0 → frames_of log ≤ frame_limit → 8 ≤ words
    → scan_of log words ≡ told_is 0 (size_of log) (frames_of log) (state_of log).pages
tail-told big log words a ok few room = L.scan-answer big log words a ok few room

-- Where `log_append` refuses nothing, and the tail given is a log's: the output begins with the frames of the commit, to stand behind the log's last commit in force, all that is promised of them
-- below holds of them there, and the tail is that of the log with them.
pub append-answered : (tail log : List ℕ) (n : ℕ) (numbers pages out : List ℕ) → IsTail tail log → AllBytes pages
    → (append_of tail n numbers (length pages) (length out)).refusal ≡ 0
    → Appends log n numbers pages (append_of tail n numbers (length pages) (length out)) (append_tail tail n numbers pages (length out)) (append_out tail n numbers pages out)
append-answered tail log n numbers pages out t f h = W.append-appends tail log t n numbers pages out f h

-- In words: the tail of a log with a commit, by the log's own tail, the pages given and n.
pub committed-tail : (log : List ℕ) (n : ℕ) (numbers pages : List ℕ) → Accepted (big_of log) log → Fits (size_of log) n numbers pages
    → tail_of (committed (big_of log) log n numbers pages)
    ≡ tail_is (size_of log) (big_of log) (be 4 log 16) (be 4 log 20)
    (sums_from (big_of log) (size_of log) n numbers pages (sums_after (big_of log) (size_of log) log (frames_of log))) (frames_of log + length numbers) n
committed-tail log n numbers pages a fits = W.new-tail log n numbers pages a fits

-- Cut behind its last commit in force, a log has the tail that it had, and so it has with the frames of a commit behind it that are cut.
pub cut-tail : (big : Bool) (log : List ℕ) → Accepted big log → tail_of (in_force big log) ≡ tail_of log
cut-tail big log a = B.base-tail big log a

pub torn-tail : (big : Bool) (log : List ℕ) (n : ℕ) (numbers pages : List ℕ) (c : ℕ) → Accepted big log → Fits (size_of log) n numbers pages
    → c < length (frames_bytes big log n numbers pages) → tail_of (torn_at big log n numbers pages c) ≡ tail_of log
torn-tail big log n numbers pages c a fits l = B.torn-tail big log n numbers pages c a fits l

-- ==== A commit that survives every cut
-- Take any log with an accepted header, cut behind its last commit in force, and the frames of a commit behind it. Cut anywhere before their end, the log says what it said, and
-- shows with any image what it showed;
pub append-cuts : (big : Bool) (log : List ℕ) (n : ℕ) (numbers pages : List ℕ) (c : ℕ) → Accepted big log → Fits (size_of log) n numbers pages
    → c < length (frames_bytes big log n numbers pages)
    → (state_of (torn_at big log n numbers pages c) ≡ state_of log) × ((image : List ℕ) → Alike (torn_at big log n numbers pages c) log image)
append-cuts big log n numbers pages c a fits l = (A.cut-state big log n numbers pages a fits c l, A.cut-alike big log n numbers pages a fits c l)

-- uncut, it is a commit of n pages, with so many frames more in force,
pub append-commit : (big : Bool) (log : List ℕ) (n : ℕ) (numbers pages : List ℕ) → Accepted big log → Fits (size_of log) n numbers pages
    → state_of (committed big log n numbers pages) ≡ state_is 0 (size_of log) (last_commit big (size_of log) log + length numbers) n
append-commit big log n numbers pages a fits = A.new-state big log n numbers pages a fits

-- where every page that was given shows the bytes that were given for it last,
pub append-given : (big : Bool) (log : List ℕ) (n : ℕ) (numbers pages image : List ℕ) (p i : ℕ) → Accepted big log → Fits (size_of log) n numbers pages
    → i < length numbers → get_or numbers i 0 ≡ p → ((j : ℕ) → i < j → j < length numbers → get_or numbers j 0 ≡ p → ⊥)
    → view_of (committed big log n numbers pages) image p ≡ part pages (i * size_of log) (size_of log)
append-given big log n numbers pages image p i a fits l e later = A.given-view big log n numbers pages a fits image p i l e later

-- and every other page that is of both the old and the new pages shows what it showed: the same place, the same bytes. (With no commit before, the image has to pass 1 to 5 with the log's page size.)
pub append-kept : (big : Bool) (log : List ℕ) (n : ℕ) (numbers pages image : List ℕ) (p : ℕ) → Accepted big log → Fits (size_of log) n numbers pages
    → NotGiven numbers p → SizedIfAlone log image → 1 ≤ p → p ≤ n → p ≤ (pair_state log image).pages
    → (page_of (committed big log n numbers pages) image p ≡ page_of log image p)
    × (view_of (committed big log n numbers pages) image p ≡ view_of log image p)
append-kept big log n numbers pages image p a fits none alone low high old =
    let g = A.pair-sized big log image a (λ z. alone (ap (λ (x : Bool). last_commit x (size_of log) log) (L.told big log a) ∙ z)) (omega arith) in (
      A.other-page big log n numbers pages a fits image p none g.0 g.1 low high old,
      A.other-view big log n numbers pages a fits image p none g.0 g.1 low high old,
    )

-- The bytes of a page, whether it was of the old pages or not, are those of the last frame in force before or of the image.
pub append-shown : (big : Bool) (log : List ℕ) (n : ℕ) (numbers pages image : List ℕ) (p : ℕ) → Accepted big log → Fits (size_of log) n numbers pages
    → NotGiven numbers p
    → shown_at (size_of log) (committed big log n numbers pages) image (last_commit big (size_of log) log + length numbers) p
    ≡ shown_at (size_of log) log image (last_commit big (size_of log) log) p
append-shown big log n numbers pages image p a fits none = A.other-shown big log n numbers pages a fits image p none

-- The log can be appended to again: it is accepted, and all of it is in force.
pub append-again : (big : Bool) (log : List ℕ) (n : ℕ) (numbers pages : List ℕ) → Accepted big log → Fits (size_of log) n numbers pages
    → Accepted big (committed big log n numbers pages) × (size_of (committed big log n numbers pages) ≡ size_of log)
    × (in_force big (committed big log n numbers pages) ≡ committed big log n numbers pages)
append-again big log n numbers pages a fits =
    let new : List ℕ = committed big log n numbers pages in
    let s = A.new-size big log n numbers pages a fits in (
      A.new-accepted big log n numbers pages a fits,
      s,
      rw (s, A.new-last big log n numbers pages a fits, ← A.new-length big log n numbers pages a fits) (take-length new),
    )

-- ==== Whatever is written there
-- Whatever bytes stand behind the last commit in force, every commit that was in force is, and the frames in force begin with those that were;
pub append-any : (big : Bool) (log : List ℕ) → Accepted big log → (x : List ℕ)
    → ((k : ℕ) → commits big (size_of log) log k ≡ true → commits big (size_of (in_force big log ++ x)) (in_force big log ++ x) k ≡ true)
    × Begins (in_force big log) (in_force big (in_force big log ++ x))
append-any big log a x = B.behind big log a x

-- and what lies behind it is no loss: the log cut there says what it said.
pub force-state : (big : Bool) (log : List ℕ) → Accepted big log → state_of (in_force big log) ≡ state_of log
force-state big log a = B.force-state big log a

-- So a commit stays in force whatever lies behind its frames: they begin the frames in force.
pub append-behind : (big : Bool) (log : List ℕ) (n : ℕ) (numbers pages x : List ℕ) → Accepted big log → Fits (size_of log) n numbers pages
    → Begins (committed big log n numbers pages) (in_force big (committed big log n numbers pages ++ x))
append-behind big log n numbers pages x a fits =
    let g = append-again big log n numbers pages a fits in
    subst (λ (y : List ℕ). Begins y (in_force big (committed big log n numbers pages ++ x))) g.2 (append-force big (committed big log n numbers pages) x g.0)

-- ==== A header
-- A log that begins with a header that was written is accepted, whatever follows, with that page size and those salts;
pub header-accepted : (size sequence salt1 salt2 : ℕ) (log : List ℕ) → size_fits size ≡ true → 32 ≤ length log → Stands log 0 (header_bytes size sequence salt1 salt2)
    → Accepted false log × (size_of log ≡ size) × (salt1 < 2 ^ 32 → be 4 log 16 ≡ salt1) × (salt2 < 2 ^ 32 → be 4 log 20 ≡ salt2)
header-accepted size sequence salt1 salt2 log ok long s = (
  H.written-accepted size sequence salt1 salt2 log long s ok,
  H.written-size size sequence salt1 salt2 log long s ok,
  H.written-salt1 size sequence salt1 salt2 log long s ok,
  H.written-salt2 size sequence salt1 salt2 log long s ok,
)

-- cut anywhere within the header, any log has nothing to recover: the image alone is shown;
pub header-cut : (log image : List ℕ) (c : ℕ) → c < 32 → (state_of (take c log) ≡ nothing) × ShowsAlone (take c log) image
header-cut log image c l =
    let e : state_of (take c log) ≡ nothing = H.short-nothing (take c log) (omega (arith, length-take c log)) in
    (e, O.shows_alone (take c log) image e)

-- and so with the header alone,
pub header-alone : (size sequence salt1 salt2 : ℕ) (image : List ℕ) → size_fits size ≡ true
    → (state_of (header_bytes size sequence salt1 salt2) ≡ nothing) × ShowsAlone (header_bytes size sequence salt1 salt2) image
header-alone size sequence salt1 salt2 image ok =
    let e : state_of (header_bytes size sequence salt1 salt2) ≡ nothing = H.header-nothing size sequence salt1 salt2 ok in
    (e, O.shows_alone (header_bytes size sequence salt1 salt2) image e)

-- or in front of an older log's frames, where the first of them has other salts.
pub header-leftovers : (size sequence salt1 salt2 : ℕ) (log image : List ℕ) → size_fits size ≡ true → 32 ≤ length log → Stands log 0 (header_bytes size sequence salt1 salt2)
    → (be 4 log 40 ≡ be 4 log 16 → ⊥) ⊎ (be 4 log 44 ≡ be 4 log 20 → ⊥)
    → (state_of log ≡ nothing) × ShowsAlone log image
header-leftovers size sequence salt1 salt2 log image ok long s h =
    let a = H.written-accepted size sequence salt1 salt2 log long s ok in
    let f = frame-first (size_of log) in
    let e : state_of log ≡ nothing = H.none-nothing false log a (other_salts false (size_of log) log 0 (rw f h)) in
    (e, O.shows_alone log image e)

-- Where `log_begin` refuses nothing, its output begins with such a header, and the tail is the header's.
pub begin-answered : (size sequence salt1 salt2 : ℕ) (tail out : List ℕ) → salt1 < 2 ^ 32 → salt2 < 2 ^ 32 → (begin_of size (length tail) (length out)).refusal ≡ 0
    → Opens salt1 salt2 (begin_tail size sequence salt1 salt2 (length out) tail) (begin_out size sequence salt1 salt2 (length tail) out)
begin-answered size sequence salt1 salt2 tail out l1 l2 h = O.begin-opens size sequence salt1 salt2 tail out l1 l2 h

-- ==== Checkpoints
-- Where a log has a commit in force, the pages that its frames hold may stand in the image in any state: a copy of them into the image, torn anywhere, changes nothing that is shown.
pub checkpoint-torn : (log a b : List ℕ) → ((state_of log).refusal ≡ 0 → (state_of log).frames ≡ 0 → ⊥)
    → SameBelow (state_of log).size log (state_of log).frames (state_of log).pages a b → AlikeBelow log a b
checkpoint-torn log a b some same = C.below_alike log a b some same

-- By bytes: the image may grow, and change in all bytes but those of the pages that lie in it and that no frame in force holds.
pub checkpoint-bytes : (log a b : List ℕ) → ((state_of log).refusal ≡ 0 → (state_of log).frames ≡ 0 → ⊥) → 1 ≤ (state_of log).size → length a ≤ length b
    → ((p : ℕ) → 1 ≤ p → p ≤ (state_of log).pages → last_frame (state_of log).size log p (state_of log).frames ≡ 0
    → (p * (state_of log).size ≤ length a) ⊎ (length b < p * (state_of log).size))
    → ((j : ℕ) → j < length a → last_frame (state_of log).size log (j / (state_of log).size + 1) (state_of log).frames ≡ 0 → byte_at b j ≡ byte_at a j)
    → AlikeBelow log a b
checkpoint-bytes log a b some size grown lies same =
    checkpoint-torn log a b some (C.same_bytes (state_of log).size log (state_of log).frames (state_of log).pages a b size grown lies same)

-- Once the whole recovered file is the image, and its own header says the page size, the log is needed no more: with no log, or any that has nothing to recover, n and the size
-- are the same, the whole file is the same, and each page has the same bytes;
pub checkpointed : (log image other : List ℕ) (room : ℕ) → refusal_in (pair_state log image) log image room ≡ 0 → state_of other ≡ nothing
    → (pages_in (whole_of log image)).refusal ≡ 0 → (pages_in (whole_of log image)).size ≡ (pair_state log image).size
    → (pair_state other (whole_of log image) ≡ state_is 0 (pair_state log image).size 0 (pair_state log image).pages)
    × (whole_of other (whole_of log image) ≡ whole_of log image)
    × ((p : ℕ) → 1 ≤ p → p ≤ (pair_state log image).pages
    → view_of other (whole_of log image) p ≡ shown_at (pair_state log image).size log image (pair_state log image).frames p)
checkpointed log image other room done none headed sized = (
  C.file-state log image room done other none headed sized,
  C.file-whole log image room done other none headed sized,
  λ p low high. C.file-view log image room done other none headed sized p low high,
)

-- which are those of its view, the lock-byte page's included if the image had it. (Else its view was refused with 46, and is zeros now.)
pub checkpointed-view : (log image other : List ℕ) (room p : ℕ) → refusal_in (pair_state log image) log image room ≡ 0 → state_of other ≡ nothing
    → (pages_in (whole_of log image)).refusal ≡ 0 → (pages_in (whole_of log image)).size ≡ (pair_state log image).size → 1 ≤ p → p ≤ (pair_state log image).pages
    → (p ≡ lock_page (pair_state log image).size → p * (pair_state log image).size ≤ length image)
    → view_of other (whole_of log image) p ≡ view_of log image p
checkpointed-view log image other room p done none headed sized low high there =
    let ok = succeeds (pair_state log image) log image room done in
    C.file-view log image room done other none headed sized p low high
    ∙ sym (view-page (pair_state log image) log image room ok (state-bounds log image ok.passed) p low high there)

-- ==== A log begun anew
-- Once the image is the recovered file, the log may be begun anew. Let it be cut to nothing and a fresh header be written, torn anywhere:
pub reset-cuts : (size sequence salt1 salt2 : ℕ) (log image : List ℕ) (room c : ℕ) → size_fits size ≡ true → refusal_in (pair_state log image) log image room ≡ 0
    → (pages_in (whole_of log image)).refusal ≡ 0 → (pages_in (whole_of log image)).size ≡ (pair_state log image).size
    → ShowsImage (take c (header_bytes size sequence salt1 salt2)) (whole_of log image) (pair_state log image).size (pair_state log image).pages
reset-cuts size sequence salt1 salt2 log image room c ok done headed sized =
    let h : List ℕ = header_bytes size sequence salt1 salt2 in
    let none : state_of (take c h) ≡ nothing =
    ⊎_elim
    (λ (l : c < 32). (header-cut h image c l).0)
    (λ (l : 32 ≤ c). ap state_of (take_all c h (omega (arith, H.header-length size sequence salt1 salt2))) ∙ (header-alone size sequence salt1 salt2 image ok).0)
    (lt-or-ge c 32) in
    R.alone-shows log image (take c h) room done none headed sized

-- or let the fresh header be laid over the old one, torn anywhere, in front of the old frames. Where one of its salts is another one, the file is shown as it is at every cut, whatever
-- the sums of a torn header are.
pub reset-torn : (size old1 old2 old3 new1 new2 new3 : ℕ) (log image : List ℕ) (room c : ℕ) → size_fits size ≡ true → 32 ≤ length log
    → Stands log 0 (header_bytes size old1 old2 old3) → (last_commit false size log ≡ 0 → ⊥) → c ≤ 32
    → old2 < 2 ^ 32 → old3 < 2 ^ 32 → new2 < 2 ^ 32 → new3 < 2 ^ 32 → (new2 ≡ old2 → ⊥) ⊎ (new3 ≡ old3 → ⊥)
    → refusal_in (pair_state log image) log image room ≡ 0
    → (pages_in (whole_of log image)).refusal ≡ 0 → (pages_in (whole_of log image)).size ≡ (pair_state log image).size
    → ShowsImage (take c (header_bytes size new1 new2 new3) ++ drop c log) (whole_of log image) (pair_state log image).size (pair_state log image).pages
reset-torn size old1 old2 old3 new1 new2 new3 log image room c ok long s some low o2 o3 n2 n3 other done headed sized =
    let torn : List ℕ = take c (header_bytes size new1 new2 new3) ++ drop c log in
    ⊎_elim
    (λ (none : state_of torn ≡ nothing). R.alone-shows log image torn room done none headed sized)
    (λ (same : (state_of torn ≡ state_of log) × ((k m : ℕ) → Agree k m torn log)). R.same-shows log image torn room done same.0 same.1)
    (T.torn-cases size old1 old2 old3 new1 new2 new3 log c ok long s some low o2 o3 n2 n3 other)

-- The same of any log of bytes with an accepted little-endian header.
pub reset-over : (sequence salt1 salt2 : ℕ) (log image : List ℕ) (room c : ℕ) → Accepted false log → AllBytes log → (last_commit false (size_of log) log ≡ 0 → ⊥) → c ≤ 32
    → salt1 < 2 ^ 32 → salt2 < 2 ^ 32 → (salt1 ≡ be 4 log 16 → ⊥) ⊎ (salt2 ≡ be 4 log 20 → ⊥)
    → refusal_in (pair_state log image) log image room ≡ 0
    → (pages_in (whole_of log image)).refusal ≡ 0 → (pages_in (whole_of log image)).size ≡ (pair_state log image).size
    → ShowsImage (take c (header_bytes (size_of log) sequence salt1 salt2) ++ drop c log) (whole_of log image) (pair_state log image).size (pair_state log image).pages
reset-over sequence salt1 salt2 log image room c a f some low l1 l2 other done headed sized =
    reset-torn (size_of log) (be 4 log 12) (be 4 log 16) (be 4 log 20) sequence salt1 salt2 log image room c a.size a.long (header-stands log a f) some low
    (be-bound 4 log 16 f) (be-bound 4 log 20 f) l1 l2 other done headed sized
