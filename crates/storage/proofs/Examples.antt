-- A life by example, so that nothing above is about no disk at all: a file of one page of 512 bytes, whose number is byte 100. A commit is torn behind 100 bytes, done again, and the
-- number that was read is used; a checkpoint, and a fresh log.
use Prim.Native.Nat.{ℕ, zero, suc, ◌+◌, ◌-◌, ◌*◌, ◌<◌, ◌≤◌}
use mathlib.Core.Path.{◌≡◌, refl, sym, ap, ◌∙◌, subst}
use mathlib.Core.Logic.{inl}
use mathlib.Core.Bool.{Bool, true, false, false≢true}
use mathlib.Core.List.{List, [], ◌∷◌, ◌++◌}
use native.Mathlib.Omega.{arith}
use lib.Dec.{eqb}
use lib.ListN.{length, get_or, take, replicate}
use lib.Seq.{take_all, take_at}
use borrow.Author.Tests.{eq-eqb}
use Rattle.number.proofs.VarintReading.{Stands}
use Rattle.number.specs.Bytes.{byte_at, be, part}
use Rattle.header.specs.Header as HS
use Rattle.header.specs.Header.{magic}
use Rattle.paging.specs.Pages.{lock_page, size_fits}
use Rattle.wal.specs.State.{size_of}
use Rattle.wal.specs.Frames.{page_number, last_commit, last_frame}
use Rattle.wal.specs.Promises.{Accepted, in_force}
use Rattle.wal.specs.State.{state_is}
use Rattle.wal.specs.State.{State}
use Rattle.appending.specs.Written.{header_bytes, frames_bytes}
use Rattle.appending.specs.Tail.{big_of}
use Rattle.appending.specs.Promises.{Fits, committed, torn_at}
use Rattle.appending.proofs.AppendLaws as A
use Rattle.appending.proofs.HeaderLaws.{header-length}
use Rattle.appending.proofs.TailLaws.{told}
use Rattle.appending.proofs.Theorems.{header-accepted, append-cuts, append-again}
use Rattle.storage.specs.Disk.{Disk, disk_is, state_now, shown, Sound, File}
use Rattle.storage.specs.Deeds.{Deed, commit, checkpoint, restart, renew, May, completed, ImageInCheckpoint, Leaves, torn}
use Rattle.storage.specs.Lives.{Event, Life, NeverLowers, Careful, used_numbers}
use Rattle.storage.proofs.DeedLaws.{self, behind-size, behind-byte, behind-accepted, copied-state, copied-shown, all-copied}
use Rattle.storage.proofs.Theorems.{file-sound, file-commits, cut-shows, completed-sound, commit-again, commit-makes, Makes, restart-behind}

abbrev file_with : (v : ℕ) → List ℕ
file_with v = magic ++ (2 ∷ 0 ∷ []) ++ replicate 82 0 ++ (v ∷ []) ++ replicate 411 0

abbrev number : List ℕ → ℕ
number b = byte_at b 100

pub a-file : (v : ℕ) → File 512 (file_with v)
unfolding HS.pages_in HS.size_refusal HS.form_refusal HS.size_of HS.size_for HS.present_of HS.holds be
a-file v = record { passes = refl; names = refl }

one-page : (v : ℕ) → (HS.pages_in (file_with v)).pages ≡ 1
unfolding HS.pages_in HS.size_refusal HS.form_refusal HS.size_of HS.size_for HS.present_of HS.holds be
one-page v = refl

fits-512 : size_fits 512 ≡ true
unfolding size_fits
fits-512 = refl

lock-far : lock_page 512 ≡ 2097153
unfolding lock_page
lock-far = refl

abbrev header : List ℕ
header = header_bytes 512 0 1 2

header-size : size_of header ≡ 512
header-size =
    let long : 32 ≤ length header = omega (arith, header-length 512 0 1 2) in
    (header-accepted 512 0 1 2 header fits-512 long (self header)).1

-- the disk at the start, and the deed
abbrev start : Disk
start = disk_is (file_with 5) header

abbrev raise : Deed
raise = commit 1 (1 ∷ []) (file_with 6)

whole-header : take 32 header ≡ header
whole-header = take_all 32 header (omega (arith, header-length 512 0 1 2))

pub start-sound : Sound start × (shown start ≡ file_with 5)
start-sound =
    let s = file-sound 512 (file_with 5) 0 1 2 32 (a-file 5) in
    subst (λ (l : List ℕ). Sound (disk_is (file_with 5) l) × (shown (disk_is (file_with 5) l) ≡ file_with 5)) whole-header (s.0, s.1)

raise-fits : Fits 512 1 (1 ∷ []) (file_with 6)
raise-fits = record { some = omega arith; few = omega arith; low = low; high = high; unlocked = unlocked; whole = refl }
  where
    low : (i : ℕ) → i < 1 → 1 ≤ get_or (1 ∷ []) i 0
    low zero l = omega arith
    low (suc i) l = absurd (omega arith)

    high : (i : ℕ) → i < 1 → get_or (1 ∷ []) i 0 ≤ 1
    high zero l = omega arith
    high (suc i) l = absurd (omega arith)

    unlocked : (i : ℕ) → i < 1 → get_or (1 ∷ []) i 0 ≡ lock_page 512 → ⊥
    unlocked zero l e = let f = lock-far in omega arith
    unlocked (suc i) l e = absurd (omega arith)

pub may-raise : May raise start
may-raise = file-commits 512 (file_with 5) 0 1 2 1 (1 ∷ []) (file_with 6) (a-file 5) raise-fits (λ p over high ne. absurd (let e = one-page 5 in omega arith))

raise-makes : (size : ℕ) (old : List ℕ) (k : ℕ) → size ≡ 512 → Makes size 1 (1 ∷ []) (file_with 6) old k (file_with 6)
raise-makes size old k e = record { long = rw e refl; given = given; others = λ p low high none. absurd (none (0, omega arith, omega arith)) }
  where
    given : (i : ℕ) → i < 1 → part (file_with 6) (i * size) size ≡ part (file_with 6) ((get_or (1 ∷ []) i 0 - 1) * size) size
    given zero l = refl
    given (suc i) l = absurd (omega arith)

-- the power goes when 100 bytes are written: 5 is shown
abbrev half : Disk
half = disk_is (file_with 5) (torn_at (big_of header) header 1 (1 ∷ []) (file_with 6) 100)

abbrev frames : List ℕ
frames = frames_bytes (big_of header) header 1 (1 ∷ []) (file_with 6)

pub half-left : Leaves raise start half
half-left = (refl, torn 100 refl)

frames-long : length frames ≡ 1 * (24 + size_of header)
frames-long = A.added-length (big_of header) header 1 (1 ∷ []) (file_with 6) may-raise.header may-raise.fits

pub half-shown : shown half ≡ file_with 5
half-shown =
    let l : 100 < length frames = omega (arith, frames-long, header-size) in
    ((append-cuts (big_of header) header 1 (1 ∷ []) (file_with 6) 100 may-raise.header may-raise.fits l).1 (file_with 5)).whole ∙ start-sound.1

half-sound : Sound half
half-sound = (cut-shows raise start half start-sound.0 may-raise half-left).0

half-may : May raise half
half-may = commit-again 1 (1 ∷ []) (file_with 6) start half may-raise half-left start-sound.0

half-size : size_of half.log ≡ 512
half-size = behind-size (big_of header) header may-raise.header (take 100 frames) ∙ header-size

-- it is done again: 6 is shown, and 5 may be used
abbrev done : Disk
done = completed raise half

pub done-shown : shown done ≡ file_with 6
done-shown = commit-makes 1 (1 ∷ []) (file_with 6) half (file_with 6) half-sound half-may (raise-makes (size_of half.log) (shown half) (state_now half).pages half-size)

done-sound : Sound done
done-sound = completed-sound raise half half-sound half-may

done-state : state_now done ≡ state_is 0 (size_of half.log) (last_commit (big_of half.log) (size_of half.log) half.log + 1) 1
done-state = A.new-pair (big_of half.log) half.log 1 (1 ∷ []) (file_with 6) half-may.header half-may.fits (file_with 5)

-- checkpoint, and a fresh log
done-may : May checkpoint done
done-may z = let e = ap (λ (s : State). s.frames) done-state in omega arith

abbrev copied : Disk
copied = completed checkpoint done

copied-may : May (restart 1 7 8) copied
copied-may =
    let s : (state_now done).size ≡ 512 = ap (λ (s : State). s.size) done-state ∙ half-size in
    restart-behind done done-sound done-may (subst (λ (b : List ℕ). File (state_now done).size b) (sym done-shown) (rw s (a-file 6)))

-- or a fresh header laid over the old one
little : big_of half.log ≡ false
little =
    let a = (header-accepted 512 0 1 2 header fits-512 (omega (arith, header-length 512 0 1 2)) (self header)).0 in
    told (big_of header) half.log (behind-accepted (big_of header) header may-raise.header _) ∙ told false header a

copied-size : (state_now copied).size ≡ 512
copied-size =
    ap (λ (s : State). s.size) (copied-state done.log (file_with 5) (shown done) done-sound.recovers done-may (all-copied done.log (file_with 5) done-sound.recovers))
    ∙ ap (λ (s : State). s.size) done-state
    ∙ half-size

pub may-renew : May (renew 1 7 8) copied
may-renew =
    record {
      checkpointed = copied-may;
      old_sequence = 0;
      old1 = 1;
      old2 = 2;
      long = (behind-accepted (big_of half.log) half.log half-may.header _).long;
      header = subst (λ (size : ℕ). Stands done.log 0 (header_bytes size 0 1 2)) (sym copied-size) first;
      some = λ z. none (subst (λ (size : ℕ). last_commit false size done.log ≡ 0) copied-size z);
      words = (omega arith, omega arith, omega arith, omega arith);
      other = inl (λ e. omega arith);
    }
  where
    first : Stands done.log 0 header
    first i l =
        let k : 0 + i < 32 = omega (arith, header-length 512 0 1 2) in
        behind-byte (big_of half.log) half.log half-may.header _ (0 + i) k
        ∙ behind-byte (big_of header) header may-raise.header _ (0 + i) k
        ∙ self header i l

    none : last_commit false 512 done.log ≡ 0 → ⊥
    none z =
        let e = A.new-last (big_of half.log) half.log 1 (1 ∷ []) (file_with 6) half-may.header half-may.fits in
        let f : last_commit (big_of half.log) (size_of half.log) done.log ≡ 0 =
        subst (λ (size : ℕ). last_commit (big_of half.log) size done.log ≡ 0) (sym half-size)
        (subst (λ (big : Bool). last_commit big 512 done.log ≡ 0) (sym little) z) in
        omega arith

abbrev events : List Event
events =
    record { deed = raise; done = false; after = half; used = false }
    ∷ record { deed = raise; done = true; after = done; used = true }
    ∷ record { deed = checkpoint; done = true; after = copied; used = false }
    ∷ record { deed = restart 1 7 8; done = true; after = completed (restart 1 7 8) copied; used = false }
    ∷ []

pub a-life : Life start events
unfolding Life
a-life = (may-raise, half-left, (half-may, refl, (done-may, refl, (copied-may, refl, tt))))

raised-to : (d : Disk) → shown d ≡ file_with 5 → shown (completed raise d) ≡ file_with 6 → number (shown d) < number (shown (completed raise d))
raised-to d a b = rw (a, b) (omega arith)

start-raised : shown (completed raise start) ≡ file_with 6
start-raised =
    commit-makes 1 (1 ∷ []) (file_with 6) start (file_with 6) start-sound.0 may-raise (raise-makes (size_of header) (shown start) (state_now start).pages header-size)

pub rises : NeverLowers number start events
unfolding NeverLowers
rises =
    let a = raised-to start start-sound.1 start-raised in
    let b = raised-to half half-shown done-shown in
    (omega arith, (omega arith, (tt, (tt, tt))))

pub careful : Careful number start events
unfolding Careful
careful = (λ u. absurd (false≢true u), (λ u. (refl, raised-to half half-shown done-shown), (λ u. absurd (false≢true u), (λ u. absurd (false≢true u), tt))))

pub five-used : used_numbers number start events ≡ 5 ∷ []
unfolding used_numbers
five-used = ap (λ (b : List ℕ). number b ∷ []) half-shown

-- ---- why the log is cut to nothing at once
-- A second commit, of 7, behind that of 6; a checkpoint, so that the image has 7. Were the log then cut to a part of itself, the commit of 6 would be in force again, over it.
abbrev both : List ℕ
both = committed (big_of done.log) done.log 1 (1 ∷ []) (file_with 7)

done-again : Accepted (big_of half.log) done.log × (size_of done.log ≡ size_of half.log) × (in_force (big_of half.log) done.log ≡ done.log)
done-again = append-again (big_of half.log) half.log 1 (1 ∷ []) (file_with 6) half-may.header half-may.fits

-- the log cut behind the first of them
pub a-part : take (length done.log) both ≡ done.log
a-part =
    let big-is : big_of done.log ≡ big_of half.log = told (big_of half.log) done.log done-again.0 in
    let e : in_force (big_of done.log) done.log ≡ done.log = ap (λ (big : Bool). in_force big done.log) big-is ∙ done-again.2 in
    let more : List ℕ = frames_bytes (big_of done.log) done.log 1 (1 ∷ []) (file_with 7) in
    ap (λ (x : List ℕ). take (length done.log) (x ++ more)) e ∙ take_at done.log more (length done.log) refl

-- shows 6 over an image that has 7
pub shows-older : shown (disk_is (file_with 7) done.log) ≡ file_with 6
shows-older = copied-shown done.log (file_with 5) (file_with 7) done-sound.recovers done-may left ∙ done-shown
  where
    size : ℕ
    size = size_of half.log

    m : ℕ
    m = last_commit (big_of half.log) size half.log

    held : last_frame size done.log 1 (m + 1) ≡ 0 → ⊥
    held z =
        let n : page_number size done.log (m + 0) ≡ 1 =
        (A.added (big_of half.log) half.log 1 (1 ∷ []) (file_with 6) half-may.header half-may.fits).number 0 (omega arith) in
        let l = A.before_last (λ (k : ℕ). eqb (page_number size done.log k) 1) (m + 1) (m + 0) (omega arith) (eq-eqb _ _ n) in
        omega arith

    left : ImageInCheckpoint (state_now done).size done.log (state_now done).frames (state_now done).pages (file_with 5) (file_with 7)
    left =
        subst (λ (s : State). ImageInCheckpoint s.size done.log s.frames s.pages (file_with 5) (file_with 7)) (sym done-state)
        (record {
          others = λ p low high ne z. absurd (let e : p ≡ 1 = omega arith in held (subst (λ (q : ℕ). last_frame size done.log q (m + 1) ≡ 0) e z));
          lock = λ high. absurd (let e = ap lock_page half-size in let f = lock-far in omega arith);
        })
