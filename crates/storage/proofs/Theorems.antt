-- No number twice. The words are in specs/: `shown d` is the file that recovery gives, `Sound d` says that it gives one, `Leaves deed d e` that the power may leave e.
use Prim.Native.Nat.{ℕ, zero, suc, ◌+◌, ◌-◌, ◌*◌, ◌<◌, ◌≤◌}
use mathlib.Core.Path.{◌≡◌, refl, sym, ap, ap₂, ◌∙◌, subst}
use mathlib.Core.Logic.{◌⊎◌, inl, inr, ⊎_elim}
use mathlib.Core.Bool.{Bool, true, false, cond, false≢true}
use mathlib.Core.List.{List, [], ◌∷◌, ◌++◌}
use native.Mathlib.Omega.{arith}
use lib.ListN.{length, get_or, take, drop, length-append}
use lib.Seq.{take_all, take_at, take-length, length-take-le}
use Rattle.number.specs.Bytes.{be, part}
use Rattle.number.proofs.Cases.{lt-or-ge}
use Rattle.wal.specs.Frames.{frame_at, holds, commits, last_commit}
use Rattle.wal.specs.State.{size_of}
use Rattle.wal.specs.View.{pair_state, whole_of}
use Rattle.wal.specs.Promises.{Accepted, in_force, Begins}
use Rattle.wal.proofs.FrameLaws.{frame-far, in-force-whole}
use Rattle.wal.specs.Promises as W
use Rattle.wal.specs.State.{State}
use Rattle.wal.proofs.CutLaws.{commit-before}
use Rattle.wal.proofs.Theorems.{other_salts}
use Rattle.wal.proofs.Grows.{number-never-falls}
use Rattle.header.specs.Header.{pages_in}
use Rattle.paging.specs.Pages.{lock_page}
use Rattle.appending.specs.Written.{header_bytes, frames_bytes}
use Rattle.appending.specs.Tail.{big_of, IsTail}
use Rattle.appending.specs.Promises.{Fits, Alike, Appends, written_to}
use Rattle.appending.specs.Appended.{Appended}
use Rattle.appending.proofs.HeaderLaws.{header-length}
use Rattle.appending.proofs.TailLaws.{told}
use Rattle.appending.proofs.Theorems.{header-accepted, header-alone, append-any}
use Rattle.storage.specs.Disk.{Disk, disk_is, state_now, shown, Sound, File}
use Rattle.storage.specs.Deeds.{Deed, commit, checkpoint, restart, renew, Given, MayRestart, May, fresh_header, completed, NoneBehind, torn, Leaves}
use Rattle.storage.specs.Lives.{Event, Ends, Life, disk_at, Among, files_after, files_at, Holds, NeverLowers, Careful, used_numbers, Rising}
use Rattle.storage.proofs.DeedLaws as L
use Rattle.storage.proofs.SoundLaws as S
use Rattle.storage.proofs.SoundLaws.{Shows, disk-is}

le-both : (a b : ℕ) → a ≤ b → b ≤ a → a ≡ b
le-both a b x y = omega arith

-- ==== One deed
-- The completed disk is one of those that the power may leave: it may go when all is written.
pub completed-left : (deed : Deed) (d : Disk) → Sound d → May deed d → Leaves deed d (completed deed d)
completed-left (commit n numbers pages) d sound may =
    let frames : List ℕ = frames_bytes (big_of d.log) d.log n numbers pages in
    (refl, torn (length frames) (ap (λ (x : List ℕ). in_force (big_of d.log) d.log ++ x) (sym (take-length frames))))
completed-left checkpoint d sound may = (refl, L.all-copied d.log d.image sound.recovers)
completed-left (restart sequence salt1 salt2) d sound may =
    let h : List ℕ = fresh_header d sequence salt1 salt2 in
    (refl, inr (length h, sym (take-length h)))
completed-left (renew sequence salt1 salt2) d sound may =
    let h : List ℕ = fresh_header d sequence salt1 salt2 in
    let e : take 32 h ≡ h = take_all 32 h (omega (arith, header-length (state_now d).size sequence salt1 salt2)) in
    (refl, (32, omega arith, ap (λ (x : List ℕ). x ++ drop 32 d.log) (sym e)))

-- Cut anywhere, a deed leaves a sound disk that shows what was shown or what it shows when completed, in pages of the same size.
pub cut-shows : (deed : Deed) (d e : Disk) → Sound d → May deed d → Leaves deed d e → Sound e × ((shown e ≡ shown d) ⊎ (shown e ≡ shown (completed deed d))) × ((state_now e).size ≡ (state_now d).size)
cut-shows (commit n numbers pages) d e sound may (i, l) =
    let q : disk_is d.image e.log ≡ e = disk-is e d.image e.log i refl in
    ⊎_elim
    (λ (s : Shows (shown d) (state_now d).size (disk_is d.image e.log)). let t : Shows (shown d) (state_now d).size e = subst (Shows (shown d) (state_now d).size) q s in (t.0, inl t.1, t.2))
    (λ (s : Shows (shown (completed (commit n numbers pages) d)) (state_now d).size (disk_is d.image e.log)).
    let t : Shows (shown (completed (commit n numbers pages) d)) (state_now d).size e = subst (Shows (shown (completed (commit n numbers pages) d)) (state_now d).size) q s in (t.0, inr t.1, t.2))
    (S.commit-cut d.image d.log sound n numbers pages may e.log l)
cut-shows checkpoint d e sound may (l, left) =
    let t : Shows (shown d) (state_now d).size e =
    subst (Shows (shown d) (state_now d).size) (disk-is e e.image d.log refl l) (S.copied-shows d.image e.image d.log sound may left) in
    (t.0, inl t.1, t.2)
cut-shows (restart sequence salt1 salt2) d e sound may (i, l) =
    let t : Shows (shown d) (state_now d).size e =
    subst (Shows (shown d) (state_now d).size) (disk-is e d.image e.log i refl) (S.restart-cut d.image d.log sound may sequence salt1 salt2 e.log l) in
    (t.0, inl t.1, t.2)
cut-shows (renew sequence salt1 salt2) d e sound may (i, l) =
    let t : Shows (shown d) (state_now d).size e =
    subst (Shows (shown d) (state_now d).size) (disk-is e d.image e.log i refl) (S.renew-cut d.image d.log sound sequence salt1 salt2 may e.log l) in
    (t.0, inl t.1, t.2)

-- Completed, it leaves a sound disk;
pub completed-sound : (deed : Deed) (d : Disk) → Sound d → May deed d → Sound (completed deed d)
completed-sound deed d sound may = (cut-shows deed d (completed deed d) sound may (completed-left deed d sound may)).0

-- a checkpoint and a fresh header show what was shown, at every cut and completed;
pub checkpoint-shows : (d e : Disk) → Sound d → May checkpoint d → Leaves checkpoint d e → shown e ≡ shown d
checkpoint-shows d e sound may (l, left) =
    (subst (Shows (shown d) (state_now d).size) (disk-is e e.image d.log refl l) (S.copied-shows d.image e.image d.log sound may left)).1

pub restart-shows : (sequence salt1 salt2 : ℕ) (d e : Disk) → Sound d → May (restart sequence salt1 salt2) d → Leaves (restart sequence salt1 salt2) d e → shown e ≡ shown d
restart-shows sequence salt1 salt2 d e sound may (i, l) =
    (subst (Shows (shown d) (state_now d).size) (disk-is e d.image e.log i refl) (S.restart-cut d.image d.log sound may sequence salt1 salt2 e.log l)).1

pub renew-shows : (sequence salt1 salt2 : ℕ) (d e : Disk) → Sound d → May (renew sequence salt1 salt2) d → Leaves (renew sequence salt1 salt2) d e → shown e ≡ shown d
renew-shows sequence salt1 salt2 d e sound may (i, l) =
    (subst (Shows (shown d) (state_now d).size) (disk-is e d.image e.log i refl) (S.renew-cut d.image d.log sound sequence salt1 salt2 may e.log l)).1

-- and a commit shows the new file: n pages, each page that was given with the bytes given last for it, each other page that was there as it was.
pub record NewFile (size n : ℕ) (numbers pages old new : List ℕ) (old_pages : ℕ) : Type 0 where
  pub long : length new ≡ n * size
  pub given : (p i : ℕ) → i < length numbers → get_or numbers i 0 ≡ p → ((j : ℕ) → i < j → j < length numbers → get_or numbers j 0 ≡ p → ⊥)
      → part new ((p - 1) * size) size ≡ part pages (i * size) size
  pub kept : (p : ℕ) → 1 ≤ p → p ≤ n → p ≤ old_pages → ((i : ℕ) → i < length numbers → get_or numbers i 0 ≡ p → ⊥)
      → part new ((p - 1) * size) size ≡ part old ((p - 1) * size) size

pub commit-shows : (n : ℕ) (numbers pages : List ℕ) (d : Disk) → Sound d → May (commit n numbers pages) d
    → NewFile (size_of d.log) n numbers pages (shown d) (shown (completed (commit n numbers pages) d)) (state_now d).pages
commit-shows n numbers pages d sound may =
    let big : Bool = big_of d.log in
    let sized = sound.sized big may.header in
    record {
      long = L.new-length big d.log may.header n numbers pages may.fits d.image sound.recovers sized may.grows;
      given = L.new-given big d.log may.header n numbers pages may.fits d.image sound.recovers sized may.grows;
      kept = L.new-kept big d.log may.header n numbers pages may.fits d.image sound.recovers sized may.grows;
    }

-- A writer is never stuck. A commit that was cut may be done again on what is there;
pub commit-again : (n : ℕ) (numbers pages : List ℕ) (d e : Disk) → May (commit n numbers pages) d → Leaves (commit n numbers pages) d e → Sound d → May (commit n numbers pages) e
commit-again n numbers pages d e may (i, l) sound =
    let r = S.commit-ready d.image d.log sound n numbers pages may e.log l in
    let size_is : size_of e.log ≡ size_of d.log = r.1 in
    record {
      header = subst (λ (big : Bool). Accepted big e.log) (sym (told (big_of d.log) e.log r.0)) r.0;
      fits = subst (λ (size : ℕ). Fits size n numbers pages) (sym size_is) may.fits;
      grows = λ p over high ne.
          ⊎_elim
          (λ (old : (pair_state e.log d.image).pages ≡ (state_now d).pages).
          may.grows p (rw (i, old) at over) high (λ q. ne (q ∙ ap lock_page (sym size_is))))
          (λ (new : (pair_state e.log d.image).pages ≡ n). absurd (let o : n < p = rw (i, new) at over in omega arith))
          r.2;
    }

-- a checkpoint may be done, or else the log begun anew;
pub never_stuck : (d : Disk) → Sound d → May checkpoint d ⊎ MayRestart d
never_stuck d sound = ⊎_elim (λ s. inl s) (λ s. inr s) (L.some-or-alone d.log d.image sound.recovers)

-- and it may be begun anew when the checkpoint is done, where what is shown is a file by itself.
pub restart-behind : (d : Disk) → Sound d → May checkpoint d → File (state_now d).size (shown d) → MayRestart (completed checkpoint d)
restart-behind d sound may file =
    let left = L.all-copied d.log d.image sound.recovers in
    let s : state_now (completed checkpoint d) ≡ state_now d = L.copied-state d.log d.image (shown d) sound.recovers may left in
    record {
      done = sym (checkpoint-shows d (completed checkpoint d) sound may (completed-left checkpoint d sound may));
      file = subst (λ (x : State). File x.size (shown d)) (sym s) file;
    }

-- ==== A life
-- Whatever happens, the file can be recovered: a life needs it of its first disk alone.
pub ends-left : (done : Bool) (deed : Deed) (d e : Disk) → Sound d → May deed d → Ends done deed d e → Leaves deed d e
ends-left true deed d e sound may ends = subst (Leaves deed d) (sym ends) (completed-left deed d sound may)
ends-left false deed d e sound may ends = ends

pub life-sound : (d : Disk) (events : List Event) → Sound d → Life d events → (k : ℕ) → Sound (disk_at d events k)
unfolding Life disk_at
life-sound d [] sound life zero = sound
life-sound d [] sound life (suc k) = sound
life-sound d (e ∷ rest) sound life zero = sound
life-sound d (e ∷ rest) sound (may, ends, life) (suc k) =
    life-sound e.after rest (cut-shows e.deed d e.after sound may (ends-left e.done e.deed d e.after sound may ends)).0 life k

-- At every moment the file is shown that was committed last, or that of a commit begun since and cut: none older, none else.
deed-among : (done : Bool) (deed : Deed) (d e : Disk) (files : List (List ℕ)) → Sound d → May deed d → Ends done deed d e → Among (shown d) files
    → Among (shown e) (files_after done deed d files)
unfolding Among
deed-among true (commit n numbers pages) d e files sound may ends was = inl (ap shown ends)
deed-among false (commit n numbers pages) d e files sound may ends was =
    ⊎_elim
    (λ (same : shown e ≡ shown d). inr (subst (λ (x : List ℕ). Among x files) (sym same) was))
    (λ (new : shown e ≡ shown (completed (commit n numbers pages) d)). inl new)
    (cut-shows (commit n numbers pages) d e sound may ends).1
deed-among true checkpoint d e files sound may ends was =
    subst (λ (x : List ℕ). Among x files) (sym (checkpoint-shows d e sound may (ends-left true checkpoint d e sound may ends))) was
deed-among false checkpoint d e files sound may ends was = subst (λ (x : List ℕ). Among x files) (sym (checkpoint-shows d e sound may ends)) was
deed-among true (restart sequence salt1 salt2) d e files sound may ends was =
    subst (λ (x : List ℕ). Among x files) (sym (restart-shows sequence salt1 salt2 d e sound may (ends-left true (restart sequence salt1 salt2) d e sound may ends))) was
deed-among false (restart sequence salt1 salt2) d e files sound may ends was =
    subst (λ (x : List ℕ). Among x files) (sym (restart-shows sequence salt1 salt2 d e sound may ends)) was
deed-among true (renew sequence salt1 salt2) d e files sound may ends was =
    subst (λ (x : List ℕ). Among x files) (sym (renew-shows sequence salt1 salt2 d e sound may (ends-left true (renew sequence salt1 salt2) d e sound may ends))) was
deed-among false (renew sequence salt1 salt2) d e files sound may ends was =
    subst (λ (x : List ℕ). Among x files) (sym (renew-shows sequence salt1 salt2 d e sound may ends)) was

life-among : (d : Disk) (events : List Event) (files : List (List ℕ)) → Sound d → Life d events → Among (shown d) files → (k : ℕ)
    → Among (shown (disk_at d events k)) (files_at files d events k)
unfolding Life disk_at files_at
life-among d [] files sound life was zero = was
life-among d [] files sound life was (suc k) = was
life-among d (e ∷ rest) files sound life was zero = was
life-among d (e ∷ rest) files sound (may, ends, life) was (suc k) =
    let left = ends-left e.done e.deed d e.after sound may ends in
    life-among e.after rest (files_after e.done e.deed d files) (cut-shows e.deed d e.after sound may left).0 life
    (deed-among e.done e.deed d e.after files sound may ends was) k

pub life-shows : (d : Disk) (events : List Event) → Sound d → Life d events → (k : ℕ) → Among (shown (disk_at d events k)) (files_at (shown d ∷ []) d events k)
unfolding Among
life-shows d events sound life k = life-among d events (shown d ∷ []) sound life (inl refl) k

-- An event that was completed left the completed disk.
ends-done : (done : Bool) (deed : Deed) (d e : Disk) → done ≡ true → Ends done deed d e → e ≡ completed deed d
ends-done true deed d e t ends = ends
ends-done false deed d e t ends = absurd (false≢true t)

pub completed-at : (d : Disk) (before : List Event) (e : Event) (rest : List Event) → Life d (before ++ (e ∷ rest)) → e.done ≡ true
    → disk_at d (before ++ (e ∷ rest)) (suc (length before)) ≡ completed e.deed (disk_at d (before ++ (e ∷ rest)) (length before))
unfolding Life disk_at
completed-at d [] e rest (may, ends, life) t = ends-done e.done e.deed d e.after t ends
completed-at d (x ∷ before) e rest (may, ends, life) t = completed-at x.after before e rest life t

above-cons : (u : Bool) (v : ℕ) (l : List ℕ) → ((i : ℕ) → i < length l → v ≤ get_or l i 0) → (i : ℕ) → i < length (cond u (v ∷ l) l) → v ≤ get_or (cond u (v ∷ l) l) i 0
above-cons true v l h zero b = omega arith
above-cons true v l h (suc i) b = h i (omega arith)
above-cons false v l h i b = h i b

rising-cons : (u : Bool) (v : ℕ) (l : List ℕ) → (u ≡ true → (i : ℕ) → i < length l → v < get_or l i 0) → Rising l → Rising (cond u (v ∷ l) l)
rising-cons true v l h r zero zero a b = absurd (omega arith)
rising-cons true v l h r zero (suc j) a b = h refl j (omega arith)
rising-cons true v l h r (suc i) zero a b = absurd (omega arith)
rising-cons true v l h r (suc i) (suc j) a b = r i j (omega arith) (omega arith)
rising-cons false v l h r i j a b = r i j a b

module _ (number : List ℕ → ℕ) where
  -- one deed, cut or completed, does not lower what the commit does not lower
  deed-holds : (deed : Deed) (d e : Disk) → Sound d → May deed d → Holds number deed d → Leaves deed d e → number (shown d) ≤ number (shown e)
  deed-holds (commit n numbers pages) d e sound may holds left =
      ⊎_elim
      (λ (same : shown e ≡ shown d). rw same (omega arith))
      (λ (new : shown e ≡ shown (completed (commit n numbers pages) d)). rw new holds)
      (cut-shows (commit n numbers pages) d e sound may left).1
  deed-holds checkpoint d e sound may holds left = rw (checkpoint-shows d e sound may left) (omega arith)
  deed-holds (restart sequence salt1 salt2) d e sound may holds left = rw (restart-shows sequence salt1 salt2 d e sound may left) (omega arith)
  deed-holds (renew sequence salt1 salt2) d e sound may holds left = rw (renew-shows sequence salt1 salt2 d e sound may left) (omega arith)

  event-holds : (d : Disk) (e : Event) → Sound d → May e.deed d → Ends e.done e.deed d e.after → Holds number e.deed d
      → Sound e.after × (number (shown d) ≤ number (shown e.after))
  event-holds d e sound may ends holds =
      let left = ends-left e.done e.deed d e.after sound may ends in
      ((cut-shows e.deed d e.after sound may left).0, deed-holds e.deed d e.after sound may holds left)

  from_start : (d : Disk) (events : List Event) → Sound d → Life d events → NeverLowers number d events → (k : ℕ) → number (shown d) ≤ number (shown (disk_at d events k))
  unfolding Life disk_at NeverLowers
  from_start d [] sound life rises zero = omega arith
  from_start d [] sound life rises (suc k) = omega arith
  from_start d (e ∷ rest) sound life rises zero = omega arith
  from_start d (e ∷ rest) sound (may, ends, life) (holds, rises) (suc k) =
      let s = event-holds d e sound may ends holds in
      let l = s.1 in
      let r = from_start e.after rest s.0 life rises k in
      omega arith

  -- The number never falls along a life whose commits do not lower it, wherever it is cut;
  pub never-falls : (d : Disk) (events : List Event) → Sound d → Life d events → NeverLowers number d events
      → (i j : ℕ) → i ≤ j → number (shown (disk_at d events i)) ≤ number (shown (disk_at d events j))
  unfolding Life disk_at NeverLowers
  never-falls d [] sound life rises zero j l = from_start d [] sound life rises j
  never-falls d [] sound life rises (suc i) zero l = omega arith
  never-falls d [] sound life rises (suc i) (suc j) l = omega arith
  never-falls d (e ∷ rest) sound life rises zero j l = from_start d (e ∷ rest) sound life rises j
  never-falls d (e ∷ rest) sound (may, ends, life) (holds, rises) (suc i) zero l = absurd (omega arith)
  never-falls d (e ∷ rest) sound (may, ends, life) (holds, rises) (suc i) (suc j) l =
      never-falls e.after rest (event-holds d e sound may ends holds).0 life rises i j (omega arith)

  -- after a commit that was completed it is the number committed, and from then on at least that.
  pub committed-stays : (d : Disk) (before : List Event) (e : Event) (rest : List Event) → Sound d → Life d (before ++ (e ∷ rest)) → NeverLowers number d (before ++ (e ∷ rest))
      → e.done ≡ true → (j : ℕ) → length before < j
      → number (shown (completed e.deed (disk_at d (before ++ (e ∷ rest)) (length before)))) ≤ number (shown (disk_at d (before ++ (e ∷ rest)) j))
  committed-stays d before e rest sound life rises t j l =
      subst (λ (x : Disk). number (shown x) ≤ number (shown (disk_at d (before ++ (e ∷ rest)) j))) (completed-at d before e rest life t)
      (never-falls d (before ++ (e ∷ rest)) sound life rises (suc (length before)) j l)

  -- ==== No number twice
  raised : (e : Event) (d : Disk) → e.done ≡ true → Ends e.done e.deed d e.after → number (shown d) < number (shown (completed e.deed d))
      → number (shown d) < number (shown e.after)
  raised e d t ends l = subst (λ (x : Disk). number (shown d) < number (shown x)) (sym (ends-done e.done e.deed d e.after t ends)) l

  -- what is used from here on is not below what is shown here
  used-above : (d : Disk) (events : List Event) → Sound d → Life d events → NeverLowers number d events
      → (i : ℕ) → i < length (used_numbers number d events) → number (shown d) ≤ get_or (used_numbers number d events) i 0
  unfolding Life NeverLowers used_numbers
  used-above d [] sound life rises i l = absurd (omega arith)
  used-above d (e ∷ rest) sound (may, ends, life) (holds, rises) i l =
      let s = event-holds d e sound may ends holds in
      above-cons e.used (number (shown d)) (used_numbers number e.after rest)
      (λ k h. let q = s.1 in let r = used-above e.after rest s.0 life rises k h in omega arith)
      i l

  -- A user who reads a number, commits a greater one, and uses the one it read only when that commit is completed, uses each number once: the numbers rise.
  pub no-number-twice : (d : Disk) (events : List Event) → Sound d → Life d events → NeverLowers number d events → Careful number d events
      → Rising (used_numbers number d events)
  unfolding Life NeverLowers Careful used_numbers
  no-number-twice d [] sound life rises careful = λ i j l h. absurd (omega arith)
  no-number-twice d (e ∷ rest) sound (may, ends, life) (holds, rises) (care, careful) =
      let s = event-holds d e sound may ends holds in
      rising-cons e.used (number (shown d)) (used_numbers number e.after rest)
      (λ u k h.
      let q : number (shown d) < number (shown e.after) = raised e d (care u).0 ends (care u).1 in
      let r = used-above e.after rest s.0 life rises k h in
      omega arith)
      (no-number-twice e.after rest s.0 life rises careful)

  -- So no two of them are the same.
  pub all-different : (d : Disk) (events : List Event) → Sound d → Life d events → NeverLowers number d events → Careful number d events
      → (i j : ℕ) → i < length (used_numbers number d events) → j < length (used_numbers number d events)
      → get_or (used_numbers number d events) i 0 ≡ get_or (used_numbers number d events) j 0 → i ≡ j
  all-different d events sound life rises careful i j a b e =
      let r = no-number-twice d events sound life rises careful in
      ⊎_elim
      (λ (l : i < j). absurd (let x = r i j l b in omega arith))
      (λ (g : j ≤ i).
      ⊎_elim (λ (l : j < i). absurd (let x = r j i l a in omega arith)) (λ (h : i ≤ j). omega arith) (lt-or-ge j i))
      (lt-or-ge i j)

-- ==== A disk that tears otherwise than by prefixes
-- Whatever bytes stand behind the last commit in force of a log: every commit that was in force is, and the frames in force begin with those that were; and what is shown is the
-- same, or a later commit counts in those bytes.
pub any-bytes : (big : Bool) (log x : List ℕ) → Accepted big log
    → ((k : ℕ) → commits big (size_of log) log k ≡ true → commits big (size_of (in_force big log ++ x)) (in_force big log ++ x) k ≡ true)
    × Begins (in_force big log) (in_force big (in_force big log ++ x))
    × (((image : List ℕ) → Alike (in_force big log ++ x) log image)
    ⊎ (last_commit big (size_of log) log < last_commit big (size_of (in_force big log ++ x)) (in_force big log ++ x)))
any-bytes big log x a =
    let after : List ℕ = in_force big log ++ x in
    let g = append-any big log a x in
    let m : ℕ = last_commit big (size_of log) log in (
      g.0,
      g.1,
      ⊎_elim
          (λ (l : m < last_commit big (size_of after) after). inr l)
          (λ (h : last_commit big (size_of after) after ≤ m).
          inl (λ image. L.behind-alike big log a x image (le-both _ _ h (L.not-older big log a x g.0))))
          (lt-or-ge m (last_commit big (size_of after) after)),
    )

-- No commit counts in them where their first frame fails,
pub failed-none : (big : Bool) (log x : List ℕ) → Accepted big log
    → holds big (size_of (in_force big log ++ x)) (in_force big log ++ x) (last_commit big (size_of log) log) ≡ false → NoneBehind big log (in_force big log ++ x)
failed-none big log x a fails =
    le-both _ _ (commit-before big (in_force big log ++ x) (last_commit big (size_of log) log) fails) (L.not-older big log a x (append-any big log a x).0)

-- as one with other salts does, left over from before a fresh header was laid over the old one,
pub leftovers-none : (big : Bool) (log x : List ℕ) → Accepted big log
    → (be 4 (in_force big log ++ x) (frame_at (size_of log) (last_commit big (size_of log) log) + 8) ≡ be 4 (in_force big log ++ x) 16 → ⊥)
    ⊎ (be 4 (in_force big log ++ x) (frame_at (size_of log) (last_commit big (size_of log) log) + 12) ≡ be 4 (in_force big log ++ x) 20 → ⊥)
    → NoneBehind big log (in_force big log ++ x)
leftovers-none big log x a h =
    let after : List ℕ = in_force big log ++ x in
    let m : ℕ = last_commit big (size_of log) log in
    failed-none big log x a
    (subst (λ (size : ℕ). holds big size after m ≡ false) (sym (L.behind-size big log a x)) (other_salts big (size_of log) after m h))

-- or one whose page number is 0: a file that was made longer with zeros.
pub zeros-none : (big : Bool) (log x : List ℕ) → Accepted big log
    → be 4 (in_force big log ++ x) (frame_at (size_of log) (last_commit big (size_of log) log)) ≡ 0 → NoneBehind big log (in_force big log ++ x)
zeros-none big log x a z =
    let after : List ℕ = in_force big log ++ x in
    let m : ℕ = last_commit big (size_of log) log in
    failed-none big log x a (subst (λ (size : ℕ). holds big size after m ≡ false) (sym (L.behind-size big log a x)) (L.zero-fails big (size_of log) after m z))

-- Where no commit in those bytes lowers the number, it does not fall.
pub any-number : (number : List ℕ → ℕ) (big : Bool) (log x image : List ℕ) → Accepted big log → W.NeverLowers number big (in_force big log ++ x) image
    → number (whole_of log image) ≤ number (whole_of (in_force big log ++ x) image)
any-number number big log x image a rises =
    let after : List ℕ = in_force big log ++ x in
    let c : ℕ = frame_at (size_of log) (last_commit big (size_of log) log) in
    let past : 32 ≤ c = omega (arith, frame-far (size_of log) (last_commit big (size_of log) log)) in
    let n : length (in_force big log) ≡ c = length-take-le c log (in-force-whole big (size_of log) log a.long) in
    let e : take c after ≡ in_force big log = take_at (in_force big log) x c n in
    let same : whole_of (in_force big log) image ≡ whole_of log image = (L.cut-alike big log a c (omega arith) image).whole in
    let f = number-never-falls number big after image c (length after) (L.behind-accepted big log a x) past (omega (arith, length-append (in_force big log) x)) rises in
    subst (λ (y : List ℕ). number y ≤ number (whole_of after image)) (ap (λ (y : List ℕ). whole_of y image) e ∙ same)
    (subst (λ (y : List ℕ). number (whole_of (take c after) image) ≤ number (whole_of y image)) (take-length after) f)

-- ==== What a commit makes of the file
-- A commit of pages of the file b, where every page that is not given is as it was, shows b.
pub record Makes (size n : ℕ) (numbers pages old : List ℕ) (old_pages : ℕ) (b : List ℕ) : Type 0 where
  pub long : length b ≡ n * size
  pub given : (i : ℕ) → i < length numbers → part pages (i * size) size ≡ part b ((get_or numbers i 0 - 1) * size) size
  pub others : (p : ℕ) → 1 ≤ p → p ≤ n → (Given numbers p → ⊥) → (p ≤ old_pages) × (part b ((p - 1) * size) size ≡ part old ((p - 1) * size) size)

pub commit-makes : (n : ℕ) (numbers pages : List ℕ) (d : Disk) (b : List ℕ) → Sound d → May (commit n numbers pages) d
    → Makes (size_of d.log) n numbers pages (shown d) (state_now d).pages b → shown (completed (commit n numbers pages) d) ≡ b
commit-makes n numbers pages d b sound may makes =
    let f = commit-shows n numbers pages d sound may in
    let size : ℕ = size_of d.log in
    L.same-pages size n (shown (completed (commit n numbers pages) d)) b f.long makes.long
    (λ p low high.
    ⊎_elim
    (λ (g : L.LastGiven numbers p).
    f.given p g.0 g.1 g.2 g.3 ∙ makes.given g.0 g.1 ∙ ap (λ (q : ℕ). part b ((q - 1) * size) size) g.2)
    (λ (none : (i : ℕ) → i < length numbers → get_or numbers i 0 ≡ p → ⊥).
    let o = makes.others p low high (λ g. none g.0 g.1 g.2) in
    f.kept p low high o.0 none ∙ sym o.1)
    (L.last-given numbers p))

-- ==== The code
-- Where `log_append` refuses nothing, with the tail of the log, and a file that grows gets its new pages, the commit may be done. What it wrote, put at `at`, completes it, and the
-- tail then is that of the log.
pub appended-may : (d : Disk) (n : ℕ) (numbers pages before : List ℕ) (r : Appended) (tail out : List ℕ) → IsTail before d.log → Appends d.log n numbers pages r tail out
    → ((p : ℕ) → (state_now d).pages < p → p ≤ n → (p ≡ lock_page (size_of d.log) → ⊥) → Given numbers p)
    → May (commit n numbers pages) d
    × ((completed (commit n numbers pages) d).log ≡ written_to d.log r out)
    × IsTail tail (completed (commit n numbers pages) d).log
appended-may d n numbers pages before r tail out is a grows =
    let e : (completed (commit n numbers pages) d).log ≡ written_to d.log r out = sym (ap₂ ◌++◌ a.base a.frames) in
    (record { header = is.header; fits = a.fits; grows = grows }, e, subst (IsTail tail) (sym e) a.next)

-- ==== Where a life may begin
-- A file by itself, with no log, or with a fresh header of its page size, whole or torn, is a sound disk that shows the file; the log may be begun.
pub file-sound : (size : ℕ) (image : List ℕ) (sequence salt1 salt2 c : ℕ) → File size image
    → Sound (disk_is image (take c (header_bytes size sequence salt1 salt2)))
    × (shown (disk_is image (take c (header_bytes size sequence salt1 salt2))) ≡ image)
    × MayRestart (disk_is image (take c (header_bytes size sequence salt1 salt2)))
file-sound size image sequence salt1 salt2 c file =
    let ok = L.file-fits size image file in
    let log : List ℕ = take c (header_bytes size sequence salt1 salt2) in
    let none = L.fresh-nothing size sequence salt1 salt2 c ok in
    let e = L.alone-state log image none file.passes in
    let s : (pair_state log image).size ≡ size = ap (λ (x : State). x.size) e ∙ file.names in
    let w = L.alone-shown log image none file.passes in (
      record {
        recovers = L.alone-recovers log image none file.passes;
        sized = λ big a. L.fresh-size size sequence salt1 salt2 c ok a.long ∙ sym s;
      },
      w,
      record { done = sym w; file = record { passes = file.passes; names = file.names ∙ sym s } },
    )

pub plain-sound : (size : ℕ) (image : List ℕ) → File size image → Sound (disk_is image []) × (shown (disk_is image []) ≡ image) × MayRestart (disk_is image [])
plain-sound size image file = file-sound size image 0 0 0 0 file

-- With the header whole, any pages of it that fit may be committed.
pub file-commits : (size : ℕ) (image : List ℕ) (sequence salt1 salt2 n : ℕ) (numbers pages : List ℕ) → File size image → Fits size n numbers pages
    → ((p : ℕ) → (pages_in image).pages < p → p ≤ n → (p ≡ lock_page size → ⊥) → Given numbers p)
    → May (commit n numbers pages) (disk_is image (header_bytes size sequence salt1 salt2))
file-commits size image sequence salt1 salt2 n numbers pages file fits grows =
    let ok = L.file-fits size image file in
    let log : List ℕ = header_bytes size sequence salt1 salt2 in
    let long : 32 ≤ length log = omega (arith, header-length size sequence salt1 salt2) in
    let h = header-accepted size sequence salt1 salt2 log ok long (L.self log) in
    let e = L.alone-state log image (header-alone size sequence salt1 salt2 image ok).0 file.passes in
    record {
      header = subst (λ (x : Bool). Accepted x log) (sym (told false log h.0)) h.0;
      fits = rw h.1 fits;
      grows = λ p over high ne. grows p (rw e at over) high (λ q. ne (q ∙ ap lock_page (sym h.1)));
    }
