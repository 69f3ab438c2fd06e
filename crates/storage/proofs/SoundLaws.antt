-- One deed, over disks: from a sound disk, completed or cut, it leaves a sound one, and what is shown is the old file or the new one.
use Prim.Native.Nat.{ℕ, ◌<◌, ◌≤◌}
use mathlib.Core.Path.{◌≡◌, refl, sym, ap, ◌∙◌, subst}
use mathlib.Core.Logic.{◌⊎◌, inl, inr, ⊎_elim}
use mathlib.Core.Bool.{Bool, true}
use mathlib.Core.List.{List, ◌++◌}
use native.Mathlib.Omega.{arith}
use lib.ListN.{length, take, drop}
use lib.Seq.{take_all}
use Rattle.number.proofs.Cases.{lt-or-ge}
use Rattle.paging.specs.Pages.{size_fits}
use Rattle.wal.specs.State.{size_of, nothing, state_of}
use Rattle.wal.specs.View.{pair_state, whole_of}
use Rattle.wal.specs.Promises.{Accepted, in_force}
use Rattle.wal.specs.State.{State}
use Rattle.wal.specs.Frames.{last_commit}
use Rattle.wal.proofs.FrameLaws.{frame-far}
use Rattle.wal.proofs.CutLaws.{accepted-take}
use Rattle.wal.proofs.ShownLaws.{Agree}
use Rattle.appending.specs.Written.{header_bytes, frames_bytes}
use Rattle.appending.specs.Tail.{big_of}
use Rattle.appending.specs.Promises.{committed, torn_at, Alike}
use Rattle.appending.proofs.AppendLaws as A
use Rattle.appending.proofs.ResetLaws as T
use Rattle.appending.proofs.Theorems.{append-again}
use Rattle.storage.specs.Disk.{Disk, disk_is, state_now, shown, Sound}
use Rattle.storage.specs.Deeds.{MayCommit, MayCheckpoint, MayRestart, MayRenew, NoneBehind, LogInCommit, uncut, torn, scattered, trailed, LogInRestart, LogInRenew, ImageInCheckpoint}
use Rattle.storage.proofs.DeedLaws as L

-- a sound disk that shows the file b in pages of that size
abbrev pub Shows : (b : List ℕ) (size : ℕ) → Disk → Type 0
Shows b size d = Sound d × (shown d ≡ b) × ((state_now d).size ≡ size)

pub disk-is : (d : Disk) (image log : List ℕ) → d.image ≡ image → d.log ≡ log → disk_is image log ≡ d
disk-is d image log e f = rw (sym e, sym f) refl

-- ---- a log that shows what the old one shows
alike-shows : (image a b : List ℕ) → Alike a b image → Sound (disk_is image b) → ((big : Bool) → Accepted big a → size_of a ≡ (pair_state b image).size)
    → Shows (whole_of b image) (pair_state b image).size (disk_is image a)
alike-shows image a b h sound sized = (
  record {
    recovers = L.alike-recovers a b image h sound.recovers;
    sized = λ big x. sized big x ∙ ap (λ (s : State). s.size) (sym h.state);
  },
  h.whole,
  ap (λ (s : State). s.size) h.state,
)

-- ---- commit
module _ (image log : List ℕ) (sound : Sound (disk_is image log)) (n : ℕ) (numbers pages : List ℕ) (may : MayCommit (disk_is image log) n numbers pages) where
  abbrev big : Bool
  big = big_of log

  size-now : size_of log ≡ (pair_state log image).size
  size-now = sound.sized big may.header

  abbrev new : List ℕ
  new = committed big log n numbers pages

  new-size : (pair_state new image).size ≡ (pair_state log image).size
  new-size = ap (λ (s : State). s.size) (A.new-pair big log n numbers pages may.header may.fits image) ∙ size-now

  pub commit-whole : Sound (disk_is image new)
  commit-whole = record {
    recovers = L.new-recovers big log may.header n numbers pages may.fits image sound.recovers size-now may.grows;
    sized = λ b x.
        A.new-size big log n numbers pages may.header may.fits
        ∙ sym (ap (λ (s : State). s.size) (A.new-pair big log n numbers pages may.header may.fits image));
  }

  pub commit-cut : (after : List ℕ) → LogInCommit big log n numbers pages after
      → Shows (whole_of log image) (pair_state log image).size (disk_is image after) ⊎ Shows (whole_of new image) (pair_state log image).size (disk_is image after)
  commit-cut after (uncut c l e) =
      inl (subst (λ (x : List ℕ). Shows (whole_of log image) (pair_state log image).size (disk_is image x)) (sym e)
      (alike-shows image (take c log) log (L.cut-alike big log may.header c l image) sound
      (λ b x. L.cut-size big log may.header c l ∙ size-now)))
  commit-cut after (torn c e) =
      let frames : List ℕ = frames_bytes big log n numbers pages in
      ⊎_elim
      (λ (l : c < length frames).
      inl (subst (λ (x : List ℕ). Shows (whole_of log image) (pair_state log image).size (disk_is image x)) (sym e)
      (alike-shows image (torn_at big log n numbers pages c) log (A.cut-alike big log n numbers pages may.header may.fits c l image) sound
      (λ b x. L.behind-size big log may.header (take c frames) ∙ size-now))))
      (λ (l : length frames ≤ c).
      let w : after ≡ new = e ∙ ap (λ (x : List ℕ). in_force big log ++ x) (take_all c frames l) in
      inr (subst (λ (x : List ℕ). Shows (whole_of new image) (pair_state log image).size (disk_is image x)) (sym w) (commit-whole, refl, new-size)))
      (lt-or-ge c (length frames))
  commit-cut after (scattered x e none) =
      let y : List ℕ = in_force big log ++ x in
      let none' : NoneBehind big log y = subst (NoneBehind big log) e none in
      inl (subst (λ (z : List ℕ). Shows (whole_of log image) (pair_state log image).size (disk_is image z)) (sym e)
      (alike-shows image y log (L.behind-alike big log may.header x image none') sound
      (λ b h. L.behind-size big log may.header x ∙ size-now)))
  commit-cut after (trailed x e none) =
      let g = append-again big log n numbers pages may.header may.fits in
      let y : List ℕ = in_force big new ++ x in
      let e' : after ≡ y = e ∙ ap (λ (z : List ℕ). z ++ x) (sym g.2) in
      let none' : NoneBehind big new y = subst (NoneBehind big new) e' none in
      inr (subst (λ (z : List ℕ). Shows (whole_of new image) (pair_state log image).size (disk_is image z)) (sym e')
      (subst (λ (k : ℕ). Shows (whole_of new image) k (disk_is image y)) new-size
      (alike-shows image y new (L.behind-alike big new g.0 x image none') commit-whole
      (λ b h. L.behind-size big new g.0 x ∙ commit-whole.sized big g.0))))

  -- whatever it leaves, a commit may be done on it
  abbrev Ready : (after : List ℕ) → Type 0
  Ready after = Accepted big after × (size_of after ≡ size_of log) × (((pair_state after image).pages ≡ (pair_state log image).pages) ⊎ ((pair_state after image).pages ≡ n))

  new-pages : (pair_state new image).pages ≡ n
  new-pages = ap (λ (s : State). s.pages) (A.new-pair big log n numbers pages may.header may.fits image)

  pub commit-ready : (after : List ℕ) → LogInCommit big log n numbers pages after → Ready after
  commit-ready after (uncut c l e) =
      subst Ready (sym e) (
        accepted-take c log (omega (arith, frame-far (size_of log) (last_commit big (size_of log) log))) big may.header,
        L.cut-size big log may.header c l,
        inl (ap (λ (s : State). s.pages) (L.cut-alike big log may.header c l image).state),
      )
  commit-ready after (torn c e) =
      let frames : List ℕ = frames_bytes big log n numbers pages in
      subst Ready (sym e) (
        L.behind-accepted big log may.header (take c frames),
        L.behind-size big log may.header (take c frames),
        ⊎_elim
            (λ (l : c < length frames). inl (ap (λ (s : State). s.pages) (A.cut-alike big log n numbers pages may.header may.fits c l image).state))
            (λ (l : length frames ≤ c). inr (ap (λ (x : List ℕ). (pair_state (in_force big log ++ x) image).pages) (take_all c frames l) ∙ new-pages))
            (lt-or-ge c (length frames)),
      )
  commit-ready after (scattered x e none) =
      let none' : NoneBehind big log (in_force big log ++ x) = subst (NoneBehind big log) e none in
      subst Ready (sym e) (
        L.behind-accepted big log may.header x,
        L.behind-size big log may.header x,
        inl (ap (λ (s : State). s.pages) (L.behind-alike big log may.header x image none').state),
      )
  commit-ready after (trailed x e none) =
      let g = append-again big log n numbers pages may.header may.fits in
      let y : List ℕ = in_force big new ++ x in
      let e' : after ≡ y = e ∙ ap (λ (z : List ℕ). z ++ x) (sym g.2) in
      let none' : NoneBehind big new y = subst (NoneBehind big new) e' none in
      subst Ready (sym e') (
        L.behind-accepted big new g.0 x,
        L.behind-size big new g.0 x ∙ g.1,
        inr (ap (λ (s : State). s.pages) (L.behind-alike big new g.0 x image none').state ∙ new-pages),
      )

-- ---- checkpoint
pub copied-shows : (a b log : List ℕ) → Sound (disk_is a log) → MayCheckpoint (disk_is a log)
    → ImageInCheckpoint (pair_state log a).size log (pair_state log a).frames (pair_state log a).pages a b → Shows (whole_of log a) (pair_state log a).size (disk_is b log)
copied-shows a b log sound some left = (
  record {
    recovers = L.copied-recovers log a b sound.recovers some left;
    sized = λ big x. sound.sized big x ∙ ap (λ (s : State). s.size) (sym (L.copied-state log a b sound.recovers some left));
  },
  L.copied-shown log a b sound.recovers some left,
  ap (λ (s : State). s.size) (L.copied-state log a b sound.recovers some left),
)

-- ---- a fresh header
module _ (image log : List ℕ) (sound : Sound (disk_is image log)) (may : MayRestart (disk_is image log)) where
  abbrev size : ℕ
  size = (pair_state log image).size

  fits : size_fits size ≡ true
  fits = L.file-fits size image may.file

  -- the image alone
  alone-shows : (other : List ℕ) → state_of other ≡ nothing → ((big : Bool) → Accepted big other → size_of other ≡ size) → Shows (whole_of log image) (pair_state log image).size (disk_is image other)
  alone-shows other none sized = (
    record {
      recovers = L.alone-recovers other image none may.file.passes;
      sized = λ big x. sized big x ∙ sym (ap (λ (s : State). s.size) (L.alone-state other image none may.file.passes) ∙ may.file.names);
    },
    L.alone-shown other image none may.file.passes ∙ may.done,
    ap (λ (s : State). s.size) (L.alone-state other image none may.file.passes) ∙ may.file.names,
  )

  pub fresh-shows : (sequence salt1 salt2 c : ℕ) → Shows (whole_of log image) (pair_state log image).size (disk_is image (take c (header_bytes size sequence salt1 salt2)))
  fresh-shows sequence salt1 salt2 c =
      alone-shows (take c (header_bytes size sequence salt1 salt2)) (L.fresh-nothing size sequence salt1 salt2 c fits)
      (λ big x. L.fresh-size size sequence salt1 salt2 c fits x.long)

  pub restart-cut : (sequence salt1 salt2 : ℕ) (after : List ℕ) → LogInRestart log (header_bytes size sequence salt1 salt2) after
      → Shows (whole_of log image) (pair_state log image).size (disk_is image after)
  restart-cut sequence salt1 salt2 after (inl e) = subst (λ (x : List ℕ). Shows (whole_of log image) (pair_state log image).size (disk_is image x)) (sym e) (sound, refl, refl)
  restart-cut sequence salt1 salt2 after (inr (c, e)) =
      subst (λ (x : List ℕ). Shows (whole_of log image) (pair_state log image).size (disk_is image x)) (sym e) (fresh-shows sequence salt1 salt2 c)

-- laid over the old one
pub renew-cut : (image log : List ℕ) → Sound (disk_is image log) → (sequence salt1 salt2 : ℕ) → MayRenew (disk_is image log) salt1 salt2 → (after : List ℕ)
    → LogInRenew log (header_bytes (pair_state log image).size sequence salt1 salt2) after
    → Shows (whole_of log image) (pair_state log image).size (disk_is image after)
renew-cut image log sound sequence salt1 salt2 may after (c, l, e) =
    let size : ℕ = (pair_state log image).size in
    let ok : size_fits size ≡ true = L.file-fits size image may.checkpointed.file in
    let torn : List ℕ = take c (header_bytes size sequence salt1 salt2) ++ drop c log in
    let sized : size_of torn ≡ size =
    L.torn-size size may.old_sequence may.old1 may.old2 sequence salt1 salt2 c log ok may.long l may.header in
    let w = may.words in
    subst (λ (x : List ℕ). Shows (whole_of log image) (pair_state log image).size (disk_is image x)) (sym e)
    (⊎_elim
    (λ (none : state_of torn ≡ nothing). alone-shows image log sound may.checkpointed torn none (λ big x. sized))
    (λ (same : (state_of torn ≡ state_of log) × ((k m : ℕ) → Agree k m torn log)).
    alike-shows image torn log (L.same_alike torn log image same.0 same.1) sound (λ big x. sized))
    (T.torn-cases size may.old_sequence may.old1 may.old2 sequence salt1 salt2 log c ok may.long may.header may.some l
    w.0 w.1 w.2 w.3 may.other))
