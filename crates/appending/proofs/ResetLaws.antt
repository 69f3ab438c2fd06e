-- A fresh header laid over the header of a log that was copied into its image, torn anywhere.
use Prim.Native.Nat.{ℕ, zero, suc, ◌+◌, ◌-◌, ◌/◌, ◌^◌, ◌<◌, ◌≤◌}
use mathlib.Core.Path.{◌≡◌, refl, sym, ap, ◌∙◌, subst}
use mathlib.Core.Logic.{◌⊎◌, inl, inr, ⊎_elim}
use mathlib.Core.Bool.{Bool, true, false, true≢false}
use mathlib.Core.List.{List, ◌++◌}
use native.Mathlib.Decide.{ℕ_discrete}
use native.Mathlib.Omega.{arith}
use lib.ListN.{length, take, drop, length-append, length-take, length-drop, get_or-append}
use lib.Seq.{length-take-le, get_or-take, get_or-drop, get_or-append-add, ext_get_or}
use borrow.Author.Tests.{le-ltb}
use Rattle.number.specs.Bytes.{byte_at, be, part}
use Rattle.number.proofs.BeLaws.{be-same}
use Rattle.number.proofs.Cases.{lt-or-ge}
use Rattle.number.proofs.VarintReading.{Stands}
use Rattle.paging.specs.Pages.{size_fits}
use Rattle.wal.specs.Sums.{sums_over}
use Rattle.wal.specs.Frames.{frame_at, marked, carries, header_sums, sums_after, holds, counting, commits, last_of, last_commit}
use Rattle.wal.specs.State.{little_magic, log_version, size_of, nothing, state_at, state_in, state_of}
use Rattle.wal.specs.Promises.{Accepted}
use Rattle.wal.proofs.FrameLaws.{frame-first, frame-far, counted-holds}
use Rattle.wal.proofs.CutLaws.{accepted-state}
use Rattle.wal.proofs.ShownLaws.{Agree}
use Rattle.wal.proofs.Theorems.{other_salts}
use Rattle.appending.specs.Written.{header_bytes}
use Rattle.appending.proofs.StandLaws.{sums_same}
use Rattle.appending.proofs.HeaderLaws.{first_bytes, written-first, first-magic, first-version, first-size, header-length, written-accepted, written-size, written-salt1, written-salt2, none-nothing}
use Rattle.appending.proofs.SealLaws.{carried-is, counted}

by-dec : {A : Type 0} → Dec A → ((A → ⊥) → ⊥) → A
by-dec (yes x) f = x
by-dec (no n) f = absurd (f n)

-- ---- two logs that are the same behind their salts
module _ (big : Bool) (size : ℕ) (x y : List ℕ) (long : length x ≡ length y) (same : (i : ℕ) → 24 ≤ i → byte_at x i ≡ byte_at y i)
    (salt1 : be 4 x 16 ≡ be 4 y 16) (salt2 : be 4 x 20 ≡ be 4 y 20) (sums : header_sums big x ≡ header_sums big y) where
  field : (k : ℕ) → 24 ≤ k → be 4 x k ≡ be 4 y k
  field k h = be-same 4 x y k k (λ i l. same (k + i) (omega arith))

  after_on : (k : ℕ) → sums_after big size x k ≡ sums_after big size y k
  unfolding sums_after
  after_on zero = sums
  after_on (suc k) =
      let far = frame-far size k in
      let f : sums_over big x (frame_at size k) 1 (sums_after big size y k) ≡ sums_over big y (frame_at size k) 1 (sums_after big size y k) =
      sums_same big x y (frame_at size k) (frame_at size k) 1 _ (λ i l. same (frame_at size k + i) (omega arith)) in
      rw (after_on k, f)
      (sums_same big x y (frame_at size k + 24) (frame_at size k + 24) (size / 8) _ (λ i l. same (frame_at size k + 24 + i) (omega arith)))

  holds_on : (k : ℕ) → holds big size x k ≡ holds big size y k
  unfolding holds marked carries
  holds_on k =
      let far = frame-far size k in
      let at : ℕ = frame_at size k in
      rw (
        long,
        after_on (suc k),
        salt1,
        salt2,
        field at (omega arith),
        field (at + 8) (omega arith),
        field (at + 12) (omega arith),
        field (at + 16) (omega arith),
        field (at + 20) (omega arith),
      ) refl

  counting-on : (k : ℕ) → counting big size x k ≡ counting big size y k
  unfolding counting
  counting-on zero = refl
  counting-on (suc k) = rw (counting-on k, holds_on k) refl

  commits-on : (k : ℕ) → commits big size x k ≡ commits big size y k
  unfolding commits
  commits-on k =
      let far = frame-far size k in
      rw (counting-on (suc k), field (frame_at size k + 4) (omega arith)) refl

  last-cong : (n : ℕ) → last_of (commits big size x) n ≡ last_of (commits big size y) n
  unfolding last_of
  last-cong zero = refl
  last-cong (suc n) = rw (commits-on n, last-cong n) refl

  last-on-same : last_commit big size x ≡ last_commit big size y
  last-on-same = ap (last_of (commits big size x)) long ∙ last-cong (length y)

  state-on : (m : ℕ) → state_at size x m ≡ state_at size y m
  unfolding state_at
  state-on zero = refl
  state-on (suc k) =
      let i : suc k - 1 ≡ k = omega arith in
      let far = frame-far size k in
      rw (i, field (frame_at size k + 4) (omega arith)) refl

  part-on : (at n : ℕ) → 24 ≤ at → part x at n ≡ part y at n
  part-on at n h =
      ext_get_or 0 (part x at n) (part y at n)
      (length-take n (drop at x) ∙ rw (length-drop at x, long) (sym (length-take n (drop at y) ∙ rw (length-drop at y) refl)))
      (λ i l.
      let a = length-take n (drop at x) in
      get_or-take n (drop at x) i 0 (omega arith) ∙ get_or-drop at x i 0 ∙ same (at + i) (omega arith) ∙ sym (get_or-take n (drop at y) i 0 (omega arith) ∙ get_or-drop at y i 0))

  pub agree_on : (m : ℕ) → Agree size m x y
  agree_on m =
      record {
        number = λ k l. let far = frame-far size k in field (frame_at size k) (omega arith);
        bytes = λ f n l. let far = frame-far size (f - 1) in part-on (frame_at size (f - 1) + 24) size (omega arith);
      }

  pub same-state : Accepted big x → Accepted big y → size_of x ≡ size → size_of y ≡ size → state_of x ≡ state_of y
  same-state a b ex ey =
      let u : state_of x ≡ state_at size x (last_commit big size x) = accepted-state big x a ∙ ap (λ (k : ℕ). state_at k x (last_commit big k x)) ex in
      let v : state_of y ≡ state_at size y (last_commit big size y) = accepted-state big y b ∙ ap (λ (k : ℕ). state_at k y (last_commit big k y)) ey in
      u ∙ ap (state_at size x) last-on-same ∙ state-on (last_commit big size y) ∙ sym v

-- ---- the torn header
module _ (size old1 old2 old3 new1 new2 new3 : ℕ) (log : List ℕ) (c : ℕ) (ok : size_fits size ≡ true) (long : 32 ≤ length log)
    (stands : Stands log 0 (header_bytes size old1 old2 old3)) (some : last_commit false size log ≡ 0 → ⊥) (low : c ≤ 32)
    (o2 : old2 < 2 ^ 32) (o3 : old3 < 2 ^ 32) (n2 : new2 < 2 ^ 32) (n3 : new3 < 2 ^ 32)
    (other : (new2 ≡ old2 → ⊥) ⊎ (new3 ≡ old3 → ⊥)) where
  abbrev header : List ℕ
  header = header_bytes size new1 new2 new3

  abbrev torn : List ℕ
  torn = take c header ++ drop c log

  front : length (take c header) ≡ c
  front = length-take-le c header (omega (arith, header-length size new1 new2 new3))

  torn-length : length torn ≡ length log
  torn-length = omega (arith, length-append (take c header) (drop c log), front, length-drop c log)

  torn-before : (i : ℕ) → i < c → byte_at torn i ≡ byte_at header i
  torn-before i l = get_or-append (take c header) (drop c log) 0 i (omega (arith, front)) ∙ get_or-take c header i 0 l

  torn-behind : (i : ℕ) → c ≤ i → byte_at torn i ≡ byte_at log i
  torn-behind i l =
      let k : length (take c header) + (i - c) ≡ i = omega (arith, front) in
      let j : c + (i - c) ≡ i = omega arith in
      ap (byte_at torn) (sym k) ∙ get_or-append-add (take c header) (drop c log) (i - c) 0 ∙ get_or-drop c log (i - c) 0 ∙ ap (byte_at log) j

  torn-first : Stands torn 0 (first_bytes size)
  torn-first i l =
      let k : 0 + i ≡ i = omega arith in
      let h : byte_at header i ≡ byte_at (first_bytes size) i =
      ap (byte_at header) (sym k) ∙ written-first size new1 new2 new3 header (λ j q. ap (byte_at header) (omega arith)) i l in
      let g : byte_at log i ≡ byte_at (first_bytes size) i = ap (byte_at log) (sym k) ∙ written-first size old1 old2 old3 log stands i l in
      ap (byte_at torn) k
      ∙ ⊎_elim
      (λ (q : i < c). torn-before i q ∙ h)
      (λ (q : c ≤ i). torn-behind i q ∙ g)
      (lt-or-ge i c)

  r-magic : be 4 torn 0 ≡ little_magic
  r-magic = first-magic size torn torn-first

  r-version : be 4 torn 4 ≡ log_version
  r-version = first-version size torn torn-first

  torn-size : size_of torn ≡ size
  torn-size = first-size size torn torn-first ok

  log-accepted : Accepted false log
  log-accepted = written-accepted size old1 old2 old3 log long stands ok

  log-size : size_of log ≡ size
  log-size = written-size size old1 old2 old3 log long stands ok

  log-salt1 : be 4 log 16 ≡ old2
  log-salt1 = written-salt1 size old1 old2 old3 log long stands ok o2

  log-salt2 : be 4 log 20 ≡ old3
  log-salt2 = written-salt2 size old1 old2 old3 log long stands ok o3

  -- the first frame counts
  first_holds : holds false size log 0 ≡ true
  first_holds =
      let a : Accepted false log = log-accepted in
      let e : counting false size log (last_commit false size log) ≡ true =
      subst (λ (k : ℕ). counting false k log (last_commit false k log) ≡ true) log-size (counted false log a _ refl) in
      counted-holds false size log (last_commit false size log) 0 e (omega (arith, some))

  first-salts : (be 4 log 40 ≡ old2) × (be 4 log 44 ≡ old3)
  first-salts =
      let f = frame-first size in
      let x : be 4 log (frame_at size 0 + 8) ≡ be 4 log 16 =
      by-dec (ℕ_discrete _ _) (λ n. true≢false (sym first_holds ∙ other_salts false size log 0 (inl n))) in
      let y : be 4 log (frame_at size 0 + 12) ≡ be 4 log 20 =
      by-dec (ℕ_discrete _ _) (λ n. true≢false (sym first_holds ∙ other_salts false size log 0 (inr n))) in
      (rw f at x ∙ log-salt1, rw f at y ∙ log-salt2)

  behind-field : (k : ℕ) → c ≤ k → be 4 torn k ≡ be 4 log k
  behind-field k h = be-same 4 torn log k k (λ i l. torn-behind (k + i) (omega arith))

  before-field : (k : ℕ) → k + 4 ≤ c → be 4 torn k ≡ be 4 header k
  before-field k h = be-same 4 torn header k k (λ i l. torn-before (k + i) (omega arith))

  self : Stands header 0 header
  self j q = ap (byte_at header) (omega arith)

  -- other salts than the first frame's: nothing to recover
  salts-nothing : Accepted false torn → (be 4 torn 16 ≡ old2 → ⊥) ⊎ (be 4 torn 20 ≡ old3 → ⊥) → state_of torn ≡ nothing
  salts-nothing a h =
      let f : frame_at (size_of torn) 0 ≡ 32 = frame-first (size_of torn) in
      let x : be 4 torn (frame_at (size_of torn) 0 + 8) ≡ old2 = rw f (behind-field 40 (omega arith) ∙ first-salts.0) in
      let y : be 4 torn (frame_at (size_of torn) 0 + 12) ≡ old3 = rw f (behind-field 44 (omega arith) ∙ first-salts.1) in
      none-nothing false torn a
      (other_salts false (size_of torn) torn 0
      (⊎_elim (λ (n : be 4 torn 16 ≡ old2 → ⊥). inl (λ e. n (sym e ∙ x))) (λ (n : be 4 torn 20 ≡ old3 → ⊥). inr (λ e. n (sym e ∙ y))) h))

  abbrev Same : Type 0
  Same = (state_of torn ≡ state_of log) × ((k m : ℕ) → Agree k m torn log)

  torn-long : 32 ≤ length torn
  torn-long = omega (arith, torn-length)

  module _ (carried : carries torn 8 (header_sums false torn) ≡ true) where
    torn-accepted : Accepted false torn
    torn-accepted = record { long = torn-long; magic = r-magic; sums = carried; version = r-version; size = ap size_fits torn-size ∙ ok }

    -- all of the new salts
    new-salts : 24 ≤ c → state_of torn ≡ nothing
    new-salts h =
        let l : 32 ≤ length header = omega (arith, header-length size new1 new2 new3) in
        let x : be 4 torn 16 ≡ new2 = before-field 16 (omega arith) ∙ written-salt1 size new1 new2 new3 header l self ok n2 in
        let y : be 4 torn 20 ≡ new3 = before-field 20 (omega arith) ∙ written-salt2 size new1 new2 new3 header l self ok n3 in
        salts-nothing torn-accepted
        (⊎_elim (λ (n : new2 ≡ old2 → ⊥). inl (λ e. n (sym x ∙ e))) (λ (n : new3 ≡ old3 → ⊥). inr (λ e. n (sym y ∙ e))) other)

    -- the old sums and salts
    old-salts : c < 24 → be 4 torn 16 ≡ old2 → be 4 torn 20 ≡ old3 → Same
    old-salts h x y =
        let s : header_sums false torn ≡ header_sums false log =
        carried-is torn 8 (header_sums false torn) carried
        ∙ rw (behind-field 24 (omega arith), behind-field 28 (omega arith)) (sym (carried-is log 8 (header_sums false log) log-accepted.sums)) in
        let behind : (i : ℕ) → 24 ≤ i → byte_at torn i ≡ byte_at log i = λ i l. torn-behind i (omega arith) in (
          same-state false size torn log torn-length behind (x ∙ sym log-salt1) (y ∙ sym log-salt2) s torn-accepted log-accepted torn-size log-size,
          λ k m. agree_on false k torn log torn-length behind (x ∙ sym log-salt1) (y ∙ sym log-salt2) s m,
        )

    carried-cases : (state_of torn ≡ nothing) ⊎ Same
    carried-cases =
        ⊎_elim
        (λ (h : c < 24). one h (ℕ_discrete (be 4 torn 16) old2) (ℕ_discrete (be 4 torn 20) old3))
        (λ (h : 24 ≤ c). inl (new-salts h))
        (lt-or-ge c 24)
      where
        one : c < 24 → Dec (be 4 torn 16 ≡ old2) → Dec (be 4 torn 20 ≡ old3) → (state_of torn ≡ nothing) ⊎ Same
        one h (yes x) (yes y) = inr (old-salts h x y)
        one h (no x) b = inl (salts-nothing torn-accepted (inl x))
        one h (yes x) (no y) = inl (salts-nothing torn-accepted (inr y))

  -- wherever the write of the header is torn, the log has nothing to recover, or says what it said
  pub torn-cases : (state_of torn ≡ nothing) ⊎ Same
  unfolding state_of state_in
  torn-cases = go (carries torn 8 (header_sums false torn)) refl
    where
      go : (t : Bool) → carries torn 8 (header_sums false torn) ≡ t → (state_of torn ≡ nothing) ⊎ Same
      go true e = carried-cases e
      go false e = inl (simp (le-ltb (length torn) 32 torn-long, r-magic, e))
