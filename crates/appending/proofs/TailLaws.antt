-- The tail of a log, as the code reads it.
use Prim.Native.Nat.{ℕ, zero, suc, ◌+◌, ◌-◌, ◌<◌, ◌≤◌}
use mathlib.Core.Path.{◌≡◌, refl, sym, ap, ◌∙◌}
use mathlib.Core.Bool.{Bool, true, false, cond, false≢true}
use mathlib.Core.List.{List, ◌++◌}
use native.Mathlib.Omega.{arith}
use lib.Dec.{eqb, ltb}
use lib.ListN.{length, take, drop}
use lib.Seq.{take_at}
use borrow.Author.Tests.{eq-eqb, ne_eqb, eqb-true, eqb-false, ltb-false, le-ltb}
use Rattle.number.specs.Bytes.{byte_at, be}
use Rattle.number.proofs.Cases.{by_cond}
use Rattle.paging.specs.Pages.{page_limit, size_fits}
use Rattle.paging.proofs.PagesLaws.{fits-range}
use Rattle.wal.specs.Frames.{frame_at, commit_size, carries, header_sums}
use Rattle.wal.specs.State.{little_magic, big_magic, log_version, size_of, nothing, refused, state_at, state_in, state_of}
use Rattle.wal.specs.Promises.{Accepted}
use Rattle.std.specs.Prelude.{Option, Some, None}
use Rattle.wal.specs.declared.Order.{Order}
use Rattle.wal.specs.Sums.{is_big}
use Rattle.wal.specs.Told.{order_of}
use Rattle.wal.proofs.OrderLaws.{in_order, no_order}
use Rattle.wal.specs.State.{State}
use Rattle.wal.proofs.CutLaws.{accepted-state}
use Rattle.wal.proofs.FrameLaws.{in-force-whole}
use Rattle.appending.specs.Tail.{tail_is, big_of, frames_of, tail_of, IsTail}
use Rattle.appending.specs.Answers.{frame_limit, is_headed, scan_refusal, told_is, scan_of, scan_tail, seal_at}
use Rattle.appending.proofs.SealLaws.{sealed}

-- ---- the header
-- an accepted header's word order is the one that its magic gives
pub told : (big : Bool) (log : List ℕ) → Accepted big log → big_of log ≡ big
told true log a = eq-eqb _ _ a.magic
told false log a = ne_eqb _ _ (λ e. omega (arith, a.magic))

-- what a header with its sums has
record Headed (log : List ℕ) : Type 0 where
  long : 32 ≤ length log
  magic : be 4 log 0 ≡ cond (big_of log) big_magic little_magic
  sums : carries log 8 (header_sums (big_of log) log) ≡ true
  state : state_of log ≡ state_in (big_of log) log

headed : (log : List ℕ) → is_headed log ≡ true → Headed log
unfolding is_headed state_of
headed log h = one (ltb (length log) 32) refl
  where
    three : 32 ≤ length log → (be 4 log 0 ≡ little_magic → ⊥) → (t : Bool) → eqb (be 4 log 0) big_magic ≡ t → Headed log
    three l n true e =
        let m : be 4 log 0 ≡ big_magic = eqb-true _ _ e in
        let s : carries log 8 (header_sums true log) ≡ true = simp (le-ltb (length log) 32 l, ne_eqb (be 4 log 0) little_magic n, e) at h in
        record {
          long = l;
          magic = simp e m;
          sums = simp e s;
          state = simp (le-ltb (length log) 32 l, ne_eqb (be 4 log 0) little_magic n, e);
        }
    three l n false e = absurd (false≢true (simp (le-ltb (length log) 32 l, ne_eqb (be 4 log 0) little_magic n, e) at h))

    two : 32 ≤ length log → (t : Bool) → eqb (be 4 log 0) little_magic ≡ t → Headed log
    two l true e =
        let m : be 4 log 0 ≡ little_magic = eqb-true _ _ e in
        let o : eqb (be 4 log 0) big_magic ≡ false = ne_eqb _ _ (λ k. omega arith) in
        let s : carries log 8 (header_sums false log) ≡ true = simp (le-ltb (length log) 32 l, e) at h in
        record {
          long = l;
          magic = simp o m;
          sums = simp o s;
          state = simp (le-ltb (length log) 32 l, e, o);
        }
    two l false e = three l (eqb-false _ _ e) (eqb (be 4 log 0) big_magic) refl

    one : (t : Bool) → ltb (length log) 32 ≡ t → Headed log
    one true e = absurd (false≢true (simp e at h))
    one false e = two (ltb-false _ _ e) (eqb (be 4 log 0) little_magic) refl

-- as the code finds it, by the order that the magic gives
module _ (log : List ℕ) (long : 32 ≤ length log) (o : Option Order) (magic : ℕ) (is-magic : magic ≡ be 4 log 0) (is-o : o ≡ order_of magic) where
  pub headed-by : (order : Order) → o ≡ Some order → carries log 8 (header_sums (is_big order) log) ≡ is_headed log
  unfolding order_of is_headed
  headed-by order e =
      simp (le-ltb (length log) 32 long, ← is-magic)
      (in_order (λ (b : Bool). carries log 8 (header_sums b log)) false _ _ order (sym is-o ∙ e))

  pub headed-none : o ≡ None → false ≡ is_headed log
  unfolding order_of is_headed
  headed-none e =
      simp (le-ltb (length log) 32 long, ← is-magic)
      (no_order (λ (b : Bool). carries log 8 (header_sums b log)) false _ _ (sym is-o ∙ e))

-- a log that is not refused is accepted
in-accepted : (big : Bool) (log : List ℕ) → 32 ≤ length log → be 4 log 0 ≡ cond big big_magic little_magic → carries log 8 (header_sums big log) ≡ true
    → (state_in big log).refusal ≡ 0 → Accepted big log
unfolding state_in
in-accepted big log l m s r =
    by_cond (λ (x : State). x.refusal ≡ 0 → Accepted big log) (eqb (be 4 log 4) log_version) _ (refused 40)
    (λ v. by_cond (λ (x : State). x.refusal ≡ 0 → Accepted big log) (size_fits (size_of log)) _ (refused 41)
    (λ z q. record { long = l; magic = m; sums = s; version = eqb-true _ _ v; size = z })
    (λ z q. absurd (let e : ◌≡◌ {A = ℕ} 41 0 = q in omega arith)))
    (λ v q. absurd (let e : ◌≡◌ {A = ℕ} 40 0 = q in omega arith))
    (simp s at r)

pub headed-accepted : (log : List ℕ) → is_headed log ≡ true → (state_of log).refusal ≡ 0 → Accepted (big_of log) log
headed-accepted log h ok =
    let g = headed log h in
    in-accepted (big_of log) log g.long g.magic g.sums (ap (λ (x : State). x.refusal) (sym g.state) ∙ ok)

-- and an accepted header has its sums
pub accepted-headed : (big : Bool) (log : List ℕ) → Accepted big log → is_headed log ≡ true
unfolding is_headed
accepted-headed true log a = simp (le-ltb (length log) 32 a.long, a.magic, a.sums)
accepted-headed false log a = simp (le-ltb (length log) 32 a.long, a.magic, a.sums)

-- ---- its state has the frames in force
module _ (size : ℕ) (log : List ℕ) where
  at_frames : (m : ℕ) → (state_at size log m).refusal ≡ 0 → (state_at size log m).frames ≡ m
  unfolding state_at
  at_frames zero = λ r. refl
  at_frames (suc k) =
      by_cond (λ (s : State). s.refusal ≡ 0 → s.frames ≡ suc k) (eqb (suc k) 0) nothing _ (λ z. absurd (let e = eqb-true (suc k) 0 z in omega arith))
      (λ z. by_cond (λ (s : State). s.refusal ≡ 0 → s.frames ≡ suc k) (ltb page_limit (commit_size size log (suc k - 1))) (refused 42) _
      (λ o r. absurd (let e : ◌≡◌ {A = ℕ} 42 0 = r in omega arith)) (λ o r. refl))

  at_pages : (m : ℕ) → (state_at size log m).pages ≤ page_limit
  unfolding state_at
  at_pages m =
      by_cond (λ (s : State). s.pages ≤ page_limit) (eqb m 0) nothing _ (λ z. omega arith)
      (λ z. by_cond (λ (s : State). s.pages ≤ page_limit) (ltb page_limit (commit_size size log (m - 1))) (refused 42) _ (λ o. omega arith) (λ o. ltb-false _ _ o))

pub state-frames : (log : List ℕ) → Accepted (big_of log) log → (state_of log).refusal ≡ 0 → (state_of log).frames ≡ frames_of log
state-frames log a = rw (accepted-state (big_of log) log a) (at_frames (size_of log) log (frames_of log))

state-pages : (log : List ℕ) → Accepted (big_of log) log → (state_of log).pages ≤ page_limit
state-pages log a = rw (accepted-state (big_of log) log a) (at_pages (size_of log) log (frames_of log))

pub headed_frames : (log : List ℕ) → is_headed log ≡ true → (state_of log).refusal ≡ 0 → (state_of log).frames ≡ frames_of log
headed_frames log h ok = state-frames log (headed-accepted log h ok) ok

-- ---- where nothing refuses to tell the tail
pub record Told (log : List ℕ) (words : ℕ) : Type 0 where
  pub header : Accepted (big_of log) log
  pub passed : (state_of log).refusal ≡ 0
  pub few : frames_of log ≤ frame_limit
  pub room : 8 ≤ words

pub scan-passed : (log : List ℕ) (words : ℕ) → scan_refusal log words ≡ 0 → Told log words
unfolding scan_refusal
scan-passed log words h = one (is_headed log) refl
  where
    four : Accepted (big_of log) log → is_headed log ≡ true → (state_of log).refusal ≡ 0 → frames_of log ≤ frame_limit → (t : Bool) → ltb words 8 ≡ t → Told log words
    four a y ok l true e = absurd (let z : ◌≡◌ {A = ℕ} 44 0 = simp (y, eq-eqb _ 0 ok, le-ltb frame_limit (frames_of log) l, e) at h in omega arith)
    four a y ok l false e = record { header = a; passed = ok; few = l; room = ltb-false _ _ e }

    three : Accepted (big_of log) log → is_headed log ≡ true → (state_of log).refusal ≡ 0 → (t : Bool) → ltb frame_limit (frames_of log) ≡ t → Told log words
    three a y ok true e = absurd (let z : ◌≡◌ {A = ℕ} 47 0 = simp (y, eq-eqb _ 0 ok, e) at h in omega arith)
    three a y ok false e = four a y ok (ltb-false _ _ e) (ltb words 8) refl

    two : is_headed log ≡ true → (t : Bool) → eqb (state_of log).refusal 0 ≡ t → Told log words
    two y true e = three (headed-accepted log y (eqb-true _ 0 e)) y (eqb-true _ 0 e) (ltb frame_limit (frames_of log)) refl
    two y false e = absurd (eqb-false _ 0 e (simp (y, e) at h))

    one : (t : Bool) → is_headed log ≡ t → Told log words
    one true e = two e (eqb (state_of log).refusal 0) refl
    one false e = absurd (let z : ◌≡◌ {A = ℕ} 50 0 = simp e at h in omega arith)

-- what the code needs of such a log
pub scan_bounds : (log : List ℕ) (words : ℕ) → scan_refusal log words ≡ 0
    → (32 ≤ length log) × (8 ≤ words) × ((state_of log).frames ≡ frames_of log) × (frames_of log ≤ frame_limit) × ((state_of log).pages ≤ page_limit)
    × (size_of log ≤ 65536) × (frame_at (size_of log) (frames_of log) ≤ length log) × (seal_at (size_of log) (frames_of log) + 24 ≤ length log)
scan_bounds log words h =
    let t = scan-passed log words h in
    let long = t.header.long in (
      long,
      t.room,
      state-frames log t.header t.passed,
      t.few,
      state-pages log t.header,
      (fits-range (size_of log) t.header.size).1,
      in-force-whole (big_of log) (size_of log) log long,
      (sealed (big_of log) log t.header (frames_of log) refl).1,
    )

-- and the tail that it reads
pub read-tail : (log : List ℕ) (words : ℕ) → scan_refusal log words ≡ 0 → (s : State) → s ≡ state_of log
    → (size seal magic salt1 salt2 s0 s1 : ℕ) → size ≡ size_of log → seal ≡ seal_at size s.frames → magic ≡ be 4 log 0 → salt1 ≡ be 4 log 16 → salt2 ≡ be 4 log 20
    → s0 ≡ be 4 log (seal + 16) → s1 ≡ be 4 log (seal + 20) → (big : Bool) → big ≡ eqb magic big_magic
    → tail_is size big salt1 salt2 (s0, s1) s.frames s.pages ≡ tail_of log
unfolding tail_of
read-tail log words h s is size seal magic salt1 salt2 s0 s1 e es em e1 e2 f0 f1 big eb =
    let t = scan-passed log words h in
    let frames-are : s.frames ≡ frames_of log = ap (λ (x : State). x.frames) is ∙ state-frames log t.header t.passed in
    let pages-are : s.pages ≡ (state_of log).pages = ap (λ (x : State). x.pages) is in
    let seal-is : seal ≡ seal_at (size_of log) (frames_of log) = es ∙ rw (e, frames-are) refl in
    rw (eb, e, em, e1, e2, f0, f1, seal-is, frames-are, pages-are, (sealed (big_of log) log t.header (frames_of log) refl).0) refl

-- ---- the words of a tail
pub tail-length : (log : List ℕ) → length (tail_of log) ≡ 8
unfolding tail_of
tail-length log = refl

pub front-tail : (log rest : List ℕ) → take 8 (tail_of log ++ rest) ≡ tail_of log
front-tail log rest = take_at (tail_of log) rest 8 (tail-length log)

pub is-tail : (log rest tail : List ℕ) → Accepted (big_of log) log → ((i : ℕ) → byte_at log i < 256) → tail ≡ tail_of log ++ rest → IsTail tail log
is-tail log rest tail a f e = record { header = a; bytes = f; words = ap (take 8) e ∙ front-tail log rest }

pub scan-words : (log tail new : List ℕ) → scan_refusal log (length tail) ≡ 0 → new ≡ tail_of log ++ drop 8 tail → new ≡ scan_tail log tail
unfolding scan_tail
scan-words log tail new h e = simp (eq-eqb (scan_refusal log (length tail)) 0 h) e

-- ---- the definitions alone
pub scan-tail : (log tail : List ℕ) → ((i : ℕ) → byte_at log i < 256) → (scan_of log (length tail)).refusal ≡ 0 → IsTail (scan_tail log tail) log
unfolding scan_of scan_tail
scan-tail log tail f h = go (eqb (scan_refusal log (length tail)) 0) refl
  where
    go : (t : Bool) → eqb (scan_refusal log (length tail)) 0 ≡ t → IsTail (cond (eqb (scan_refusal log (length tail)) 0) (tail_of log ++ drop 8 tail) tail) log
    go true e =
        let a = (scan-passed log (length tail) (eqb-true _ 0 e)).header in
        simp e (is-tail log (drop 8 tail) (tail_of log ++ drop 8 tail) a f refl)
    go false e = absurd (eqb-false _ 0 e (simp e at h))

pub scan-answer : (big : Bool) (log : List ℕ) (words : ℕ) → Accepted big log → (state_of log).refusal ≡ 0 → frames_of log ≤ frame_limit → 8 ≤ words
    → scan_of log words ≡ told_is 0 (size_of log) (frames_of log) (state_of log).pages
unfolding scan_of scan_refusal
scan-answer big log words a ok few room =
    simp (accepted-headed big log a, eq-eqb (state_of log).refusal 0 ok, le-ltb frame_limit (frames_of log) few, le-ltb words 8 room)
