-- A header, whole or cut, and its tail.
use Rattle.std.proofs.Common.{◌≡◌, ℕ, ◌+◌, ◌^◌, ◌<◌, ◌≤◌, ◌⊎◌, Bool, true, false, List, [], ◌++◌, length, take, drop, refl, ap, ◌∙◌, ⊎_elim, arith, length-take, length-append}
use lib.Dec.{ltb}
use lib.ListN.{get_or-append}
use lib.Seq.{get_or-append-add, take-append-le, take_all, take_at}
use borrow.Author.Tests.{le-ltb, ltb-false}
use Rattle.number.specs.Bytes.{byte_at, be}
use Rattle.number.proofs.BeLaws.{be-same}
use Rattle.number.proofs.Cases.{lt-or-ge}
use Rattle.number.proofs.VarintReading.{Stands}
use Rattle.paging.specs.Pages.{size_fits}
use Rattle.wal.specs.Frames.{sums_after, last_commit}
use Rattle.wal.specs.State.{size_of, nothing, state_of}
use Rattle.wal.specs.View.{image_state}
use Rattle.wal.specs.State.{State}
use Rattle.wal.proofs.FrameLaws.{frame-first}
use Rattle.wal.proofs.Theorems.{other_salts}
use Rattle.wal.proofs.ShownLaws.{none-agree, shown_by}
use Rattle.appending.specs.Written.{field_sums, header_bytes}
use Rattle.appending.specs.Tail.{tail_is, big_of, frames_of, tail_of}
use Rattle.appending.specs.Promises.{ShowsAlone, Opens}
use Rattle.appending.specs.Answers.{begin_refusal, begin_of, begin_tail, begin_out}
use Rattle.appending.proofs.BytesLaws.{bytes-header}
use Rattle.appending.proofs.TailLaws.{told, is-tail}
use Rattle.appending.proofs.CheckpointLaws.{alone}
use Rattle.appending.proofs.HeaderLaws as H

-- where a log has nothing to recover, the image alone is shown
pub shows_alone : (log image : List ℕ) → state_of log ≡ nothing → ShowsAlone log image
shows_alone log image e = shown_by log image (image_state image) [] (alone log image e) (none-agree (image_state image).size log [])

module _ (size sequence salt1 salt2 : ℕ) (ok : size_fits size ≡ true) where
  abbrev header : List ℕ
  header = header_bytes size sequence salt1 salt2

  long : length header ≡ 32
  long = H.header-length size sequence salt1 salt2

  -- cut anywhere
  pub cut-nothing : (c : ℕ) → state_of (take c header) ≡ nothing
  cut-nothing c =
      ⊎_elim
      (λ (l : c < 32). H.short-nothing (take c header) (omega (arith, length-take c header)))
      (λ (l : 32 ≤ c). ap state_of (take_all c header (omega (arith, long))) ∙ H.header-nothing size sequence salt1 salt2 ok)
      (lt-or-ge c 32)

  little : big_of header ≡ false
  little = told false header (H.header-accepted size sequence salt1 salt2 ok)

  none : frames_of header ≡ 0
  none = ap (λ (big : Bool). last_commit big (size_of header) header) little ∙ H.header-none size sequence salt1 salt2 ok

  pub header-tail : salt1 < 2 ^ 32 → salt2 < 2 ^ 32 → tail_of header ≡ tail_is size false salt1 salt2 (field_sums size sequence salt1 salt2) 0 0
  unfolding tail_of sums_after
  header-tail l1 l2 =
      let w : 32 ≤ length header = omega (arith, long) in
      let self = H.itself size sequence salt1 salt2 ok in
      let e = H.written-size size sequence salt1 salt2 header w self ok in
      let x = H.written-salt1 size sequence salt1 salt2 header w self ok l1 in
      let y = H.written-salt2 size sequence salt1 salt2 header w self ok l2 in
      let s = H.written-sums size sequence salt1 salt2 header w self in
      let n : (state_of header).pages ≡ 0 = ap (λ (z : State). z.pages) (H.header-nothing size sequence salt1 salt2 ok) in
      rw (none, n, little, e, x, y, s) refl

  -- as the code lays it
  pub tail-laid : (s0 s1 : ℕ) (tail new : List ℕ) → salt1 < 2 ^ 32 → salt2 < 2 ^ 32 → field_sums size sequence salt1 salt2 ≡ (s0, s1)
      → new ≡ tail_is size false salt1 salt2 (s0, s1) 0 0 ++ drop 8 tail → new ≡ tail_of header ++ drop 8 tail
  tail-laid s0 s1 tail new l1 l2 s e = rw (header-tail l1 l2, s) e

  pub begin-words : (tail new : List ℕ) (room : ℕ) → 8 ≤ length tail → 32 ≤ room → new ≡ tail_of header ++ drop 8 tail → new ≡ begin_tail size sequence salt1 salt2 room tail
  unfolding begin_tail begin_refusal
  begin-words tail new room l r e = simp (ok, le-ltb (length tail) 8 l, le-ltb room 32 r) e

  -- with bytes behind it
  first-nothing : (log : List ℕ) → 32 ≤ length log → Stands log 0 header → salt1 < 2 ^ 32 → salt2 < 2 ^ 32
      → (be 4 log 40 ≡ salt1 → ⊥) ⊎ (be 4 log 44 ≡ salt2 → ⊥) → state_of log ≡ nothing
  first-nothing log w st l1 l2 h =
      let a = H.written-accepted size sequence salt1 salt2 log w st ok in
      let x = H.written-salt1 size sequence salt1 salt2 log w st ok l1 in
      let y = H.written-salt2 size sequence salt1 salt2 log w st ok l2 in
      let f = frame-first (size_of log) in
      H.none-nothing false log a (other_salts false (size_of log) log 0 (rw (f, x, y) h))

  behind-field : (x : List ℕ) (k : ℕ) → be 4 (header ++ x) (32 + k) ≡ be 4 x k
  behind-field x k =
      be-same 4 (header ++ x) x (32 + k) k
      (λ i l. let e : 32 + k + i ≡ length header + (k + i) = omega (arith, long) in ap (byte_at (header ++ x)) e ∙ get_or-append-add header x (k + i) 0)

  pub leftover-nothing : (x : List ℕ) → salt1 < 2 ^ 32 → salt2 < 2 ^ 32 → (be 4 x 8 ≡ salt1 → ⊥) ⊎ (be 4 x 12 ≡ salt2 → ⊥) → state_of (header ++ x) ≡ nothing
  leftover-nothing x l1 l2 h =
      first-nothing (header ++ x) (omega (arith, long, length-append header x)) (λ i l. get_or-append header x 0 (0 + i) (omega arith) ∙ ap (byte_at header) (omega arith)) l1 l2
      (rw (behind-field x 8, behind-field x 12) h)

  pub opens : (tail rest out more : List ℕ) → salt1 < 2 ^ 32 → salt2 < 2 ^ 32 → tail ≡ tail_of header ++ rest → out ≡ header ++ more → Opens salt1 salt2 tail out
  opens tail rest out more l1 l2 e f =
      let whole : take 32 out ≡ header = ap (take 32) f ∙ take_at header more 32 long in
      let a = H.header-accepted size sequence salt1 salt2 ok in
      record {
        cuts = λ c image l.
            let cut : take c out ≡ take c header = ap (take c) f ∙ take-append-le c header more (omega (arith, long)) in
            shows_alone (take c out) image (ap state_of cut ∙ cut-nothing c);
        leftovers = λ x image h. shows_alone (take 32 out ++ x) image (ap (λ (y : List ℕ). state_of (y ++ x)) whole ∙ leftover-nothing x l1 l2 h);
        next = rw (whole, e) (is-tail header rest (tail_of header ++ rest) (rw little a) (bytes-header size sequence salt1 salt2) refl);
      }

-- ---- the definitions alone
begin-passed : (size words room : ℕ) → (begin_of size words room).refusal ≡ 0 → (size_fits size ≡ true) × (8 ≤ words) × (32 ≤ room)
unfolding begin_of begin_refusal
begin-passed size words room h = one (size_fits size) refl (ltb words 8) refl (ltb room 32) refl
  where
    one : (t : Bool) → size_fits size ≡ t → (u : Bool) → ltb words 8 ≡ u → (v : Bool) → ltb room 32 ≡ v → (size_fits size ≡ true) × (8 ≤ words) × (32 ≤ room)
    one true e false f false g = (e, ltb-false _ _ f, ltb-false _ _ g)
    one false e u f v g = absurd (let z : ◌≡◌ {A = ℕ} 41 0 = simp e at h in omega arith)
    one true e true f v g = absurd (let z : ◌≡◌ {A = ℕ} 44 0 = simp (e, f) at h in omega arith)
    one true e false f true g = absurd (let z : ◌≡◌ {A = ℕ} 44 0 = simp (e, f, g) at h in omega arith)

pub begin-opens : (size sequence salt1 salt2 : ℕ) (tail out : List ℕ) → salt1 < 2 ^ 32 → salt2 < 2 ^ 32 → (begin_of size (length tail) (length out)).refusal ≡ 0
    → Opens salt1 salt2 (begin_tail size sequence salt1 salt2 (length out) tail) (begin_out size sequence salt1 salt2 (length tail) out)
unfolding begin_tail begin_out begin_refusal
begin-opens size sequence salt1 salt2 tail out l1 l2 h =
    let p = begin-passed size (length tail) (length out) h in
    let header : List ℕ = header_bytes size sequence salt1 salt2 in
    simp (p.0, le-ltb (length tail) 8 p.1, le-ltb (length out) 32 p.2)
    (opens size sequence salt1 salt2 p.0 (tail_of header ++ drop 8 tail) (drop 8 tail) (header ++ drop 32 out) (drop 32 out) l1 l2 refl refl)
