-- The frames of a commit, written one behind the other.
use Prim.Native.Nat.{ℕ, suc, ◌+◌, ◌-◌, ◌*◌, ◌^◌, ◌<◌, ◌≤◌}
use mathlib.Core.Path.{◌≡◌, refl, sym, ap, ◌∙◌}
use mathlib.Core.Bool.{Bool}
use mathlib.Core.List.{List, ◌∷◌, ◌++◌}
use native.Mathlib.Nat.{zero-add, suc-mul}
use native.Mathlib.Omega.{arith}
use lib.ListN.{length, get_or, take, drop, length-drop, drop_of_length-le}
use lib.Seq.{length-take-le, drop-cons, drop-drop}
use Rattle.paging.specs.Pages.{over}
use Rattle.paging.proofs.PagesLaws.{length_over}
use Rattle.wal.specs.Sums.{Sums}
use Rattle.appending.specs.Written.{sums_on, frame_bytes, commit_for, frames_from, sums_from}
use Rattle.appending.specs.Answers.{added_length}
use Rattle.appending.proofs.OverLaws.{over-on, over_none}
use Rattle.appending.proofs.FrameLaws.{frame-length, frames-length}

sums-step : (big : Bool) (size n p : ℕ) (rest pages : List ℕ) (s : Sums) → sums_from big size n (p ∷ rest) pages s
    ≡ sums_from big size n rest (drop size pages) (sums_on big size p (commit_for n (length rest)) (take size pages) s)
unfolding sums_from
sums-step big size n p rest pages s = refl

-- where the writer stands: behind i frames; what becomes of the rest becomes of the whole, and its sums are those of the whole
pub record Writing (goal : List ℕ) (end : Sums) (room : ℕ) (big : Bool) (size : ℕ) (salts : List ℕ) (n : ℕ) (numbers pages out : List ℕ) (i at from t0 t1 : ℕ) : Type 0 where
  pub within : i ≤ length numbers
  pub long : length out ≡ room
  pub place : at + (length numbers - i) * (24 + size) ≤ room
  pub left : from + (length numbers - i) * size ≡ length pages
  pub low0 : t0 < 2 ^ 32
  pub low1 : t1 < 2 ^ 32
  pub same : over out at (frames_from big size salts n (drop i numbers) (drop from pages) (t0, t1)) ≡ goal
  pub sums : sums_from big size n (drop i numbers) (drop from pages) (t0, t1) ≡ end

pub writing-starts : (big : Bool) (size : ℕ) (salts : List ℕ) (n : ℕ) (numbers pages out : List ℕ) (s0 s1 : ℕ) → length pages ≡ length numbers * size
    → added_length size numbers ≤ length out → s0 < 2 ^ 32 → s1 < 2 ^ 32
    → Writing (over out 0 (frames_from big size salts n numbers pages (s0, s1))) (sums_from big size n numbers pages (s0, s1)) (length out) big size salts n numbers pages out 0 0 0 s0 s1
writing-starts big size salts n numbers pages out s0 s1 w room l0 l1 =
    let k : length numbers - 0 ≡ length numbers = omega arith in
    record {
      within = omega arith;
      long = refl;
      place = rw k (omega arith);
      left = rw k (omega arith);
      low0 = l0;
      low1 = l1;
      same = refl;
      sums = refl;
    }

module _ (goal : List ℕ) (end : Sums) (room : ℕ) (big : Bool) (size : ℕ) (salts : List ℕ) (n : ℕ) (numbers pages out : List ℕ) (i at from t0 t1 : ℕ)
    (w : Writing goal end room big size salts n numbers pages out i at from t0 t1) where
  pub writing_room : i < length numbers → (at + (24 + size) ≤ length out) × (from + size ≤ length pages)
  writing_room h =
      let k : length numbers - i ≡ suc (length numbers - (i + 1)) = omega arith in
      let p = w.place in
      let l = w.left in
      let g = w.long in
      let a : (length numbers - i) * (24 + size) ≡ (length numbers - (i + 1)) * (24 + size) + (24 + size) = rw k (suc-mul (length numbers - (i + 1)) (24 + size)) in
      let b : (length numbers - i) * size ≡ (length numbers - (i + 1)) * size + size = rw k (suc-mul (length numbers - (i + 1)) size) in
      (omega arith, omega arith)

  pub writing-on : (out' page : List ℕ) (p commit u0 u1 : ℕ) → i < length numbers → length salts ≡ 8 → u0 < 2 ^ 32 → u1 < 2 ^ 32
      → commit ≡ commit_for n (length numbers - i - 1) → page ≡ take (from + size - from) (drop from pages) → p ≡ get_or numbers i 0
      → sums_on big (length page) p commit page (t0, t1) ≡ (u0, u1)
      → out' ≡ over out at (frame_bytes salts p commit page (u0, u1))
      → Writing goal end room big size salts n numbers pages out' (i + 1) (at + (24 + size)) (from + size) u0 u1
  unfolding frames_from
  writing-on out' page p commit u0 u1 h ls l0 l1 ec ep en es eo =
      let r = writing_room h in
      let k : length numbers - i ≡ suc (length numbers - (i + 1)) = omega arith in
      let pl = w.place in
      let lf = w.left in
      let g = w.long in
      let a : (length numbers - i) * (24 + size) ≡ (length numbers - (i + 1)) * (24 + size) + (24 + size) = rw k (suc-mul (length numbers - (i + 1)) (24 + size)) in
      let b : (length numbers - i) * size ≡ (length numbers - (i + 1)) * size + size = rw k (suc-mul (length numbers - (i + 1)) size) in
      let next : i + 1 ≡ suc i = omega arith in
      let rest : List ℕ = drop (suc i) numbers in
      let lr : length rest ≡ length numbers - i - 1 = length-drop (suc i) numbers ∙ omega arith in
      let z : from + size - from ≡ size = omega arith in
      let page_is : page ≡ take size (drop from pages) = ep ∙ ap (λ (x : ℕ). take x (drop from pages)) z in
      let lp : length page ≡ size = ap length page_is ∙ length-take-le size (drop from pages) (omega (arith, length-drop from pages)) in
      let c-is : commit_for n (length rest) ≡ commit = ap (commit_for n) lr ∙ sym ec in
      let t-is : sums_on big size p commit page (t0, t1) ≡ (u0, u1) = ap (λ (x : ℕ). sums_on big x p commit page (t0, t1)) (sym lp) ∙ es in
      let frame : List ℕ = frame_bytes salts p commit page (u0, u1) in
      let others : List ℕ = frames_from big size salts n rest (drop size (drop from pages)) (u0, u1) in
      let lf' : length frame ≡ 24 + size = frame-length salts p commit page (u0, u1) ls ∙ ap (λ (x : ℕ). 24 + x) lp in
      let split : frames_from big size salts n (drop i numbers) (drop from pages) (t0, t1) ≡ frame ++ others =
      ap (λ (x : List ℕ). frames_from big size salts n x (drop from pages) (t0, t1)) (drop-cons numbers i 0 h)
      ∙ rw (← en, c-is, ← page_is, t-is) refl in
      let joined : over out' (at + (24 + size)) others ≡ over out at (frame ++ others) =
      ap (λ (x : List ℕ). over x (at + (24 + size)) others) eo ∙ over-on out at (at + (24 + size)) frame others (omega arith) (omega arith) in
      let same' : over out' (at + (24 + size)) (frames_from big size salts n (drop (i + 1) numbers) (drop (from + size) pages) (u0, u1)) ≡ goal =
      rw (next, ← drop-drop size from pages) (joined ∙ ap (over out at) (sym split) ∙ w.same) in
      let on : sums_from big size n (drop i numbers) (drop from pages) (t0, t1) ≡ sums_from big size n rest (drop size (drop from pages)) (u0, u1) =
      ap (λ (x : List ℕ). sums_from big size n x (drop from pages) (t0, t1)) (drop-cons numbers i 0 h)
      ∙ rw (sums-step, ← en, c-is, ← page_is, t-is) refl in
      let sums' : sums_from big size n (drop (i + 1) numbers) (drop (from + size) pages) (u0, u1) ≡ end =
      rw (next, ← drop-drop size from pages) (sym on ∙ w.sums) in
      record {
        within = omega arith;
        long = ap length eo ∙ length_over out at frame (omega arith) ∙ g;
        place = omega arith;
        left = omega arith;
        low0 = l0;
        low1 = l1;
        same = same';
        sums = sums';
      }

  pub writing-ends : length numbers ≤ i → out ≡ goal
  unfolding frames_from
  writing-ends h =
      sym (over_none out at)
      ∙ ap (λ (x : List ℕ). over out at (frames_from big size salts n x (drop from pages) (t0, t1))) (sym (drop_of_length-le numbers h))
      ∙ w.same

  pub writing-sums : length numbers ≤ i → end ≡ (t0, t1)
  unfolding sums_from
  writing-sums h =
      sym w.sums ∙ ap (λ (x : List ℕ). sums_from big size n x (drop from pages) (t0, t1)) (drop_of_length-le numbers h)

-- the whole, at the front
pub front-laid : (big : Bool) (size : ℕ) (salts : List ℕ) (n : ℕ) (numbers pages out : List ℕ) (s : Sums) → length salts ≡ 8 → length pages ≡ length numbers * size
    → over out 0 (frames_from big size salts n numbers pages s) ≡ frames_from big size salts n numbers pages s ++ drop (added_length size numbers) out
front-laid big size salts n numbers pages out s ls w =
    let frames : List ℕ = frames_from big size salts n numbers pages s in
    let e : 0 + length frames ≡ added_length size numbers = zero-add (length frames) ∙ frames-length big size salts n numbers pages s ls w in
    ap (λ (k : ℕ). frames ++ drop k out) e
