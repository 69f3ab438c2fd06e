-- What the code's stores leave: numbers, a header, a frame.
use Prim.Native.Nat.{ℕ, ◌+◌, ◌-◌, ◌*◌, ◌/◌, ◌^◌, ◌<◌, ◌≤◌}
use mathlib.Core.Path.{◌≡◌, sym, ap, ◌∙◌, subst}
use mathlib.Core.Bool.{Bool, false}
use mathlib.Core.List.{List, ◌++◌, append_assoc}
use native.Mathlib.Omega.{arith}
use lib.ListN.{length, drop, length-append}
use Rattle.number.proofs.VarintReading.{Stands}
use Rattle.paging.specs.Pages.{over}
use Rattle.paging.proofs.PagesLaws.{over-within}
use Rattle.wal.specs.Sums.{Sums, sums_over}
use Rattle.wal.specs.State.{little_magic, log_version}
use Rattle.wal.proofs.SumLaws.{Summing, summing-next, summing-done}
use Rattle.appending.specs.Written.{word4, sum_bytes, header_fields, field_sums, header_bytes, frame_head, sums_on, frame_bytes}
use Rattle.appending.proofs.OverLaws.{over-on}
use Rattle.appending.proofs.StandLaws.{word-length, words-length, sums-stand}
use Rattle.appending.proofs.HeaderLaws.{fields-length}

-- what was laid stands there
pub laid-stands : (b : List ℕ) (at : ℕ) (s : List ℕ) → at + length s ≤ length b → Stands (over b at s) at s
laid-stands b at s h i l = over-within b at s h i l

-- one part laid behind another
pub laid_on : (out out₁ out₂ : List ℕ) (at next : ℕ) (s t : List ℕ) → next ≡ at + length s → at + length s ≤ length out → out₁ ≡ over out at s → out₂ ≡ over out₁ next t
    → out₂ ≡ over out at (s ++ t)
laid_on out out₁ out₂ at next s t n h e f = f ∙ ap (λ (x : List ℕ). over x next t) e ∙ over-on out at next s t n h

pub two-laid : (out out₁ out₂ : List ℕ) (at a b : ℕ) → at + 8 ≤ length out → out₁ ≡ over out at (word4 a) → out₂ ≡ over out₁ (at + 4) (word4 b)
    → out₂ ≡ over out at (word4 a ++ word4 b)
two-laid out out₁ out₂ at a b h e f =
    laid_on out out₁ out₂ at (at + 4) (word4 a) (word4 b) (omega (arith, word-length a)) (omega (arith, word-length a)) e f

-- ---- the header
pub fields_laid : (out out₁ out₂ out₃ : List ℕ) (size sequence salt1 salt2 : ℕ) → 24 ≤ length out → out₁ ≡ over out 0 (word4 little_magic ++ word4 log_version)
    → out₂ ≡ over out₁ 8 (word4 size ++ word4 sequence) → out₃ ≡ over out₂ 16 (word4 salt1 ++ word4 salt2)
    → out₃ ≡ over out 0 (header_fields size sequence salt1 salt2)
unfolding header_fields
fields_laid out out₁ out₂ out₃ size sequence salt1 salt2 h e f g =
    let x : List ℕ = word4 little_magic ++ word4 log_version in
    let y : List ℕ = word4 size ++ word4 sequence in
    let z : List ℕ = word4 salt1 ++ word4 salt2 in
    let lx : length x ≡ 8 = words-length little_magic log_version in
    let ly : length y ≡ 8 = words-length size sequence in
    let lxy : length (x ++ y) ≡ 16 = omega (arith, length-append x y) in
    let two : out₂ ≡ over out 0 (x ++ y) = laid_on out out₁ out₂ 0 8 x y (omega arith) (omega arith) e f in
    laid_on out out₂ out₃ 0 16 (x ++ y) z (omega arith) (omega arith) two g
    ∙ ap (over out 0) joined
  where
    joined : ((word4 little_magic ++ word4 log_version) ++ (word4 size ++ word4 sequence)) ++ (word4 salt1 ++ word4 salt2)
        ≡ word4 little_magic ++ (word4 log_version ++ (word4 size ++ (word4 sequence ++ (word4 salt1 ++ word4 salt2))))
    joined = simp append_assoc

-- the header's sums, and the whole
module _ (out out₁ : List ℕ) (size sequence salt1 salt2 r0 r1 : ℕ) (h : 32 ≤ length out) (e : out₁ ≡ over out 0 (header_fields size sequence salt1 salt2))
    (r : sums_over false out₁ 0 3 (0, 0) ≡ (r0, r1)) where
  abbrev fields : List ℕ
  fields = header_fields size sequence salt1 salt2

  pub header-sums : field_sums size sequence salt1 salt2 ≡ (r0, r1)
  header-sums =
      let l : length fields ≡ 24 = fields-length size sequence salt1 salt2 in
      let stands : Stands out₁ 0 fields = subst (λ (x : List ℕ). Stands x 0 fields) (sym e) (laid-stands out 0 fields (omega arith)) in
      sym (sums-stand false out₁ 0 fields 3 (0, 0) (omega arith) stands) ∙ r

  pub header-laid : (out₂ : List ℕ) → out₂ ≡ over out₁ 24 (word4 r0 ++ word4 r1) → out₂ ≡ header_bytes size sequence salt1 salt2 ++ drop 32 out
  unfolding header_bytes
  header-laid out₂ f =
      let l : length fields ≡ 24 = fields-length size sequence salt1 salt2 in
      let k : length (fields ++ sum_bytes (r0, r1)) ≡ 32 = omega (arith, length-append fields (sum_bytes (r0, r1)), words-length r0 r1) in
      let z : 0 + length (fields ++ sum_bytes (r0, r1)) ≡ 32 = omega arith in
      laid_on out out₁ out₂ 0 24 fields (sum_bytes (r0, r1)) (omega arith) (omega arith) e f
      ∙ ap (λ (n : ℕ). (fields ++ sum_bytes (r0, r1)) ++ drop n out) z
      ∙ ap (λ (s : Sums). (fields ++ sum_bytes s) ++ drop 32 out) (sym header-sums)

-- ---- a frame
module _ (out o1 page : List ℕ) (at p commit : ℕ) (room : at + (24 + length page) ≤ length out) (e1 : o1 ≡ over out at (word4 p ++ word4 commit)) where
  abbrev head : List ℕ
  head = frame_head p commit

  pub frame_summed : (big : Bool) (s0 s1 h0 h1 t0 t1 : ℕ) → sums_over big o1 at 1 (s0, s1) ≡ (h0, h1) → sums_over big page 0 (length page / 8) (h0, h1) ≡ (t0, t1)
      → sums_on big (length page) p commit page (s0, s1) ≡ (t0, t1)
  frame_summed big s0 s1 h0 h1 t0 t1 eh et =
      let lh : length head ≡ 8 = words-length p commit in
      let stands : Stands o1 at head = subst (λ (x : List ℕ). Stands x at head) (sym e1) (laid-stands out at head (omega arith)) in
      let first : sums_over big head 0 1 (s0, s1) ≡ (h0, h1) = sym (sums-stand big o1 at head 1 (s0, s1) (omega arith) stands) ∙ eh in
      rw first et

  pub frame-laid : (o2 o3 o4 : List ℕ) (salt1 salt2 t0 t1 : ℕ) → o2 ≡ over o1 (at + 8) (word4 salt1 ++ word4 salt2) → o3 ≡ over o2 (at + 16) (word4 t0 ++ word4 t1)
      → o4 ≡ over o3 (at + 24) page → o4 ≡ over out at (frame_bytes (word4 salt1 ++ word4 salt2) p commit page (t0, t1))
  unfolding frame_bytes
  frame-laid o2 o3 o4 salt1 salt2 t0 t1 e2 e3 e4 =
      let lh : length head ≡ 8 = words-length p commit in
      let salts : List ℕ = word4 salt1 ++ word4 salt2 in
      let ls : length salts ≡ 8 = words-length salt1 salt2 in
      let sums : List ℕ = sum_bytes (t0, t1) in
      let lt : length sums ≡ 8 = words-length t0 t1 in
      let two : o2 ≡ over out at (head ++ salts) = laid_on out o1 o2 at (at + 8) head salts (omega arith) (omega arith) e1 e2 in
      let l2 : length (head ++ salts) ≡ 16 = omega (arith, length-append head salts) in
      let three : o3 ≡ over out at ((head ++ salts) ++ sums) = laid_on out o2 o3 at (at + 16) (head ++ salts) sums (omega arith) (omega arith) two e3 in
      let l3 : length ((head ++ salts) ++ sums) ≡ 24 = omega (arith, length-append (head ++ salts) sums) in
      laid_on out o3 o4 at (at + 24) ((head ++ salts) ++ sums) page (omega arith) (omega arith) three e4
      ∙ ap (over out at) (append_assoc (head ++ salts) sums page ∙ append_assoc head salts (sums ++ page))

-- ---- the sums over a page, by two loops one after the other
-- a turn of n pairs
pub page-next : (big : Bool) (b : List ℕ) (pairs j u0 u1 i t0 t1 : ℕ) → Summing big b 0 pairs j u0 u1 i t0 t1
    → (n v0 v1 : ℕ) → v0 < 2 ^ 32 → v1 < 2 ^ 32 → i + n ≤ pairs → sums_over big b (8 * i) n (t0, t1) ≡ (v0, v1)
    → Summing big b 0 pairs j u0 u1 (i + n) v0 v1
page-next big b pairs j u0 u1 i t0 t1 h n v0 v1 l0 l1 l e =
    let z : 0 + 8 * i ≡ 8 * i = omega arith in
    summing-next big b 0 pairs j u0 u1 i t0 t1 h n v0 v1 l0 l1 l (rw z e)

pub page-done : (big : Bool) (b : List ℕ) (pairs s0 s1 j u0 u1 i t0 t1 : ℕ) → Summing big b 0 pairs 0 s0 s1 j u0 u1 → Summing big b 0 pairs j u0 u1 i t0 t1
    → pairs ≤ i → sums_over big b 0 pairs (s0, s1) ≡ (t0, t1)
page-done big b pairs s0 s1 j u0 u1 i t0 t1 g h l =
    let k : pairs - 0 ≡ pairs = omega arith in
    rw k at (sym g.same ∙ summing-done big b 0 pairs j u0 u1 i t0 t1 h l)
