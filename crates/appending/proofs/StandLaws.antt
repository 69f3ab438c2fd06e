-- Bytes that stand at a place of a list (`Stands`): their parts stand there too, numbers written are read back, and sums are those of the bytes alone.
use Prim.Native.Nat.{ℕ, zero, suc, ◌+◌, ◌*◌, ◌/◌, ◌%◌, ◌^◌, ◌<◌, ◌≤◌}
use mathlib.Core.Path.{◌≡◌, refl, sym, ap, ◌∙◌}
use mathlib.Core.Bool.{Bool, true, false}
use mathlib.Core.List.{List, [], ◌∷◌, ◌++◌}
use native.Mathlib.Nat.{add-zero, zero-add, pow-suc}
use native.Mathlib.Omega.{arith}
use lib.ListN.{length, drop, length-append, length-drop, get_or-append}
use lib.Seq.{get_or-append-add, get_or-take, get_or-drop, length-take-le, ext_get_or}
use Rattle.number.specs.Bytes.{byte_at, be, part}
use Rattle.number.proofs.BeLaws.{be-same}
use Rattle.number.proofs.VarintReading.{Stands}
use Rattle.wal.specs.Sums.{le, word_at, Sums, sums_over}
use Rattle.appending.specs.Written.{be_bytes, word4}

-- ---- parts
pub stands-behind : (front l : List ℕ) (at : ℕ) → length front ≡ at → Stands (front ++ l) at l
stands-behind front l at e i h = ap (λ (k : ℕ). byte_at (front ++ l) (k + i)) (sym e) ∙ get_or-append-add front l i 0

pub stands-front : (b : List ℕ) (at : ℕ) (l m : List ℕ) → Stands b at (l ++ m) → Stands b at l
stands-front b at l m s i h = s i (rw length-append (omega arith)) ∙ get_or-append l m 0 i h

pub stands-past : (b : List ℕ) (at n : ℕ) (l m : List ℕ) → length l ≡ n → Stands b at (l ++ m) → Stands b (at + n) m
stands-past b at n l m z s i h =
    let e : at + n + i ≡ at + (length l + i) = omega arith in
    ap (byte_at b) e ∙ s (length l + i) (rw length-append (omega arith)) ∙ get_or-append-add l m i 0

-- the bytes themselves
pub stands-part : (b : List ℕ) (at n : ℕ) (l : List ℕ) → length l ≡ n → at + n ≤ length b → Stands b at l → part b at n ≡ l
stands-part b at n l e h s =
    let d : length (part b at n) ≡ n = length-take-le n (drop at b) (omega (arith, length-drop at b)) in
    ext_get_or 0 (part b at n) l (d ∙ sym e)
    (λ i k. get_or-take n (drop at b) i 0 (omega arith) ∙ get_or-drop at b i 0 ∙ s i (omega arith))

-- ---- big-endian numbers
pub be-length : (k n : ℕ) → length (be_bytes k n) ≡ k
unfolding be_bytes
be-length zero n = refl
be-length (suc k) n = rw length-append (omega (arith, be-length k (n / 256)))

be-read : (k n : ℕ) (b : List ℕ) (at : ℕ) → n < 256 ^ k → Stands b at (be_bytes k n) → be k b at ≡ n
unfolding be_bytes be
be-read zero n b at h s = omega arith
be-read (suc k) n b at h s =
    let r : be k b at ≡ n / 256 =
    be-read k (n / 256) b at (omega (arith, pow-suc 256 k)) (stands-front b at (be_bytes k (n / 256)) ((n % 256) ∷ []) s) in
    let y : byte_at b (at + k + 0) ≡ n % 256 = stands-past b at k (be_bytes k (n / 256)) ((n % 256) ∷ []) (be-length k (n / 256)) s 0 (omega arith) in
    let z : byte_at b (at + k) ≡ n % 256 = rw add-zero at y in
    omega arith

pub word-length : (n : ℕ) → length (word4 n) ≡ 4
word-length n = be-length 4 n

pub words-length : (n m : ℕ) → length (word4 n ++ word4 m) ≡ 8
words-length n m = omega (arith, length-append (word4 n) (word4 m), be-length 4 n, be-length 4 m)

pub word_read : (n : ℕ) (b : List ℕ) (at : ℕ) → n < 2 ^ 32 → Stands b at (word4 n) → be 4 b at ≡ n
word_read n b at h s = be-read 4 n b at h s

-- ---- the same bytes give the same words and sums
le_same : (k : ℕ) (b c : List ℕ) (at to : ℕ) → ((i : ℕ) → i < k → byte_at b (at + i) ≡ byte_at c (to + i)) → le k b at ≡ le k c to
unfolding le
le_same zero b c at to h = refl
le_same (suc k) b c at to h =
    let e : le k b (at + 1) ≡ le k c (to + 1) =
    le_same k b c (at + 1) (to + 1)
    (λ i l.
    let x : at + 1 + i ≡ at + (1 + i) = omega arith in
    let y : to + 1 + i ≡ to + (1 + i) = omega arith in
    rw (x, y) (h (1 + i) (omega arith))) in
    let f : byte_at b at ≡ byte_at c to = ap (byte_at b) (sym (add-zero at)) ∙ h 0 (omega arith) ∙ ap (byte_at c) (add-zero to) in
    omega arith

word_same : (big : Bool) (b c : List ℕ) (at to : ℕ) → ((i : ℕ) → i < 4 → byte_at b (at + i) ≡ byte_at c (to + i)) → word_at big b at ≡ word_at big c to
word_same true b c at to h = be-same 4 b c at to h
word_same false b c at to h = le_same 4 b c at to h

pub sums_same : (big : Bool) (b c : List ℕ) (at to n : ℕ) (s : Sums) → ((i : ℕ) → i < 8 * n → byte_at b (at + i) ≡ byte_at c (to + i))
    → sums_over big b at n s ≡ sums_over big c to n s
unfolding sums_over
sums_same big b c at to zero s h = refl
sums_same big b c at to (suc k) s h =
    let e : sums_over big b at k s ≡ sums_over big c to k s = sums_same big b c at to k s (λ i l. h i (omega arith)) in
    let f : word_at big b (at + 8 * k) ≡ word_at big c (to + 8 * k) =
    word_same big b c (at + 8 * k) (to + 8 * k)
    (λ i l.
    let x : at + 8 * k + i ≡ at + (8 * k + i) = omega arith in
    let y : to + 8 * k + i ≡ to + (8 * k + i) = omega arith in
    rw (x, y) (h (8 * k + i) (omega arith))) in
    let g : word_at big b (at + 8 * k + 4) ≡ word_at big c (to + 8 * k + 4) =
    word_same big b c (at + 8 * k + 4) (to + 8 * k + 4)
    (λ i l.
    let x : at + 8 * k + 4 + i ≡ at + (8 * k + 4 + i) = omega arith in
    let y : to + 8 * k + 4 + i ≡ to + (8 * k + 4 + i) = omega arith in
    rw (x, y) (h (8 * k + 4 + i) (omega arith))) in
    rw (e, f, g) refl

-- the sums over what stands there
pub sums-stand : (big : Bool) (b : List ℕ) (at : ℕ) (l : List ℕ) (n : ℕ) (s : Sums) → 8 * n ≤ length l → Stands b at l
    → sums_over big b at n s ≡ sums_over big l 0 n s
sums-stand big b at l n s h st = sums_same big b l at 0 n s (λ i k. rw zero-add (st i (omega arith)))

-- sums are of 32 bits
abbrev pub Low : Sums → Type 0
Low s = (s.0 < 2 ^ 32) × (s.1 < 2 ^ 32)

pub sums-low : (big : Bool) (b : List ℕ) (at n : ℕ) (s : Sums) → Low s → Low (sums_over big b at n s)
unfolding sums_over
sums-low big b at zero s h = h
sums-low big b at (suc k) s h = (omega arith, omega arith)

pub one-low : (big : Bool) (b : List ℕ) (at : ℕ) (s : Sums) → Low (sums_over big b at 1 s)
unfolding sums_over
one-low big b at s = (omega arith, omega arith)
