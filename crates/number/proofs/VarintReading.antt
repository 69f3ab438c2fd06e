-- Reading a varint: what its length says of its bits, which bytes it looks at, and how a spelling is read.
use Rattle.std.proofs.Common.{◌≡◌, ℕ, zero, suc, ◌+◌, ◌-◌, ◌*◌, ◌/◌, ◌%◌, ◌^◌, ◌<◌, ◌≤◌, ◌⊎◌, List, [], ◌∷◌, ◌++◌, length, get_or, sym, refl, ap, ◌∙◌, subst, inl, inr, ⊎_elim, add-zero, pow-suc, arith, length-append, get_or-append-add}
use lib.ListN.{get_or-append}
use lib.Seq.{get_or_at}
use Rattle.number.proofs.Cases.{lt-or-ge}
use Rattle.number.proofs.VarintSteps.{word_none, word-short, word-ninth, word-last, word_on, sevens-le, sevens-more}
use Rattle.number.proofs.VarintLaws.{word-induction}
use Rattle.number.proofs.SpellingLaws.{size-end, size-done, size-more, size-bounds, groups-length, spelling-nine, spelling-under}
use Rattle.number.specs.Bytes.{byte_at}
use Rattle.number.specs.Varint.{word_is, short_word, word_from, size_from, varint_size, groups, spelling}
use Rattle.number.specs.declared.Word.{Word}

-- a varint of fewer than nine bytes has 7 bits a byte

module _ (b : List ℕ) (stop : ℕ) (bytes : (i : ℕ) → byte_at b i < 256) where
  abbrev Sevens : (left at n bits : ℕ) → Word → Type 0
  Sevens left at n bits w = n + left ≡ 9 → bits < 128 ^ n → w.length < 9 → w.bits < 128 ^ w.length

  pub word-sevens : (left at n bits : ℕ) → Sevens left at n bits (word_from left b stop at n bits)
  word-sevens =
      word-induction b stop Sevens
      (λ left at n bits z e s l. omega arith)
      (λ at n bits h e s l. absurd (omega arith))
      (λ left at n bits h k e s l. sevens-more n bits (byte_at b at) s k)
      (λ left at n bits w h k f e s l. f (omega arith) (sevens-more n bits (byte_at b at - 128) s (omega (arith, bytes at))) l)

-- bits are not lost: each byte more moves them up by 7 bits, the ninth by 8

module _ (b : List ℕ) (stop : ℕ) where
  abbrev pub Over : (left at n bits : ℕ) → Word → Type 0
  Over left at n bits w = (w ≡ short_word) ⊎ ((n < w.length) × ((j : ℕ) → 128 ^ j ≤ bits → 128 ^ (j + (w.length - n)) ≤ w.bits))

  pub word_over : (left at n bits : ℕ) → Over left at n bits (word_from left b stop at n bits)
  word_over =
      word-induction b stop Over
      (λ left at n bits z. inl refl)
      (λ at n bits h. inr (omega arith, λ j k. let e : j + (n + 1 - n) ≡ suc j = omega arith in rw e (omega (arith, pow-suc 128 j))))
      (λ left at n bits h l. inr (omega arith, λ j k. let e : j + (n + 1 - n) ≡ suc j = omega arith in rw e (omega (arith, pow-suc 128 j))))
      (λ left at n bits w h l.
      ⊎_elim (λ e. inl e)
      (λ f. inr (
        omega (arith, f.0),
        λ j k.
            let e : suc j + (w.length - (n + 1)) ≡ j + (w.length - n) = omega (arith, f.0) in
            subst (λ (i : ℕ). 128 ^ i ≤ w.bits) e (f.1 (suc j) (omega (arith, pow-suc 128 j))),
      )))

-- the size says how large the bits are

pub fits-size : (left m r d : ℕ) → r < 128 ^ suc d → size_from left m r ≤ m + d
fits-size zero m r d h = omega (arith, size-end m r)
fits-size (suc left) m r zero h = omega (arith, size-done left m r (omega (arith, pow-suc 128 0)))
fits-size (suc left) m r (suc e) h =
    ⊎_elim
    (λ (l : r < 128). omega (arith, size-done left m r l))
    (λ (g : 128 ≤ r).
    let k : r / 128 < 128 ^ suc e = omega (arith, pow-suc 128 (suc e)) in
    omega (arith, size-more left m r g, fits-size left (m + 1) (r / 128) e k))
    (lt-or-ge r 128)

pub size_fits : (left m r n : ℕ) → size_from left m r ≤ n → n < m + left → r < 128 ^ suc (n - m)
size_fits zero m r n h l = absurd (omega (arith, size-end m r))
size_fits (suc left) m r n h l =
    ⊎_elim
    (λ (k : r < 128). omega (arith, sevens-le 1 (suc (n - m)) (omega arith)))
    (λ (g : 128 ≤ r).
    let s : size_from left (m + 1) (r / 128) ≤ n = omega (arith, size-more left m r g) in
    let e : suc (n - (m + 1)) ≡ n - m = omega (arith, size-bounds left (m + 1) (r / 128)) in
    let f : r / 128 < 128 ^ (n - m) = subst (λ (k : ℕ). r / 128 < 128 ^ k) e (size_fits left (m + 1) (r / 128) n s (omega arith)) in
    omega (arith, pow-suc 128 (n - m)))
    (lt-or-ge r 128)

-- two lists that agree where one is read

module _ (b c : List ℕ) (stop stop' : ℕ) where
  here-at : (at to : ℕ) → byte_at c (to + 0) ≡ byte_at b (at + 0) → byte_at c to ≡ byte_at b at
  here-at at to e = rw (add-zero to, add-zero at) at e

  next-at : (at to i : ℕ) → byte_at c (to + (i + 1)) ≡ byte_at b (at + (i + 1)) → byte_at c (to + 1 + i) ≡ byte_at b (at + 1 + i)
  next-at at to i e =
      let p : to + 1 + i ≡ to + (i + 1) = omega arith in
      let q : at + (i + 1) ≡ at + 1 + i = omega arith in
      ap (byte_at c) p ∙ e ∙ ap (byte_at b) q

  -- on the bytes of the varint
  abbrev Own : (left at n bits : ℕ) → Word → Type 0
  Own left at n bits w =
      ((w.length ≡ 0) ⊎ (n < w.length))
      × ((to : ℕ) → 0 < w.length → ((i : ℕ) → i + n < w.length → byte_at c (to + i) ≡ byte_at b (at + i)) → to + w.length ≤ stop' + n
      → word_from left c stop' to n bits ≡ w)

  pub word-own : (left at n bits : ℕ) → Own left at n bits (word_from left b stop at n bits)
  word-own =
      word-induction b stop Own
      (λ left at n bits z. (inl refl, λ to h a r. absurd (omega arith)))
      (λ at n bits h. (
        inr (omega arith),
        λ to k a r.
            sym (word-ninth c stop' to n bits (omega arith))
            ∙ ap (λ (y : ℕ). word_is (n + 1) (bits * 256 + y)) (here-at at to (a 0 (omega arith))),
      ))
      (λ left at n bits h l. (
        inr (omega arith),
        λ to k a r.
            let e : byte_at c to ≡ byte_at b at = here-at at to (a 0 (omega arith)) in
            sym (word-last left c stop' to n bits (omega arith) (omega (arith, e)))
            ∙ ap (λ (y : ℕ). word_is (n + 1) (bits * 128 + y)) e,
      ))
      (λ left at n bits w h l f. (
        ⊎_elim (λ z. inl z) (λ g. inr (omega arith)) f.0,
        λ to k a r.
            let g : n + 1 < w.length = ⊎_elim (λ z. absurd (omega arith)) (λ g. g) f.0 in
            let e : byte_at c to ≡ byte_at b at = here-at at to (a 0 (omega arith)) in
            sym (word_on left c stop' to n bits (omega arith) (omega (arith, e)))
            ∙ ap (λ (y : ℕ). word_from (suc left) c stop' (to + 1) (n + 1) (bits * 128 + (y - 128))) e
            ∙ f.1 (to + 1) k (λ i m. next-at at to i (a (i + 1) (omega arith))) (omega arith),
      ))

  -- on all that may be read
  abbrev All : (left at n bits : ℕ) → Word → Type 0
  All left at n bits w =
      (to : ℕ) → to + stop ≡ at + stop' → ((i : ℕ) → at + i < stop → byte_at c (to + i) ≡ byte_at b (at + i))
      → word_from left c stop' to n bits ≡ w

  pub word-all : (left at n bits : ℕ) → All left at n bits (word_from left b stop at n bits)
  word-all =
      word-induction b stop All
      (λ left at n bits z to m a.
      ⊎_elim
      (λ (e : left ≡ 0). ap (λ (l : ℕ). word_from l c stop' to n bits) e ∙ sym (word_none c stop' to n bits))
      (λ (h : stop ≤ at). sym (word-short left c stop' to n bits (omega arith)))
      z)
      (λ at n bits h to m a.
      sym (word-ninth c stop' to n bits (omega arith))
      ∙ ap (λ (y : ℕ). word_is (n + 1) (bits * 256 + y)) (here-at at to (a 0 (omega arith))))
      (λ left at n bits h l to m a.
      let e : byte_at c to ≡ byte_at b at = here-at at to (a 0 (omega arith)) in
      sym (word-last left c stop' to n bits (omega arith) (omega (arith, e)))
      ∙ ap (λ (y : ℕ). word_is (n + 1) (bits * 128 + y)) e)
      (λ left at n bits w h l f to m a.
      let e : byte_at c to ≡ byte_at b at = here-at at to (a 0 (omega arith)) in
      sym (word_on left c stop' to n bits (omega arith) (omega (arith, e)))
      ∙ ap (λ (y : ℕ). word_from (suc left) c stop' (to + 1) (n + 1) (bits * 128 + (y - 128))) e
      ∙ f (to + 1) (omega arith) (λ i g. next-at at to i (a (i + 1) (omega arith))))

-- a spelling, where it stands in a list

abbrev pub Stands : List ℕ → (at : ℕ) → List ℕ → Type 0
Stands b at l = (i : ℕ) → i < length l → byte_at b (at + i) ≡ get_or l i 0

pub stands-joined : (front l tail : List ℕ) → Stands (front ++ (l ++ tail)) (length front) l
stands-joined front l tail i h = get_or-append-add front (l ++ tail) i 0 ∙ get_or-append l tail 0 i h

stands-front : (b : List ℕ) (at : ℕ) (l : List ℕ) (y : ℕ) → Stands b at (l ++ (y ∷ [])) → Stands b at l
stands-front b at l y s i h = s i (rw length-append (omega arith)) ∙ get_or-append l (y ∷ []) 0 i h

stands-last : (b : List ℕ) (at n : ℕ) (l : List ℕ) (y : ℕ) → length l ≡ n → Stands b at (l ++ (y ∷ [])) → byte_at b (at + n) ≡ y
stands-last b at n l y e s = s n (rw length-append (omega arith)) ∙ get_or_at l y [] 0 n e

-- k groups are passed
pub groups-read : (k x : ℕ) (b : List ℕ) (stop at n left : ℕ) → Stands b at (groups k x) → at + k ≤ stop → x < 128 ^ k
    → word_from (k + suc left) b stop at n 0 ≡ word_from (suc left) b stop (at + k) (n + k) x
unfolding groups
groups-read zero x b stop at n left s h l =
    let e : 0 + suc left ≡ suc left = omega arith in
    let p : at ≡ at + 0 = omega arith in
    let q : n ≡ n + 0 = omega arith in
    let z : 0 ≡ x = omega arith in
    cc
groups-read (suc k) x b stop at n left s h l =
    let y : byte_at b (at + k) ≡ x % 128 + 128 = stands-last b at k (groups k (x / 128)) (x % 128 + 128) (groups-length k (x / 128)) s in
    let r : word_from (k + suc (suc left)) b stop at n 0 ≡ word_from (suc (suc left)) b stop (at + k) (n + k) (x / 128) =
    groups-read k (x / 128) b stop at n (suc left) (stands-front b at (groups k (x / 128)) (x % 128 + 128) s) (omega arith) (omega (arith, pow-suc 128 k)) in
    let o : word_from (suc left) b stop (at + k + 1) (n + k + 1) (x / 128 * 128 + (byte_at b (at + k) - 128))
    ≡ word_from (suc (suc left)) b stop (at + k) (n + k) (x / 128) = word_on left b stop (at + k) (n + k) (x / 128) (omega arith) (omega (arith, y)) in
    let e : suc k + suc left ≡ k + suc (suc left) = omega arith in
    let p : at + k + 1 ≡ at + suc k = omega arith in
    let q : n + k + 1 ≡ n + suc k = omega arith in
    let z : x / 128 * 128 + (byte_at b (at + k) - 128) ≡ x = omega (arith, y) in
    cc

-- the spelling in n bytes is read in n bytes
pub spelling-read : (n bits : ℕ) (b : List ℕ) (stop at : ℕ) → Stands b at (spelling n bits) → at + n ≤ stop → 1 ≤ n → n ≤ 9 → varint_size bits ≤ n
    → bits < 2 ^ 64
    → word_from 9 b stop at 0 0 ≡ word_is n bits
spelling-read n bits b stop at s h low high z w = ⊎_elim under nine (lt-or-ge n 9)
  where
    under : n < 9 → word_from 9 b stop at 0 0 ≡ word_is n bits
    under u =
        let t : Stands b at (groups (n - 1) (bits / 128) ++ ((bits % 128) ∷ [])) = subst (Stands b at) (spelling-under n bits u) s in
        let y : byte_at b (at + (n - 1)) ≡ bits % 128 =
        stands-last b at (n - 1) (groups (n - 1) (bits / 128)) (bits % 128) (groups-length (n - 1) (bits / 128)) t in
        let m : bits < 128 ^ suc (n - 1) = size_fits 8 1 bits n z (omega arith) in
        let r =
        groups-read (n - 1) (bits / 128) b stop at 0 (9 - n) (stands-front b at (groups (n - 1) (bits / 128)) (bits % 128) t) (omega arith)
        (omega (arith, pow-suc 128 (n - 1))) in
        let d : suc (9 - n) ≡ suc (suc (8 - n)) = omega arith in
        let e : 9 ≡ n - 1 + suc (9 - n) = omega arith in
        let o = word-last (8 - n) b stop (at + (n - 1)) (0 + (n - 1)) (bits / 128) (omega arith) (omega (arith, y)) in
        let p : 0 + (n - 1) + 1 ≡ n = omega arith in
        let q : bits / 128 * 128 + byte_at b (at + (n - 1)) ≡ bits = omega (arith, y) in
        cc

    nine : 9 ≤ n → word_from 9 b stop at 0 0 ≡ word_is n bits
    nine g =
        let k : n ≡ 9 = omega arith in
        let t : Stands b at (groups 8 (bits / 256) ++ ((bits % 256) ∷ [])) = subst (Stands b at) (ap (λ (j : ℕ). spelling j bits) k ∙ spelling-nine bits) s in
        let y : byte_at b (at + 8) ≡ bits % 256 = stands-last b at 8 (groups 8 (bits / 256)) (bits % 256) (groups-length 8 (bits / 256)) t in
        let r : word_from 9 b stop at 0 0 ≡ word_from 1 b stop (at + 8) 8 (bits / 256) =
        groups-read 8 (bits / 256) b stop at 0 0 (stands-front b at (groups 8 (bits / 256)) (bits % 256) t) (omega arith) (omega arith) in
        let o : word_is 9 (bits / 256 * 256 + byte_at b (at + 8)) ≡ word_from 1 b stop (at + 8) 8 (bits / 256) =
        word-ninth b stop (at + 8) 8 (bits / 256) (omega arith) in
        let q : bits / 256 * 256 + byte_at b (at + 8) ≡ bits = omega (arith, y) in
        cc
