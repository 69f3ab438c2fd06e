-- How many bytes a varint takes, and laying its spelling over lent bytes.
use Rattle.std.proofs.Common.{◌≡◌, ℕ, zero, suc, ◌+◌, ◌-◌, ◌/◌, ◌%◌, ◌<◌, ◌≤◌, Bool, true, false, cond, ltb, List, [], ◌∷◌, ◌++◌, length, get_or, drop, set, sym, refl, ap, ◌∙◌, ⊎_elim, add-one, arith, length-append, length-set, drop-cons, get_or-set_same, drop-set-lt, le-ltb, lt-ltb, ne_eqb}
use lib.Seq.{set_at, append_snoc}
use Rattle.number.proofs.Cases.{lt-or-ge}
use Rattle.std.specs.Int.{from_bool}
use Rattle.number.specs.Varint.{size_from, varint_size, long_of, groups, spelling}
use Rattle.number.specs.declared.Word.{Word}

-- the size, step by step

pub size-end : (n bits : ℕ) → n ≡ size_from 0 n bits
unfolding size_from
size-end n bits = refl

pub size-done : (left n bits : ℕ) → bits < 128 → n ≡ size_from (suc left) n bits
unfolding size_from
size-done left n bits h = simp (lt-ltb bits 128 h)

pub size-more : (left n bits : ℕ) → 128 ≤ bits → size_from left (n + 1) (bits / 128) ≡ size_from (suc left) n bits
unfolding size_from
size-more left n bits h = simp (le-ltb bits 128 h)

pub size-bounds : (left n bits : ℕ) → (n ≤ size_from left n bits) × (size_from left n bits ≤ n + left)
size-bounds zero n bits = omega (arith, size-end n bits)
size-bounds (suc left) n bits =
    ⊎_elim
    (λ (h : bits < 128). omega (arith, size-done left n bits h))
    (λ (h : 128 ≤ bits). omega (arith, size-more left n bits h, size-bounds left (n + 1) (bits / 128)))
    (lt-or-ge bits 128)

-- 1 to 9 bytes
pub varint-size : (bits : ℕ) → (1 ≤ varint_size bits) × (varint_size bits ≤ 9)
varint-size bits = size-bounds 8 1 bits

-- one byte, two bytes, more
pub size-one : (bits : ℕ) → bits < 128 → varint_size bits ≡ 1
size-one bits h = sym (size-done 7 1 bits h)

pub size-over-one : (bits : ℕ) → 128 ≤ bits → 2 ≤ varint_size bits
size-over-one bits h = omega (arith, size-more 7 1 bits h, size-bounds 7 (1 + 1) (bits / 128))

pub size-two : (bits : ℕ) → 128 ≤ bits → bits < 16384 → varint_size bits ≡ 2
size-two bits h l = omega (arith, size-more 7 1 bits h, size-done 6 (1 + 1) (bits / 128) (omega arith))

-- whether a number is spelled long, by the length of its spelling

pub long-none : (w : Word) → w.length < 2 → false ≡ ltb (varint_size w.bits) w.length
long-none w h = sym (le-ltb (varint_size w.bits) w.length (omega (arith, varint-size w.bits)))

pub long-two : (w : Word) → w.length ≡ 2 → ltb w.bits 128 ≡ ltb (varint_size w.bits) w.length
long-two w e =
    ⊎_elim
    (λ (h : w.bits < 128). lt-ltb w.bits 128 h ∙ sym (lt-ltb (varint_size w.bits) w.length (omega (arith, size-one w.bits h))))
    (λ (h : 128 ≤ w.bits). le-ltb w.bits 128 h ∙ sym (le-ltb (varint_size w.bits) w.length (omega (arith, size-over-one w.bits h))))
    (lt-or-ge w.bits 128)

pub long-told : (w : Word) (t : Bool) → t ≡ ltb (varint_size w.bits) w.length → from_bool t ≡ long_of w
long-told w t e = byte t ∙ ap (λ (u : Bool). cond u 1 0) e
  where
    byte : (u : Bool) → from_bool u ≡ cond u 1 0
    byte true = refl
    byte false = refl

-- where the search for the size stands at n
pub record Sizing (bits n rest : ℕ) : Type 0 where
  pub low : 1 ≤ n
  pub high : n ≤ 9
  pub size : varint_size bits ≡ size_from (9 - n) n rest

module _ {bits n rest : ℕ} (s : Sizing bits n rest) where
  pub sizing-done : n < 9 → rest < 128 → n ≡ varint_size bits
  sizing-done h l =
      let e : suc (8 - n) ≡ 9 - n = omega arith in
      size-done (8 - n) n rest l ∙ ap (λ (k : ℕ). size_from k n rest) e ∙ sym s.size

  pub sizing-more : n < 9 → 128 ≤ rest → Sizing bits (n + 1) (rest / 128)
  sizing-more h l =
      let e : suc (8 - n) ≡ 9 - n = omega arith in
      let d : 8 - n ≡ 9 - (n + 1) = omega arith in
      record {
        low = omega arith;
        high = omega arith;
        size =
            s.size ∙ ap (λ (k : ℕ). size_from k n rest) (sym e) ∙ sym (size-more (8 - n) n rest l)
            ∙ ap (λ (k : ℕ). size_from k (n + 1) (rest / 128)) d;
      }

  pub sizing-ends : 9 ≤ n → 9 ≡ varint_size bits
  sizing-ends h =
      let e : 9 ≡ n = omega (arith, s.high) in
      let d : 0 ≡ 9 - n = omega arith in
      e ∙ size-end n rest ∙ ap (λ (k : ℕ). size_from k n rest) d ∙ sym s.size

-- the spelling

pub groups-length : (n bits : ℕ) → length (groups n bits) ≡ n
unfolding groups
groups-length zero bits = refl
groups-length (suc n) bits =
    length-append (groups n (bits / 128)) ((bits % 128 + 128) ∷ []) ∙ ap (λ (k : ℕ). k + 1) (groups-length n (bits / 128)) ∙ add-one n

pub spelling-nine : (bits : ℕ) → spelling 9 bits ≡ groups 8 (bits / 256) ++ ((bits % 256) ∷ [])
unfolding spelling
spelling-nine bits = refl

pub spelling-under : (n bits : ℕ) → n < 9 → spelling n bits ≡ groups (n - 1) (bits / 128) ++ ((bits % 128) ∷ [])
unfolding spelling
spelling-under n bits h = simp (ne_eqb n 9 (λ e. omega arith))

snoc-length : (p : List ℕ) (x n : ℕ) → length p ≡ n → length (p ++ (x ∷ [])) ≡ n + 1
snoc-length p x n e = length-append p (x ∷ []) ∙ ap (λ (k : ℕ). k + 1) e

pub spelling-length : (n bits : ℕ) → 1 ≤ n → n ≤ 9 → length (spelling n bits) ≡ n
spelling-length n bits h l =
    ⊎_elim
    (λ (u : n < 9).
    let e : n - 1 + 1 ≡ n = omega arith in
    ap length (spelling-under n bits u) ∙ snoc-length (groups (n - 1) (bits / 128)) (bits % 128) (n - 1) (groups-length (n - 1) (bits / 128)) ∙ e)
    (λ (g : 9 ≤ n).
    let e : n ≡ 9 = omega arith in
    ap (λ (k : ℕ). length (spelling k bits)) e ∙ ap length (spelling-nine bits)
    ∙ snoc-length (groups 8 (bits / 256)) (bits % 256) 8 (groups-length 8 (bits / 256)) ∙ sym e)
    (lt-or-ge n 9)

-- a byte laid at n
pub lay-byte : (p out : List ℕ) (x n : ℕ) → n < length out → p ++ drop n (set out n x) ≡ (p ++ (x ∷ [])) ++ drop (suc n) out
lay-byte p out x n h =
    let l : n < length (set out n x) = simp length-set h in
    ap (λ (t : List ℕ). p ++ t)
    (drop-cons (set out n x) n 0 l
    ∙ ap (λ (y : ℕ). y ∷ drop (suc n) (set out n x)) (get_or-set_same out n x 0 h)
    ∙ ap (λ (t : List ℕ). x ∷ t) (drop-set-lt (suc n) out n x (omega arith)))
    ∙ sym (append_snoc p x (drop (suc n) out))

-- the groups still to lay, and what is laid
pub groups-step : (i rest : ℕ) (out : List ℕ) → 0 < i → i ≤ length out
    → groups i rest ++ drop i out ≡ groups (i - 1) (rest / 128) ++ drop (i - 1) (set out (i - 1) (rest % 128 + 128))
unfolding groups
groups-step zero rest out h l = absurd (omega arith)
groups-step (suc j) rest out h l =
    let e : suc j - 1 ≡ j = omega arith in
    rw e (sym (lay-byte (groups j (rest / 128)) out (rest % 128 + 128) j (omega arith)))

-- no group is left
pub groups-laid : (i rest : ℕ) (out : List ℕ) → i ≤ 0 → out ≡ groups i rest ++ drop i out
unfolding groups
groups-laid zero rest out h = refl
groups-laid (suc i) rest out h = absurd (omega arith)

-- the last byte, laid behind its groups
pub lay-end : (p out : List ℕ) (x n : ℕ) → length p ≡ n → n < length out → set (p ++ drop n out) n x ≡ (p ++ (x ∷ [])) ++ drop (n + 1) out
lay-end p out x n e h =
    ap (λ (t : List ℕ). set (p ++ t) n x) (drop-cons out n 0 h)
    ∙ set_at p (get_or out n 0) (drop (suc n) out) x n e
    ∙ sym (append_snoc p x (drop (suc n) out))
    ∙ ap (λ (k : ℕ). (p ++ (x ∷ [])) ++ drop k out) (sym (add-one n))

module _ (n bits : ℕ) (out : List ℕ) (low : 1 ≤ n) (room : n ≤ length out) (mid : List ℕ) where
  pub laid-nine : n ≡ 9 → mid ≡ groups (n - 1) (bits / 256) ++ drop (n - 1) out → set mid (n - 1) (bits % 256) ≡ spelling n bits ++ drop n out
  laid-nine k m =
      let e : n - 1 + 1 ≡ n = omega arith in
      let d : n - 1 ≡ 8 = omega arith in
      ap (λ (t : List ℕ). set t (n - 1) (bits % 256)) m
      ∙ lay-end (groups (n - 1) (bits / 256)) out (bits % 256) (n - 1) (groups-length (n - 1) (bits / 256)) (omega arith)
      ∙ ap (λ (j : ℕ). (groups (n - 1) (bits / 256) ++ ((bits % 256) ∷ [])) ++ drop j out) e
      ∙ ap (λ (j : ℕ). (groups j (bits / 256) ++ ((bits % 256) ∷ [])) ++ drop n out) d
      ∙ ap (λ (t : List ℕ). t ++ drop n out) (sym (spelling-nine bits))
      ∙ ap (λ (j : ℕ). spelling j bits ++ drop n out) (sym k)

  pub laid-under : n < 9 → mid ≡ groups (n - 1) (bits / 128) ++ drop (n - 1) out → set mid (n - 1) (bits % 128) ≡ spelling n bits ++ drop n out
  laid-under u m =
      let e : n - 1 + 1 ≡ n = omega arith in
      ap (λ (t : List ℕ). set t (n - 1) (bits % 128)) m
      ∙ lay-end (groups (n - 1) (bits / 128)) out (bits % 128) (n - 1) (groups-length (n - 1) (bits / 128)) (omega arith)
      ∙ ap (λ (k : ℕ). (groups (n - 1) (bits / 128) ++ ((bits % 128) ∷ [])) ++ drop k out) e
      ∙ ap (λ (t : List ℕ). t ++ drop n out) (sym (spelling-under n bits u))
