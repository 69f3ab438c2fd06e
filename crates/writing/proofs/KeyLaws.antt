-- An interior page's cells, laid child by child, as LeafLaws has it of rows.
--     KeysLeft, keys-start, keys-turn, keys_on, keys-end     what is left of them
-- Assumes nothing.
use Prim.Native.Nat.{ℕ, zero, suc, ◌+◌, ◌-◌, ◌*◌, ◌^◌, ◌<◌, ◌≤◌}
use mathlib.Core.Path.{◌≡◌, refl, sym, ap, ◌∙◌, subst}
use mathlib.Core.List.{List, [], ◌∷◌}
use native.Mathlib.Omega.{arith}
use lib.ListN.{length, get_or, length-append}
use Rattle.number.specs.Varint.{varint_size, spelling}
use Rattle.number.proofs.SpellingLaws.{varint-size, spelling-length}
use Rattle.paging.specs.Pages.{over}
use Rattle.paging.proofs.PagesLaws.{length_over}
use Rattle.writing.specs.Cells.{be_bytes}
use Rattle.writing.specs.Pages.{joined, start_of}
use Rattle.writing.specs.Layout.{size}
use Rattle.writing.specs.Given.{cells_laid, key_bytes, keys_from}
use Rattle.writing.proofs.Standing.{be-length}
use Rattle.writing.proofs.SideBySide.{joined_length}
use Rattle.writing.proofs.OverLaws.{two-laid}
use Rattle.writing.proofs.CellsLaid.{cells-on, cells-none}

pub key-length : (child bits : ℕ) → length (key_bytes child bits) ≡ 4 + varint_size bits
key-length child bits =
    let z = varint-size bits in
    length-append (be_bytes 4 child) (spelling (varint_size bits) bits)
    ∙ omega (arith, be-length 4 child, spelling-length (varint_size bits) bits z.0 z.1)

-- ---- one child, by the code: the pointer, the child's number, its key
module _ (o o₁ o₂ o₃ : List ℕ) (page k at child bits r : ℕ)
    (room : (page + 1024 ≤ length o) × (12 + 2 * k + 2 ≤ at) × (at + 4 + varint_size bits ≤ 1024))
    (a : o₁ ≡ over o (page + 12 + 2 * k) (be_bytes 2 at)) (b : o₂ ≡ over o₁ (page + at) (be_bytes 4 child))
    (c : (r ≡ page + at + 4 + varint_size bits) × (o₃ ≡ over o₂ (page + at + 4) (spelling (varint_size bits) bits))) where
  pub key-laid : (r - page ≡ at + 4 + varint_size bits) × (o₃ ≡ over (over o (page + 12 + 2 * k) (be_bytes 2 at)) (page + at) (key_bytes child bits))
  key-laid =
      let z = varint-size bits in
      let s = spelling-length (varint_size bits) bits z.0 z.1 in
      let l : length o₁ ≡ length o = ap length a ∙ length_over o (page + 12 + 2 * k) (be_bytes 2 at) (omega (arith, be-length 2 at)) in (
        omega (arith, c.0),
        two-laid o₁ o₂ o₃ (page + at) (page + at + 4) (be_bytes 4 child) (spelling (varint_size bits) bits) b
            (omega (arith, be-length 4 child)) c.1 (omega arith)
            ∙ ap (λ x. over x (page + at) (key_bytes child bits)) a,
      )

-- ---- what is left
pub keys_none : (keys : List ℕ) (i t : ℕ) → keys_from keys 0 i t ≡ []
unfolding keys_from
keys_none keys i t = refl

pub keys-more : (keys : List ℕ) (m i t : ℕ) → keys_from keys (suc m) i t ≡ key_bytes t (get_or keys i 0) ∷ keys_from keys m (i + 1) (t + 1)
unfolding keys_from
keys-more keys m i t = refl

pub keys-count : (keys : List ℕ) (m i t : ℕ) → length (keys_from keys m i t) ≡ m
unfolding keys_from
keys-count keys zero i t = refl
keys-count keys (suc m) i t = ap suc (keys-count keys m (i + 1) (t + 1))

pub record KeysLeft (target : List ℕ) (room : ℕ) (keys : List ℕ) (page : ℕ) (now : List ℕ) (k m j at next : ℕ) : Type 0 where
  pub same : length now ≡ room
  pub place : at + length (joined (keys_from keys m j next)) ≡ size
  pub low : 12 + 2 * (k + m) ≤ at
  pub pages : next + m < 2 ^ 32
  pub is : cells_laid now (page + 12 + 2 * k) (page + at) (keys_from keys m j next) ≡ target

module _ (target : List ℕ) (room : ℕ) (keys : List ℕ) (page : ℕ) (now : List ℕ) (k count i at next : ℕ)
    (whole : page + size ≤ room) (less : k < count)
    (left : KeysLeft target room keys page now k (count - k) (i + k) at next) where
  abbrev bits : ℕ
  bits = get_or keys (i + k) 0

  abbrev rest : List (List ℕ)
  rest = keys_from keys (count - (k + 1)) (i + k + 1) (next + 1)

  all-is : keys_from keys (count - k) (i + k) next ≡ key_bytes next bits ∷ rest
  all-is = let e : count - k ≡ suc (count - (k + 1)) = omega arith in
      ap (λ m. keys_from keys m (i + k) next) e ∙ keys-more keys (count - (k + 1)) (i + k) next

  length_is : length (joined (keys_from keys (count - k) (i + k) next)) ≡ 4 + varint_size bits + length (joined rest)
  length_is = ap (λ x. length (joined x)) all-is ∙ joined_length (key_bytes next bits) rest ∙ ap (λ n. n + length (joined rest)) (key-length next bits)

  pub keys-turn : (page + 1024 ≤ length now) × (12 + 2 * k + 2 ≤ at) × (at + 4 + varint_size bits ≤ 1024)
  keys-turn = (omega (arith, left.same), omega (arith, left.low), omega (arith, left.place, length_is))

  pub keys_on : (now' : List ℕ) (at' : ℕ)
      → (at' ≡ at + 4 + varint_size bits) × (now' ≡ over (over now (page + 12 + 2 * k) (be_bytes 2 at)) (page + at) (key_bytes next bits))
      → KeysLeft target room keys page now' (k + 1) (count - (k + 1)) (i + (k + 1)) at' (next + 1)
  keys_on now' at' e =
      let j : i + k + 1 ≡ i + (k + 1) = omega arith in
      let kl = key-length next bits in
      let t = keys-turn in
      let rc = keys-count keys (count - (k + 1)) (i + k + 1) (next + 1) in
      let s : at ≡ start_of size (key_bytes next bits ∷ rest) = omega (arith, left.place, length_is, joined_length (key_bytes next bits) rest) in
      let pl : length (over now (page + 12 + 2 * k) (be_bytes 2 at)) ≡ length now =
      length_over now (page + 12 + 2 * k) (be_bytes 2 at) (omega (arith, be-length 2 at, t)) in
      let nl : length now' ≡ room = ap length e.1 ∙ length_over (over now (page + 12 + 2 * k) (be_bytes 2 at)) (page + at)
      (key_bytes next bits) (omega (arith, t)) ∙ pl ∙ left.same in
      let laid : cells_laid now' (page + 12 + 2 * (k + 1)) (page + at') rest ≡ target =
      ap (λ x. cells_laid x (page + 12 + 2 * (k + 1)) (page + at') rest) e.1
      ∙ cells-on now (page + 12 + 2 * k) (page + at) at (page + 12 + 2 * (k + 1)) (page + at') (key_bytes next bits) rest s (omega arith)
      (omega (arith, e.0))
      (omega (arith, left.low)) (omega (arith, left.place, left.same, length_is, joined_length (key_bytes next bits) rest))
      ∙ ap (cells_laid now (page + 12 + 2 * k) (page + at)) (sym all-is) ∙ left.is in
      subst (λ x. KeysLeft target room keys page now' (k + 1) (count - (k + 1)) x at' (next + 1)) j
      (record {
        same = nl;
        place = omega (arith, left.place, length_is, e.0);
        low = omega (arith, left.low, e.0, t);
        pages = omega (arith, left.pages);
        is = laid;
      })

pub keys-end : (target : List ℕ) (room : ℕ) (keys : List ℕ) (page : ℕ) (now : List ℕ) (k m j at next : ℕ) → m ≡ 0
    → KeysLeft target room keys page now k m j at next → now ≡ target
keys-end target room keys page now k m j at next z left =
    let e : keys_from keys m j next ≡ [] = ap (λ x. keys_from keys x j next) z ∙ keys_none keys j next in
    sym (cells-none now (page + 12 + 2 * k) (page + at)) ∙ ap (cells_laid now (page + 12 + 2 * k) (page + at)) (sym e) ∙ left.is
