-- Laws of bytes laid over others, one part behind the other.
--     over-on, over-over     two parts side by side are laid as one
--     half-bytes, word-bytes    a number's bytes as the language has them
-- Assumes nothing.
use Prim.Native.Nat.{ℕ, ◌+◌, ◌/◌, ◌%◌, ◌<◌, ◌≤◌}
use mathlib.Core.Path.{◌≡◌, refl, sym, ap, ◌∙◌}
use mathlib.Core.List.{List, [], ◌∷◌, ◌++◌, append_assoc}
use native.Mathlib.Nat.{add-zero}
use native.Mathlib.Omega.{arith}
use lib.ListN.{length, take, drop, set, length-append}
use lib.ListN.{take-append-drop}
use lib.Seq.{length-take-le, sets, sets-eq, take_at, drop-append-add, drop-drop}
use mathlib.Core.Bool.{cond}
use lib.Dec.{eqb}
use borrow.Author.Tests.{ne_eqb}
use Rattle.paging.specs.Pages.{over}
use Rattle.writing.specs.Cells.{be_bytes}
use Rattle.writing.proofs.Standing.{be-length}

module _ (b : List ℕ) (at : ℕ) (s : List ℕ) (h : at + length s ≤ length b) where
  head-length : length (take at b ++ s) ≡ at + length s
  head-length = length-append (take at b) s ∙ omega (arith, length-take-le at b (omega arith))

  over-left : over b at s ≡ (take at b ++ s) ++ drop (at + length s) b
  over-left = sym (append_assoc (take at b) s (drop (at + length s) b))

-- two parts side by side
pub over-on : (b : List ℕ) (at next : ℕ) (s t : List ℕ) → next ≡ at + length s → at + length s ≤ length b
    → over (over b at s) next t ≡ over b at (s ++ t)
over-on b at next s t n l =
    let e = over-left b at s l in
    let k = head-length b at s l in
    let p : take next (over b at s) ≡ take at b ++ s = ap (take next) e ∙ take_at (take at b ++ s) (drop (at + length s) b) next (k ∙ sym n) in
    let i : next + length t ≡ length (take at b ++ s) + length t = omega arith in
    let j : at + length s + length t ≡ at + length (s ++ t) = omega (arith, length-append s t) in
    let q : drop (next + length t) (over b at s) ≡ drop (at + length (s ++ t)) b =
    ap (λ x. drop x (over b at s)) i ∙ ap (drop (length (take at b ++ s) + length t)) e
    ∙ drop-append-add (take at b ++ s) (drop (at + length s) b) (length t)
    ∙ drop-drop (length t) (at + length s) b ∙ ap (λ x. drop x b) j in
    ap (λ x. x ++ (t ++ drop (next + length t) (over b at s))) p ∙ ap (λ x. (take at b ++ s) ++ (t ++ x)) q
    ∙ append_assoc (take at b) s (t ++ drop (at + length (s ++ t)) b)
    ∙ ap (λ x. take at b ++ x) (sym (append_assoc s t (drop (at + length (s ++ t)) b)))

pub over-over : (b : List ℕ) (at next : ℕ) (s t : List ℕ) → next ≡ at + length s → next + length t ≤ length b
    → over (over b at s) next t ≡ over b at (s ++ t)
over-over b at next s t n h = over-on b at next s t n (omega arith)

pub over_none : (b : List ℕ) (at : ℕ) → over b at [] ≡ b
over_none b at = ap (λ x. take at b ++ drop x b) (add-zero at) ∙ take-append-drop at b

-- stores one by one
stores : (vs b : List ℕ) (at : ℕ) → at + length vs ≤ length b → sets b at vs ≡ over b at vs
stores vs b at h = sets-eq vs b at h ∙ append_assoc (take at b) vs (drop (at + length vs) b)

pub byte-laid : (b : List ℕ) (at x : ℕ) → at < length b → set b at x ≡ over b at (x ∷ [])
byte-laid b at x h = stores (x ∷ []) b at (omega arith)

-- a number's bytes as the language has them
pub half-bytes : (n : ℕ) → (n % 65536 / 256 % 256) ∷ (n % 65536 % 256) ∷ [] ≡ be_bytes 2 n
unfolding be_bytes
half-bytes n =
    let a : n % 65536 / 256 % 256 ≡ n / 256 % 256 = omega arith in
    let b : n % 65536 % 256 ≡ n % 256 = omega arith in
    rw (a, b) refl

pub word-bytes : (n : ℕ) → (n / 16777216 % 256) ∷ (n / 65536 % 256) ∷ (n / 256 % 256) ∷ (n % 256) ∷ [] ≡ be_bytes 4 n
unfolding be_bytes
word-bytes n =
    let a : n / 16777216 ≡ n / 256 / 256 / 256 = omega arith in
    let b : n / 65536 ≡ n / 256 / 256 = omega arith in
    rw (a, b) refl

-- one part laid, then another behind it
pub two-laid : (o o₁ o₂ : List ℕ) (at next : ℕ) (s t : List ℕ) → o₁ ≡ over o at s → next ≡ at + length s → o₂ ≡ over o₁ next t
    → next + length t ≤ length o → o₂ ≡ over o at (s ++ t)
two-laid o o₁ o₂ at next s t e n g h = g ∙ ap (λ x. over x next t) e ∙ over-over o at next s t n h

-- 4 bytes where not all is local
module _ (o : List ℕ) (at local size first : ℕ) where
  pub link-room : (local ≡ size → ⊥) → at + length (cond (eqb local size) [] (be_bytes 4 first)) ≤ length o → at + 4 ≤ length o
  link-room e h = let k : at + length (be_bytes 4 first) ≤ length o = rw (ne_eqb local size e) at h in omega (arith, be-length 4 first)

  pub link-some : (local ≡ size → ⊥) → (o₁ : List ℕ) → o₁ ≡ over o at (be_bytes 4 first)
      → (at + 4 ≡ at + length (cond (eqb local size) [] (be_bytes 4 first))) × (o₁ ≡ over o at (cond (eqb local size) [] (be_bytes 4 first)))
  link-some e o₁ h = rw (ne_eqb local size e) (ap (λ k. at + k) (sym (be-length 4 first)), h)
