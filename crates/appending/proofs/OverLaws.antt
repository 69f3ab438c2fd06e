-- Bytes laid over others, one part behind the other. (As in `writing`.)
use Prim.Native.Nat.{ℕ, ◌+◌, ◌/◌, ◌%◌, ◌≤◌}
use mathlib.Core.Path.{refl, ◌≡◌, sym, ap, ◌∙◌}
use mathlib.Core.List.{List, [], ◌∷◌, ◌++◌, append_assoc}
use native.Mathlib.Nat.{add-zero}
use native.Mathlib.Omega.{arith}
use lib.ListN.{length, take, drop, length-append, take-append-drop}
use lib.Seq.{length-take-le, take_at, drop-append-add, drop-drop}
use Rattle.paging.specs.Pages.{over}
use Rattle.appending.specs.Written.{be_bytes}

module _ (b : List ℕ) (at : ℕ) (s : List ℕ) (h : at + length s ≤ length b) where
  head-length : length (take at b ++ s) ≡ at + length s
  head-length = length-append (take at b) s ∙ omega (arith, length-take-le at b (omega arith))

  over-left : over b at s ≡ (take at b ++ s) ++ drop (at + length s) b
  over-left = sym (append_assoc (take at b) s (drop (at + length s) b))

-- two parts side by side
pub over-on : (b : List ℕ) (at next : ℕ) (s t : List ℕ) → next ≡ at + length s → at + length s ≤ length b
    → over (over b at s) next t ≡ over b at (s ++ t)
over-on b at next s t n l =
    let e = over-left b at s l in
    let k = head-length b at s l in
    let p : take next (over b at s) ≡ take at b ++ s = ap (take next) e ∙ take_at (take at b ++ s) (drop (at + length s) b) next (k ∙ sym n) in
    let i : next + length t ≡ length (take at b ++ s) + length t = omega arith in
    let j : at + length s + length t ≡ at + length (s ++ t) = omega (arith, length-append s t) in
    let q : drop (next + length t) (over b at s) ≡ drop (at + length (s ++ t)) b =
    ap (λ x. drop x (over b at s)) i ∙ ap (drop (length (take at b ++ s) + length t)) e
    ∙ drop-append-add (take at b ++ s) (drop (at + length s) b) (length t)
    ∙ drop-drop (length t) (at + length s) b ∙ ap (λ x. drop x b) j in
    ap (λ x. x ++ (t ++ drop (next + length t) (over b at s))) p ∙ ap (λ x. (take at b ++ s) ++ (t ++ x)) q
    ∙ append_assoc (take at b) s (t ++ drop (at + length (s ++ t)) b)
    ∙ ap (λ x. take at b ++ x) (sym (append_assoc s t (drop (at + length (s ++ t)) b)))

pub over_none : (b : List ℕ) (at : ℕ) → over b at [] ≡ b
over_none b at = ap (λ x. take at b ++ drop x b) (add-zero at) ∙ take-append-drop at b

-- a number's bytes as the language has them
pub word-bytes : (n : ℕ) → (n / 16777216 % 256) ∷ (n / 65536 % 256) ∷ (n / 256 % 256) ∷ (n % 256) ∷ [] ≡ be_bytes 4 n
unfolding be_bytes
word-bytes n =
    let a : n / 16777216 ≡ n / 256 / 256 / 256 = omega arith in
    let b : n / 65536 ≡ n / 256 / 256 = omega arith in
    rw (a, b) refl
