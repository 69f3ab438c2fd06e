-- Cells and their pointers, laid over a page one after the other.
--     over-swap    two parts that lie apart, laid in either order
--     cells-on     one cell with its pointer, then the others, are all of them
-- Assumes nothing.
use Prim.Native.Nat.{ℕ, ◌+◌, ◌-◌, ◌*◌, ◌≤◌}
use mathlib.Core.Path.{◌≡◌, refl, sym, ap, ◌∙◌}
use mathlib.Core.List.{List, [], ◌∷◌, ◌++◌, append_assoc}
use native.Mathlib.Omega.{arith}
use lib.ListN.{length, take, drop, length-append, length-drop, take-append-drop}
use lib.Seq.{length-take-le, take_at, drop_at, drop-drop}
use Rattle.paging.specs.Pages.{over}
use Rattle.paging.proofs.PagesLaws.{length_over}
use Rattle.writing.specs.Cells.{be_bytes}
use Rattle.writing.specs.Pages.{joined, start_of, pointers_of}
use Rattle.writing.specs.Layout.{size}
use Rattle.writing.specs.Given.{cells_laid}
use Rattle.writing.proofs.Standing.{be-length}
use Rattle.writing.proofs.SideBySide.{pointers-length}
use Rattle.writing.proofs.OverLaws.{over-over, over_none}

-- ---- parts that lie apart

pub over-mid : (A S X s : List ℕ) (at : ℕ) → length A ≡ at → length S ≡ length s → over (A ++ (S ++ X)) at s ≡ A ++ (s ++ X)
over-mid A S X s at e f =
    let g : length (A ++ S) ≡ at + length s = length-append A S ∙ omega arith in
    let h : drop (at + length s) (A ++ (S ++ X)) ≡ X = ap (drop (at + length s)) (sym (append_assoc A S X)) ∙ drop_at (A ++ S) X (at + length s) g in
    ap (λ x. x ++ (s ++ drop (at + length s) (A ++ (S ++ X)))) (take_at A (S ++ X) at e) ∙ ap (λ x. A ++ (s ++ x)) h

-- the n bytes at m, and what is behind them
piece : (b : List ℕ) (m n : ℕ) → drop m b ≡ take n (drop m b) ++ drop (m + n) b
piece b m n = sym (take-append-drop n (drop m b)) ∙ ap (λ x. take n (drop m b) ++ x) (drop-drop n m b)

piece-length : (b : List ℕ) (m n : ℕ) → m + n ≤ length b → length (take n (drop m b)) ≡ n
piece-length b m n h = length-take-le n (drop m b) (omega (arith, length-drop m b))

module _ (b : List ℕ) (a c : ℕ) (s t : List ℕ) (apart : a + length s ≤ c) (inside : c + length t ≤ length b) where
  abbrev A : List ℕ
  A = take a b

  abbrev S : List ℕ
  S = take (length s) (drop a b)

  abbrev M : List ℕ
  M = take (c - (a + length s)) (drop (a + length s) b)

  abbrev T : List ℕ
  T = take (length t) (drop c b)

  abbrev Z : List ℕ
  Z = drop (c + length t) b

  A-length : length A ≡ a
  A-length = length-take-le a b (omega arith)

  S-length : length S ≡ length s
  S-length = piece-length b a (length s) (omega arith)

  M-length : length M ≡ c - (a + length s)
  M-length = piece-length b (a + length s) (c - (a + length s)) (omega arith)

  T-length : length T ≡ length t
  T-length = piece-length b c (length t) inside

  parts : b ≡ A ++ (S ++ (M ++ (T ++ Z)))
  parts =
      let e : a + length s + (c - (a + length s)) ≡ c = omega arith in
      sym (take-append-drop a b) ∙ ap (λ x. A ++ x) (piece b a (length s))
      ∙ ap (λ x. A ++ (S ++ x)) (piece b (a + length s) (c - (a + length s)) ∙ ap (λ k. M ++ drop k b) e)
      ∙ ap (λ x. A ++ (S ++ (M ++ x))) (piece b c (length t))

  -- three parts before X, as one
  front-3 : (P Q R X : List ℕ) → P ++ (Q ++ (R ++ X)) ≡ (P ++ (Q ++ R)) ++ X
  front-3 P Q R X = sym (append_assoc P (Q ++ R) X ∙ ap (λ x. P ++ x) (append_assoc Q R X))

  at_c : (Q : List ℕ) → length Q ≡ length s → length (A ++ (Q ++ M)) ≡ c
  at_c Q q = length-append A (Q ++ M) ∙ omega (arith, length-append Q M, A-length, M-length)

  pub over-swap : over (over b a s) c t ≡ over (over b c t) a s
  over-swap =
      let W = T ++ Z in
      let first : over b a s ≡ A ++ (s ++ (M ++ W)) = ap (λ x. over x a s) parts ∙ over-mid A S (M ++ W) s a A-length S-length in
      let left : over (over b a s) c t ≡ (A ++ (s ++ M)) ++ (t ++ Z) =
      ap (λ x. over x c t) (first ∙ front-3 A s M W) ∙ over-mid (A ++ (s ++ M)) T Z t c (at_c s refl) T-length in
      let second : over b c t ≡ A ++ (S ++ (M ++ (t ++ Z))) =
      ap (λ x. over x c t) (parts ∙ front-3 A S M W) ∙ over-mid (A ++ (S ++ M)) T Z t c (at_c S S-length) T-length ∙ sym (front-3 A S M (t ++ Z)) in
      let right : over (over b c t) a s ≡ A ++ (s ++ (M ++ (t ++ Z))) =
      ap (λ x. over x a s) second ∙ over-mid A S (M ++ (t ++ Z)) s a A-length S-length in
      left ∙ sym (front-3 A s M (t ++ Z)) ∙ sym right

-- ---- cells

cells_are : (u : ℕ) (c : List ℕ) (cs : List (List ℕ))
    → (joined (c ∷ cs) ≡ c ++ joined cs) × (pointers_of u (c ∷ cs) ≡ be_bytes 2 (start_of u (c ∷ cs)) ++ pointers_of u cs)
unfolding joined pointers_of
cells_are u c cs = (refl, refl)

-- p and q are where the next pointer and the next cell go; the cell's place on its page is `at`
module _ (b : List ℕ) (p q at p' q' : ℕ) (c : List ℕ) (cs : List (List ℕ)) (place : at ≡ start_of size (c ∷ cs)) (next : p' ≡ p + 2)
    (end : q' ≡ q + length c)
    (apart : p + 2 * length (c ∷ cs) ≤ q) (inside : q + length (joined (c ∷ cs)) ≤ length b) where
  pub cells-on : cells_laid (over (over b p (be_bytes 2 at)) q c) p' q' cs ≡ cells_laid b p q (c ∷ cs)
  cells-on =
      let H = be_bytes 2 at in
      let hl = be-length 2 at in
      let e = cells_are size c cs in
      let pl = pointers-length size cs in
      let jl : length (joined (c ∷ cs)) ≡ length c + length (joined cs) = ap length e.0 ∙ length-append c (joined cs) in
      let X = over b p H in
      let xl : length X ≡ length b = length_over b p H (omega arith) in
      let swap : over (over X q c) p' (pointers_of size cs) ≡ over (over X p' (pointers_of size cs)) q c =
      sym (over-swap X p' q (pointers_of size cs) c (omega arith) (omega arith)) in
      let first : over X p' (pointers_of size cs) ≡ over b p (pointers_of size (c ∷ cs)) =
      over-over b p p' H (pointers_of size cs) (omega arith) (omega arith) ∙ ap (λ x. over b p (be_bytes 2 x ++ pointers_of size cs)) place
      ∙ ap (over b p) (sym e.1) in
      let Y = over b p (pointers_of size (c ∷ cs)) in
      let yl : length Y ≡ length b = length_over b p (pointers_of size (c ∷ cs)) (omega (arith, pointers-length size (c ∷ cs))) in
      ap (λ x. over x q' (joined cs)) (swap ∙ ap (λ x. over x q c) first) ∙ over-over Y q q' c (joined cs) end (omega arith)
      ∙ ap (over Y q) (sym e.0)

none-are : (u : ℕ) → (joined [] ≡ []) × (pointers_of u [] ≡ [])
unfolding joined pointers_of
none-are u = (refl, refl)

pub cells-none : (b : List ℕ) (p q : ℕ) → cells_laid b p q [] ≡ b
cells-none b p q =
    ap (over (over b p (pointers_of size [])) q) (none-are size).0 ∙ over_none (over b p (pointers_of size [])) q
    ∙ ap (over b p) (none-are size).1 ∙ over_none b p
