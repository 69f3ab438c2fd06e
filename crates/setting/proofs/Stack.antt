-- Cells one below the other, the first the highest, ending at `top`: where each stands, and the spans they take.
-- (writing/proofs/SideBySide.antt: the other way round, the first the lowest.)
use Prim.Native.Nat.{ℕ, zero, suc, ◌+◌, ◌-◌, ◌*◌, ◌<◌, ◌≤◌}
use mathlib.Core.Path.{◌≡◌, refl, sym, ap, ◌∙◌, subst}
use mathlib.Core.List.{List, [], ◌∷◌}
use native.Mathlib.Nat.{add-zero}
use native.Mathlib.Omega.{arith}
use lib.ListN.{length, get_or, length-append}
use Rattle.number.specs.Bytes.{be}
use Rattle.number.proofs.VarintReading.{Stands}
use Rattle.page.specs.Sound.{Span, span, cell_span, cell_spans, AllWithin}
use Rattle.page.specs.Steps.{total, Falls}
use Rattle.writing.specs.Cells.{be_bytes}
use Rattle.writing.proofs.Standing.{stands-front, stands-past, be-length, be-read}
use Rattle.setting.specs.Relaid.{stacked, stack_pointers}

abbrev pub Cells : Type 0
Cells = List (List ℕ)

-- where the cell with that index stands
unfoldable pub stack_place : (top : ℕ) → Cells → (i : ℕ) → ℕ
stack_place top [] i = top
stack_place top (c ∷ cs) zero = top - length c
stack_place top (c ∷ cs) (suc i) = stack_place (top - length c) cs i

pub stacked-length : (c : List ℕ) (cs : Cells) → length (stacked (c ∷ cs)) ≡ length (stacked cs) + length c
unfolding stacked
stacked-length c cs = length-append (stacked cs) c

stacked-none : length (stacked []) ≡ 0
unfolding stacked
stacked-none = refl

-- a cell lies between the last one's place and `top`
pub place-low : (top : ℕ) (cs : Cells) (i : ℕ) → length (stacked cs) ≤ top → i < length cs → top - length (stacked cs) ≤ stack_place top cs i
unfolding stack_place
place-low top [] i h l = absurd (omega arith)
place-low top (c ∷ cs) zero h l = omega (arith, stacked-length c cs)
place-low top (c ∷ cs) (suc i) h l =
    let k = stacked-length c cs in
    omega (arith, place-low (top - length c) cs i (omega arith) (omega arith))

pub place-ends : (top : ℕ) (cs : Cells) (i : ℕ) → length (stacked cs) ≤ top → i < length cs → stack_place top cs i + length (get_or cs i []) ≤ top
unfolding stack_place
place-ends top [] i h l = absurd (omega arith)
place-ends top (c ∷ cs) zero h l = omega (arith, stacked-length c cs)
place-ends top (c ∷ cs) (suc i) h l =
    let k = stacked-length c cs in
    omega (arith, place-ends (top - length c) cs i (omega arith) (omega arith))

-- and stands there
pub cell-stands : (p : List ℕ) (top : ℕ) (cs : Cells) (i : ℕ) → length (stacked cs) ≤ top → i < length cs
    → Stands p (top - length (stacked cs)) (stacked cs) → Stands p (stack_place top cs i) (get_or cs i [])
unfolding stack_place stacked
cell-stands p top [] i h l s = absurd (omega arith)
cell-stands p top (c ∷ cs) zero h l s =
    let k = stacked-length c cs in
    let e : top - length (stacked (c ∷ cs)) + length (stacked cs) ≡ top - length c = omega arith in
    subst (λ at. Stands p at c) e (stands-past p (top - length (stacked (c ∷ cs))) (length (stacked cs)) (stacked cs) c refl s)
cell-stands p top (c ∷ cs) (suc i) h l s =
    let k = stacked-length c cs in
    let e : top - length (stacked (c ∷ cs)) ≡ top - length c - length (stacked cs) = omega arith in
    cell-stands p (top - length c) cs i (omega arith) (omega arith)
    (subst (λ at. Stands p at (stacked cs)) e (stands-front p (top - length (stacked (c ∷ cs))) (stacked cs) c s))

-- the pointers are their places
pub pointers-length : (top : ℕ) (cs : Cells) → length (stack_pointers top cs) ≡ 2 * length cs
unfolding stack_pointers
pointers-length top [] = omega arith
pointers-length top (c ∷ cs) =
    length-append (be_bytes 2 (top - length c)) (stack_pointers (top - length c) cs)
    ∙ omega (arith, be-length 2 (top - length c), pointers-length (top - length c) cs)

pub pointer_read : (p : List ℕ) (top : ℕ) (cs : Cells) (at i : ℕ) → i < length cs → stack_place top cs i < 65536
    → Stands p at (stack_pointers top cs) → be 2 p (at + 2 * i) ≡ stack_place top cs i
unfolding stack_place stack_pointers
pointer_read p top [] at i l b s = absurd (omega arith)
pointer_read p top (c ∷ cs) at zero l b s =
    let e : at + 2 * 0 ≡ at = omega arith in
    ap (be 2 p) e
    ∙ be-read 2 (top - length c) p at (omega arith) (stands-front p at (be_bytes 2 (top - length c)) (stack_pointers (top - length c) cs) s)
pointer_read p top (c ∷ cs) at (suc i) l b s =
    let e : at + 2 * suc i ≡ at + 2 + 2 * i = omega arith in
    ap (be 2 p) e
    ∙ pointer_read p (top - length c) cs (at + 2) i (omega arith) b
    (stands-past p at 2 (be_bytes 2 (top - length c)) (stack_pointers (top - length c) cs) (be-length 2 (top - length c)) s)

-- ---- spans
unfoldable pub stack_spans : (top : ℕ) → Cells → List Span
stack_spans top [] = []
stack_spans top (c ∷ cs) = span (top - length c) top ∷ stack_spans (top - length c) cs

pub spans-within : (start u top : ℕ) (cs : Cells) → length (stacked cs) ≤ top → start ≤ top - length (stacked cs) → top ≤ u
    → AllWithin start u (stack_spans top cs)
unfolding stack_spans
spans-within start u top [] h l m = tt
spans-within start u top (c ∷ cs) h l m =
    let k = stacked-length c cs in (
      record { low = omega arith; order = omega arith; high = omega arith },
      spans-within start u (top - length c) cs (omega arith) (omega arith) (omega arith),
    )

pub spans-fall : (top : ℕ) (cs : Cells) → Falls top (stack_spans top cs)
unfolding stack_spans
spans-fall top [] = tt
spans-fall top (c ∷ cs) = (omega arith, spans-fall (top - length c) cs)

pub spans-total : (top : ℕ) (cs : Cells) → length (stacked cs) ≤ top → total (stack_spans top cs) ≡ length (stacked cs)
unfolding stack_spans
spans-total top [] h = sym stacked-none
spans-total top (c ∷ cs) h = let k = stacked-length c cs in omega (arith, spans-total (top - length c) cs (omega arith))

-- the page's cells from the ith on are these, one by one
pub spans-are : (p : List ℕ) (u head i top : ℕ) (cs : Cells) → length (stacked cs) ≤ top
    → ((j : ℕ) → j < length cs → cell_span p u head (i + j) ≡ span (stack_place top cs j) (stack_place top cs j + length (get_or cs j [])))
    → cell_spans p u head i (length cs) ≡ stack_spans top cs
unfolding stack_spans stack_place cell_spans
spans-are p u head i top [] h f = refl
spans-are p u head i top (c ∷ cs) h f =
    let k = stacked-length c cs in
    let t : top - length c + length c ≡ top = omega arith in
    let e : cell_span p u head i ≡ span (top - length c) top = rw add-zero at (f 0 (omega arith)) ∙ ap (span (top - length c)) t in
    ap (λ s. s ∷ cell_spans p u head (i + 1) (length cs)) e
    ∙ ap (λ ss. span (top - length c) top ∷ ss)
    (spans-are p u head (i + 1) (top - length c) cs (omega arith)
    (λ j l. let d : i + suc j ≡ i + 1 + j = omega arith in rw d at (f (suc j) (omega arith))))
