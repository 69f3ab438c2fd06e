-- Laws of the loops that read the cells, and note them or see that they fall.
-- Assumes nothing.
use mathlib.Core.Path.{◌≡◌, refl, sym, ap, ◌∙◌}
use mathlib.Core.Bool.{cond}
use mathlib.Core.List.{List, [], ◌∷◌}
use Prim.Native.Nat.{ℕ, suc, ◌+◌, ◌-◌, ◌≤◌, ◌<◌}
use native.Mathlib.Nat.{zero-add, sub-zero}
use native.Mathlib.Omega.{arith}
use borrow.Author.Tests.{eq-eqb, ne_eqb}
use lib.Dec.{eqb}
use Rattle.page.specs.Header.{cell_count, content_start, pointer, cell_of}
use Rattle.page.specs.Sound.{Span, span, cell_span, cell_spans}
use Rattle.page.specs.Fault.{cell_fault, cells_fault}
use Rattle.page.specs.Steps.{Past, Noted, Lies, AllLie, Written, Falls, Fallen, Extends, CellsPlaced, total}

module _ (p : List ℕ) (u head : ℕ) where
  pub spans-more : (i n : ℕ) → i < n → cell_spans p u head i (n - i) ≡ cell_span p u head i ∷ cell_spans p u head (i + 1) (n - (i + 1))
  unfolding cell_spans
  spans-more i n h =
      let e : n - i ≡ suc (n - (i + 1)) = omega arith in
      rw e

  pub spans-none : (i n : ℕ) → n ≤ i → cell_spans p u head i (n - i) ≡ []
  unfolding cell_spans
  spans-none i n h =
      let e : n - i ≡ 0 = omega arith in
      rw e

  pub fault-more :
      (i n : ℕ) → i < n →
      cells_fault p u head i (n - i) ≡ cond (eqb (cell_fault p u head i) 0) (cells_fault p u head (i + 1) (n - (i + 1))) (cell_fault p u head i)
  unfolding cells_fault
  fault-more i n h =
      let e : n - i ≡ suc (n - (i + 1)) = omega arith in
      rw e

  pub fault-none : (i n : ℕ) → n ≤ i → cells_fault p u head i (n - i) ≡ 0
  unfolding cells_fault
  fault-none i n h =
      let e : n - i ≡ 0 = omega arith in
      rw e

  -- the ith cell's refusal is the first of those from the ith on; where it has none, the first is one of the next
  pub fault-here : (i n number : ℕ) → i < n → number ≡ cell_fault p u head i → (number ≡ 0 → ⊥) → number ≡ cells_fault p u head i (n - i)
  fault-here i n number h e x =
      rw (fault-more i n h, ne_eqb (cell_fault p u head i) 0 (λ (q : cell_fault p u head i ≡ 0). x (e ∙ q))) e

  pub fault-next : (i n : ℕ) → i < n → cell_fault p u head i ≡ 0 → cells_fault p u head i (n - i) ≡ cells_fault p u head (i + 1) (n - (i + 1))
  fault-next i n h z = rw (fault-more i n h, eq-eqb (cell_fault p u head i) 0 z)

-- ---- the loop: whatever becomes of the cells from the ith on becomes of all of them
module _ (p : List ℕ) (u head n : ℕ) where
  abbrev rest : (i : ℕ) → List Span
  rest i = cell_spans p u head i (n - i)

  abbrev all : List Span
  all = cell_spans p u head 0 n

  -- the first refusal, and the bytes
  pub record Tally (bytes i : ℕ) : Type 0 where
    pub fault : cells_fault p u head 0 n ≡ cells_fault p u head i (n - i)
    pub count : bytes + total (rest i) ≡ total all

  -- what is noted: m₀ is the table before, m now
  pub record Writing (m₀ m : List ℕ) (i : ℕ) : Type 0 where
    pub go : (mf : List ℕ) → Written (content_start p head) u m mf (rest i) → Written (content_start p head) u m₀ mf all

  -- cells that fall, so far to low
  pub record Falling (low i : ℕ) : Type 0 where
    pub lie : AllLie (content_start p head) u (rest i) → AllLie (content_start p head) u all
    pub fall : Falls low (rest i) → Falls u all

  pub tally-all : Tally 0 0
  tally-all = record { fault = rw sub-zero; count = rw (sub-zero, zero-add) }

  module _ (i : ℕ) (h : n ≤ i) where
    pub tally-done : (bytes : ℕ) → Tally bytes i → (0 ≡ cells_fault p u head 0 n) × (bytes ≡ total all)
    tally-done bytes f = (sym (f.fault ∙ fault-none p u head i n h), omega (arith, f.count, ap total (spans-none p u head i n h)))

    pub writing-done : (m₀ m : List ℕ) → Writing m₀ m i → Written (content_start p head) u m₀ m all
    writing-done m₀ m f = f.go m (rw (spans-none p u head i n h) refl)

    pub falling-done : (low : ℕ) → Falling low i → AllLie (content_start p head) u all × Falls u all
    falling-done low f = (f.lie (rw (spans-none p u head i n h) tt), f.fall (rw (spans-none p u head i n h) tt))

  module _ (i : ℕ) (h : i < n) (at stop : ℕ) (x : Extends p u head i 0 at stop) where
    lies : Lies (content_start p head) u (cell_span p u head i)
    lies =
        let l : Lies (content_start p head) u (span at stop) = record { low = x.low refl; least = x.least refl; high = x.high refl } in
        rw (x.from refl, x.end refl) at l

    pub tally-more : (bytes : ℕ) → Tally bytes i → Tally (bytes + (stop - at)) (i + 1)
    tally-more bytes f =
        record {
          fault = f.fault ∙ fault-next p u head i n h (sym x.fault);
          count =
              let a = x.from refl in
              let e = x.end refl in
              omega (arith, f.count, ap total (spans-more p u head i n h));
        }

    pub writing_more : (m₀ m m' : List ℕ) → Noted m m' at (stop - at) → Writing m₀ m i → Writing m₀ m' (i + 1)
    writing_more m₀ m m' k f =
        let here : Noted m m' (pointer p head i) ((cell_of p u head i).end - pointer p head i) = rw (x.from refl, x.end refl) at k in
        record { go = λ mf t. f.go mf (rw (spans-more p u head i n h) (m', lies, here, t)) }

    pub falling-more : (low : ℕ) → stop ≤ low → Falling low i → Falling at (i + 1)
    falling-more low d f =
        let before : (cell_of p u head i).end ≤ low = rw (x.end refl) at d in
        record {
          lie = λ t. f.lie (rw (spans-more p u head i n h) (lies, t));
          fall = λ t. f.fall (rw (spans-more p u head i n h) (before, rw (x.from refl) at t));
        }

-- ---- the loop that notes them, and where they fall: low is not 0 then
pub record Left (p : List ℕ) (u head n : ℕ) (m₀ m : List ℕ) (bytes low i : ℕ) : Type 0 where
  pub tally : Tally p u head n bytes i
  pub writing : Writing p u head n m₀ m i
  pub falling : (low ≡ 0 → ⊥) → Falling p u head n low i
  pub past : Past u m₀ m

module _ (p : List ℕ) (u head n : ℕ) (m₀ m : List ℕ) (bytes low i : ℕ) (f : Left p u head n m₀ m bytes low i) where
  pub left-done : n ≡ cell_count p head → n ≤ i → bytes ≤ 4294967296 → CellsPlaced p u head m₀ m 0 bytes low
  left-done e h b =
      let t = rw e at (tally-done p u head n i h bytes f.tally) in
      let w = rw e at (writing-done p u head n i h m₀ m f.writing) in
      record {
        fault = t.0;
        written = λ _. w;
        bytes = λ _. t.1;
        falls = λ _ x. rw e at (falling-done p u head n i h low (f.falling x)).1;
        small = b;
        past = f.past;
      }

  module _ (h : i < n) where
    pub left-stop : n ≡ cell_count p head → (number : ℕ) → number ≡ cell_fault p u head i → (number ≡ 0 → ⊥) → CellsPlaced p u head m₀ m number 0 0
    left-stop e number x q =
        record {
          fault = rw (← e) (fault-here p u head i n number h x q ∙ sym f.tally.fault);
          written = λ z. absurd (q z);
          bytes = λ z. absurd (q z);
          falls = λ z. absurd (q z);
          small = omega arith;
          past = f.past;
        }

    module _ (at stop : ℕ) (x : Extends p u head i 0 at stop) where
      pub left-more : (m' : List ℕ) → Noted m m' at (stop - at) → (low' : ℕ) → Fallen low at stop low' → Left p u head n m₀ m' (bytes + (stop - at)) low' (i + 1)
      left-more m' k low' d =
          record {
            tally = tally-more p u head n i h at stop x bytes f.tally;
            writing = writing_more p u head n i h at stop x m₀ m m' k f.writing;
            falling = λ y.
                let g = d.falls y in
                rw g.0 (falling-more p u head n i h at stop x low g.1 (f.falling (λ e. omega (arith, g.1, x.least refl))));
            past = λ j l. k.past j (omega (arith, x.least refl, x.high refl)) ∙ f.past j l;
          }
