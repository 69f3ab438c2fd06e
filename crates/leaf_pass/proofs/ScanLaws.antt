-- Laws of the loop over a leaf's cells.
--     taken-, cell-     one cell
--     rows-             the rows so far
--     entered-, marks-, scan-  the table of marks, and the loop
-- Assumes nothing.
use mathlib.Core.Path.{◌≡◌, refl, ◌∙◌}
use mathlib.Core.Bool.{Bool, true, false}
use mathlib.Core.List.{List, ◌∷◌}
use mathlib.Core.Logic.{◌⊎◌, inl, inr, ⊎_elim}
use Prim.Native.Nat.{ℕ, zero, suc, ◌+◌, ◌-◌, ◌*◌, ◌≤◌, ◌<◌}
use native.Mathlib.Decide.{dec_lt}
use native.Mathlib.Omega.{arith}
use borrow.Author.Tests.{eq-eqb, ne_eqb, eqb-true, eqb-false}
use lib.Dec.{eqb}
use lib.ListN.{get_or, set}
use lib.Seq.{get_or-set_other}
use Rattle.std.specs.Prelude.{Option, Some, None, IfSome, IsSomeAnd}
use Rattle.number.specs.Bytes.{be, part}
use Rattle.number.proofs.Cases.{true-or-false}
use Rattle.record.specs.Record.{reads_of}
use Rattle.cell.specs.declared.Cell.{Cell}
use Rattle.cell.specs.Split.{table_leaf}
use Rattle.cell.specs.Cell.{cell_at}
use Rattle.cell.proofs.CellLaws.{cell-read}
use Rattle.leaf.specs.declared.Extent.{Extent}
use Rattle.leaf.specs.Whole.{Whole, TakenAt, LocalAt}
use Rattle.page.specs.Header.{page_type, cell_count, content_start, cell_of}
use Rattle.page.specs.Sound.{Span, cell_span, cell_spans}
use Rattle.page.specs.Steps.{Past, Lies, AllLie, Opened}
use Rattle.page.proofs.Spans.{order}
use Rattle.page.proofs.CellExtent.{at-is, extends-cell}
use Rattle.page.proofs.Cells.{Tally, Falling, spans-more, spans-none, tally-done, falling-done, tally-more, falling-more}
use Rattle.leaf_pass.specs.Ends.{Marks}
use Rattle.leaf_pass.specs.Scan.{CellTaken, Comes, first_left, begin_before, Fallen, Entered, Rows, Scanned}

-- ---- one cell, as the general reader reads it
module _ (p : List ℕ) (u kind at : ℕ) (least : 480 ≤ u) (c : Cell) (is : c ≡ cell_at p u kind at) (none : c.fault ≡ 0) where
  pub taken-least : at ≤ c.end
  taken-least = rw is (omega (arith, (cell-read p u kind at least (rw is at none)).least))

  pub taken-at : c.long ≡ 0 → TakenAt p u kind at (c.end - at) c.row
  taken-at short = rw is (record { fault = rw is at none; short = rw is at short; end = omega (arith, rw is at taken-least); number = refl })

-- the ith cell
module _ (p : List ℕ) (u head kind start first : ℕ) (o : Opened p u head kind start first) (i : ℕ) (inside : first + 2 * i + 2 ≤ u)
    (at : ℕ) (read : at ≡ be 2 p (first + 2 * i)) where
  cell-here : cell_at p u kind at ≡ cell_of p u head i
  cell-here = rw (← at-is p u head i kind start first o inside at read, ← o.type) refl

  pub cell-taken : start ≤ at → (size row : ℕ) → TakenAt p u kind at size row → CellTaken p u head i at size row
  cell-taken low size row t =
      let r = cell-read p u kind at o.least t.fault in
      let x = extends-cell p u head i kind start first o inside at read low (omega (arith, r.least, r.within)) (cell_at p u kind at) refl in
      record {
        extends = rw (t.fault, t.end) at x;
        short = rw (← cell-here) t.short;
        number = rw (← cell-here) t.number;
      }

  pub cell-whole : (size row from long : ℕ) → LocalAt p u kind at size row from long → reads_of (part p from long) ≡ true → Whole p (cell_of p u head i)
  cell-whole size row from long l reads =
      let w : Whole p (cell_at p u kind at) = record { local = l.local; short = l.taken.short; reads = rw (l.begins, l.payload) reads } in
      rw cell-here at w

  -- one that was read in a straight line, and whose record reads
  pub local-whole : (local : Option Extent) → IfSome local (λ c. LocalAt p u kind at c.size c.row c.start c.length)
      → IsSomeAnd local (λ c. reads_of (part p c.start c.length) ≡ true) → Whole p (cell_of p u head i)
  local-whole (Some c) l reads = cell-whole c.size c.row c.start c.length l reads
  local-whole None l reads = absurd reads

-- how from..to goes on with the ith cell: it is whole, or one more of these
abbrev pub Goes : (p : List ℕ) → (u head i from to from' to' : ℕ) → Type 0
Goes p u head i from to from' to' = (Whole p (cell_of p u head i) × (from' ≡ from) × (to' ≡ to)) ⊎ ((from' ≡ first_left i from to) × (to' ≡ i + 1))

-- ---- the rows so far
pub rows_none : (p : List ℕ) (u head least : ℕ) → Rows p u head 0 least least 0 0
rows_none p u head least =
    record {
      within = (omega arith, omega arith);
      short = λ j l. absurd (omega arith);
      whole = λ j l. absurd (omega arith);
      rises = λ t j l. absurd (omega arith);
      begins = λ t l. absurd (omega arith);
      ends = λ t l. absurd (omega arith);
      none = λ z. refl;
    }

module _ (p : List ℕ) (u head i least next from to : ℕ) (r : Rows p u head i least next from to) (at size row : ℕ) (w : CellTaken p u head i at size row)
    (next' : ℕ) (s : Comes (page_type p head) next row next') where
  -- the last two rows
  step : page_type p head ≡ table_leaf → (j : ℕ) → j + 1 ≡ i → (cell_of p u head j).row < (cell_of p u head (j + 1)).row
  step t j e =
      let b : i - 1 ≡ j = omega arith in
      let l : next ≡ (cell_of p u head j).row + 1 = rw b at (r.ends t (omega arith)) in
      let n : (cell_of p u head (j + 1)).row ≡ row = rw e w.number in
      omega (arith, l, n, (s.past t).0)

  begun : page_type p head ≡ table_leaf → least ≤ (cell_of p u head 0).row
  begun t = go i r w.number
    where
      go : (k : ℕ) → Rows p u head k least next from to → (cell_of p u head k).row ≡ row → least ≤ (cell_of p u head 0).row
      go zero q e = omega (arith, e, q.none refl, (s.past t).0)
      go (suc k) q e = q.begins t (omega arith)

  rows_more :
      (from' to' : ℕ) → (from' ≤ i + 1) × (to' ≤ i + 1) → ((j : ℕ) → j < i + 1 → (j < from') ⊎ (to' ≤ j) → Whole p (cell_of p u head j)) →
      Rows p u head (i + 1) least next' from' to'
  rows_more from' to' b h =
      record {
        within = b;
        short = λ j l. ⊎_elim (λ h. r.short j h) (⊎_elim (λ e. rw e w.short) (λ h. absurd (omega arith))) (order j i);
        whole = h;
        rises = λ t j l. ⊎_elim (λ h. r.rises t j h) (⊎_elim (λ e. step t j e) (λ h. absurd (omega arith))) (order (j + 1) i);
        begins = λ t l. begun t;
        ends = λ t l. let e : i + 1 - 1 ≡ i = omega arith in rw e (omega (arith, w.number, (s.past t).1));
        none = λ z. absurd (omega arith);
      }

  -- the ith is whole
  rows_whole : Whole p (cell_of p u head i) → Rows p u head (i + 1) least next' from to
  rows_whole h =
      rows_more from to (omega (arith, r.within.0), omega (arith, r.within.1))
      (λ j l o. ⊎_elim (λ b. r.whole j b o) (⊎_elim (λ e. rw e h) (λ b. absurd (omega arith))) (order j i))

  -- its payload is left to follow: all before the first such are whole
  rows_left : Rows p u head (i + 1) least next' (first_left i from to) (i + 1)
  rows_left = go (dec_lt 0 to)
    where
      go : Dec (0 < to) → Rows p u head (i + 1) least next' (first_left i from to) (i + 1)
      go (yes b) =
          rw (ne_eqb to 0 (λ (z : to ≡ 0). omega arith))
          (rows_more from (i + 1) (omega (arith, r.within.0), omega arith)
          (λ j l. ⊎_elim (λ a. r.whole j (omega (arith, r.within.0)) (inl a)) (λ a. absurd (omega arith))))
      go (no b) =
          rw (eq-eqb to 0 (omega arith))
          (rows_more i (i + 1) (omega arith, omega arith)
          (λ j l. ⊎_elim (λ a. r.whole j a (inr (omega arith))) (λ a. absurd (omega arith))))

pub rows_next :
    (p : List ℕ) (u head i least next from to : ℕ) → Rows p u head i least next from to → (at size row : ℕ) → CellTaken p u head i at size row →
    (kind : ℕ) → kind ≡ page_type p head → (next' : ℕ) → Comes kind next row next' → (from' to' : ℕ) → Goes p u head i from to from' to' →
    Rows p u head (i + 1) least next' from' to'
rows_next p u head i least next from to r at size row w kind t next' s from' to' g =
    let s' : Comes (page_type p head) next row next' = rw t at s in
    ⊎_elim
    (λ g. rw (g.1, g.2) (rows_whole p u head i least next from to r at size row w next' s' g.0))
    (λ g. rw (g.0, g.1) (rows_left p u head i least next from to r at size row w next' s'))
    g

-- ---- one mark more
pub entered-past :
    (p : List ℕ) (u head i at size row : ℕ) → CellTaken p u head i at size row → (m m' : List ℕ) (marking : Bool) (fallen : Type 0) (r : Bool) →
    Entered m m' at size marking fallen r → Past u m m'
entered-past p u head i at size row w m m' true fallen r e j l =
    let x = w.extends in
    rw (e.marked refl) (get_or-set_other m (at + size - 1) j 1 0 (omega (arith, x.least refl, x.high refl)))
entered-past p u head i at size row w m m' false fallen r e j l = rw (e.kept refl) refl

pub marks-more :
    (start u : ℕ) (m mf : List ℕ) (k : ℕ) → start ≤ k → (s : Span) → s.end ≡ k + 1 → (ss : List Span) → Marks start u (set m k 1) mf ss →
    Marks start u m mf (s ∷ ss)
marks-more start u m mf k low s ends ss w =
    record {
      own = λ j a b. ⊎_elim
          (λ e. ⊎_elim (λ z. inr (inl (omega (arith, eqb-true j k z)))) (λ z. inl (e ∙ other j (eqb-false j k z))) (true-or-false (eqb j k)))
          (λ e. inr (inr e)) (w.own j a b);
      before = λ j a. w.before j a ∙ other j (λ z. omega arith);
    }
  where
    other : (j : ℕ) → (j ≡ k → ⊥) → get_or (set m k 1) j 0 ≡ get_or m j 0
    other j x = get_or-set_other m k j 1 0 x

-- ---- where the cell before begins
begin-next : (p : List ℕ) (u first i at : ℕ) → at ≡ be 2 p (first + 2 * i) → begin_before p u first (i + 1) ≡ at
begin-next p u first i at e =
    let b : i + 1 - 1 ≡ i = omega arith in let some : i + 1 ≡ 0 → ⊥ = λ z. omega arith in rw (ne_eqb (i + 1) 0 some, b, e) refl

-- a cell that has fallen ends at or before that
module _ (p : List ℕ) (u first i at size bytes : ℕ) where
  fallen-ends : (gaps : Bool) → Fallen p u first i at size (bytes + size) gaps → (gaps ≡ false → begin_before p u first i + bytes ≡ u) →
      at + size ≤ begin_before p u first i
  fallen-ends true f s = f.ends refl
  fallen-ends false f s = omega (arith, f.fills refl, s refl)

-- ---- the loop: m₀ is the table before it, m now
module _ (p : List ℕ) (u head first n : ℕ) (marking gaps : Bool) (m₀ : List ℕ) where
  abbrev low : ℕ
  low = content_start p head

  abbrev rest : (i : ℕ) → List Span
  rest i = cell_spans p u head i (n - i)

  abbrev all : List Span
  all = cell_spans p u head 0 n

  pub record Scanning (m : List ℕ) (bytes i : ℕ) : Type 0 where
    pub tally : Tally p u head n bytes i
    pub lie : AllLie low u (rest i) → AllLie low u all
    pub marks : marking ≡ true → (mf : List ℕ) → Marks low u m mf (rest i) → Marks low u m₀ mf all
    pub falling : marking ≡ false → Falling p u head n (begin_before p u first i) i
    pub stacked : marking ≡ false → gaps ≡ false → begin_before p u first i + bytes ≡ u
    pub past : Past u m₀ m

  module _ (m : List ℕ) (bytes i : ℕ) (f : Scanning m bytes i) where
    pub scan-more :
        (at size row : ℕ) → at ≡ be 2 p (first + 2 * i) → CellTaken p u head i at size row → i < n → (m' : List ℕ) (r : Bool) →
        Entered m m' at size marking (Fallen p u first i at size (bytes + size) gaps) r → r ≡ true → Scanning m' (bytes + size) (i + 1)
    scan-more at size row place w h m' r k y =
        let e : at + size - at ≡ size = omega arith in
        let x = w.extends in
        let least = x.least refl in
        let high = x.high refl in
        let from = x.from refl in
        let end = x.end refl in
        let lies : Lies low u (cell_span p u head i) = record { low = omega (arith, x.low refl); least = omega arith; high = omega arith } in
        record {
          tally = rw e at (tally-more p u head n i h at (at + size) x bytes f.tally);
          lie = λ t. f.lie (rw (spans-more p u head i n h) (lies, t));
          marks = λ t mf q.
              f.marks t mf
              (rw (spans-more p u head i n h)
              (marks-more low u m mf (at + size - 1) (omega (arith, x.low refl)) (cell_span p u head i) (omega arith) (rest (i + 1)) (rw (k.marked t) at q)));
          falling = λ t.
              rw (begin-next p u first i at place)
              (falling-more p u head n i h at (at + size) x (begin_before p u first i) (fallen-ends p u first i at size bytes gaps (k.falls t y) (f.stacked t)) (f.falling t));
          stacked = λ t z. omega (arith, begin-next p u first i at place, (k.falls t y).fills z);
          past = λ j l. entered-past p u head i at size row w m m' marking (Fallen p u first i at size (bytes + size) gaps) r k j l ∙ f.past j l;
        }

    pub scan-past : (m' : List ℕ) → Past u m m' → Past u m₀ m'
    scan-past m' b j l = b j l ∙ f.past j l

    pub scan-done :
        (least next from to : ℕ) → Rows p u head i least next from to → n ≡ cell_count p head → i ≤ n → n ≤ i → bytes ≤ 4294967296 →
        Scanned p u head m₀ m least marking (record { bytes = bytes; next = next; from = from; to = to })
    scan-done least next from to r e a b small =
        let whole : i ≡ cell_count p head = omega arith in
        let none = spans-none p u head i n b in
        let t = rw e at (tally-done p u head n i b bytes f.tally) in
        record {
          taken = record { fault = t.0; lie = rw e at (f.lie (rw none tt)); bytes = t.1; small = small };
          marks = λ y. rw e at (f.marks y m (rw none (record { own = λ j l h. inl refl; before = λ j l. refl })));
          falls = λ y. rw e at (falling-done p u head n i b (begin_before p u first i) (f.falling y)).1;
          rows = rw whole at r;
        }
