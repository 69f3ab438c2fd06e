-- The cursor in good images.
-- Assumes nothing.
use Prim.Native.Nat.{ℕ, suc, ◌-◌, ◌^◌, ◌<◌, ◌≤◌}
use mathlib.Core.Path.{◌≡◌, refl, sym, ap, ◌∙◌, subst}
use mathlib.Core.Bool.{Bool, true, false}
use mathlib.Core.Logic.{inl, inr, ◌≢◌}
use mathlib.Core.List.Memᴰ.{head as here}
use mathlib.Core.List.Memᴰ.{tail as there}
use mathlib.Core.List.{List, [], ◌∷◌, Memᴰ as Mem}
use lib.Dec.{leb}
use lib.IntN.{ℤ, pos}
use lib.ListN.{length}
use native.Mathlib.Omega.{arith}
use borrow.Author.Tests.{leb-true, leb-false}
use Rattle.number.specs.Bytes.{bias_of}
use Rattle.header.specs.Header.{header_of, header_refusal}
use Rattle.dealing.specs.File.{Cell, level_limit}
use Rattle.dealing.specs.Good.{Dealing, LeafCell}
use Rattle.dealing.specs.Cursor as L
use Rattle.dealing.proofs.CursorLaws as W
use Rattle.dealing.proofs.Theorems.{first-lists, seek-lists, step-lists}
use Rattle.image.specs.Pages.{cell_in}
use Rattle.image.specs.Image.{file_of}
use Rattle.image.specs.Good.{GoodDealing, TableRoot}
use Rattle.image.specs.Ready.{Opened, PageAt}
use Rattle.image.proofs.Shape.{shape}
use Rattle.image.proofs.Fields.{cell_field}
use Rattle.image.proofs.Tree.{cell-reads}
use Rattle.image.proofs.Records.{good-reads}
use Rattle.lookup.proofs.Theorems.{opened-image, leaf-length, leaf-payload, in_tree}
use Rattle.cursor.specs.Answers.{blank, cursor_from, row_of, last_page, last_index, path_of, stepped, answer_of, opened, first_of, seek_of, step_of}
use Rattle.cursor.specs.Means.{row_in, Stands, ShowsCell, NextRow, Lists, Climbs, RowCells, RowsOn}
use Rattle.cursor.specs.Shown as Sh
use Rattle.cursor.specs.declared.Cursor as Cu
use Rattle.cursor.specs.Stepped as St
use Rattle.cursor.proofs.Ways.{header-passes}
use Rattle.cursor.proofs.Next.{step_end, steps}
use Rattle.cursor.proofs.Round.{path-back, row_back}

none : (y : L.Path) → Mem y [] → ⊥
none y m = elim m [ ]

-- the cells at the ends of paths
unfoldable pub ends_of : List L.Path → List (ℕ × ℕ)
ends_of [] = []
ends_of (y ∷ ys) = (y.page, y.index) ∷ ends_of ys

ends-out : (s : ℕ × ℕ) (ys : List L.Path) → Mem s (ends_of ys) → (y : L.Path) × Mem y ys × (s ≡ (y.page, y.index))
unfolding ends_of
ends-out s [] m = elim m [ ]
ends-out s (y ∷ ys) (here e) = (y, here refl, e)
ends-out s (y ∷ ys) (there m) = let w = ends-out s ys m in (w.0, there w.1, w.2)

ends-in : (y : L.Path) (ys : List L.Path) → Mem y ys → Mem (y.page, y.index) (ends_of ys)
unfolding ends_of
ends-in y (z ∷ ys) (here e) = here (ap (λ (y : L.Path). (y.page, y.index)) e)
ends-in y (z ∷ ys) (there m) = there (ends-in y ys m)
ends-in y [] x' = elim x' [ ]

ends-climb : (b : List ℕ) (ys : List L.Path) → L.Rising (file_of b) ys → Climbs b (ends_of ys)
unfolding ends_of
ends-climb b [] o = tt
ends-climb b (y ∷ ys) o = (
  λ q j m.
      let w = ends-out (q, j) ys m in
      let e : row_in b q j ≡ row_in b w.0.page w.0.index = ap (λ (s : ℕ × ℕ). row_in b s.0 s.1) w.2 in
      let h = o.0 w.0 w.1 in
      omega arith,
  ends-climb b ys o.1,
)

module _ {b : List ℕ} {d : Dealing} (g : GoodDealing b d) {root : ℕ} (t : TableRoot b d root) where
  o : Opened b (header_of b)
  o = opened-image b g.passes

  cells_of : (x : ℕ) (ys : List L.Path) → L.RowsFrom (file_of b) d root x ys → RowCells b d root x (ends_of ys)
  cells_of x ys w =
      record {
        each = λ q j m.
            let e = ends-out (q, j) ys m in
            let h = w.each e.0 e.1 in
            subst (λ (s : ℕ × ℕ). LeafCell (file_of b) d root s.0 s.1 × (x ≤ row_in b s.0 s.1)) (sym e.2) h;
        all = λ q j l h.
            let e = w.all q j l h in
            subst (λ q. Mem (q, j) (ends_of ys)) e.2 (subst (λ i. Mem (e.0.page, i) (ends_of ys)) e.3 (ends-in e.0 ys e.1));
        rising = ends-climb b ys w.rising;
      }

  row_fits : (q j : ℕ) → LeafCell (file_of b) d root q j → row_in b q j < 2 ^ 64
  row_fits q j l =
      let s = shape o in
      let p = in_tree (file_of b) d root t.page t.kind l.0.0 q l.0.1 in
      let at : PageAt b (header_of b) q = record { opened = o; low = p.0.0; high = omega (arith, s.N-is, p.0.1) } in
      let r = cell-reads at (g.good.rule_23_26 q p.0 p.1) j l.2 in
      let e : row_in b q j ≡ (cell_in b q j).row = ap (λ (c : Cell). c.row) (cell_field b q j) in
      omega (arith, r.row-bound)

  short : (y : L.Path) → L.StandsUnder (file_of b) root y → length y.above < 20
  short y s = go (leb 20 (length y.above)) refl
    where
      go : (u : Bool) → leb 20 (length y.above) ≡ u → length y.above < 20
      go true u = absurd (W.too_long (file_of b) 20 y.above y.page y.index (leb-true 20 (length y.above) u) s.1)
      go false u = leb-false 20 (length y.above) u

  -- an answer that is at a path shows its cell
  shows : (y : L.Path) → L.StandsUnder (file_of b) root y → LeafCell (file_of b) d root y.page y.index → (kept : Cu.Cursor)
      → ShowsCell b d root y.page y.index (answer_of (file_of b) kept 0 (L.at y))
  shows y s l kept =
      let e = path-back y (short y s) in
      record {
        row = row_of (L.row_at (file_of b) y);
        carries = record { leaf = l; number = row_back (L.row_at (file_of b) y) (row_fits y.page y.index l) };
        shown = ap (λ n. Sh.Row y.page y.index n (row_of (L.row_at (file_of b) y))) (sym (leaf-length g t (pos 0) y.page y.index l));
        reads = good-reads g (leaf-payload t y.page y.index l);
        stands = record { some = λ z. omega arith; path = subst (L.StandsUnder (file_of b) root) (sym e) s };
        page_is = ap (λ (y : L.Path). y.page) e;
        cell_is = ap (λ (y : L.Path). y.index) e;
      }

  -- a step from it is that of the file
  steps_on : (y : L.Path) → L.StandsUnder (file_of b) root y → step_of b (cursor_from 0 y) ≡ answer_of (file_of b) (cursor_from 0 y) 0 (L.step (file_of b) y)
  steps_on y s = steps b (cursor_from 0 y) o (λ z. omega arith) ∙ ap (λ y'. answer_of (file_of b) (cursor_from 0 y) 0 (L.step (file_of b) y')) (path-back y (short y s))

  lists : (ys : List L.Path) → ((y : L.Path) → Mem y ys → L.StandsUnder (file_of b) root y) → ((y : L.Path) → Mem y ys → LeafCell (file_of b) d root y.page y.index)
      → (a : L.Shown) (kept : Cu.Cursor) → L.Runs (file_of b) a ys → Lists b d root (answer_of (file_of b) kept 0 a) (ends_of ys)
  unfolding ends_of
  lists [] s l a kept r = ap (answer_of (file_of b) kept 0) r
  lists (y ∷ ys) s l a kept r =
      subst (λ a. ShowsCell b d root y.page y.index (answer_of (file_of b) kept 0 a) × Lists b d root (step_of b (answer_of (file_of b) kept 0 a).cursor) (ends_of ys)) (sym r.0) (
        shows y (s y (here refl)) (l y (here refl)) kept,
        subst (λ x. Lists b d root x (ends_of ys)) (sym (steps_on y (s y (here refl))))
            (lists ys (λ z m. s z (there m)) (λ z m. l z (there m)) (L.step (file_of b) y) (cursor_from 0 y) r.1),
      )

  -- the first of these is the least
  next_row : (x : ℕ) (ys : List L.Path) → L.RowsFrom (file_of b) d root x ys → (a : L.Shown) (kept : Cu.Cursor) → L.Runs (file_of b) a ys → NextRow b d root x (answer_of (file_of b) kept 0 a)
  next_row x [] w a kept r =
      inr (ap (answer_of (file_of b) kept 0) r, λ q j l h. none (w.all q j l h).0 (w.all q j l h).1)
  next_row x (y ∷ ys) w a kept r =
      let e = w.each y (here refl) in
      subst (λ a. NextRow b d root x (answer_of (file_of b) kept 0 a)) (sym r.0)
      (inl (
        y.page,
        y.index,
        record { leaf = e.0; from = e.1; least = λ q j l h. smallest q j (w.all q j l h) },
        shows y (w.standing y (here refl)) e.0 kept,
      ))
    where
      smallest : (q j : ℕ) → ((z : L.Path) × Mem z (y ∷ ys) × (z.page ≡ q) × (z.index ≡ j)) → row_in b y.page y.index ≤ row_in b q j
      smallest q j (z, here e, p, i) =
          let k : row_in b z.page z.index ≡ row_in b y.page y.index = ap (L.row_at (file_of b)) e in
          let n : row_in b z.page z.index ≡ row_in b q j = ap (λ p. row_in b p z.index) p ∙ ap (row_in b q) i in
          omega arith
      smallest q j (z, there m, p, i) =
          let k : row_in b y.page y.index < row_in b z.page z.index = w.rising.0 z m in
          let n : row_in b z.page z.index ≡ row_in b q j = ap (λ p. row_in b p z.index) p ∙ ap (row_in b q) i in
          omega arith

  first-is : first_of b root ≡ answer_of (file_of b) blank 0 (L.first (file_of b) root)
  unfolding first_of
  first-is = ap (answer_of (file_of b) blank 0) (header-passes o (L.first (file_of b) root))

  seek_is : (row : ℤ) → seek_of b root row ≡ answer_of (file_of b) blank 0 (L.seek (file_of b) root (bias_of row))
  unfolding seek_of
  seek_is row = ap (answer_of (file_of b) blank 0) (header-passes o (L.seek (file_of b) root (bias_of row)))

  -- 1. First, step, step .. show every leaf cell of the root's tree once, in rising row order, and then the end.
  pub first-lists-cells : (ss : List (ℕ × ℕ)) × Lists b d root (first_of b root) ss × RowCells b d root 0 ss
  first-lists-cells =
      let w = first-lists (file_of b) d g.good root t.page t.kind t.table in (
        ends_of w.0,
        subst (λ r. Lists b d root r (ends_of w.0)) (sym first-is) (lists w.0 w.2.standing (λ y m. (w.2.each y m).0) (L.first (file_of b) root) blank w.1),
        cells_of 0 w.0 w.2,
      )

  -- 2. From a row number, those not below it.
  pub seek-lists-cells : (row : ℤ) → (ss : List (ℕ × ℕ)) × Lists b d root (seek_of b root row) ss × RowCells b d root (bias_of row) ss
  seek-lists-cells row =
      let w = seek-lists (file_of b) d g.good root t.page t.kind t.table (bias_of row) in (
        ends_of w.0,
        subst (λ r. Lists b d root r (ends_of w.0)) (sym (seek_is row)) (lists w.0 w.2.standing (λ y m. (w.2.each y m).0) (L.seek (file_of b) root (bias_of row)) blank w.1),
        cells_of (bias_of row) w.0 w.2,
      )

  -- 3. From a cursor that stands, those past its row.
  module _ (c : Cu.Cursor) (s : Stands b root c) where
    from-here : (ys : List L.Path) × L.Runs (file_of b) (L.step (file_of b) (path_of c)) ys × L.RowsFrom (file_of b) d root (suc (L.row_at (file_of b) (path_of c))) ys
    from-here = step-lists (file_of b) d g.good root t.page t.kind t.table (path_of c) s.path

    step_is : step_of b c ≡ answer_of (file_of b) c 0 (L.step (file_of b) (path_of c))
    step_is = steps b c o s.some

    pub step-lists-cells : (ss : List (ℕ × ℕ)) × Lists b d root (step_of b c) ss × RowCells b d root (suc (row_in b (last_page c) (last_index c))) ss
    step-lists-cells =
        let w = from-here in (
          ends_of w.0,
          subst (λ r. Lists b d root r (ends_of w.0)) (sym step_is) (lists w.0 w.2.standing (λ y m. (w.2.each y m).0) (L.step (file_of b) (path_of c)) c w.1),
          cells_of (suc (row_in b (last_page c) (last_index c))) w.0 w.2,
        )

    pub step-next : (r : St.Stepped) → r ≡ step_of b c → NextRow b d root (suc (row_in b (last_page c) (last_index c))) r
    step-next r e =
        let w = from-here in
        subst (NextRow b d root (suc (row_in b (last_page c) (last_index c)))) (sym (e ∙ step_is)) (next_row (suc (row_in b (last_page c) (last_index c))) w.0 w.2 (L.step (file_of b) (path_of c)) c w.1)

  pub first_next : (r : St.Stepped) → r ≡ first_of b root → NextRow b d root 0 r
  first_next r e =
      let w = first-lists (file_of b) d g.good root t.page t.kind t.table in
      subst (NextRow b d root 0) (sym (e ∙ first-is)) (next_row 0 w.0 w.2 (L.first (file_of b) root) blank w.1)

  pub seek-next : (row : ℤ) (r : St.Stepped) → r ≡ seek_of b root row → NextRow b d root (bias_of row) r
  seek-next row r e =
      let w = seek-lists (file_of b) d g.good root t.page t.kind t.table (bias_of row) in
      subst (NextRow b d root (bias_of row)) (sym (e ∙ seek_is row)) (next_row (bias_of row) w.0 w.2 (L.seek (file_of b) root (bias_of row)) blank w.1)

-- ---- any image that passes 1 to 11
module _ (b : List ℕ) (passes : header_refusal b ≡ 0) (c : Cu.Cursor) where
  -- the end stays the end
  pub end_stays : c.levels ≡ 0 → step_of b c ≡ stepped Sh.End blank
  end_stays z = sym (step_end b c (opened-image b passes) z)

  -- a stored path that does not stand is 49, and the cursor is as it was
  pub not-standing : c.levels ≢ 0 → (L.stands (file_of b) (path_of c) ≡ true → ⊥) → step_of b c ≡ stepped (Sh.Refused 49 0) c
  not-standing n h =
      steps b c (opened-image b passes) n
      ∙ ap (answer_of (file_of b) c 0) (W.not-standing (file_of b) level_limit (path_of c).above (last_page c) (last_index c) h)

-- ---- the entry points' promises, each from the equation
pub first_good : {b : List ℕ} (root : ℕ) {r : St.Stepped} → r ≡ first_of b root
    → record {
      answer : r ≡ first_of b root;
      good : (d : Dealing) → GoodDealing b d → TableRoot b d root → RowsOn b d root 0 r;
    }
first_good root {r} e = record {
  answer = e;
  good = λ d g t. let w = first-lists-cells g t in record { next = first_next g t r e; cells = w.0; are = w.2; lists = rw e w.1 };
}

pub seek-good : {b : List ℕ} (root : ℕ) (row : ℤ) {r : St.Stepped} → r ≡ seek_of b root row
    → record {
      answer : r ≡ seek_of b root row;
      good : (d : Dealing) → GoodDealing b d → TableRoot b d root → RowsOn b d root (bias_of row) r;
    }
seek-good root row {r} e = record {
  answer = e;
  good = λ d g t. let w = seek-lists-cells g t row in record { next = seek-next g t row r e; cells = w.0; are = w.2; lists = rw e w.1 };
}

pub step-good : {b : List ℕ} (c : Cu.Cursor) {r : St.Stepped} → r ≡ step_of b c
    → record {
      answer : r ≡ step_of b c;
      good : (d : Dealing) (root : ℕ) → GoodDealing b d → TableRoot b d root → Stands b root c → RowsOn b d root (suc (row_in b (last_page c) (last_index c))) r;
    }
step-good c {r} e = record {
  answer = e;
  good = λ d root g t s. let w = step-lists-cells g t c s in record { next = step-next g t c s r e; cells = w.0; are = w.2; lists = rw e w.1 };
}
