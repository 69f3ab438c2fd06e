-- A leaf's cells, laid row by row.
--     Left, left-starts, left-on, left-ends     what is left of them: whatever becomes of that becomes of the page
-- Assumes nothing.
use Prim.Native.Nat.{ℕ, zero, suc, ◌+◌, ◌-◌, ◌*◌, ◌^◌, ◌<◌, ◌≤◌}
use mathlib.Core.Path.{◌≡◌, refl, sym, ap, ◌∙◌, subst}
use mathlib.Core.List.{List, [], ◌∷◌}
use native.Mathlib.Omega.{arith}
use lib.IntN.{ℤ, pos}
use lib.ListN.{length, get_or, take, drop, length-map, length-drop}
use lib.Seq.{length-take-le}
use Rattle.number.specs.Bytes.{part}
use Rattle.paging.specs.Pages.{over}
use Rattle.paging.proofs.PagesLaws.{length_over}
use Rattle.writing.specs.Cells.{be_bytes, leaf_cell}
use Rattle.writing.specs.Pages.{joined, start_of}
use Rattle.writing.specs.Rows.{Row, row_cell, row_cells, links_of}
use Rattle.writing.specs.Layout.{size, links_all}
use Rattle.writing.specs.Given.{links_for, rows_from, Held, cells_laid, CellPlace}
use Rattle.writing.proofs.Standing.{be-length}
use Rattle.writing.proofs.SideBySide.{joined_length}
use Rattle.writing.proofs.LayoutLaws.{links-more}
use Rattle.writing.proofs.CellsLaid.{cells-on, cells-none}

-- ---- rows that are given

pub rows_none : (ns : List ℤ) (ls ps : List ℕ) (i off t : ℕ) → rows_from ns ls ps 0 i off t ≡ []
unfolding rows_from
rows_none ns ls ps i off t = refl

module _ (ns : List ℤ) (ls ps : List ℕ) (m j from next : ℕ) where
  -- the first of them, and the others
  abbrev pub row_here : Row
  row_here = record { number = get_or ns j (pos 0); payload = part ps from (get_or ls j 0); first = next }

  pub rows_more : rows_from ns ls ps (suc m) j from next
      ≡ row_here ∷ rows_from ns ls ps m (j + 1) (from + get_or ls j 0) (next + links_of size (part ps from (get_or ls j 0)))
  unfolding rows_from
  rows_more = refl

pub rows-count : (ns : List ℤ) (ls ps : List ℕ) (m j from next : ℕ) → length (rows_from ns ls ps m j from next) ≡ m
unfolding rows_from
rows-count ns ls ps zero j from next = refl
rows-count ns ls ps (suc m) j from next =
    ap suc (rows-count ns ls ps m (j + 1) (from + get_or ls j 0) (next + links_of size (part ps from (get_or ls j 0))))

pub part_length : (ps : List ℕ) (from l : ℕ) → from + l ≤ length ps → length (part ps from l) ≡ l
part_length ps from l h = length-take-le l _ (omega (arith, length-drop from ps))

-- ---- what is left

pub record Left (target : List ℕ) (room : ℕ) (ns : List ℤ) (ls ps : List ℕ) (page : ℕ) (now : List ℕ) (k m j at from next : ℕ) : Type 0 where
  pub same : length now ≡ room
  pub held : Held ls ps m j from
  pub place : at + length (joined (row_cells size (rows_from ns ls ps m j from next))) ≡ size
  pub low : 8 + 2 * (k + m) ≤ at
  pub links : next + links_all (rows_from ns ls ps m j from next) < 2 ^ 32
  pub is : cells_laid now (page + 8 + 2 * k) (page + at) (row_cells size (rows_from ns ls ps m j from next)) ≡ target

module _ (target : List ℕ) (room : ℕ) (ns : List ℤ) (ls ps : List ℕ) (page : ℕ) (now : List ℕ) (k m j at from next : ℕ) (whole : page + size ≤ room)
    (left : Left target room ns ls ps page now k (suc m) j at from next) where
  abbrev l : ℕ
  l = get_or ls j 0

  abbrev payload : List ℕ
  payload = part ps from l

  abbrev cell : List ℕ
  cell = leaf_cell size (get_or ns j (pos 0)) payload next

  abbrev rest : List Row
  rest = rows_from ns ls ps m (j + 1) (from + l) (next + links_of size payload)

  payload-is : length payload ≡ l
  payload-is = part_length ps from l left.held.1

  joined_is : length (joined (row_cells size (rows_from ns ls ps (suc m) j from next))) ≡ length cell + length (joined (row_cells size rest))
  joined_is = ap (λ r. length (joined (row_cells size r))) (rows_more ns ls ps m j from next) ∙ joined_length cell (row_cells size rest)

  rest-count : length (row_cells size rest) ≡ m
  rest-count = length-map rest (row_cell size) ∙ rows-count ns ls ps m (j + 1) (from + l) (next + links_of size payload)

  pub left-place : CellPlace room page k at (get_or ns j (pos 0)) payload next
  left-place =
      record {
        whole = whole;
        limit = omega (arith, payload-is, left.held.0);
        low = omega (arith, left.low);
        high = omega (arith, left.place, joined_is);
      }

  links-is : links_all (rows_from ns ls ps (suc m) j from next) ≡ links_of size payload + links_all rest
  links-is = ap links_all (rows_more ns ls ps m j from next) ∙ links-more (row_here ns ls ps m j from next) rest

  -- the number of the next chain fits
  pub left-links : next + links_for l < 2 ^ 32
  left-links = omega (arith, left.links, links-is, ap links_for payload-is)

  pub left-on : (now' : List ℕ) (at' from' next' : ℕ) → at' ≡ at + length cell
      → now' ≡ over (over now (page + 8 + 2 * k) (be_bytes 2 at)) (page + at) cell
      → from' ≡ from + l → next' ≡ next + links_for l → Left target room ns ls ps page now' (k + 1) m (j + 1) at' from' next'
  left-on now' at' from' next' e f g h =
      let n : next' ≡ next + links_of size payload = h ∙ ap (λ x. next + links_for x) (sym payload-is) in
      let R = row_cells size rest in
      let s : start_of size (cell ∷ R) ≡ at = omega (arith, left.place, joined_is, joined_length cell R) in
      let in_row = left-place in
      let whole_is : length now' ≡ room =
      ap length f ∙ length_over (over now (page + 8 + 2 * k) (be_bytes 2 at)) (page + at) cell (omega (
        arith,
        in_row.high,
        left.same,
        length_over now (page + 8 + 2 * k) (be_bytes 2 at) (omega (arith, be-length 2 at, in_row.low, in_row.high, left.same)),
      ))
      ∙ length_over now (page + 8 + 2 * k) (be_bytes 2 at) (omega (arith, be-length 2 at, in_row.low, in_row.high, left.same)) ∙ left.same in
      let laid : cells_laid now' (page + 8 + 2 * (k + 1)) (page + at') R ≡ target =
      ap (λ x. cells_laid x (page + 8 + 2 * (k + 1)) (page + at') R) f
      ∙ cells-on now (page + 8 + 2 * k) (page + at) at (page + 8 + 2 * (k + 1)) (page + at') cell R (sym s) (omega arith) (omega arith)
      (omega (arith, left.low, rest-count)) (omega (arith, left.place, left.same, joined_is, joined_length cell R))
      ∙ ap (λ r. cells_laid now (page + 8 + 2 * k) (page + at) (row_cells size r)) (sym (rows_more ns ls ps m j from next)) ∙ left.is in
      rw (g, n) (record {
        same = whole_is;
        held = left.held.2;
        place = omega (arith, left.place, joined_is);
        low = omega (arith, left.low, in_row.low);
        links = omega (arith, left.links, links-is);
        is = laid;
      })

pub left-ends : (target : List ℕ) (room : ℕ) (ns : List ℤ) (ls ps : List ℕ) (page : ℕ) (now : List ℕ) (k m j at from next : ℕ) → m ≡ 0
    → Left target room ns ls ps page now k m j at from next → now ≡ target
left-ends target room ns ls ps page now k m j at from next z left =
    let e : rows_from ns ls ps m j from next ≡ [] = ap (λ x. rows_from ns ls ps x j from next) z ∙ rows_none ns ls ps j from next in
    sym (cells-none now (page + 8 + 2 * k) (page + at)) ∙ ap (λ r. cells_laid now (page + 8 + 2 * k) (page + at) (row_cells size r)) (sym e) ∙ left.is

-- ---- the loop's turn

module _ (target : List ℕ) (room : ℕ) (ns : List ℤ) (ls ps : List ℕ) (page : ℕ) (now : List ℕ) (k count i at from next : ℕ)
    (whole : page + size ≤ room) (less : k < count)
    (left : Left target room ns ls ps page now k (count - k) (i + k) at from next) where
  abbrev size-here : ℕ
  size-here = get_or ls (i + k) 0

  turn : Left target room ns ls ps page now k (suc (count - (k + 1))) (i + k) at from next
  turn = let e : count - k ≡ suc (count - (k + 1)) = omega arith in subst (λ m. Left target room ns ls ps page now k m (i + k) at from next) e left

  pub turn-held : (size-here ≤ 65536) × (from + size-here ≤ length ps)
  turn-held = (turn.held.0, turn.held.1)

  pub turn-links : next + links_for size-here < 2 ^ 32
  turn-links = left-links target room ns ls ps page now k (count - (k + 1)) (i + k) at from next whole turn

  module _ (row' : ℤ) (n : ℕ) (row_is : row' ≡ get_or ns (i + k) (pos 0)) (n-is : n ≡ size-here) where
    as-given : leaf_cell size row' (take n (drop from ps)) next ≡ leaf_cell size (get_or ns (i + k) (pos 0)) (part ps from size-here) next
    as-given =
        ap (λ (x : ℤ). leaf_cell size x (take n (drop from ps)) next) row_is
        ∙ ap (λ x. leaf_cell size (get_or ns (i + k) (pos 0)) (take x (drop from ps)) next) n-is

    pub turn-place : CellPlace (length now) page k at row' (take n (drop from ps)) next
    turn-place =
        let p = left-place target room ns ls ps page now k (count - (k + 1)) (i + k) at from next whole turn in
        rw (row_is, n-is, turn.same) p

    pub turn_on : (now' : List ℕ) (at' links : ℕ) → (at' ≡ at + length (leaf_cell size row' (take n (drop from ps)) next))
        × (now' ≡ over (over now (page + 8 + 2 * k) (be_bytes 2 at)) (page + at) (leaf_cell size row' (take n (drop from ps)) next))
        → links ≡ links_for size-here
        → Left target room ns ls ps page now' (k + 1) (count - (k + 1)) (i + (k + 1)) at' (from + size-here) (next + links)
    turn_on now' at' links e l =
        let j : i + k + 1 ≡ i + (k + 1) = omega arith in
        subst (λ x. Left target room ns ls ps page now' (k + 1) (count - (k + 1)) x at' (from + size-here) (next + links)) j
        (left-on target room ns ls ps page now k (count - (k + 1)) (i + k) at from next whole turn now' at' (from + size-here) (next + links)
        (e.0 ∙ ap (λ x. at + length x) as-given) (e.1 ∙ ap (over (over now (page + 8 + 2 * k) (be_bytes 2 at)) (page + at)) as-given)
        refl (ap (λ x. next + x) l))
