-- A sound table leaf laid anew with one cell another: it is sound, has the same cells but for that one, which is read as it was written.
use Prim.Native.Nat.{ℕ, zero, suc, ◌+◌, ◌-◌, ◌<◌, ◌≤◌}
use mathlib.Core.Path.{◌≡◌, refl, sym, ap, ◌∙◌, subst}
use mathlib.Core.Bool.{Bool, true, false, cond}
use mathlib.Core.Logic.{◌≢◌}
use mathlib.Core.List.{List, []}
use native.Mathlib.Omega.{arith}
use lib.Dec.{eqb}
use lib.IntN.{ℤ}
use lib.ListN.{length, get_or, take}
use lib.Seq.{take_all}
use mir.Syntax.{w64}
use mir.Val.{SFits}
use borrow.Author.Tests.{eq-eqb, ne_eqb}
use Rattle.number.specs.Bytes.{byte_at, part}
use Rattle.number.proofs.VarintReading.{Stands}
use Rattle.paging.proofs.PagesLaws.{part_length, part_at}
use Rattle.cell.specs.declared.Cell as D
use Rattle.cell.specs.Split.{table_leaf, max_local}
use Rattle.cell.specs.Cell.{cell_at}
use Rattle.cell.proofs.SplitLaws.{local-all}
use Rattle.cell.proofs.CellLaws.{CellRead}
use Rattle.page.specs.Header.{page_type, cell_count, pointer, cell_of}
use Rattle.page.specs.Fault.{sound_fault}
use Rattle.page.proofs.PageLaws.{Checks, sound-checks}
use Rattle.writing.specs.Cells.{leaf_cell, leaf_at, leaf_start, local_of, RowFits}
use Rattle.writing.proofs.CellsRead.{leaf-read, leaf-local}
use Rattle.writing.proofs.PagesSound.{CellBytes, AllCells, leaf-bytes}
use Rattle.altered.proofs.SameReads.{entries-same}
use Rattle.setting.specs.Relaid.{cell_part, cell_with, cells_with, leaf_room, leaf_page}
use Rattle.setting.proofs.Moved.{MovedCell, cell-moved, start-low}
use Rattle.setting.proofs.Stack.{Cells}
use Rattle.setting.proofs.LeafLaid.{LeafLaid, leaf-laid}

-- parts of two lists, at places of their own, that agree
pub parts-alike : (l m : List ℕ) (at to n : ℕ) → at + n ≤ length l → to + n ≤ length m → ((i : ℕ) → i < n → byte_at l (at + i) ≡ byte_at m (to + i))
    → part l at n ≡ part m to n
parts-alike l m at to n h k e =
    let x = part_length l at n h in
    let y = part_length m to n k in
    entries-same (part l at n) (part m to n) (x ∙ sym y)
    (λ i w. part_at l at n i (omega arith) ∙ e i (omega arith) ∙ sym (part_at m to n i (omega arith)))

-- ---- the list of cells
pub cells-length : (p : List ℕ) (u cell : ℕ) (fresh : List ℕ) (i k : ℕ) → length (cells_with p u cell fresh i k) ≡ k
unfolding cells_with
cells-length p u cell fresh i zero = refl
cells-length p u cell fresh i (suc k) = ap suc (cells-length p u cell fresh (i + 1) k)

pub cells_at : (p : List ℕ) (u cell : ℕ) (fresh : List ℕ) (i k j : ℕ) → j < k → get_or (cells_with p u cell fresh i k) j [] ≡ cell_with p u cell fresh (i + j)
unfolding cells_with
cells_at p u cell fresh i zero j l = absurd (omega arith)
cells_at p u cell fresh i (suc k) zero l = let e : i ≡ i + 0 = omega arith in ap (cell_with p u cell fresh) e
cells_at p u cell fresh i (suc k) (suc j) l =
    let e : i + 1 + j ≡ i + suc j = omega arith in
    cells_at p u cell fresh (i + 1) k j (omega arith) ∙ ap (cell_with p u cell fresh) e

all-with : (p : List ℕ) (u cell : ℕ) (fresh : List ℕ) (i k : ℕ) → ((j : ℕ) → i ≤ j → j < i + k → CellBytes u table_leaf (cell_with p u cell fresh j))
    → AllCells u table_leaf (cells_with p u cell fresh i k)
unfolding cells_with
all-with p u cell fresh i zero f = tt
all-with p u cell fresh i (suc k) f =
    (f i (omega arith) (omega arith), all-with p u cell fresh (i + 1) k (λ j l m. f j (omega arith) (omega arith)))

-- ---- a cell of a sound leaf, as bytes
module _ (p : List ℕ) (u : ℕ) (hp : u ≤ length p) (least-u : 480 ≤ u) (leaf : page_type p 0 ≡ table_leaf) (z : sound_fault p u 0 ≡ 0) where
  checks : Checks p u 0
  checks = sound-checks p u 0 least-u z

  module _ (j : ℕ) (l : j < cell_count p 0) where
    abbrev at : ℕ
    at = pointer p 0 j

    pub cell_is : cell_of p u 0 j ≡ cell_at p u table_leaf at
    cell_is = ap (λ t. cell_at p u t at) leaf

    read : CellRead p u table_leaf at (cell_at p u table_leaf at)
    read = subst (λ t. CellRead p u t at (cell_at p u t at)) leaf (checks.read j l)

    fault-none : (cell_at p u table_leaf at).fault ≡ 0
    fault-none = read.no-fault

    end_is : (cell_of p u 0 j).end ≡ (cell_at p u table_leaf at).end
    end_is = ap (λ (c : D.Cell). c.end) cell_is

    pub part-long : length (cell_part p u j) ≡ (cell_at p u table_leaf at).end - at
    part-long =
        part_length p at ((cell_of p u 0 j).end - at) (omega (arith, read.within, read.least, end_is)) ∙ ap (λ e. e - at) end_is

    module _ (q : List ℕ) (to : ℕ) (hq : u ≤ length q) (room : to + length (cell_part p u j) ≤ u) (stands : Stands q to (cell_part p u j)) where
      same : (i : ℕ) → i < (cell_at p u table_leaf at).end - at → byte_at q (to + i) ≡ byte_at p (at + i)
      same i h =
          stands i (omega (arith, part-long)) ∙ part_at p at ((cell_of p u 0 j).end - at) i (omega (arith, end_is))

      pub part_moved : MovedCell (cell_at p u table_leaf at) (cell_at q u table_leaf to) at to
      part_moved = cell-moved p q u at to hq fault-none (omega (arith, part-long)) same

      -- its local bytes stand there too
      pub part-local : part q (cell_at q u table_leaf to).start (cell_at p u table_leaf at).local
          ≡ part p (cell_at p u table_leaf at).start (cell_at p u table_leaf at).local
      part-local =
          let x = cell_at p u table_leaf at in
          let y = cell_at q u table_leaf to in
          let s = part_moved.start in
          let low = start-low p u at fault-none in
          let e = read.ends in
          let h = read.within in
          let n = part-long in
          parts-alike q p y.start x.start x.local (omega arith) (omega arith)
          (λ i k. let a : y.start + i ≡ to + (x.start - at + i) = omega arith in
          let b : at + (x.start - at + i) ≡ x.start + i = omega arith in
          ap (byte_at q) a ∙ same (x.start - at + i) (omega arith) ∙ ap (byte_at p) b)

    pub part_bytes : CellBytes u table_leaf (cell_part p u j)
    part_bytes =
        record {
          least = omega (arith, part-long, read.least);
          fault = λ q to h e s. (part_moved q to h e s).fault ∙ fault-none;
          end = λ q to h e s. omega (arith, (part_moved q to h e s).end, part-long, read.least);
        }

-- ---- the page laid anew
-- q has p's cells, that with index `cell` being the row's with the record s
pub record Relays (p q : List ℕ) (u cell : ℕ) (row : ℤ) (s : List ℕ) : Type 0 where
  pub no-fault : sound_fault q u 0 ≡ 0
  pub type-is : page_type q 0 ≡ table_leaf
  pub count_is : cell_count q 0 ≡ cell_count p 0
  -- another cell: the same, elsewhere
  pub moved : (j : ℕ) → j < cell_count p 0 → j ≢ cell → MovedCell (cell_of p u 0 j) (cell_of q u 0 j) (pointer p 0 j) (pointer q 0 j)
  pub local : (j : ℕ) → j < cell_count p 0 → j ≢ cell
      → part q (cell_of q u 0 j).start (cell_of p u 0 j).local ≡ part p (cell_of p u 0 j).start (cell_of p u 0 j).local
  pub part_same : (j : ℕ) → j < cell_count p 0 → j ≢ cell → cell_part q u j ≡ cell_part p u j
  -- the cell itself: its row, all of the record, no long spelling
  pub fresh : cell_of q u 0 cell ≡ leaf_at u row s 0 (pointer q 0 cell)
  pub whole : (cell_of q u 0 cell).local ≡ length s
  pub bytes : part q (cell_of q u 0 cell).start (length s) ≡ s

module _ (p q : List ℕ) (u cell : ℕ) (row : ℤ) (s : List ℕ) (hp : u ≤ length p) (hq : u ≤ length q) (least-u : 480 ≤ u) (most-u : u ≤ 65536)
    (leaf : page_type p 0 ≡ table_leaf) (z : sound_fault p u 0 ≡ 0) (index : cell < cell_count p 0) (fits : SFits w64 row)
    (short : length s ≤ max_local u table_leaf)
    (room : leaf_room (cells_with p u cell (leaf_cell u row s 0) 0 (cell_count p 0)) ≤ u)
    (laid : Stands q 0 (leaf_page u (cells_with p u cell (leaf_cell u row s 0) 0 (cell_count p 0)))) where
  abbrev new : List ℕ
  new = leaf_cell u row s 0

  abbrev cs : Cells
  cs = cells_with p u cell new 0 (cell_count p 0)

  row_fits : RowFits row s 0
  row_fits = record { number = fits; limit = omega arith; link = omega arith }

  local-is : local_of u s ≡ length s
  local-is = sym (local-all u table_leaf (length s) short)

  each : (j : ℕ) → j < cell_count p 0 → CellBytes u table_leaf (cell_with p u cell new j)
  each j l = go (eqb j cell)
    where
      go : (t : Bool) → CellBytes u table_leaf (cond t new (cell_part p u j))
      go true = leaf-bytes u row s 0 least-u row_fits
      go false = part_bytes p u hp least-u leaf z j l

  is : LeafLaid q u cs
  is = leaf-laid q u cs most-u hq room (all-with p u cell new 0 (cell_count p 0) (λ j a l. each j (omega arith))) laid

  long : length cs ≡ cell_count p 0
  long = cells-length p u cell new 0 (cell_count p 0)

  entry : (j : ℕ) → j < cell_count p 0 → get_or cs j [] ≡ cell_with p u cell new j
  entry j l = let e : 0 + j ≡ j = omega arith in cells_at p u cell new 0 (cell_count p 0) j l ∙ ap (cell_with p u cell new) e

  in_place : (j : ℕ) → j < cell_count p 0 → Stands q (pointer q 0 j) (cell_with p u cell new j)
  in_place j l =
      subst (Stands q (pointer q 0 j)) (entry j l)
      (subst (λ a. Stands q a (get_or cs j [])) (sym (is.pointer_is j (omega (arith, long)))) (is.stands j (omega (arith, long))))

  ends-in : (j : ℕ) → j < cell_count p 0 → pointer q 0 j + length (cell_with p u cell new j) ≤ u
  ends-in j l =
      let e : length (get_or cs j []) ≡ length (cell_with p u cell new j) = ap length (entry j l) in
      omega (arith, is.pointer_is j (omega (arith, long)), is.ends j (omega (arith, long)))

  cell-at : (j : ℕ) → j < cell_count p 0 → cell_of q u 0 j ≡ cell_at q u table_leaf (pointer q 0 j)
  cell-at j l = ap (λ t. cell_at q u t (pointer q 0 j)) is.type-is

  module _ (j : ℕ) (l : j < cell_count p 0) (n : j ≢ cell) where
    other : cell_with p u cell new j ≡ cell_part p u j
    other = ap (λ t. cond t new (cell_part p u j)) (ne_eqb j cell n)

    there : Stands q (pointer q 0 j) (cell_part p u j)
    there = subst (Stands q (pointer q 0 j)) other (in_place j l)

    fits_in : pointer q 0 j + length (cell_part p u j) ≤ u
    fits_in = subst (λ c. pointer q 0 j + length c ≤ u) other (ends-in j l)

    moved_at : MovedCell (cell_of p u 0 j) (cell_of q u 0 j) (pointer p 0 j) (pointer q 0 j)
    moved_at =
        rw (cell-at j l, cell_is p u hp least-u leaf z j l)
        (part_moved p u hp least-u leaf z j l q (pointer q 0 j) hq fits_in there)

    local_at : part q (cell_of q u 0 j).start (cell_of p u 0 j).local ≡ part p (cell_of p u 0 j).start (cell_of p u 0 j).local
    local_at =
        rw (cell-at j l, cell_is p u hp least-u leaf z j l)
        (part-local p u hp least-u leaf z j l q (pointer q 0 j) hq fits_in there)

    -- all of its bytes
    part-at-new : cell_part q u j ≡ cell_part p u j
    part-at-new =
        let at = pointer p 0 j in
        let to = pointer q 0 j in
        let k = (cell_of p u 0 j).end - at in
        let r = read p u hp least-u leaf z j l in
        let e = end_is p u hp least-u leaf z j l in
        let n : length (cell_part p u j) ≡ k = part_length p at k (omega (arith, r.within, r.least, e)) in
        let same : (cell_of q u 0 j).end - to ≡ k = omega (arith, moved_at.end, r.least, e) in
        ap (part q to) same
        ∙ parts-alike q p to at k (omega (arith, fits_in, n)) (omega (arith, r.within, r.least, e))
        (λ i h. there i (omega (arith, n)) ∙ part_at p at k i h)

  this : cell_with p u cell new cell ≡ new
  this = ap (λ t. cond t new (cell_part p u cell)) (eq-eqb cell cell refl)

  new-stands : Stands q (pointer q 0 cell) new
  new-stands = subst (Stands q (pointer q 0 cell)) this (in_place cell index)

  new-ends : pointer q 0 cell + length new ≤ u
  new-ends = subst (λ c. pointer q 0 cell + length c ≤ u) this (ends-in cell index)

  new-read : cell_of q u 0 cell ≡ leaf_at u row s 0 (pointer q 0 cell)
  new-read = cell-at cell index ∙ leaf-read q u row s 0 (pointer q 0 cell) least-u hq row_fits new-ends new-stands

  new-local : part q (leaf_start row s (pointer q 0 cell)) (length s) ≡ s
  new-local =
      subst (λ n. part q (leaf_start row s (pointer q 0 cell)) n ≡ take n s) local-is
      (leaf-local q u row s 0 (pointer q 0 cell) least-u hq row_fits new-ends new-stands)
      ∙ take_all (length s) s (omega arith)

  pub relays : Relays p q u cell row s
  relays =
      record {
        no-fault = is.no-fault;
        type-is = is.type-is;
        count_is = is.count_is ∙ long;
        moved = moved_at;
        local = local_at;
        part_same = part-at-new;
        fresh = new-read;
        whole = ap (λ (c : D.Cell). c.local) new-read ∙ local-is;
        bytes = ap (λ (c : D.Cell). part q c.start (length s)) new-read ∙ new-local;
      }
