-- `writing::put_first` meets its contract. Assumes nothing.
use Prim.Native.Nat.{◌+◌, ◌-◌, ◌≤◌}
use mathlib.Core.Path.{◌≡◌}
use lib.IntN.{pos}
use lib.ListN.{length}
use native.Mathlib.Omega.{arith}
use Rattle.writing.specs.Cells.{leaf_cell}
use Rattle.writing.specs.Layout.{size}
use Rattle.writing.proofs.FirstLaws.{first-start, first-laid}
use Rattle.writing.proofs.put_first.Goals as goal
use Rattle.writing.proofs.put_first.Goals.{After-cell_size-start}

-- the schema's cell is short, and ends the page
starts : (c : After-cell_size-start) → (c.cell_size-start.result ≤ 914) × (1024 - c.cell_size-start.result + length (leaf_cell size (pos 1) c.args.schema.now 0) ≡ 1024)
starts c =
    first-start _ _ c.requires.1 c.cell_size-start.ensures

pub overflow_sub-start : goal.overflow_sub-start
overflow_sub-start c = omega (arith, starts (goal.at.overflow_sub-start c).After-cell_size-start)

pub overflow_sub-start-2 : goal.overflow_sub-start-2
overflow_sub-start-2 c = omega (arith, starts (goal.at.overflow_sub-start-2 c).After-cell_size-start)

pub put_row-requires : goal.put_row-requires
put_row-requires c = omega (arith, starts (goal.at.put_row-requires c).After-cell_size-start)

pub returns : goal.returns
returns c =
    let f = starts (goal.at.returns c).After-cell_size-start in
    first-laid _ _ _ _ _ _ _ _ (1024 - c.cell_size-start.result) c.requires.0 c.requires.1 (omega (arith, f)) f.1
    c.put_header.ensures c.put_start.ensures c.put_half.ensures c.put_zeros.ensures
    c.put_row.ensures.1
