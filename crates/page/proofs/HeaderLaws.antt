-- Laws of the header's fields, as the code reads them.
-- Assumes nothing.
use mathlib.Core.Path.{◌≡◌, sym, ap, ◌∙◌}
use mathlib.Core.Bool.{Bool, true, false, ◌||◌}
use mathlib.Core.List.{List}
use Prim.Native.Nat.{ℕ, ◌+◌, ◌*◌}
use native.Mathlib.Omega.{arith}
use borrow.Author.Tests.{eq-eqb, ne_eqb}
use Rattle.number.specs.Bytes.{be}
use Rattle.cell.specs.declared.Cell.{Cell}
use Rattle.cell.specs.Cell.{child_width, cell_at}
use Rattle.page.specs.Header.{page_type, start_of, right_pointer, pointer_place, cell_of}

-- the pointer array
module _ (p : List ℕ) (head kind first : ℕ) (k : kind ≡ page_type p head) (f : first ≡ head + 8 + child_width kind) where
  pub place_of : (i : ℕ) → first + 2 * i ≡ pointer_place p head i
  place_of i = let w : child_width kind ≡ child_width (page_type p head) = ap child_width k in omega arith
