-- What the writing of entries leaves.
use Rattle.std.specs.Prelude.{ℕ, ◌+◌, ◌*◌, ◌≡◌, List, ◌++◌, take, drop}
use Rattle.paging.specs.Pages.{join_pages}
use Rattle.wire.specs.Wire.{entry_of}

-- the entries of the pages 1 to n behind the first 5 bytes; all else is as it was
pub record Laid (out kinds namers steps : List ℕ) (n : ℕ) (out' : List ℕ) : Type 0 where
  pub is : out' ≡ take 5 out ++ (join_pages (entry_of kinds namers steps) n ++ drop (5 + n * 9) out)
