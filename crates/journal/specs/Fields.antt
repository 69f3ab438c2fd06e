-- The first header's sizes, read once, in their ranges, and the pages of the image before.
use Rattle.std.specs.Prelude.{◌≡◌, ℕ, ◌≤◌, Bool, false, cond, List}
use Rattle.paging.specs.Pages.{size_fits}
use Rattle.journal.specs.Header.{pages_in, sector_of, size_of}

-- both are sizes: a power of two from 512 to 65536
abbrev pub sizes_fit : List ℕ → Bool
sizes_fit j = cond (size_fits (size_of j)) (size_fits (sector_of j)) false

pub record Sizes (j : List ℕ) (size sector : ℕ) : Type 0 where
  pub is_size : size ≡ size_of j
  pub is_sector : sector ≡ sector_of j
  pub least : 512 ≤ size
  pub most : size ≤ 65536
  pub sector_least : 512 ≤ sector
  pub sector_most : sector ≤ 65536

pub record Fields (j : List ℕ) (size sector n : ℕ) : Type 0 where
  pub sizes : Sizes j size sector
  pub is_pages : n ≡ pages_in j
