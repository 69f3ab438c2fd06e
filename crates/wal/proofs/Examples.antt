-- Worked by hand: log words 1, 2, 3, 4 give (7, 14), in both word orders.
use Prim.Native.Nat.{ℕ}
use mathlib.Core.Path.{◌≡◌, refl}
use mathlib.Core.Bool.{true, false}
use mathlib.Core.List.{List, [], ◌∷◌}
use Rattle.number.specs.Bytes.{be}
use Rattle.paging.specs.Pages.{size_fits}
use Rattle.wal.specs.Sums.{le, sums_over}
use Rattle.wal.specs.State.{state_of, nothing}

abbrev big_words : List ℕ
big_words = 0 ∷ 0 ∷ 0 ∷ 1 ∷ 0 ∷ 0 ∷ 0 ∷ 2 ∷ 0 ∷ 0 ∷ 0 ∷ 3 ∷ 0 ∷ 0 ∷ 0 ∷ 4 ∷ []

abbrev little_words : List ℕ
little_words = 1 ∷ 0 ∷ 0 ∷ 0 ∷ 2 ∷ 0 ∷ 0 ∷ 0 ∷ 3 ∷ 0 ∷ 0 ∷ 0 ∷ 4 ∷ 0 ∷ 0 ∷ 0 ∷ []

pub words-big : sums_over true big_words 0 2 (0, 0) ≡ (7, 14)
unfolding sums_over be
words-big = refl

pub words-little : sums_over false little_words 0 2 (0, 0) ≡ (7, 14)
unfolding sums_over le
words-little = refl

-- sums wrap: words 2^32 - 1 and 1, carried on from (1, 0), give (0, 1)
pub words-wrap : sums_over true (255 ∷ 255 ∷ 255 ∷ 255 ∷ 0 ∷ 0 ∷ 0 ∷ 1 ∷ []) 0 1 (1, 0) ≡ (0, 1)
unfolding sums_over be
words-wrap = refl

-- page sizes of a log: 65536 is one, 256, 768 and 131072 are none
pub size-65536 : size_fits 65536 ≡ true
unfolding size_fits
size-65536 = refl

pub size-256 : size_fits 256 ≡ false
unfolding size_fits
size-256 = refl

pub size-768 : size_fits 768 ≡ false
unfolding size_fits
size-768 = refl

pub size-131072 : size_fits 131072 ≡ false
unfolding size_fits
size-131072 = refl

-- an empty log has nothing to recover
pub empty-log : state_of [] ≡ nothing
unfolding state_of
empty-log = refl
