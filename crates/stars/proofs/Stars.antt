-- The starred lines of "Checked by hand", as one table, proved of the definitions that the contracts cite.
use Rattle.std.specs.Prelude.{Some}
use Prim.Native.Nat.{◌-◌, ◌^◌}
use mathlib.Core.Path.{◌≡◌, refl}
use mathlib.Core.Bool.{true, false}
use mathlib.Core.List.{[], ◌∷◌}
use lib.IntN.{pos, negsuc}
use lib.ListN.{length}
use Rattle.number.specs.Bytes.{be}
use Rattle.number.specs.Varint.{number_is, word_from, varint_at, answer_of, size_from, groups, spelling, shortest}
use Rattle.cell.specs.Split.{index_interior, index_leaf, table_leaf, local_size}
use Rattle.wal.specs.Sums.{le, sums_over}

pub record Stars : Type 0 where
  -- 5b is 91
  pub line-1 : answer_of (varint_at (0x5b ∷ []) 0 1) ≡ Some (number_is (pos 91) 1 true)
  -- 84 60 is 608
  pub line-2 : answer_of (varint_at (0x84 ∷ 0x60 ∷ []) 0 2) ≡ Some (number_is (pos 608) 2 true)
  -- 80 01 is 1
  pub line-3 : answer_of (varint_at (0x80 ∷ 0x01 ∷ []) 0 2) ≡ Some (number_is (pos 1) 2 false)
  -- nine ff are -1
  pub line-4 : answer_of (varint_at (0xff ∷ 0xff ∷ 0xff ∷ 0xff ∷ 0xff ∷ 0xff ∷ 0xff ∷ 0xff ∷ 0xff ∷ []) 0 9) ≡ Some (number_is (negsuc 0) 9 true)
  -- 2^56-1 takes 8 bytes
  pub line-5 : length (shortest (pos (2 ^ 56 - 1))) ≡ 8
  -- 2^56 takes 9
  pub line-6 : length (shortest (pos (2 ^ 56))) ≡ 9
  -- U 512, table leaf: P 477 all local
  pub line-7 : local_size 512 table_leaf 477 ≡ 477
  -- 478 gives 39
  pub line-8 : local_size 512 table_leaf 478 ≡ 39
  -- 547 gives 39
  pub line-9 : local_size 512 table_leaf 547 ≡ 39
  -- 600 gives 92
  pub line-10 : local_size 512 table_leaf 600 ≡ 92
  -- index, leaf and interior: 102 all local
  pub line-11 : (local_size 512 index_leaf 102 ≡ 102) × (local_size 512 index_interior 102 ≡ 102)
  -- 103 gives 39
  pub line-12 : (local_size 512 index_leaf 103 ≡ 39) × (local_size 512 index_interior 103 ≡ 39)
  -- log words 1, 2, 3, 4 give (7, 14), as big-endian words
  pub line-13 : sums_over true (0 ∷ 0 ∷ 0 ∷ 1 ∷ 0 ∷ 0 ∷ 0 ∷ 2 ∷ 0 ∷ 0 ∷ 0 ∷ 3 ∷ 0 ∷ 0 ∷ 0 ∷ 4 ∷ []) 0 2 (0, 0) ≡ (7, 14)
  -- and as little-endian ones
  pub line-14 : sums_over false (1 ∷ 0 ∷ 0 ∷ 0 ∷ 2 ∷ 0 ∷ 0 ∷ 0 ∷ 3 ∷ 0 ∷ 0 ∷ 0 ∷ 4 ∷ 0 ∷ 0 ∷ 0 ∷ []) 0 2 (0, 0) ≡ (7, 14)

pub stars : Stars
unfolding varint_at word_from size_from groups spelling local_size sums_over be le
stars =
    record {
      line-1 = refl;
      line-2 = refl;
      line-3 = refl;
      line-4 = refl;
      line-5 = refl;
      line-6 = refl;
      line-7 = refl;
      line-8 = refl;
      line-9 = refl;
      line-10 = refl;
      line-11 = (refl, refl);
      line-12 = (refl, refl);
      line-13 = refl;
      line-14 = refl;
    }
