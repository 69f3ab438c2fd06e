-- Varints worked by hand, proved of the definitions.
use Rattle.std.proofs.Common.{◌≡◌, ℕ, ◌-◌, ◌^◌, true, false, List, [], ◌∷◌, length, pos, negsuc, Option, Some, refl}
use Rattle.number.specs.Varint.{number_is, word_from, varint_at, answer_of, size_from, groups, spelling, shortest}
use Rattle.number.specs.declared.Varint.{Varint}

-- what the whole of some bytes reads as
abbrev pub reading : List ℕ → Option Varint
reading b = answer_of (varint_at b 0 (length b))

-- 5b is 91
pub ninety-one : reading (0x5b ∷ []) ≡ Some (number_is (pos 91) 1 true)
unfolding varint_at word_from size_from
ninety-one = refl

-- 84 60 is 608
pub six-hundred-eight : reading (0x84 ∷ 0x60 ∷ []) ≡ Some (number_is (pos 608) 2 true)
unfolding varint_at word_from size_from
six-hundred-eight = refl

-- 80 01 is 1
pub one-in-two : reading (0x80 ∷ 0x01 ∷ []) ≡ Some (number_is (pos 1) 2 false)
unfolding varint_at word_from size_from
one-in-two = refl

-- nine ff are -1
pub minus_one : reading (0xff ∷ 0xff ∷ 0xff ∷ 0xff ∷ 0xff ∷ 0xff ∷ 0xff ∷ 0xff ∷ 0xff ∷ []) ≡ Some (number_is (negsuc 0) 9 true)
unfolding varint_at word_from size_from
minus_one = refl

-- nine bytes are the shortest from 2^56 on, and not below: 2^56, then 2^56 - 1
pub nine-needed : reading (0x80 ∷ 0xc0 ∷ 0x80 ∷ 0x80 ∷ 0x80 ∷ 0x80 ∷ 0x80 ∷ 0x80 ∷ 0 ∷ []) ≡ Some (number_is (pos (2 ^ 56)) 9 true)
unfolding varint_at word_from size_from
nine-needed = refl

pub nine-not-needed : reading (0x80 ∷ 0xbf ∷ 0xff ∷ 0xff ∷ 0xff ∷ 0xff ∷ 0xff ∷ 0xff ∷ 0xff ∷ []) ≡ Some (number_is (pos (2 ^ 56 - 1)) 9 false)
unfolding varint_at word_from size_from
nine-not-needed = refl

-- 2^56-1 takes 8 bytes, 2^56 takes 9
pub takes-eight : length (shortest (pos (2 ^ 56 - 1))) ≡ 8
unfolding size_from groups spelling
takes-eight = refl

pub takes-nine : length (shortest (pos (2 ^ 56))) ≡ 9
unfolding size_from groups spelling
takes-nine = refl
