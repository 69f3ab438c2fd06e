-- Small journals' ends, by computing.
use Rattle.std.proofs.Common.{◌≡◌, ℕ, List, [], ◌∷◌, ◌++◌, refl, Option, Some, None}
use Rattle.super_journal.specs.declared.Name.{Name}
use Rattle.number.specs.Bytes.{be}
use Rattle.super_journal.specs.Name.{is_named, signed_sum, name_of}

-- the magic
abbrev magic : List ℕ
magic = 0xd9 ∷ 0xd5 ∷ 0x05 ∷ 0xf9 ∷ 0x20 ∷ 0xa1 ∷ 0x63 ∷ 0xd7 ∷ []

abbrev none : Option Name
none = None

abbrev at : (start length : ℕ) → Option Name
at start length = Some (record { start = start; length = length })

-- the name "a" behind two bytes of something else
plain : name_of ((7 ∷ 7 ∷ 97 ∷ 0 ∷ 0 ∷ 0 ∷ 1 ∷ 0 ∷ 0 ∷ 0 ∷ 97 ∷ []) ++ magic) ≡ at 2 1
unfolding is_named signed_sum be
plain = refl

-- a byte of 255 counts as minus one
signed : name_of ((255 ∷ 0 ∷ 0 ∷ 0 ∷ 1 ∷ 255 ∷ 255 ∷ 255 ∷ 255 ∷ []) ++ magic) ≡ at 0 1
unfolding is_named signed_sum be
signed = refl

unsigned : name_of ((255 ∷ 0 ∷ 0 ∷ 0 ∷ 1 ∷ 0 ∷ 0 ∷ 0 ∷ 255 ∷ []) ++ magic) ≡ none
unfolding is_named signed_sum be
unsigned = refl

-- a name that begins with a zero byte is none
empty : name_of ((0 ∷ 97 ∷ 0 ∷ 0 ∷ 0 ∷ 2 ∷ 0 ∷ 0 ∷ 0 ∷ 97 ∷ []) ++ magic) ≡ none
unfolding is_named signed_sum be
empty = refl

-- a name of two bytes where only one stands before
long : name_of ((97 ∷ 0 ∷ 0 ∷ 0 ∷ 2 ∷ 0 ∷ 0 ∷ 0 ∷ 97 ∷ []) ++ magic) ≡ none
unfolding is_named signed_sum be
long = refl

-- no magic
other : name_of (97 ∷ 0 ∷ 0 ∷ 0 ∷ 1 ∷ 0 ∷ 0 ∷ 0 ∷ 97 ∷ 0xd9 ∷ 0xd5 ∷ 0x05 ∷ 0xf9 ∷ 0x20 ∷ 0xa1 ∷ 0x63 ∷ 0xd6 ∷ []) ≡ none
unfolding is_named signed_sum be
other = refl
