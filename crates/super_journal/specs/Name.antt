-- A transaction over several files writes, at the end of each file's journal, the name of its super-journal: the name, its length, its sum, the magic.
-- As sqlite3 reads it: the last 16 bytes are length, sum and magic.
use Rattle.std.specs.Prelude.{ℕ, ◌+◌, ◌-◌, ◌%◌, ◌^◌, Bool, false, cond, not, List, [], ◌∷◌, length, ◌==◌, nat_lt, Option, Some, None}
use Rattle.number.specs.Bytes.{byte_at, be, part}
use Rattle.journal.specs.Header.{magic_high, magic_low}
use Rattle.super_journal.specs.declared.Name.{Name}

-- a byte taken as signed, modulo 2^32
abbrev pub signed_byte : ℕ → ℕ
signed_byte x = cond (nat_lt x 128) x (x + (2 ^ 32 - 256))

-- the sum of bytes taken as signed, modulo 2^32
unfoldable pub signed_sum : List ℕ → ℕ
signed_sum [] = 0
signed_sum (x ∷ xs) = (signed_byte x + signed_sum xs) % 2 ^ 32

-- where the last 16 bytes begin, and what they say
abbrev pub trailer_of : List ℕ → ℕ
trailer_of j = length j - 16

abbrev pub length_of : List ℕ → ℕ
length_of j = be 4 j (trailer_of j)

abbrev pub sum_of : List ℕ → ℕ
sum_of j = be 4 j (trailer_of j + 4)

-- the name ends where they begin
abbrev pub start_of : List ℕ → ℕ
start_of j = trailer_of j - length_of j

-- the magic ends the journal
abbrev pub is_marked : List ℕ → Bool
is_marked j = cond (be 4 j (trailer_of j + 8) == magic_high) (be 4 j (trailer_of j + 12) == magic_low) false

-- the length is 1 to 512, and at most the bytes before
abbrev pub is_measured : List ℕ → Bool
is_measured j = cond (length_of j == 0) false (cond (nat_lt 512 (length_of j)) false (not (nat_lt (trailer_of j) (length_of j))))

-- the sum is the name's; a name that begins with a zero byte is none
abbrev pub is_summed : List ℕ → Bool
is_summed j = cond (signed_sum (part j (start_of j) (length_of j)) == sum_of j) (not (byte_at j (start_of j) == 0)) false

-- the journal names a super-journal
unfoldable pub is_named : List ℕ → Bool
is_named j = cond (nat_lt (length j) 16) false (cond (is_marked j) (cond (is_measured j) (is_summed j) false) false)

-- the name's place, or none
abbrev pub name_of : List ℕ → Option Name
name_of j = cond (is_named j) (Some (record { start = start_of j; length = length_of j })) None
