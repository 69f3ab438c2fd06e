-- A journal's headers: 8 bytes of magic, then five 4-byte numbers. The first stands at 0.
use Rattle.std.specs.Prelude.{ℕ, ◌+◌, Bool, true, false, cond, not, List, length, ◌==◌, nat_lt}
use Rattle.number.specs.Bytes.{be}

-- d9 d5 05 f9 20 a1 63 d7, as two numbers
abbrev pub magic_high : ℕ
magic_high = 0xd9d505f9

abbrev pub magic_low : ℕ
magic_low = 0x20a163d7

-- it stands at `at`
abbrev pub is_magic : List ℕ → (at : ℕ) → Bool
is_magic j at = cond (be 4 j at == magic_high) (be 4 j (at + 4) == magic_low) false

-- each header, the one at s: how many records its segment has, or ffffffff: all whole records; and their nonce
abbrev pub count_at : List ℕ → (s : ℕ) → ℕ
count_at j s = be 4 j (s + 8)

abbrev pub nonce_at : List ℕ → (s : ℕ) → ℕ
nonce_at j s = be 4 j (s + 12)

-- at most so many records are read; of all whole records there are fewer than bytes
abbrev pub most_at : List ℕ → (s : ℕ) → ℕ
most_at j s = cond (count_at j s == 0xffffffff) (length j) (count_at j s)

-- the first header alone: n, the image's size before, in pages
abbrev pub pages_in : List ℕ → ℕ
pages_in j = be 4 j 16

-- records start a sector behind their header
abbrev pub sector_of : List ℕ → ℕ
sector_of j = be 4 j 20

abbrev pub size_of : List ℕ → ℕ
size_of j = be 4 j 24

-- under 28 bytes or wrong magic: there is no journal
unfoldable pub absent : List ℕ → Bool
absent j = cond (nat_lt (length j) 28) true (cond (be 4 j 0 == magic_high) (not (be 4 j 4 == magic_low)) true)

-- a later header stands at s: 28 bytes, the magic, and the first header's sector and page size
unfoldable pub headed : List ℕ → (s : ℕ) → Bool
headed j s =
    cond (nat_lt (length j) (s + 28)) false
    (cond (be 4 j s == magic_high)
    (cond (be 4 j (s + 4) == magic_low) (cond (be 4 j (s + 20) == sector_of j) (be 4 j (s + 24) == size_of j) false) false)
    false)
