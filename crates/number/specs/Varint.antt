-- Varints: 1 to 9 bytes; the first eight give 7 low bits each, the ninth all 8; a top bit set in bytes 1 to 8
-- means that another follows.
use Rattle.std.specs.Prelude.{ℕ, zero, suc, ◌+◌, ◌-◌, ◌*◌, ◌/◌, ◌%◌, ◌^◌, Bool, cond, List, [], ◌∷◌, ◌++◌, length, drop, ℤ, Option, Some, None, ◌==◌, nat_lt}
use Rattle.number.specs.Bytes.{byte_at, signed_of, word_of}
use Rattle.number.specs.declared.Word.{Word}
use Rattle.number.specs.declared.Varint.{Varint}

abbrev pub word_is : (length bits : ℕ) → Word
word_is n w = record { length = n; bits = w }

-- input that ends inside a varint: no length
abbrev pub short_word : Word
short_word = word_is 0 0

-- where bytes end that may be read up to `end`
abbrev pub stop_at : List ℕ → (end : ℕ) → ℕ
stop_at b end = cond (nat_lt (length b) end) (length b) end

-- `left` bytes may still come, from `at` on; n bytes were read, and gave `bits`
unfoldable pub word_from : (left : ℕ) → List ℕ → (stop at n bits : ℕ) → Word
word_from zero b stop at n bits = short_word
word_from (suc left) b stop at n bits =
    cond (nat_lt at stop)
    (cond (left == 0) (word_is (n + 1) (bits * 256 + byte_at b at))
    (cond (nat_lt (byte_at b at) 128) (word_is (n + 1) (bits * 128 + byte_at b at))
    (word_from left b stop (at + 1) (n + 1) (bits * 128 + (byte_at b at - 128)))))
    short_word

-- the varint at `at`, where bytes at or past `end` are not read: its length (0: short) and its 64 bits, unsigned
unfoldable pub varint_at : List ℕ → (at end : ℕ) → Word
varint_at b at end = word_from 9 b (stop_at b end) at 0 0

abbrev pub varint_length : List ℕ → (at end : ℕ) → ℕ
varint_length b at end = (varint_at b at end).length

abbrev pub varint_bits : List ℕ → (at end : ℕ) → ℕ
varint_bits b at end = (varint_at b at end).bits

-- how many bytes the shortest spelling of 64 bits takes
unfoldable pub size_from : (left n bits : ℕ) → ℕ
size_from zero n bits = n
size_from (suc left) n bits = cond (nat_lt bits 128) n (size_from left (n + 1) (bits / 128))

-- 1 to 8 for the bits below 2^7 to 2^56, else 9
abbrev pub varint_size : (bits : ℕ) → ℕ
varint_size bits = size_from 8 1 bits

-- the spelling read is the shortest: it has the length that the writer uses
abbrev pub is_shortest : (length bits : ℕ) → Bool
is_shortest length bits = length == varint_size bits

-- 1 where a number is spelled long, in more bytes than the writer uses, else 0 (`long-or-shortest`: of bytes, where it is not the shortest)
abbrev pub long_of : Word → ℕ
long_of w = cond (nat_lt (varint_size w.bits) w.length) 1 0

abbrev pub number_is : (value : ℤ) (length : ℕ) (shortest : Bool) → Varint
number_is v n s = record { value = v; length = n; shortest = s }

-- the reader's answer: the result is signed 64-bit; none where the input ends inside the varint
abbrev pub answer_of : Word → Option Varint
answer_of w = cond (w.length == 0) None (Some (number_is (signed_of (2 ^ 63) w.bits) w.length (is_shortest w.length w.bits)))

-- `bits` in n groups of 7 bits, each with its top bit set
unfoldable pub groups : (n bits : ℕ) → List ℕ
groups zero bits = []
groups (suc n) bits = groups n (bits / 128) ++ ((bits % 128 + 128) ∷ [])

-- the spelling of `bits` in n bytes: n - 1 groups with the top bit set, then a group without; of nine bytes the last has 8 bits
unfoldable pub spelling : (n bits : ℕ) → List ℕ
spelling n bits =
    cond (n == 9) (groups 8 (bits / 256) ++ ((bits % 256) ∷ [])) (groups (n - 1) (bits / 128) ++ ((bits % 128) ∷ []))

-- the shortest spelling of a signed 64-bit number
abbrev pub shortest : ℤ → List ℕ
shortest v = spelling (varint_size (word_of v)) (word_of v)

-- the writer's answer, and what the lent bytes hold then: without room nothing is written
abbrev pub written_of : ℤ → (room : ℕ) → Option ℕ
written_of v room = cond (nat_lt room (varint_size (word_of v))) None (Some (varint_size (word_of v)))

abbrev pub laid_over : ℤ → List ℕ → List ℕ
laid_over v out = cond (nat_lt (length out) (varint_size (word_of v))) out (shortest v ++ drop (varint_size (word_of v)) out)
