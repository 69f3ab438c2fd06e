-- The wire format of ledgers: a 4-byte length of what follows, version byte 1, then for each
-- page one kind byte, 4 bytes namer, 4 bytes step. Numbers are big-endian.
use Rattle.std.specs.Prelude.{ℕ, ◌+◌, ◌-◌, ◌*◌, ◌/◌, ◌%◌, List, [], ◌∷◌, ◌++◌, get_or}
use Rattle.paging.specs.Pages.{join_pages}

-- x in 4 bytes; of a number too large for them the low ones
unfoldable pub four : ℕ → List ℕ
four x = (x / 16777216 % 256) ∷ (x / 65536 % 256) ∷ (x / 256 % 256) ∷ (x % 256) ∷ []

-- what stands in front of n entries: the length of all that follows it, the version
unfoldable pub frame : (n : ℕ) → List ℕ
frame n = four (1 + n * 9) ++ (1 ∷ [])

-- a page's entry
unfoldable pub entry : (kind namer step : ℕ) → List ℕ
entry k h s = k ∷ (four h ++ four s)

-- the pages 1 to n, each with its kind, namer and step
unfoldable pub spelled : (kind namer step : ℕ → ℕ) (n : ℕ) → List ℕ
spelled k h s n = frame n ++ join_pages (λ p. entry (k p) (h p) (s p)) n

-- by ledgers: page p has the entry with index p - 1 of each
abbrev pub at : List ℕ → (p : ℕ) → ℕ
at l p = get_or l (p - 1) 0

abbrev pub entry_of : (kinds namers steps : List ℕ) (p : ℕ) → List ℕ
entry_of ks ns ss p = entry (at ks p) (at ns p) (at ss p)

-- their first n entries
abbrev pub proposal_of : (n : ℕ) (kinds namers steps : List ℕ) → List ℕ
proposal_of n ks ns ss = spelled (at ks) (at ns) (at ss) n
