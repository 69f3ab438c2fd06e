-- What lookup and fetching a payload mean for a good image, whatever form the answer has: nothing here speaks of how they go.
-- dealing/specs/File.antt says how to read it.
use Rattle.std.specs.Prelude.{ℕ, ◌≤◌, ◌<◌, ◌≡◌, ◌↔◌, List, ◌++◌, ℤ, length, drop}
use Rattle.dealing.specs.Good.{Dealing}
use Rattle.image.specs.Payload.{payload_of}
use Rattle.image.specs.Good.{Carries, OnPages}
use Rattle.lookup.specs.Found as Fo
use Rattle.lookup.specs.Fetched as Fe

-- An answer of lookup is read by three statements: it shows that cell, with that length; it is nothing; it is a refusal.
pub record Finds (b : List ℕ) (d : Dealing) (root : ℕ) (row : ℤ) (Shows : (page cell n : ℕ) → Type 0) (Nothing Refuses : Type 0) : Type 0 where
  -- it shows a cell exactly when that is a leaf cell of the root's tree that carries the row number, with the length of its payload
  pub shows : (page cell n : ℕ) → Shows page cell n ↔ (Carries b d root row page cell × (n ≡ length (payload_of b page cell)))
  -- there is at most one such cell
  pub once : (page cell page' cell' : ℕ) → Carries b d root row page cell → Carries b d root row page' cell' → (page ≡ page') × (cell ≡ cell')
  -- it is nothing exactly when there is none
  pub nothing : Nothing ↔ ((page cell : ℕ) → Carries b d root row page cell → ⊥)
  -- no row number is refused
  pub passes : Refuses → ⊥

abbrev pub Shows : Fo.Found → (page cell n : ℕ) → Type 0
Shows r page cell n = r ≡ Fo.At page cell n

abbrev pub Nothing : Fo.Found → Type 0
Nothing r = r ≡ Fo.Nothing

abbrev pub Refuses : Fo.Found → Type 0
Refuses r = (number page : ℕ) × (r ≡ Fo.Refused number page)

-- An answer of fetching is read by two: so many bytes were copied; there was no room (44). `out` is the buffer at entry, `out'` at exit.
pub record Fetches (b : List ℕ) (d : Dealing) (page cell : ℕ) (out out' : List ℕ) (Copied : (n : ℕ) → Type 0) (NoRoom : Type 0) : Type 0 where
  -- what the payload is
  pub on_pages : OnPages b d page cell
  -- it is copied where there is room, and what the buffer held past it stays
  pub copied : length (payload_of b page cell) ≤ length out
      → Copied (length (payload_of b page cell)) × (out' ≡ payload_of b page cell ++ drop (length (payload_of b page cell)) out)
  -- else nothing is written
  pub no_room : length out < length (payload_of b page cell) → NoRoom × (out' ≡ out)

abbrev pub Copied : Fe.Fetched → (n : ℕ) → Type 0
Copied r n = r ≡ Fe.Copied n

abbrev pub NoRoom : Fe.Fetched → Type 0
NoRoom r = r ≡ Fe.Refused 44 0
