-- What it means that two images give the same answers. Definitions only; dealing/specs/File.antt says how to read them.
use Rattle.std.specs.Prelude.{ℕ, zero, suc, ◌≡◌, ◌↔◌, List, ℤ, length}
use Rattle.dealing.specs.File.{Page, root_kind}
use Rattle.dealing.specs.Good.{Dealing}
use Rattle.dealing.specs.Cursor.{top_of}
use Rattle.image.specs.Payload.{payload_of}
use Rattle.image.specs.Image.{file_of}
use Rattle.image.specs.Good.{GoodDealing, PayloadCell}
use Rattle.names.specs.Good.{GoodDealingFor}
use Rattle.dealing.specs.Spelling.{long_in}
use Rattle.verdict.specs.Answer as A
use Rattle.verdict.specs.Verdict.{verdict_is, kinds_at, namers_at, steps_at}
use Rattle.lookup.specs.Answers.{lookup_of, fetched_of, out_of}
use Rattle.lookup.specs.Found as Found
use Rattle.cursor.specs.declared.Cursor.{Cursor}
use Rattle.cursor.specs.Stepped.{Stepped}
use Rattle.cursor.specs.Shown as Shown
use Rattle.cursor.specs.Answers.{path_of, first_of, seek_of, step_of}

-- a root: a page of 1 to N and kind 1, of a table or of an index
abbrev pub Root : List ℕ → Dealing → (root : ℕ) → Type 0
Root b d root = Page (file_of b) root × (d.kind root ≡ root_kind)

-- an answer of the cursor, and then n steps on, each with the cursor that the one before it handed back
unfoldable pub steps_from : List ℕ → Stepped → (n : ℕ) → Stepped
steps_from b r zero = r
steps_from b r (suc n) = step_of b (steps_from b r n).cursor

-- the first page of a cursor's path
abbrev pub first_page : Cursor → ℕ
first_page k = top_of (path_of k).above (path_of k).page

-- fetching that cell's payload: the answer, the payload, and what the buffer holds then
pub record SameBytes (b c : List ℕ) (page cell : ℕ) : Type 0 where
  pub fetched : (room : ℕ) → fetched_of c page cell room ≡ fetched_of b page cell room
  pub payload : payload_of c page cell ≡ payload_of b page cell
  pub buffer : (out : List ℕ) → out_of (fetched_of c page cell (length out)) (payload_of c page cell) out ≡ out_of (fetched_of b page cell (length out)) (payload_of b page cell) out

-- ---- lengths may differ: an answer of b's with the lengths that cells have in c
abbrev pub found_in : (c : List ℕ) → Found.Found → Found.Found
found_in c Found.Nothing = Found.Nothing
found_in c (Found.At page cell n) = Found.At page cell ((file_of c).cell page cell).length
found_in c (Found.Refused number page) = Found.Refused number page

abbrev pub shown_in : (c : List ℕ) → Shown.Shown → Shown.Shown
shown_in c Shown.End = Shown.End
shown_in c (Shown.Row page cell n row) = Shown.Row page cell ((file_of c).cell page cell).length row
shown_in c (Shown.Refused number page) = Shown.Refused number page

abbrev pub stepped_in : (c : List ℕ) → Stepped → Stepped
stepped_in c r = record { shown = shown_in c r.shown; cursor = r.cursor }

-- a verdict with another count of numbers spelled long
abbrev pub recounted : (count : ℕ) → A.Answer → A.Answer
recounted n (A.Accepted pages m) = A.Accepted pages n
recounted n (A.Refused number page) = A.Refused number page

-- c answers as b does but for payloads, their lengths and the count of numbers spelled long, which is its own; d is b's good dealing
pub record LikePlaces (b c : List ℕ) (d : Dealing) : Type 0 where
  pub good : GoodDealing c d
  pub good_for : (ordered : List ℕ) → GoodDealingFor ordered b d ↔ GoodDealingFor ordered c d
  pub verdict : (ordered : List ℕ) (kinds namers steps : ℕ)
      → verdict_is c ordered kinds namers steps ≡ recounted (long_in (file_of c) d) (verdict_is b ordered kinds namers steps)
  pub kinds : (ordered ks : List ℕ) (namers steps : ℕ) → kinds_at c ordered ks namers steps ≡ kinds_at b ordered ks namers steps
  pub namers : (ordered : List ℕ) (kinds : ℕ) (ns : List ℕ) (steps : ℕ) → namers_at c ordered kinds ns steps ≡ namers_at b ordered kinds ns steps
  pub steps : (ordered : List ℕ) (kinds namers : ℕ) (ss : List ℕ) → steps_at c ordered kinds namers ss ≡ steps_at b ordered kinds namers ss
  pub lookup : (root : ℕ) → Root b d root → (row : ℤ) → lookup_of c root row ≡ found_in c (lookup_of b root row)
  pub first : (root : ℕ) → Root b d root → (n : ℕ) → steps_from c (first_of c root) n ≡ stepped_in c (steps_from b (first_of b root) n)
  pub seek : (root : ℕ) → Root b d root → (row : ℤ) (n : ℕ) → steps_from c (seek_of c root row) n ≡ stepped_in c (steps_from b (seek_of b root row) n)
  pub step : (root : ℕ) → Root b d root → (k : Cursor) → first_page k ≡ root → step_of c k ≡ stepped_in c (step_of b k)

-- b and c give the same answers but for the bytes of payloads; d is b's good dealing
pub record SamePlaces (b c : List ℕ) (d : Dealing) : Type 0 where
  pub good : GoodDealing c d
  pub good_for : (ordered : List ℕ) → GoodDealingFor ordered b d ↔ GoodDealingFor ordered c d
  pub verdict : (ordered : List ℕ) (kinds namers steps : ℕ) → verdict_is c ordered kinds namers steps ≡ verdict_is b ordered kinds namers steps
  pub kinds : (ordered ks : List ℕ) (namers steps : ℕ) → kinds_at c ordered ks namers steps ≡ kinds_at b ordered ks namers steps
  pub namers : (ordered : List ℕ) (kinds : ℕ) (ns : List ℕ) (steps : ℕ) → namers_at c ordered kinds ns steps ≡ namers_at b ordered kinds ns steps
  pub steps : (ordered : List ℕ) (kinds namers : ℕ) (ss : List ℕ) → steps_at c ordered kinds namers ss ≡ steps_at b ordered kinds namers ss
  pub lookup : (root : ℕ) → Root b d root → (row : ℤ) → lookup_of c root row ≡ lookup_of b root row
  pub first : (root : ℕ) → Root b d root → (n : ℕ) → steps_from c (first_of c root) n ≡ steps_from b (first_of b root) n
  pub seek : (root : ℕ) → Root b d root → (row : ℤ) (n : ℕ) → steps_from c (seek_of c root row) n ≡ steps_from b (seek_of b root row) n
  pub step : (root : ℕ) → Root b d root → (k : Cursor) → first_page k ≡ root → step_of c k ≡ step_of b k
  -- what fetching a payload answers: its length, or that there is no room
  pub fetched : (page cell : ℕ) → PayloadCell b d page cell → (room : ℕ) → fetched_of c page cell room ≡ fetched_of b page cell room

-- b and c give the same answers; d is b's good dealing
pub record SameAnswers (b c : List ℕ) (d : Dealing) : Type 0 where
  -- it is c's too, also for a caller who names roots as plain ascending: c is good for just the names that b is good for
  pub good : GoodDealing c d
  pub good_for : (ordered : List ℕ) → GoodDealingFor ordered b d ↔ GoodDealingFor ordered c d
  -- the verdict, with the count of numbers spelled long, and the ledgers at exit, whatever roots are named and ledgers lent: 12 and 33 to 35 included
  pub verdict : (ordered : List ℕ) (kinds namers steps : ℕ) → verdict_is c ordered kinds namers steps ≡ verdict_is b ordered kinds namers steps
  pub kinds : (ordered ks : List ℕ) (namers steps : ℕ) → kinds_at c ordered ks namers steps ≡ kinds_at b ordered ks namers steps
  pub namers : (ordered : List ℕ) (kinds : ℕ) (ns : List ℕ) (steps : ℕ) → namers_at c ordered kinds ns steps ≡ namers_at b ordered kinds ns steps
  pub steps : (ordered : List ℕ) (kinds namers : ℕ) (ss : List ℕ) → steps_at c ordered kinds namers ss ≡ steps_at b ordered kinds namers ss
  -- lookup under every root
  pub lookup : (root : ℕ) → Root b d root → (row : ℤ) → lookup_of c root row ≡ lookup_of b root row
  -- the cursor under every root, from the first row and from a given number, through any number of steps (with 0 it is first and seek themselves)
  pub first : (root : ℕ) → Root b d root → (n : ℕ) → steps_from c (first_of c root) n ≡ steps_from b (first_of b root) n
  pub seek : (root : ℕ) → Root b d root → (row : ℤ) (n : ℕ) → steps_from c (seek_of c root row) n ≡ steps_from b (seek_of b root row) n
  -- and a step of any cursor whose path begins at a root, whether it stands or not
  pub step : (root : ℕ) → Root b d root → (k : Cursor) → first_page k ≡ root → step_of c k ≡ step_of b k
  -- the payload of every cell of a tree that has one ..
  pub cell : (page cell : ℕ) → PayloadCell b d page cell → SameBytes b c page cell
  -- .. so of each that lookup or the cursor shows
  pub found : (root : ℕ) → Root b d root → (row : ℤ) (page cell n : ℕ) → lookup_of b root row ≡ Found.At page cell n → SameBytes b c page cell
  pub first_shown : (root : ℕ) → Root b d root → (n page cell length : ℕ) (row : ℤ)
      → (steps_from b (first_of b root) n).shown ≡ Shown.Row page cell length row → SameBytes b c page cell
  pub seek_shown : (root : ℕ) → Root b d root → (from : ℤ) (n page cell length : ℕ) (row : ℤ)
      → (steps_from b (seek_of b root from) n).shown ≡ Shown.Row page cell length row → SameBytes b c page cell
