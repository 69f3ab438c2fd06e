-- What the parts of the page's check do to the table of lengths: m is the table before, m' after.
use Rattle.std.specs.Prelude.{◌≡◌, Bool, true, false, cond, List, [], ◌∷◌, ◌⊎◌, ℕ, ◌+◌, ◌-◌, ◌*◌, ◌%◌, ◌≤◌, ◌<◌, eqb, length, get_or}
use Rattle.cell.specs.Split.{table_interior}
use Rattle.cell.specs.Cell.{cell_at}
use Rattle.page.specs.Header.{page_type, cell_count, content_start, pointer_place, pointer, cell_of}
use Rattle.page.specs.Sound.{Span, block_next, block_size, Freeblock, Freeblocks, Within, AllWithin, cell_spans, cover, zeros}
use Rattle.page.specs.Fault.{cell_fault, cells_fault, sound_fault}

-- what lies at or past u is as it was
abbrev pub Past : (u : ℕ) → (m m' : List ℕ) → Type 0
Past u m m' = (j : ℕ) → u ≤ j → get_or m' j 0 ≡ get_or m j 0

-- a..e is 0, and what lies past e is as it was
pub record Cleared (m m' : List ℕ) (a e : ℕ) : Type 0 where
  pub zero : (j : ℕ) → a ≤ j → j < e → get_or m' j 0 ≡ 0
  pub past : (j : ℕ) → e ≤ j → get_or m' j 0 ≡ get_or m j 0

-- The table of lengths. Of the four bytes from a multiple of 4 on, the first is 0, or one more than which of the four a span begins at; the next two are
-- its length past 4, the small end first.
abbrev pub slot : (j : ℕ) → ℕ
slot j = j - j % 4

-- the length that is noted for a span at j, 0 for none
unfoldable pub length_at : List ℕ → (j : ℕ) → ℕ
length_at m j = cond (eqb (get_or m (slot j) 0) (j % 4 + 1)) (get_or m (slot j + 1) 0 + 256 * get_or m (slot j + 2) 0 + 4) 0

-- a span of `size` bytes at `at` is noted, in the place of any other that begins at one of the same four bytes
pub record Noted (m m' : List ℕ) (at size : ℕ) : Type 0 where
  pub here : length_at m' at ≡ size
  pub near : (j : ℕ) → slot j ≡ slot at → (j ≡ at → ⊥) → length_at m' j ≡ 0
  pub far : (j : ℕ) → (slot j ≡ slot at → ⊥) → length_at m' j ≡ length_at m j
  pub past : (j : ℕ) → at + 4 ≤ j → get_or m' j 0 ≡ get_or m j 0

-- the way over what is noted at j, which is not 1; 1 where nothing is
pub record Hop (m : List ℕ) (j r : ℕ) : Type 0 where
  pub gap : r ≡ 1 → length_at m j ≡ 0
  pub over : (r ≡ 1 → ⊥) → (r ≡ length_at m j) × (length_at m j ≡ 0 → ⊥)

-- the lengths of spans together
abbrev pub total : List Span → ℕ
total [] = 0
total (s ∷ ss) = s.end - s.from + total ss

-- a span of start..u with at least 4 bytes
pub record Lies (start u : ℕ) (s : Span) : Type 0 where
  pub low : start ≤ s.from
  pub least : s.from + 4 ≤ s.end
  pub high : s.end ≤ u

abbrev pub AllLie : (start u : ℕ) → List Span → Type 0
AllLie start u [] = Unit {0}
AllLie start u (s ∷ ss) = Lies start u s × AllLie start u ss

-- each span lies there, and they are noted one after the other
abbrev pub Written : (start u : ℕ) → (m m' : List ℕ) → List Span → Type 0
Written start u m m' [] = m' ≡ m
Written start u m m' (s ∷ ss) = (m₁ : List ℕ) × Lies start u s × Noted m m₁ s.from (s.end - s.from) × Written start u m₁ m' ss

-- one of the spans is a..e
abbrev pub Has : (a e : ℕ) → List Span → Type 0
Has a e [] = ⊥
Has a e (s ∷ ss) = ((s.from ≡ a) × (s.end ≡ e)) ⊎ Has a e ss

-- each span has its length noted
abbrev pub Kept : List ℕ → List Span → Type 0
Kept m [] = Unit {0}
Kept m (s ∷ ss) = (length_at m s.from ≡ s.end - s.from) × Kept m ss

-- what is noted in a..e ends at or before e
pub record Inside (m : List ℕ) (a e : ℕ) : Type 0 where
  pub stops : (j : ℕ) → a ≤ j → j + 4 ≤ e → j + length_at m j ≤ e

-- what is noted in a..e is one of the spans
pub record Backed (m : List ℕ) (a e : ℕ) (ss : List Span) : Type 0 where
  pub lie : AllLie a e ss
  pub backs : (j : ℕ) → a ≤ j → j + 4 ≤ e → (length_at m j ≡ 0) ⊎ Has j (j + length_at m j) ss

-- the bytes of a..e that hops over what is noted leave: no fewer than lie in no span; as many, where all spans are noted and no byte lies in two
pub record Counted (m : List ℕ) (a e count : ℕ) : Type 0 where
  pub least : (ss : List Span) → Backed m a e ss → zeros (cover ss) a (e - a) ≤ count
  pub exact : (ss : List Span) → Backed m a e ss → Kept m ss → ((j : ℕ) → a ≤ j → j < e → cover ss j ≤ 1) → count ≡ zeros (cover ss) a (e - a)

-- each span lies before the one before it, the first before low
abbrev pub Falls : (low : ℕ) → List Span → Type 0
Falls low [] = Unit {0}
Falls low (s ∷ ss) = (s.end ≤ low) × Falls s.from ss

-- where a span that ends at or before low begins, else 0
pub record Fallen (low at stop r : ℕ) : Type 0 where
  pub falls : (r ≡ 0 → ⊥) → (r ≡ at) × (stop ≤ low)

-- a page that may be read: its size, its header's place, its type, its content start, where its pointer array begins
pub record Opened (p : List ℕ) (u head kind start first : ℕ) : Type 0 where
  pub least : 480 ≤ u
  pub most : u ≤ 65536
  pub whole : u ≤ length p
  pub low : head ≤ 100
  pub type : kind ≡ page_type p head
  pub content : start ≡ content_start p head
  pub array : first ≡ pointer_place p head 0
  pub near : first ≤ 112

-- the ith cell's refusal; where there is none, where the cell lies
pub record Extends (p : List ℕ) (u head i number at stop : ℕ) : Type 0 where
  pub fault : number ≡ cell_fault p u head i
  pub from : number ≡ 0 → at ≡ pointer p head i
  pub end : number ≡ 0 → stop ≡ (cell_of p u head i).end
  pub low : number ≡ 0 → content_start p head ≤ at
  pub least : number ≡ 0 → at + 4 ≤ stop
  pub high : number ≡ 0 → stop ≤ u

-- the refusal of the cell at `at` of a table interior page, and where it ends
pub record KeyExtends (p : List ℕ) (u at number from stop : ℕ) : Type 0 where
  pub fault : number ≡ (cell_at p u table_interior at).fault
  pub place : from ≡ at
  pub end : stop ≡ (cell_at p u table_interior at).end

-- the cells: the first refusal; where there is none, all are noted, how many bytes they take, and, where low is not 0, that they fall
pub record CellsPlaced (p : List ℕ) (u head : ℕ) (m m' : List ℕ) (number taken low : ℕ) : Type 0 where
  pub fault : number ≡ cells_fault p u head 0 (cell_count p head)
  pub written : number ≡ 0 → Written (content_start p head) u m m' (cell_spans p u head 0 (cell_count p head))
  pub bytes : number ≡ 0 → taken ≡ total (cell_spans p u head 0 (cell_count p head))
  pub falls : number ≡ 0 → (low ≡ 0 → ⊥) → Falls u (cell_spans p u head 0 (cell_count p head))
  pub small : taken ≤ 4294967296
  pub past : Past u m m'

-- no cell has a refusal, and m has all of them noted: how many bytes they take, and, where low is not 0, that they fall. The table before had nothing noted.
pub record AllNoted (p : List ℕ) (u head : ℕ) (m : List ℕ) (taken low : ℕ) : Type 0 where
  pub before : List ℕ
  pub empty : (j : ℕ) → content_start p head ≤ j → j + 4 ≤ u → length_at before j ≡ 0
  pub fault : 0 ≡ cells_fault p u head 0 (cell_count p head)
  pub written : Written (content_start p head) u before m (cell_spans p u head 0 (cell_count p head))
  pub bytes : taken ≡ total (cell_spans p u head 0 (cell_count p head))
  pub falls : (low ≡ 0 → ⊥) → Falls u (cell_spans p u head 0 (cell_count p head))
  pub small : taken ≤ 4294967296

-- a freeblock of `size` bytes at `at` lies in start..u, has at least 4 bytes, and the next, if there is one, is further on
pub record Fine (start u at next size : ℕ) : Type 0 where
  pub low : start ≤ at
  pub least : 4 ≤ size
  pub high : at + size ≤ u
  pub rises : 0 < next → at < next

pub record Judged (start u at next size : ℕ) (r : Bool) : Type 0 where
  pub yes : r ≡ true → Fine start u at next size
  pub no : r ≡ false → Fine start u at next size → ⊥

-- the freeblock at `at` was read, and is such
pub record BlockRead (p : List ℕ) (start u at next size : ℕ) : Type 0 where
  pub head : at + 4 ≤ u
  pub next-is : next ≡ block_next p at
  pub size-is : size ≡ block_size p at
  pub fine : Fine start u at next size

-- no freeblock stands at `at` that lies in start..u
abbrev pub NoBlock : List ℕ → (start u at : ℕ) → Type 0
NoBlock p start u at = (s : Span) → Freeblock p u at s → Within start u s → ⊥

-- the freeblocks from `at` on: there are such, and they are noted; or no list in start..u is those
pub record FreePlaced (p : List ℕ) (start u at : ℕ) (m m' : List ℕ) (ok : Bool) (taken : ℕ) : Type 0 where
  pub yes : ok ≡ true → (ss : List Span) × Freeblocks p u at ss × Written start u m m' ss × (taken ≡ total ss)
  pub no : ok ≡ false → (ss : List Span) → Freeblocks p u at ss → AllWithin start u ss → ⊥
  pub past : Past u m m'

-- the page's 23 or 26; the marks past u stay
pub record Rested (p : List ℕ) (u head : ℕ) (m m' : List ℕ) (number : ℕ) : Type 0 where
  pub is : number ≡ sound_fault p u head
  pub past : Past u m m'
