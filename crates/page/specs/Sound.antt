-- When a page is sound: its pointer array ends at or before the content start, that is at most u, its fragments are at most 60,
-- and each byte from the content start to u lies in exactly one cell, one freeblock, or is one of the fragments, whose number is byte 7.
use Rattle.std.specs.Prelude.{◌≡◌, Bool, true, false, cond, ◌&&◌, ◌||◌, List, [], ◌∷◌, ◌++◌, ℕ, zero, suc, ◌+◌, ◌-◌, ◌≤◌, ◌<◌, leb, ltb, eqb}
use Rattle.number.specs.Bytes.{be}
use Rattle.page.specs.Header.{first_freeblock, cell_count, content_start, fragment_bytes, array_end, pointer, cell_of}

-- the bytes from `from` up to and without `end`
pub record Span : Type 0 where
  pub from : ℕ
  pub end : ℕ

abbrev pub span : (from end : ℕ) → Span
span a e = record { from = a; end = e }

-- where the ith cell lies, and the k cells from the ith on
abbrev pub cell_span : List ℕ → (u head i : ℕ) → Span
cell_span p u head i = span (pointer p head i) (cell_of p u head i).end

unfoldable pub cell_spans : List ℕ → (u head i k : ℕ) → List Span
cell_spans p u head i zero = []
cell_spans p u head i (suc k) = cell_span p u head i ∷ cell_spans p u head (i + 1) k

-- a freeblock's first field is the offset of the next, 0 at the last; its second is its size
abbrev pub block_next : List ℕ → (at : ℕ) → ℕ
block_next p at = be 2 p at

abbrev pub block_size : List ℕ → (at : ℕ) → ℕ
block_size p at = be 2 p (at + 2)

abbrev pub block_span : List ℕ → (at : ℕ) → Span
block_span p at = span at (at + block_size p at)

-- s is the freeblock at `at`: its two fields stand before u, its size is at least 4, and the next, if there is one, is further on
pub record Freeblock (p : List ℕ) (u at : ℕ) (s : Span) : Type 0 where
  pub there : 0 < at
  pub head : at + 4 ≤ u
  pub size : 4 ≤ block_size p at
  pub rises : 0 < block_next p at → at < block_next p at
  pub is : s ≡ block_span p at

-- ss are the freeblocks of the list that begins at `at`; 0 ends it
abbrev pub Freeblocks : List ℕ → (u at : ℕ) → List Span → Type 0
Freeblocks p u at [] = at ≡ 0
Freeblocks p u at (s ∷ ss) = Freeblock p u at s × Freeblocks p u (block_next p at) ss

-- s lies wholly in start..u
pub record Within (start u : ℕ) (s : Span) : Type 0 where
  pub low : start ≤ s.from
  pub order : s.from ≤ s.end
  pub high : s.end ≤ u

abbrev pub AllWithin : (start u : ℕ) → List Span → Type 0
AllWithin start u [] = Unit {0}
AllWithin start u (s ∷ ss) = Within start u s × AllWithin start u ss

abbrev pub one : Bool → ℕ
one true = 1
one false = 0

-- 1 where byte j is one of s's, else 0
unfoldable pub holds : Span → (j : ℕ) → ℕ
holds s j = one (leb s.from j && ltb j s.end)

-- in how many of the spans byte j lies
unfoldable pub cover : List Span → (j : ℕ) → ℕ
cover [] j = 0
cover (s ∷ ss) j = holds s j + cover ss j

-- how many of the k numbers from a on f takes to 0
unfoldable pub zeros : (ℕ → ℕ) → (a k : ℕ) → ℕ
zeros f a zero = 0
zeros f a (suc k) = zeros f a k + one (eqb (f (a + k)) 0)

-- the most bytes that fragments may take
abbrev pub fragment_limit : ℕ
fragment_limit = 60

-- A cell that is refused has no end, so that a page whose only fault is 26 is not sound in this sense: it is asked of pages whose cells can all be read.
pub record Sound (p : List ℕ) (u head : ℕ) : Type 0 where
  pub array : array_end p head ≤ content_start p head
  pub content : content_start p head ≤ u
  pub few : fragment_bytes p head ≤ fragment_limit
  pub free : List Span
  pub chain : Freeblocks p u (first_freeblock p head) free
  pub within : AllWithin (content_start p head) u (cell_spans p u head 0 (cell_count p head) ++ free)
  pub once : (j : ℕ) → content_start p head ≤ j → j < u → cover (cell_spans p u head 0 (cell_count p head) ++ free) j ≤ 1
  pub fragments : zeros (cover (cell_spans p u head 0 (cell_count p head) ++ free)) (content_start p head) (u - content_start p head) ≡ fragment_bytes p head

-- ---- the same as a test that computes (proofs/SoundTest.antt: it is true exactly where the page is sound)

-- the freeblocks from `at` on, at most `left` of them, and whether each is one and the list ends
unfoldable pub freeblocks : (left : ℕ) → List ℕ → (at : ℕ) → List Span
freeblocks zero p at = []
freeblocks (suc left) p at = cond (eqb at 0) [] (block_span p at ∷ freeblocks left p (block_next p at))

abbrev pub freeblockb : List ℕ → (u at : ℕ) → Bool
freeblockb p u at = leb (at + 4) u && (leb 4 (block_size p at) && (eqb (block_next p at) 0 || ltb at (block_next p at)))

unfoldable pub freeblocksb : (left : ℕ) → List ℕ → (u at : ℕ) → Bool
freeblocksb zero p u at = eqb at 0
freeblocksb (suc left) p u at = eqb at 0 || (freeblockb p u at && freeblocksb left p u (block_next p at))

unfoldable pub all_withinb : (start u : ℕ) → List Span → Bool
all_withinb start u [] = true
all_withinb start u (s ∷ ss) = leb start s.from && (leb s.from s.end && (leb s.end u && all_withinb start u ss))

-- f takes none of the k numbers from a on past 1
unfoldable pub onceb : (ℕ → ℕ) → (a k : ℕ) → Bool
onceb f a zero = true
onceb f a (suc k) = leb (f (a + k)) 1 && onceb f a k

-- spans within start..u, no byte of which lies in two of them, and `fragments` of which lie in none
abbrev pub tiledb : (start u fragments : ℕ) → List Span → Bool
tiledb start u fragments ss =
    all_withinb start u ss && (onceb (cover ss) start (u - start) && eqb (zeros (cover ss) start (u - start)) fragments)

unfoldable pub soundb : List ℕ → (u head : ℕ) → Bool
soundb p u head =
    leb (array_end p head) (content_start p head) && (leb (content_start p head) u && (leb (fragment_bytes p head) fragment_limit &&
    (freeblocksb u p u (first_freeblock p head) &&
    tiledb (content_start p head) u (fragment_bytes p head) (cell_spans p u head 0 (cell_count p head) ++ freeblocks u p (first_freeblock p head)))))
