-- The table of last bytes: byte j of it is not 0 only where a span ends behind j. Before each span and before u come as many bytes without a mark as lie
-- between it and the end of another, or the content start.
use Rattle.std.specs.Prelude.{ℕ, zero, suc, ◌+◌, ◌-◌, ◌≤◌, ◌<◌, ◌≡◌, cond, List, [], ◌∷◌, ◌⊎◌, eqb, get_or}
use Rattle.page.specs.Sound.{Span, Freeblocks}
use Rattle.page.specs.Steps.{AllLie, total}

-- one of the spans ends at e
abbrev pub EndsAt : (e : ℕ) → List Span → Type 0
EndsAt e [] = ⊥
EndsAt e (s ∷ ss) = (s.end ≡ e) ⊎ EndsAt e ss

-- m' has no marks in start..u but those of m and those of the spans' last bytes, and before start it is m
pub record Marks (start u : ℕ) (m m' : List ℕ) (ss : List Span) : Type 0 where
  pub own : (j : ℕ) → start ≤ j → j < u → (get_or m' j 0 ≡ get_or m j 0) ⊎ EndsAt (j + 1) ss
  pub before : (j : ℕ) → j < start → get_or m' j 0 ≡ get_or m j 0

-- the byte before start is marked
pub record Stopped (m : List ℕ) (start : ℕ) : Type 0 where
  pub some : 1 ≤ start
  pub mark : get_or m (start - 1) 0 ≡ 0 → ⊥

-- how many of the `left` bytes before `at` have no mark, up to the first that has one
unfoldable pub gap_before : List ℕ → (left at : ℕ) → ℕ
gap_before m zero at = 0
gap_before m (suc left) at = cond (eqb (get_or m (at - 1) 0) 0) (gap_before m left (at - 1) + 1) 0

unfoldable pub gaps_before : List ℕ → (start : ℕ) → List Span → ℕ
gaps_before m start [] = 0
gaps_before m start (s ∷ ss) = gap_before m (s.from - start) s.from + gaps_before m start ss

-- the freeblocks from `at` on lie in start..u
abbrev pub Blocks : List ℕ → (start u at : ℕ) → Type 0
Blocks p start u at = (ss : List Span) × Freeblocks p u at ss × AllLie start u ss

-- and their last bytes are marked: how many bytes they take
abbrev pub FreeMarked : List ℕ → (start u at : ℕ) → (m m' : List ℕ) → (taken : ℕ) → Type 0
FreeMarked p start u at m m' taken = (ss : List Span) × Freeblocks p u at ss × AllLie start u ss × Marks start u m m' ss × (taken ≡ total ss)
