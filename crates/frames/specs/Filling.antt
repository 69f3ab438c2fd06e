-- The table while it is filled. About the code alone.
use Rattle.std.specs.Prelude.{ℕ, suc, ◌<◌, ◌≤◌, ◌≡◌, Bool, false, cond, List, eqb, leb, length, get_or}
use Rattle.wal.specs.Frames.{last_frame}

-- p is a page of 1 to n
abbrev pub of_pages : (n p : ℕ) → Bool
of_pages n p = cond (eqb p 0) false (leb p n)

-- t' is t with k as the entry of page p, where p is of 1 to n
pub record Noted (n : ℕ) (t : List ℕ) (p k : ℕ) (t' : List ℕ) : Type 0 where
  pub same : length t' ≡ length t
  pub entry : (j : ℕ) → j < n → get_or t' j 0 ≡ cond (eqb p (suc j)) k (get_or t j 0)
  pub past : (j : ℕ) → n ≤ j → get_or t' j 0 ≡ get_or t j 0

-- t has the last of the first m frames for each page of 1 to n, and past n what t₀ has
pub record Filling (size : ℕ) (log : List ℕ) (m n : ℕ) (t₀ t : List ℕ) : Type 0 where
  pub same : length t ≡ length t₀
  pub entry : (j : ℕ) → j < n → get_or t j 0 ≡ last_frame size log (suc j) m
  pub past : (j : ℕ) → n ≤ j → get_or t j 0 ≡ get_or t₀ j 0
