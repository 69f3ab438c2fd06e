-- What a cursor shows: no further row; a row's cell, its index from 0, its payload's length and its row number; or the refusal's number and the page reported.
use Rattle.std.specs.Prelude.{ℕ, ℤ}

pub data Shown : Type 0 where
  End : Shown
  Row : (page cell length : ℕ) → (row : ℤ) → Shown
  Refused : (number page : ℕ) → Shown
