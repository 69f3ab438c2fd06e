-- What the functions over an image ask of it.
use Rattle.std.specs.Prelude.{ℕ, ◌≤◌, ◌≡◌, List}
use Rattle.header.specs.Header.{header_refusal, header_of}
use Rattle.header.specs.declared.Header.{Header}

-- b passed refusals 1 to 11, and h is what that check answered
pub record Opened (b : List ℕ) (h : Header) : Type 0 where
  pub is : h ≡ header_of b
  pub passes : header_refusal b ≡ 0

-- and p is one of its pages
pub record PageAt (b : List ℕ) (h : Header) (p : ℕ) : Type 0 where
  pub opened : Opened b h
  pub low : 1 ≤ p
  pub high : p ≤ h.pages
