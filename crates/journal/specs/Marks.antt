-- Which pages were met among the records: one mark a page, a bit each. What the functions of recovery do to marks and output.
use Rattle.std.specs.Prelude.{◌≡◌, ℕ, ◌-◌, ◌*◌, ◌≤◌, Bool, true, false, cond, List, [], ◌∷◌}
use Rattle.number.specs.Bytes.{part}
use Rattle.paging.specs.Pages.{over}
use Rattle.paging.specs.Bits.{bit_at}
use Rattle.journal.specs.Records.{Record, carries, twice}

abbrev pub marked : (m : List ℕ) (p : ℕ) → Bool
marked m p = bit_at m (p - 1)

abbrev pub either : Bool → Bool → Bool
either a b = cond a true b

-- the page of one of the records is marked
unfoldable pub any_marked : (m : List ℕ) → List Record → Bool
any_marked m [] = false
any_marked m (r ∷ rs) = either (marked m r.number) (any_marked m rs)

-- a page is marked already when its record is met
abbrev pub clash : (m : List ℕ) → List Record → Bool
clash m rs = either (any_marked m rs) (twice rs)

-- the scan's answer: m are the marks before, m' after
pub record Scan (n : ℕ) (rs : List Record) (m m' : List ℕ) (found : Bool) : Type 0 where
  pub clashes : found ≡ clash m rs
  pub marks : found ≡ false → (p : ℕ) → 1 ≤ p → p ≤ n → marked m' p ≡ either (marked m p) (carries rs p)

-- the records laid down one after the other
unfoldable pub lay_all : (j : List ℕ) (size : ℕ) (out : List ℕ) → List Record → List ℕ
lay_all j size out [] = out
lay_all j size out (r ∷ rs) = lay_all j size (over out ((r.number - 1) * size) (part j r.place size)) rs
