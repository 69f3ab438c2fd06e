-- What the first bytes of a record tell of the whole.
use Rattle.std.specs.Prelude.{ℕ, ◌+◌, ◌-◌, ◌<◌, ◌≤◌, ◌≡◌, Bool, true, false, cond, Option, Some, None, List, ◌++◌, ltb, eqb, length}
use Rattle.record.specs.Serial.{refused, size_of}
use Rattle.record.specs.Record.{Types, broken, types, sizes, types_at, reads_of}
use Rattle.cells.specs.declared.Next.{Next}
use Rattle.cells.specs.declared.Reading as D

-- values of these types, laid from `place` on, end at `end`
abbrev pub fills : (end place : ℕ) → Types → Bool
fills end place broken = false
fills end place (types ts) = eqb (place + sizes ts) end

-- those of the serial types from `at` to the header's end h
abbrev pub rest_fills : List ℕ → (h end at place : ℕ) → Bool
rest_fills b h end at place = fills end place (types_at b h at)

-- a serial type t before `next`, whose value lies at `place`; none where it is 10, 11 or negative, or its value runs past the record
unfoldable pub taken_of : (t next place end : ℕ) → Option Next
taken_of t next place end =
    cond (refused t) None
    (cond (ltb (end - place) (size_of t)) None
    (Some (record { at = next; place = place + size_of t })))

-- one serial type further; none where it is cut off, too
pub record Steps (b : List ℕ) (h end at place : ℕ) (r : Option Next) : Type 0 where
  pub ends : r ≡ None → rest_fills b h end at place ≡ false
  pub goes : (n : Next) → r ≡ Some n → rest_fills b h end at place ≡ rest_fills b h end n.at n.place
  pub rises : (n : Next) → r ≡ Some n → at < n.at
  pub fits : (n : Next) → r ≡ Some n → n.place ≤ end

-- b is the first part of a record of n bytes: what is told holds of every such record, and only a part may want more
pub record Told (b : List ℕ) (n : ℕ) (r : D.Reading) : Type 0 where
  pub yes : r ≡ D.TheVariants.Yes → (rest : List ℕ) → length (b ++ rest) ≡ n → reads_of (b ++ rest) ≡ true
  pub no : r ≡ D.TheVariants.No → (rest : List ℕ) → length (b ++ rest) ≡ n → reads_of (b ++ rest) ≡ false
  pub more : r ≡ D.TheVariants.More → length b < n
