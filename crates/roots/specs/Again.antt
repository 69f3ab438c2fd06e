-- The schema tree read again for its roots, after its walk went through.
use Rattle.std.specs.Prelude.{ℕ, ◌<◌, ◌≤◌, ◌≡◌, true, List, [], ◌∷◌, length}
use Rattle.header.specs.declared.Header.{Header}
use Rattle.dealing.specs.File.{File, Place}
use Rattle.dealing.specs.Walk.{schema_tree, fit, page_events, State, went, run}
use Rattle.dealing.specs.Lookup.{whole, follow_cell}

-- page p of the schema tree, with so many levels left, was walked through
pub record Walked (f : File) (levels : ℕ) (place : Place) (p : ℕ) : Type 0 where
  pub before : State
  pub after : State
  pub goes : run f.N before (page_events f schema_tree levels place p) ≡ went after

-- a leaf whose cells' chains are whole and whose rows are fit
pub record RowsAt (f : File) (p : ℕ) : Type 0 where
  pub chain : (i : ℕ) → i < f.count p → follow_cell f p (f.cell p i).links (f.cell p i).first ≡ whole
  pub fits : (i : ℕ) → i < f.count p → fit f.N (f.column4 p i) ≡ true

-- scratch bytes: for a page's marks, or for two payloads where some root is named
unfoldable pub room_of : Header → (ordered : List ℕ) → ℕ
room_of h [] = h.usable
room_of h (x ∷ xs) = 131072

abbrev pub Scratch : Header → (ordered work : List ℕ) → Type 0
Scratch h ordered w = room_of h ordered ≤ length w
