-- What one pass over a leaf finds where nothing on the page is left to follow but the payloads of some cells.
use Rattle.std.specs.Prelude.{ℕ, ◌≡◌, List}
use Rattle.leaf.specs.Whole.{LeafType}
use Rattle.page.specs.declared.Place.{Place}
use Rattle.page.specs.Checked.{Page}
use Rattle.leaf_pass.specs.declared.Leaf.{Leaf}
use Rattle.leaf_pass.specs.Scan.{Rows}
use Rattle.page.specs.Fault.{checked_of}

-- the page is a leaf that suits its place and is sound; no number on it is spelled long, each cell before `from` and from `to` on lies whole on it, and on a
-- table leaf the row numbers rise from `least` on, and `next` is the least that may follow
pub record Calm (place : Place) (p : List ℕ) (u head least : ℕ) (r : Leaf) : Type 0 where
  pub page : checked_of place p u head ≡ Page r.kind r.cells 0
  pub leaf : LeafType r.kind
  pub rows : Rows p u head r.cells least r.next r.from r.to
