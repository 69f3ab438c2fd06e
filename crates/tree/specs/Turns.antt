-- A turn of the walk over children: that of cell i of page p, or after its `cells` cells the right one. Where `root` says so, the right one alone, which has
-- its name already: then there are no cells.
use Rattle.std.specs.Prelude.{ℕ, zero, suc, ◌+◌, Bool, true, false, cond, List, [], ◌∷◌, ◌++◌, ltb}
use Rattle.dealing.specs.File.{File, is_table, tree_kind}
use Rattle.dealing.specs.Walk.{Mode, Event, name, key_or_chain}

unfoldable pub child_at : File → (p cells right i : ℕ) → ℕ
child_at f p cells right i = cond (ltb i cells) (f.cell p i).child right

abbrev pub name_of : (root : Bool) → (p child : ℕ) → List Event
name_of true p child = []
name_of false p child = name p child tree_kind ∷ []

-- after the child: a cell's key or payload
unfoldable pub after_at : File → Mode → (p cells i : ℕ) → List Event
after_at f mode p cells i = cond (ltb i cells) (key_or_chain f mode (is_table f p) p (f.cell p i)) []

-- the child is named and walked, then comes what is after it
unfoldable pub turn : File → Mode → (below : ℕ → List Event) → (root : Bool) → (p cells right i : ℕ) → List Event
turn f mode below root p cells right i =
    name_of root p (child_at f p cells right i) ++ (below (child_at f p cells right i) ++ after_at f mode p cells i)

-- k turns from the ith on
unfoldable pub turns : File → Mode → (below : ℕ → List Event) → (root : Bool) → (p cells right i k : ℕ) → List Event
turns f mode below root p cells right i zero = []
turns f mode below root p cells right i (suc k) = turn f mode below root p cells right i ++ turns f mode below root p cells right (i + 1) k
