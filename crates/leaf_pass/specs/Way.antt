-- How it is seen that no cell of a leaf clashes with another.
use Rattle.std.specs.Prelude.{Bool, true, false}
use Rattle.leaf_pass.specs.declared.Way as D

-- whether last bytes are marked
abbrev pub marks : D.Way → Bool
marks D.TheVariants.Marking = true
marks D.TheVariants.Stacked = false
marks D.TheVariants.Falling = false

-- whether there may be gaps between cells that fall
abbrev pub has_gaps : D.Way → Bool
has_gaps D.TheVariants.Marking = false
has_gaps D.TheVariants.Stacked = false
has_gaps D.TheVariants.Falling = true
