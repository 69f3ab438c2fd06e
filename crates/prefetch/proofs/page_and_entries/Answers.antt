use native.Mathlib.Omega.{arith}
use Rattle.image.proofs.Shape.{shape, at-within}
use Rattle.prefetch.proofs.page_and_entries.Goals as goal

pub page_of-requires : goal.page_of-requires
page_of-requires c = at-within (record { opened = c.requires.0; low = omega arith; high = omega arith })

pub lines-requires : goal.lines-requires
lines-requires c = let s = shape c.requires.0 in omega (arith, s.least, c.page_of.ensures.1)
