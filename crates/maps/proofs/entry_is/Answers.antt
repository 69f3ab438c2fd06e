use native.Mathlib.Omega.{arith}
use Rattle.image.proofs.Shape.{shape, at-within}
use Rattle.maps.proofs.entry_is.Goals as goal

pub page_of-page-requires : goal.page_of-page-requires
page_of-page-requires c = at-within c.requires.0

pub bounds-page-at : goal.bounds-page-at
bounds-page-at c = let s = shape c.requires.0.opened in omega (arith, s.inside, c.page_of-page.ensures.1, c.requires.1)

pub be32-requires : goal.be32-requires
be32-requires c = let s = shape c.requires.0.opened in omega (arith, s.inside, c.page_of-page.ensures.1, c.requires.1)
