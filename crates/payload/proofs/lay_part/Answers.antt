use native.Mathlib.Omega.{arith}
use Rattle.image.proofs.Shape.{shape, at-within}
use Rattle.payload.proofs.CopyLaws.{part-laid}
use Rattle.payload.proofs.lay_part.Goals as goal

pub page_of-page-requires : goal.page_of-page-requires
page_of-page-requires c = at-within c.requires.0

pub slice_bounds-lay-end : goal.slice_bounds-lay-end
slice_bounds-lay-end c = let s = shape c.requires.0.opened in omega arith

pub returns : goal.returns
returns c =
    part-laid _ _ c.requires.0.opened _ c.args.from c.args.n c.args.at c.args.out.now _ _
    c.page_of-page.ensures.0 c.lay.ensures
