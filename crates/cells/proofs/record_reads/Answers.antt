use native.Mathlib.Omega.{arith}
use Rattle.image.proofs.Shape.{shape, at-within}
use Rattle.cells.proofs.Laws.{local-reads, local-unread}
use Rattle.cells.proofs.record_reads.Goals as goal

pub page_of-page-requires : goal.page_of-page-requires
page_of-page-requires c = at-within c.requires.at

pub slice_bounds-reads-end : goal.slice_bounds-reads-end
slice_bounds-reads-end c = let s = shape c.requires.at.opened in omega arith

pub returns-in-Yes : goal.returns-in-Yes
returns-in-Yes c =
    local-reads c.requires _ c.page_of-page.ensures.0 _ c.reads.ensures c.in-Yes.is

pub returns-in-No : goal.returns-in-No
returns-in-No c =
    local-unread c.requires _ c.page_of-page.ensures.0 _ c.reads.ensures c.in-No.is
