use mathlib.Core.Path.{refl}
use borrow.Author.Rules.{rules}
use Rattle.std.proofs.lemmas.Result.{err_from_is_err_and}
use Rattle.image.proofs.Shape.{at-within}
use Rattle.quick.proofs.Laws.{ready, picked-page, refused-page, picked-cell, quick-refused, quick-cell}
use Rattle.quick.proofs.fetch_at.Goals as goal

pub page_of-page-requires : goal.page_of-page-requires
page_of-page-requires c = search (at-within, rules)

pub cell_on-requires : goal.cell_on-requires
cell_on-requires c = ready c.requires _ _ c.page_of-page.ensures.1 c.head_of.ensures.1

pub returns-in_err-c : goal.returns-in_err-c
returns-in_err-c c =
    let p = err_from_is_err_and c.from_residual.result c.from_residual.ensures.1 in
    rw (p.1, p.2)
    (quick-refused c.requires _ _ _ (refused-page c.requires _ _ c.page_of-page.ensures.0 c.head_of.ensures.0 _ _ c.in_err-c.ensures.refused), refl)

pub fetch-requires : goal.fetch-requires
fetch-requires c =
    picked-cell c.requires _ 0 _ (picked-page c.requires _ _ c.page_of-page.ensures.0 c.head_of.ensures.0 _ _ c.in_ok-c.ensures.read)

pub returns : goal.returns
returns c = (
  quick-cell c.requires _ _ _ (picked-page c.requires _ _ c.page_of-page.ensures.0 c.head_of.ensures.0 _ _ c.in_ok-c.ensures.read) _ c.fetch.ensures.0,
  c.fetch.ensures.1,
)
