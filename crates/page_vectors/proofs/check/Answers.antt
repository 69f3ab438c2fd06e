use Rattle.std.proofs.Common.{rules, arith}
use Rattle.page.proofs.PageLaws.{answer-page, page-checks}
use Rattle.page_vectors.proofs.check.Goals as goal

-- the pointers of a page that is not refused lie before its usable end
pub say_cells-requires : goal.say_cells-requires
say_cells-requires g c =
    let page = answer-page c.args.place c.args.p.now c.args.u c.args.head _ _ _ c.in-Ok.ensures.0 in
    let checked = page-checks c.args.place c.args.p.now c.args.u c.args.head (omega arith) page.none in
    (search rules, search rules, search rules, search rules, page.kind_is, omega (arith, checked.array, page.count_is))
