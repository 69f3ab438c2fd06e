use mathlib.Core.Path.{sym, ap, ◌∙◌}
use native.Mathlib.Omega.{arith}
use Rattle.image.proofs.Shape.{shape}
use Rattle.keys.proofs.Held.{on-page, copies-off, copies-by, ok-whole}
use Rattle.keys.proofs.can_copy.Goals as goal

pub cell_links-links-requires : goal.cell_links-links-requires
cell_links-links-requires c =
    let a = c.args in
    let s = shape c.requires in
    let g = on-page a.h.pages a.h.usable a.p a.c (sym c.on_page.ensures ∙ c.if-not-on_page.false) in
    (s.used, omega (arith, s.inside, s.most), g.limit)

pub follow_chain-requires : goal.follow_chain-requires
follow_chain-requires c =
    let a = c.args in
    let g = on-page a.h.pages a.h.usable a.p a.c (sym c.on_page.ensures ∙ c.if-not-on_page.false) in
    record { opened = c.requires; low = g.low; high = g.high }

pub returns : goal.returns
returns c =
    let a = c.args in
    copies-by a.image.now a.h a.p a.c _ _ _ c.requires (sym c.if-not-on_page.false ∙ c.on_page.ensures)
    c.cell_links-links.ensures c.follow_chain.ensures (c.is_ok.ensures.value ∙ ok-whole c.follow_chain.result)

pub returns-then-not-on_page : goal.returns-then-not-on_page
returns-then-not-on_page c =
    let a = c.args in
    copies-off a.image.now a.h a.p a.c c.requires (sym c.if-not-on_page.true ∙ c.on_page.ensures)
