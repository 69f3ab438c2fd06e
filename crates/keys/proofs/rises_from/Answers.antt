use mathlib.Core.Path.{sym, ◌∙◌}
use Rattle.keys.proofs.Held.{copies-fetchable, held-lost, held-compared}
use Rattle.keys.proofs.rises_from.Goals as goal

pub precedes-requires : goal.precedes-requires
precedes-requires c =
    let a = c.args in (
      copies-fetchable a.image.now a.h a.q a.d c.requires.0.at.opened
          (sym c.can_copy.ensures ∙ c.if-can_copy.true),
      c.requires.0,
      c.requires.1,
    )

pub returns-then-can_copy : goal.returns-then-can_copy
returns-then-can_copy c =
    let a = c.args in
    let f = copies-fetchable a.image.now a.h a.q a.d c.requires.0.at.opened
    (sym c.can_copy.ensures ∙ c.if-can_copy.true) in
    held-compared a.image.now a.h a.q a.p a.d a.c _ f c.precedes.ensures

pub returns-else-can_copy : goal.returns-else-can_copy
returns-else-can_copy c =
    let a = c.args in
    c.if-can_copy.false ∙ held-lost a.image.now a.h a.q a.p a.d a.c (sym c.if-can_copy.false ∙ c.can_copy.ensures)
