use mathlib.Core.Logic.{inl, inr}
use mathlib.Core.Path.{sym, ap, ◌∙◌}
use Rattle.image.specs.Image.{file_of}
use Rattle.keys.proofs.Held.{handed_on, entry_first, entry_row, entry_key, entry_more, entry-not}
use Rattle.keys.proofs.take_entry.Goals as goal

pub returns-then-rises_after : goal.returns-then-rises_after
returns-then-rises_after c =
    let a = c.args in
    let b = a.image.now in
    λ ks ns. entry_more b a.h a.p a.c c.requires.0 c.requires.1 (file_of b).N ks ns a.t c.in-Entry.e c.in-Entry.is
    (sym c.if-rises_after.true ∙ c.rises_after.ensures) _ (ap (λ e. handed_on e a.t.leaf_at) c.hold.ensures)

pub returns-in-Nothing : goal.returns-in-Nothing
returns-in-Nothing c =
    let a = c.args in
    let b = a.image.now in
    λ ks ns. entry_first b a.h a.p a.c c.requires.0 c.requires.1 (file_of b).N ks ns a.t _ (ap (λ e. handed_on e a.t.leaf_at) c.hold.ensures)
    c.in-Nothing.is

pub returns-in-Row : goal.returns-in-Row
returns-in-Row c =
    let a = c.args in
    let b = a.image.now in
    λ ks ns. elim c.in-Row.is [
      | inl x ↦ entry_row b a.h a.p a.c c.requires.0 c.requires.1 (file_of b).N ks ns a.t x.0 x.1
      | inr x ↦ entry_key b a.h a.p a.c c.requires.0 c.requires.1 (file_of b).N ks ns a.t x.0 x.1
    ]

pub returns-else-rises_after : goal.returns-else-rises_after
returns-else-rises_after c =
    let a = c.args in
    let b = a.image.now in
    λ ks ns. entry-not b a.h a.p a.c c.requires.0 c.requires.1 (file_of b).N ks ns a.t c.in-Entry.e c.in-Entry.is
    (sym c.if-rises_after.false ∙ c.rises_after.ensures)
