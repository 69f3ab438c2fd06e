use mathlib.Core.Logic.{inl, inr}
use mathlib.Core.Path.{ap, ◌∙◌}
use mathlib.Core.Bool.{false}
use Rattle.dealing.specs.Walk.{is_ordered, entry_of, run}
use Rattle.dealing.proofs.RunLaws.{run_none}
use Rattle.image.specs.Image.{file_cell, file_of}
use Rattle.ledger.specs.Ledger.{state_of}
use Rattle.tree.specs.Spots.{mode_of}
use Rattle.tree.proofs.Cells.{room-two}
use Rattle.tree.proofs.inner_last.Goals as goal

pub take_entry-requires : goal.take_entry-requires
take_entry-requires c = let P = c.requires in (P.0, P.1, room-two c.args.h c.args.mode _ c.in-Ordered.is P.2)

pub returns-in-Plain : goal.returns-in-Plain
returns-in-Plain c =
    let a = c.args in let b = a.image.now in let f = file_of b in
    λ ks ns. elim c.in-Plain.is [
      | inl e ↦ ap (λ m. run f.N (state_of b ks ns a.t) (entry_of (is_ordered (mode_of m)) false a.p (file_cell b a.p a.c))) e ∙ run_none f.N (state_of b ks ns a.t)
      | inr e ↦ ap (λ m. run f.N (state_of b ks ns a.t) (entry_of (is_ordered (mode_of m)) false a.p (file_cell b a.p a.c))) e ∙ run_none f.N (state_of b ks ns a.t)
    ]
