use mathlib.Core.Path.{sym, ap, ◌∙◌}
use Rattle.dealing.specs.Walk.{run, page_events}
use Rattle.image.specs.Image.{file_of}
use Rattle.ledger.specs.Ledger.{state_of}
use Rattle.tree.specs.Spots.{spot_of, mode_of}
use Rattle.tree.proofs.Turns.{turns-root}
use Rattle.tree.proofs.walk_page.Goals as goal

pub returns : goal.returns
returns c =
    let a = c.args in let b = a.image.now in let f = file_of b in let m = mode_of a.mode in (
      ap (run f.N (state_of b a.kinds.now a.namers.now a.t)) (sym (turns-root f m (page_events f m a.levels (spot_of a.spot)) a.p a.p))
          ∙ c.walk_children.ensures.0,
      c.walk_children.ensures.1,
    )
