use mathlib.Core.Path.{ap, ◌∙◌}
use Rattle.dealing.specs.Walk.{run, state}
use Rattle.dealing.proofs.RunLaws.{run_none}
use Rattle.tree.specs.Turns.{name_of}
use Rattle.tree.proofs.name_child.Goals as goal

pub returns-then-root : goal.returns-then-root
returns-then-root c = λ m l.
    let a = c.args in let s = state a.kinds.now a.namers.now m l in
    ap (λ r. run a.h.pages s (name_of r a.p a.child)) c.if-root.true ∙ run_none a.h.pages s
