use mathlib.Core.Path.{◌≡◌, sym}
use mathlib.Core.Bool.{false}
use Rattle.image.proofs.Shape.{shape}
use Rattle.names.specs.Names.{bad34}
use Rattle.verdict.proofs.VerdictLaws.{text-refused, kinds-short, namers-short, steps-short, walked}
use Rattle.verdict.proofs.decide.Goals as goal
use Rattle.verdict.proofs.decide.Goals.{Else-wrong_encoding}
use Rattle.verdict.proofs.decide.Goals.{then-kinds-n-via-then-kinds-n, then-kinds-n-via-else-kinds-n+then-namers-n, then-kinds-n-via-else-kinds-n+else-namers-n+then-steps-n}

-- and so does the text encoding
text : (c : Else-wrong_encoding) → let a = c.args in bad34 a.ordered.now a.image.now ≡ false
text c = sym c.if-wrong_encoding.ensures

pub wrong_encoding-requires : goal.wrong_encoding-requires
wrong_encoding-requires c = (shape c.requires.0).long

pub returns-then-wrong_encoding : goal.returns-then-wrong_encoding
returns-then-wrong_encoding c =
    let a = c.args in
    rw c.into.ensures (text-refused a.image.now a.ordered.now a.kinds.now a.namers.now a.steps.now _ c.requires.0 (sym c.if-wrong_encoding.ensures))

pub returns-then-kinds-n : goal.returns-then-kinds-n
returns-then-kinds-n c =
    let a = c.args in let x = text (goal.at.returns-then-kinds-n c).Else-wrong_encoding in
    rw c.into-then-kinds-n.ensures (elim c.then-kinds-n.branch [
      | then-kinds-n-via-then-kinds-n w ↦ kinds-short a.image.now a.ordered.now a.kinds.now a.namers.now a.steps.now _ c.requires.0 x w.if-kinds-n.true
      | then-kinds-n-via-else-kinds-n+then-namers-n w ↦
          namers-short a.image.now a.ordered.now a.kinds.now a.namers.now a.steps.now _ c.requires.0 x w.if-kinds-n.false w.if-namers-n.true
      | then-kinds-n-via-else-kinds-n+else-namers-n+then-steps-n w ↦
          steps-short a.image.now a.ordered.now a.kinds.now a.namers.now a.steps.now _ c.requires.0 x w.if-kinds-n.false w.if-namers-n.false w.if-steps-n.true
    ])

pub returns : goal.returns
returns c =
    let a = c.args in
    walked a.image.now a.ordered.now a.kinds.now a.namers.now a.steps.now _ c.requires.0 (text (goal.at.returns c).Else-wrong_encoding)
    c.if-kinds-n.false c.if-namers-n.false c.if-steps-n.false _ _ _ _ c.tell.ensures
