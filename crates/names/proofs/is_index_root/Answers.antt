use mathlib.Core.Path.{◌∙◌}
use borrow.Author.Tests.{ne_eqb}
use native.Mathlib.Omega.{arith}
use Rattle.image.specs.Image.{file_of}
use Rattle.image.proofs.Shape.{shape}
use Rattle.names.proofs.Laws.{root-zero, root-far, root-other, root-typed}
use Rattle.names.proofs.is_index_root.Goals as goal
use Rattle.names.proofs.is_index_root.Goals.{then-r-eq0-via-then-r-eq0, then-r-eq0-via-else-r-eq0+then-h-r}

pub returns-then-r-eq0 : goal.returns-then-r-eq0
returns-then-r-eq0 c =
    let f = file_of c.args.image.now in
    elim c.then-r-eq0.branch [
      | then-r-eq0-via-then-r-eq0 w ↦ root-zero f c.args.kinds.now c.args.r w.if-r-eq0.true
      | then-r-eq0-via-else-r-eq0+then-h-r w ↦ root-far f c.args.kinds.now c.args.r (omega (arith, w.if-h-r.true, (shape c.requires.0).N-is))
    ]

pub returns-else-kinds-r-eq-ROOT : goal.returns-else-kinds-r-eq-ROOT
returns-else-kinds-r-eq-ROOT c =
    ne_eqb _ 1 c.if-kinds-r-eq-ROOT.false
    ∙ root-other (file_of c.args.image.now) c.args.kinds.now c.args.r c.if-r-eq0.false
    (omega (arith, (shape c.requires.0).N-is)) c.if-kinds-r-eq-ROOT.false

pub returns-then-kinds-r-eq-ROOT : goal.returns-then-kinds-r-eq-ROOT
returns-then-kinds-r-eq-ROOT c =
    root-typed (file_of c.args.image.now) c.args.kinds.now c.args.r c.if-r-eq0.false
    (omega (arith, (shape c.requires.0).N-is)) _ c.if-kinds-r-eq-ROOT.true c.is_index.ensures
