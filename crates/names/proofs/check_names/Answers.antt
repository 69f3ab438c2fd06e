use mathlib.Core.Path.{sym, ◌∙◌}
use native.Mathlib.Omega.{arith}
use Rattle.image.specs.Image.{file_of}
use Rattle.names.proofs.Laws.{names-stop, names-on, names-end}
use Rattle.names.proofs.check_names.Goals as goal

pub returns-then-not-is_index_root : goal.returns-then-not-is_index_root
returns-then-not-is_index_root c =
    let s = c.args in
    λ ns. c.loop-name.invariant ns ∙ names-stop s.ordered.now c.loop-name.name-index (omega arith) (file_of s.image.now) s.kinds.now ns
    (sym c.is_index_root.ensures ∙ c.if-not-is_index_root.true)

pub loop-name-preserved : goal.loop-name-preserved
loop-name-preserved c =
    let s = c.args in
    λ ns. c.loop-name.invariant ns ∙ names-on s.ordered.now c.loop-name.name-index (omega arith) (file_of s.image.now)
    s.kinds.now ns (sym c.is_index_root.ensures ∙ c.if-not-is_index_root.false)

pub returns : goal.returns
returns c =
    let s = c.args in
    λ ns. c.loop-name.invariant ns ∙ names-end s.ordered.now c.loop-name.name-index (omega arith) (file_of s.image.now) s.kinds.now ns
