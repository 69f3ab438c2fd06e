use Prim.Native.Nat.{◌-◌}
use mathlib.Core.Path.{refl}
use native.Mathlib.Omega.{arith}
use Rattle.cursor_words.specs.Words.{pages_in, cells_in}
use Rattle.cursor_words.proofs.Laws.{pages-more, cells-more}
use Rattle.cursor_words.proofs.read.Goals as goal

pub loop-k-init : goal.loop-k-init
unfolding pages_in cells_in
loop-k-init c = (refl, refl)

pub loop-k-preserved : goal.loop-k-preserved
loop-k-preserved c =
    let l = c.loop-k in
    let w = c.args.words.now in
    (pages-more w l.k l.pages l.invariant.0, cells-more w l.k l.cells l.invariant.1)
