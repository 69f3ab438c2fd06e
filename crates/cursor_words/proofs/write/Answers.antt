use Prim.Native.Nat.{◌-◌}
use mathlib.Core.Path.{refl}
use native.Mathlib.Omega.{arith}
use lib.ListN.{set}
use Rattle.cursor_words.specs.Words.{laid_levels}
use Rattle.cursor_words.proofs.Laws.{laid_more, set_long, set_twice, set-twice-long}
use Rattle.cursor_words.proofs.write.Goals as goal

pub loop-k-init : goal.loop-k-init
unfolding laid_levels
loop-k-init c = (set_long c.args.words.now 0 _ 41 c.requires, refl, refl)

pub loop-k-preserved : goal.loop-k-preserved
loop-k-preserved c =
    let l = c.loop-k in
    let a = c.args in (
      set-twice-long l.words _ _ _ _ 41 l.invariant.0,
      set_twice l.words (set a.words.now 0 a.c.levels) _ _ _ _ l.invariant.1,
      laid_more _ l.k _ _ l.words l.invariant.2,
    )
