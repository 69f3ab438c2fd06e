use Prim.Native.Nat.{◌+◌, ◌-◌}
use Rattle.freelist.proofs.Laws.{Going}
use Rattle.freelist.proofs.walk_freelist.Given as goal

abbrev pub invariant-loop-turn : goal.invariant-loop-turn
invariant-loop-turn l =
    Going l.image l.h l.initial.kinds l.initial.namers l.kinds l.namers l.holder l.t l.total (l.h.pages + 1 - l.turn)
