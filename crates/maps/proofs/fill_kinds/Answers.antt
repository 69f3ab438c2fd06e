use mathlib.Core.Path.{refl, ap, ◌∙◌}
use mathlib.Core.List.{List}
use Prim.Native.Nat.{ℕ}
use native.Mathlib.Omega.{arith}
use lib.ListN.{set, length-set}
use Rattle.image.specs.Image.{file_of}
use Rattle.image.proofs.Shape.{shape}
use Rattle.maps.proofs.Laws.{filled_none, filled_more, filled}
use Rattle.maps.proofs.fill_kinds.Goals as goal

pub lock_page-lock-requires : goal.lock_page-lock-requires
lock_page-lock-requires c = omega (arith, (shape c.requires.0).least)

pub be32-vacuum-requires : goal.be32-vacuum-requires
be32-vacuum-requires c = omega (arith, (shape c.requires.0).long)

pub loop-i-init : goal.loop-i-init
loop-i-init c =
    (refl, let a = c.args in filled_none (file_of a.image.now) a.kinds.now)

pub loop-i-preserved : goal.loop-i-preserved
loop-i-preserved c =
    let k = c.kind_at in
    let l = c.loop-i in
    let a = c.args in (
      simp length-set l.invariant.0,
      ap (λ (x : List ℕ). set x l.i k.result) l.invariant.1 ∙ filled_more _ l.i k.result
          a.kinds.now (omega arith) (k.ensures a.image.now a.h c.requires.0 refl refl c.be32-vacuum.ensures),
    )

pub returns : goal.returns
returns c =
    let l = c.loop-i in
    let a = c.args in
    filled (file_of a.image.now) a.h.pages l.i a.kinds.now l.kinds (shape c.requires.0).N-is (omega arith) (omega arith)
    c.requires.1 l.invariant.1
