use mathlib.Core.Path.{sym, ◌∙◌}
use native.Mathlib.Omega.{arith}
use Rattle.dealing.proofs.After.{checks-none}
use Rattle.image.proofs.Shape.{shape}
use Rattle.maps.proofs.Laws.{maps_none, maps-more, maps-31, maps-32, maps-good}
use Rattle.maps.proofs.check_maps.Goals as goal

pub be32-vacuum-requires : goal.be32-vacuum-requires
be32-vacuum-requires c =
    omega (arith, (shape c.requires.0).long)

pub returns-then-vacuum-eq0 : goal.returns-then-vacuum-eq0
returns-then-vacuum-eq0 c =
    maps_none c.requires.0 c.args.kinds.now c.args.namers.now (sym c.be32-vacuum.ensures ∙ c.if-vacuum-eq0.true)

pub lock_page-lock-requires : goal.lock_page-lock-requires
lock_page-lock-requires c =
    omega (arith, (shape c.requires.0).least)

pub loop-i-init : goal.loop-i-init
loop-i-init c = checks-none _ _ _

pub overflow_cast-result : goal.overflow_cast-result
overflow_cast-result c = omega (arith, (shape c.requires.0).few)

pub overflow_add-result : goal.overflow_add-result
overflow_add-result c = omega (arith, (shape c.requires.0).few)

pub returns-then-not-agrees : goal.returns-then-not-agrees
returns-then-not-agrees c =
    let g = c.agrees in
    let l = c.loop-i in
    let v = c.be32-vacuum in
    let a = c.args in
    maps-31 c.requires.0 a.kinds.now a.namers.now (λ e. c.if-vacuum-eq0.false (v.ensures ∙ e)) l.i c.loop-i-test.true l.invariant
    (sym g.ensures ∙ c.if-not-agrees.true)

pub loop-i-preserved : goal.loop-i-preserved
loop-i-preserved c =
    let g = c.agrees in
    let l = c.loop-i in
    let a = c.args in
    maps-more c.requires.0 a.kinds.now a.namers.now l.i l.invariant (sym g.ensures ∙ c.if-not-agrees.false)

pub returns-then-largest_root-vacuum : goal.returns-then-largest_root-vacuum
returns-then-largest_root-vacuum c =
    let r = c.largest_root in
    let l = c.loop-i in
    let v = c.be32-vacuum in
    let a = c.args in
    maps-32 c.requires.0 a.kinds.now a.namers.now (λ e. c.if-vacuum-eq0.false (v.ensures ∙ e)) l.i (omega (arith, c.loop-i-test.false)) (omega arith) l.invariant
    (λ e. c.if-largest_root-vacuum.true (r.ensures ∙ sym e ∙ sym v.ensures))

pub returns : goal.returns
returns c =
    let r = c.largest_root in
    let l = c.loop-i in
    let v = c.be32-vacuum in
    let a = c.args in
    maps-good c.requires.0 a.kinds.now a.namers.now (λ e. c.if-vacuum-eq0.false (v.ensures ∙ e)) l.i (omega (arith, c.loop-i-test.false)) (omega arith) l.invariant
    (sym v.ensures ∙ sym c.if-largest_root-vacuum.false ∙ r.ensures)
