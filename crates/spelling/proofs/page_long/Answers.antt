use mathlib.Core.Path.{◌∙◌}
use Prim.Native.Nat.{◌<◌}
use native.Mathlib.Omega.{arith}
use Rattle.page.specs.Header.{cell_count}
use Rattle.page.proofs.PageLaws.{sound-checks}
use Rattle.spelling.proofs.Laws.{pointer-reads, pointer-long, counting-starts, counting-on, counting-ends}
use Rattle.spelling.proofs.page_long.Goals as goal

pub loop-i-init : goal.loop-i-init
loop-i-init c = counting-starts _ _ _

pub be16-at-requires : goal.be16-at-requires
be16-at-requires c =
    let a = c.args in
    let k = sound-checks a.p.now a.u a.head c.requires.0 c.requires.4 in
    omega (arith, k.array, c.be16-n.ensures.0, c.child_width.ensures)

pub cell_long-requires : goal.cell_long-requires
cell_long-requires c =
    let a = c.args in
    let k = sound-checks a.p.now a.u a.head c.requires.0 c.requires.4 in
    let l : c.loop-i.i < cell_count a.p.now a.head = omega (arith, c.be16-n.ensures.0) in
    pointer-reads k l c.child_width.ensures c.be16-at.ensures.0 c.requires.0 c.requires.1 c.requires.2

pub loop-i-preserved : goal.loop-i-preserved
loop-i-preserved c =
    let a = c.args in
    let l = c.loop-i in
    let k = sound-checks a.p.now a.u a.head c.requires.0 c.requires.4 in
    let m : l.i < cell_count a.p.now a.head = omega (arith, c.be16-n.ensures.0) in
    counting-on a.p.now a.u a.head l.i l.total _ l.invariant m
    (pointer-long k m c.child_width.ensures c.be16-at.ensures.0 (c.from-total.ensures ∙ c.cell_long.ensures.0)) (omega (arith, c.from-total.ensures, c.cell_long.ensures.1))

pub returns : goal.returns
returns c =
    let a = c.args in
    let k = sound-checks a.p.now a.u a.head c.requires.0 c.requires.4 in
    counting-ends c.be16-n.result c.loop-i.invariant c.be16-n.ensures.0 c.loop-i-test.false k.array c.requires.1
