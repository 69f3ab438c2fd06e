use mathlib.Core.Path.{sym, ◌∙◌}
use native.Mathlib.Omega.{arith}
use Rattle.compare.proofs.RecordLaws.{walk_start, walk_same, walk-less, walk_more, one, two, walk-told, walk-on}
use Rattle.compare.proofs.records.Goals as goal

pub loop-i-init : goal.loop-i-init
loop-i-init c =
    walk_start c.args.a.now c.args.b.now _ _ c.requires.0 c.requires.1 c.varint_word-first.ensures
    c.varint_word-second.ensures

pub returns-then-j-other : goal.returns-then-j-other
returns-then-j-other c = walk_more c.loop-i.invariant c.loop-i-test.true c.if-j-other.true

pub values-compared-requires : goal.values-compared-requires
values-compared-requires c =
    let at-loop = c.loop-i in
    let at-loop-test = c.loop-i-test in
    let x = one at-loop.invariant at-loop-test.true c.if-j-other.false c.varint_word-s.ensures c.varint_word-t.ensures in
    let y = two at-loop.invariant at-loop-test.true c.if-j-other.false c.varint_word-s.ensures c.varint_word-t.ensures in
    (x.fits, y.fits)

pub returns-then-is_ne : goal.returns-then-is_ne
returns-then-is_ne c =
    walk-told c.loop-i.invariant c.loop-i-test.true
    c.if-j-other.false c.varint_word-s.ensures c.varint_word-t.ensures _ c.values-compared.ensures (sym c.is_ne.ensures ∙ c.if-is_ne.true)

pub overflow_add-i : goal.overflow_add-i
overflow_add-i c =
    let x = one c.loop-i.invariant c.loop-i-test.true
    c.if-j-other.false c.varint_word-s.ensures c.varint_word-t.ensures in
    omega (arith, x.ends, x.on.bound)

pub overflow_add-j : goal.overflow_add-j
overflow_add-j c =
    let x = two c.loop-i.invariant c.loop-i-test.true
    c.if-j-other.false c.varint_word-s.ensures c.varint_word-t.ensures in
    omega (arith, x.ends, x.on.bound)

pub overflow_add-p : goal.overflow_add-p
overflow_add-p c =
    let x = one c.loop-i.invariant c.loop-i-test.true
    c.if-j-other.false c.varint_word-s.ensures c.varint_word-t.ensures in
    omega (arith, x.fits, c.size_of.ensures)

pub overflow_add-q : goal.overflow_add-q
overflow_add-q c =
    let x = two c.loop-i.invariant c.loop-i-test.true
    c.if-j-other.false c.varint_word-s.ensures c.varint_word-t.ensures in
    omega (arith, x.fits, c.size_of-in-loop-i.ensures)

pub loop-i-smaller : goal.loop-i-smaller
loop-i-smaller c =
    let x = one c.loop-i.invariant c.loop-i-test.true
    c.if-j-other.false c.varint_word-s.ensures c.varint_word-t.ensures in
    omega (arith, x.ends, x.some)

pub loop-i-preserved : goal.loop-i-preserved
loop-i-preserved c =
    walk-on c.loop-i.invariant c.loop-i-test.true
    c.if-j-other.false
    c.varint_word-s.ensures c.varint_word-t.ensures c.values-compared.result c.values-compared.ensures
    (sym c.is_ne.ensures ∙ c.if-is_ne.false) c.size_of.result c.size_of-in-loop-i.result
    c.size_of.ensures c.size_of-in-loop-i.ensures

pub returns-then-j-other-2 : goal.returns-then-j-other-2
returns-then-j-other-2 c = walk_same c.loop-i.invariant c.loop-i-test.false c.if-j-other-2.true

pub returns : goal.returns
returns c = walk-less c.loop-i.invariant c.loop-i-test.false c.if-j-other-2.false
