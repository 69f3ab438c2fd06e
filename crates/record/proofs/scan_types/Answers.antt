use mathlib.Core.Path.{ap, ◌∙◌, subst}
use lib.ListN.{length}
use native.Mathlib.Omega.{arith}
use Rattle.record.proofs.ScanLaws.{Scanning, met, met-start, met-not, met-is, met-hit, met-passed, Next, Sized, scan-start, scan-beyond, scan-gap, scan-whole, scan-short, scan-refused, scan-ends, scan-long, scan-on, hit, passed}
use Rattle.record.proofs.SerialLaws.{room-none, room-size}
use Rattle.record.proofs.scan_types.Goals.{In_ok-size, After-varint_word-word}
use Rattle.record.proofs.scan_types.Goals.{then-count-i, else-count-i}
use Rattle.record.proofs.scan_types.Goals as goal
use Rattle.record.specs.declared.Spot.{Spot}
use Rattle.std.specs.Prelude.{Option, Some}

next : (c : After-varint_word-word)
    → let a = c.args in
    let l = c.loop-at in
    Next a.b.now a.own a.header a.i (length a.b.now) l.at l.place l.count (met a.i l.count l.kind l.from) c.varint_word-word.result
next c = record { stands = c.loop-at.invariant.0; on = λ e. omega arith; word = c.varint_word-word.ensures }

sized : (c : In_ok-size)
    → let a = c.args in
    let l = c.loop-at in
    Sized a.b.now a.own a.header a.i (length a.b.now) l.at l.place l.count (met a.i l.count l.kind l.from) c.varint_word-word.result c.in_ok-size.size
sized c =
    record {
      next = record { stands = c.loop-at.invariant.0; on = λ e. omega arith; word = c.varint_word-word.ensures };
      some = c.if-word-eq0.false;
      fine = (room-size _ _ _ c.in_ok-size.ensures).0;
      sized = (room-size _ _ _ c.in_ok-size.ensures).1;
    }

pub returns-then-end-header : goal.returns-then-end-header
returns-then-end-header c = let a = c.args in scan-beyond a.b.now a.own a.header a.i c.if-end-header.true

pub loop-at-init : goal.loop-at-init
loop-at-init c =
    let a = c.args in
    (subst (Scanning a.b.now a.own a.header a.i (length a.b.now) a.own a.header 0) (met-start a.i) (scan-start _ _ _ _ c.if-end-header.false), c.requires)

pub returns-then-word-eq0 : goal.returns-then-word-eq0
returns-then-word-eq0 c = scan-short (next (goal.at.returns-then-word-eq0 c).After-varint_word-word) c.if-word-eq0.true

pub returns-in_err-size : goal.returns-in_err-size
returns-in_err-size c =
    c.from_residual.ensures
    ∙ scan-refused (next (goal.at.returns-in_err-size c).After-varint_word-word) (room-none _ _ c.in_err-size.ensures)

pub returns-then-end-place : goal.returns-then-end-place
returns-then-end-place c = scan-long (sized (goal.at.returns-then-end-place c).In_ok-size) c.if-end-place.true

pub overflow_add-at : goal.overflow_add-at
overflow_add-at c = let s = sized (goal.at.overflow_add-at c).In_ok-size in omega (arith, scan-ends s, s.next.stands.bound)

pub overflow_add-count : goal.overflow_add-count
overflow_add-count c = let s = sized (goal.at.overflow_add-count c).In_ok-size in omega (arith, scan-ends s, s.next.stands.bound, s.next.stands.counted)

pub loop-at-smaller : goal.loop-at-smaller
loop-at-smaller c = omega (arith, scan-ends (sized (goal.at.loop-at-smaller c).In_ok-size))

pub loop-at-preserved : goal.loop-at-preserved
loop-at-preserved c =
    let s = sized (goal.at.loop-at-preserved c).In_ok-size in
    elim c.if-count-i.branch [
      | then-count-i w ↦
          (scan-on s c.if-end-place.false _ (met-hit _ _ _ _ _ _ w.if-count-i.true w.kind-is w.from-is ∙ hit _ _ _ _ _ w.if-count-i.true), (scan-ends s).1)
      | else-count-i w ↦
          (scan-on s c.if-end-place.false _ (met-passed _ _ _ _ _ _ w.if-count-i.false w.kind-is w.from-is ∙ passed _ _ _ _ _ w.if-count-i.false), (scan-ends s).1)
    ]

pub returns-then-place-end : goal.returns-then-place-end
returns-then-place-end c = scan-gap c.loop-at.invariant.0 (omega (arith, c.loop-at.invariant.1)) (λ e. omega arith)

pub returns-then-count-i-2 : goal.returns-then-count-i-2
returns-then-count-i-2 c =
    let l = c.loop-at in
    ap (λ (f : Option Spot). Some (record { count = l.count; found = f })) (met-not _ _ l.kind l.from c.if-count-i-2.either)
    ∙ scan-whole l.invariant.0 (omega (arith, l.invariant.1)) (omega arith)

pub returns-else-count-i-2 : goal.returns-else-count-i-2
returns-else-count-i-2 c =
    let l = c.loop-at in
    let t = c.if-count-i-2.false in
    ap (λ (f : Option Spot). Some (record { count = l.count; found = f })) (met-is _ _ l.kind l.from t.0 t.1)
    ∙ scan-whole l.invariant.0 (omega (arith, l.invariant.1)) (omega arith)
