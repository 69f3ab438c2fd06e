use Rattle.std.proofs.lemmas.Result.{err_from_is_err_and}
use mathlib.Core.Path.{ap, ◌∙◌}
use native.Mathlib.Omega.{arith}
use Rattle.image.proofs.Shape.{shape}
use Rattle.ledger.specs.Ledger.{outcome_at}
use Rattle.freelist.proofs.Laws.{count_fits, going-first, going-same, going_on, Named, named-trunk, total-fits, freelist-ends, freelist-spent}
use Rattle.freelist.proofs.Laws.{trunk-refused, trunk-over, leaves-refused}
use Rattle.freelist.proofs.walk_freelist.Goals as goal
use Rattle.freelist.proofs.walk_freelist.Goals.{In_ok-enter, else-loop-turn-test, then-loop-turn-test+then-t-eq0}

-- the trunk has been named
named : (c : In_ok-enter)
    → let a = c.args in
    let l = c.loop-turn in
    let e = c.enter.new in
    Named a.image.now a.h l.kinds l.namers l.holder l.t e.kinds e.namers
named c =
    let w = c.loop-turn in
    let e = c.enter in
    named-trunk c.requires.0 w.holder w.t w.invariant.ledgers e.auto.kinds e.auto.namers
    (λ m l. e.ensures m l ∙ ap (λ r. outcome_at m l r e.new.kinds e.new.namers) c.in_ok-enter.was)

pub overflow_sub-room : goal.overflow_sub-room
overflow_sub-room c =
    let s = shape c.requires.0 in
    omega (arith, s.used)

pub be32-t-requires : goal.be32-t-requires
be32-t-requires c =
    let s = shape c.requires.0 in
    omega (arith, s.long)

pub loop-turn-init : goal.loop-turn-init
loop-turn-init c =
    going-same (omega arith) (going-first c.requires.0 c.args.kinds.now c.args.namers.now _ c.requires.1 c.be32-t.ensures)

pub check_total-requires : goal.check_total-requires
check_total-requires c =
    let s = shape c.requires.0 in
    omega (arith, s.long)

pub returns-in_err-enter : goal.returns-in_err-enter
returns-in_err-enter c =
    let e = c.enter in
    let p = err_from_is_err_and c.from_residual.result c.from_residual.ensures.1 in
    rw (p.1, p.2) (λ m l. trunk-refused c.requires.0 c.loop-turn.invariant (omega arith) c.if-t-eq0.false m l _ _
    (e.ensures m l ∙ ap (λ r. outcome_at m l r e.new.kinds e.new.namers) c.in_err-enter.was))

pub word_at-count-requires : goal.word_at-count-requires
word_at-count-requires c =
    let s = shape c.requires.0 in
    ((named (goal.at.word_at-count-requires c).In_ok-enter).page, omega (arith, s.used))

pub returns-then-room-count : goal.returns-then-room-count
returns-then-room-count c =
    trunk-over c.requires.0 c.loop-turn.invariant (omega arith) c.if-t-eq0.false
    (named (goal.at.returns-then-room-count c).In_ok-enter) _ c.word_at-count.ensures c.if-room-count.true

pub walk_trunk-requires : goal.walk_trunk-requires
walk_trunk-requires c =
    let d = named (goal.at.walk_trunk-requires c).In_ok-enter in
    (d.page, d.ledgers, count_fits c.requires.0 c.loop-turn.t _ c.word_at-count.ensures (omega arith))

pub returns-in_err-walk_trunk : goal.returns-in_err-walk_trunk
returns-in_err-walk_trunk c =
    let e = c.walk_trunk in
    let p = err_from_is_err_and c.from_residual-in_err-walk_trunk.result c.from_residual-in_err-walk_trunk.ensures.1 in
    rw (p.1, p.2) (λ m l. leaves-refused c.requires.0 c.loop-turn.invariant (omega arith) c.if-t-eq0.false
    (named (goal.at.returns-in_err-walk_trunk c).In_ok-enter) _ c.word_at-count.ensures (omega arith) m l _ _
    (e.ensures m l ∙ ap (λ r. outcome_at m l r e.new.kinds e.new.namers) c.in_err-walk_trunk.was))

pub overflow_add-total-in-loop-turn : goal.overflow_add-total-in-loop-turn
overflow_add-total-in-loop-turn c =
    let s = total-fits c.requires.0 c.loop-turn.invariant in
    omega (arith, s)

pub word_at-t-requires : goal.word_at-t-requires
word_at-t-requires c =
    let s = shape c.requires.0 in
    ((named (goal.at.word_at-t-requires c).In_ok-enter).page, omega (arith, s.used))

pub loop-turn-preserved : goal.loop-turn-preserved
loop-turn-preserved c =
    let e = c.walk_trunk in
    let d = named (goal.at.loop-turn-preserved c).In_ok-enter in
    going-same (omega arith)
    (going_on c.requires.0 c.loop-turn.invariant (omega arith) c.if-t-eq0.false d _
    c.word_at-count.ensures (omega arith) _
    (record { kinds_n = e.auto.kinds ∙ d.ledgers.kinds_n; namers_n = e.auto.namers ∙ d.ledgers.namers_n }) c.word_at-t.ensures
    (λ m l. e.ensures m l ∙ ap (λ r. outcome_at m l r e.new.kinds e.new.namers) c.in_ok-walk_trunk.was))

pub returns : goal.returns
returns c =
    let w = c.loop-turn in
    λ m l. elim c.loop-turn-test.branch [
      | else-loop-turn-test x ↦ freelist-spent c.requires.0 w.invariant (omega (arith, x.loop-turn-test.false)) m l
      | then-loop-turn-test+then-t-eq0 x ↦ freelist-ends c.requires.0 w.invariant x.if-t-eq0.true m l
    ] ∙ c.check_total.ensures _ w.kinds w.namers m l
