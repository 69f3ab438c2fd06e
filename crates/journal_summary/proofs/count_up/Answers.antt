use native.Mathlib.Omega.{arith}
use borrow.Author.Rules.{rules}
use Rattle.journal_summary.proofs.GoingLaws.{going_start, going-ends, here-whole, going-record, going-none, header-whole, going-header}
use Rattle.journal_summary.proofs.count_up.Goals as goal

pub loop-left-init : goal.loop-left-init
loop-left-init c =
    going_start _ _ _ _ _ _ c.args.journal.now.fields (search rules) c.args.journal.now.whole (search rules) (search rules) c.nonce_at-nonce.ensures
    c.most_at-left.ensures

pub returns-then-ends_at : goal.returns-then-ends_at
returns-then-ends_at c =
    going-ends _ _ _ _ _ _ _ _ _ _ _ c.loop-left-2.invariant.0 c.loop-left-2-test.true
    _ c.ends_at.ensures _ c.if-ends_at.true c.record_stop.ensures

pub be32-requires : goal.be32-requires
be32-requires c =
    let w = here-whole _ _ _ _ _ _ _ _ _ _ _ c.loop-left-2.invariant.0 c.loop-left-2-test.true _ c.ends_at.ensures c.if-ends_at.false in
    omega (arith, w)

pub loop-left-2-preserved : goal.loop-left-2-preserved
loop-left-2-preserved c = (
  going-record _ _ _ _ _ _ _ _ _ _ _ c.loop-left-2.invariant.0 c.loop-left-2-test.true _ c.ends_at.ensures c.if-ends_at.false
      _ _ c.be32.ensures c.layable-laid.ensures.0 c.layable-laid.ensures.1,
  omega arith,
)

pub returns-then-not-is_headed : goal.returns-then-not-is_headed
returns-then-not-is_headed c =
    going-none _ _ _ _ _ _ _ _ _ _ _ c.loop-left-2.invariant.0 c.loop-left-2-test.false
    _ c.gap.ensures.0 _ c.is_headed.ensures _ c.if-not-is_headed.true
    c.header_stop.ensures

pub most_at-left-requires-in-loop-left : goal.most_at-left-requires-in-loop-left
most_at-left-requires-in-loop-left c =
    header-whole _ _ _ _ _ _ _ _ _ _ _ c.loop-left-2.invariant.0 c.loop-left-2-test.false
    _ c.gap.ensures.0 _ c.is_headed.ensures c.if-not-is_headed.false

pub nonce_at-nonce-requires-in-loop-left : goal.nonce_at-nonce-requires-in-loop-left
nonce_at-nonce-requires-in-loop-left c =
    header-whole _ _ _ _ _ _ _ _ _ _ _ c.loop-left-2.invariant.0 c.loop-left-2-test.false
    _ c.gap.ensures.0 _ c.is_headed.ensures c.if-not-is_headed.false

pub loop-left-smaller : goal.loop-left-smaller
loop-left-smaller c =
    let g = c.loop-left-2.invariant in
    let w = header-whole _ _ _ _ _ _ _ _ _ _ _ g.0 c.loop-left-2-test.false
    _ c.gap.ensures.0 _ c.is_headed.ensures c.if-not-is_headed.false in
    omega (arith, w, g.1, g.0.fields.sizes.sector_least, g.0.fields.sizes.sector_most)

pub loop-left-preserved : goal.loop-left-preserved
loop-left-preserved c =
    going-header _ _ _ _ _ _ _ _ _ _ _ c.loop-left-2.invariant.0 c.loop-left-2-test.false
    _ c.gap.ensures.0 _ c.is_headed.ensures c.if-not-is_headed.false _ _
    c.most_at-left-in-loop-left.ensures c.nonce_at-nonce-in-loop-left.ensures (search rules) (search rules)
