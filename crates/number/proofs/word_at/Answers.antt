use Rattle.std.proofs.Common.{arith, ◌∙◌}
use Rattle.number.proofs.VarintSteps.{stop-min, word_cut, word-one, second_cut, word-two, word-more}
use Rattle.number.proofs.word_at.Goals as goal

pub returns-then-stop-at : goal.returns-then-stop-at
returns-then-stop-at g c = word_cut _ _ _ _ (c.min-stop.ensures ∙ stop-min _ _) c.if-stop-at.true

pub returns-then-x-lt128 : goal.returns-then-x-lt128
returns-then-x-lt128 g c = word-one _ _ _ _ c.min-stop.ensures (omega arith) _ c.from-x.ensures c.if-x-lt128.true

pub returns-then-left-lt2 : goal.returns-then-left-lt2
returns-then-left-lt2 g c =
    second_cut _ _ _ _ c.min-stop.ensures (omega arith) _ c.from-x.ensures (omega arith) c.if-x-lt128.false (omega arith)

pub returns-then-y-lt128 : goal.returns-then-y-lt128
returns-then-y-lt128 g c =
    word-two _ _ _ _ c.min-stop.ensures (omega arith) _ c.from-x.ensures (omega arith) c.if-x-lt128.false
    _ (omega arith) c.from-y.ensures c.if-y-lt128.true

pub returns-then-left-ge9 : goal.returns-then-left-ge9
returns-then-left-ge9 g c =
    word-more _ _ _ _ c.min-stop.ensures (omega arith) _ c.from-x.ensures (omega arith) c.if-x-lt128.false
    _ (omega arith) c.from-y.ensures (omega arith) c.if-y-lt128.false _ c.varint_rest.ensures

pub returns : goal.returns
returns g c =
    word-more _ _ _ _ c.min-stop.ensures (omega arith) _ c.from-x.ensures (omega arith) c.if-x-lt128.false
    _ (omega arith) c.from-y.ensures (omega arith) c.if-y-lt128.false _ c.varint_rest-2.ensures
