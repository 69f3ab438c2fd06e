use Rattle.std.proofs.Common.{ltb, ap, ◌∙◌}
use Rattle.number.proofs.SpellingLaws.{long-none, long-two, long-told}
use Rattle.number.proofs.long_of.Goals as goal

pub returns-then-w-lt2 : goal.returns-then-w-lt2
returns-then-w-lt2 c = long-told c.args.w _ (long-none c.args.w c.if-w-lt2.true)

pub returns-then-w-eq2 : goal.returns-then-w-eq2
returns-then-w-eq2 c = c.from.ensures ∙ long-told c.args.w _ (long-two c.args.w c.if-w-eq2.true)

pub returns : goal.returns
returns c = c.from-2.ensures ∙ long-told c.args.w _ (ap (λ n. ltb n c.args.w.length) c.varint_size.ensures)
