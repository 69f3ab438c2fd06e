use Rattle.std.proofs.Common.{refl, ◌∙◌, rules}
use Rattle.appending.proofs.StandLaws.{words-length}
use Rattle.appending.proofs.WritingLaws.{writing-starts, writing-on, writing-ends, writing-sums, front-laid}
use Rattle.appending.proofs.put_frames.Goals as goal

pub loop-i-init : goal.loop-i-init
loop-i-init c = writing-starts _ _ _ _ _ _ _ _ _ c.requires.whole c.requires.room (search rules) (search rules)

pub loop-i-preserved : goal.loop-i-preserved
loop-i-preserved c =
    writing-on _ _ _ _ _ _ _ _ _ _ _ _ _ _ _ c.loop-i.invariant _ _ _ _ _ _ c.loop-i-test.true (words-length c.args.salt1 c.args.salt2) (search rules) (search rules)
    c.commit_for-commit.ensures refl refl c.put_frame-t.ensures.sums c.put_frame-t.ensures.output

pub returns-clause-sums : goal.returns-clause-sums
returns-clause-sums c = writing-sums _ _ _ _ _ _ _ _ _ _ _ _ _ _ _ c.loop-i.invariant c.loop-i-test.false

pub returns-clause-output : goal.returns-clause-output
returns-clause-output c =
    writing-ends _ _ _ _ _ _ _ _ _ _ _ _ _ _ _ c.loop-i.invariant c.loop-i-test.false
    ∙ front-laid _ _ _ _ _ _ _ _ (words-length c.args.salt1 c.args.salt2) c.requires.whole
