use native.Mathlib.Omega.{arith}
use Rattle.writing.proofs.KeyLaws.{keys-turn, keys_on, keys-end}
use Rattle.writing.proofs.put_keys.Goals as goal

pub put_key-at-requires : goal.put_key-at-requires
put_key-at-requires c =
    keys-turn _ _ _ _ _ _ c.args.count c.args.i _ _ c.requires.whole c.loop-k-test.true c.loop-k.invariant.1

pub loop-k-preserved : goal.loop-k-preserved
loop-k-preserved c = (
  omega arith,
  keys_on _ _ _ _ _ _ c.args.count c.args.i _ _ c.requires.whole c.loop-k-test.true c.loop-k.invariant.1
      _ _ c.put_key-at.ensures,
)

pub returns : goal.returns
returns c =
    let l = c.loop-k in
    keys-end _ _ _ _ _ _ _ _ _ _ (omega arith) l.invariant.1
