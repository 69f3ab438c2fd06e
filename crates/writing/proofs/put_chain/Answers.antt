use Prim.Native.Nat.{◌-◌}
use native.Mathlib.Omega.{arith}
use Rattle.writing.proofs.ChainLaws.{chain-on, chain-end}
use Rattle.writing.proofs.put_chain.Goals as goal

pub loop-k-preserved : goal.loop-k-preserved
loop-k-preserved c =
    let l = c.loop-k in (
      omega arith,
      chain-on _ _ _ _ _ c.args.n _ _ _ _ c.loop-k-test.true l.invariant.1 _ _ _ (c.args.n - l.k - 1) (omega arith)
          c.chunk_of-size.ensures.2 c.next_of-next.ensures c.put_overflow.ensures,
    )

pub returns : goal.returns
returns c =
    let l = c.loop-k in
    chain-end _ _ _ _ _ _ _ _ _ (omega arith) l.invariant.1
