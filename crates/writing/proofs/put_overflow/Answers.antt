use native.Mathlib.Omega.{arith}
use Rattle.writing.proofs.TreeLaid.{overflow-laid}
use Rattle.writing.proofs.put_overflow.Goals as goal

pub returns : goal.returns
returns c =
    let a = c.args in
    overflow-laid a.out.now _ _ _ a.page a.next a.chunk.now (omega (arith, c.requires)) (omega (arith, c.requires))
    c.put_word.ensures c.lay.ensures c.put_zeros.ensures
