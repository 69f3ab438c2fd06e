use Rattle.std.proofs.lemmas.Nat.Bits.{shr_and_one}
use Rattle.paging.specs.Bits.{bit_at}
use Rattle.paging.proofs.has_bit.Goals as goal

pub returns : goal.returns
unfolding bit_at
returns c = simp shr_and_one
