use mathlib.Core.Path.{refl}
use Rattle.cell.specs.Split.{chain_length}
use Rattle.cell.proofs.chain_length.Goals as goal

pub returns : goal.returns
unfolding chain_length
returns c = refl
