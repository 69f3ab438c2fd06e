use mathlib.Core.Path.{refl}
use native.Mathlib.Omega.{arith}
use Rattle.page.proofs.Table.{noted-all}
use Rattle.page.proofs.note.Goals as goal

pub returns : goal.returns
returns c = noted-all _ _ _ _ refl (omega arith) (omega arith)
