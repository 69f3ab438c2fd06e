-- No answer depends on deleted material. `b` is an image, d its good dealing, `c` an image that differs from b in such bytes alone
-- (specs/Altered.antt).
-- Nothing is asked of c's own bytes: that it is good is part of what is shown.
use Prim.Native.Nat.{ℕ}
use mathlib.Core.List.{List}
use Rattle.dealing.specs.Good.{Dealing}
use Rattle.image.specs.Good.{GoodDealing}
use Rattle.altered.specs.Altered.{Altered, Wider}
use Rattle.altered.specs.Answers.{SameAnswers}
use Rattle.altered.proofs.Relations.{altered-wider, wider-keeps}
use Rattle.altered.proofs.Answers.{answers-same}

-- free leaf pages, reserved tails, gaps
pub altered-answers : (b c : List ℕ) (d : Dealing) → GoodDealing b d → Altered b c d.kind → SameAnswers b c d
altered-answers b c d g a = answers-same b c d g (wider-keeps b c d g (altered-wider a))

-- and besides the lock-byte page, what follows a trunk's leaf numbers, and pages past N
pub wider-answers : (b c : List ℕ) (d : Dealing) → GoodDealing b d → Wider b c d.kind → SameAnswers b c d
wider-answers b c d g a = answers-same b c d g (wider-keeps b c d g a)
