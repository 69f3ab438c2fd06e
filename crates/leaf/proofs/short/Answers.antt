use native.Mathlib.Omega.{arith}
use Rattle.leaf.proofs.ShortLaws.{short-one, short-two, short-three, short-four}
use Rattle.leaf.proofs.short.Goals as goal

pub returns-then-a-lt128 : goal.returns-then-a-lt128
returns-then-a-lt128 c = λ f. short-one _ _ _ _ (omega arith) (omega arith) (omega arith) (omega arith)

pub returns-then-b-lt128 : goal.returns-then-b-lt128
returns-then-b-lt128 c = λ f. short-two _ _ _ _ (omega arith) (omega arith) (omega arith) (omega arith) (omega arith) (omega arith) _ (omega arith) (omega arith)

pub returns-then-c-lt128 : goal.returns-then-c-lt128
returns-then-c-lt128 c = λ f.
    short-three _ _ _ _ (omega arith) (omega arith) (omega arith) (omega arith) (omega arith) (omega arith)
    _ (omega arith) (omega arith) (omega arith) _ (omega arith) (omega arith)

pub returns-then-d-lt128 : goal.returns-then-d-lt128
returns-then-d-lt128 c = λ f.
    short-four _ _ _ _ (omega arith) (omega arith) (omega arith) (omega arith) (omega arith) (omega arith)
    _ (omega arith) (omega arith) (omega arith) _ (omega arith) (omega arith) (omega arith) _ (omega arith) (omega arith)
