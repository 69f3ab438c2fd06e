use Rattle.std.proofs.Common.{◌≡◌, drop}
use Rattle.appending.specs.Answers.{numbers_fit}
use Rattle.appending.proofs.numbers_fit.Given as goal

abbrev pub invariant-loop-number : goal.invariant-loop-number
invariant-loop-number l = numbers_fit l.size l.n (drop l.number-index l.numbers) ≡ numbers_fit l.size l.n l.numbers
