-- Laws of the rules' numbers, for callers.
-- Assumes nothing.
use Prim.Native.Nat.{ℕ}
use mathlib.Core.Path.{◌≡◌}
use native.Mathlib.Omega.{arith}
use Rattle.refusal.specs.declared.Rule as R
use Rattle.refusal.specs.Rule.{number_of}

-- no rule has the number 0
pub number-some : (rule : R.Rule) → number_of rule ≡ 0 → ⊥
number-some R.TheVariants.ShortImage e = omega arith
number-some R.TheVariants.BadMagic e = omega arith
number-some R.TheVariants.BadPageSize e = omega arith
number-some R.TheVariants.PartialPage e = omega arith
number-some R.TheVariants.TooManyPages e = omega arith
number-some R.TheVariants.SmallUsableSize e = omega arith
number-some R.TheVariants.BadFractions e = omega arith
number-some R.TheVariants.BadReadVersion e = omega arith
number-some R.TheVariants.BadPageCount e = omega arith
number-some R.TheVariants.IncrementalVacuum e = omega arith
number-some R.TheVariants.ReservedHeader e = omega arith
number-some R.TheVariants.SmallLedgers e = omega arith
number-some R.TheVariants.LongInput e = omega arith
number-some R.TheVariants.PointerRange e = omega arith
number-some R.TheVariants.NamedTwice e = omega arith
number-some R.TheVariants.PageType e = omega arith
number-some R.TheVariants.NotSound e = omega arith
number-some R.TheVariants.TreeLevel e = omega arith
number-some R.TheVariants.RowOrder e = omega arith
number-some R.TheVariants.LongPayload e = omega arith
number-some R.TheVariants.ChainLength e = omega arith
number-some R.TheVariants.BadRecord e = omega arith
number-some R.TheVariants.Freelist e = omega arith
number-some R.TheVariants.NeverNamed e = omega arith
number-some R.TheVariants.MapEntry e = omega arith
number-some R.TheVariants.LargestRoot e = omega arith
number-some R.TheVariants.KeyOrder e = omega arith
number-some R.TheVariants.TextEncoding e = omega arith
number-some R.TheVariants.NoIndexRoot e = omega arith
number-some R.TheVariants.LogVersion e = omega arith
number-some R.TheVariants.RecoverySize e = omega arith
number-some R.TheVariants.RecoveredPages e = omega arith
number-some R.TheVariants.PageNowhere e = omega arith
number-some R.TheVariants.SmallOutput e = omega arith
number-some R.TheVariants.RecordedTwice e = omega arith
number-some R.TheVariants.NoSuchPlace e = omega arith
number-some R.TheVariants.SmallTable e = omega arith
number-some R.TheVariants.BadRows e = omega arith
number-some R.TheVariants.StaleCursor e = omega arith
number-some R.TheVariants.NoLogHeader e = omega arith
number-some R.TheVariants.BadCommit e = omega arith
number-some R.TheVariants.NoTableRoot e = omega arith
number-some R.TheVariants.DoesNotFit e = omega arith
