-- How two keys compare, as a test.
use Rattle.std.specs.Prelude.{Bool, true, false, Result, Ok, Err}
use Rattle.std.specs.declared.cmp.Ordering.{Ordering}
use Rattle.std.specs.declared.cmp.Ordering.TheVariants.{Less, Equal, Greater}
use Rattle.compare.specs.declared.Unread.{Unread}

-- both records read, and the first is less
abbrev pub less_in : Result Ordering Unread → Bool
less_in (Ok Less) = true
less_in (Ok Equal) = false
less_in (Ok Greater) = false
less_in (Err e) = false
