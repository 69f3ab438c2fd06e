-- What a schema row says of a root, by its column four (28).
use Rattle.std.specs.Prelude.{ℕ, cond, Option, Some, None, Result, Ok, Err}
use Rattle.dealing.specs.File.{Column4}
use Rattle.dealing.specs.Walk.{Named, nothing, root, fit, named_by}
use Rattle.refusal.specs.declared.Rule.{Rule}
use Rattle.refusal.specs.declared.Rule.TheVariants.{BadRecord}

abbrev pub row_named : Named → Option ℕ
row_named nothing = None
row_named (root r) = Some r

-- unfit: 28; null and 0 name no root; else the page that is one, of 2 to N
unfoldable pub row_is : (N : ℕ) → Column4 → Result (Option ℕ) Rule
row_is N v = cond (fit N v) (Ok (row_named (named_by v))) (Err BadRecord)
