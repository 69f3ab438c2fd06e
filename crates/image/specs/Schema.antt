-- A schema row's record: five columns, the fourth of which may name a root.
use Rattle.std.specs.Prelude.{ℕ, cond, List, eqb, Option, Some, None, Result, Ok, Err}
use Rattle.dealing.specs.File.{Column4, unfit, null, integer}
use Rattle.record.specs.Record.{columns_of, column_at}
use Rattle.record.specs.declared.Column as Col
use Rattle.record.specs.declared.NoValue.{NoValue}

-- a column that is neither null nor an integer is unfit
abbrev pub column_is : Col.Column → Column4
column_is Col.TheVariants.Null = null
column_is (Col.TheVariants.Int v) = integer v
column_is (Col.TheVariants.Real x) = unfit
column_is (Col.TheVariants.Text p l) = unfit
column_is (Col.TheVariants.Blob p l) = unfit

abbrev pub value_is : Result Col.Column NoValue → Column4
value_is (Err e) = unfit
value_is (Ok c) = column_is c

abbrev pub of_five : Option ℕ → Column4 → Column4
of_five None v = unfit
of_five (Some n) v = cond (eqb n 5) v unfit

-- column four of a record, if that has five columns
unfoldable pub column4_of : List ℕ → Column4
column4_of r = of_five (columns_of r) (value_is (column_at r 4))
