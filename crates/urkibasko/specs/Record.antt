use Rattle.std.specs.Prelude.{ℕ, ℤ, pos, negsuc, Float, Option, Some, None, Result, Ok, Err}
use Rattle.std.specs.Float.{binary64}
use Rattle.std.specs.Float.Ieee.{of_bits}
use Rattle.std.specs.declared.cmp.Ordering as O
use Rattle.record.specs.declared.Column as Col
use Rattle.record.specs.declared.NoValue as No
use Rattle.compare.specs.declared.Unread as Un
use Rattle.urkibasko.specs.declared.answers.UrkColumns.{UrkColumns}
use Rattle.urkibasko.specs.declared.answers.UrkColumn.{UrkColumn}
use Rattle.urkibasko.specs.declared.answers.UrkOrder.{UrkOrder}

-- status 0 reads, 1 does not read
abbrev pub columns_c : Option ℕ → UrkColumns
columns_c None = record { status = 1; count = 0 }
columns_c (Some n) = record { status = 0; count = n }

-- the real whose bits are all 0
abbrev pub zero_real : Float
zero_real = of_bits binary64 0

abbrev pub column_is : (status kind : ℕ) → ℤ → Float → (place length : ℕ) → UrkColumn
column_is status kind integer real place length =
    record { status = status; kind = kind; integer = integer; real = real; place = place; length = length }

-- kind 0 null, 1 integer, 2 real, 3 text, 4 blob
abbrev pub column_c : Col.Column → UrkColumn
column_c Col.TheVariants.Null = column_is 0 0 (pos 0) zero_real 0 0
column_c (Col.TheVariants.Int v) = column_is 0 1 v zero_real 0 0
column_c (Col.TheVariants.Real x) = column_is 0 2 (pos 0) x 0 0
column_c (Col.TheVariants.Text place length) = column_is 0 3 (pos 0) zero_real place length
column_c (Col.TheVariants.Blob place length) = column_is 0 4 (pos 0) zero_real place length

abbrev pub no_value : (status : ℕ) → UrkColumn
no_value status = column_is status 0 (pos 0) zero_real 0 0

-- status 0 value, 1 does not read, 2 missing
abbrev pub value_c : Result Col.Column No.NoValue → UrkColumn
value_c (Err No.TheVariants.DoesNotRead) = no_value 1
value_c (Err No.TheVariants.Missing) = no_value 2
value_c (Ok c) = column_c c

abbrev pub order_is : (status : ℕ) (order : ℤ) → UrkOrder
order_is status order = record { status = status; order = order }

-- status 0 both read, 1 the first does not, 2 the second does not; order -1, 0 and 1, and 0 where one does not read
abbrev pub order_c : Result O.Ordering Un.Unread → UrkOrder
order_c (Err Un.TheVariants.First) = order_is 1 (pos 0)
order_c (Err Un.TheVariants.Second) = order_is 2 (pos 0)
order_c (Ok O.TheVariants.Less) = order_is 0 (negsuc 0)
order_c (Ok O.TheVariants.Equal) = order_is 0 (pos 0)
order_c (Ok O.TheVariants.Greater) = order_is 0 (pos 1)
