-- The rules by the numbers that C sees: those of enum urk_refusal.
use Rattle.std.specs.Prelude.{ℕ}
use Rattle.refusal.specs.declared.Rule as R

abbrev pub number_of : R.Rule → ℕ
number_of R.TheVariants.ShortImage = 1
number_of R.TheVariants.BadMagic = 2
number_of R.TheVariants.BadPageSize = 3
number_of R.TheVariants.PartialPage = 4
number_of R.TheVariants.TooManyPages = 5
number_of R.TheVariants.SmallUsableSize = 6
number_of R.TheVariants.BadFractions = 7
number_of R.TheVariants.BadReadVersion = 8
number_of R.TheVariants.BadPageCount = 9
number_of R.TheVariants.IncrementalVacuum = 10
number_of R.TheVariants.ReservedHeader = 11
number_of R.TheVariants.SmallLedgers = 12
number_of R.TheVariants.LongInput = 13
number_of R.TheVariants.PointerRange = 20
number_of R.TheVariants.NamedTwice = 21
number_of R.TheVariants.PageType = 22
number_of R.TheVariants.NotSound = 23
number_of R.TheVariants.TreeLevel = 24
number_of R.TheVariants.RowOrder = 25
number_of R.TheVariants.LongPayload = 26
number_of R.TheVariants.ChainLength = 27
number_of R.TheVariants.BadRecord = 28
number_of R.TheVariants.Freelist = 29
number_of R.TheVariants.NeverNamed = 30
number_of R.TheVariants.MapEntry = 31
number_of R.TheVariants.LargestRoot = 32
number_of R.TheVariants.KeyOrder = 33
number_of R.TheVariants.TextEncoding = 34
number_of R.TheVariants.NoIndexRoot = 35
number_of R.TheVariants.LogVersion = 40
number_of R.TheVariants.RecoverySize = 41
number_of R.TheVariants.RecoveredPages = 42
number_of R.TheVariants.PageNowhere = 43
number_of R.TheVariants.SmallOutput = 44
number_of R.TheVariants.RecordedTwice = 45
number_of R.TheVariants.NoSuchPlace = 46
number_of R.TheVariants.SmallTable = 47
number_of R.TheVariants.BadRows = 48
number_of R.TheVariants.StaleCursor = 49
number_of R.TheVariants.NoLogHeader = 50
number_of R.TheVariants.BadCommit = 51
number_of R.TheVariants.NoTableRoot = 53
number_of R.TheVariants.DoesNotFit = 54
