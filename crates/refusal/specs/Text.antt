-- What is printed of a rule, and of a refusal.
use Rattle.std.specs.Prelude.{ℕ, List, ◌++◌, codes}
use Rattle.std.specs.Fmt.{decimal}
use Rattle.refusal.specs.declared.Rule as R
use Rattle.refusal.specs.declared.Refusal.{Refusal}
use Rattle.refusal.specs.Rule.{number_of}

abbrev pub text_of : R.Rule → List ℕ
text_of R.TheVariants.ShortImage = codes "the image has fewer than 512 bytes"
text_of R.TheVariants.BadMagic = codes "the image does not begin with \"SQLite format 3\" and a zero"
text_of R.TheVariants.BadPageSize = codes "the page size at offset 16 is neither a power of two from 512 to 32768 nor 1 (for 65536)"
text_of R.TheVariants.PartialPage = codes "the image's length is no whole number of pages"
text_of R.TheVariants.TooManyPages = codes "the database has over 2,200,000 pages"
text_of R.TheVariants.SmallUsableSize = codes "the page size less the reserved bytes is under 480"
text_of R.TheVariants.BadFractions = codes "the payload fractions at offsets 21 to 23 are not 64, 32, 32"
text_of R.TheVariants.BadReadVersion = codes "the read version at offset 19 is not 1 or 2"
text_of R.TheVariants.BadPageCount = codes "fewer pages are present than the count at offset 28 says"
text_of R.TheVariants.IncrementalVacuum = codes "the number at offset 64 (incremental vacuum) is set while the one at 52 (auto-vacuum) is zero"
text_of R.TheVariants.ReservedHeader = codes "the reserved bytes 72 to 91 of the header are not all zero"
text_of R.TheVariants.SmallLedgers = codes "a ledger has fewer entries than the database has pages"
text_of R.TheVariants.LongInput = codes "standard input has over 65,536 bytes"
text_of R.TheVariants.PointerRange = codes "a pointer names a page that the image does not have"
text_of R.TheVariants.NamedTwice = codes "the page is named a second time (page 1, a pointer map or the lock-byte page by its very first pointer)"
text_of R.TheVariants.PageType = codes "the page's type byte does not suit its place"
text_of R.TheVariants.NotSound = codes "the page's cells, freeblocks and fragments do not account for each of its bytes"
text_of R.TheVariants.TreeLevel = codes "the page would be level 21 of its tree, or is a leaf at another level than the leaves before it"
text_of R.TheVariants.RowOrder = codes "the page's row numbers are out of order"
text_of R.TheVariants.LongPayload = codes "the page has a payload of over 65,536 bytes"
text_of R.TheVariants.ChainLength = codes "an overflow chain ends too early or too late"
text_of R.TheVariants.BadRecord = codes "the page has a cell whose payload does not read as a record; or a schema row that has not five columns, or whose root is no page from 2 on"
text_of R.TheVariants.Freelist = codes "a trunk's count is too large, or the freelist's total is not the number at offset 36"
text_of R.TheVariants.NeverNamed = codes "nothing names the page"
text_of R.TheVariants.MapEntry = codes "the pointer map's entry about the page says another kind, or another number than its namer (0 for a root or a free page)"
text_of R.TheVariants.LargestRoot = codes "the number at offset 52 is not the largest root page"
text_of R.TheVariants.KeyOrder = codes "the page has a key, of an index that was named, that is not more than the key before it"
text_of R.TheVariants.TextEncoding = codes "an index was named, and the text encoding at offset 56 is not 1 (UTF-8)"
text_of R.TheVariants.NoIndexRoot = codes "the page that was named as an index is no index root"
text_of R.TheVariants.LogVersion = codes "the log's version is not 3007000"
text_of R.TheVariants.RecoverySize = codes "a page size or sector size is no power of two from 512 to 65536, or the words of a tail have no page size or no order of bytes"
text_of R.TheVariants.RecoveredPages = codes "the recovered database would have over 2,200,000 pages"
text_of R.TheVariants.PageNowhere = codes "a page of the recovered database, not the lock-byte page, is in neither of the two files"
text_of R.TheVariants.SmallOutput = codes "the lent output, cursor, tail or room is too small"
text_of R.TheVariants.RecordedTwice = codes "the journal has two records for one page"
text_of R.TheVariants.NoSuchPlace = codes "the page or cell that was asked for does not exist"
text_of R.TheVariants.SmallTable = codes "the table of frames has fewer entries than the database has pages; or it, or a log's tail, would hold a frame numbered past 4,294,967,295"
text_of R.TheVariants.BadRows = codes "the rows to be built do not rise by number, are over 4,096, or come in lists that disagree in length"
text_of R.TheVariants.StaleCursor = codes "the cursor's path does not stand in the image, does not end at a leaf cell, or has a page that fails a test"
text_of R.TheVariants.NoLogHeader = codes "the log has no header that is accepted: it has under 32 bytes, another magic, or wrong sums"
text_of R.TheVariants.BadCommit = codes "the commit to be appended has no pages, one that it may not hold, or other bytes than its list of pages says"
text_of R.TheVariants.NoTableRoot = codes "the root is page 1, or no root by the ledger that was lent; or the row's leaf is page 1"
text_of R.TheVariants.DoesNotFit = codes "the row has an overflow chain, or the record to be set would need one, or the page has no room for it"

-- the rule's number, the page, the rule
abbrev pub refusal_text : Refusal → List ℕ
refusal_text r = codes "refused " ++ decimal (number_of r.rule) ++ codes ", page " ++ decimal r.page ++ codes ": " ++ text_of r.rule
