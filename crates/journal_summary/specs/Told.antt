-- What the code answers, with the numbers of the definitions.
use Rattle.std.specs.Prelude.{ℕ, Option, Some, None}
use Rattle.refusal.specs.declared.Rule.{Rule}
use Rattle.refusal.specs.Rule.{number_of}
use Rattle.journal_summary.specs.declared.Header as H
use Rattle.journal_summary.specs.declared.Stop as S
use Rattle.journal_summary.specs.declared.Tally as T
use Rattle.journal_summary.specs.declared.Summary as C
use Rattle.journal_summary.specs.Summary.{Tally, Summary}

abbrev pub header_number : H.Header → ℕ
header_number H.TheVariants.There = 0
header_number H.TheVariants.Short = 1
header_number H.TheVariants.OtherMagic = 2

abbrev pub stop_number : S.Stop → ℕ
stop_number S.TheVariants.NoHeader = 0
stop_number S.TheVariants.OtherMagic = 1
stop_number S.TheVariants.OtherSizes = 2
stop_number S.TheVariants.Cut = 3
stop_number S.TheVariants.NumberZero = 4
stop_number S.TheVariants.OtherSum = 5
stop_number S.TheVariants.LockPage = 6
stop_number S.TheVariants.AllRead = 7

-- 0 for no refusal
abbrev pub rule_number : Option Rule → ℕ
rule_number None = 0
rule_number (Some rule) = number_of rule

abbrev pub tally_numbers : T.Tally → Tally
tally_numbers t = record { segments = t.segments; counting = t.counting; laid = t.laid; stop = stop_number t.stop }

abbrev pub numbers_of : C.Summary → Summary
numbers_of s =
    record {
      refusal = rule_number s.refusal;
      header = header_number s.header;
      page_size = s.page_size;
      sector_size = s.sector_size;
      pages = s.pages;
      segments = s.segments;
      counting = s.counting;
      laid = s.laid;
      stop = stop_number s.stop;
    }
