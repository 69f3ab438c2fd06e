-- What the code tells, in the numbers that C sees.
use Rattle.std.specs.Prelude.{ℕ, Option, Some, None}
use Rattle.refusal.specs.declared.Rule.{Rule}
use Rattle.refusal.specs.Rule.{number_of}
use Rattle.log_summary.specs.Summary.{Summary}
use Rattle.log_summary.specs.declared.Header as H
use Rattle.log_summary.specs.declared.Stop as T
use Rattle.log_summary.specs.declared.Summary as S

abbrev pub rule_number : Option Rule → ℕ
rule_number None = 0
rule_number (Some rule) = number_of rule

abbrev pub header_number : H.Header → ℕ
header_number H.TheVariants.Accepted = 0
header_number H.TheVariants.Short = 1
header_number H.TheVariants.BadMagic = 2
header_number H.TheVariants.BadSums = 3

abbrev pub stop_number : T.Stop → ℕ
stop_number T.TheVariants.End = 0
stop_number T.TheVariants.Cut = 1
stop_number T.TheVariants.ZeroNumber = 2
stop_number T.TheVariants.OtherSalts = 3
stop_number T.TheVariants.OtherSums = 4
stop_number T.TheVariants.LockByte = 5

abbrev pub summary_told : S.Summary → Summary
summary_told s =
    record {
      refusal = rule_number s.refusal;
      header = header_number s.header;
      page_size = s.page_size;
      pages = s.pages;
      frames = s.frames;
      counting = s.counting;
      in_force = s.in_force;
      stop = stop_number s.stop;
    }
