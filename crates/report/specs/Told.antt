-- What the code has and answers, as the definitions have it.
use Rattle.std.specs.Prelude.{Bool, true, false, Result, Ok, Err, Option, Some, None, Float, unwrap_or}
use Rattle.refusal.specs.declared.Refusal.{Refusal}
use Rattle.refusal.specs.Rule.{number_of}
use Rattle.report.specs.Summary.{zero_bits, none, added, refused_of}
use Rattle.report.specs.Reported.{Reported}
use Rattle.report.specs.declared.Summary.{Summary}
use Rattle.report.specs.declared.Totals.{Totals}

-- the summary so far, and whether a real was met
abbrev pub summary_in : Option Summary → Summary
summary_in s = unwrap_or s none

abbrev pub met_in : Option Summary → Bool
met_in None = false
met_in (Some s) = true

-- with what a row gives
abbrev pub taken : Option Summary → Option Float → Option Summary
taken s None = s
taken s (Some x) = Some (added (met_in s) (summary_in s) x)

-- a sum that is a NaN is none, and told as zero bits with a flag
abbrev pub sum_told : Option Float → Float
sum_told None = zero_bits
sum_told (Some x) = x

abbrev pub nan_told : Option Float → Bool
nan_told None = true
nan_told (Some x) = false

abbrev pub totals_told : Totals → Reported
totals_told t =
    record { refusal = 0; page = 0; summary = record { least = t.least; greatest = t.greatest; sum = sum_told t.sum; count = t.count }; nan = nan_told t.sum }

abbrev pub told : Result Totals Refusal → Reported
told (Ok t) = totals_told t
told (Err e) = refused_of (number_of e.rule) e.page
