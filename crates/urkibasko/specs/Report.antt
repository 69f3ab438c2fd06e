use Rattle.std.specs.Prelude.{ℕ, ◌≡◌, ◌≢◌}
use Rattle.report.specs.Summary.{told_of, refused_of}
use Rattle.report.specs.declared.Summary as Su
use Rattle.report.specs.Reported as Re
use Rattle.urkibasko.specs.Recovery.{flag_c}
use Rattle.urkibasko.specs.declared.answers.UrkSummary.{UrkSummary}

abbrev pub summary_c : Re.Reported → UrkSummary
summary_c r =
    record {
      refusal = r.refusal;
      page = r.page;
      count = r.summary.count;
      least = r.summary.least;
      greatest = r.summary.greatest;
      sum = r.summary.sum;
      sum_is_nan = flag_c r.nan;
    }

-- the answer tells that summary; it is that refusal, all else being zero; it is a refusal
abbrev pub TellsC : UrkSummary → Su.Summary → Type 0
TellsC r s = r ≡ summary_c (told_of s)

abbrev pub IsC : UrkSummary → (number page : ℕ) → Type 0
IsC r number page = r ≡ summary_c (refused_of number page)

abbrev pub RefusesC : UrkSummary → Type 0
RefusesC r = r.refusal ≢ 0
