-- What the code's recovery answers, as the definitions have it: with the number of the rule that is broken, or 0.
use Rattle.std.specs.Prelude.{Result, Ok, Err}
use Rattle.refusal.specs.declared.Rule.{Rule}
use Rattle.refusal.specs.Rule.{number_of}
use Rattle.journal.specs.declared.Recovered as C
use Rattle.journal.specs.Recovered.{Recovered}

abbrev pub told : Result C.Recovered Rule → Recovered
told (Ok r) = record { refusal = 0; pages = r.pages; length = r.length }
told (Err rule) = record { refusal = number_of rule; pages = 0; length = 0 }
