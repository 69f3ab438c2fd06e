use Rattle.std.specs.Prelude.{Option, Some, None}
use Rattle.super_journal.specs.declared.Name as N
use Rattle.urkibasko.specs.declared.answers.UrkName.{UrkName}

abbrev pub name_c : Option N.Name → UrkName
name_c (Some n) = record { found = 1; start = n.start; length = n.length }
name_c None = record { found = 0; start = 0; length = 0 }
