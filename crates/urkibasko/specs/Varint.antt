use Rattle.std.specs.Prelude.{ℕ, pos, Option, Some, None}
use Rattle.number.specs.declared.Varint.{Varint}
use Rattle.urkibasko.specs.Recovery.{flag_c}
use Rattle.urkibasko.specs.declared.answers.UrkVarint.{UrkVarint}

-- a varint's length, whether it is the shortest spelling, and its value; length 0: short
abbrev pub varint_c : Option Varint → UrkVarint
varint_c None = record { length = 0; shortest = 0; value = pos 0 }
varint_c (Some v) = record { length = v.length; shortest = flag_c v.shortest; value = v.value }

-- the bytes written; 0: no room
abbrev pub written_c : Option ℕ → ℕ
written_c None = 0
written_c (Some n) = n
