use Rattle.std.specs.Prelude.{◌*◌}
use Rattle.builder.specs.Built as B
use Rattle.urkibasko.specs.declared.answers.UrkBuilt.{UrkBuilt}

abbrev pub built_c : B.Built → UrkBuilt
built_c r = record { refusal = r.refusal; pages = r.pages; length = r.pages * 1024 }
