use Rattle.std.specs.Prelude.{cond}
use Rattle.setting.specs.declared.Outcome as S
use Rattle.urkibasko.specs.declared.answers.UrkFound.{UrkFound}

abbrev pub set_c : S.Outcome → UrkFound
set_c r = record { refusal = r.refusal; page = r.page; found = cond r.found 1 0; cell = r.cell; length = r.length }
