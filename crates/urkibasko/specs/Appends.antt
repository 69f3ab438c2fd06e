use Rattle.appending.specs.Appended as A
use Rattle.urkibasko.specs.declared.answers.UrkTail.{UrkTail}
use Rattle.urkibasko.specs.declared.answers.UrkAppended.{UrkAppended}

abbrev pub tail_c : A.Tail → UrkTail
tail_c t = record { refusal = t.refusal; page_size = t.page_size; frames = t.frames; pages = t.pages }

abbrev pub appended_c : A.Appended → UrkAppended
appended_c r = record { refusal = r.refusal; at = r.at; length = r.length }

-- and back
abbrev pub of_appended_c : UrkAppended → A.Appended
of_appended_c r = record { refusal = r.refusal; at = r.at; length = r.length }
