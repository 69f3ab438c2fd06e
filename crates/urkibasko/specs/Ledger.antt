use Rattle.std.specs.Prelude.{ℕ, ◌≡◌, Result, Ok, Err}
use Rattle.proposal.specs.Checked as P
use Rattle.refusal.specs.declared.Rule.{Rule}
use Rattle.refusal.specs.Rule.{number_of}
use Rattle.urkibasko.specs.declared.answers.UrkLedgerAnswer.{UrkLedgerAnswer}
use Rattle.urkibasko.specs.declared.answers.UrkLedgerWritten.{UrkLedgerWritten}

-- yes 1; else the first page that differs, or the verdict's refusal with its page
abbrev pub ledger_c : P.Checked → UrkLedgerAnswer
ledger_c P.Yes = record { yes = 1; refusal = 0; page = 0 }
ledger_c (P.No page) = record { yes = 0; refusal = 0; page = page }
ledger_c (P.Refused number page) = record { yes = 0; refusal = number; page = page }

abbrev pub YesC : UrkLedgerAnswer → Type 0
YesC r = r.yes ≡ 1

-- the bytes written; a refusal
abbrev pub ledger_written_c : Result ℕ Rule → UrkLedgerWritten
ledger_written_c (Ok length) = record { refusal = 0; length = length }
ledger_written_c (Err rule) = record { refusal = number_of rule; length = 0 }
