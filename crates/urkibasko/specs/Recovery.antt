use Rattle.std.specs.Prelude.{ℕ, ◌≡◌, Bool, cond, List}
use Rattle.wal.specs.View.{page_of}
use Rattle.frames.specs.Table.{part_by}
use Rattle.frames.specs.Filled as F
use Rattle.wal.specs.Part as P
use Rattle.wal.specs.Recovered as L
use Rattle.journal.specs.Recovered as J
use Rattle.urkibasko.specs.declared.answers.UrkFilled.{UrkFilled}
use Rattle.urkibasko.specs.declared.answers.UrkPart.{UrkPart}
use Rattle.urkibasko.specs.declared.answers.UrkRecovered.{UrkRecovered}

abbrev pub flag_c : Bool → ℕ
flag_c b = cond b 1 0

abbrev pub part_c : P.Part → UrkPart
part_c p = record { refusal = p.refusal; from_log = flag_c p.logged; start = p.start; length = p.length }

abbrev pub filled_c : F.Filled → UrkFilled
filled_c f = record { refusal = f.refusal; pages = f.pages; page_size = f.size }

-- where the fill succeeded, every page is shown by its table as by the scan
pub record ServesC (log image table : List ℕ) (r : UrkFilled) : Type 0 where
  pub page : r.refusal ≡ 0 → (p : ℕ) → part_c (part_by log image table r.pages r.page_size p) ≡ part_c (page_of log image p)

abbrev pub recovered_is : (refusal pages length : ℕ) → UrkRecovered
recovered_is refusal pages length = record { refusal = refusal; pages = pages; length = length }

-- of a log, of a journal
abbrev pub log_c : L.Recovered → UrkRecovered
log_c r = recovered_is r.refusal r.pages r.length

abbrev pub journal_c : J.Recovered → UrkRecovered
journal_c r = recovered_is r.refusal r.pages r.length
