-- A proposal beside the verdict on an image.
use Rattle.std.specs.Prelude.{ℕ, List, Option, Some, None}
use Rattle.verdict.specs.Answer as A
use Rattle.wire.specs.Compare.{compared_of}
use Rattle.proposal.specs.Checked as D

abbrev pub said : Option ℕ → D.Checked
said None = D.Yes
said (Some page) = D.No page

-- the verdict's refusal first, whatever the proposal; then where the proposal differs from its ledgers, which are given as they are at exit
abbrev pub checked_of : (proposal : List ℕ) → A.Answer → (kinds namers steps : List ℕ) → D.Checked
checked_of w (A.Accepted pages long) ks ns ss = said (compared_of w pages ks ns ss)
checked_of w (A.Refused number page) ks ns ss = D.Refused number page
