-- What a yes means, whatever form the answer has. dealing/specs/File.antt says how to read it.
use Rattle.std.specs.Prelude.{ℕ, ◌≤◌, ◌≡◌, ◌↔◌, List, [], length}
use Rattle.header.specs.Header.{pages_of}
use Rattle.dealing.specs.Good.{Dealing}
use Rattle.image.specs.Good.{GoodDealing}
use Rattle.verdict.specs.Verdict.{verdict_is}
use Rattle.verdict.specs.Answer as A
use Rattle.wire.specs.Wire.{spelled, proposal_of}
use Rattle.proposal.specs.Checked as D

-- a dealing of n pages as it is sent
abbrev pub dealt_out : (n : ℕ) → Dealing → List ℕ
dealt_out n d = spelled d.kind d.namer d.step n

-- `Yes` says that the answer is yes; w is the proposal; ks, ns and ss are the ledgers at entry, ks', ns' and ss' at exit
pub record Checks (b w ks ns ss : List ℕ) (Yes : Type 0) (ks' ns' ss' : List ℕ) : Type 0 where
  -- yes exactly when the verdict, no root named, accepts the image and the proposal is its ledger
  pub exactly : Yes ↔ ((n k : ℕ) × (verdict_is b [] (length ks) (length ns) (length ss) ≡ A.Accepted n k) × (w ≡ proposal_of n ks' ns' ss'))
  -- what it says yes to is a good image, and its proposal spells a good dealing of it, which is the only one (`Means.only`) ..
  pub sound : Yes → (d : Dealing) × GoodDealing b d × (w ≡ dealt_out (pages_of b) d)
  -- .. and it says yes to each such, refusal 12 aside
  pub complete : pages_of b ≤ length ks → pages_of b ≤ length ns → pages_of b ≤ length ss → (d : Dealing) → GoodDealing b d → w ≡ dealt_out (pages_of b) d → Yes

abbrev pub Says : D.Checked → Type 0
Says r = r ≡ D.Yes
