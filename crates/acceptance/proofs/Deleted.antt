-- Deleted material does not speak. An accepted image b, told by its ledger of kinds; an image c that differs from it on free leaf pages, in
-- reserved tails and in gaps alone (`Altered`).
-- The words are those of altered/specs; of the dealing itself, and with more bytes that may change, the same stands in
-- altered/proofs/Theorems.antt (`altered-answers`, `wider-answers`).
use Prim.Native.Nat.{ℕ, ◌-◌, ◌≤◌}
use mathlib.Core.Path.{◌≡◌, sym, ◌∙◌}
use mathlib.Core.List.{List}
use lib.IntN.{ℤ}
use lib.ListN.{length}
use native.Mathlib.Omega.{arith}
use Rattle.header.specs.Header.{pages_of}
use Rattle.dealing.specs.File.{root_kind}
use Rattle.dealing.specs.Good.{Dealing}
use Rattle.image.specs.Good.{GoodDealing}
use Rattle.names.specs.Good.{GoodDealingFor, GoodImageFor}
use Rattle.names.proofs.Good.{good_for}
use Rattle.image.proofs.Fields.{N-field}
use Rattle.verdict.specs.Verdict.{verdict_is, kinds_at, namers_at, steps_at}
use Rattle.verdict.specs.Answer.{Accepted}
use Rattle.lookup.specs.Answers.{lookup_of}
use Rattle.lookup.specs.Found as Found
use Rattle.cursor.specs.Shown as Shown
use Rattle.cursor.specs.Answers.{first_of, seek_of}
use Rattle.altered.specs.Altered.{kind_by, Altered}
use Rattle.altered.specs.Answers.{Root, steps_from, SameBytes, SameAnswers}
use Rattle.altered.proofs.Relations.{altered-by}
use Rattle.altered.proofs.Theorems.{altered-answers}
use Rattle.acceptance.proofs.Theorems.{ledgers, the-dealing-for}

-- `ordered` are the roots that the caller names, perhaps none; ks, ns and ss are the ledgers that were lent
module _ (b c ordered ks ns ss : List ℕ) (long : ℕ) (accepted : verdict_is b ordered (length ks) (length ns) (length ss) ≡ Accepted (pages_of b) long)
    (altered : Altered b c (kind_by (kinds_at b ordered ks (length ns) (length ss)))) where
  abbrev d : Dealing
  d = (the-dealing-for b ordered ks ns ss long accepted).0

  named : GoodDealingFor ordered b d
  named = (the-dealing-for b ordered ks ns ss long accepted).1

  good : GoodDealing b d
  good = good_for ordered b d named

  same : SameAnswers b c d
  same =
      altered-answers b c d good
      (altered-by b c (kind_by (kinds_at b ordered ks (length ns) (length ss))) d.kind
      (λ p low high. (ledgers b ordered ks ns ss long accepted d good p low high).0) altered)

  -- c is accepted, with as many pages and numbers spelled long, and so it is good for the names
  pub accepted-again : verdict_is c ordered (length ks) (length ns) (length ss) ≡ Accepted (pages_of b) long
  accepted-again = same.verdict ordered (length ks) (length ns) (length ss) ∙ accepted

  pub good-again : GoodImageFor ordered c
  good-again = (d, (same.good_for ordered).0 named)

  -- with the same ledgers
  pub kinds-again : kinds_at c ordered ks (length ns) (length ss) ≡ kinds_at b ordered ks (length ns) (length ss)
  kinds-again = same.kinds ordered ks (length ns) (length ss)

  pub namers-again : namers_at c ordered (length ks) ns (length ss) ≡ namers_at b ordered (length ks) ns (length ss)
  namers-again = same.namers ordered (length ks) ns (length ss)

  pub steps-again : steps_at c ordered (length ks) (length ns) ss ≡ steps_at b ordered (length ks) (length ns) ss
  steps-again = same.steps ordered (length ks) (length ns) ss

  -- under every page that the ledger calls a root, ..
  module _ (root : ℕ) (low : 1 ≤ root) (high : root ≤ pages_of b) (kind : kind_by (kinds_at b ordered ks (length ns) (length ss)) root ≡ root_kind) where
    is-root : Root b d root
    is-root = ((low, omega (arith, N-field b)), sym (ledgers b ordered ks ns ss long accepted d good root low high).0 ∙ kind)

    -- .. lookup gives the same answers, and each cell that it shows the same bytes
    pub lookup-again : (row : ℤ) → lookup_of c root row ≡ lookup_of b root row
    lookup-again row = same.lookup root is-root row

    pub found-again : (row : ℤ) (page cell n : ℕ) → lookup_of b root row ≡ Found.At page cell n → SameBytes b c page cell
    found-again row page cell n e = same.found root is-root row page cell n e

    -- .. and so does the cursor: from the first row on and from any number on, through any number of steps
    pub rows-again : (n : ℕ) → steps_from c (first_of c root) n ≡ steps_from b (first_of b root) n
    rows-again n = same.first root is-root n

    pub rows-from-again : (row : ℤ) (n : ℕ) → steps_from c (seek_of c root row) n ≡ steps_from b (seek_of b root row) n
    rows-from-again row n = same.seek root is-root row n

    pub shown-again : (n page cell length : ℕ) (row : ℤ)
        → (steps_from b (first_of b root) n).shown ≡ Shown.Row page cell length row → SameBytes b c page cell
    shown-again n page cell length row e = same.first_shown root is-root n page cell length row e

    pub shown-from-again : (from : ℤ) (n page cell length : ℕ) (row : ℤ)
        → (steps_from b (seek_of b root from) n).shown ≡ Shown.Row page cell length row → SameBytes b c page cell
    shown-from-again from n page cell length row e = same.seek_shown root is-root from n page cell length row e
