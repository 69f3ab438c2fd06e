-- An accepted image b, and a row set with the ledger of kinds that its verdict gave: whatever that answers, the image then is accepted, with the same
-- pages and ledgers, and lookup and the cursor show the same places; where the row was set, the count of numbers spelled long is lower by what its cell
-- had. `ordered` are the roots that the caller names, perhaps none; ks, ns and ss are the ledgers that were lent.
use Prim.Native.Nat.{ℕ, ◌-◌}
use mathlib.Core.Path.{◌≡◌, ap, ◌∙◌}
use mathlib.Core.Bool.{true, false}
use mathlib.Core.List.{List}
use lib.IntN.{ℤ}
use lib.ListN.{length}
use native.Mathlib.Omega.{arith}
use mir.Syntax.{w64}
use mir.Val.{SFits}
use Rattle.header.specs.Header.{pages_of}
use Rattle.dealing.specs.Good.{Dealing}
use Rattle.dealing.specs.Spelling.{long_in}
use Rattle.image.specs.Payload.{payload_of}
use Rattle.image.specs.Image.{file_of}
use Rattle.image.specs.Good.{GoodDealing, TableRoot, Carries, PayloadCell}
use Rattle.image.proofs.Fields.{N-field}
use Rattle.names.specs.Good.{GoodDealingFor, GoodImageFor}
use Rattle.names.proofs.Good.{good_for}
use Rattle.verdict.specs.Verdict.{verdict_is, kinds_at, namers_at, steps_at}
use Rattle.verdict.specs.Answer.{Accepted}
use Rattle.altered.specs.Answers.{SameBytes, LikePlaces, recounted}
use Rattle.acceptance.proofs.Theorems.{ledgers, the-dealing-for, spelled-long}
use Rattle.setting.specs.declared.Outcome.{Outcome}
use Rattle.setting.specs.Relaid.{Sets}
use Rattle.setting.specs.Answers.{set_of, image_after, Own, Means}
use Rattle.setting.proofs.Ways.{means}

module _ (b ordered ks ns ss : List ℕ) (long : ℕ) (accepted : verdict_is b ordered (length ks) (length ns) (length ss) ≡ Accepted (pages_of b) long)
    (root : ℕ) (row : ℤ) (fits : SFits w64 row) (s : List ℕ) where
  abbrev d : Dealing
  d = (the-dealing-for b ordered ks ns ss long accepted).0

  named : GoodDealingFor ordered b d
  named = (the-dealing-for b ordered ks ns ss long accepted).1

  good : GoodDealing b d
  good = good_for ordered b d named

  -- the ledger that the verdict left, the answer, and the image then
  abbrev kinds : List ℕ
  kinds = kinds_at b ordered ks (length ns) (length ss)

  abbrev r : Outcome
  r = set_of b kinds root row s

  abbrev c : List ℕ
  c = image_after b kinds root row s

  own : Own b d kinds root
  own h = (ledgers b ordered ks ns ss long accepted d good root h.0 (omega (arith, N-field b, h.1))).0

  told : Means b c d root row s r
  told = means b kinds root row s fits d good own

  -- where nothing was set the image is untouched
  pub untouched : r.found ≡ false → c ≡ b
  untouched e = told.kept e

  -- where the row was set
  module _ (found : r.found ≡ true) where
    sets : Sets b c d r.page r.cell s
    sets = (told.done found).2

    pub root_is : TableRoot b d root
    root_is = (told.done found).0

    pub carried : Carries b d root row r.page r.cell
    carried = (told.done found).1

    pub new-record : payload_of c r.page r.cell ≡ s
    new-record = sets.here

    pub others : (page cell : ℕ) → PayloadCell b d page cell → ((page ≡ r.page) × (cell ≡ r.cell) → ⊥) → SameBytes b c page cell
    others page cell w n = (sets.there page cell w n).0

    pub places : LikePlaces b c d
    places = sets.places

    -- accepted, with as many pages, and a count that is lower by what the cell had; good for the names, with the same ledgers
    pub accepted-again : verdict_is c ordered (length ks) (length ns) (length ss) ≡ Accepted (pages_of b) (long - ((file_of b).cell r.page r.cell).long)
    accepted-again =
        let e = spelled-long b ordered ks ns ss long accepted d good in
        let z : long_in (file_of c) d ≡ long - ((file_of b).cell r.page r.cell).long = omega (arith, sets.spelled) in
        places.verdict ordered (length ks) (length ns) (length ss) ∙ ap (recounted (long_in (file_of c) d)) accepted ∙ ap (Accepted (pages_of b)) z

    pub good-again : GoodImageFor ordered c
    good-again = (d, (places.good_for ordered).0 named)

    pub kinds-again : kinds_at c ordered ks (length ns) (length ss) ≡ kinds
    kinds-again = places.kinds ordered ks (length ns) (length ss)

    pub namers-again : namers_at c ordered (length ks) ns (length ss) ≡ namers_at b ordered (length ks) ns (length ss)
    namers-again = places.namers ordered (length ks) ns (length ss)

    pub steps-again : steps_at c ordered (length ks) (length ns) ss ≡ steps_at b ordered (length ks) (length ns) ss
    steps-again = places.steps ordered (length ks) (length ns) ss
