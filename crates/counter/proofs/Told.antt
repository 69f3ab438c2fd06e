-- What a program can test tells that a file has such a row: the verdict accepts it, lookup shows a cell, and with the ledger of kinds that the verdict left nothing refuses to set a
-- record t there: so any record that is no longer may be set, now and behind any other.
use Prim.Native.Nat.{ℕ}
use mathlib.Core.Path.{◌≡◌, sym}
use mathlib.Core.List.{List}
use lib.IntN.{ℤ}
use lib.ListN.{length}
use native.Mathlib.Omega.{arith}
use mir.Syntax.{w64}
use mir.Val.{SFits}
use Rattle.header.specs.Header.{pages_of}
use Rattle.dealing.specs.Good.{Dealing}
use Rattle.image.specs.Good.{GoodDealing}
use Rattle.image.proofs.Fields.{N-field}
use Rattle.verdict.specs.Verdict.{verdict_is, kinds_at}
use Rattle.verdict.specs.Answer.{Accepted}
use Rattle.lookup.specs.Answers.{lookup_of}
use Rattle.lookup.specs.Found as F
use Rattle.acceptance.proofs.Theorems.{ledgers, the-dealing}
use Rattle.setting.specs.Relaid.{relaid, Settable}
use Rattle.setting.specs.Answers.{refusal_for, Own}
use Rattle.setting.proofs.Ways.{settable-at}
use Rattle.setting.proofs.Theorems.{relaid_good}
use Rattle.setting.proofs.Again.{shorter, still, carries-again}
use Rattle.counter.specs.Counter.{HasRow}

module _ (b ordered ks ns ss : List ℕ) (long : ℕ) (accepted : verdict_is b ordered (length ks) (length ns) (length ss) ≡ Accepted (pages_of b) long)
    (root : ℕ) (row : ℤ) (number : SFits w64 row) (page cell n : ℕ) (shown : lookup_of b root row ≡ F.At page cell n) (t : List ℕ)
    (fits : refusal_for b (kinds_at b ordered ks (length ns) (length ss)) root page cell row t ≡ 0) where
  abbrev pub dealing : Dealing
  dealing = (the-dealing b ordered ks ns ss long accepted).0

  good : GoodDealing b dealing
  good = (the-dealing b ordered ks ns ss long accepted).1

  own : Own b dealing (kinds_at b ordered ks (length ns) (length ss)) root
  own h = (ledgers b ordered ks ns ss long accepted dealing good root h.0 (omega (arith, N-field b, h.1))).0

  longest : Settable b dealing root page cell row t
  longest = settable-at b (kinds_at b ordered ks (length ns) (length ss)) root row t page cell n (sym shown) fits number dealing good own

  pub row_told : HasRow b dealing root row page cell (length t)
  row_told = record { good = good; carries = longest.carries; settable = λ s l r. shorter b dealing good root page cell row s t longest l r }

  -- and the image that setting t leaves has it
  pub row-set : HasRow (relaid b page cell row t) dealing root row page cell (length t)
  row-set =
      record {
        good = (relaid_good b dealing good root page cell row t longest).places.good;
        carries = carries-again b dealing good root page cell row t longest;
        settable = λ s l r. still b dealing good root page cell row t longest s (shorter b dealing good root page cell row s t longest l r);
      }
