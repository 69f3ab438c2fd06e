-- Reading by readers, at any place of a journal's bytes: what is read from a reader on, and at a record what is read behind it.
use Rattle.std.proofs.Common.{◌≡◌, ℕ, ◌+◌, ◌-◌, ◌<◌, ◌≤◌, Bool, true, false, List, [], length, sym, refl, ap, ◌∙◌, arith}
use Rattle.std.specs.Prelude.{◌≢◌}
use Rattle.number.specs.Bytes.{be}
use Rattle.journal.specs.Records.{Record, ends, offer}
use Rattle.journal.specs.Fields.{Fields}
use Rattle.journal.specs.Reading.{rest_from}
use Rattle.journal.specs.Reading as R
use Rattle.journal.specs.declared.Journal.{Journal}
use Rattle.journal.specs.declared.Reader.{Reader}
use Rattle.journal.specs.declared.Records.{Records}
use Rattle.journal.proofs.RecordLaws.{going_on}
use Rattle.journal.proofs.ReadingLaws.{rest-behind, at-end}

abbrev pub rest_of : (j : List ℕ) → Reader → List Record
rest_of j r = rest_from j r.nonce r.left r.at

-- a record that counts stands at the reader, or no more is read
pub record Stands (j : List ℕ) (r : Reader) : Type 0 where
  pub counts : (r.left ≢ 0) → ends j r.nonce r.at ≡ false
  pub finished : r.left ≡ 0 → rest_of j r ≡ []

pub record Settled (j : List ℕ) (from r : Reader) : Type 0 where
  pub same : rest_of j r ≡ rest_of j from
  pub stands : Stands j r
  pub on : from.at ≤ length j → (from.at ≤ r.at) × (r.at ≤ length j)

-- at a record that counts: it is whole, its number is not 0, and the reader behind it stands further on
module _ (j : List ℕ) (size sector n : ℕ) (f : Fields j size sector n) (r : Reader) (t : Stands j r) (some : r.left ≡ 0 → ⊥) where
  pub here-whole : (r.at + size + 8 ≤ length j) × (1 ≤ be 4 j r.at)
  here-whole = let g = going_on j r.nonce r.at (t.counts some) in (omega (arith, g.0, f.sizes.is_size), g.1)

  abbrev pub behind : Reader
  behind = record { at = r.at + size + 8; left = r.left - 1; nonce = r.nonce }

  pub here-rest : (r' : Reader) → Settled j behind r' → rest_of j r ≡ offer j r.at (rest_of j r')
  here-rest r' s = rest-behind j size sector f.sizes r.nonce r.left r.at some (t.counts some) ∙ ap (offer j r.at) (sym s.same)

  pub goes_on : (r' : Reader) → Settled j behind r' → length j - r'.at < length j - r.at
  goes_on r' s = let w = here-whole in let o = s.on w.0 in omega (arith, o, w.0)

-- where `settle` comes to: its records' place, or the end where no record counts
abbrev reader_of : Records → Reader
reader_of r = record { at = r.at; left = r.left; nonce = r.nonce }

abbrev come-to : Records → Bool → Reader
come-to r true = reader_of r
come-to r false = record { at = length r.journal.bytes.now; left = 0; nonce = 0 }

pub settle-comes : (from r : Records) (counts : Bool) → R.Settled from r counts → Settled r.journal.bytes.now (reader_of from) (come-to r counts)
settle-comes from r counts s = go counts s
  where
    began : R.rest_of from ≡ rest_of r.journal.bytes.now (reader_of from)
    began = ap (λ (x : Journal). rest_from x.bytes.now from.nonce from.left from.at) (sym s.journal)

    go : (b : Bool) → R.Settled from r b → Settled r.journal.bytes.now (reader_of from) (come-to r b)
    go true t =
        let g = going_on r.journal.bytes.now r.nonce r.at (t.stands refl) in
        record {
          same = t.same ∙ began;
          stands = record { counts = λ k. t.stands refl; finished = λ z. absurd (t.some refl z) };
          on = λ h. (t.on, omega (arith, g.0));
        }
    go false t =
        record {
          same = at-end r.journal.bytes.now 0 ∙ sym (t.finished refl) ∙ t.same ∙ began;
          stands = record { counts = λ k. absurd (k refl); finished = λ z. at-end r.journal.bytes.now 0 };
          on = λ h. (h, omega arith);
        }
