-- What the functions of the walk answer, as outcomes of a run of events.
use Rattle.std.specs.Prelude.{ℕ, ◌-◌, ◌^◌, ◌≤◌, ◌<◌, ◌≡◌, Bool, true, false, cond, List, Result, Ok, Err, eqb, ltb, length}
use Rattle.std.proofs.Math.Option.{Option, none, some}
use Rattle.header.specs.Header.{usable_of}
use Rattle.cell.specs.declared.Cell.{Cell}
use Rattle.cell.specs.Cell.{cell_links}
use Rattle.compare.specs.Values.{Values, unread, values, values_of}
use Rattle.dealing.specs.Good.{Mark, a_row, a_key, a_record}
use Rattle.dealing.specs.Lookup.{Followed, whole, stops, follow_cell}
use Rattle.dealing.specs.Walk.{State, state, Outcome, went, refused, row_of, run}
use Rattle.image.specs.Payload.{cell_bytes}
use Rattle.image.specs.Image.{file_of}
use Rattle.refusal.specs.Rule.{number_of}
use Rattle.refusal.specs.declared.Refusal.{Refusal}
use Rattle.ledger.specs.declared.Held as H
use Rattle.ledger.specs.declared.Last as L
use Rattle.ledger.specs.declared.Tree as T

-- the ledgers have an entry for each of the n pages
pub record Open (n : ℕ) (kinds namers : List ℕ) : Type 0 where
  pub kinds_n : length kinds ≡ n
  pub namers_n : length namers ≡ n

abbrev pub is_whole : Followed → Bool
is_whole whole = true
is_whole (stops number page) = false

-- a cell c, read on page p, is one of an image of so many pages: its local bytes lie on the page, and its payload is within the limit
unfoldable pub on_page : (pages usable p : ℕ) → Cell → Bool
on_page n u p c =
    cond (eqb p 0) false
    (cond (ltb n p) false
    (cond (ltb c.payload c.local) false
    (cond (ltb 65536 c.payload) false
    (cond (ltb u c.start) false
    (cond (ltb (u - c.start) c.local) false true)))))

-- and its payload can be had: its chain is whole
unfoldable pub copies : List ℕ → (p : ℕ) → Cell → Bool
copies b p c = cond (on_page (file_of b).N (usable_of b) p c) (is_whole (follow_cell (file_of b) p (cell_links (usable_of b) c) c.first)) false

-- its record
unfoldable pub held_in : List ℕ → (p : ℕ) → Cell → Values
held_in b p c = cond (copies b p c) (values_of (cell_bytes b p c)) unread

-- a cell as it is held: what its payload takes, and nothing else
abbrev pub holding : (page : ℕ) → Cell → H.Held
holding p c = record { page = p; start = c.start; local = c.local; payload = c.payload; first = c.first }

abbrev pub cell_from : H.Held → Cell
cell_from e =
    record {
      fault = 0;
      child = 0;
      payload = e.payload;
      row = 0;
      start = e.start;
      local = e.local;
      first = e.first;
      end = 0;
      long = 0;
    }

-- where there is none, a number above all numbers: nothing follows it
abbrev pub held_mark : Values → Mark
held_mark unread = a_key (2 ^ 64)
held_mark (values v) = a_record v

-- the last number or record read in a tree of the image b
abbrev pub mark_of : List ℕ → L.Last → Option Mark
mark_of b L.TheVariants.Nothing = none
mark_of b (L.TheVariants.Row x) = some (a_row x)
mark_of b (L.TheVariants.Key x) = some (a_key x)
mark_of b (L.TheVariants.Entry e) = some (held_mark (held_in b e.page (cell_from e)))

abbrev pub state_of : (b kinds namers : List ℕ) → T.Tree → State
state_of b ks ns t = state ks ns (mark_of b t.last) t.leaf_at

-- with the ledgers as they are then
abbrev pub outcome : (b : List ℕ) → Result T.Tree Refusal → (kinds namers : List ℕ) → Outcome
outcome b (Ok t) ks ns = went (state_of b ks ns t)
outcome b (Err e) ks ns = refused (number_of e.rule) e.page

-- of what leaves the numbers of the tree as they are
abbrev pub outcome_at : Option Mark → (leaf_at : ℕ) → Result Unit Refusal → (kinds namers : List ℕ) → Outcome
outcome_at m l (Ok x) ks ns = went (state ks ns m l)
outcome_at m l (Err e) ks ns = refused (number_of e.rule) e.page

-- a row number of at least `least`, but the greatest, may follow on a table leaf what was read last
pub record Least (t : T.Tree) (least : ℕ) : Type 0 where
  pub follows : (n page row : ℕ) (b ks ns : List ℕ) → least ≤ row → row < 18446744073709551615 →
      run n (state_of b ks ns t) (row_of true page row) ≡ went (state_of b ks ns (record { last = L.TheVariants.Row row; leaf_at = t.leaf_at }))
