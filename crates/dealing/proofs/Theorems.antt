-- The theorems of demand 3 over a file, in one place. Their words are those of File, Good, Walk and Lookup.
use mathlib.Core.Path.{◌≡◌, sym, ◌∙◌, ap, subst}
use mathlib.Core.Logic.{◌≢◌, ◌↔◌, ◌⊎◌, inl, inr, ⊎_elim}
use mathlib.Core.Bool.{Bool, true, false}
use mathlib.Core.List.{List, [], Memᴰ as Mem}
use Prim.Native.Nat.{ℕ, suc, ◌+◌, ◌-◌, ◌≤◌, ◌<◌}
use native.Mathlib.Omega.{arith}
use lib.ListN.{length, get_or}
use Rattle.dealing.specs.File.{File, Cell, Page, is_table, HasPayload, root_kind, first_kind, level_limit}
use Rattle.dealing.specs.Good.{Dealing, TreePage, Good, GoodFor, GoodFileFor, LeafCell, Linked, reading, a_row, chain_pages}
use Rattle.dealing.specs.Walk.{verdict_for, accepted, refusal, Accepts, LedgerOf}
use Rattle.dealing.specs.Spelling.{long_in, long_by}
use Rattle.dealing.specs.Steps.{steps_by, Rooted}
use Rattle.dealing.specs.Lookup.{nowhere, shows, refuses, lookup, whole, follow_cell}
use Rattle.dealing.specs.Cursor as C
use Rattle.dealing.specs.Cursor.{Path, first, seek, step, row_at, Runs, StandsUnder, RowsFrom}
use Rattle.dealing.proofs.Unique.{unique}
use Rattle.dealing.proofs.GoodAccepted.{good-accepted}
use Rattle.dealing.proofs.FromVerdict.{the-dealing, the-dealing-good, the-dealing-good-for, ledger-is, ledger-long}
use Rattle.dealing.proofs.Spelled.{long-ledger}
use Rattle.dealing.proofs.Stepped.{steps-are, rooted}
use Rattle.dealing.proofs.Cells.{at-is, is_at}
use Rattle.dealing.proofs.LookupProof.{TreeCell, lookup-finds, lookup-answers, row_read}
use Rattle.dealing.proofs.CursorProof.{first_runs, seek-runs, step-runs}
use Rattle.dealing.proofs.CursorLaws.{seek-refuses}
use Rattle.dealing.proofs.Reading.{reading-more}
use Rattle.dealing.proofs.Payload.{cell-followed, cell-linked, chain_length}

-- 1. The verdict accepts exactly the good files; where roots are named as ascending, those that are good for these names.
pub accepts : (ordered : List ℕ) (f : File) → 1 ≤ f.N → Accepts ordered f ↔ GoodFileFor ordered f
accepts ordered f some = (
  λ a. (the-dealing ordered f some a.0 a.1 a.2, the-dealing-good-for ordered f some a.0 a.1 a.2),
  λ g. good-accepted ordered f some g.0 g.1.good g.1,
)

-- With none named a file is good for these names where it is good.
pub none_named : (f : File) (d : Dealing) → Good f d → GoodFor [] f d
none_named f d g = record { good = g; rule_33 = λ r m. elim m [ ]; rule_35 = λ r m. elim m [ ] }

-- What it refuses has no good dealing.
pub refused-not-good : (ordered : List ℕ) (f : File) → 1 ≤ f.N → (number page : ℕ) → verdict_for ordered f ≡ refusal number page → GoodFileFor ordered f → ⊥
refused-not-good ordered f some number page e g =
    let a = good-accepted ordered f some g.0 g.1.good g.1 in
    let k = a.2 in
    let z : ◌≡◌ {A = ℕ} 0 1 = cc in omega arith

-- 2. No file has two good dealings.
pub only_one : (f : File) (d d' : Dealing) → Good f d → Good f d' → (p : ℕ) → Page f p
    → (d.kind p ≡ d'.kind p) × (d.namer p ≡ d'.namer p) × (d.step p ≡ d'.step p)
only_one f d d' g g' p h = let s = unique f d d' g g' p h in (s.kind, s.namer, s.step)

-- 3. On acceptance the ledgers have N entries, which are the good dealing's kinds and namers.
module _ (ordered : List ℕ) (f : File) (some : 1 ≤ f.N) (kinds namers : List ℕ) (e : verdict_for ordered f ≡ accepted kinds namers) where
  pub ledger : (d : Dealing) → Good f d → LedgerOf f d kinds namers
  ledger d g =
      record {
        kinds_are = λ p h. (ledger-is ordered f some kinds namers e d g p h).0;
        namers_are = λ p h. (ledger-is ordered f some kinds namers e d g p h).1;
      }

  pub accepted-dealing : (d : Dealing) × GoodFor ordered f d × LedgerOf f d kinds namers
  accepted-dealing =
      let d = the-dealing ordered f some kinds namers e in
      (d, the-dealing-good-for ordered f some kinds namers e, ledger d (the-dealing-good ordered f some kinds namers e))

  pub ledger-length : (length kinds ≡ f.N) × (length namers ≡ f.N)
  ledger-length = ledger-long ordered f some kinds namers e

  -- The steps that the ledger of namers tells are the good dealing's; every way along it ends.
  pub ledger-steps : (d : Dealing) → Good f d → (p : ℕ) → Page f p → get_or (steps_by namers f.N) (p - 1) 0 ≡ d.step p
  ledger-steps d g = steps-are f d g namers (ledger d g).namers_are

  pub ledger-rooted : Rooted namers f.N
  ledger-rooted =
      let a = accepted-dealing in
      rooted f a.0 a.1.good namers a.2.namers_are ledger-length.1

  -- The count of numbers spelled long is one number of the file: by the ledgers of an accepting verdict, and by any good dealing.
  pub long-counted : (d : Dealing) → Good f d → long_by f kinds ≡ long_in f d
  long-counted d g = long-ledger f d kinds namers (ledger d g)

-- The reading of a root's tree, which rules 25 and 33 are about, has all of the tree: to read with more levels reads the same.
pub reading-whole : (asked : Bool) (f : File) (d : Dealing) → Good f d → (r : ℕ) → Page f r → d.kind r ≡ root_kind → (k : ℕ)
    → reading f asked (level_limit + k) r ≡ reading f asked level_limit r
reading-whole asked f d g r page is-root k = reading-more asked f d g r page is-root k

-- 4. Lookup in a good file, at a table root
module _ (f : File) (d : Dealing) (g : Good f d) (r : ℕ) (page : Page f r) (is-root : d.kind r ≡ root_kind) (is-table : is_table f r ≡ true) where
  tree-cell : (q j : ℕ) → LeafCell f d r q j → TreeCell f d r q j (f.cell q j)
  tree-cell q j l = (l.0, l.1, is_at f q j l.2)

  finds : (q j : ℕ) → LeafCell f d r q j → lookup f r (f.cell q j).row ≡ shows q j (f.cell q j).length
  finds q j l = lookup-finds f d g r page is-root is-table q j (f.cell q j) (tree-cell q j l)

  -- what lookup answers is nothing, or a leaf cell of the tree that has the row number
  record Found (row : ℕ) : Type 0 where
    q : ℕ
    j : ℕ
    cell : LeafCell f d r q j
    row_is : (f.cell q j).row ≡ row
    shown : lookup f r row ≡ shows q j (f.cell q j).length

  answers : (row : ℕ) → (lookup f r row ≡ nowhere) ⊎ Found row
  answers row = ⊎_elim (λ e. inl e) (λ w. inr (found w)) (lookup-answers f d g r page is-root is-table row)
    where
      found : ((q j : ℕ) × (c : Cell) × TreeCell f d r q j c × (c.row ≡ row) × (lookup f r row ≡ shows q j c.length)) → Found row
      found (q, j, c, t, e, s) =
          let a = at-is f q j c t.2 in
          record {
            q = q;
            j = j;
            cell = (t.0, t.1, a.0);
            row_is = ap (λ (c : Cell). c.row) (sym a.1) ∙ e;
            shown = s ∙ ap (λ (c : Cell). shows q j c.length) a.1;
          }

  -- it shows a cell exactly when that is a leaf cell of the root's tree that carries the row number
  pub lookup-exact : (row q j n : ℕ) → (lookup f r row ≡ shows q j n) ↔ (LeafCell f d r q j × ((f.cell q j).row ≡ row) × (n ≡ (f.cell q j).length))
  lookup-exact row q j n = (
    λ e. ⊎_elim (λ k. absurd (let z : ◌≡◌ {A = ℕ} 0 1 = cc in omega arith)) (λ w. same e w) (answers row),
    λ w. ap (lookup f r) (sym w.1) ∙ finds q j w.0 ∙ ap (shows q j) (sym w.2),
  )
    where
      same : lookup f r row ≡ shows q j n → Found row → LeafCell f d r q j × ((f.cell q j).row ≡ row) × (n ≡ (f.cell q j).length)
      same e w =
          let e₀ : w.q ≡ q = cc in
          let e₁ : w.j ≡ j = cc in
          let e₂ : n ≡ (f.cell w.q w.j).length = cc in
          subst (λ q. LeafCell f d r q j × ((f.cell q j).row ≡ row) × (n ≡ (f.cell q j).length)) e₀
          (subst (λ j. LeafCell f d r w.q j × ((f.cell w.q j).row ≡ row) × (n ≡ (f.cell w.q j).length)) e₁ (w.cell, w.row_is, e₂))

  -- and nothing exactly when no leaf cell of the tree does
  pub lookup-nothing : (row : ℕ) → (lookup f r row ≡ nowhere) ↔ ((q j : ℕ) → LeafCell f d r q j → (f.cell q j).row ≢ row)
  lookup-nothing row = (
    λ e q j l k.
        let s : lookup f r row ≡ shows q j (f.cell q j).length = ap (lookup f r) (sym k) ∙ finds q j l in
        let z : ◌≡◌ {A = ℕ} 0 1 = cc in omega arith,
    λ h. ⊎_elim (λ e. e) (λ w. absurd (h w.q w.j w.cell w.row_is)) (answers row),
  )

  -- it never refuses
  pub lookup-passes : (row number at : ℕ) → lookup f r row ≢ refuses number at
  lookup-passes row number at e =
      ⊎_elim (λ k. let z : ◌≡◌ {A = ℕ} 0 1 = cc in omega arith) (λ w. let z : ◌≡◌ {A = ℕ} 0 1 = cc w.shown in omega arith) (answers row)

  -- the row numbers of the tree's leaf cells stand in its reading
  pub rows-read : (q j : ℕ) → LeafCell f d r q j → Mem (a_row (f.cell q j).row) (reading f false level_limit r)
  rows-read q j l = row_read f d g r page is-root is-table q j (f.cell q j) (tree-cell q j l)

  -- no row number stands twice in the tree
  pub rows-once : (q q' j j' : ℕ) → LeafCell f d r q j → LeafCell f d r q' j' → (f.cell q j).row ≡ (f.cell q' j').row → (q ≡ q') × (j ≡ j')
  rows-once q q' j j' l l' e =
      let a = finds q j l in
      let b = finds q' j' l' in
      let k : lookup f r (f.cell q j).row ≡ lookup f r (f.cell q' j').row = ap (lookup f r) e in
      (cc, cc)

-- 5. In a good file the payload of every cell of a tree page is there: its chain is followed to its end, and its
-- pages are overflow pages, each named by the one before it, the first by the cell's page.
module _ (f : File) (d : Dealing) (g : Good f d) (q j : ℕ) (page : Page f q) (tree : TreePage d q) (has : HasPayload f q) (cell : j < f.count q) where
  pub payload-followed : follow_cell f q (f.cell q j).links (f.cell q j).first ≡ whole
  payload-followed = cell-followed f d g q j page tree has cell

  pub payload-linked : Linked f d q first_kind (chain_pages f (f.cell q j).links (f.cell q j).first)
  payload-linked = cell-linked f d g q j page tree has cell

  pub payload-pages : length (chain_pages f (f.cell q j).links (f.cell q j).first) ≡ (f.cell q j).links
  payload-pages = chain_length f (f.cell q j).links (f.cell q j).first

-- 6. The cursor in a good file, at a table root: its answer and those of the steps after it show, then the end, ..
module _ (f : File) (d : Dealing) (g : Good f d) (r : ℕ) (page : Page f r) (is-root : d.kind r ≡ root_kind) (is-table : is_table f r ≡ true) where
  -- .. from the first row, every leaf cell of the root's tree once, in rising row order, and nothing else
  pub first-lists : (ys : List Path) × Runs f (first f r) ys × RowsFrom f d r 0 ys
  first-lists = first_runs f d g r page is-root is-table

  -- .. from a row number, those not below it
  pub seek-lists : (x : ℕ) → (ys : List Path) × Runs f (seek f r x) ys × RowsFrom f d r x ys
  seek-lists x = seek-runs f d g r page is-root is-table x

  -- .. and from a stored path that stands under the root, those past its row
  pub step-lists : (y : Path) → StandsUnder f r y → (ys : List Path) × Runs f (step f y) ys × RowsFrom f d r (suc (row_at f y)) ys
  step-lists y s = step-runs f d g r page is-root is-table y s.0 s.1

-- In any file and under any root, where lookup refuses, a start at that number refuses with the same number and page.
pub seek-as-lookup : (f : File) (r x number at : ℕ) → lookup f r x ≡ refuses number at → seek f r x ≡ C.refuses number at
seek-as-lookup f r x number at e = seek-refuses f x number at r e
