-- Two files that have the same cells where a good dealing of the first looks, lengths of payloads and spellings with them: all of an answer is the same.
use mathlib.Core.Path.{◌≡◌, refl, ap, ap₂, sym, ◌∙◌}
use mathlib.Core.Logic.{◌≢◌, ◌⊎◌}
use mathlib.Core.List.{List, [], ◌∷◌}
use Prim.Native.Nat.{ℕ, zero, suc, ◌+◌, ◌≤◌, ◌<◌}
use native.Mathlib.Omega.{arith}
use Rattle.dealing.specs.File.{Cell, File, Page, Nameable, is_table, cells_from, cells_of, first_kind, later_kind, trunk_kind}
use Rattle.dealing.specs.Good.{Dealing, TreePage, Good}
use Rattle.dealing.specs.Walk.{accepted, verdict_for}
use Rattle.dealing.specs.Spelling.{long_by, long_in}
use Rattle.dealing.specs.Lookup.{lookup_page, lookup}
use Rattle.dealing.specs.Lookup as L
use Rattle.dealing.specs.Cursor.{Path, Met, cell, stop, listing, listing_from, top_of, Shown, end, at, refuses, first, seek, step}
use Rattle.dealing.proofs.Match.{tree-kind}
use Rattle.altered.proofs.Same.{bare, Same, AllNumbers}
use Rattle.altered.proofs.SameReads as R
use Rattle.altered.proofs.SameVerdict as W

pub record SameCells (f f' : File) (d : Dealing) : Type 0 where
  pub N : f'.N ≡ f.N
  pub free_head : f'.free_head ≡ f.free_head
  pub free_total : f'.free_total ≡ f.free_total
  pub trunk_room : f'.trunk_room ≡ f.trunk_room
  pub vacuum : f'.vacuum ≡ f.vacuum
  pub fixed : (p : ℕ) → f'.fixed p ≡ f.fixed p
  -- tree pages
  pub type : (q : ℕ) → Page f q → TreePage d q → f'.type q ≡ f.type q
  pub broken : (q : ℕ) → Page f q → TreePage d q → f'.broken q ≡ f.broken q
  pub count : (q : ℕ) → Page f q → TreePage d q → f'.count q ≡ f.count q
  pub right : (q : ℕ) → Page f q → TreePage d q → f'.right q ≡ f.right q
  pub cell : (q j : ℕ) → Page f q → TreePage d q → j < f.count q → f'.cell q j ≡ f.cell q j
  pub column4 : (q j : ℕ) → Page f q → TreePage d q → j < f.count q → f'.column4 q j ≡ f.column4 q j
  -- overflow pages
  pub next : (q : ℕ) → Page f q → (d.kind q ≡ first_kind) ⊎ (d.kind q ≡ later_kind) → f'.next q ≡ f.next q
  -- trunks
  pub trunk_next : (q : ℕ) → Page f q → d.kind q ≡ trunk_kind → f'.trunk_next q ≡ f.trunk_next q
  pub trunk_count : (q : ℕ) → Page f q → d.kind q ≡ trunk_kind → f'.trunk_count q ≡ f.trunk_count q
  pub trunk_leaf : (q j : ℕ) → Page f q → d.kind q ≡ trunk_kind → j < f.trunk_count q → f'.trunk_leaf q j ≡ f.trunk_leaf q j
  -- entries of maps
  pub entry_type : f.vacuum ≢ 0 → (p : ℕ) → Nameable f p → f'.entry_type p ≡ f.entry_type p
  pub entry_number : f.vacuum ≢ 0 → (p : ℕ) → Nameable f p → f'.entry_number p ≡ f.entry_number p

module _ (f f' : File) (d : Dealing) (some : 1 ≤ f.N) (S : SameCells f f' d) (g : Good f d) where
  abbrev Tree : ℕ → Type 0
  Tree q = Page f q × TreePage d q

  -- so they are looked at alike, with the same numbers
  pub same : Same f f' d
  same =
      record {
        N = S.N;
        free_head = S.free_head;
        free_total = S.free_total;
        trunk_room = S.trunk_room;
        vacuum = S.vacuum;
        fixed = S.fixed;
        type = S.type;
        broken = S.broken;
        count = S.count;
        right = S.right;
        cell = λ q j h t l. ap (bare (is_table f q)) (S.cell q j h t l);
        column4 = λ q j h r. S.column4 q j h (tree-kind f d r.0.0 1 q g.kind_1 r.0.1) r.2;
        next = S.next;
        trunk_next = S.trunk_next;
        trunk_count = S.trunk_count;
        trunk_leaf = S.trunk_leaf;
        entry_type = S.entry_type;
        entry_number = S.entry_number;
      }

  pub numbers : AllNumbers f f' d
  numbers q j h t l =
      let e = S.cell q j h t l in
      record { length = ap (λ (c : Cell). c.length) e; long = ap (λ (c : Cell). c.long) e }

  cells_same : (q i k : ℕ) → ((j : ℕ) → i ≤ j → j < i + k → f'.cell q j ≡ f.cell q j) → cells_from f' q i k ≡ cells_from f q i k
  unfolding cells_from
  cells_same q i zero w = refl
  cells_same q i (suc k) w = ap₂ ◌∷◌ (w i (omega arith) (omega arith)) (cells_same q (suc i) k (λ j a b. w j (omega arith) (omega arith)))

  pub all-cells : (q : ℕ) → Page f q → TreePage d q → cells_of f' q ≡ cells_of f q
  unfolding cells_of
  all-cells q h t = ap (cells_from f' q 0) (S.count q h t) ∙ cells_same q 0 (f.count q) (λ j a b. S.cell q j h t (omega arith))

  -- ---- the numbers spelled long are as many
  pub long_same : long_in f' d ≡ long_in f d
  long_same = R.long_same f f' d some same g numbers

  pub count_same : (ordered ks ns : List ℕ) → verdict_for ordered f ≡ accepted ks ns → long_by f' ks ≡ long_by f ks
  count_same = W.count_same f f' d some same g numbers

  -- ---- lookup, from any tree page
  looked : (a' a : L.Answer) → R.Looked f f' d some same g a' a → a' ≡ a
  looked a' L.nowhere w = w.0
  looked a' (L.shows p i n) w = let s = w.1 in w.0 ∙ ap (L.shows p i) ((numbers p i s.0.0 s.0.1 s.1).length ∙ sym s.2)
  looked a' (L.refuses n p) w = w.0

  pub page-looked : (l q x : ℕ) → Tree q → lookup_page f' l q x ≡ lookup_page f l q x
  page-looked l q x t = looked (lookup_page f' l q x) (lookup_page f l q x) (R.page-looked f f' d some same g l q x t)

  pub looked-same : (r x : ℕ) → Tree r → lookup f' r x ≡ lookup f r x
  looked-same = R.looked-same f f' d some same g numbers

  -- ---- what a cursor meets: the cells that stand at the ends of these paths are the same
  abbrev pub Known : List Met → Type 0
  Known [] = Unit {0}
  Known (cell y ∷ ms) = (f'.cell y.page y.index ≡ f.cell y.page y.index) × Known ms
  Known (stop n p ∷ ms) = Known ms

  known : (ms : List Met) → R.Known f f' d some same g ms → Known ms
  known [] k = tt
  known (cell y ∷ ms) k = (S.cell y.page y.index k.0.0.0 k.0.0.1 k.0.1, known ms k.1)
  known (stop n p ∷ ms) k = known ms k

  abbrev pub Alike : (ms' ms : List Met) → Type 0
  Alike ms' ms = (ms' ≡ ms) × Known ms

  pub listing-alike : (l q : ℕ) → Tree q → Alike (listing f' l q) (listing f l q)
  listing-alike l q t = let a = R.listing-alike f f' d some same g l q t in (a.0, known (listing f l q) a.1)

  pub from-alike : (x l q : ℕ) → Tree q → Alike (listing_from f' x l q) (listing_from f x l q)
  from-alike x l q t = let a = R.from-alike f f' d some same g x l q t in (a.0, known (listing_from f x l q) a.1)

  -- what it shows: the same answer, and where that is a cell, the same cell
  abbrev pub Seen : Shown → Type 0
  Seen end = Unit {0}
  Seen (at y) = f'.cell y.page y.index ≡ f.cell y.page y.index
  Seen (refuses n p) = Unit {0}

  abbrev pub Shows : (s' s : Shown) → Type 0
  Shows s' s = (s' ≡ s) × Seen s

  seen : (s : Shown) → R.Seen f f' d some same g s → Seen s
  seen end w = tt
  seen (at y) w = S.cell y.page y.index w.0.0 w.0.1 w.1
  seen (refuses n p) w = tt

  pub first-same : (r : ℕ) → Tree r → Shows (first f' r) (first f r)
  first-same r t = let a = R.first-same f f' d some same g r t in (a.0, seen (first f r) a.1)

  pub seek-same : (r x : ℕ) → Tree r → Shows (seek f' r x) (seek f r x)
  seek-same r x t = let a = R.seek-same f f' d some same g r x t in (a.0, seen (seek f r x) a.1)

  pub step_same : (y : Path) → Tree (top_of y.above y.page) → Shows (step f' y) (step f y)
  step_same y t = let a = R.step_same f f' d some same g y t in (a.0, seen (step f y) a.1)
