-- Pages laid one behind the other, and the last keys of groups stored one by one, by what is left.
--     LastsLeft     keys of leaves and of interior pages
--     InnersLeft, LeavesLeft, ChainsLeft     pages
-- Assumes nothing.
use Prim.Native.Nat.{ℕ, zero, suc, ◌+◌, ◌-◌, ◌*◌, ◌^◌, ◌<◌, ◌≤◌}
use mathlib.Core.Path.{◌≡◌, refl, sym, ap, ◌∙◌, subst}
use mathlib.Core.List.{List, [], ◌∷◌, ◌++◌, map}
use native.Mathlib.Omega.{arith}
use lib.IntN.{ℤ}
use lib.ListN.{length, get_or, set, length-set, length-map}
use borrow.Author.Tests.{eq-eqb, ne_eqb}
use Rattle.number.specs.Bytes.{part}
use Rattle.cell.specs.Split.{table_interior, table_leaf}
use Rattle.cell.proofs.SplitLaws.{local-le, chain-holds}
use Rattle.paging.specs.Pages.{over}
use Rattle.writing.specs.Pages.{joined, tree_page}
use Rattle.writing.specs.Rows.{Row, row_cell, row_cells, leaf_page, chain_of, links_of}
use Rattle.writing.specs.Layout.{size, links_all}
use Rattle.writing.specs.Given.{links_for, rows_from, keys_from, Held, LeafRoom, KeysRoom, ChainRoom}
use Rattle.writing.proofs.OverLaws.{over-on, over_none, byte-laid}
use Rattle.paging.proofs.PagesLaws.{length_over}
use Rattle.writing.proofs.SideBySide.{joined_length}
use Rattle.writing.proofs.ImageLaws.{joined-append}
use Rattle.writing.proofs.KeyLaws.{key-length, keys-more, keys_none, keys-count}
use Rattle.writing.proofs.LeafLaws.{rows-count, part_length}
use Rattle.writing.proofs.ChainLaws.{chain-sized}
use Rattle.writing.proofs.PagesSound.{page-length}
use Rattle.writing.proofs.Fitting.{rows-room}
use Rattle.filling.specs.Fill.{total, sum_from, links_from, Limits, rows_grouped, rows_weight, key_weight, keys_grouped, keys_size}
use Rattle.filling.specs.Fill.{counts, lasts, inners_from, leaves_from, chains_from, local_at}
use Rattle.filling.proofs.Sums.{grouped-bounds, rows-most, rows-least}
use Rattle.filling.proofs.Taken.{rows-weight}

-- ---- groups by their counts
pub counts-more : (takes : ℕ → ℕ → ℕ) (f left i : ℕ) → 1 ≤ left
    → counts takes (suc f) left i ≡ takes left i ∷ counts takes f (left - takes left i) (i + takes left i)
unfolding counts
counts-more takes f left i h = rw (ne_eqb left 0 (λ (z : left ≡ 0). omega arith))

pub counts_step : (takes : ℕ → ℕ → ℕ) (fuel left i : ℕ) → 1 ≤ left → left ≤ fuel
    → (f : ℕ) × (left ≤ suc f) × (counts takes fuel left i ≡ takes left i ∷ counts takes f (left - takes left i) (i + takes left i))
unfolding counts
counts_step takes zero left i h l = absurd (omega arith)
counts_step takes (suc f) left i h l = (f, l, rw (ne_eqb left 0 (λ (z : left ≡ 0). omega arith)))

pub counts-none : (takes : ℕ → ℕ → ℕ) (fuel left i : ℕ) → left ≡ 0 → counts takes fuel left i ≡ []
unfolding counts
counts-none takes zero left i e = refl
counts-none takes (suc f) left i e = rw (eq-eqb left 0 e)

-- ---- the last of each group, stored
pub record LastsLeft (at : ℕ → ℕ) (takes : ℕ → ℕ → ℕ) (k room most : ℕ) (target now : List ℕ) (m i : ℕ) : Type 0 where
  pub order : i ≤ k
  pub low : m ≤ i
  pub same : length now ≡ room
  pub fuel : ℕ
  pub enough : k - i ≤ fuel
  pub count : m + length (counts takes fuel (k - i) i) ≡ most
  pub is : over now m (lasts at (counts takes fuel (k - i) i) i) ≡ target

pub lasts-more : (at : ℕ → ℕ) (c : ℕ) (cs : List ℕ) (i : ℕ) → lasts at (c ∷ cs) i ≡ at (i + c - 1) ∷ lasts at cs (i + c)
unfolding lasts
lasts-more at c cs i = refl

lasts-none : (at : ℕ → ℕ) (i : ℕ) → lasts at [] i ≡ []
unfolding lasts
lasts-none at i = refl

pub lasts-length : (at : ℕ → ℕ) (cs : List ℕ) (i : ℕ) → length (lasts at cs i) ≡ length cs
unfolding lasts
lasts-length at [] i = refl
lasts-length at (c ∷ cs) i = ap suc (lasts-length at cs (i + c))

module _ (at : ℕ → ℕ) (takes : ℕ → ℕ → ℕ) (k : ℕ) where
  pub lasts_on : (room most : ℕ) (target now : List ℕ) (m i c x : ℕ) → i < k → k ≤ room → c ≡ takes (k - i) i → 1 ≤ c → c ≤ k - i → x ≡ at (i + c - 1)
      → LastsLeft at takes k room most target now m i → LastsLeft at takes k room most target (set now m x) (m + 1) (i + c)
  lasts_on room most target now m i c x less fits ce some few xe left =
      let s = counts_step takes left.fuel (k - i) i (omega arith) left.enough in
      let f = s.0 in
      let rest = counts takes f (k - (i + c)) (i + c) in
      let e : k - i - takes (k - i) i ≡ k - (i + c) = omega arith in
      let all : counts takes left.fuel (k - i) i ≡ c ∷ rest =
      s.2 ∙ ap (λ y. takes (k - i) i ∷ counts takes f y (i + takes (k - i) i)) e ∙ ap (λ y. y ∷ counts takes f (k - (i + c)) (i + y)) (sym ce) in
      let L = lasts at rest (i + c) in
      let ll : length L ≡ length rest = lasts-length at rest (i + c) in
      let n : m + suc (length rest) ≡ most = ap (λ y. m + length y) (sym all) ∙ left.count in
      let one : set now m x ≡ over now m (x ∷ []) = byte-laid now m x (omega (arith, left.same, left.low)) in
      let laid : over (set now m x) (m + 1) L ≡ target =
      ap (λ y. over y (m + 1) L) one ∙ over-on now m (m + 1) (x ∷ []) L (omega arith) (omega (arith, left.same, left.low))
      ∙ ap (λ y. over now m (y ∷ L)) xe ∙ ap (over now m) (sym (lasts-more at c rest i)) ∙ ap (λ y. over now m (lasts at y i)) (sym all) ∙ left.is in
      record {
        order = omega arith;
        low = omega (arith, left.low);
        same = length-set now m x ∙ left.same;
        fuel = f;
        enough = omega (arith, s.1);
        count = omega arith;
        is = laid;
      }

  pub lasts-end : (room most : ℕ) (target now : List ℕ) (m i : ℕ) → k ≤ i → LastsLeft at takes k room most target now m i
      → (m ≡ most) × (now ≡ target)
  lasts-end room most target now m i h left =
      let z = counts-none takes left.fuel (k - i) i (omega arith) in
      let e : lasts at (counts takes left.fuel (k - i) i) i ≡ [] = ap (λ y. lasts at y i) z ∙ lasts-none at i in
      (omega (arith, left.count, ap length z), sym (over_none now m) ∙ ap (over now m) (sym e) ∙ left.is)

-- no more groups than members
pub counts-most : (takes : ℕ → ℕ → ℕ) → ((left i : ℕ) → 1 ≤ left → 1 ≤ takes left i) → (fuel left i : ℕ) → length (counts takes fuel left i) ≤ left
unfolding counts
counts-most takes some zero left i = omega arith
counts-most takes some (suc f) zero i = omega arith
counts-most takes some (suc f) (suc l) i =
    let r = counts-most takes some f (suc l - takes (suc l) i) (i + takes (suc l) i) in
    let s = some (suc l) i (omega arith) in
    rw (ne_eqb (suc l) 0 (λ (z : suc l ≡ 0). omega arith)) (omega arith)

-- ---- interior pages
pub size-weight : (keys : List ℕ) (n i : ℕ) → 2 * n + keys_size keys n i ≡ total (key_weight keys) n i
unfolding total
size-weight keys zero i = omega arith
size-weight keys (suc n) i = omega (arith, size-weight keys n (i + 1))

pub keys-bytes : (keys : List ℕ) (n i t : ℕ) → length (joined (keys_from keys n i t)) ≡ keys_size keys n i
unfolding total joined
keys-bytes keys zero i t = ap (λ x. length (joined x)) (keys_none keys i t)
keys-bytes keys (suc n) i t =
    ap (λ x. length (joined x)) (keys-more keys n i t)
    ∙ omega (
      arith,
      joined_length (Rattle.writing.specs.Given.key_bytes t (get_or keys i 0)) (keys_from keys n (i + 1) (t + 1)),
      key-length t (get_or keys i 0),
      keys-bytes keys n (i + 1) (t + 1),
    )

pub record InnersLeft (keys : List ℕ) (k room : ℕ) (target now : List ℕ) (place i next : ℕ) : Type 0 where
  pub order : i ≤ k
  pub keys_in : k ≤ length keys
  pub same : length now ≡ room
  pub fuel : ℕ
  pub enough : k - i ≤ fuel
  pub whole : place + 1024 * length (counts (keys_grouped keys) fuel (k - i) i) ≤ room
  pub pages : next + (k - i) < 2 ^ 32
  pub is : over now place (joined (inners_from keys (counts (keys_grouped keys) fuel (k - i) i) i next)) ≡ target

pub inners-more : (keys : List ℕ) (c : ℕ) (cs : List ℕ) (i t : ℕ) → joined (inners_from keys (c ∷ cs) i t)
    ≡ tree_page size [] table_interior (t + (c - 1)) (keys_from keys (c - 1) i t) ++ joined (inners_from keys cs (i + c) (t + c))
unfolding inners_from joined
inners-more keys c cs i t = refl

pub inners-none : (keys : List ℕ) (i t : ℕ) → joined (inners_from keys [] i t) ≡ []
unfolding inners_from joined
inners-none keys i t = refl

module _ (keys : List ℕ) (k room : ℕ) (target now : List ℕ) (place i next c : ℕ) (less : i < k) (ce : c ≡ keys_grouped keys (k - i) i)
    (left : InnersLeft keys k room target now place i next) where
  bounds : (1 ≤ c) × (c ≤ k - i) × (total (key_weight keys) (c - 1) i ≤ 1012)
  bounds = subst (λ x. (1 ≤ x) × (x ≤ k - i) × (total (key_weight keys) (x - 1) i ≤ 1012)) (sym ce) (grouped-bounds keys (k - i) i (omega arith))

  step : (f : ℕ) × (k - i ≤ suc f) × (counts (keys_grouped keys) left.fuel (k - i) i ≡ c ∷ counts (keys_grouped keys) f (k - (i + c)) (i + c))
  step =
      let s = counts_step (keys_grouped keys) left.fuel (k - i) i (omega arith) left.enough in
      let f = s.0 in
      let e : k - i - keys_grouped keys (k - i) i ≡ k - (i + c) = omega arith in (
        f,
        s.1,
        s.2 ∙ ap (λ y. keys_grouped keys (k - i) i ∷ counts (keys_grouped keys) f y (i + keys_grouped keys (k - i) i)) e
            ∙ ap (λ y. y ∷ counts (keys_grouped keys) f (k - (i + c)) (i + y)) (sym ce),
      )

  pub inners-turn : (1 ≤ c) × (c ≤ k - i) × (place + 1024 ≤ room) × (next + c < 2 ^ 32)
  inners-turn = (bounds.0, bounds.1, omega (arith, left.whole, ap length step.2), omega (arith, left.pages, bounds.1))

  pub inners-room : KeysRoom keys (length now) place (1024 - keys_size keys (c - 1) i) i (c - 1) next
  inners-room =
      let t = inners-turn in
      let w = size-weight keys (c - 1) i in
      record {
        whole = omega (arith, left.same, t.2);
        keys_in = omega (arith, left.keys_in, t.1);
        low = omega (arith, bounds.2);
        high = omega (arith, bounds.2, keys-bytes keys (c - 1) i next);
        pages = omega (arith, t.3);
      }

  pub inners-on : (now' : List ℕ) → now' ≡ over now place (tree_page 1024 [] table_interior (next + (c - 1)) (keys_from keys (c - 1) i next))
      → InnersLeft keys k room target now' (place + 1024) (i + c) (next + c)
  inners-on now' e =
      let t = inners-turn in
      let w = size-weight keys (c - 1) i in
      let s = step in
      let rest = counts (keys_grouped keys) s.0 (k - (i + c)) (i + c) in
      let p = tree_page 1024 [] table_interior (next + (c - 1)) (keys_from keys (c - 1) i next) in
      let R = joined (inners_from keys rest (i + c) (next + c)) in
      let pl : length p ≡ 1024 =
      page-length 1024 [] table_interior (next + (c - 1)) (keys_from keys (c - 1) i next)
      (omega (arith, bounds.2, keys-bytes keys (c - 1) i next, keys-count keys (c - 1) i next)) in
      record {
        order = omega (arith, t.1);
        keys_in = left.keys_in;
        same = ap length e ∙ length_over now place p (omega (arith, left.same, t.2)) ∙ left.same;
        fuel = s.0;
        enough = omega (arith, s.1, t.0);
        whole = omega (arith, left.whole, ap length s.2);
        pages = omega (arith, left.pages, t.1);
        is = ap (λ x. over x (place + 1024) R) e ∙ over-on now place (place + 1024) p R (omega arith) (omega (arith, left.same, t.2))
            ∙ ap (over now place) (sym (inners-more keys c rest i next))
            ∙ ap (λ x. over now place (joined (inners_from keys x i next))) (sym s.2) ∙ left.is;
      }

pub inners-end : (keys : List ℕ) (k room : ℕ) (target now : List ℕ) (place i next : ℕ) → k ≤ i
    → InnersLeft keys k room target now place i next → now ≡ target
inners-end keys k room target now place i next h left =
    let e : joined (inners_from keys (counts (keys_grouped keys) left.fuel (k - i) i) i next) ≡ [] =
    ap (λ x. joined (inners_from keys x i next)) (counts-none (keys_grouped keys) left.fuel (k - i) i (omega arith)) ∙ inners-none keys i next in
    sym (over_none now place) ∙ ap (over now place) (sym e) ∙ left.is

-- ---- leaves
total-split : (at : ℕ → ℕ) (k m i : ℕ) → k ≤ m → total at m i ≡ total at k i + total at (m - k) (i + k)
unfolding total
total-split at zero m i h =
    let e : m ≡ m - 0 = omega arith in
    let f : i ≡ i + 0 = omega arith in
    ap (λ x. total at x i) e ∙ ap (total at (m - 0)) f ∙ omega arith
total-split at (suc k) zero i h = absurd (omega arith)
total-split at (suc k) (suc m) i h =
    let e : m - k ≡ suc m - suc k = omega arith in
    let f : i + 1 + k ≡ i + suc k = omega arith in
    omega (arith, total-split at k m (i + 1) (omega arith), ap (λ x. total at x (i + 1 + k)) e ∙ ap (total at (suc m - suc k)) f)

pub held_first : (ls ps : List ℕ) (k m i off : ℕ) → k ≤ m → Held ls ps m i off → Held ls ps k i off
held_first ls ps zero m i off h l = tt
held_first ls ps (suc k) zero i off h l = absurd (omega arith)
held_first ls ps (suc k) (suc m) i off h l = (l.0, l.1, held_first ls ps k m (i + 1) (off + get_or ls i 0) (omega arith) l.2)

pub held-behind : (ls ps : List ℕ) (k m i off : ℕ) → k ≤ m → Held ls ps m i off → Held ls ps (m - k) (i + k) (off + sum_from ls k i)
unfolding total
held-behind ls ps zero m i off h l =
    let e : m - 0 ≡ m = omega arith in
    let f : i + 0 ≡ i = omega arith in
    let g : off + 0 ≡ off = omega arith in
    rw (e, f, g) l
held-behind ls ps (suc k) zero i off h l = absurd (omega arith)
held-behind ls ps (suc k) (suc m) i off h l =
    let e : suc m - suc k ≡ m - k = omega arith in
    let f : i + suc k ≡ i + 1 + k = omega arith in
    let g : off + (get_or ls i 0 + sum_from ls k (i + 1)) ≡ off + get_or ls i 0 + sum_from ls k (i + 1) = omega arith in
    rw (e, f, g) (held-behind ls ps k m (i + 1) (off + get_or ls i 0) (omega arith) l.2)

-- the payloads end where their lengths say
held-sum : (ls ps : List ℕ) (k i off : ℕ) → 1 ≤ k → Held ls ps k i off → off + sum_from ls k i ≤ length ps
unfolding total
held-sum ls ps zero i off h l = absurd (omega arith)
held-sum ls ps (suc zero) i off h l = omega (arith, l.1)
held-sum ls ps (suc (suc k)) i off h l = omega (arith, held-sum ls ps (suc k) (i + 1) (off + get_or ls i 0) (omega arith) l.2)

pub links-are : (ns : List ℤ) (ls ps : List ℕ) (k i off t : ℕ) → Held ls ps k i off → links_all (rows_from ns ls ps k i off t) ≡ links_from ls k i
unfolding rows_from links_all total
links-are ns ls ps zero i off t h = refl
links-are ns ls ps (suc k) i off t h =
    let p = part ps off (get_or ls i 0) in
    let e : links_of size p ≡ links_for (get_or ls i 0) = ap links_for (part_length ps off (get_or ls i 0) h.1) in
    omega (arith, links-are ns ls ps k (i + 1) (off + get_or ls i 0) (t + links_of size p) h.2)

pub record LeavesLeft (ns : List ℤ) (ls ps : List ℕ) (room : ℕ) (target now : List ℕ) (place i off next : ℕ) : Type 0 where
  pub order : i ≤ length ns
  pub lengths : length ls ≡ length ns
  pub limits : Limits ls
  pub few : length ns ≤ 4096
  pub same : length now ≡ room
  pub fuel : ℕ
  pub enough : length ns - i ≤ fuel
  pub held : Held ls ps (length ns - i) i off
  pub whole : place + 1024 * length (counts (rows_grouped ns ls) fuel (length ns - i) i) ≤ room
  pub pages : next + links_from ls (length ns - i) i < 2 ^ 32
  pub is : over now place
      (joined (map (leaf_page 1024 []) (leaves_from ns ls ps (counts (rows_grouped ns ls) fuel (length ns - i) i) i off next))) ≡ target

leaves-more : (ns : List ℤ) (ls ps : List ℕ) (c : ℕ) (cs : List ℕ) (i off t : ℕ)
    → joined (map (leaf_page 1024 []) (leaves_from ns ls ps (c ∷ cs) i off t))
    ≡ leaf_page 1024 [] (rows_from ns ls ps c i off t)
    ++ joined (map (leaf_page 1024 []) (leaves_from ns ls ps cs (i + c) (off + sum_from ls c i) (t + links_from ls c i)))
unfolding leaves_from joined
leaves-more ns ls ps c cs i off t = refl

leaves_none : (ns : List ℤ) (ls ps : List ℕ) (i off t : ℕ) → joined (map (leaf_page 1024 []) (leaves_from ns ls ps [] i off t)) ≡ []
unfolding leaves_from joined
leaves_none ns ls ps i off t = refl

module _ (ns : List ℤ) (ls ps : List ℕ) (room : ℕ) (target now : List ℕ) (place i off next c used : ℕ) (less : i < length ns)
    (g : (c ≡ rows_grouped ns ls (length ns - i) i) × (used ≡ rows_weight ns ls c i) × (used ≤ 1016))
    (left : LeavesLeft ns ls ps room target now place i off next) where
  abbrev n : ℕ
  n = length ns

  abbrev G : ℕ → ℕ → ℕ
  G = rows_grouped ns ls

  abbrev here : List Row
  here = rows_from ns ls ps c i off next

  leaf-bounds : (1 ≤ c) × (c ≤ n - i)
  leaf-bounds = (omega (arith, g.0, rows-least ns ls (n - i) i (omega arith)), omega (arith, g.0, rows-most ns ls (n - i) i 0))

  leaf-step : (f : ℕ) × (n - i ≤ suc f) × (counts G left.fuel (n - i) i ≡ c ∷ counts G f (n - (i + c)) (i + c))
  leaf-step =
      let s = counts_step G left.fuel (n - i) i (omega arith) left.enough in
      let f = s.0 in
      let e : n - i - G (n - i) i ≡ n - (i + c) = omega (arith, g.0) in
      (f, s.1, s.2 ∙ ap (λ y. G (n - i) i ∷ counts G f y (i + G (n - i) i)) e ∙ ap (λ y. y ∷ counts G f (n - (i + c)) (i + y)) (sym g.0))

  leaf-held : Held ls ps c i off
  leaf-held = held_first ls ps c (n - i) i off leaf-bounds.1 left.held

  leaf-bytes : 2 * c + length (joined (row_cells 1024 here)) ≡ used
  leaf-bytes =
      omega (
        arith,
        g.1,
        rows-weight ns ls ps c i off next leaf-held,
        rows-room 1024 0 here,
        length-map here (row_cell 1024),
        rows-count ns ls ps c i off next,
      )

  leaf-links : links_from ls (n - i) i ≡ links_from ls c i + links_from ls (n - (i + c)) (i + c)
  leaf-links =
      let e : n - i - c ≡ n - (i + c) = omega arith in
      total-split (λ j. links_for (get_or ls j 0)) c (n - i) i leaf-bounds.1 ∙ ap (λ x. links_from ls c i + links_from ls x (i + c)) e

  pub leaves-turn : (1 ≤ c) × (c ≤ n - i) × (2 * c ≤ used) × (used ≤ 1016) × (place + 1024 ≤ room) × (next + links_from ls c i < 2 ^ 32)
  leaves-turn = (
    leaf-bounds.0,
    leaf-bounds.1,
    omega (arith, leaf-bytes),
    g.2,
    omega (arith, left.whole, ap length leaf-step.2),
    omega (arith, left.pages, leaf-links),
  )

  pub leaves-room : LeafRoom ns ls ps (length now) place (1024 - (used - 2 * c)) i c off next
  leaves-room =
      let t = leaves-turn in
      record {
        whole = omega (arith, left.same, t.4);
        numbers = omega (arith, t.1);
        lengths = omega (arith, left.lengths, t.1);
        held = leaf-held;
        low = omega (arith, t.2, t.3);
        high = omega (arith, t.2, t.3, leaf-bytes);
        links = omega (arith, t.5, links-are ns ls ps c i off next leaf-held);
      }

  pub leaves-off : off + sum_from ls c i ≤ length ps
  leaves-off = held-sum ls ps c i off leaf-bounds.0 leaf-held

  pub leaves-on : (now' : List ℕ) (sum links : ℕ) → now' ≡ over now place (leaf_page 1024 [] here) → sum ≡ sum_from ls c i → links ≡ links_from ls c i
      → LeavesLeft ns ls ps room target now' (place + 1024) (i + c) (off + sum) (next + links)
  leaves-on now' sum links e se le =
      let t = leaves-turn in
      let s = leaf-step in
      let rest = counts G s.0 (n - (i + c)) (i + c) in
      let p = leaf_page 1024 [] here in
      let R = joined (map (leaf_page 1024 []) (leaves_from ns ls ps rest (i + c) (off + sum_from ls c i) (next + links_from ls c i))) in
      let pl : length p ≡ 1024 = page-length 1024 [] table_leaf 0 (row_cells 1024 here)
      (omega (arith, leaf-bytes, t.3, length-map here (row_cell 1024), rows-count ns ls ps c i off next)) in
      let z : n - i - c ≡ n - (i + c) = omega arith in
      rw (se, le) (record {
        order = omega (arith, t.1);
        lengths = left.lengths;
        limits = left.limits;
        few = left.few;
        same = ap length e ∙ length_over now place p (omega (arith, left.same, t.4)) ∙ left.same;
        fuel = s.0;
        enough = omega (arith, s.1, t.0);
        held = subst (λ x. Held ls ps x (i + c) (off + sum_from ls c i)) z (held-behind ls ps c (n - i) i off leaf-bounds.1 left.held);
        whole = omega (arith, left.whole, ap length s.2);
        pages = omega (arith, left.pages, leaf-links);
        is = ap (λ x. over x (place + 1024) R) e ∙ over-on now place (place + 1024) p R (omega arith) (omega (arith, left.same, t.4))
            ∙ ap (over now place) (sym (leaves-more ns ls ps c rest i off next))
            ∙ ap (λ x. over now place (joined (map (leaf_page 1024 []) (leaves_from ns ls ps x i off next)))) (sym s.2) ∙ left.is;
      })

pub leaves-end : (ns : List ℤ) (ls ps : List ℕ) (room : ℕ) (target now : List ℕ) (place i off next : ℕ) → length ns ≤ i
    → LeavesLeft ns ls ps room target now place i off next → now ≡ target
leaves-end ns ls ps room target now place i off next h left =
    let e : joined (map (leaf_page 1024 []) (leaves_from ns ls ps (counts (rows_grouped ns ls) left.fuel (length ns - i) i) i off next)) ≡ [] =
    ap (λ x. joined (map (leaf_page 1024 []) (leaves_from ns ls ps x i off next)))
    (counts-none (rows_grouped ns ls) left.fuel (length ns - i) i (omega arith))
    ∙ leaves_none ns ls ps i off next in
    sym (over_none now place) ∙ ap (over now place) (sym e) ∙ left.is

-- ---- chains
pub rest-room : (held room at first off P local links : ℕ)
    → (P ≤ 65536) × (off + P ≤ held) × (at + 1024 * links_for P ≤ room) × (first + links_for P < 2 ^ 32)
    → local ≡ local_at P → links ≡ links_for P → ChainRoom held room at first links (off + local) (off + P)
rest-room held room at first off P local links h le ke =
    let l = local-le size table_leaf P (omega arith) in
    let c = chain-holds size (P - local_at P) (omega arith) in
    rw (le, ke) (record {
      whole = omega (arith, h.2);
      order = omega arith;
      bytes = omega (arith, h.1);
      enough = omega arith;
      pages = h.3;
    })

pub record ChainsLeft (ls ps : List ℕ) (room : ℕ) (target now : List ℕ) (place i off next : ℕ) : Type 0 where
  pub order : i ≤ length ls
  pub same : length now ≡ room
  pub held : Held ls ps (length ls - i) i off
  pub whole : place + 1024 * links_from ls (length ls - i) i ≤ room
  pub pages : next + links_from ls (length ls - i) i < 2 ^ 32
  pub is : over now place (joined (chains_from ls ps (length ls - i) i off next)) ≡ target

abbrev pub chain_here : (ls ps : List ℕ) (i off next : ℕ) → List (List ℕ)
chain_here ls ps i off next =
    chain_of 1024 (links_for (get_or ls i 0)) next (part ps (off + local_at (get_or ls i 0)) (off + get_or ls i 0 - (off + local_at (get_or ls i 0))))

chains-more : (ls ps : List ℕ) (k i off t : ℕ) → chains_from ls ps (suc k) i off t
    ≡ chain_here ls ps i off t ++ chains_from ls ps k (i + 1) (off + get_or ls i 0) (t + links_for (get_or ls i 0))
unfolding chains_from
chains-more ls ps k i off t = refl

chains-none : (ls ps : List ℕ) (i off t : ℕ) → joined (chains_from ls ps 0 i off t) ≡ []
unfolding chains_from joined
chains-none ls ps i off t = refl

total-one : (at : ℕ → ℕ) (k i : ℕ) → total at (suc k) i ≡ at i + total at k (i + 1)
unfolding total
total-one at k i = refl

module _ (ls ps : List ℕ) (room : ℕ) (target now : List ℕ) (place i off next : ℕ) (less : i < length ls)
    (left : ChainsLeft ls ps room target now place i off next) where
  abbrev P : ℕ
  P = get_or ls i 0

  abbrev m : ℕ
  m = length ls - (i + 1)

  chain_left : length ls - i ≡ suc m
  chain_left = omega arith

  chain_held : Held ls ps (suc m) i off
  chain_held = subst (λ x. Held ls ps x i off) chain_left left.held

  chain-links : links_from ls (length ls - i) i ≡ links_for P + links_from ls m (i + 1)
  chain-links = ap (λ x. links_from ls x i) chain_left ∙ total-one (λ j. links_for (get_or ls j 0)) m i

  pub chains-turn : (P ≤ 65536) × (off + P ≤ length ps) × (place + 1024 * links_for P ≤ length now) × (next + links_for P < 2 ^ 32)
  chains-turn = (chain_held.0, chain_held.1, omega (arith, left.whole, left.same, chain-links), omega (arith, left.pages, chain-links))

  pub chains-on : (now' : List ℕ) (links : ℕ) → links ≡ links_for P → now' ≡ over now place (joined (chain_here ls ps i off next))
      → ChainsLeft ls ps room target now' (place + 1024 * links) (i + 1) (off + P) (next + links)
  chains-on now' links le e =
      let t = chains-turn in
      let H = chain_here ls ps i off next in
      let hl : length (joined H) ≡ links_for P * 1024 = chain-sized (links_for P) next (part ps (off + local_at P) (off + P - (off + local_at P))) in
      let R = chains_from ls ps m (i + 1) (off + P) (next + links_for P) in
      rw le (record {
        order = omega arith;
        same = ap length e ∙ length_over now place (joined H) (omega (arith, t.2)) ∙ left.same;
        held = chain_held.2;
        whole = omega (arith, left.whole, chain-links);
        pages = omega (arith, left.pages, chain-links);
        is = ap (λ x. over x (place + 1024 * links_for P) (joined R)) e
            ∙ over-on now place (place + 1024 * links_for P) (joined H) (joined R) (omega arith) (omega (arith, t.2))
            ∙ ap (over now place) (sym (joined-append H R)) ∙ ap (λ x. over now place (joined x)) (sym (chains-more ls ps m i off next))
            ∙ ap (λ x. over now place (joined (chains_from ls ps x i off next))) (sym chain_left) ∙ left.is;
      })

pub chains-end : (ls ps : List ℕ) (room : ℕ) (target now : List ℕ) (place i off next : ℕ) → length ls ≤ i
    → ChainsLeft ls ps room target now place i off next → now ≡ target
chains-end ls ps room target now place i off next h left =
    let z : length ls - i ≡ 0 = omega arith in
    let e : joined (chains_from ls ps (length ls - i) i off next) ≡ [] =
    ap (λ x. joined (chains_from ls ps x i off next)) z ∙ chains-none ls ps i off next in
    sym (over_none now place) ∙ ap (over now place) (sym e) ∙ left.is
