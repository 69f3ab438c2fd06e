-- A path laid into a cursor is read back; a row number moved down is moved up again.
-- Assumes nothing.
use Prim.Native.Nat.{ℕ, suc, ◌+◌, ◌-◌, ◌^◌, ◌<◌, ◌≤◌}
use mathlib.Core.Path.{◌≡◌, refl, sym, ap, ◌∙◌}
use mathlib.Core.List.{List, [], ◌∷◌}
use lib.ListN.{length, get_or, length-set, length-replicate}
use lib.Seq.{get_or-set_same, get_or-set_other}
use native.Mathlib.Omega.{arith}
use Rattle.number.specs.Bytes.{bias_of, biased}
use Rattle.number.proofs.SignedLaws.{biased-signed}
use Rattle.dealing.specs.Cursor as L
use Rattle.cursor.specs.Answers.{zeros, pages_from, indices_from, cursor_from, above_from, last_page, last_index, path_of, row_of}
use Rattle.cursor.specs.declared.Cursor as Cu

pub pages-length : (k : ℕ) (up : List (ℕ × ℕ)) (q : ℕ) → length (pages_from k up q) ≡ 20
unfolding pages_from
pages-length k [] q = length-set zeros k q ∙ length-replicate {A = ℕ} 20 0
pages-length k ((p, i) ∷ up) q = length-set (pages_from (suc k) up q) k p ∙ pages-length (suc k) up q

pub indices-length : (k : ℕ) (up : List (ℕ × ℕ)) (j : ℕ) → length (indices_from k up j) ≡ 20
unfolding indices_from
indices-length k [] j = length-set zeros k j ∙ length-replicate {A = ℕ} 20 0
indices-length k ((p, i) ∷ up) j = length-set (indices_from (suc k) up j) k i ∙ indices-length (suc k) up j

-- from level k on the cursor has the path's pages and indices
record Laid (c : Cu.Cursor) (k : ℕ) (up : List (ℕ × ℕ)) (q j : ℕ) : Type 0 where
  pages : (m : ℕ) → k ≤ m → get_or c.pages m 0 ≡ get_or (pages_from k up q) m 0
  cells : (m : ℕ) → k ≤ m → get_or c.cells m 0 ≡ get_or (indices_from k up j) m 0

record Read (c : Cu.Cursor) (k : ℕ) (up : List (ℕ × ℕ)) (q j : ℕ) : Type 0 where
  above : above_from c k (length up) ≡ up
  page : get_or c.pages (k + length up) 0 ≡ q
  index : get_or c.cells (k + length up) 0 ≡ j

read_back : (c : Cu.Cursor) (k : ℕ) (up : List (ℕ × ℕ)) (q j : ℕ) → k + length up < 20 → Laid c k up q j → Read c k up q j
unfolding above_from pages_from indices_from
read_back c k [] q j h w =
    let z : k + 0 ≡ k = omega arith in
    record {
      above = refl;
      page = ap (λ n. get_or c.pages n 0) z ∙ w.pages k (omega arith) ∙ get_or-set_same zeros k q 0 (omega (arith, length-replicate {A = ℕ} 20 0));
      index = ap (λ n. get_or c.cells n 0) z ∙ w.cells k (omega arith) ∙ get_or-set_same zeros k j 0 (omega (arith, length-replicate {A = ℕ} 20 0));
    }
read_back c k ((p, i) ∷ up) q j h w = go (read_back c (suc k) up q j (omega arith))
  where
    go : (Laid c (suc k) up q j → Read c (suc k) up q j) → Read c k ((p, i) ∷ up) q j
    go ih =
        let r = ih (record {
          pages = λ m l. w.pages m (omega arith) ∙ get_or-set_other (pages_from (suc k) up q) k m p 0 (λ e. omega arith);
          cells = λ m l. w.cells m (omega arith) ∙ get_or-set_other (indices_from (suc k) up j) k m i 0 (λ e. omega arith);
        }) in
        let z : k + suc (length up) ≡ suc k + length up = omega arith in
        let p-is : get_or c.pages k 0 ≡ p = w.pages k (omega arith) ∙ get_or-set_same (pages_from (suc k) up q) k p 0 (omega (arith, pages-length (suc k) up q)) in
        let i-is : get_or c.cells k 0 ≡ i = w.cells k (omega arith) ∙ get_or-set_same (indices_from (suc k) up j) k i 0 (omega (arith, indices-length (suc k) up j)) in
        record {
          above = rw (p-is, i-is, r.above);
          page = ap (λ n. get_or c.pages n 0) z ∙ r.page;
          index = ap (λ n. get_or c.cells n 0) z ∙ r.index;
        }

pub path-back : (y : L.Path) → length y.above < 20 → path_of (cursor_from 0 y) ≡ y
path-back y h =
    let c = cursor_from 0 y in
    let r = read_back c 0 y.above y.page y.index (omega arith) (record { pages = λ m l. refl; cells = λ m l. refl }) in
    let z : suc (0 + length y.above) - 1 ≡ length y.above = omega arith in
    let k : suc (0 + length y.above) - 1 ≡ 0 + length y.above = omega arith in
    made (above_from c 0 (suc (0 + length y.above) - 1)) y.above (last_page c) y.page (last_index c) y.index
    (ap (above_from c 0) z ∙ r.above) (ap (λ n. get_or c.pages n 0) k ∙ r.page) (ap (λ n. get_or c.cells n 0) k ∙ r.index)
  where
    made : (a a' : List (ℕ × ℕ)) (p p' i i' : ℕ) → a ≡ a' → p ≡ p' → i ≡ i' → ◌≡◌ {A = L.Path} (record { above = a; page = p; index = i }) (record { above = a'; page = p'; index = i' })
    made a a' p p' i i' e f g = rw (e, f, g)

-- the row number shown is the cell's
twice : (u : ℕ) → u < 2 ^ 64 → biased (biased u) ≡ u
twice u h = omega arith

small : (u : ℕ) → biased u < 2 ^ 64
small u = omega arith

pub row_back : (u : ℕ) → u < 2 ^ 64 → u ≡ bias_of (row_of u)
row_back u h = sym (twice u h) ∙ biased-signed (biased u) (small u)
