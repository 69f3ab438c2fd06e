-- In a good image quick reading answers what lookup and payload answer; so what is said of their answers (lookup/specs/Means) holds of its answers too.
-- Assumes nothing.
use Prim.Native.Nat.{ℕ, zero, suc, ◌+◌, ◌-◌, ◌≤◌, ◌<◌}
use mathlib.Core.Path.{◌≡◌, refl, sym, ap, ◌∙◌, subst}
use mathlib.Core.Bool.{Bool, true, false, cond}
use mathlib.Core.Logic.{◌⊎◌, inl, inr, ⊎_elim, ◌≢◌}
use mathlib.Core.List.{List, [], ◌∷◌, ◌++◌}
use mathlib.Core.List.Memᴰ.{append_right}
use mathlib.Core.List.Memᴰ.{head as here}
use mathlib.Core.List.Memᴰ.{tail as there}
use mathlib.Core.List.{Memᴰ as Mem}
use lib.Dec.{eqb, leb, ltb}
use lib.IntN.{ℤ}
use lib.ListN.{length}
use native.Mathlib.Nat.{zero-add}
use native.Mathlib.Omega.{arith}
use borrow.Author.Tests.{eq-eqb, ne_eqb, eqb-true, ltb-true, ltb-false, eqb-false, le-ltb, lt-leb}
use Rattle.number.specs.Bytes.{biased, bias_of}
use Rattle.number.proofs.Cases.{true-or-false, lt-or-ge}
use Rattle.header.specs.Header.{usable_of, pages_of, header_of, header_refusal}
use Rattle.number.specs.declared.Word.{Word}
use Rattle.cell.specs.declared.Cell as C
use Rattle.cell.specs.Split.{local_size}
use Rattle.cell.specs.Cell.{refused_cell, over_limit, at_least4, local_end, cell_at, body_cell, payload_cell}
use Rattle.number.specs.Varint.{varint_length, varint_bits}
use Rattle.page.specs.declared.Place.TheVariants.{PayloadPage}
use Rattle.page.specs.Header.{page_type, cell_count, content_start, right_pointer, pointer_place, pointer, cell_of}
use Rattle.page.specs.Header as Ph
use Rattle.page.specs.Place.{allowed}
use Rattle.page.specs.Fault.{cell_fault, page_fault}
use Rattle.page.proofs.PageLaws.{cell_lies, lies-cell, page-none, sound_none}
use Rattle.dealing.specs.File.{File, Cell, is_leaf, is_table, table_type, leaf_type, index_type, payload, Place, suits, schema_root, any_root, table_page, index_page, cells_from, cells_of, level_limit}
use Rattle.dealing.specs.Good.{Dealing, place_of, Mark, a_row, a_key, rows_of, key_of, inner_of, reading, Ordered}
use Rattle.dealing.specs.Walk.{in_range}
use Rattle.dealing.specs.Lookup.{Answer, nowhere, shows, refuses, child_for, cell_for, lookup_page, lookup}
use Rattle.dealing.proofs.WalkLaws.{rest_of, rest_all}
use Rattle.dealing.proofs.LookupLaws.{cell-end, child-end, cell-here, cell-on, child-here, child-on}
use Rattle.dealing.proofs.Lists.{At}
use Rattle.dealing.proofs.Passed.{range-in}
use Rattle.dealing.proofs.LookupProof.{Sure, sure-root, right-sure, cell-sure, read-inner, ordered-left, ordered-right}
use Rattle.image.specs.Pages.{page_in, head_of, cell_in}
use Rattle.image.specs.Payload.{payload_of}
use Rattle.image.specs.Image.{file_of}
use Rattle.image.specs.Good.{GoodDealing, TableRoot, PayloadCell}
use Rattle.image.specs.Ready.{PageAt}
use Rattle.image.proofs.Shape.{shape}
use Rattle.image.proofs.Fields.{N-field, type-field, count-field, right-field, broken-field}
use Rattle.image.proofs.Tree.{checks}
use Rattle.lookup.specs.Found as Fo
use Rattle.lookup.specs.Fetched as Fe
use Rattle.lookup.specs.Answers.{found_of, lookup_of, cell_fetched, or_fault, page_fetched, fetched_of, out_of}
use Rattle.lookup.specs.Means.{Finds, Shows, Nothing, Refuses, Fetches, Copied, NoRoom}
use Rattle.lookup.proofs.Theorems.{opened-image, finds, fetches}
use Rattle.quick.specs.Step as St
use Rattle.quick.specs.Search.{row_word, row_seen, ends, middle, halve, sought_in, cell_step, end_step, step_at, page_step}
use Rattle.quick.specs.Answers.{stepped, find_page, find_of, page_quick, quick_of}

-- ---- rows rise on each page of a tree
pub record Rises (f : File) (p : ℕ) : Type 0 where
  pub less : (i j : ℕ) → i < j → j < f.count p → (f.cell p i).row < (f.cell p j).row

module _ (f : File) (p : ℕ) where
  row-marked : (k i j : ℕ) → j < k → Mem (a_row (f.cell p (i + j)).row) (rows_of false true (cells_from f p i k))
  unfolding rows_of cells_from
  row-marked zero i j l = absurd (omega arith)
  row-marked (suc k) i zero l = let e : i + 0 ≡ i = omega arith in here (ap (λ n. a_row (f.cell p n).row) e)
  row-marked (suc k) i (suc j) l =
      let e : suc i + j ≡ i + suc j = omega arith in
      there (subst (λ n. Mem (a_row (f.cell p n).row) (rows_of false true (cells_from f p (suc i) k))) e (row-marked k (suc i) j (omega arith)))

  rows-rise : (k i : ℕ) → Ordered (rows_of false true (cells_from f p i k)) → (a c : ℕ) → a < c → c < k → (f.cell p (i + a)).row < (f.cell p (i + c)).row
  unfolding rows_of cells_from
  rows-rise zero i o a c l m = absurd (omega arith)
  rows-rise (suc k) i o a zero l m = absurd (omega arith)
  rows-rise (suc k) i o zero (suc c) l m =
      let e : suc i + c ≡ i + suc c = omega arith in
      let z : i ≡ i + 0 = omega arith in
      let h : (f.cell p i).row < (f.cell p (suc i + c)).row = o.0 (a_row (f.cell p (suc i + c)).row) (row-marked k (suc i) c (omega arith)) in
      subst (λ n. (f.cell p n).row < (f.cell p (i + suc c)).row) z (subst (λ n. (f.cell p i).row < (f.cell p n).row) e h)
  rows-rise (suc k) i o (suc a) (suc c) l m =
      let e : suc i + c ≡ i + suc c = omega arith in
      let z : suc i + a ≡ i + suc a = omega arith in
      let h = rows-rise k (suc i) o.1 a c (omega arith) (omega arith) in
      subst (λ n. (f.cell p n).row < (f.cell p (i + suc c)).row) z (subst (λ n. (f.cell p (suc i + a)).row < (f.cell p n).row) e h)

  module _ (g : ℕ → List Mark) (r : ℕ) where
    key-marked : (k i j : ℕ) → j < k → Mem (a_key (f.cell p (i + j)).row) (inner_of g false true r (cells_from f p i k))
    unfolding inner_of key_of cells_from
    key-marked zero i j l = absurd (omega arith)
    key-marked (suc k) i zero l = let e : i + 0 ≡ i = omega arith in append_right (g (f.cell p i).child) (here (ap (λ n. a_key (f.cell p n).row) e))
    key-marked (suc k) i (suc j) l =
        let e : suc i + j ≡ i + suc j = omega arith in
        append_right (g (f.cell p i).child)
        (there (subst (λ n. Mem (a_key (f.cell p n).row) (inner_of g false true r (cells_from f p (suc i) k))) e (key-marked k (suc i) j (omega arith))))

    keys-rise : (k i : ℕ) → Ordered (inner_of g false true r (cells_from f p i k)) → (a c : ℕ) → a < c → c < k → (f.cell p (i + a)).row < (f.cell p (i + c)).row
    unfolding inner_of key_of cells_from
    keys-rise zero i o a c l m = absurd (omega arith)
    keys-rise (suc k) i o a zero l m = absurd (omega arith)
    keys-rise (suc k) i o zero (suc c) l m =
        let e : suc i + c ≡ i + suc c = omega arith in
        let z : i ≡ i + 0 = omega arith in
        let o' : Ordered (a_key (f.cell p i).row ∷ inner_of g false true r (cells_from f p (suc i) k)) = ordered-right (g (f.cell p i).child) _ o in
        let h : (f.cell p i).row < (f.cell p (suc i + c)).row = o'.0 (a_key (f.cell p (suc i + c)).row) (key-marked k (suc i) c (omega arith)) in
        subst (λ n. (f.cell p n).row < (f.cell p (i + suc c)).row) z (subst (λ n. (f.cell p i).row < (f.cell p n).row) e h)
    keys-rise (suc k) i o (suc a) (suc c) l m =
        let e : suc i + c ≡ i + suc c = omega arith in
        let z : suc i + a ≡ i + suc a = omega arith in
        let o' : Ordered (a_key (f.cell p i).row ∷ inner_of g false true r (cells_from f p (suc i) k)) = ordered-right (g (f.cell p i).child) _ o in
        let h = keys-rise k (suc i) o'.1 a c (omega arith) (omega arith) in
        subst (λ n. (f.cell p n).row < (f.cell p (i + suc c)).row) z (subst (λ n. (f.cell p (suc i + a)).row < (f.cell p n).row) e h)

  from_zero : ((a c : ℕ) → a < c → c < f.count p → (f.cell p (0 + a)).row < (f.cell p (0 + c)).row) → Rises f p
  from_zero h = record { less = λ i j l m. rw (zero-add i, zero-add j) at (h i j l m) }

  leaf-rises : Ordered (rows_of false true (cells_of f p)) → Rises f p
  unfolding cells_of
  leaf-rises o = from_zero (rows-rise (f.count p) 0 o)

  inner-rises : (g : ℕ → List Mark) (r : ℕ) → Ordered (inner_of g false true r (cells_of f p)) → Rises f p
  unfolding cells_of
  inner-rises g r o = from_zero (keys-rise g r (f.count p) 0 o)

-- ---- before i all rows are below x, from i on none is
pub record Splits (f : File) (p x i : ℕ) : Type 0 where
  pub most : i ≤ f.count p
  pub below : (j : ℕ) → j < i → (f.cell p j).row < x
  pub from : (j : ℕ) → i ≤ j → j < f.count p → x ≤ (f.cell p j).row

module _ (f : File) (p x i : ℕ) (s : Splits f p x i) where
  children-passed : (j : ℕ) → j ≤ i → child_for x (f.right p) (rest_of f p 0) ≡ child_for x (f.right p) (rest_of f p j)
  children-passed zero l = refl
  children-passed (suc j) l =
      let m = s.most in
      let e : j + 1 ≡ suc j = omega arith in
      children-passed j (omega arith) ∙ child-on f x p j (omega arith) (s.below j (omega arith)) ∙ ap (λ n. child_for x (f.right p) (rest_of f p n)) e

  pub child-split : child_for x (f.right p) (cells_of f p) ≡ cond (ltb i (f.count p)) (f.cell p i).child (f.right p)
  child-split = ap (child_for x (f.right p)) (rest_all f p) ∙ children-passed i (omega arith) ∙ go (true-or-false (ltb i (f.count p)))
    where
      go : (ltb i (f.count p) ≡ true) ⊎ (ltb i (f.count p) ≡ false) → child_for x (f.right p) (rest_of f p i) ≡ cond (ltb i (f.count p)) (f.cell p i).child (f.right p)
      go (inl y) = rw y (let l = ltb-true i (f.count p) y in child-here f x p i l (s.from i (omega arith) l))
      go (inr n) = rw n (child-end f x p i (ltb-false i (f.count p) n))

  cells-passed : (j : ℕ) → j ≤ i → cell_for x p 0 (rest_of f p 0) ≡ cell_for x p j (rest_of f p j)
  cells-passed zero l = refl
  cells-passed (suc j) l =
      let m = s.most in
      let e : j + 1 ≡ suc j = omega arith in
      let k = s.below j (omega arith) in
      cells-passed j (omega arith) ∙ cell-on f x p j (omega arith) (λ z. omega arith) ∙ ap (λ n. cell_for x p n (rest_of f p n)) e

  module _ (w : Rises f p) where
    -- no cell from i on carries x, where the ith does not
    others : (k j : ℕ) → j + k ≡ f.count p → x < (f.cell p j).row → cell_for x p j (rest_of f p j) ≡ nowhere
    others zero j e l = cell-end f x p j (omega arith)
    others (suc k) j e l =
        cell-on f x p j (omega arith) (λ z. omega arith) ∙ go k (λ c h. others k (j + 1) c h) refl
      where
        go : (k' : ℕ) → (j + 1 + k ≡ f.count p → x < (f.cell p (j + 1)).row → cell_for x p (j + 1) (rest_of f p (j + 1)) ≡ nowhere) → k ≡ k' → cell_for x p (j + 1) (rest_of f p (j + 1)) ≡ nowhere
        go zero ih q = cell-end f x p (j + 1) (omega arith)
        go (suc k') ih q = ih (omega arith) (let h = w.less j (j + 1) (omega arith) (omega arith) in omega arith)

    pub cell-split : cell_for x p 0 (cells_of f p) ≡ cond (ltb i (f.count p)) (cond (eqb (f.cell p i).row x) (shows p i (f.cell p i).length) nowhere) nowhere
    cell-split = ap (cell_for x p 0) (rest_all f p) ∙ cells-passed i (omega arith) ∙ go (true-or-false (ltb i (f.count p))) (true-or-false (eqb (f.cell p i).row x))
      where
        go : (ltb i (f.count p) ≡ true) ⊎ (ltb i (f.count p) ≡ false) → (eqb (f.cell p i).row x ≡ true) ⊎ (eqb (f.cell p i).row x ≡ false)
            → cell_for x p i (rest_of f p i) ≡ cond (ltb i (f.count p)) (cond (eqb (f.cell p i).row x) (shows p i (f.cell p i).length) nowhere) nowhere
        go (inr n) e = rw n (cell-end f x p i (ltb-false i (f.count p) n))
        go (inl y) (inl e) = rw (y, e) (cell-here f x p i (ltb-true i (f.count p) y) (eqb-true (f.cell p i).row x e))
        go (inl y) (inr e) =
            let l = ltb-true i (f.count p) y in
            let h = s.from i (omega arith) l in
            let d : (f.cell p i).row ≢ x = eqb-false (f.cell p i).row x e in
            rw (y, e) (others (f.count p - i) i (omega arith) (omega arith))

-- ---- the row number that halving sees is the cell's, where that can be read
passed : (b : Bool) (number : ℕ) (c : C.Cell) → number ≢ 0 → (cond b (refused_cell number) c).fault ≡ 0 → b ≡ false
passed true number c n z = absurd (n z)
passed false number c n z = refl

module _ (p : List ℕ) (u at : ℕ) where
  row-leaf : (cell_at p u 13 at).fault ≡ 0 → ((row_word p u 13 at).length ≢ 0) × (biased (row_word p u 13 at).bits ≡ (cell_at p u 13 at).row)
  unfolding cell_at payload_cell body_cell row_word
  row-leaf z =
      let k : at + 0 ≡ at = omega arith in
      let z₀ = rw (k, cell_at) at z in
      let a : ltb u at ≡ false = passed (ltb u at) 23 _ (λ e. omega arith) z₀ in
      let z₁ = rw a at z₀ in
      let b : eqb (varint_length p at u) 0 ≡ false = passed (eqb (varint_length p at u) 0) 23 _ (λ e. omega arith) z₁ in
      let z₂ = rw b at z₁ in
      let c : over_limit (varint_bits p at u) ≡ false = passed (over_limit (varint_bits p at u)) 26 _ (λ e. omega arith) z₂ in
      let z₃ = rw c at z₂ in
      let d : eqb (varint_length p (at + varint_length p at u) u) 0 ≡ false = passed (eqb (varint_length p (at + varint_length p at u) u) 0) 23 _ (λ e. omega arith) z₃ in
      let z₄ = rw d at z₃ in
      let start = at + varint_length p at u + varint_length p (at + varint_length p at u) u in
      let last = at_least4 at (local_end start (local_size u 13 (varint_bits p at u)) (varint_bits p at u)) in
      let e : ltb u last ≡ false = passed (ltb u last) 23 _ (λ e. omega arith) z₄ in
      (rw b (eqb-false _ _ d), rw (k, cell_at) (rw (a, b, c, d, e)))

  row-inner : (cell_at p u 5 at).fault ≡ 0 → ((row_word p u 5 at).length ≢ 0) × (biased (row_word p u 5 at).bits ≡ (cell_at p u 5 at).row)
  unfolding cell_at row_word
  row-inner z =
      let a : ltb u (at + 4) ≡ false = passed (ltb u (at + 4)) 23 _ (λ e. omega arith) z in
      let z₁ = rw a at z in
      let b : eqb (varint_length p (at + 4) u) 0 ≡ false = passed (eqb (varint_length p (at + 4) u) 0) 23 _ (λ e. omega arith) z₁ in
      (eqb-false _ _ b, rw (a, b))

module _ (p : List ℕ) (u head i : ℕ) (fine : cell_fault p u head i ≡ 0) where
  seen-is : row_seen p u head i ≡ row_word p u (page_type p head) (pointer p head i)
  unfolding row_seen
  seen-is =
      let c = cell_lies p u head i fine in
      rw (le-ltb u (pointer_place p head i + 2) c.place, le-ltb (pointer p head i) (content_start p head) c.low, lt-leb u (pointer p head i) c.below)

  abbrev Seen : (type : ℕ) → Type 0
  Seen type = ((row_word p u type (pointer p head i)).length ≢ 0) × (biased (row_word p u type (pointer p head i)).bits ≡ (cell_at p u type (pointer p head i)).row)

  seen-row : (page_type p head ≡ 5) ⊎ (page_type p head ≡ 13) → ((row_seen p u head i).length ≢ 0) × (biased (row_seen p u head i).bits ≡ (cell_of p u head i).row)
  seen-row t = subst (λ (w : Word). (w.length ≢ 0) × (biased w.bits ≡ (cell_of p u head i).row)) (sym seen-is) (go t (cell_lies p u head i fine).fault)
    where
      go : (page_type p head ≡ 5) ⊎ (page_type p head ≡ 13) → (cell_at p u (page_type p head) (pointer p head i)).fault ≡ 0 → Seen (page_type p head)
      go (inl e) z = subst Seen (sym e) (row-inner p u (pointer p head i) (subst (λ t. (cell_at p u t (pointer p head i)).fault ≡ 0) e z))
      go (inr e) z = subst Seen (sym e) (row-leaf p u (pointer p head i) (subst (λ t. (cell_at p u t (pointer p head i)).fault ≡ 0) e z))

-- ---- halving ends there, where every cell can be read
module _ (b : List ℕ) (p : ℕ) (fine : (i : ℕ) → i < (file_of b).count p → cell_fault (page_in b p) (usable_of b) (head_of p) i ≡ 0) (w : Rises (file_of b) p) (ty : (page_type (page_in b p) (head_of p) ≡ 5) ⊎ (page_type (page_in b p) (head_of p) ≡ 13)) (x : ℕ) where
  abbrev f : File
  f = file_of b

  row_is : (i : ℕ) → (cell_of (page_in b p) (usable_of b) (head_of p) i).row ≡ (f.cell p i).row
  unfolding file_of cell_in
  row_is i = refl

  length_is : (i : ℕ) → (cell_of (page_in b p) (usable_of b) (head_of p) i).payload ≡ (f.cell p i).length
  unfolding file_of cell_in
  length_is i = refl

  child-is : (i : ℕ) → (cell_of (page_in b p) (usable_of b) (head_of p) i).child ≡ (f.cell p i).child
  unfolding file_of cell_in
  child-is i = refl

  abbrev Ends : (turns a z : ℕ) → Type 0
  Ends n a z = (i : ℕ) × (halve (page_in b p) (usable_of b) (head_of p) x n a z ≡ ends i) × Splits f p x i

  done : (z : ℕ) → z ≤ f.count p → ((j : ℕ) → j < z → (f.cell p j).row < x) → ((j : ℕ) → z ≤ j → j < f.count p → x ≤ (f.cell p j).row) → Splits f p x z
  done z m l r = record { most = m; below = l; from = r }

  abbrev Rest : (turns : ℕ) → Type 0
  Rest n =
      (a z : ℕ) → a ≤ z → z - a ≤ n → z ≤ f.count p → ((j : ℕ) → j < a → (f.cell p j).row < x) → ((j : ℕ) → z ≤ j → j < f.count p → x ≤ (f.cell p j).row)
      → Ends n a z

  halves : (n : ℕ) → Rest n
  unfolding halve
  halves zero a z o e m l r = (z, refl, done z m (λ j h. l j (omega arith)) r)
  halves (suc n) a z o e m l r = go (λ a z. halves n a z) (true-or-false (ltb a z))
    where
      i : ℕ
      i = middle a z

      seen : i < f.count p → ((row_seen (page_in b p) (usable_of b) (head_of p) i).length ≢ 0) × (biased (row_seen (page_in b p) (usable_of b) (head_of p) i).bits ≡ (cell_of (page_in b p) (usable_of b) (head_of p) i).row)
      seen l = seen-row (page_in b p) (usable_of b) (head_of p) i (fine i l) ty

      one : Rest n → ltb a z ≡ true → i < z → a ≤ i → (ltb (f.cell p i).row x ≡ true) ⊎ (ltb (f.cell p i).row x ≡ false) → Ends (suc n) a z
      one ih y k q (inl t) =
          let h = ltb-true (f.cell p i).row x t in
          let v = ih (suc i) z (omega arith) (omega arith) m (λ j u. up j u h) r in
          (let r = seen (omega arith) in (v.0, rw (y, ne_eqb _ 0 r.0, r.1, row_is i, t) v.1, v.2))
        where
          up : (j : ℕ) → j < suc i → (f.cell p i).row < x → (f.cell p j).row < x
          up j u h =
              ⊎_elim (λ (c : j < i). let d = w.less j i c (omega arith) in omega arith)
              (λ (c : i ≤ j). let e : i ≡ j = omega arith in subst (λ n. (f.cell p n).row < x) e h) (lt-or-ge j i)
      one ih y k q (inr t) =
          let h = ltb-false (f.cell p i).row x t in
          let v = ih a i q (omega arith) (omega arith) l (λ j u c. down j u c h) in
          (let r = seen (omega arith) in (v.0, rw (y, ne_eqb _ 0 r.0, r.1, row_is i, t) v.1, v.2))
        where
          down : (j : ℕ) → i ≤ j → j < f.count p → x ≤ (f.cell p i).row → x ≤ (f.cell p j).row
          down j u c h =
              ⊎_elim (λ (d : i < j). let e = w.less i j d c in omega arith)
              (λ (d : j ≤ i). let e : i ≡ j = omega arith in subst (λ n. x ≤ (f.cell p n).row) e h) (lt-or-ge i j)

      go : Rest n → (ltb a z ≡ true) ⊎ (ltb a z ≡ false) → Ends (suc n) a z
      go ih (inl y) = let d = ltb-true a z y in one ih y (omega arith) (omega arith) (true-or-false (ltb (f.cell p i).row x))
      go ih (inr y) = let d = ltb-false a z y in (z, rw y, done z m (λ j h. l j (omega arith)) r)

  pub sought-splits : (i : ℕ) × (sought_in (page_in b p) (usable_of b) (head_of p) x ≡ ends i) × Splits f p x i
  sought-splits =
      let e = count-field b p in
      subst (λ n. (i : ℕ) × (halve (page_in b p) (usable_of b) (head_of p) x n 0 n ≡ ends i) × Splits f p x i) e
      (halves (f.count p) 0 (f.count p) (omega arith) (omega arith) (omega arith) (λ j h. absurd (omega arith)) (λ j h k. absurd (omega arith)))

  -- what the page says then
  module _ (i : ℕ) (e : sought_in (page_in b p) (usable_of b) (head_of p) x ≡ ends i) (s : Splits f p x i) (N : ℕ) (below : ℕ → Fo.Found) where
    type-is : (t : ℕ) → f.type p ≡ t → page_type (page_in b p) (head_of p) ≡ t
    type-is t k = sym (type-field b p) ∙ k

    said : Ph.is_table (page_type (page_in b p) (head_of p)) ≡ true → page_step (page_in b p) (usable_of b) (head_of p) x ≡ step_at (page_in b p) (usable_of b) (head_of p) x (ends i)
    unfolding page_step
    said t = rw (t, e)

    pub leaf-step : f.type p ≡ 13 → stepped N p below (page_step (page_in b p) (usable_of b) (head_of p) x) ≡ found_of (cell_for x p 0 (cells_of f p))
    unfolding step_at cell_step end_step
    leaf-step t =
        let k = type-is 13 t in
        ap (stepped N p below) (said (rw k)) ∙ go k (true-or-false (ltb i (f.count p))) (true-or-false (eqb (f.cell p i).row x)) ∙ sym (ap found_of (cell-split f p x i s w))
      where
        go : page_type (page_in b p) (head_of p) ≡ 13 → (ltb i (f.count p) ≡ true) ⊎ (ltb i (f.count p) ≡ false) → (eqb (f.cell p i).row x ≡ true) ⊎ (eqb (f.cell p i).row x ≡ false)
            → stepped N p below (step_at (page_in b p) (usable_of b) (head_of p) x (ends i))
            ≡ found_of (cond (ltb i (f.count p)) (cond (eqb (f.cell p i).row x) (shows p i (f.cell p i).length) nowhere) nowhere)
        go k (inr n) q = rw (← count-field b p, n, k)
        go k (inl y) (inl q) = rw (← count-field b p, row_is i, length_is i, y, fine i (ltb-true _ _ y), q, k)
        go k (inl y) (inr q) = rw (← count-field b p, row_is i, y, fine i (ltb-true _ _ y), q, k)

    pub inner-step : f.type p ≡ 5 → stepped N p below (page_step (page_in b p) (usable_of b) (head_of p) x)
        ≡ cond (in_range N (child_for x (f.right p) (cells_of f p))) (below (child_for x (f.right p) (cells_of f p))) (Fo.Refused 20 p)
    unfolding step_at cell_step end_step
    inner-step t =
        let k = type-is 5 t in
        ap (stepped N p below) (said (rw k) ∙ go k (true-or-false (ltb i (f.count p))) ∙ sym (ap St.Child (child-split f p x i s)))
      where
        go : page_type (page_in b p) (head_of p) ≡ 5 → (ltb i (f.count p) ≡ true) ⊎ (ltb i (f.count p) ≡ false)
            → step_at (page_in b p) (usable_of b) (head_of p) x (ends i) ≡ St.Child (cond (ltb i (f.count p)) (f.cell p i).child (f.right p))
        go k (inr n) = rw (← count-field b p, right-field b p, n, k)
        go k (inl y) = rw (← count-field b p, child-is i, y, fine i (ltb-true _ _ y), k)

-- ---- from page to page
table-types : (k : ℕ) → table_type k ≡ true → (k ≡ 5) ⊎ (k ≡ 13)
table-types k e = ⊎_elim (λ (y : eqb k 5 ≡ true). inl (eqb-true k 5 y)) (λ (n : eqb k 5 ≡ false). inr (eqb-true k 13 (rw n at e))) (true-or-false (eqb k 5))

module _ (x : ℕ) (g : ℕ → List Mark) (r : ℕ) where
  chosen-ordered : (cs : List Cell) → Ordered (inner_of g false true r cs) → Ordered (g (child_for x r cs))
  unfolding inner_of child_for
  chosen-ordered [] o = o
  chosen-ordered (c ∷ cs) o =
      go (leb x c.row) (ordered-left (g c.child) (key_of false true c ++ inner_of g false true r cs) o)
      (chosen-ordered cs (ordered-right (key_of false true c) (inner_of g false true r cs) (ordered-right (g c.child) (key_of false true c ++ inner_of g false true r cs) o)))
    where
      go : (b : Bool) → Ordered (g c.child) → Ordered (g (child_for x r cs)) → Ordered (g (cond b c.child (child_for x r cs)))
      go true a a' = a
      go false a a' = a'

module _ {b : List ℕ} {d : Dealing} (g : GoodDealing b d) {root : ℕ} (t : TableRoot b d root) (x : ℕ) where
  abbrev file : File
  file = file_of b

  abbrev S : (n q : ℕ) → Type 0
  S = Sure file d g.good root t.page t.kind t.table

  read-leaf : (l n q : ℕ) → S n q → is_leaf file q ≡ true → Ordered (reading file false (suc l) q) → Ordered (rows_of false true (cells_of file q))
  unfolding reading
  read-leaf l n q s e o = subst (λ t. Ordered (rows_of false t (cells_of file q))) s.table (rw e at o)

  types : (q : ℕ) → is_table file q ≡ true → (file.type q ≡ 5) ⊎ (file.type q ≡ 13)
  unfolding is_table
  types q e = table-types (file.type q) e

  page-type : (q : ℕ) → (file.type q ≡ 5) ⊎ (file.type q ≡ 13) → (page_type (page_in b q) (head_of q) ≡ 5) ⊎ (page_type (page_in b q) (head_of q) ≡ 13)
  page-type q (inl e) = inl (sym (type-field b q) ∙ e)
  page-type q (inr e) = inr (sym (type-field b q) ∙ e)

  leafy : (q : ℕ) → file.type q ≡ 13 → is_leaf file q ≡ true
  unfolding is_leaf
  leafy q e = rw e

  inner : (q : ℕ) → file.type q ≡ 5 → is_leaf file q ≡ false
  unfolding is_leaf
  inner q e = rw e

  all-fine : (n q : ℕ) → S n q → (i : ℕ) → i < file.count q → cell_fault (page_in b q) (usable_of b) (head_of q) i ≡ 0
  all-fine n q s i l =
      let o = opened-image b g.passes in
      let sh = shape o in
      let a : PageAt b (header_of b) q = record { opened = o; low = s.page.0; high = omega (arith, sh.N-is, s.page.1) } in
      let c = checks a (g.good.rule_23_26 q s.page s.kind) in
      lies-cell (page_in b q) (usable_of b) (head_of q) i (c.cell i (omega (arith, count-field b q)))

  child-sure : (n q : ℕ) → S n q → is_leaf file q ≡ false → S (suc n) (child_for x (file.right q) (cells_of file q))
  unfolding child_for
  child-sure n q s e =
      go (cells_of file q) (right-sure file d g.good root t.page t.kind t.table n q s e)
      (λ j c a. cell-sure file d g.good root t.page t.kind t.table n q s e j c a)
    where
      go : (cs : List Cell) → S (suc n) (file.right q) → ((j : ℕ) (c : Cell) → At cs j c → S (suc n) c.child) → S (suc n) (child_for x (file.right q) cs)
      go [] r h = r
      go (c ∷ cs) r h = pick (leb x c.row) (h 0 c refl) (go cs r (λ j c a. h (suc j) c a))
        where
          pick : (k : Bool) → S (suc n) c.child → S (suc n) (child_for x (file.right q) cs) → S (suc n) (cond k c.child (child_for x (file.right q) cs))
          pick true u v = u
          pick false u v = v

  below : (l n q : ℕ) → S n q → Ordered (reading file false l q) → find_page b x l q ≡ found_of (lookup_page file l q x)
  unfolding find_page lookup_page
  below zero n q s o = refl
  below (suc l) n q s o =
      ⊎_elim (λ k. go-inner k (λ c u v. below l (suc n) c u v)) (λ k. go-leaf k) (types q s.table)
    where
      child : ℕ
      child = child_for x (file.right q) (cells_of file q)

      same : (N : ℕ) → N ≡ file.N → (A B : Fo.Found) (a : Answer) → A ≡ found_of a → cond (in_range N child) A (Fo.Refused 20 q) ≡ found_of (cond (in_range file.N child) a (refuses 20 q))
      same N e A B a h = rw (e, h) (tests (in_range file.N child))
        where
          tests : (k : Bool) → cond k (found_of a) (Fo.Refused 20 q) ≡ found_of (cond k a (refuses 20 q))
          tests true = refl
          tests false = refl

      go-leaf : file.type q ≡ 13 → find_page b x (suc l) q ≡ found_of (lookup_page file (suc l) q x)
      go-leaf k =
          let e = leafy q k in
          let w = leaf-rises file q (read-leaf l n q s e o) in
          let ty = page-type q (inr k) in
          let v = sought-splits b q (all-fine n q s) w ty x in
          leaf-step b q (all-fine n q s) w ty x v.0 v.1 v.2 (pages_of b) (find_page b x l) k ∙ rw (s.fault, e)

      go-inner : file.type q ≡ 5 → ((c : ℕ) → S (suc n) c → Ordered (reading file false l c) → find_page b x l c ≡ found_of (lookup_page file l c x))
          → find_page b x (suc l) q ≡ found_of (lookup_page file (suc l) q x)
      go-inner k ih =
          let e = inner q k in
          let m = read-inner file d g.good root t.page t.kind t.table l n q s e o in
          let w = inner-rises file q (reading file false l) (file.right q) m in
          let ty = page-type q (inl k) in
          let v = sought-splits b q (all-fine n q s) w ty x in
          let h = ih child (child-sure n q s e) (chosen-ordered x (reading file false l) (file.right q) (cells_of file q) m) in
          inner-step b q (all-fine n q s) w ty x v.0 v.1 v.2 (pages_of b) (find_page b x l) k
          ∙ same (pages_of b) (sym (N-field b)) (find_page b x l child) (find_page b x l child) (lookup_page file l child x) h ∙ rw (s.fault, e)

-- find answers what lookup answers
module _ {b : List ℕ} {d : Dealing} (g : GoodDealing b d) {root : ℕ} (t : TableRoot b d root) (row : ℤ) where
  pub same-find : find_of b root row ≡ lookup_of b root row
  unfolding find_of lookup_of lookup
  same-find =
      let e = N-field b in
      rw (eq-eqb (header_refusal b) 0 g.passes, range-in (pages_of b) root t.page.0 (omega (arith, t.page.1)), range-in (file_of b).N root t.page.0 t.page.1)
      (below g t (bias_of row) level_limit 1 root (sure-root (file_of b) d g.good root t.page t.kind t.table) (g.good.rule_25 root t.page t.kind))

  pub find-finds : (r : Fo.Found) → r ≡ find_of b root row → Finds b d root row (Shows r) (Nothing r) (Refuses r)
  find-finds r e = finds g t row r (e ∙ same-find)

-- ---- payloads: on a page that payload does not refuse, of any image
module _ (b : List ℕ) (p i room : ℕ) (none : page_fault PayloadPage (page_in b p) (usable_of b) (head_of p) ≡ 0) where
  fits : allowed PayloadPage (page_type (page_in b p) (head_of p)) ≡ true
  fits = ((page-none PayloadPage (page_in b p) (usable_of b) (head_of p)).0 none).0

  cell-fine : i < cell_count (page_in b p) (head_of p) → cell_fault (page_in b p) (usable_of b) (head_of p) i ≡ 0
  cell-fine l =
      let s = ((page-none PayloadPage (page_in b p) (usable_of b) (head_of p)).0 none).1 in
      lies-cell (page_in b p) (usable_of b) (head_of p) i (((sound_none (page_in b p) (usable_of b) (head_of p)).0 s).0 i l)

  same-page : page_quick b p i room ≡ page_fetched b p i room
  unfolding page_quick page_fetched
  same-page = rw (fits, none, count-field b p) (go (true-or-false (ltb i (cell_count (page_in b p) (head_of p)))))
    where
      go : (ltb i (cell_count (page_in b p) (head_of p)) ≡ true) ⊎ (ltb i (cell_count (page_in b p) (head_of p)) ≡ false)
          → cond (ltb i (cell_count (page_in b p) (head_of p)))
          (or_fault (cell_fault (page_in b p) (usable_of b) (head_of p) i) p (cell_fetched (file_of b) p ((file_of b).cell p i) room)) (Fe.Refused 46 0)
          ≡ cond (ltb i (cell_count (page_in b p) (head_of p))) (cell_fetched (file_of b) p ((file_of b).cell p i) room) (Fe.Refused 46 0)
      go (inl y) = rw (y, cell-fine (ltb-true _ _ y))
      go (inr n) = rw n

  pub same-quick : quick_of b p i room ≡ fetched_of b p i room
  unfolding quick_of fetched_of
  same-quick = rw (same-page, N-field b)

-- the types of tree pages whose cells have payloads
family : (place : Place) (t : ℕ) → suits place t ≡ true → (table_type t ≡ true) ⊎ (index_type t ≡ true)
unfolding suits
family schema_root t e = inl e
family any_root t e = ⊎_elim (λ y. inl y) (λ (x : table_type t ≡ false). inr (rw x at e)) (true-or-false (table_type t))
family table_page t e = inl e
family index_page t e = inr e

payload-type : (t : ℕ) → (table_type t ≡ true) ⊎ (index_type t ≡ true) → payload (leaf_type t) (table_type t) ≡ true → allowed PayloadPage t ≡ true
unfolding allowed
payload-type t (inl a) h = ⊎_elim (λ (e : t ≡ 5). absurd (let z : ◌≡◌ {A = ℕ} 0 1 = (let w = rw e at h in cc) in omega arith)) (λ (e : t ≡ 13). rw e) (table-types t a)
payload-type t (inr a) h =
    ⊎_elim (λ (y : eqb t 2 ≡ true). let e = eqb-true t 2 y in rw e) (λ (n : eqb t 2 ≡ false). let e = eqb-true t 10 (rw n at a) in rw e) (true-or-false (eqb t 2))

-- payload_quick answers what payload answers
module _ {b : List ℕ} {d : Dealing} (g : GoodDealing b d) {p i : ℕ} (w : PayloadCell b d p i) (room : ℕ) where
  pub same-payload : quick_of b p i room ≡ fetched_of b p i room
  unfolding is_leaf is_table
  same-payload =
      let t = (file_of b).type p in
      let a : allowed PayloadPage t ≡ true = payload-type t (family (place_of (file_of b) d p) t (g.good.rule_22 p w.in_file w.tree)) w.has in
      same-quick b p i room ((page-none PayloadPage (page_in b p) (usable_of b) (head_of p)).1
      (ap (allowed PayloadPage) (sym (type-field b p)) ∙ a, sym (broken-field b p) ∙ g.good.rule_23_26 p w.in_file w.tree))

-- ---- the entry points' promises, each from the equation
pub good-find : {b : List ℕ} (root : ℕ) (row : ℤ) {r : Fo.Found} → r ≡ find_of b root row
    → record {
      answer : r ≡ find_of b root row;
      good : (d : Dealing) → GoodDealing b d → TableRoot b d root → Finds b d root row (Shows r) (Nothing r) (Refuses r);
    }
good-find root row {r} e = record { answer = e; good = λ d g t. find-finds g t row r e }

pub good-payload : {b : List ℕ} (page cell : ℕ) (out : List ℕ) {out' : List ℕ} {r : Fe.Fetched} → r ≡ quick_of b page cell (length out) → out' ≡ out_of r (payload_of b page cell) out
    → record {
      answer : r ≡ quick_of b page cell (length out);
      buffer : out' ≡ out_of r (payload_of b page cell) out;
      good : (d : Dealing) → GoodDealing b d → PayloadCell b d page cell → Fetches b d page cell out out' (Copied r) (NoRoom r);
    }
good-payload page cell out {out'} {r} e f = record { answer = e; buffer = f; good = λ d g w. fetches g w out out' r (e ∙ same-payload g w (length out)) f }
