-- The ways of quick reading, as the code goes.
-- Assumes nothing.
use Prim.Native.Nat.{ℕ, zero, suc, ◌+◌, ◌-◌, ◌*◌, ◌/◌, ◌≤◌, ◌<◌}
use mathlib.Core.Path.{◌≡◌, refl, sym, ap, ◌∙◌, subst}
use mathlib.Core.Bool.{Bool, true, false, cond, not}
use mathlib.Core.Logic.{◌⊎◌, inl, inr, ⊎_elim, ◌≢◌}
use mathlib.Core.List.{List}
use lib.Dec.{eqb, leb, ltb}
use lib.IntN.{ℤ}
use lib.ListN.{length}
use native.Mathlib.Omega.{arith}
use borrow.Author.Tests.{not-true, not-false, eq-eqb, ne_eqb, eqb-true, lt-ltb, le-ltb, le-leb, lt-leb}
use Rattle.number.specs.Bytes.{be, biased, bias_of}
use Rattle.number.specs.Varint.{varint_at, varint_length}
use Rattle.number.specs.declared.Word.{Word}
use Rattle.number.proofs.Cases.{true-or-false}
use Rattle.number.proofs.VarintLaws.{varint-whole}
use Rattle.header.specs.declared.Header.{Header}
use Rattle.std.specs.Prelude.{Option, Some, None}
use Rattle.refusal.specs.declared.Rule.{Rule}
use Rattle.refusal.specs.declared.Rule as R
use Rattle.refusal.specs.declared.Refusal.{Refusal}
use Rattle.refusal.specs.Rule.{number_of}
use Rattle.refusal.proofs.Laws.{number-some}
use Rattle.header.specs.Header.{usable_of, pages_of, page_of}
use Rattle.cell.specs.declared.Cell.{Cell}
use Rattle.cell.specs.Cell.{child_width, cell_at}
use Rattle.cell.proofs.CellLaws.{cell-read}
use Rattle.page.specs.declared.Place.TheVariants.{PayloadPage}
use Rattle.page.specs.Header.{page_type, cell_count, content_start, is_table, pointer_place, pointer, cell_of}
use Rattle.page.specs.Place.{allowed}
use Rattle.page.specs.Fault.{cell_fault}
use Rattle.page.proofs.PageLaws.{cell_lies, Known, cell-known}
use Rattle.dealing.specs.File.{level_limit}
use Rattle.dealing.specs.Walk.{in_range}
use Rattle.image.specs.Pages.{page_in, head_of, cell_in}
use Rattle.image.specs.Image.{file_of}
use Rattle.image.specs.Ready.{PageAt}
use Rattle.image.proofs.Shape.{shape}
use Rattle.image.proofs.Tree.{page_is}
use Rattle.lookup.specs.Found as Fo
use Rattle.lookup.specs.Fetched as Fe
use Rattle.lookup.specs.Answers.{cell_fetched, or_fault}
use Rattle.lookup.specs.Ready.{CellOn, opening_refusal}
use Rattle.lookup.proofs.Ways.{opening-lost, opening-passes, opening-there}
use Rattle.quick.specs.Step as St
use Rattle.quick.specs.Search.{row_word, no_word, row_seen, ends, stops, halve, or_refused, sought_in, cell_step, end_step, step_at, page_step}
use Rattle.quick.specs.Answers.{stepped, find_page, find_of, page_quick, quick_of}
use Rattle.quick.specs.Ready.{Readable, Opened, start_of, Looked, Picked, PickRefused}

-- ---- where a cell begins
module _ (p : List ℕ) (u head kind start first : ℕ) (o : Opened p u head kind start first) (i : ℕ) where
  place_is : first + 2 * i ≡ pointer_place p head i
  place_is = omega (arith, o.array)

  pub start-past : u < first + 2 * i + 2 → None ≡ start_of p u head i
  unfolding start_of
  start-past h = rw (lt-ltb u (pointer_place p head i + 2) (omega (arith, place_is)))

  module _ (inside : first + 2 * i + 2 ≤ u) (at : ℕ) (read : at ≡ be 2 p (first + 2 * i)) where
    at-is : at ≡ pointer p head i
    at-is = read ∙ ap (be 2 p) place_is

    before : ltb u (pointer_place p head i + 2) ≡ false
    before = le-ltb u (pointer_place p head i + 2) (omega (arith, place_is))

    pub start-low : at < start → None ≡ start_of p u head i
    unfolding start_of
    start-low h = rw (before, lt-ltb (pointer p head i) (content_start p head) (rw (at-is, o.content) at h))

    module _ (low : start ≤ at) where
      from_start : ltb (pointer p head i) (content_start p head) ≡ false
      from_start = le-ltb (pointer p head i) (content_start p head) (rw (at-is, o.content) at low)

      pub start-high : u ≤ at → None ≡ start_of p u head i
      unfolding start_of
      start-high h = rw (before, from_start, le-leb u (pointer p head i) (rw at-is at h))

      pub start-at : at < u → Some at ≡ start_of p u head i
      unfolding start_of
      start-at h = rw (before, from_start, lt-leb u (pointer p head i) (rw at-is at h), at-is)

-- ---- one cell
-- its refusal, and its row number, by where it begins
abbrev fault_at : List ℕ → (u head : ℕ) → Option ℕ → ℕ
fault_at p u head None = 23
fault_at p u head (Some at) = (cell_at p u (page_type p head) at).fault

abbrev word_at : List ℕ → (u head : ℕ) → Option ℕ → Word
word_at p u head None = no_word
word_at p u head (Some at) = row_word p u (page_type p head) at

module _ (p : List ℕ) (u head i : ℕ) where
  fault-by : cell_fault p u head i ≡ fault_at p u head (start_of p u head i)
  unfolding cell_fault start_of
  fault-by = go (ltb u (pointer_place p head i + 2)) (ltb (pointer p head i) (content_start p head)) (leb u (pointer p head i))
    where
      go : (x y z : Bool) → cond x 23 (cond y 23 (cond z 23 (cell_of p u head i).fault)) ≡ fault_at p u head (cond x None (cond y None (cond z None (Some (pointer p head i)))))
      go true y z = refl
      go false true z = refl
      go false false true = refl
      go false false false = refl

  word-by : row_seen p u head i ≡ word_at p u head (start_of p u head i)
  unfolding row_seen start_of
  word-by = go (ltb u (pointer_place p head i + 2)) (ltb (pointer p head i) (content_start p head)) (leb u (pointer p head i))
    where
      go : (x y z : Bool) → cond x no_word (cond y no_word (cond z no_word (row_word p u (page_type p head) (pointer p head i))))
          ≡ word_at p u head (cond x None (cond y None (cond z None (Some (pointer p head i)))))
      go true y z = refl
      go false true z = refl
      go false false true = refl
      go false false false = refl

  start-points : (at : ℕ) → Some at ≡ start_of p u head i → at ≡ pointer p head i
  unfolding start_of
  start-points at e = go (ltb u (pointer_place p head i + 2)) (ltb (pointer p head i) (content_start p head)) (leb u (pointer p head i)) e
    where
      go : (x y z : Bool) → Some at ≡ cond x None (cond y None (cond z None (Some (pointer p head i)))) → at ≡ pointer p head i
      go true y z e = absurd (let z : ◌≡◌ {A = ℕ} 0 1 = cc in omega arith)
      go false true z e = absurd (let z : ◌≡◌ {A = ℕ} 0 1 = cc in omega arith)
      go false false true e = absurd (let z : ◌≡◌ {A = ℕ} 0 1 = cc in omega arith)
      go false false false e = cc

module _ (p : List ℕ) (u head kind i : ℕ) (k : kind ≡ page_type p head) where
  pub look-none : None ≡ start_of p u head i → 23 ≡ cell_fault p u head i
  look-none e = ap (fault_at p u head) e ∙ sym (fault-by p u head i)

  pub seen-none : None ≡ start_of p u head i → no_word ≡ row_seen p u head i
  seen-none e = ap (word_at p u head) e ∙ sym (word-by p u head i)

  module _ (at : ℕ) (e : Some at ≡ start_of p u head i) where
    pub seen-word : (w : Word) → w ≡ row_word p u kind at → w ≡ row_seen p u head i
    seen-word w f = f ∙ ap (λ t. row_word p u t at) k ∙ ap (word_at p u head) e ∙ sym (word-by p u head i)

    module _ (c : Cell) (r : c ≡ cell_at p u kind at) where
      pub look-fault : c.fault ≡ cell_fault p u head i
      look-fault = ap (λ (c : Cell). c.fault) r ∙ ap (λ t. (cell_at p u t at).fault) k ∙ ap (fault_at p u head) e ∙ sym (fault-by p u head i)

      pub look-cell : c.fault ≡ 0 → Looked p u head i c
      look-cell z =
          record {
            fault = sym look-fault ∙ z;
            is = r ∙ ap (λ t. cell_at p u t at) k ∙ ap (cell_at p u (page_type p head)) (start-points p u head i at e);
          }

      pub look-other : 480 ≤ u → c.fault ≢ 0 → c.fault ≢ 26 → 23 ≡ cell_fault p u head i
      look-other least n m = go (cell-known p u head least i)
        where
          go : Known (cell_fault p u head i) → 23 ≡ cell_fault p u head i
          go (inl y) = absurd (n (look-fault ∙ y))
          go (inr (inl y)) = sym y
          go (inr (inr y)) = absurd (m (look-fault ∙ y))

-- ---- its row number
module _ (p : List ℕ) (u kind at : ℕ) (w : Word) where
  pub word-inner : kind ≢ 13 → w ≡ varint_at p (at + 4) u → w ≡ row_word p u kind at
  unfolding row_word
  word-inner k e = rw (ne_eqb kind 13 k) e

  module _ (k : kind ≡ 13) (v : Word) (e : v ≡ varint_at p at u) where
    pub word_cut : v.length ≡ 0 → v ≡ row_word p u kind at
    unfolding row_word
    word_cut z = rw (eq-eqb kind 13 k, eq-eqb (varint_length p at u) 0 (sym (ap (λ (x : Word). x.length) e) ∙ z)) e

    pub word-ends : v.length ≢ 0 → at + v.length ≤ u
    word-ends n = let l = ap (λ (x : Word). x.length) e in let h = varint-whole p at u (omega arith) in omega (arith, h.ends)

    pub word-leaf : v.length ≢ 0 → w ≡ varint_at p (at + v.length) u → w ≡ row_word p u kind at
    unfolding row_word
    word-leaf n h =
        let l : v.length ≡ varint_length p at u = ap (λ (x : Word). x.length) e in
        rw (eq-eqb kind 13 k, ne_eqb (varint_length p at u) 0 (λ z. n (l ∙ z)), ← l) h

-- ---- halving
-- how far it is: before a all rows looked at are below x, from z on none is
pub record Halving (p : List ℕ) (u head x n a z : ℕ) : Type 0 where
  pub order : a ≤ z
  pub most : z ≤ n
  pub turns : ℕ
  pub enough : z - a ≤ turns
  pub same : sought_in p u head x ≡ halve p u head x turns a z

pub halving-starts : (p : List ℕ) (u head x n : ℕ) → n ≡ cell_count p head → Halving p u head x n 0 n
halving-starts p u head x n e =
    record {
      order = omega arith;
      most = omega arith;
      turns = cell_count p head;
      enough = omega arith;
      same = ap (halve p u head x (cell_count p head) 0) (sym e);
    }

module _ {p : List ℕ} {u head x n a z : ℕ} (h : Halving p u head x n a z) where
  pub halving-ends : z ≤ a → sought_in p u head x ≡ ends z
  unfolding halve
  halving-ends l = h.same ∙ go h.turns
    where
      go : (k : ℕ) → halve p u head x k a z ≡ ends z
      go zero = refl
      go (suc k) = rw (le-ltb a z l)

  module _ (l : a < z) (i : ℕ) (is : i ≡ a + (z - a) / 2) where
    middle-below : i < z
    middle-below = omega arith

    middle-from : a ≤ i
    middle-from = omega arith

    module _ (w : Word) (e : w ≡ row_seen p u head i) where
      length_is : (row_seen p u head i).length ≡ w.length
      length_is = ap (λ (x : Word). x.length) (sym e)

      bits_are : (row_seen p u head i).bits ≡ w.bits
      bits_are = ap (λ (x : Word). x.bits) (sym e)

      pub halving-stops : w.length ≡ 0 → sought_in p u head x ≡ stops 23
      unfolding halve
      halving-stops k = h.same ∙ go h.turns h.enough
        where
          go : (t : ℕ) → z - a ≤ t → halve p u head x t a z ≡ stops 23
          go zero d = absurd (omega arith)
          go (suc t) d = rw (lt-ltb a z l, ← is, length_is, eq-eqb w.length 0 k)

      module _ (some : w.length ≢ 0) (row : ℕ) (r : row ≡ biased w.bits) where
        half : (t : ℕ) → halve p u head x (suc t) a z ≡ cond (ltb row x) (halve p u head x t (suc i) z) (halve p u head x t a i)
        unfolding halve
        half t = rw (lt-ltb a z l, ← is, length_is, bits_are, ne_eqb w.length 0 some, ← r)

        pub halving-up : row < x → Halving p u head x n (i + 1) z
        halving-up below = go h.turns h.enough h.same
          where
            go : (t : ℕ) → z - a ≤ t → sought_in p u head x ≡ halve p u head x t a z → Halving p u head x n (i + 1) z
            go zero d s = absurd (omega arith)
            go (suc t) d s =
                record {
                  order = let m = middle-below in omega arith;
                  most = omega (arith, h.most);
                  turns = t;
                  enough = let m = middle-from in omega arith;
                  same = s ∙ half t ∙ rw (lt-ltb row x below) (let q : suc i ≡ i + 1 = omega arith in rw q);
                }

        pub halving-down : x ≤ row → Halving p u head x n a i
        halving-down over = go h.turns h.enough h.same
          where
            go : (t : ℕ) → z - a ≤ t → sought_in p u head x ≡ halve p u head x t a z → Halving p u head x n a i
            go zero d s = absurd (omega arith)
            go (suc t) d s =
                record {
                  order = let m = middle-from in omega arith;
                  most = let m = middle-below in omega (arith, h.most);
                  turns = t;
                  enough = let m = middle-below in omega arith;
                  same = s ∙ half t ∙ rw (le-ltb row x over);
                }

-- ---- what a page says
pub opened : {p : List ℕ} {u head kind : ℕ} (start first : ℕ) → Readable p u head kind → start ≡ content_start p head → first ≡ head + 8 + child_width kind → first ≤ 112 → Opened p u head kind start first
opened {p} {u} {head} {kind} start first r s f n =
    record { page = r; content = s; array = (let w = ap child_width r.type in omega arith); near = n }

pub step-refused : (p : List ℕ) (u head x i : ℕ) (rule : Rule) → number_of rule ≡ cell_fault p u head i → St.Refused (number_of rule) ≡ cell_step p u head x i
unfolding cell_step
step-refused p u head x i rule e = rw (← e) (go (number_of rule) (number-some rule) _)
  where
    go : (f : ℕ) → f ≢ 0 → (s : St.Step) → St.Refused f ≡ or_refused f s
    go zero n s = absurd (n refl)
    go (suc f) n s = refl

module _ {p : List ℕ} {u head kind : ℕ} (r : Readable p u head kind) (x i : ℕ) (c : Cell) (w : Looked p u head i c) where
  pub step-child : kind ≢ 13 → St.Child c.child ≡ cell_step p u head x i
  unfolding cell_step
  step-child k = rw (w.fault, ← w.is, ← r.type, ne_eqb kind 13 k)

  pub step_other : kind ≡ 13 → c.row ≢ x → St.Nothing ≡ cell_step p u head x i
  unfolding cell_step
  step_other k n = rw (w.fault, ← w.is, ← r.type, eq-eqb kind 13 k, ne_eqb c.row x n)

  pub step-cell : kind ≡ 13 → c.row ≡ x → St.Cell i c.payload ≡ cell_step p u head x i
  unfolding cell_step
  step-cell k n = rw (w.fault, ← w.is, ← r.type, eq-eqb kind 13 k, eq-eqb c.row x n)

  pub payload-few : c.payload ≤ 65536
  payload-few =
      let v = cell_lies p u head i w.fault in
      let q = cell-read p u (page_type p head) (pointer p head i) r.least v.fault in
      omega (arith, q.limit, ap (λ (c : Cell). c.payload) w.is)

module _ (p : List ℕ) (head kind : ℕ) (e : kind ≡ page_type p head) where
  pub end-leaf : kind ≡ 13 → St.Nothing ≡ end_step p head
  unfolding end_step
  end-leaf k = rw (← e, eq-eqb kind 13 k)

  pub end-inner : is_table kind ≡ true → kind ≢ 13 → (r : ℕ) → r ≡ be 4 p (head + 8) → St.Child r ≡ end_step p head
  unfolding end_step
  end-inner t k r f =
      let five : kind ≡ 5 = ⊎_elim (λ (y : eqb kind 5 ≡ true). eqb-true kind 5 y) (λ (x : eqb kind 5 ≡ false). absurd (k (eqb-true kind 13 (rw x at t)))) (true-or-false (eqb kind 5)) in
      rw (← e, ne_eqb kind 13 k, five, f)

pub table-type : (kind : ℕ) (b : Bool) → b ≡ is_table kind → not b ≡ false → is_table kind ≡ true
table-type kind b h y = sym h ∙ not-false b y

module _ (p : List ℕ) (u head kind : ℕ) (e : kind ≡ page_type p head) (x : ℕ) where
  pub page-22 : (r : Bool) → r ≡ is_table kind → not r ≡ true → St.Refused 22 ≡ page_step p u head x
  unfolding page_step
  page-22 r h y = let t : is_table kind ≡ false = sym h ∙ not-true r y in rw (← e, t)

  module _ (b : Bool) (h : b ≡ is_table kind) (y : not b ≡ false) where
    t : is_table kind ≡ true
    t = sym h ∙ not-false b y

    pub page-stops : (number : ℕ) → sought_in p u head x ≡ stops number → St.Refused number ≡ page_step p u head x
    unfolding page_step step_at
    page-stops number s = rw (← e, t, s)

    module _ (index : ℕ) (s : sought_in p u head x ≡ ends index) (n : ℕ) (c : n ≡ cell_count p head) (r : St.Step) where
      pub page-cell : index < n → r ≡ cell_step p u head x index → r ≡ page_step p u head x
      unfolding page_step step_at
      page-cell l h = rw (← e, t, s, ← c, lt-ltb index n l) h

      pub page-end : n ≤ index → r ≡ end_step p head → r ≡ page_step p u head x
      unfolding page_step step_at
      page-end l h = rw (← e, t, s, ← c, le-ltb index n l) h

-- ---- from page to page
module _ {b : List ℕ} {h : Header} {p : ℕ} (a : PageAt b h p) (x levels : ℕ) where
  pub down-deep : levels ≡ 0 → Fo.Refused 24 p ≡ find_page b x levels p
  unfolding find_page
  down-deep z = rw z

  module _ (some : levels ≢ 0) (s : St.Step) (e : s ≡ page_step (page_in b p) h.usable (head_of p) x) where
    below : find_page b x levels p ≡ stepped (pages_of b) p (find_page b x (levels - 1)) s
    unfolding find_page
    below =
        let k : levels ≡ suc (levels - 1) = omega arith in
        let w = shape a.opened in
        ap (λ l. find_page b x l p) k ∙ one (levels - 1) ∙ ap (stepped (pages_of b) p (find_page b x (levels - 1))) (sym (e ∙ ap (λ u. page_step (page_in b p) u (head_of p) x) w.usable_is))
      where
        one : (l : ℕ) → find_page b x (suc l) p ≡ stepped (pages_of b) p (find_page b x l) (page_step (page_in b p) (usable_of b) (head_of p) x)
        one l = refl

    pub down-refused : (number : ℕ) → s ≡ St.Refused number → Fo.Refused number p ≡ find_page b x levels p
    down-refused number k = sym (below ∙ ap (stepped (pages_of b) p (find_page b x (levels - 1))) k)

    pub down-nothing : s ≡ St.Nothing → Fo.Nothing ≡ find_page b x levels p
    down-nothing k = sym (below ∙ ap (stepped (pages_of b) p (find_page b x (levels - 1))) k)

    pub down-cell : (i n : ℕ) → s ≡ St.Cell i n → Fo.At p i n ≡ find_page b x levels p
    down-cell i n k = sym (below ∙ ap (stepped (pages_of b) p (find_page b x (levels - 1))) k)

    module _ (t : ℕ) (k : s ≡ St.Child t) where
      child : find_page b x levels p ≡ cond (in_range (pages_of b) t) (find_page b x (levels - 1) t) (Fo.Refused 20 p)
      child = below ∙ ap (stepped (pages_of b) p (find_page b x (levels - 1))) k

      pub down-lost : in_range h.pages t ≡ false → Fo.Refused 20 p ≡ find_page b x levels p
      down-lost out = let w = shape a.opened in sym (child ∙ rw (← w.pages-is, out))

      pub down-child : (r : Fo.Found) → in_range h.pages t ≡ true → r ≡ find_page b x (levels - 1) t → r ≡ find_page b x levels p
      down-child r k g = let w = shape a.opened in g ∙ sym (child ∙ rw (← w.pages-is, k))

-- ---- the answers
module _ (b : List ℕ) (root : ℕ) (row : ℤ) where
  pub find-refused : (rule : Rule) → number_of rule ≡ opening_refusal b root 20 → Fo.Refused (number_of rule) 0 ≡ find_of b root row
  unfolding find_of
  find-refused rule e = opening-lost b root 20 rule e (λ n. Fo.Refused n 0 ≡ find_of b root row) (λ y. rw y) (λ y z. rw (y, z))

  pub root-down : {h : Header} → PageAt b h root → (r : Fo.Found) (x : ℕ) → x ≡ bias_of row → r ≡ find_page b x level_limit root → r ≡ find_of b root row
  unfolding find_of
  root-down a r x q e = rw (opening-passes a, opening-there a, ← q) e

module _ (b : List ℕ) (p i room : ℕ) where
  pub fetch-refused : (rule : Rule) → number_of rule ≡ opening_refusal b p 46 → Fe.Refused (number_of rule) 0 ≡ quick_of b p i room
  unfolding quick_of
  fetch-refused rule e = opening-lost b p 46 rule e (λ n. Fe.Refused n 0 ≡ quick_of b p i room) (λ y. rw y) (λ y z. rw (y, z))

  pub page-there : {h : Header} → PageAt b h p → (r : Fe.Fetched) → r ≡ page_quick b p i room → r ≡ quick_of b p i room
  unfolding quick_of
  page-there a r e = rw (opening-passes a, opening-there a) e

-- ---- the cell whose payload is fetched
module _ (p : List ℕ) (u head q i : ℕ) (e : Refusal) where
  pub pick-22 : allowed PayloadPage (page_type p head) ≡ false → e ≡ record { rule = R.TheVariants.PageType; page = q } → PickRefused p u head q i e
  pick-22 t k = rw (t, k)

  module _ (t : allowed PayloadPage (page_type p head) ≡ true) where
    pub pick-46 : cell_count p head ≤ i → e ≡ record { rule = R.TheVariants.NoSuchPlace; page = 0 } → PickRefused p u head q i e
    pick-46 l k = rw (t, le-ltb i (cell_count p head) l, k)

    pub pick-fault : i < cell_count p head → number_of e.rule ≡ cell_fault p u head i → e.page ≡ q → PickRefused p u head q i e
    pick-fault l k m = rw (t, lt-ltb i (cell_count p head) l, k, m)

module _ {b : List ℕ} {h : Header} {p : ℕ} (a : PageAt b h p) (i room : ℕ) where
  abbrev type : ℕ
  type = page_type (page_in b p) (head_of p)

  abbrev count : ℕ
  count = cell_count (page_in b p) (head_of p)

  pub quick-refused : (e : Refusal) → PickRefused (page_in b p) h.usable (head_of p) p i e → Fe.Refused (number_of e.rule) e.page ≡ page_quick b p i room
  unfolding page_quick
  quick-refused e w = go (true-or-false (allowed PayloadPage type)) (true-or-false (ltb i count))
    where
      pick : PickRefused (page_in b p) (usable_of b) (head_of p) p i e
      pick = subst (λ u. PickRefused (page_in b p) u (head_of p) p i e) (shape a.opened).usable_is w

      own : (f : ℕ) → Fe.Refused (number_of e.rule) e.page ≡ Fe.Refused f p → (x : Fe.Fetched) → Fe.Refused (number_of e.rule) e.page ≡ or_fault f p x
      own zero k x = absurd (number-some e.rule (let n : number_of e.rule ≡ 0 = cc in n))
      own (suc f) k x = k

      go : (allowed PayloadPage type ≡ true) ⊎ (allowed PayloadPage type ≡ false) → (ltb i count ≡ true) ⊎ (ltb i count ≡ false)
          → Fe.Refused (number_of e.rule) e.page ≡ page_quick b p i room
      go (inr t) l = rw t (rw t at pick)
      go (inl t) (inr l) = rw (t, l) (rw (t, l) at pick)
      go (inl t) (inl l) = rw (t, l) (own (cell_fault (page_in b p) (usable_of b) (head_of p) i) (rw (t, l) at pick) _)

  module _ (c : Cell) (w : Picked (page_in b p) h.usable (head_of p) i c) where
    pub picked-cell : CellOn b h p i c
    unfolding cell_in
    picked-cell =
        let s = shape a.opened in
        let k = ap (λ u. cell_of (page_in b p) u (head_of p) i) s.usable_is in
        record {
          at = a;
          fault = sym (ap (λ (c : Cell). c.fault) k) ∙ (cell_lies (page_in b p) h.usable (head_of p) i w.looked.fault).fault;
          is = w.looked.is ∙ k;
        }

    pub quick-cell : (r : Fe.Fetched) → r ≡ cell_fetched (file_of b) p ((file_of b).cell p i) room → r ≡ page_quick b p i room
    unfolding page_quick
    quick-cell r e =
        let k : cell_fault (page_in b p) (usable_of b) (head_of p) i ≡ 0 = ap (λ u. cell_fault (page_in b p) u (head_of p) i) (sym (shape a.opened).usable_is) ∙ w.looked.fault in
        rw (w.fits, lt-ltb i count w.index, k) e

-- ---- a page of the image
module _ {b : List ℕ} {h : Header} {p : ℕ} (a : PageAt b h p) (q : List ℕ) (head : ℕ) where
  pub ready : length q ≡ h.size → head ≤ 100 → (480 ≤ h.usable) × (h.usable ≤ 65536) × (h.usable ≤ length q) × (head ≤ 100)
  ready e l = let s = shape a.opened in (omega arith, omega arith, omega arith, l)

  module _ (e-page : q ≡ page_of b h.size p) (k : head ≡ head_of p) where
    pub step-page : (x : ℕ) (r : St.Step) → r ≡ page_step q h.usable head x → r ≡ page_step (page_in b p) h.usable (head_of p) x
    step-page x r f = f ∙ ap (λ q. page_step q h.usable head x) (page_is p q a.opened e-page) ∙ ap (λ n. page_step (page_in b p) h.usable n x) k

    pub picked-page : (i : ℕ) (c : Cell) → Picked q h.usable head i c → Picked (page_in b p) h.usable (head_of p) i c
    picked-page i c w = subst (λ n. Picked (page_in b p) h.usable n i c) k (subst (λ q. Picked q h.usable head i c) (page_is p q a.opened e-page) w)

    pub refused-page : (i : ℕ) (e : Refusal) → PickRefused q h.usable head p i e → PickRefused (page_in b p) h.usable (head_of p) p i e
    refused-page i e w = subst (λ n. PickRefused (page_in b p) h.usable n p i e) k (subst (λ q. PickRefused q h.usable head p i e) (page_is p q a.opened e-page) w)
