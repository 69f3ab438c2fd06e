-- What the code lays: sizes of cells, one cell with its pointer, then the others; header, zeros and cells are the page.
use Prim.Native.Nat.{ℕ, zero, suc, ◌+◌, ◌-◌, ◌*◌, ◌<◌, ◌≤◌}
use mathlib.Core.Path.{◌≡◌, refl, sym, ap, ap₂, subst, ◌∙◌}
use mathlib.Core.Bool.{Bool, true, false, cond}
use mathlib.Core.List.{List, [], ◌∷◌, ◌++◌, append_assoc}
use lib.Dec.{eqb}
use lib.IntN.{ℤ}
use lib.ListN.{length, replicate, length-append, length-replicate}
use native.Mathlib.Omega.{arith}
use borrow.Author.Tests.{eq-eqb}
use Rattle.number.specs.Bytes.{be, word_of}
use Rattle.number.specs.Varint.{varint_size}
use Rattle.paging.specs.Pages.{over}
use Rattle.paging.proofs.PagesLaws.{length_over}
use Rattle.cell.specs.declared.Cell as D
use Rattle.cell.specs.Split.{table_leaf}
use Rattle.cell.specs.Cell.{child_width, cell_at}
use Rattle.cell.proofs.SplitLaws.{local-all}
use Rattle.cell.proofs.CellLaws.{CellRead}
use Rattle.page.specs.Header.{page_type, cell_count, pointer_place, pointer, cell_of}
use Rattle.page.proofs.PageLaws.{Checks, sound-checks}
use Rattle.writing.specs.Cells.{be_bytes, leaf_fields, link_bytes, local_of}
use Rattle.writing.specs.Pages.{header_bytes}
use Rattle.writing.proofs.Standing.{be-length}
use Rattle.writing.proofs.CellsRead.{fields-length, leaf-length}
use Rattle.writing.proofs.OverLaws.{over-over, over_none, two-laid}
use Rattle.writing.proofs.CellsLaid.{over-swap}
use Rattle.setting.specs.Relaid.{cell_part, cell_with, cells_with, stacked, stack_pointers, leaf_room, leaf_page}
use Rattle.setting.specs.Laying.{SoundLeaf, sizes_with, new_cell, cells_anew, stack_laid, MayLay, CellRoom}
use Rattle.setting.proofs.Stack.{Cells, stacked-length, pointers-length}
use Rattle.setting.proofs.LeafLaid.{header-length}
use Rattle.setting.proofs.LeafRelaid.{part-long, cells-length}

-- ---- sizes
pub new-length : (u : ℕ) (row : ℤ) (s : List ℕ) → 480 ≤ u → length s ≤ u - 35 → let m = varint_size (length s) + varint_size (word_of row) + length s in
    length (new_cell u row s) ≡ m + (4 - m)
new-length u row s h l =
    let e : local_of u s ≡ length s = sym (local-all u table_leaf (length s) l) in
    let z : length (link_bytes u s 0) ≡ 0 = ap (λ (t : Bool). length (cond t [] (be_bytes 4 0))) (eq-eqb (local_of u s) (length s) e) in
    let f : length (leaf_fields u row s 0) ≡ varint_size (length s) + varint_size (word_of row) + length s = omega (arith, fields-length u row s 0 h, e, z) in
    leaf-length u row s 0 h ∙ ap (λ m. m + (4 - m)) f

-- as the code has it: the number comes to it as the word of row', which is row
module _ (u : ℕ) (row row' : ℤ) (s : List ℕ) (h : 480 ≤ u) (l : length s ≤ u - 35) (same : row' ≡ row) (bits a b : ℕ) (w : bits ≡ word_of row')
    (e : a ≡ varint_size (length s)) (f : b ≡ varint_size bits) where
  sum : length (new_cell u row s) ≡ a + b + length s + (4 - (a + b + length s))
  sum =
      let z : varint_size (word_of row) ≡ b = sym (f ∙ ap varint_size (w ∙ ap word_of same)) in
      let n : varint_size (length s) + varint_size (word_of row) + length s ≡ a + b + length s = omega arith in
      new-length u row s h l ∙ ap (λ m. m + (4 - m)) n

  pub new-small : a + b + length s < 4 → 4 ≡ length (new_cell u row s)
  new-small k = omega (arith, sum)

  pub new-large : 4 ≤ a + b + length s → a + b + length s ≡ length (new_cell u row s)
  new-large k = omega (arith, sum)

module _ (p : List ℕ) (u : ℕ) (L : SoundLeaf p u) (k : ℕ) (l : k < cell_count p 0) where
  checks : Checks p u 0
  checks = sound-checks p u 0 L.least L.sound

  pub place_is : pointer_place p 0 k ≡ 8 + 2 * k
  place_is = let e : child_width (page_type p 0) ≡ 0 = ap child_width L.type in omega arith

  pub place_in : 8 + 2 * k + 2 ≤ u
  place_in = omega (arith, (checks.cell k l).place, place_is)

  read : CellRead p u (page_type p 0) (pointer p 0 k) (cell_of p u 0 k)
  read = checks.read k l

  pub pointer_is : be 2 p (8 + 2 * k) ≡ pointer p 0 k
  pointer_is = ap (be 2 p) (sym place_is)

  pub size_is : length (cell_part p u k) ≡ (cell_of p u 0 k).end - pointer p 0 k
  size_is =
      part-long p u L.whole L.least L.type L.sound k l
      ∙ ap (λ (c : D.Cell). c.end - pointer p 0 k) (sym (ap (λ t. cell_at p u t (pointer p 0 k)) L.type))

  pub size_in : (pointer p 0 k + length (cell_part p u k) ≤ u) × (4 ≤ length (cell_part p u k))
  size_in = omega (arith, read.least, read.within, size_is)

  -- what the code computes
  module _ (c : D.Cell) (at : ℕ) (is : c ≡ cell_of p u 0 k) (here : at ≡ be 2 p (8 + 2 * k)) where
    pub part-order : at ≤ c.end
    part-order = let e = ap (λ (x : D.Cell). x.end) is in omega (arith, here, pointer_is, read.least)

    pub part-sized : (c.end - at ≡ length (cell_part p u k)) × (c.end - at ≤ 65536)
    part-sized =
        let e = ap (λ (x : D.Cell). x.end) is in
        (omega (arith, here, pointer_is, size_is), omega (arith, read.within, L.most))

  -- a cell's bytes lie in the page
  pub part-within : (at n : ℕ) → at ≡ be 2 p (8 + 2 * k) → n ≡ length (cell_part p u k) → at + n ≤ length p
  part-within at n here e = omega (arith, here, pointer_is, e, size_in, L.whole)

pub place-low : {p : List ℕ} {u k : ℕ} → SoundLeaf p u → k < cell_count p 0 → 8 + 2 * k + 2 ≤ u
place-low {p} {u} {k} L l = place_in p u L k l

pub lies-low : {p : List ℕ} {u k : ℕ} → SoundLeaf p u → k < cell_count p 0 → pointer_place p 0 k + 2 ≤ u
lies-low {p} {u} {k} L l = ((checks p u L k l).cell k l).place

-- the sum: what is left of it
pub record SumLeft (p : List ℕ) (u cell n count sum k : ℕ) : Type 0 where
  pub low : k ≤ count
  pub rest : sum + sizes_with p u cell n k (count - k) ≡ sizes_with p u cell n 0 count
  pub most : sum ≤ 65536 * k

sizes_step : (p : List ℕ) (u cell n i k : ℕ)
    → sizes_with p u cell n i (suc k) ≡ sizes_with p u cell n (i + 1) k + cond (eqb i cell) n (length (cell_part p u i))
unfolding sizes_with
sizes_step p u cell n i k = refl

sizes-none : (p : List ℕ) (u cell n i : ℕ) → sizes_with p u cell n i 0 ≡ 0
unfolding sizes_with
sizes-none p u cell n i = refl

pub sum-on : (p : List ℕ) (u cell n count sum k r : ℕ) → k < count → SumLeft p u cell n count sum k
    → (r ≡ cond (eqb k cell) n (length (cell_part p u k))) × (r ≤ 65536) → SumLeft p u cell n count (sum + r) (k + 1)
sum-on p u cell n count sum k r l w e =
    let a : count - k ≡ suc (count - (k + 1)) = omega arith in
    let b = ap (sizes_with p u cell n k) a ∙ sizes_step p u cell n k (count - (k + 1)) in
    record { low = omega arith; rest = omega (arith, w.rest, b, e.0); most = omega (arith, w.most, e.1) }

pub sum-ends : (p : List ℕ) (u cell n count sum k : ℕ) → count ≤ k → SumLeft p u cell n count sum k
    → (sum ≡ sizes_with p u cell n 0 count) × (sum ≤ 65536 * count)
sum-ends p u cell n count sum k l w =
    let a : count - k ≡ 0 = omega arith in
    let b = ap (sizes_with p u cell n k) a ∙ sizes-none p u cell n k in
    (omega (arith, w.rest, b), omega (arith, w.most, w.low))

-- the sum is how many bytes the cells take
pub sizes-are : (p : List ℕ) (u cell : ℕ) (fresh : List ℕ) (i k : ℕ)
    → length (stacked (cells_with p u cell fresh i k)) ≡ sizes_with p u cell (length fresh) i k
unfolding cells_with sizes_with stacked
sizes-are p u cell fresh i zero = refl
sizes-are p u cell fresh i (suc k) =
    length-append (stacked (cells_with p u cell fresh (i + 1) k)) (cell_with p u cell fresh i)
    ∙ ap₂ ◌+◌ (sizes-are p u cell fresh (i + 1) k) (one (eqb i cell))
  where
    one : (t : Bool) → length (cond t fresh (cell_part p u i)) ≡ cond t (length fresh) (length (cell_part p u i))
    one true = refl
    one false = refl

-- ---- one cell with its pointer, then the others
parts_are : (top : ℕ) (c : List ℕ) (cs : Cells) → (stacked (c ∷ cs) ≡ stacked cs ++ c)
    × (stack_pointers top (c ∷ cs) ≡ be_bytes 2 (top - length c) ++ stack_pointers (top - length c) cs)
unfolding stacked stack_pointers
parts_are top c cs = (refl, refl)

none-are : (top : ℕ) → (stacked [] ≡ []) × (stack_pointers top [] ≡ [])
unfolding stacked stack_pointers
none-are top = (refl, refl)

module _ (b : List ℕ) (p top : ℕ) (c : List ℕ) (cs : Cells) (apart : p + 2 * length (c ∷ cs) + length (stacked (c ∷ cs)) ≤ top) (inside : top ≤ length b) where
  pub stack-on : stack_laid (over (over b p (be_bytes 2 (top - length c))) (top - length c) c) (p + 2) (top - length c) cs ≡ stack_laid b p top (c ∷ cs)
  stack-on =
      let q = top - length c in
      let H = be_bytes 2 q in
      let hl = be-length 2 q in
      let e = parts_are top c cs in
      let P = stack_pointers q cs in
      let pl = pointers-length q cs in
      let S = stacked cs in
      let sl = stacked-length c cs in
      let X = over b p H in
      let xl : length X ≡ length b = length_over b p H (omega arith) in
      let swap : over (over X q c) (p + 2) P ≡ over (over X (p + 2) P) q c =
      sym (over-swap X (p + 2) q P c (omega arith) (omega arith)) in
      let first : over X (p + 2) P ≡ over b p (stack_pointers top (c ∷ cs)) =
      over-over b p (p + 2) H P (omega arith) (omega arith) ∙ ap (over b p) (sym e.1) in
      let Y = over b p (stack_pointers top (c ∷ cs)) in
      let yl : length Y ≡ length b = length_over b p (stack_pointers top (c ∷ cs)) (omega (arith, pointers-length top (c ∷ cs))) in
      let low : q - length S ≡ top - length (stacked (c ∷ cs)) = omega arith in
      ap (λ x. over x (q - length S) S) (swap ∙ ap (λ x. over x q c) first)
      ∙ sym (over-swap Y (q - length S) q S c (omega arith) (omega arith))
      ∙ over-over Y (q - length S) q S c (omega arith) (omega arith)
      ∙ ap₂ (λ a x. over Y a x) low (sym e.0)

pub stack-none : (b : List ℕ) (p top : ℕ) → stack_laid b p top [] ≡ b
stack-none b p top =
    let e = none-are top in
    ap (λ x. over (over b p (stack_pointers top [])) (top - length x) x) e.0 ∙ over_none (over b p (stack_pointers top [])) (top - 0)
    ∙ ap (over b p) e.1 ∙ over_none b p

-- the cells from the kth on are left
pub record StackLeft (goal : List ℕ) (room : ℕ) (p : List ℕ) (u cell : ℕ) (fresh : List ℕ) (count : ℕ) (out : List ℕ) (k top : ℕ) : Type 0 where
  pub low : k ≤ count
  pub long : length out ≡ room
  pub rest : stack_laid out (8 + 2 * k) top (cells_with p u cell fresh k (count - k)) ≡ goal
  pub space : 8 + 2 * count + length (stacked (cells_with p u cell fresh k (count - k))) ≤ top
  pub high : top ≤ u

cells-step : (p : List ℕ) (u cell : ℕ) (fresh : List ℕ) (i k : ℕ)
    → cells_with p u cell fresh i (suc k) ≡ cell_with p u cell fresh i ∷ cells_with p u cell fresh (i + 1) k
unfolding cells_with
cells-step p u cell fresh i k = refl

cells-none : (p : List ℕ) (u cell : ℕ) (fresh : List ℕ) (i : ℕ) → cells_with p u cell fresh i 0 ≡ []
unfolding cells_with
cells-none p u cell fresh i = refl

pub stack-starts : (out p : List ℕ) (u cell : ℕ) (fresh : List ℕ) (count : ℕ) → leaf_room (cells_with p u cell fresh 0 count) ≤ u
    → StackLeft (stack_laid out 8 u (cells_with p u cell fresh 0 count)) (length out) p u cell fresh count out 0 u
stack-starts out p u cell fresh count h =
    let e : cells_with p u cell fresh 0 (count - 0) ≡ cells_with p u cell fresh 0 count = ap (cells_with p u cell fresh 0) (omega arith) in
    record {
      low = omega arith;
      long = refl;
      rest = ap (stack_laid out 8 u) e;
      space = omega (arith, cells-length p u cell fresh 0 count, ap (λ x. length (stacked x)) e);
      high = omega arith;
    }

module _ (goal : List ℕ) (room : ℕ) (p : List ℕ) (u cell : ℕ) (fresh : List ℕ) (count : ℕ) (out : List ℕ) (k top : ℕ)
    (l : k < count) (w : StackLeft goal room p u cell fresh count out k top) (in-room : u ≤ room) where
  abbrev c : List ℕ
  c = cell_with p u cell fresh k

  abbrev cs : Cells
  cs = cells_with p u cell fresh (k + 1) (count - (k + 1))

  now : cells_with p u cell fresh k (count - k) ≡ c ∷ cs
  now = let e : count - k ≡ suc (count - (k + 1)) = omega arith in ap (cells_with p u cell fresh k) e ∙ cells-step p u cell fresh k (count - (k + 1))

  sizes : length (stacked (cells_with p u cell fresh k (count - k))) ≡ length (stacked cs) + length c
  sizes = ap (λ x. length (stacked x)) now ∙ stacked-length c cs

  pub turn-room : 8 + 2 * k + 2 + length c ≤ top
  turn-room = omega (arith, w.space, sizes)

  pub turn_on : (out' : List ℕ) (r : ℕ) → (r ≡ top - length c) × (out' ≡ over (over out (8 + 2 * k) (be_bytes 2 r)) r c)
      → StackLeft goal room p u cell fresh count out' (k + 1) r
  turn_on out' r e =
      let n = cells-length p u cell fresh (k + 1) (count - (k + 1)) in
      let h : 8 + 2 * (k + 1) ≡ 8 + 2 * k + 2 = omega arith in
      let a : length (over out (8 + 2 * k) (be_bytes 2 r)) ≡ length out =
      length_over out (8 + 2 * k) (be_bytes 2 r) (omega (arith, be-length 2 r, w.space, sizes, w.high, w.long)) in
      let z : out' ≡ over (over out (8 + 2 * k) (be_bytes 2 (top - length c))) (top - length c) c =
      e.1 ∙ ap (λ x. over (over out (8 + 2 * k) (be_bytes 2 x)) x c) e.0 in
      record {
        low = omega arith;
        long = ap length e.1 ∙ length_over (over out (8 + 2 * k) (be_bytes 2 r)) r c (omega (arith, a, e.0, w.space, sizes, w.high, w.long)) ∙ a ∙ w.long;
        rest = ap₂ (λ x at. stack_laid x at r cs) z h ∙ ap (λ t. stack_laid (over (over out (8 + 2 * k) (be_bytes 2 (top - length c))) (top - length c) c) (8 + 2 * k + 2) t cs) e.0
            ∙ stack-on out (8 + 2 * k) top c cs (omega (arith, n, w.space, sizes, stacked-length c cs)) (omega (arith, w.high, w.long))
            ∙ ap (stack_laid out (8 + 2 * k) top) (sym now) ∙ w.rest;
        space = omega (arith, e.0, w.space, sizes);
        high = omega (arith, e.0, w.high);
      }

pub stack-ends : (goal : List ℕ) (room : ℕ) (p : List ℕ) (u cell : ℕ) (fresh : List ℕ) (count : ℕ) (out : List ℕ) (k top : ℕ) → count ≤ k
    → StackLeft goal room p u cell fresh count out k top → out ≡ goal
stack-ends goal room p u cell fresh count out k top l w =
    let e : count - k ≡ 0 = omega arith in
    sym (ap (λ x. stack_laid out (8 + 2 * k) top x) (ap (cells_with p u cell fresh k) e ∙ cells-none p u cell fresh k) ∙ stack-none out (8 + 2 * k) top) ∙ w.rest

-- the same as the code has it: count is the page's, and the row number comes as row', which is row
module _ (o p : List ℕ) (u cell : ℕ) (row row' : ℤ) (s : List ℕ) (count : ℕ) (may : MayLay p u cell row s (length o)) (all : count ≡ cell_count p 0)
    (same : row' ≡ row) where
  abbrev Left : List ℕ → (k top : ℕ) → Type 0
  Left out k top = StackLeft (stack_laid o 8 u (cells_anew p u cell row' s)) (length o) p u cell (new_cell u row' s) count out k top

  pub all-starts : Left o 0 u
  all-starts =
      subst (λ n. StackLeft (stack_laid o 8 u (cells_with p u cell (new_cell u row' s) 0 n)) (length o) p u cell (new_cell u row' s) count o 0 u) all
      (stack-starts o p u cell (new_cell u row' s) count
      (subst (λ n. leaf_room (cells_with p u cell (new_cell u row' s) 0 n) ≤ u) (sym all)
      (subst (λ r. leaf_room (cells_anew p u cell r s) ≤ u) (sym same) may.fits)))

  pub all-asks : (out : List ℕ) (k top : ℕ) → k < count → Left out k top → CellRoom p u cell row' s (length out) k top
  all-asks out k top l w =
      record {
        leaf = may.leaf;
        short = may.short;
        index = omega arith;
        low = turn-room (stack_laid o 8 u (cells_anew p u cell row' s)) (length o) p u cell (new_cell u row' s) count out k top l w may.buffer;
        high = omega (arith, w.high, w.long, may.buffer);
        top_in = omega (arith, w.high, may.leaf.most);
      }

  pub all-on : (out : List ℕ) (k top : ℕ) → k < count → Left out k top → (out' : List ℕ) (r : ℕ)
      → (r ≡ top - length (cell_with p u cell (new_cell u row' s) k))
      × (out' ≡ over (over out (8 + 2 * k) (be_bytes 2 r)) r (cell_with p u cell (new_cell u row' s) k)) → Left out' (k + 1) r
  all-on out k top l w = turn_on (stack_laid o 8 u (cells_anew p u cell row' s)) (length o) p u cell (new_cell u row' s) count out k top l w may.buffer

  pub all-ends : (out : List ℕ) (k top : ℕ) → count ≤ k → Left out k top → out ≡ stack_laid o 8 u (cells_anew p u cell row s)
  all-ends out k top l w =
      stack-ends (stack_laid o 8 u (cells_anew p u cell row' s)) (length o) p u cell (new_cell u row' s) count out k top l w
      ∙ ap (λ r. stack_laid o 8 u (cells_anew p u cell r s)) same

-- ---- the page
-- header
header-whole : (count start : ℕ) → (((be_bytes 2 3328 ++ (0 ∷ [])) ++ be_bytes 2 count) ++ be_bytes 2 start) ++ (0 ∷ []) ≡ header_bytes table_leaf count start 0
unfolding header_bytes be_bytes
header-whole count start = refl

pub header-laid : (o o₁ o₂ o₃ o₄ o₅ : List ℕ) (count start : ℕ) → 8 ≤ length o → o₁ ≡ over o 0 (be_bytes 2 3328) → o₂ ≡ over o₁ 2 (replicate 1 0)
    → o₃ ≡ over o₂ 3 (be_bytes 2 count) → o₄ ≡ over o₃ 5 (be_bytes 2 start) → o₅ ≡ over o₄ 7 (replicate 1 0)
    → o₅ ≡ over o 0 (header_bytes table_leaf count start 0)
header-laid o o₁ o₂ o₃ o₄ o₅ count start h a b c d e =
    let A = be_bytes 2 3328 in
    let C = be_bytes 2 count in
    let D = be_bytes 2 start in
    let al = be-length 2 3328 in
    let cl = be-length 2 count in
    let dl = be-length 2 start in
    let two = two-laid o o₁ o₂ 0 2 A (0 ∷ []) a (omega arith) b (omega arith) in
    let t2 : length (A ++ (0 ∷ [])) ≡ 3 = length-append A (0 ∷ []) ∙ omega arith in
    let three = two-laid o o₂ o₃ 0 3 (A ++ (0 ∷ [])) C two (omega arith) c (omega arith) in
    let t3 : length ((A ++ (0 ∷ [])) ++ C) ≡ 5 = length-append (A ++ (0 ∷ [])) C ∙ omega arith in
    let four = two-laid o o₃ o₄ 0 5 ((A ++ (0 ∷ [])) ++ C) D three (omega arith) d (omega arith) in
    let t4 : length (((A ++ (0 ∷ [])) ++ C) ++ D) ≡ 7 = length-append ((A ++ (0 ∷ [])) ++ C) D ∙ omega arith in
    let five = two-laid o o₄ o₅ 0 7 (((A ++ (0 ∷ [])) ++ C) ++ D) (0 ∷ []) four (omega arith) e (omega arith) in
    five ∙ ap (over o 0) (header-whole count start)

-- header, zeros, pointers and cells
module _ (o o₁ o₂ o₃ : List ℕ) (u count start : ℕ) (cs : Cells) (n : length cs ≡ count) (room : leaf_room cs ≤ u) (inside : u ≤ length o)
    (begin : start ≡ u - length (stacked cs)) (a : o₁ ≡ over o 0 (header_bytes table_leaf count start 0))
    (b : o₂ ≡ over o₁ (8 + 2 * count) (replicate (start - 8 - 2 * count) 0)) where
  abbrev H : List ℕ
  H = header_bytes table_leaf count start 0

  abbrev G : List ℕ
  G = replicate (start - 8 - 2 * count) 0

  abbrev P : List ℕ
  P = stack_pointers u cs

  abbrev S : List ℕ
  S = stacked cs

  hl : length H ≡ 8
  hl = header-length count start

  gl : length G ≡ start - 8 - 2 * count
  gl = length-replicate (start - 8 - 2 * count) 0

  pl : length P ≡ 2 * count
  pl = pointers-length u cs ∙ ap (λ k. 2 * k) n

  pub headed-long : length o₁ ≡ length o
  headed-long = ap length a ∙ length_over o 0 H (omega (arith, hl))

  whole-page : H ++ (P ++ (G ++ S)) ≡ leaf_page u cs
  unfolding leaf_page
  whole-page =
      let g : start - 8 - 2 * count ≡ u - leaf_room cs = omega (arith, begin, n) in
      ap₂ (λ k m. header_bytes table_leaf k m 0 ++ (P ++ (replicate (start - 8 - 2 * count) 0 ++ S))) (sym n) begin
      ∙ ap (λ m. header_bytes table_leaf (length cs) (u - length S) 0 ++ (P ++ (replicate m 0 ++ S))) g

  pub page-laid : o₃ ≡ stack_laid o₂ 8 u cs → o₃ ≡ over o 0 (leaf_page u cs)
  page-laid c =
      let swap : over o₂ 8 P ≡ over (over o₁ 8 P) (8 + 2 * count) G =
      ap (λ x. over x 8 P) b ∙ sym (over-swap o₁ 8 (8 + 2 * count) P G (omega (arith, pl)) (omega (arith, gl, headed-long, begin, n))) in
      let hp : over o₁ 8 P ≡ over o 0 (H ++ P) = two-laid o o₁ (over o₁ 8 P) 0 8 H P a (omega (arith, hl)) refl (omega (arith, pl, begin, n)) in
      let l2 : length (H ++ P) ≡ 8 + 2 * count = length-append H P ∙ omega (arith, hl, pl) in
      let hpg : over (over o₁ 8 P) (8 + 2 * count) G ≡ over o 0 ((H ++ P) ++ G) =
      two-laid o (over o₁ 8 P) (over (over o₁ 8 P) (8 + 2 * count) G) 0 (8 + 2 * count) (H ++ P) G hp (omega (arith, l2)) refl
      (omega (arith, gl, begin, n)) in
      let l3 : length ((H ++ P) ++ G) ≡ start = length-append (H ++ P) G ∙ omega (arith, l2, gl, begin, n) in
      let s : u - length S ≡ start = sym begin in
      c ∙ ap₂ (λ x at. over x at S) (swap ∙ hpg) s ∙ over-over o 0 start ((H ++ P) ++ G) S (omega (arith, l3)) (omega (arith, begin))
      ∙ ap (over o 0) (append_assoc (H ++ P) G S ∙ append_assoc H P (G ++ S) ∙ whole-page)

-- the zeros have their place
pub start-bounds : {p : List ℕ} {u cell : ℕ} {row : ℤ} {s : List ℕ} {count start room : ℕ} → MayLay p u cell row s room → count ≡ cell_count p 0
    → start ≡ u - length (stacked (cells_anew p u cell row s)) → (8 + 2 * count ≤ start) × (start ≤ 65536)
start-bounds {p} {u} {cell} {row} {s} may all begin =
    omega (arith, cells-length p u cell (new_cell u row s) 0 (cell_count p 0), all, begin, may.fits, may.leaf.most)

-- the same as the code has it
module _ (o o₁ p : List ℕ) (u cell : ℕ) (row row' : ℤ) (s : List ℕ) (count start : ℕ) (may : MayLay p u cell row s (length o)) (all : count ≡ cell_count p 0)
    (begin : start ≡ u - length (stacked (cells_anew p u cell row s))) (same : row' ≡ row) where
  many : length (cells_anew p u cell row s) ≡ count
  many = cells-length p u cell (new_cell u row s) 0 (cell_count p 0) ∙ sym all

  module _ (a : o₁ ≡ over o 0 (header_bytes table_leaf count start 0)) where
    pub zeros-asks : 8 + 2 * count + (start - 8 - 2 * count) ≤ length o₁
    zeros-asks =
        let h : length o₁ ≡ length o = ap length a ∙ length_over o 0 (header_bytes table_leaf count start 0) (omega (arith, header-length count start, may.buffer, may.leaf.least)) in
        omega (arith, start-bounds may all begin, begin, may.buffer)

    module _ (o₂ : List ℕ) (b : o₂ ≡ over o₁ (8 + 2 * count) (replicate (start - 8 - 2 * count) 0)) where
      pub leaf-whole : (o₃ : List ℕ) → o₃ ≡ stack_laid o₂ 8 u (cells_anew p u cell row' s) → o₃ ≡ over o 0 (leaf_page u (cells_anew p u cell row s))
      leaf-whole o₃ c =
          page-laid o o₁ o₂ o₃ u count start (cells_anew p u cell row s) many may.fits may.buffer begin a b
          (c ∙ ap (λ r. stack_laid o₂ 8 u (cells_anew p u cell r s)) same)
