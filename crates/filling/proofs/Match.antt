-- The pages that the code lays are those of the layout.
--     leaves-match     leaves by their counts are the groups of the rows
--     KidsAt, kids-match     interior pages by the bits of their keys are the groups of the children
--     chains-match     chains by lengths are those of the rows
-- Assumes nothing.
use Prim.Native.Nat.{ℕ, zero, suc, ◌+◌, ◌-◌, ◌<◌, ◌≤◌}
use mathlib.Core.Path.{◌≡◌, refl, sym, ap, ◌∙◌, subst}
use mathlib.Core.Bool.{cond}
use mathlib.Core.List.{List, [], ◌∷◌, ◌++◌, map, append_assoc}
use native.Mathlib.Omega.{arith}
use lib.Dec.{eqb, leb}
use lib.IntN.{ℤ, pos}
use lib.ListN.{length, get_or, take, drop, length-take, length-drop, length-append}
use lib.Seq.{get_or-append-add, drop-drop}
use Rattle.writing.proofs.ChainLaws.{drop-take}
use mathlib.Core.Logic.{⊎_elim}
use Rattle.number.proofs.Cases.{lt-or-ge}
use Rattle.number.specs.Bytes.{part, word_of}
use Rattle.number.specs.Varint.{varint_size, spelling, shortest}
use Rattle.cell.specs.Split.{table_interior, table_leaf}
use Rattle.cell.proofs.SplitLaws.{local-le}
use Rattle.writing.specs.Cells.{be_bytes, child_cell}
use Rattle.writing.specs.Pages.{tree_page}
use Rattle.writing.specs.Rows.{Row, Child, key_cells, chain_of, rest_of, links_of}
use Rattle.writing.specs.Groups.{front, row_weight, row_joins, child_weight, child_joins, group_leaves, group_children}
use Rattle.writing.specs.Layout.{size, with_firsts, chains_of, last_number, last_child, leaf_children, inner_children, child_page, links_all}
use Rattle.writing.specs.Given.{links_for, rows_from, key_bytes, keys_from, Held}
use Rattle.writing.proofs.LeafLaws.{rows_none, rows-count, part_length}
use Rattle.filling.specs.Fill.{sum_from, links_from, more, rows_grouped, key_weight, keys_taken, keys_grouped, counts, lasts}
use Rattle.filling.specs.Fill.{inners_from, leaves_from, chains_from, local_at}
use Rattle.filling.proofs.GroupNext.{behind, leaves-next, behind_one, kids_grouped, children-next}
use Rattle.filling.proofs.Taken.{rows-taken, rows-first, rows_behind}
use Rattle.filling.proofs.Sums.{row-bounds, key-bounds}
use Rattle.filling.proofs.Loops.{counts-more, counts-none, held_first, held-behind, links-are}

-- ---- leaves
abbrev pub rest-of : List Row → List (List Row)
rest-of = behind (row_weight size) (row_joins size)

rest-none : rest-of [] ≡ []
unfolding behind
rest-none = refl

rest_some : (r : Row) (rs : List Row) → rest-of (r ∷ rs) ≡ group_leaves size (r ∷ rs)
unfolding behind group_leaves
rest_some r rs = refl

rest-next : (rows : List Row) → 1 ≤ length rows
    → rest-of rows ≡ take (more (row_weight size) (row_joins size) 0 rows) rows ∷ rest-of (drop (more (row_weight size) (row_joins size) 0 rows) rows)
rest-next [] h = absurd (omega arith)
rest-next (r ∷ rs) h = rest_some r rs ∙ leaves-next (r ∷ rs)

pub rest-is : (rows : List Row) → 1 ≤ length rows → rest-of rows ≡ group_leaves size rows
rest-is [] h = absurd (omega arith)
rest-is (r ∷ rs) h = rest_some r rs

module _ (ns : List ℤ) (ls ps : List ℕ) where
  no-leaves : (fuel n i off t : ℕ) → n ≡ 0 → rest-of (rows_from ns ls ps n i off t) ≡ leaves_from ns ls ps (counts (rows_grouped ns ls) fuel n i) i off t
  unfolding leaves_from
  no-leaves fuel n i off t e =
      ap (λ x. rest-of (rows_from ns ls ps x i off t)) e ∙ ap rest-of (rows_none ns ls ps i off t) ∙ rest-none
      ∙ ap (λ x. leaves_from ns ls ps x i off t) (sym (counts-none (rows_grouped ns ls) fuel n i e))

  pub leaves-match : (fuel m i off t : ℕ) → m ≤ fuel → Held ls ps m i off
      → rest-of (rows_from ns ls ps m i off t) ≡ leaves_from ns ls ps (counts (rows_grouped ns ls) fuel m i) i off t
  unfolding leaves_from
  leaves-match zero n i off t h held = no-leaves 0 n i off t (omega arith)
  leaves-match (suc f) n i off t h held =
      ⊎_elim (λ (z : n < 1). no-leaves (suc f) n i off t (omega arith))
      (λ (z : 1 ≤ n).
      let R = rows_from ns ls ps n i off t in
      let k = more (row_weight size) (row_joins size) 0 R in
      let c = rows_grouped ns ls n i in
      let ke : k ≡ c = rows-taken ns ls ps n i off t 0 held in
      let b = row-bounds ns ls n i c (omega arith) refl in
      let T = t + links_all (rows_from ns ls ps c i off t) in
      let first : take k R ≡ rows_from ns ls ps c i off t = ap (λ x. take x R) ke ∙ rows-first ns ls ps c n i off t b.1 in
      let later : drop k R ≡ rows_from ns ls ps (n - c) (i + c) (off + sum_from ls c i) T =
      ap (λ x. drop x R) ke ∙ rows_behind ns ls ps c n i off t b.1 in
      let te : T ≡ t + links_from ls c i = ap (λ x. t + x) (links-are ns ls ps c i off t (held_first ls ps c n i off b.1 held)) in
      rest-next R (omega (arith, rows-count ns ls ps n i off t)) ∙ ap (λ x. x ∷ rest-of (drop k R)) first
      ∙ ap (λ x. rows_from ns ls ps c i off t ∷ rest-of x) later
      ∙ ap (λ x. rows_from ns ls ps c i off t ∷ rest-of (rows_from ns ls ps (n - c) (i + c) (off + sum_from ls c i) x)) te
      ∙ ap (λ x. rows_from ns ls ps c i off t ∷ x)
      (leaves-match f (n - c) (i + c) (off + sum_from ls c i) (t + links_from ls c i) (omega (arith, b.0)) (held-behind ls ps c n i off b.1 held))
      ∙ ap (λ x. leaves_from ns ls ps x i off t) (sym (counts-more (rows_grouped ns ls) f n i (omega arith)))) (lt-or-ge n 1)

  -- the first pages of the chains are numbered from t on
  pub firsts-given : (k i off s t : ℕ) → with_firsts t (rows_from ns ls ps k i off s) ≡ rows_from ns ls ps k i off t
  unfolding with_firsts rows_from
  firsts-given zero i off s t = refl
  firsts-given (suc k) i off s t =
      let p = part ps off (get_or ls i 0) in
      ap (λ x. record { number = get_or ns i (pos 0); payload = p; first = t } ∷ x)
      (firsts-given k (i + 1) (off + get_or ls i 0) (s + links_of size p) (t + links_of size p))

  -- the last of k rows
  last-given : (k i off t : ℕ) → last_number (rows_from ns ls ps (suc k) i off t) ≡ get_or ns (i + k) (pos 0)
  unfolding last_number rows_from
  last-given zero i off t = let e : i ≡ i + 0 = omega arith in ap (λ x. get_or ns x (pos 0)) e
  last-given (suc k) i off t =
      let e : i + 1 + k ≡ i + suc k = omega arith in
      last-given k (i + 1) (off + get_or ls i 0) (t + links_of size (part ps off (get_or ls i 0))) ∙ ap (λ x. get_or ns x (pos 0)) e

-- ---- chains
local-rest : (ps : List ℕ) (off P l : ℕ) → l ≤ P → drop l (part ps off P) ≡ part ps (off + l) (off + P - (off + l))
local-rest ps off P l h =
    let e : P - l ≡ off + P - (off + l) = omega arith in
    drop-take l P (drop off ps) ∙ ap (take (P - l)) (drop-drop l off ps) ∙ ap (λ x. take x (drop (off + l) ps)) e

pub chains-match : (ns : List ℤ) (ls ps : List ℕ) (k i off t : ℕ) → Held ls ps k i off
    → chains_of (rows_from ns ls ps k i off t) ≡ chains_from ls ps k i off t
unfolding chains_of rows_from chains_from
chains-match ns ls ps zero i off t h = refl
chains-match ns ls ps (suc k) i off t h =
    let P = get_or ls i 0 in
    let p = part ps off P in
    let pl : length p ≡ P = part_length ps off P h.1 in
    let rest : rest_of size p ≡ part ps (off + local_at P) (off + P - (off + local_at P)) =
    ap (λ x. drop (local_at x) p) pl ∙ local-rest ps off P (local_at P) (local-le size table_leaf P (omega arith)) in
    ap (λ x. chain_of size (links_for x) t (rest_of size p) ++ chains_of (rows_from ns ls ps k (i + 1) (off + P) (t + links_for x))) pl
    ∙ ap (λ x. chain_of size (links_for P) t x ++ chains_of (rows_from ns ls ps k (i + 1) (off + P) (t + links_for P))) rest
    ∙ ap (λ x. chain_of size (links_for P) t (part ps (off + local_at P) (off + P - (off + local_at P))) ++ x)
    (chains-match ns ls ps k (i + 1) (off + P) (t + links_for P) h.2)

-- ---- children
-- children on pages from t on, whose keys have the bits from the ith on
abbrev pub KidsAt : List ℕ → (i t : ℕ) → List Child → Type 0
KidsAt keys i t [] = Unit {0}
KidsAt keys i t (c ∷ cs) = (c.page ≡ t) × (word_of c.key ≡ get_or keys i 0) × KidsAt keys (i + 1) (t + 1) cs

key-cell : (c : Child) (t bits : ℕ) → c.page ≡ t → word_of c.key ≡ bits → child_cell c.page c.key ≡ key_bytes t bits
unfolding child_cell
key-cell c t bits e f = ap (λ x. be_bytes 4 x ++ shortest c.key) e ∙ ap (λ x. be_bytes 4 t ++ spelling (varint_size x) x) f

-- children on pages from s on, whose keys have these bits
abbrev pub KidsIn : List ℕ → (s : ℕ) → List Child → Type 0
KidsIn [] s [] = Unit {0}
KidsIn [] s (c ∷ cs) = ⊥
KidsIn (b ∷ bs) s [] = ⊥
KidsIn (b ∷ bs) s (c ∷ cs) = (c.page ≡ s) × (word_of c.key ≡ b) × KidsIn bs (s + 1) cs

pub kids-index : (pre bs post : List ℕ) (s : ℕ) (cs : List Child) → KidsIn bs s cs → KidsAt (pre ++ (bs ++ post)) (length pre) s cs
kids-index pre [] post s [] h = tt
kids-index pre [] post s (c ∷ cs) h = absurd h
kids-index pre (b ∷ bs) post s [] h = absurd h
kids-index pre (b ∷ bs) post s (c ∷ cs) h =
    let e : (pre ++ (b ∷ [])) ++ (bs ++ post) ≡ pre ++ (b ∷ (bs ++ post)) = append_assoc pre (b ∷ []) (bs ++ post) in
    let l : length (pre ++ (b ∷ [])) ≡ length pre + 1 = length-append pre (b ∷ []) in
    let z : length pre + 0 ≡ length pre = omega arith in
    let g : get_or (pre ++ (b ∷ (bs ++ post))) (length pre) 0 ≡ b =
    ap (λ x. get_or (pre ++ (b ∷ (bs ++ post))) x 0) (sym z) ∙ get_or-append-add pre (b ∷ (bs ++ post)) 0 0 in (
      h.0,
      h.1 ∙ sym g,
      subst (λ x. KidsAt x (length pre + 1) (s + 1) cs) e
          (subst (λ x. KidsAt ((pre ++ (b ∷ [])) ++ (bs ++ post)) x (s + 1) cs) l (kids-index (pre ++ (b ∷ [])) bs post (s + 1) cs h.2)),
    )

-- groups with members
abbrev pub Some : List ℕ → Type 0
Some [] = Unit {0}
Some (c ∷ cs) = (1 ≤ c) × Some cs

pub counts-out : (takes : ℕ → ℕ → ℕ) (left i : ℕ) → counts takes 0 left i ≡ []
unfolding counts
counts-out takes left i = refl

pub counts_some : (takes : ℕ → ℕ → ℕ) → ((left i : ℕ) → 1 ≤ left → 1 ≤ takes left i) → (fuel left i : ℕ) → Some (counts takes fuel left i)
counts_some takes some zero left i = subst Some (sym (counts-out takes left i)) tt
counts_some takes some (suc f) left i =
    ⊎_elim (λ (z : left < 1). subst Some (sym (counts-none takes (suc f) left i (omega arith))) tt)
    (λ (z : 1 ≤ left). subst Some (sym (counts-more takes f left i z))
    (some left i z, counts_some takes some f (left - takes left i) (i + takes left i))) (lt-or-ge left 1)

-- the leaves as children
pub leaf_kids : (ns : List ℤ) (ls ps : List ℕ) (cs : List ℕ) (i off t s : ℕ) → Some cs
    → KidsIn (lasts (λ j. word_of (get_or ns j (pos 0))) cs i) s (leaf_children s (leaves_from ns ls ps cs i off t))
unfolding lasts leaves_from leaf_children
leaf_kids ns ls ps [] i off t s h = tt
leaf_kids ns ls ps (zero ∷ cs) i off t s h = absurd (omega (arith, h.0))
leaf_kids ns ls ps (suc k ∷ cs) i off t s h =
    let e : i + k ≡ i + suc k - 1 = omega arith in (
      refl,
      ap word_of (last-given ns ls ps k i off t ∙ ap (λ x. get_or ns x (pos 0)) e),
      leaf_kids ns ls ps cs (i + suc k) (off + sum_from ls (suc k) i) (t + links_from ls (suc k) i) (s + 1) h.1,
    )

pub rest-one : (cs : List Child) → 1 ≤ length cs → behind_one cs ≡ group_children size cs
unfolding behind_one
rest-one [] h = absurd (omega arith)
rest-one (c ∷ cs) h = refl

module _ (keys : List ℕ) where
  kids-taken : (i t used : ℕ) (cs : List Child) → KidsAt keys i t cs → more child_weight (child_joins size) used cs ≡ keys_taken keys (length cs) i used
  unfolding more keys_taken
  kids-taken i t used [] h = refl
  kids-taken i t used (c ∷ cs) h =
      let w : child_weight c ≡ key_weight keys i = ap (λ x. 6 + varint_size x) h.1 in
      ap (λ x. cond (leb used (size - 12)) (suc (more child_weight (child_joins size) (used + x) cs)) 0) w
      ∙ ap (λ x. cond (leb used 1012) (suc x) 0) (kids-taken (i + 1) (t + 1) (used + key_weight keys i) cs h.2)

  kids-grouped : (i t : ℕ) (cs : List Child) → KidsAt keys i t cs → kids_grouped cs ≡ keys_grouped keys (length cs) i
  unfolding keys_grouped
  kids-grouped i t cs h =
      ap (λ x. cond (eqb (length cs - x) 1) (x - 1) x) (kids-taken i t 0 cs h)

  kids-take : (g i t : ℕ) (cs : List Child) → KidsAt keys i t cs → KidsAt keys i t (take g cs)
  kids-take zero i t cs h = tt
  kids-take (suc g) i t [] h = tt
  kids-take (suc g) i t (c ∷ cs) h = (h.0, h.1, kids-take g (i + 1) (t + 1) cs h.2)

  kids-drop : (g i t : ℕ) (cs : List Child) → KidsAt keys i t cs → g ≤ length cs → KidsAt keys (i + g) (t + g) (drop g cs)
  kids-drop zero i t cs h l =
      let e : i + 0 ≡ i = omega arith in
      let f : t + 0 ≡ t = omega arith in
      rw (e, f) h
  kids-drop (suc g) i t [] h l = absurd (omega arith)
  kids-drop (suc g) i t (c ∷ cs) h l =
      let e : i + suc g ≡ i + 1 + g = omega arith in
      let f : t + suc g ≡ t + 1 + g = omega arith in
      rw (e, f) (kids-drop g (i + 1) (t + 1) cs h.2 (omega arith))

  -- all but the last as cells, and the last
  kids-front : (i t : ℕ) (cs : List Child) → KidsAt keys i t cs → 1 ≤ length cs
      → (key_cells (front cs) ≡ keys_from keys (length cs - 1) i t) × ((last_child cs).page ≡ t + (length cs - 1))
      × (word_of (last_child cs).key ≡ get_or keys (i + length cs - 1) 0)
  unfolding front last_child keys_from
  kids-front i t [] h l = absurd (omega arith)
  kids-front i t (c ∷ []) h l =
      let e : i + 1 - 1 ≡ i = omega arith in
      (refl, h.0 ∙ omega arith, h.1 ∙ ap (λ x. get_or keys x 0) (sym e))
  kids-front i t (c ∷ d ∷ cs) h l =
      let r = kids-front (i + 1) (t + 1) (d ∷ cs) h.2 (omega arith) in
      let e : suc (suc (length cs)) - 1 ≡ suc (suc (length cs) - 1) = omega arith in
      let f : i + suc (suc (length cs)) - 1 ≡ i + 1 + suc (length cs) - 1 = omega arith in (
        rw e (ap (λ x. x ∷ key_cells (front (d ∷ cs))) (key-cell c t (get_or keys i 0) h.0 h.1)
            ∙ ap (λ x. key_bytes t (get_or keys i 0) ∷ x) r.0),
        r.1 ∙ omega arith,
        r.2 ∙ ap (λ x. get_or keys x 0) (sym f),
      )

  none_left : behind_one [] ≡ []
  unfolding behind_one
  none_left = refl

  take-length : (g : ℕ) (cs : List Child) → g ≤ length cs → length (take g cs) ≡ g
  take-length g cs h = length-take g cs ∙ omega arith

  -- interior pages, and these as children
  abbrev C : (fuel m i : ℕ) → List ℕ
  C fuel m i = counts (keys_grouped keys) fuel m i

  abbrev Kids : (fuel i t s : ℕ) → List Child → Type 0
  Kids fuel i t s cs =
      (map child_page (behind_one cs) ≡ inners_from keys (C fuel (length cs) i) i t)
      × KidsIn (lasts (λ j. get_or keys j 0) (C fuel (length cs) i) i) s (inner_children s (behind_one cs))

  no_kids : (fuel i t s : ℕ) (cs : List Child) → length cs ≡ 0 → Kids fuel i t s cs
  unfolding inners_from lasts inner_children
  no_kids fuel i t s [] e =
      let z = counts-none (keys_grouped keys) fuel 0 i refl in
      (ap (map child_page) none_left ∙ ap (λ x. inners_from keys x i t) (sym z), rw (z, none_left) tt)
  no_kids fuel i t s (c ∷ cs) e = absurd (omega arith)

  next-kids : (f i t s : ℕ) (xs : List Child) → 1 ≤ length xs → KidsAt keys i t xs
      → Kids f (i + keys_grouped keys (length xs) i) (t + keys_grouped keys (length xs) i) (s + 1) (drop (keys_grouped keys (length xs) i) xs)
      → Kids (suc f) i t s xs
  unfolding inners_from lasts inner_children
  next-kids f i t s xs some k r =
      let n = length xs in
      let g = keys_grouped keys n i in
      let b = key-bounds keys n i g some refl in
      let ge : kids_grouped xs ≡ g = kids-grouped i t xs k in
      let all : behind_one xs ≡ take g xs ∷ behind_one (drop g xs) =
      rest-one xs some ∙ children-next xs ∙ ap (λ x. take x xs ∷ behind_one (drop x xs)) ge in
      let ce = counts-more (keys_grouped keys) f n i some in
      let tl : length (take g xs) ≡ g = take-length g xs b.1 in
      let dl : length (drop g xs) ≡ n - g = length-drop g xs in
      let fr = kids-front i t (take g xs) (kids-take g i t xs k) (omega (arith, tl, b.0)) in
      let page : child_page (take g xs) ≡ tree_page size [] table_interior (t + (g - 1)) (keys_from keys (g - 1) i t) =
      ap (λ x. tree_page size [] table_interior (last_child (take g xs)).page x) (fr.0 ∙ ap (λ x. keys_from keys (x - 1) i t) tl)
      ∙ ap (λ x. tree_page size [] table_interior x (keys_from keys (g - 1) i t)) (fr.1 ∙ ap (λ x. t + (x - 1)) tl) in
      let later : map child_page (behind_one (drop g xs)) ≡ inners_from keys (C f (n - g) (i + g)) (i + g) (t + g) =
      r.0 ∙ ap (λ x. inners_from keys (C f x (i + g)) (i + g) (t + g)) dl in (
        ap (map child_page) all ∙ ap (λ x. x ∷ map child_page (behind_one (drop g xs))) page
            ∙ ap (λ x. tree_page size [] table_interior (t + (g - 1)) (keys_from keys (g - 1) i t) ∷ x) later ∙ ap (λ x. inners_from keys x i t) (sym ce),
        rw (ce, all) (
          refl,
          fr.2 ∙ ap (λ x. get_or keys (i + x - 1) 0) tl,
          subst (λ x.
              KidsIn (lasts (λ j. get_or keys j 0) (C f x (i + g)) (i + g)) (s + 1) (inner_children (s + 1) (behind_one (drop g xs)))) dl r.1,
        ),
      )

  pub kids-match : (fuel i t s : ℕ) (cs : List Child) → length cs ≤ fuel → KidsAt keys i t cs → Kids fuel i t s cs
  kids-match zero i t s cs h k = no_kids 0 i t s cs (omega arith)
  kids-match (suc f) i t s cs h k =
      ⊎_elim (λ (z : length cs < 1). no_kids (suc f) i t s cs (omega arith))
      (λ (z : 1 ≤ length cs).
      let g = keys_grouped keys (length cs) i in
      let b = key-bounds keys (length cs) i g z refl in
      next-kids f i t s cs z k
      (kids-match f (i + g) (t + g) (s + 1) (drop g cs) (omega (arith, length-drop g cs, b.0)) (kids-drop g i t cs k b.1)))
      (lt-or-ge (length cs) 1)
