-- The parts of the image, laid one behind the other.
-- Assumes nothing.
use Prim.Native.Nat.{ℕ, zero, suc, ◌+◌, ◌-◌, ◌*◌, ◌<◌, ◌≤◌}
use mathlib.Core.Path.{◌≡◌, sym, ap, ◌∙◌, subst}
use mathlib.Core.List.{List, [], ◌∷◌, ◌++◌, map}
use mathlib.Core.Logic.{⊎_elim}
use native.Mathlib.Omega.{arith}
use lib.IntN.{ℤ}
use lib.ListN.{length, get_or, length-append}
use Rattle.number.proofs.Cases.{lt-or-ge}
use Rattle.cell.specs.Split.{table_interior, table_leaf}
use Rattle.paging.specs.Pages.{over}
use Rattle.paging.proofs.PagesLaws.{length_over}
use Rattle.writing.specs.Pages.{joined, tree_page, room_for}
use Rattle.writing.specs.Rows.{Row, row_cells, leaf_page, chain_of}
use Rattle.number.specs.Bytes.{part}
use Rattle.writing.proofs.ChainLaws.{chain-sized}
use Rattle.writing.specs.Groups.{Each, group_leaves}
use Rattle.writing.specs.Layout.{size, file_header, schema_row, first_page}
use Rattle.writing.specs.Given.{links_for, rows_from, keys_from, Held}
use Rattle.writing.proofs.OverLaws.{over-on}
use Rattle.writing.proofs.PagesSound.{page-length}
use Rattle.writing.proofs.Fitting.{leaves-fit}
use Rattle.writing.proofs.KeyLaws.{keys-count}
use Rattle.writing.proofs.ImageLaws.{header-size, joined-append}
use Rattle.writing.proofs.Built.{schema-room}
use Rattle.filling.specs.Fill.{total, local_at, links_from, keys_grouped, counts, row_counts, key_counts, inners_from, chains_from}
use Rattle.filling.proofs.Sums.{grouped-bounds}
use Rattle.filling.proofs.Match.{counts-out}
use Rattle.filling.proofs.Loops.{counts-none, counts-more, size-weight, keys-bytes, inners-more, inners-none}
use Rattle.builder.specs.declared.Plan.{Plan}
use Rattle.builder.specs.Plan.{at_least1, Planned, tree_of, pages_of, table_bytes, laid_bytes, ImageRoom}
use Rattle.builder.proofs.PlanLaws.{leaf-count}

-- ---- lengths
inner-page : (keys : List ℕ) (left i t : ℕ) → 1 ≤ left → let c = keys_grouped keys left i in
    length (tree_page 1024 [] table_interior (t + (c - 1)) (keys_from keys (c - 1) i t)) ≡ 1024
inner-page keys left i t h =
    let c = keys_grouped keys left i in
    let b = grouped-bounds keys left i h in
    page-length 1024 [] table_interior (t + (c - 1)) (keys_from keys (c - 1) i t)
    (omega (arith, b.2, size-weight keys (c - 1) i, keys-bytes keys (c - 1) i t, keys-count keys (c - 1) i t))

inners-bytes : (keys : List ℕ) (fuel left i t : ℕ)
    → length (joined (inners_from keys (counts (keys_grouped keys) fuel left i) i t)) ≡ 1024 * length (counts (keys_grouped keys) fuel left i)
inners-bytes keys zero left i t =
    let e = counts-out (keys_grouped keys) left i in
    ap (λ x. length (joined (inners_from keys x i t))) e ∙ ap length (inners-none keys i t) ∙ sym (ap (λ x. 1024 * length x) e)
inners-bytes keys (suc f) left i t =
    ⊎_elim
    (λ (z : left < 1).
    let e = counts-none (keys_grouped keys) (suc f) left i (omega arith) in
    ap (λ x. length (joined (inners_from keys x i t))) e ∙ ap length (inners-none keys i t) ∙ sym (ap (λ x. 1024 * length x) e))
    (λ (z : 1 ≤ left).
    let c = keys_grouped keys left i in
    let e = counts-more (keys_grouped keys) f left i z in
    let rest = counts (keys_grouped keys) f (left - c) (i + c) in
    let p = tree_page 1024 [] table_interior (t + (c - 1)) (keys_from keys (c - 1) i t) in
    ap (λ x. length (joined (inners_from keys x i t))) e ∙ ap length (inners-more keys c rest i t)
    ∙ length-append p (joined (inners_from keys rest (i + c) (t + c)))
    ∙ omega (arith, inner-page keys left i t z, inners-bytes keys f (left - c) (i + c) (t + c), ap (λ x. 1024 * length x) e))
    (lt-or-ge left 1)

leaf-bytes : (gs : List (List Row)) → Each (λ g. room_for 0 table_leaf (row_cells 1024 g) ≤ 1024) gs
    → length (joined (map (leaf_page 1024 []) gs)) ≡ 1024 * length gs
unfolding joined
leaf-bytes [] h = omega arith
leaf-bytes (g ∷ gs) h =
    length-append (leaf_page 1024 [] g) (joined (map (leaf_page 1024 []) gs))
    ∙ omega (arith, page-length 1024 [] table_leaf 0 (row_cells 1024 g) h.0, leaf-bytes gs h.1)

table-bytes : (ns : List ℤ) (ls ps : List ℕ) (t : ℕ) → Held ls ps (length ns) 0 0
    → length (table_bytes ns ls ps t) ≡ 1024 * at_least1 (length (row_counts ns ls))
table-bytes ns ls ps t held =
    let R = rows_from ns ls ps (length ns) 0 0 t in
    leaf-bytes (group_leaves 1024 R) (leaves-fit 1024 (omega arith) R) ∙ ap (λ x. 1024 * x) (leaf-count ns ls ps t held)

first-bytes : (n : ℕ) (schema : List ℕ) → length schema ≤ 911 → length (first_page n schema) ≡ 1024
first-bytes n schema h =
    page-length size (file_header n) table_leaf 0 (row_cells size (schema_row schema ∷ []))
    (subst (λ x. room_for x table_leaf (row_cells size (schema_row schema ∷ [])) ≤ size) (sym (header-size n)) (schema-room schema h))

laid_on : (o o₁ o₂ : List ℕ) (at next : ℕ) (s t : List ℕ) → o₁ ≡ over o at s → next ≡ at + length s → at + length s ≤ length o
    → o₂ ≡ over o₁ next t → o₂ ≡ over o at (s ++ t)
laid_on o o₁ o₂ at next s t e n h g = g ∙ ap (λ x. over x next t) e ∙ over-on o at next s t n h

chains-bytes : (ls ps : List ℕ) (k i off t : ℕ) → length (joined (chains_from ls ps k i off t)) ≡ 1024 * links_from ls k i
unfolding chains_from total joined
chains-bytes ls ps zero i off t = omega arith
chains-bytes ls ps (suc k) i off t =
    let P = get_or ls i 0 in
    let rest = part ps (off + local_at P) (off + P - (off + local_at P)) in
    let H = chain_of size (links_for P) t rest in
    let R = chains_from ls ps k (i + 1) (off + P) (t + links_for P) in
    ap length (joined-append H R) ∙ length-append (joined H) (joined R)
    ∙ omega (arith, chain-sized (links_for P) t rest, chains-bytes ls ps k (i + 1) (off + P) (t + links_for P))

-- ---- the whole
module _ (schema : List ℕ) (ns : List ℤ) (ls ps keys tops : List ℕ) (room : ℕ) (p : Plan) (h : ImageRoom schema ns ls ps keys tops room p) where
  abbrev plan : Planned ns ls keys tops p
  plan = h.planned

  all-links : links_from ls (length ls) 0 ≡ p.links
  all-links = ap (λ x. links_from ls x 0) h.sound.same ∙ sym plan.links

  -- the parts are the whole
  pub parts-laid : (o o₁ o₂ o₃ o₄ o₅ : List ℕ) → length o ≡ room → o₁ ≡ over o 0 (first_page (pages_of p) schema)
      → o₂ ≡ over o₁ 1024 (joined (inners_from tops (key_counts tops p.high) 0 3))
      → o₃ ≡ over o₂ (1024 * (1 + p.roots)) (joined (inners_from keys (key_counts keys p.low) 0 (2 + p.roots + p.inners)))
      → o₄ ≡ over o₃ (1024 * (1 + p.roots + p.inners)) (table_bytes ns ls ps (2 + tree_of p))
      → o₅ ≡ over o₄ (1024 * (1 + tree_of p)) (joined (chains_from ls ps (length ls) 0 0 (2 + tree_of p)))
      → o₅ ≡ over o 0 (laid_bytes schema ns ls ps keys tops p)
  parts-laid o o₁ o₂ o₃ o₄ o₅ same a b c d e =
      let F = first_page (pages_of p) schema in
      let A = joined (inners_from tops (key_counts tops p.high) 0 3) in
      let B = joined (inners_from keys (key_counts keys p.low) 0 (2 + p.roots + p.inners)) in
      let M = table_bytes ns ls ps (2 + tree_of p) in
      let D = joined (chains_from ls ps (length ls) 0 0 (2 + tree_of p)) in
      let fl : length F ≡ 1024 = first-bytes (pages_of p) schema h.short in
      let al : length A ≡ 1024 * p.roots = inners-bytes tops p.high p.high 0 3 ∙ ap (λ x. 1024 * x) (sym h.roots_are) in
      let bl : length B ≡ 1024 * p.inners =
      inners-bytes keys p.low p.low 0 (2 + p.roots + p.inners) ∙ ap (λ x. 1024 * x) (sym plan.inners) in
      let ml : length M ≡ 1024 * p.leaves = table-bytes ns ls ps (2 + tree_of p) h.held ∙ ap (λ x. 1024 * x) (sym plan.leaves) in
      let w : (1 + (p.roots + p.inners + p.leaves) + p.links) * 1024 ≤ room = h.whole in
      let l₁ : length o₁ ≡ room = ap length a ∙ length_over o 0 F (omega arith) ∙ same in
      let l₂ : length o₂ ≡ room = ap length b ∙ length_over o₁ 1024 A (omega arith) ∙ l₁ in
      let l₃ : length o₃ ≡ room = ap length c ∙ length_over o₂ (1024 * (1 + p.roots)) B (omega arith) ∙ l₂ in
      let md : o₅ ≡ over o₃ (1024 * (1 + p.roots + p.inners)) (M ++ D) =
      laid_on o₃ o₄ o₅ (1024 * (1 + p.roots + p.inners)) (1024 * (1 + tree_of p)) M D d (omega arith) (omega arith) e in
      let bmd : o₅ ≡ over o₂ (1024 * (1 + p.roots)) (B ++ (M ++ D)) =
      laid_on o₂ o₃ o₅ (1024 * (1 + p.roots)) (1024 * (1 + p.roots + p.inners)) B (M ++ D) c (omega arith) (omega arith) md in
      let abmd : o₅ ≡ over o₁ 1024 (A ++ (B ++ (M ++ D))) =
      laid_on o₁ o₂ o₅ 1024 (1024 * (1 + p.roots)) A (B ++ (M ++ D)) b (omega arith) (omega arith) bmd in
      laid_on o o₁ o₅ 0 1024 F (A ++ (B ++ (M ++ D))) a (omega arith) (omega arith) abmd

  pub laid-length : length (laid_bytes schema ns ls ps keys tops p) ≡ pages_of p * 1024
  laid-length =
      let F = first_page (pages_of p) schema in
      let A = joined (inners_from tops (key_counts tops p.high) 0 3) in
      let B = joined (inners_from keys (key_counts keys p.low) 0 (2 + p.roots + p.inners)) in
      let M = table_bytes ns ls ps (2 + tree_of p) in
      let D = joined (chains_from ls ps (length ls) 0 0 (2 + tree_of p)) in
      let al : length A ≡ 1024 * p.roots = inners-bytes tops p.high p.high 0 3 ∙ ap (λ x. 1024 * x) (sym h.roots_are) in
      let bl : length B ≡ 1024 * p.inners =
      inners-bytes keys p.low p.low 0 (2 + p.roots + p.inners) ∙ ap (λ x. 1024 * x) (sym plan.inners) in
      let ml : length M ≡ 1024 * p.leaves = table-bytes ns ls ps (2 + tree_of p) h.held ∙ ap (λ x. 1024 * x) (sym plan.leaves) in
      omega (
        arith,
        length-append F (A ++ (B ++ (M ++ D))),
        length-append A (B ++ (M ++ D)),
        length-append B (M ++ D),
        length-append M D,
        first-bytes (pages_of p) schema h.short,
        chains-bytes ls ps (length ls) 0 0 (2 + tree_of p),
        all-links,
      )
