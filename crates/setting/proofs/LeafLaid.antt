-- A table leaf laid with such cells is sound, and has them. (`header-..` stand in writing/proofs/PagesSound.antt too, where they are not `pub`.)
use Prim.Native.Nat.{ℕ, ◌+◌, ◌-◌, ◌*◌, ◌%◌, ◌/◌, ◌<◌, ◌≤◌}
use mathlib.Core.Path.{◌≡◌, refl, ap, ◌∙◌, subst}
use mathlib.Core.List.{List, [], ◌∷◌, ◌++◌}
use native.Mathlib.Nat.{add-zero}
use native.Mathlib.Omega.{arith}
use lib.Dec.{eqb}
use lib.ListN.{length, get_or, replicate, length-append, length-replicate}
use borrow.Author.Tests.{eqb-false, eqb-true}
use Rattle.number.specs.Bytes.{byte_at, be}
use Rattle.number.proofs.BeLaws.{be2-is}
use Rattle.number.proofs.Cases.{by_cond}
use Rattle.number.proofs.VarintReading.{Stands}
use Rattle.cell.specs.declared.Cell as D
use Rattle.cell.specs.Split.{table_leaf}
use Rattle.cell.specs.Cell.{cell_at}
use Rattle.page.specs.Header as H
use Rattle.page.specs.Header.{page_type, first_freeblock, cell_count, content_start, fragment_bytes, pointer_place, pointer, cell_of}
use Rattle.page.specs.Sound.{span, cell_span, cell_spans, AllWithin, Sound}
use Rattle.page.specs.Steps.{total, Falls}
use Rattle.page.specs.Fault.{sound_fault}
use Rattle.page.proofs.PageLaws.{CellLies, sound_none}
use Rattle.page.proofs.Refusals.{falls-sound}
use Rattle.writing.specs.Cells.{be_bytes}
use Rattle.writing.specs.Pages.{header_bytes}
use Rattle.writing.proofs.Standing.{stands-front, stands-past, be-length, be-read}
use Rattle.writing.proofs.PagesSound.{CellBytes, AllCells, all-at}
use Rattle.setting.specs.Relaid.{stacked, stack_pointers, leaf_room, leaf_page}
use Rattle.setting.proofs.Stack.{Cells, stack_place, place-low, place-ends, cell-stands, pointers-length, pointer_read}
use Rattle.setting.proofs.Stack.{stack_spans, spans-within, spans-fall, spans-total, spans-are}

-- ---- the header
pub header-length : (count start : ℕ) → length (header_bytes table_leaf count start 0) ≡ 8
unfolding header_bytes
header-length count start = simp (length-append, be-length) (omega arith)

-- two bytes of a number that has more: its low ones
two-read : (n : ℕ) (b : List ℕ) (at : ℕ) → Stands b at (be_bytes 2 n) → be 2 b at ≡ n % 65536
unfolding be_bytes
two-read n b at s =
    let x : byte_at b (at + 0) ≡ n / 256 % 256 = s 0 (omega arith) in
    let y : byte_at b (at + 1) ≡ n % 256 = s 1 (omega arith) in
    let z : byte_at b at ≡ n / 256 % 256 = rw add-zero at x in
    omega (arith, be2-is b at)

-- a content start of 65536 is written 0
start-read : (n : ℕ) → 0 < n → n ≤ 65536 → H.start_of (n % 65536) ≡ n
start-read n l h =
    by_cond (λ k. k ≡ n) (eqb (n % 65536) 0) 65536 (n % 65536)
    (λ e. omega (arith, eqb-true (n % 65536) 0 e)) (λ e. let x : (n % 65536 ≡ 0 → ⊥) = eqb-false (n % 65536) 0 e in omega arith)

module _ (p : List ℕ) (count start : ℕ) (s : Stands p 0 (header_bytes table_leaf count start 0)) where
  abbrev most : List ℕ
  most = be_bytes 2 count ++ (be_bytes 2 start ++ ((0 ∷ []) ++ []))

  at-type : Stands p 0 ((table_leaf ∷ 0 ∷ 0 ∷ []) ++ most)
  unfolding header_bytes
  at-type = s

  type-stands : Stands p 0 (table_leaf ∷ 0 ∷ 0 ∷ [])
  type-stands = stands-front p 0 (table_leaf ∷ 0 ∷ 0 ∷ []) most at-type

  at_count : Stands p 3 most
  at_count = stands-past p 0 3 (table_leaf ∷ 0 ∷ 0 ∷ []) most refl at-type

  at-start : Stands p 5 (be_bytes 2 start ++ ((0 ∷ []) ++ []))
  at-start = stands-past p 3 2 (be_bytes 2 count) _ (be-length 2 count) at_count

  at-fragments : Stands p 7 ((0 ∷ []) ++ [])
  at-fragments = stands-past p 5 2 (be_bytes 2 start) _ (be-length 2 start) at-start

  header-type : page_type p 0 ≡ table_leaf
  header-type = type-stands 0 (omega arith)

  header-free : first_freeblock p 0 ≡ 0
  header-free =
      let x : byte_at p 1 ≡ 0 = type-stands 1 (omega arith) in
      let y : byte_at p 2 ≡ 0 = type-stands 2 (omega arith) in
      omega (arith, be2-is p 1)

  header-count : count < 65536 → cell_count p 0 ≡ count
  header-count h = be-read 2 count p 3 (omega arith) (stands-front p 3 (be_bytes 2 count) _ at_count)

  header-start : 0 < start → start ≤ 65536 → content_start p 0 ≡ start
  header-start l h = ap H.start_of (two-read start p 5 (stands-front p 5 (be_bytes 2 start) _ at-start)) ∙ start-read start l h

  header-fragments : fragment_bytes p 0 ≡ 0
  header-fragments = at-fragments 0 (omega arith)

-- ---- the page
-- what holds of a page q of at least u bytes that begins with such a page
pub record LeafLaid (q : List ℕ) (u : ℕ) (cs : Cells) : Type 0 where
  pub no-fault : sound_fault q u 0 ≡ 0
  pub type-is : page_type q 0 ≡ table_leaf
  pub count_is : cell_count q 0 ≡ length cs
  pub start_is : content_start q 0 ≡ u - length (stacked cs)
  pub pointer_is : (i : ℕ) → i < length cs → pointer q 0 i ≡ stack_place u cs i
  -- the ith cell stands in its place, and is what is read there
  pub cell_is : (i : ℕ) → i < length cs → cell_of q u 0 i ≡ cell_at q u table_leaf (stack_place u cs i)
  pub stands : (i : ℕ) → i < length cs → Stands q (stack_place u cs i) (get_or cs i [])
  pub ends : (i : ℕ) → i < length cs → stack_place u cs i + length (get_or cs i []) ≤ u

pub leaf-length : (u : ℕ) (cs : Cells) → leaf_room cs ≤ u → length (leaf_page u cs) ≡ u
unfolding leaf_page
leaf-length u cs room = simp (length-append, header-length, pointers-length, length-replicate) (omega arith)

module _ (q : List ℕ) (u : ℕ) (cs : Cells) (most-u : u ≤ 65536) (whole : u ≤ length q)
    (room : leaf_room cs ≤ u) (all : AllCells u table_leaf cs) (laid : Stands q 0 (leaf_page u cs)) where
  abbrev begin : ℕ
  begin = u - length (stacked cs)

  abbrev header : List ℕ
  header = header_bytes table_leaf (length cs) begin 0

  abbrev gap : List ℕ
  gap = replicate (u - leaf_room cs) 0

  at-header : Stands q 0 (header ++ (stack_pointers u cs ++ (gap ++ stacked cs)))
  unfolding leaf_page
  at-header = laid

  at-pointers : Stands q 8 (stack_pointers u cs ++ (gap ++ stacked cs))
  at-pointers = stands-past q 0 8 header _ (header-length (length cs) begin) at-header

  at_gap : Stands q (8 + 2 * length cs) (gap ++ stacked cs)
  at_gap = stands-past q 8 (2 * length cs) (stack_pointers u cs) _ (pointers-length u cs) at-pointers

  at_cells : Stands q begin (stacked cs)
  at_cells =
      let e : 8 + 2 * length cs + (u - leaf_room cs) ≡ begin = omega arith in
      subst (λ at. Stands q at (stacked cs)) e
      (stands-past q (8 + 2 * length cs) (u - leaf_room cs) gap (stacked cs) (length-replicate (u - leaf_room cs) 0) at_gap)

  in-header : Stands q 0 header
  in-header = stands-front q 0 header _ at-header

  has-type : page_type q 0 ≡ table_leaf
  has-type = header-type q (length cs) begin in-header

  has-count : cell_count q 0 ≡ length cs
  has-count = header-count q (length cs) begin in-header (omega arith)

  has-start : content_start q 0 ≡ begin
  has-start = header-start q (length cs) begin in-header (omega arith) (omega arith)

  place_is : (i : ℕ) → pointer_place q 0 i ≡ 8 + 2 * i
  place_is i = rw has-type (omega arith)

  module _ (i : ℕ) (l : i < length cs) where
    bytes : CellBytes u table_leaf (get_or cs i [])
    bytes = all-at u table_leaf cs i l all

    ends-in : stack_place u cs i + length (get_or cs i []) ≤ u
    ends-in = place-ends u cs i (omega arith) l

    in_place : Stands q (stack_place u cs i) (get_or cs i [])
    in_place = cell-stands q u cs i (omega arith) l at_cells

    points : pointer q 0 i ≡ stack_place u cs i
    points =
        ap (be 2 q) (place_is i)
        ∙ pointer_read q u cs 8 i l (omega (arith, ends-in, bytes.least)) (stands-front q 8 (stack_pointers u cs) _ at-pointers)

    cell-at : cell_of q u 0 i ≡ cell_at q u table_leaf (stack_place u cs i)
    cell-at = ap (λ t. cell_at q u t (pointer q 0 i)) has-type ∙ ap (cell_at q u table_leaf) points

    span-is : cell_span q u 0 i ≡ span (stack_place u cs i) (stack_place u cs i + length (get_or cs i []))
    span-is =
        let e : (cell_of q u 0 i).end ≡ stack_place u cs i + length (get_or cs i []) =
        ap (λ (c : D.Cell). c.end) cell-at ∙ bytes.end q (stack_place u cs i) whole ends-in in_place in
        ap (λ a. span a (cell_of q u 0 i).end) points ∙ ap (span (stack_place u cs i)) e

    lies : CellLies q u 0 i
    lies =
        record {
          place = omega (arith, place_is i);
          low = omega (arith, points, has-start, place-low u cs i (omega arith) l);
          below = omega (arith, points, ends-in, bytes.least);
          fault = ap (λ (c : D.Cell). c.fault) cell-at ∙ bytes.fault q (stack_place u cs i) whole ends-in in_place;
        }

  spans : cell_spans q u 0 0 (cell_count q 0) ≡ stack_spans u cs
  spans =
      ap (cell_spans q u 0 0) has-count
      ∙ spans-are q u 0 0 u cs (omega arith) (λ j l. let d : 0 + j ≡ j = omega arith in rw d (span-is j l))

  sound : Sound q u 0
  sound =
      let e = header-fragments q (length cs) begin in-header in
      let within : AllWithin (content_start q 0) u (cell_spans q u 0 0 (cell_count q 0)) =
      rw (spans, has-start) (spans-within begin u u cs (omega arith) (omega arith) (omega arith)) in
      let falls : Falls u (cell_spans q u 0 0 (cell_count q 0)) = rw spans (spans-fall u cs) in
      let sum : total (cell_spans q u 0 0 (cell_count q 0)) ≡ length (stacked cs) = ap total spans ∙ spans-total u cs (omega arith) in
      falls-sound q u 0 (omega (arith, place_is (cell_count q 0), has-count, has-start)) (omega (arith, has-start)) (omega (arith, e))
      (header-free q (length cs) begin in-header) within falls (omega (arith, sum, e, has-start))

  pub leaf-laid : LeafLaid q u cs
  leaf-laid =
      record {
        no-fault = (sound_none q u 0).1 (λ i l. lies i (omega (arith, has-count)), sound);
        type-is = has-type;
        count_is = has-count;
        start_is = has-start;
        pointer_is = points;
        cell_is = cell-at;
        stands = in_place;
        ends = ends-in;
      }
