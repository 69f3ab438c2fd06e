-- Which bytes give a page's answer.
--     checked-below                two pages that agree below u have the same answer: bytes at or past u are never read
--     page-kept, cell-kept, ..     of a page with no 23 and no 26, the bytes between the pointer array and the content start are not read either
-- Assumes nothing.
use mathlib.Core.Path.{◌≡◌, refl, sym, ap, ap₂, ◌∙◌}
use mathlib.Core.Bool.{Bool, true, false, cond, true≢false}
use mathlib.Core.List.{List, [], ◌∷◌}
use mathlib.Core.Logic.{◌⊎◌, inl, inr, ⊎_elim}
use Prim.Native.Nat.{ℕ, zero, suc, ◌+◌, ◌*◌, ◌≤◌, ◌<◌}
use native.Mathlib.Nat.{add-zero}
use native.Mathlib.Omega.{arith}
use borrow.Author.Tests.{ltb-false, eqb-false}
use lib.Dec.{leb, ltb, eqb}
use lib.ListN.{length}
use Rattle.number.specs.Bytes.{byte_at, be}
use Rattle.number.proofs.BeLaws.{be-same}
use Rattle.number.proofs.Cases.{true-or-false}
use Rattle.cell.specs.declared.Cell.{Cell}
use Rattle.cell.specs.Cell.{child_width, cell_at}
use Rattle.cell.proofs.CellParts.{width_some}
use Rattle.cell.proofs.CellLocal.{cell_below, cell-within}
use Rattle.page.specs.declared.Place.{Place}
use Rattle.page.specs.Header.{page_type, first_freeblock, cell_count, content_start, fragment_bytes, right_pointer, pointer_place, array_end, pointer, cell_of}
use Rattle.page.specs.Sound.{Span, span, cell_span, cell_spans, block_next, block_size, Freeblocks, AllWithin, Sound, soundb}
use Rattle.page.specs.Fault.{cell_fault, cells_fault, sound_fault, page_fault, checked_of}
use Rattle.page.proofs.Spans.{within-right}
use Rattle.page.proofs.SoundTest.{test-sound, sound-test, not-sound-test}
use Rattle.page.proofs.PageLaws.{CellLies, sound_none, sound-checks}

unless : (b : Bool) {x y : ℕ} → (b ≡ false → x ≡ y) → cond b 23 x ≡ cond b 23 y
unless true f = refl
unless false f = f refl

-- the ith cell's refusal, on a page of type t
abbrev by_type : List ℕ → (u head i t : ℕ) → ℕ
by_type p u head i t =
    let at = be 2 p (head + 8 + child_width t + 2 * i) in
    cond (ltb u (head + 8 + child_width t + 2 * i + 2)) 23
    (cond (ltb at (content_start p head)) 23 (cond (leb u at) 23 (cell_at p u t at).fault))

-- the header's fields are the same, and so is each byte from the content start to u
pub record Alike (p q : List ℕ) (u head : ℕ) : Type 0 where
  pub type : page_type q head ≡ page_type p head
  pub free : first_freeblock q head ≡ first_freeblock p head
  pub count : cell_count q head ≡ cell_count p head
  pub start : be 2 q (head + 5) ≡ be 2 p (head + 5)
  pub fragments : fragment_bytes q head ≡ fragment_bytes p head
  pub content : (i : ℕ) → content_start p head ≤ i → i < u → byte_at p i ≡ byte_at q i

module _ (p q : List ℕ) (u head : ℕ) where
  place-alike : Alike p q u head → (i : ℕ) → pointer_place q head i ≡ pointer_place p head i
  place-alike a i = ap (λ (t : ℕ). head + 8 + child_width t + 2 * i) a.type

  end-alike : Alike p q u head → array_end q head ≡ array_end p head
  end-alike a = place-alike a (cell_count q head) ∙ ap (pointer_place p head) a.count

  spans-alike : (i k : ℕ) → ((j : ℕ) → j < k → cell_span q u head (i + j) ≡ cell_span p u head (i + j)) → cell_spans q u head i k ≡ cell_spans p u head i k
  unfolding cell_spans
  spans-alike i zero f = refl
  spans-alike i (suc k) f =
      ap₂ ◌∷◌ (rw add-zero at (f 0 (omega arith)))
      (spans-alike (i + 1) k (λ j l. let d : i + suc j ≡ i + 1 + j = omega arith in rw d at (f (suc j) (omega arith))))

  free-alike : Alike p q u head → (at : ℕ) (ss : List Span) → Freeblocks p u at ss → AllWithin (content_start p head) u ss → Freeblocks q u at ss
  free-alike a at [] c w = c
  free-alike a at (s ∷ ss) c w =
      let b = c.0 in
      let f : s.from ≡ at = ap (λ (t : Span). t.from) b.is in
      let n : block_next q at ≡ block_next p at = sym (be-same 2 p q at at (λ i l. a.content (at + i) (omega (arith, w.0.low)) (omega (arith, b.head)))) in
      let z : block_size q at ≡ block_size p at =
      sym (be-same 2 p q (at + 2) (at + 2) (λ i l. a.content (at + 2 + i) (omega (arith, w.0.low)) (omega (arith, b.head)))) in (
        record {
          there = b.there;
          head = b.head;
          size = rw z b.size;
          rises = rw n b.rises;
          is = b.is ∙ ap (λ (k : ℕ). span at (at + k)) (sym z);
        },
        rw n (free-alike a (block_next p at) ss c.1 w.1),
      )

  pub sound-alike : Alike p q u head → ((i : ℕ) → i < cell_count p head → cell_span q u head i ≡ cell_span p u head i) → Sound p u head → Sound q u head
  sound-alike a f s =
      let c : cell_spans q u head 0 (cell_count q head) ≡ cell_spans p u head 0 (cell_count p head) =
      ap (cell_spans q u head 0) a.count ∙ spans-alike 0 (cell_count p head) (λ j l. let d : 0 + j ≡ j = omega arith in rw d (f j l)) in
      record {
        array = rw (end-alike a, a.start) s.array;
        content = rw a.start s.content;
        few = rw a.fragments s.few;
        free = s.free;
        chain = rw a.free
            (free-alike a (first_freeblock p head) s.free s.chain
            (within-right (content_start p head) u (cell_spans p u head 0 (cell_count p head)) s.free s.within));
        within = rw (c, a.start) s.within;
        once = λ j l h. rw c (s.once j (rw a.start at l) h);
        fragments = rw (c, a.start, a.fragments) s.fragments;
      }

module _ (p q : List ℕ) (u head : ℕ) (hp : u ≤ length p) (hq : u ≤ length q) (h : 480 ≤ u) (near : head ≤ 100) where
  -- ---- agreement below u
  module _ (same : (i : ℕ) → i < u → byte_at p i ≡ byte_at q i) where
    alike-below : Alike p q u head
    alike-below =
        record {
          type = sym (same head (omega arith));
          free = sym (be-same 2 p q (head + 1) (head + 1) (λ i l. same (head + 1 + i) (omega arith)));
          count = sym (be-same 2 p q (head + 3) (head + 3) (λ i l. same (head + 3 + i) (omega arith)));
          start = sym (be-same 2 p q (head + 5) (head + 5) (λ i l. same (head + 5 + i) (omega arith)));
          fragments = sym (same (head + 7) (omega arith));
          content = λ i _ l. same i l;
        }

    pointer-below : (i : ℕ) → pointer_place p head i + 2 ≤ u → be 2 q (pointer_place p head i) ≡ pointer p head i
    pointer-below i l =
        sym (be-same 2 p q (pointer_place p head i) (pointer_place p head i) (λ j m. same (pointer_place p head i + j) (omega arith)))

    pub cell-of-below : (i : ℕ) → pointer_place p head i + 2 ≤ u → cell_of q u head i ≡ cell_of p u head i
    cell-of-below i l =
        rw (alike-below.type, pointer-below i l) (cell_below p q u (page_type p head) (pointer p head i) hp hq same)

    span_below : (i : ℕ) → pointer_place p head i + 2 ≤ u → cell_span q u head i ≡ cell_span p u head i
    span_below i l =
        ap₂ span (ap (be 2 q) (place-alike p q u head alike-below i) ∙ pointer-below i l) (ap (λ (c : Cell). c.end) (cell-of-below i l))

    sound-below : Sound p u head → Sound q u head
    sound-below s =
        sound-alike p q u head alike-below (λ i l. span_below i (omega (arith, s.array, s.content))) s

    cell-fault-below : (i : ℕ) → cell_fault q u head i ≡ cell_fault p u head i
    unfolding cell_fault
    cell-fault-below i =
        ap (λ (t : ℕ). by_type q u head i t) alike-below.type
        ∙ unless (ltb u (pointer_place p head i + 2))
        (λ e. rw (alike-below.start, pointer-below i (ltb-false _ _ e), cell_below p q u (page_type p head) (pointer p head i) hp hq same))

    cells-fault-below : (i k : ℕ) → cells_fault q u head i k ≡ cells_fault p u head i k
    unfolding cells_fault
    cells-fault-below i zero = refl
    cells-fault-below i (suc k) = rw (cell-fault-below i, cells-fault-below (i + 1) k)

    right-below : right_pointer q head ≡ right_pointer p head
    right-below =
        rw (alike-below.type, be-same 4 q p (head + 8) (head + 8) (λ i l. sym (same (head + 8 + i) (omega arith))))

module _ (p q : List ℕ) (u head : ℕ) (hp : u ≤ length p) (hq : u ≤ length q) (h : 480 ≤ u) (near : head ≤ 100)
    (same : (i : ℕ) → i < u → byte_at p i ≡ byte_at q i) where
  test_below : soundb q u head ≡ soundb p u head
  test_below =
      ⊎_elim
      (λ e. sound-test q u head (sound-below p q u head hp hq h near same (test-sound p u head e)) ∙ sym e)
      (λ e. not-sound-test q u head (λ s. true≢false (sym (sound-test p u head (sound-below q p u head hq hp h near (λ i l. sym (same i l)) s)) ∙ e)) ∙ sym e)
      (true-or-false (soundb p u head))

  pub sound-fault-below : sound_fault q u head ≡ sound_fault p u head
  unfolding sound_fault
  sound-fault-below =
      rw ((alike-below p q u head hp hq h near same).count, cells-fault-below p q u head hp hq h near same 0 (cell_count p head), test_below)

  pub checked-below : (place : Place) → checked_of place q u head ≡ checked_of place p u head
  unfolding page_fault
  checked-below place =
      let a = alike-below p q u head hp hq h near same in
      rw (sound-fault-below, right-below p q u head hp hq h near same, a.count, a.type)

-- ---- a page with no 23 and no 26, and one that agrees with it but for the bytes between the pointer array and the content start
module _ (p q : List ℕ) (u head : ℕ) (hp : u ≤ length p) (hq : u ≤ length q) (h : 480 ≤ u) (near : head ≤ 100) (z : sound_fault p u head ≡ 0)
    (agree : (i : ℕ) → i < u → (i < array_end p head) ⊎ (content_start p head ≤ i) → byte_at p i ≡ byte_at q i) where
  in_array : (i : ℕ) → i < array_end p head → byte_at p i ≡ byte_at q i
  in_array i l = let k = sound-checks p u head h z in agree i (omega (arith, k.array)) (inl l)

  pub page-alike : Alike p q u head
  page-alike =
      record {
        type = sym (in_array head (omega arith));
        free = sym (be-same 2 p q (head + 1) (head + 1) (λ i l. in_array (head + 1 + i) (omega arith)));
        count = sym (be-same 2 p q (head + 3) (head + 3) (λ i l. in_array (head + 3 + i) (omega arith)));
        start = sym (be-same 2 p q (head + 5) (head + 5) (λ i l. in_array (head + 5 + i) (omega arith)));
        fragments = sym (in_array (head + 7) (omega arith));
        content = λ i l m. agree i m (inr l);
      }

  module _ (i : ℕ) (l : i < cell_count p head) where
    pointer-kept : be 2 q (pointer_place p head i) ≡ pointer p head i
    pointer-kept =
        sym (be-same 2 p q (pointer_place p head i) (pointer_place p head i) (λ j m. in_array (pointer_place p head i + j) (omega arith)))

    pub cell-kept : cell_of q u head i ≡ cell_of p u head i
    cell-kept =
        let k = sound-checks p u head h z in
        let c = k.cell i l in
        rw (page-alike.type, pointer-kept)
        (cell-within p q u (page_type p head) (pointer p head i) hp hq c.fault
        (λ j a b. agree j (omega (arith, (k.read i l).within)) (inr (omega (arith, c.low)))))

    pointer-same : pointer q head i ≡ pointer p head i
    pointer-same = ap (be 2 q) (place-alike p q u head page-alike i) ∙ pointer-kept

    span-kept : cell_span q u head i ≡ cell_span p u head i
    span-kept = ap₂ span pointer-same (ap (λ (c : Cell). c.end) cell-kept)

    lies-kept : CellLies q u head i
    lies-kept =
        let k = sound-checks p u head h z in
        let c = k.cell i l in
        record {
          place = omega (arith, c.place, place-alike p q u head page-alike i);
          low = rw (page-alike.start, pointer-same) c.low;
          below = rw pointer-same c.below;
          fault = rw cell-kept c.fault;
        }

  pub page-kept : sound_fault q u head ≡ 0
  page-kept =
      let k = sound-checks p u head h z in
      (sound_none q u head).1
      (λ i l. lies-kept i (rw page-alike.count at l), sound-alike p q u head page-alike (λ i l. span-kept i l) k.sound)

  pub right_kept : right_pointer q head ≡ right_pointer p head
  right_kept = rw page-alike.type (go (true-or-false (eqb (child_width (page_type p head)) 0)))
    where
      go :
          (eqb (child_width (page_type p head)) 0 ≡ true) ⊎ (eqb (child_width (page_type p head)) 0 ≡ false) →
          cond (eqb (child_width (page_type p head)) 0) 0 (be 4 q (head + 8)) ≡ cond (eqb (child_width (page_type p head)) 0) 0 (be 4 p (head + 8))
      go (inl e) = rw e
      go (inr x) =
          let w : child_width (page_type p head) ≡ 4 = width_some (page_type p head) (eqb-false _ _ x) in
          rw x (be-same 4 q p (head + 8) (head + 8) (λ i l. sym (in_array (head + 8 + i) (omega arith))))
