-- A row set more than once. A record that might have been set may be set behind another one, and the image then is as if it had been set at first: nothing of
-- the one between is left. What has room has room for anything shorter. And where a record may be set, the code sets it.
use Prim.Native.Nat.{ℕ, zero, suc, ◌+◌, ◌-◌, ◌*◌, ◌/◌, ◌≤◌, ◌<◌}
use mathlib.Core.Path.{◌≡◌, refl, sym, ap, ap₂, subst, ◌∙◌}
use mathlib.Core.Bool.{Bool, true, false, cond}
use mathlib.Core.Logic.{◌≢◌, inl, inr, ⊎_elim}
use mathlib.Core.List.{List}
use lib.Dec.{eqb}
use lib.IntN.{ℤ}
use lib.ListN.{length}
use native.Mathlib.Omega.{arith}
use borrow.Author.Tests.{eq-eqb, le-leb}
use Rattle.number.specs.Varint.{size_from}
use Rattle.number.proofs.Cases.{lt-or-ge}
use Rattle.number.proofs.SpellingLaws.{size-end, size-done, size-more, size-bounds}
use Rattle.paging.specs.Pages.{over}
use Rattle.header.specs.Header.{size_of, usable_of}
use Rattle.record.specs.Record.{reads_of}
use Rattle.cell.specs.Split.{table_leaf, max_local}
use Rattle.cell.specs.Cell.{cell_links}
use Rattle.page.specs.Header.{cell_count}
use Rattle.dealing.specs.File.{Cell}
use Rattle.dealing.specs.Good.{Dealing}
use Rattle.image.specs.Pages.{page_in}
use Rattle.image.specs.Image.{file_of}
use Rattle.image.specs.Payload.{payload_of}
use Rattle.image.specs.Good.{GoodDealing, TableRoot, Carries}
use Rattle.image.proofs.Fields as F
use Rattle.lookup.specs.Found as Fo
use Rattle.lookup.specs.Answers.{lookup_of}
use Rattle.lookup.proofs.Theorems.{finds}
use Rattle.writing.specs.Cells.{leaf_cell}
use Rattle.altered.specs.Answers.{found_in}
use Rattle.altered.proofs.SameHeader as H
use Rattle.altered.proofs.Kept.{images-agree}
use Rattle.setting.specs.Relaid.{cell_part, cells_with, leaf_room, cells_for, leaf_page, relaid, Settable, Sets}
use Rattle.setting.specs.Laying.{sizes_with, new_cell}
use Rattle.setting.specs.Answers.{may_write, fit_for, refusal_for, settled, answer_for, image_for, set_of, image_after, Own}
use Rattle.setting.proofs.Keeps as S
use Rattle.setting.proofs.LeafRelaid.{cells-length}
use Rattle.setting.proofs.LayLaws.{new-length, sizes-are}
use Rattle.setting.proofs.Gone.{cells_same, over-same}
use Rattle.setting.proofs.Quick.{root-there}
use Rattle.setting.proofs.Theorems.{relaid_good}
use Rattle.setting.proofs.Ways.{may-told}

-- ---- after s was set
module _ (b : List ℕ) (d : Dealing) (g : GoodDealing b d) (root page cell : ℕ) (row : ℤ) (s : List ℕ) (R : Settable b d root page cell row s) where
  abbrev c : List ℕ
  c = relaid b page cell row s

  abbrev u : ℕ
  u = usable_of b

  sets : Sets b c d page cell s
  sets = relaid_good b d g root page cell row s R

  -- the other cells are the same bytes
  pub cells-again : (t : List ℕ) → cells_for c page cell row t ≡ cells_for b page cell row t
  cells-again t =
      let laid = S.laid b d g root page cell row s R in
      ap₂ (λ u k. cells_with (page_in c page) u cell (leaf_cell u row t 0) 0 k) (S.usable_is b d g root page cell row s R) laid.count_is
      ∙ cells_same (page_in b page) (page_in c page) u cell (leaf_cell u row t 0) 0 (cell_count (page_in b page) 0) (λ j a l n. laid.part_same j (omega arith) n)

  -- the row is where it was, with the length of s
  pub found_before : lookup_of b root row ≡ Fo.At page cell (length (payload_of b page cell))
  found_before = ((finds g R.table row (lookup_of b root row) refl).shows page cell (length (payload_of b page cell))).1 (R.carries, refl)

  pub found-again : lookup_of c root row ≡ Fo.At page cell (length s)
  found-again =
      sets.places.lookup root (R.table.page, R.table.kind) row ∙ ap (found_in c) found_before ∙ ap (Fo.At page cell) sets.long

  pub table-again : TableRoot c d root
  table-again = root-there b c d g (images-agree b c d g (S.keeps b d g root page cell row s R)) root R.table

  pub carries-again : Carries c d root row page cell
  carries-again = (((finds sets.places.good table-again row (lookup_of c root row) refl).shows page cell (length s)).0 found-again).0

  -- what might have been set may be set
  pub still : (t : List ℕ) → Settable b d root page cell row t → Settable c d root page cell row t
  still t T =
      let same = S.usable_is b d g root page cell row s R in
      record {
        table = table-again;
        other = R.other;
        carries = carries-again;
        number = R.number;
        whole =
            ap (λ (x : Cell). x.links) (F.cell_field c page cell)
            ∙ ap₂ cell_links same (S.cell_is b d g root page cell row s R) ∙ S.no-links b d g root page cell row s R;
        reads = T.reads;
        short = subst (λ u. length t ≤ max_local u table_leaf) (sym same) T.short;
        room = subst (λ cs. leaf_room cs ≤ usable_of c) (sym (cells-again t)) (subst (λ u. leaf_room (cells_for b page cell row t) ≤ u) (sym same) T.room);
      }

  -- and gives what it would have given
  pub over-again : (t : List ℕ) → Settable b d root page cell row t → relaid c page cell row t ≡ relaid b page cell row t
  over-again t T =
      let at = (page - 1) * size_of b in
      let long = S.long b d g root page cell row s R in
      let size_is = H.size-kept b c long (S.header b d g root page cell row s R) in
      let new = leaf_page u (cells_for b page cell row t) in
      let n = S.new-long b d g root page cell row t T in
      ap (λ z. over c ((page - 1) * z) (leaf_page (usable_of c) (cells_for c page cell row t))) size_is
      ∙ ap₂ (λ u cs. over c at (leaf_page u cs)) (S.usable_is b d g root page cell row s R) (cells-again t)
      ∙ over-same b c at new long (S.fits b d g root page cell row t T)
      (λ i h. S.rest b d g root page cell row s R i (⊎_elim (λ l. inl l) (λ (l : at + length new ≤ i). inr (omega arith)) h))

-- ---- room for anything shorter
size_less : (left n a b : ℕ) → a ≤ b → size_from left n a ≤ size_from left n b
size_less zero n a b l = omega (arith, size-end n a, size-end n b)
size_less (suc left) n a b l =
    ⊎_elim
    (λ (h : a < 128). omega (arith, size-done left n a h, size-bounds (suc left) n b))
    (λ (h : 128 ≤ a). omega (arith, size-more left n a h, size-more left n b (omega arith), size_less left (n + 1) (a / 128) (b / 128) (omega arith)))
    (lt-or-ge a 128)

cell-less : (u : ℕ) (row : ℤ) (s t : List ℕ) → 480 ≤ u → length t ≤ u - 35 → length s ≤ length t → length (new_cell u row s) ≤ length (new_cell u row t)
cell-less u row s t h k l =
    omega (arith, new-length u row s h (omega arith), new-length u row t h k, size_less 8 1 (length s) (length t) l)

sizes-less : (p : List ℕ) (u cell n m i k : ℕ) → n ≤ m → sizes_with p u cell n i k ≤ sizes_with p u cell m i k
unfolding sizes_with
sizes-less p u cell n m i zero l = omega arith
sizes-less p u cell n m i (suc k) l = one (eqb i cell) _ _ (sizes-less p u cell n m (i + 1) k l)
  where
    one : (t : Bool) (x y : ℕ) → x ≤ y → x + cond t n (length (cell_part p u i)) ≤ y + cond t m (length (cell_part p u i))
    one true x y h = omega arith
    one false x y h = omega arith

room-less : (p : List ℕ) (u cell : ℕ) (x y : List ℕ) (k : ℕ) → length x ≤ length y → leaf_room (cells_with p u cell x 0 k) ≤ leaf_room (cells_with p u cell y 0 k)
room-less p u cell x y k l =
    omega (
      arith,
      cells-length p u cell x 0 k,
      cells-length p u cell y 0 k,
      sizes-are p u cell x 0 k,
      sizes-are p u cell y 0 k,
      sizes-less p u cell (length x) (length y) 0 k l,
    )

-- where t may be set, a record that is no longer may be
pub shorter : (b : List ℕ) (d : Dealing) → GoodDealing b d → (root page cell : ℕ) (row : ℤ) (s t : List ℕ) → Settable b d root page cell row t
    → length s ≤ length t → reads_of s ≡ true → Settable b d root page cell row s
shorter b d g root page cell row s t T l r =
    let u = usable_of b in
    let used = S.used b d g root page cell row t T in
    let k : length t ≤ u - 35 = T.short in
    let m = room-less (page_in b page) u cell (new_cell u row s) (new_cell u row t) (cell_count (page_in b page) 0) (cell-less u row s t used k l) in
    record {
      table = T.table;
      other = T.other;
      carries = T.carries;
      number = T.number;
      whole = T.whole;
      reads = r;
      short = omega (arith, T.short);
      room = omega (arith, m, T.room);
    }

past_one : (n : ℕ) → 1 ≤ n → n ≢ 1 → 2 ≤ n
past_one n l e = ⊎_elim (λ (h : n < 2). absurd (e (omega arith))) (λ h. h) (lt-or-ge n 2)

-- ---- where it may be set, the code sets it: with a ledger that says the root's kind nothing refuses
module _ (b : List ℕ) (d : Dealing) (g : GoodDealing b d) (ks : List ℕ) (root page cell : ℕ) (row : ℤ) (s : List ℕ) (own : Own b d ks root)
    (R : Settable b d root page cell row s) where
  may-write : may_write ks root page ≡ true
  may-write =
      let p = R.table.page in
      let second = S.second b d g root page cell row s R in
      let low : 2 ≤ root = past_one root p.0 R.other in
      sym (may-told ks root page low (λ e. omega arith)) ∙ eq-eqb _ 1 (own p ∙ R.table.kind)

  pub no-refusal : refusal_for b ks root page cell row s ≡ 0
  unfolding refusal_for fit_for
  no-refusal =
      rw (
        may-write,
        R.reads,
        eq-eqb ((file_of b).cell page cell).links 0 R.whole,
        le-leb (length s) (max_local (usable_of b) table_leaf) R.short,
        le-leb (leaf_room (cells_for b page cell row s)) (usable_of b) R.room,
      )
      refl

  pub set-answers : set_of b ks root row s ≡ record { refusal = 0; found = true; page = page; cell = cell; length = length s }
  unfolding set_of
  set-answers =
      ap (answer_for b ks root row s) (found_before b d g root page cell row s R) ∙ ap (λ k. settled k page cell (length s)) no-refusal

  pub set-image : image_after b ks root row s ≡ relaid b page cell row s
  unfolding image_after
  set-image =
      ap (image_for b ks root row s) (found_before b d g root page cell row s R)
      ∙ ap (λ k. cond (eqb k 0) (relaid b page cell row s) b) no-refusal
