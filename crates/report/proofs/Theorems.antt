-- The report in good images.
-- Assumes nothing.
use Rattle.std.proofs.Common.{◌≡◌, ℕ, suc, ◌+◌, ◌*◌, ◌%◌, ◌^◌, ◌<◌, ◌≤◌, Bool, true, false, leb, ◌≢◌, List, [], ◌∷◌, length, sym, refl, ap, ◌∙◌, subst, zero-add, arith, leb-false, leb-true}
use mathlib.Core.List.Memᴰ.{head as here}
use mathlib.Core.List.Memᴰ.{tail as there}
use mathlib.Core.List.{Memᴰ as Mem}
use lib.Ieee.{Float}
use Rattle.record.specs.Record.{column_at}
use Rattle.record.specs.declared.Column as Col
use Rattle.std.specs.Prelude.{Result, Ok, Err}
use Rattle.record.specs.declared.NoValue.{NoValue}
use Rattle.record.specs.declared.NoValue.TheVariants.{DoesNotRead, Missing}
use Rattle.header.specs.Header.{header_of, page_limit}
use Rattle.dealing.specs.File.{Page}
use Rattle.dealing.specs.Good.{Dealing, TreePage, LeafCell}
use Rattle.image.specs.Payload.{payload_of}
use Rattle.image.specs.Image.{file_of}
use Rattle.image.specs.Good.{GoodDealing, TableRoot}
use Rattle.image.specs.Ready.{Opened, PageAt}
use Rattle.image.proofs.Shape.{shape}
use Rattle.lookup.specs.Answers.{fetched_of}
use Rattle.lookup.specs.Ready.{TreeAt}
use Rattle.record.proofs.Laws.{reads-column}
use Rattle.image.proofs.Records.{good-reads}
use Rattle.lookup.proofs.Theorems.{opened-image, in_tree, leaf-payload, fetches}
use Rattle.lookup.proofs.Ways.{few-cells}
use Rattle.cursor.specs.Answers.{first_of, step_of}
use Rattle.cursor.specs.Means.{row_in, Lists, Climbs, RowCells}
use Rattle.cursor.specs.Stepped as St
use Rattle.cursor.proofs.Theorems.{first-lists-cells}
use Rattle.report.specs.Summary.{none, added, add_all, told_of, refused_of}
use Rattle.report.specs.Rows.{value_level, if_fetched, level_of, laid_over}
use Rattle.report.specs.Report.{Walked, whole, stopped, and_then, walked, answer_from, report_of, room_of}
use Rattle.report.specs.Means.{if_real, reals_in, HaveRoom, Reports, Tells, Is, Refuses}
use Rattle.report.specs.declared.Summary as Su
use Rattle.report.specs.Reported as Re
use Rattle.report.specs.Level as Le
use Rattle.report.proofs.Few.{Distinct, few}
use Rattle.report.proofs.Walk.{laid-length, left_from, left_of, Standing, first-leaves, row-walks}

-- ---- the count
module _ (b : List ℕ) (column : ℕ) where
  reals-fewer : (ss : List (ℕ × ℕ)) → length (reals_in b column ss) ≤ length ss
  unfolding reals_in
  reals-fewer [] = omega arith
  reals-fewer (s ∷ ss) = go (column_at (payload_of b s.0 s.1) column) (reals-fewer ss)
    where
      go : (v : Result Col.Column NoValue) → length (reals_in b column ss) ≤ length ss → length (if_real v (reals_in b column ss)) ≤ suc (length ss)
      go (Err DoesNotRead) h = omega arith
      go (Err Missing) h = omega arith
      go (Ok Col.TheVariants.Null) h = omega arith
      go (Ok (Col.TheVariants.Int v)) h = omega arith
      go (Ok (Col.TheVariants.Real x)) h = omega arith
      go (Ok (Col.TheVariants.Text p n)) h = omega arith
      go (Ok (Col.TheVariants.Blob p n)) h = omega arith

counted : (met : Bool) (s : Su.Summary) (xs : List Float) → s.count + length xs < 2 ^ 64 → (add_all met s xs).count ≡ s.count + length xs
unfolding add_all added
counted met s [] h = omega arith
counted met s (x ∷ xs) h = go (counted true (added met s x) xs)
  where
    go : ((s.count + 1) % 2 ^ 64 + length xs < 2 ^ 64 → (add_all true (added met s x) xs).count ≡ (s.count + 1) % 2 ^ 64 + length xs)
        → (add_all true (added met s x) xs).count ≡ s.count + suc (length xs)
    go ih = let e : (s.count + 1) % 2 ^ 64 ≡ s.count + 1 = omega arith in let f = ih (omega arith) in omega arith

-- a cell by one number, where a page has at most 65,536 of them
unfoldable codes : List (ℕ × ℕ) → List ℕ
codes [] = []
codes (s ∷ ss) = (s.0 * 65536 + s.1) ∷ codes ss

codes-length : (ss : List (ℕ × ℕ)) → length (codes ss) ≡ length ss
unfolding codes
codes-length [] = refl
codes-length (s ∷ ss) = ap suc (codes-length ss)

code_out : (ss : List (ℕ × ℕ)) (y : ℕ) → Mem y (codes ss) → (q j : ℕ) × Mem (q, j) ss × (y ≡ q * 65536 + j)
unfolding codes
code_out [] y m = elim m [ ]
code_out (s ∷ ss) y (here e) = (s.0, s.1, here refl, e)
code_out (s ∷ ss) y (there m) = let w = code_out ss y m in (w.0, w.1, there w.2, w.3)

abbrev Small : List (ℕ × ℕ) → Type 0
Small ss = (q j : ℕ) → Mem (q, j) ss → j < 65536

codes-distinct : (b : List ℕ) (ss : List (ℕ × ℕ)) → Climbs b ss → Small ss → Distinct (codes ss)
unfolding codes
codes-distinct b [] c small = tt
codes-distinct b (s ∷ ss) c small = (
  λ y m z.
      let w = code_out ss y m in
      let q = w.0 in
      let j = w.1 in
      let l₀ = small s.0 s.1 (here refl) in
      let l₁ = small q j (there w.2) in
      let e : q * 65536 + j ≡ s.0 * 65536 + s.1 = sym w.3 ∙ z in
      let e₀ : q ≡ s.0 = omega arith in
      let e₁ : j ≡ s.1 = omega arith in
      let h = c.0 q j w.2 in
      let k : row_in b q j ≡ row_in b s.0 s.1 = ap (λ q. row_in b q j) e₀ ∙ ap (row_in b s.0) e₁ in
      omega arith,
  codes-distinct b ss c.1 (λ q j m. small q j (there m)),
)

-- ---- a row
then-told : (page : ℕ) (v : Result Col.Column NoValue) → v ≢ (Err DoesNotRead) → (laid room : List ℕ) (xs : List Float) → and_then (value_level page v) laid (whole xs room) ≡ whole (if_real v xs) room
then-told page (Err DoesNotRead) n laid room xs = absurd (n refl)
then-told page (Err Missing) n laid room xs = refl
then-told page (Ok Col.TheVariants.Null) n laid room xs = refl
then-told page (Ok (Col.TheVariants.Int v)) n laid room xs = refl
then-told page (Ok (Col.TheVariants.Real x)) n laid room xs = refl
then-told page (Ok (Col.TheVariants.Text p k)) n laid room xs = refl
then-told page (Ok (Col.TheVariants.Blob p k)) n laid room xs = refl

only-unread : (page : ℕ) (v : Result Col.Column NoValue) (n p : ℕ) → value_level page v ≡ Le.Refused n p → v ≡ (Err DoesNotRead)
only-unread page (Err DoesNotRead) n p e = refl
only-unread page (Err Missing) n p e = absurd (let z : ◌≡◌ {A = ℕ} 0 1 = cc in omega arith)
only-unread page (Ok Col.TheVariants.Null) n p e = absurd (let z : ◌≡◌ {A = ℕ} 0 1 = cc in omega arith)
only-unread page (Ok (Col.TheVariants.Int v)) n p e = absurd (let z : ◌≡◌ {A = ℕ} 0 1 = cc in omega arith)
only-unread page (Ok (Col.TheVariants.Real x)) n p e = absurd (let z : ◌≡◌ {A = ℕ} 0 1 = cc in omega arith)
only-unread page (Ok (Col.TheVariants.Text q k)) n p e = absurd (let z : ◌≡◌ {A = ℕ} 0 1 = cc in omega arith)
only-unread page (Ok (Col.TheVariants.Blob q k)) n p e = absurd (let z : ◌≡◌ {A = ℕ} 0 1 = cc in omega arith)

-- the rows of a list of cells
unfoldable cells_walked : List ℕ → (column : ℕ) → List (ℕ × ℕ) → (room : List ℕ) → Walked
cells_walked b column [] room = whole [] room
cells_walked b column (s ∷ ss) room =
    and_then (level_of b column s.0 s.1 (length room)) (laid_over b s.0 s.1 room) (cells_walked b column ss (laid_over b s.0 s.1 room))

-- ---- in a good image, at a table root
module _ {b : List ℕ} {d : Dealing} (g : GoodDealing b d) {root : ℕ} (t : TableRoot b d root) (column : ℕ) where
  o : Opened b (header_of b)
  o = opened-image b g.passes

  tree-page : (q j : ℕ) → LeafCell (file_of b) d root q j → Page (file_of b) q × TreePage d q
  tree-page q j l = in_tree (file_of b) d root t.page t.kind l.0.0 q l.0.1

  -- the rows are the cells that the cursor lists
  listed-walked : (ss : List (ℕ × ℕ)) (a : St.Stepped) → Lists b d root a ss → (room : List ℕ) → walked b column (left_of b a) room ≡ cells_walked b column ss room
  unfolding walked cells_walked
  listed-walked [] a w room = ap (λ (a : St.Stepped). walked b column (left_of b a) room) w
  listed-walked (s ∷ ss) a w room =
      let here-it : Standing b a.cursor s.0 s.1 =
      record { passes = g.passes; some = w.0.stands.some; stands = w.0.stands.path.1; page_is = w.0.page_is; index_is = w.0.cell_is } in
      ap (λ x. walked b column (left_from b a.cursor x) room) w.0.shown ∙ row-walks b a.cursor here-it column room
      ∙ ap (and_then (level_of b column s.0 s.1 (length room)) (laid_over b s.0 s.1 room)) (listed-walked ss (step_of b a.cursor) w.1 (laid_over b s.0 s.1 room))

  -- 44 without room for the payload, else what the column says
  module _ (q j : ℕ) (l : LeafCell (file_of b) d root q j) (room : List ℕ) where
    -- its record reads
    reads_all : column_at (payload_of b q j) column ≢ (Err DoesNotRead)
    reads_all = reads-column (payload_of b q j) column (good-reads g (leaf-payload t q j l))

    has_room : length (payload_of b q j) ≤ length room → level_of b column q j (length room) ≡ value_level q (column_at (payload_of b q j) column)
    unfolding level_of
    has_room h =
        let w = (fetches g (leaf-payload t q j l) room _ (fetched_of b q j (length room)) refl refl).copied h in
        ap (λ f. if_fetched f (value_level q (column_at (payload_of b q j) column))) w.0

    no_room : length room < length (payload_of b q j) → level_of b column q j (length room) ≡ Le.Refused 44 0
    unfolding level_of
    no_room h =
        let w = (fetches g (leaf-payload t q j l) room _ (fetched_of b q j (length room)) refl refl).no_room h in
        ap (λ f. if_fetched f (value_level q (column_at (payload_of b q j) column))) w.0

  abbrev Leaf : List (ℕ × ℕ) → Type 0
  Leaf ss = (q j : ℕ) → Mem (q, j) ss → LeafCell (file_of b) d root q j

  -- where all have room: the reals in them
  all_told : (ss : List (ℕ × ℕ)) → Leaf ss → (room : List ℕ) → HaveRoom b (length room) ss
      → (room' : List ℕ) × (cells_walked b column ss room ≡ whole (reals_in b column ss) room')
  unfolding cells_walked reals_in
  all_told [] leaf room fit = (room, refl)
  all_told (s ∷ ss) leaf room fit =
      let laid = laid_over b s.0 s.1 room in
      let k = laid-length b s.0 s.1 room in
      let v = column_at (payload_of b s.0 s.1) column in
      let w = all_told ss (λ q j m. leaf q j (there m)) laid (λ q j m. let h = fit q j (there m) in omega arith) in (
        w.0,
        ap (λ l. and_then l laid (cells_walked b column ss laid)) (has_room s.0 s.1 (leaf s.0 s.1 (here refl)) room (fit s.0 s.1 (here refl)))
            ∙ ap (and_then (value_level s.0 v) laid) w.1 ∙ then-told s.0 v (reads_all s.0 s.1 (leaf s.0 s.1 (here refl)) room) laid w.0 (reals_in b column ss),
      )

  -- what stops them
  abbrev Why : (room : ℕ) → List (ℕ × ℕ) → (number page : ℕ) → Type 0
  Why room ss n p = (n ≡ 44) × (p ≡ 0) × ((q j : ℕ) × Mem (q, j) ss × (room < length (payload_of b q j)))

  later : (room room' : ℕ) → room' ≡ room → (s : ℕ × ℕ) (ss : List (ℕ × ℕ)) (n p : ℕ) → Why room' ss n p → Why room (s ∷ ss) n p
  later room room' k s ss n p w = (w.0, w.1, (w.2.0, w.2.1, there w.2.2, (let h = w.2.3 in omega arith)))

  stops : (ss : List (ℕ × ℕ)) → Leaf ss → (room : List ℕ) (n p : ℕ) (room' : List ℕ) → cells_walked b column ss room ≡ stopped n p room' → Why (length room) ss n p
  unfolding cells_walked
  stops [] leaf room n p room' e = absurd (let z : ◌≡◌ {A = ℕ} 0 1 = cc in omega arith)
  stops (s ∷ ss) leaf room n p room' e =
      fits (leb (length (payload_of b s.0 s.1)) (length room)) refl (stops ss (λ q j m. leaf q j (there m)) (laid_over b s.0 s.1 room) n p room')
    where
      q : ℕ
      q = s.0

      j : ℕ
      j = s.1

      laid : List ℕ
      laid = laid_over b s.0 s.1 room

      rest : Walked
      rest = cells_walked b column ss laid

      Later : Type 0
      Later = rest ≡ stopped n p room' → Why (length laid) ss n p

      by_level : (l : Le.Level) → value_level q (column_at (payload_of b q j) column) ≡ l → (w : Walked) → rest ≡ w → and_then l laid w ≡ stopped n p room' → Later → Why (length room) (s ∷ ss) n p
      by_level (Le.Refused m r) y w k z ih = absurd (reads_all q j (leaf q j (here refl)) room (only-unread q (column_at (payload_of b q j) column) m r y))
      by_level Le.Passed y (whole xs x) k z ih = absurd (let z : ◌≡◌ {A = ℕ} 0 1 = cc in omega arith)
      by_level Le.Passed y (stopped m r x) k z ih = later (length room) (length laid) (laid-length b q j room) s ss n p (ih (k ∙ z))
      by_level (Le.Real v) y (whole xs x) k z ih = absurd (let z : ◌≡◌ {A = ℕ} 0 1 = cc in omega arith)
      by_level (Le.Real v) y (stopped m r x) k z ih = later (length room) (length laid) (laid-length b q j room) s ss n p (ih (k ∙ z))

      short : (w : Walked) → and_then (Le.Refused 44 0) laid w ≡ stopped n p room' → (n ≡ 44) × (p ≡ 0)
      short (whole xs x) z = (cc, cc)
      short (stopped m r x) z = (cc, cc)

      fits : (u : Bool) → leb (length (payload_of b q j)) (length room) ≡ u → Later → Why (length room) (s ∷ ss) n p
      fits true x ih =
          let k = has_room q j (leaf q j (here refl)) room (leb-true (length (payload_of b q j)) (length room) x) in
          by_level (value_level q (column_at (payload_of b q j) column)) refl rest refl (sym (ap (λ l. and_then l laid rest) k) ∙ e) ih
      fits false x ih =
          let h : length room < length (payload_of b q j) = leb-false (length (payload_of b q j)) (length room) x in
          let k = no_room q j (leaf q j (here refl)) room h in
          let w = short rest (sym (ap (λ l. and_then l laid rest) k) ∙ e) in
          (w.0, w.1, (q, j, here refl, h))

  -- there are fewer rows than 2^64
  few-on-page : (q j : ℕ) → LeafCell (file_of b) d root q j → (q ≤ page_limit) × (j < 65536)
  few-on-page q j l =
      let s = shape o in
      let w = tree-page q j l in
      let at : PageAt b (header_of b) q = record { opened = o; low = w.0.0; high = omega (arith, s.N-is, w.0.1) } in
      let tree : TreeAt b (header_of b) q ((file_of b).type q) ((file_of b).count q) =
      record { at = at; kind_is = refl; sound = g.good.rule_23_26 q w.0 w.1; count_is = refl } in
      (omega (arith, s.N-is, s.few, w.0.1), omega (arith, few-cells tree, l.2))

  rows_few : (ss : List (ℕ × ℕ)) → RowCells b d root 0 ss → length ss < 2 ^ 64
  rows_few ss c =
      let h = few (2 ^ 63) (codes ss) (codes-distinct b ss c.rising (λ q j m. (few-on-page q j (c.each q j m).0).1)) below in
      omega (arith, codes-length ss)
    where
      below : (y : ℕ) → Mem y (codes ss) → y < 2 ^ 63
      below y m =
          let w = code_out ss y m in
          let l = few-on-page w.0 w.1 (c.each w.0 w.1 w.2).0 in
          let e = w.3 in
          omega arith

  pub reports : (room : List ℕ) (r : Re.Reported) → r ≡ report_of b root column room → Reports b d root column (length room) (Tells r) (Is r) (Refuses r)
  unfolding report_of told_of
  reports room r e =
      let n = length (reals_in b column ss) in
      let few-reals = reals-fewer b column ss in
      let few-rows = rows_few ss cells in
      record {
        rows = ss;
        cells = cells;
        told = λ fit. is ∙ ap (answer_from false none) (all_told ss leaf room fit).1;
        count = counted false none (reals_in b column ss) (omega arith) ∙ zero-add n;
        refused = λ z. why (cells_walked b column ss room) refl z;
      }
    where
      ss : List (ℕ × ℕ)
      ss = (first-lists-cells g t).0

      cells : RowCells b d root 0 ss
      cells = (first-lists-cells g t).2

      leaf : Leaf ss
      leaf q j m = (cells.each q j m).0

      is : r ≡ answer_from false none (cells_walked b column ss room)
      is = e ∙ ap (answer_from false none) (sym ((first-leaves b root).walks column room) ∙ listed-walked ss (first_of b root) (first-lists-cells g t).1 room)

      why : (w : Walked) → cells_walked b column ss room ≡ w → Refuses r → Is r 44 0 × ((q j : ℕ) × Mem (q, j) ss × (length room < length (payload_of b q j)))
      why (whole xs x) k z = absurd (z (ap (λ (r : Re.Reported). r.refusal) (is ∙ ap (answer_from false none) k)))
      why (stopped n p x) k z =
          let w = stops ss leaf room n p x k in
          (is ∙ ap (answer_from false none) k ∙ ap (λ n. refused_of n p) w.0 ∙ ap (refused_of 44) w.1, w.2)

-- ---- the entry point's promises, from the equations
pub all_three : (b : List ℕ) (root column : ℕ) (room : List ℕ) {room' : List ℕ} {r x : Re.Reported} → (x ≡ report_of b root column room) × (room' ≡ room_of b root column room) → r ≡ x
    → record {
      answer : r ≡ report_of b root column room;
      buffer : room' ≡ room_of b root column room;
      good : (d : Dealing) → GoodDealing b d → TableRoot b d root → Reports b d root column (length room) (Tells r) (Is r) (Refuses r);
    }
all_three b root column room {room'} {r} {x} w e = record { answer = e ∙ w.0; buffer = w.1; good = λ d g t. reports g t column room r (e ∙ w.0) }
