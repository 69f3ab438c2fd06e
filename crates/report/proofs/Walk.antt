-- The rows as the loop takes them: what is left of them when the cursor stands somewhere, and what a step leaves.
-- Assumes nothing.
use Rattle.std.proofs.Common.{◌≡◌, ℕ, zero, suc, ◌<◌, ◌≤◌, Bool, true, false, eqb, leb, ◌≢◌, List, [], ◌∷◌, ◌++◌, length, drop, ℤ, sym, refl, ap, ◌∙◌, subst, arith, eqb-true, le-leb, leb-false, leb-true}
use lib.Ieee.{Float}
use Rattle.header.specs.Header.{header_refusal}
use Rattle.dealing.specs.File.{File, level_limit}
use Rattle.dealing.specs.Walk.{in_range}
use Rattle.dealing.specs.Cursor as L
use Rattle.dealing.proofs.CursorLaws.{too_long}
use Rattle.dealing.proofs.Listing.{Chained, chained, chained-right, both, listed, step-on}
use Rattle.image.specs.Image.{file_of}
use Rattle.image.specs.Payload.{payload_of}
use Rattle.lookup.specs.Answers.{fetched_of, out_of}
use Rattle.lookup.specs.Fetched as Fe
use Rattle.lookup.proofs.Shown.{copied-length}
use Rattle.lookup.proofs.Theorems.{opened-image}
use Rattle.cursor.specs.Answers.{blank, last_page, last_index, path_of, cursor_from, answer_of, first_of, step_of}
use Rattle.cursor.specs.Shown as Sh
use Rattle.cursor.specs.declared.Cursor as Cu
use Rattle.cursor.specs.Stepped as St
use Rattle.cursor.proofs.Next.{steps}
use Rattle.cursor.proofs.Round.{path-back}
use Rattle.report.specs.Summary.{none, added, add_all, told_of, refused_of}
use Rattle.report.specs.Rows.{level_of, laid_over}
use Rattle.report.specs.Report.{met_under, Walked, whole, stopped, and_then, walked, answer_from, room_in, report_of, room_of}
use Rattle.std.specs.Prelude.{Option, Some, None}
use Rattle.report.specs.Told.{summary_in, met_in, taken}
use Rattle.report.specs.declared.Summary as Su
use Rattle.report.specs.Reported as Re
use Rattle.report.specs.Level as Le
use Rattle.report.specs.Level.{told_real}

-- ---- the room keeps its length
length_over : (s room : List ℕ) → length s ≤ length room → length (s ++ drop (length s) room) ≡ length room
length_over [] room h = refl
length_over (x ∷ s) [] h = absurd (omega arith)
length_over (x ∷ s) (y ∷ room) h = ap suc (length_over s room (omega arith))

pub laid-length : (b : List ℕ) (p i : ℕ) (room : List ℕ) → length (laid_over b p i room) ≡ length room
unfolding laid_over
laid-length b p i room = go (fetched_of b p i (length room)) refl
  where
    go : (r : Fe.Fetched) → fetched_of b p i (length room) ≡ r → length (out_of r (payload_of b p i) room) ≡ length room
    go (Fe.Copied n) e =
        let w = copied-length b p i (length room) n e in
        ap (λ m. length (payload_of b p i ++ drop m room)) w.0 ∙ length_over (payload_of b p i) room (omega arith)
    go (Fe.Refused number page) e = refl

-- ---- what is left when a cursor was answered
abbrev pub left_from : List ℕ → Cu.Cursor → Sh.Shown → List L.Met
left_from b c Sh.End = []
left_from b c (Sh.Row page index n row) = L.cell (path_of c) ∷ L.after (file_of b) (path_of c)
left_from b c (Sh.Refused number page) = L.stop number page ∷ []

abbrev pub left_of : List ℕ → St.Stepped → List L.Met
left_of b a = left_from b a.cursor a.shown

-- where a row is shown, the cursor stands there
pub record Standing (b : List ℕ) (c : Cu.Cursor) (page index : ℕ) : Type 0 where
  pub passes : header_refusal b ≡ 0
  pub some : c.levels ≢ 0
  pub stands : L.stands (file_of b) (path_of c) ≡ true
  pub page_is : last_page c ≡ page
  pub index_is : last_index c ≡ index

abbrev pub StandingAt : List ℕ → Cu.Cursor → Sh.Shown → Type 0
StandingAt b c Sh.End = Unit {0}
StandingAt b c (Sh.Row page index n row) = Standing b c page index
StandingAt b c (Sh.Refused number page) = Unit {0}

-- an answer, and what was to come: the rest is walked as that, and is no longer
pub record Leaves (b : List ℕ) (ms : List L.Met) (a : St.Stepped) : Type 0 where
  pub standing : StandingAt b a.cursor a.shown
  pub walks : (column : ℕ) (room : List ℕ) → walked b column (left_of b a) room ≡ walked b column ms room
  pub fewer : length (left_of b a) ≤ length ms

module _ (b : List ℕ) (passes : header_refusal b ≡ 0) (root : ℕ) where
  short : (y : L.Path) → L.stands (file_of b) y ≡ true → length y.above < 20
  short y s = go (leb 20 (length y.above)) refl
    where
      go : (u : Bool) → leb 20 (length y.above) ≡ u → length y.above < 20
      go true u = absurd (too_long (file_of b) 20 y.above y.page y.index (leb-true 20 (length y.above) u) s)
      go false u = leb-false 20 (length y.above) u

  leaves : (kept : Cu.Cursor) (ms : List L.Met) → Chained (file_of b) level_limit root ms → Leaves b ms (answer_of (file_of b) kept 0 (L.shown_from (file_of b) 0 ms))
  unfolding L.shown_from walked
  leaves kept [] k = record { standing = tt; walks = λ column room. refl; fewer = omega arith }
  leaves kept (L.stop n p ∷ ms) k = record { standing = tt; walks = λ column room. refl; fewer = omega arith }
  leaves kept (L.cell y ∷ ms) k =
      let e = path-back y (short y k.1) in
      let same : L.cell (path_of (cursor_from 0 y)) ∷ L.after (file_of b) (path_of (cursor_from 0 y)) ≡ L.cell y ∷ ms =
      ap (λ (y : L.Path). L.cell y ∷ L.after (file_of b) y) e ∙ ap (λ t. L.cell y ∷ t) k.2 in
      rw (le-leb 0 (L.row_at (file_of b) y) (omega arith))
      (record {
        standing = record {
          passes = passes;
          some = λ z. omega arith;
          stands = subst (λ (y : L.Path). L.stands (file_of b) y ≡ true) (sym e) k.1;
          page_is = ap (λ (y : L.Path). y.page) e;
          index_is = ap (λ (y : L.Path). y.index) e;
        };
        walks = λ column room. ap (λ l. walked b column l room) same;
        fewer = subst (λ l. length l ≤ length (L.cell y ∷ ms)) (sym same) (omega arith);
      })

  first-inside : in_range (file_of b).N root ≡ true → eqb (header_refusal b) 0 ≡ true → Leaves b (met_under b root) (first_of b root)
  unfolding met_under first_of L.first
  first-inside r z = rw (z, r) (leaves blank (L.listing (file_of b) level_limit root) (chained (file_of b) level_limit root r))

-- the first answer
pub first-leaves : (b : List ℕ) (root : ℕ) → Leaves b (met_under b root) (first_of b root)
unfolding met_under first_of L.first walked
first-leaves b root = go (eqb (header_refusal b) 0) refl (in_range (file_of b).N root) refl
  where
    go : (t : Bool) → eqb (header_refusal b) 0 ≡ t → (u : Bool) → in_range (file_of b).N root ≡ u → Leaves b (met_under b root) (first_of b root)
    go true z true r = first-inside b (eqb-true (header_refusal b) 0 z) root r z
    go true z false r = rw (z, r) (record { standing = tt; walks = λ column room. refl; fewer = omega arith })
    go false z u r = rw z (record { standing = tt; walks = λ column room. refl; fewer = omega arith })

-- the answer of a step
top_in : (f : File) (l : ℕ) (up : List (ℕ × ℕ)) (q j : ℕ) → L.stands_in f l up q j ≡ true → in_range f.N (L.top_of up q) ≡ true
unfolding L.stands_in
top_in f zero up q j e = absurd (let z : ◌≡◌ {A = ℕ} 0 1 = cc in omega arith)
top_in f (suc l) [] q j e = (both (in_range f.N q) _ e).0
top_in f (suc l) ((p, i) ∷ up) q j e = (both (in_range f.N p) _ e).0

module _ (b : List ℕ) (c : Cu.Cursor) {page index : ℕ} (s : Standing b c page index) where
  top : ℕ
  top = L.top_of (path_of c).above (last_page c)

  rest-chained : Chained (file_of b) level_limit top (L.after (file_of b) (path_of c))
  unfolding top
  rest-chained =
      let w = listed (file_of b) level_limit (path_of c).above (last_page c) (last_index c) s.stands in
      let k = chained (file_of b) level_limit top (top_in (file_of b) level_limit (path_of c).above (last_page c) (last_index c) s.stands) in
      (chained-right (file_of b) level_limit top w.0 (L.cell (path_of c) ∷ L.after (file_of b) (path_of c)) (subst (Chained (file_of b) level_limit top) w.1 k)).3

  pub step-leaves : (a : St.Stepped) → a ≡ step_of b c → Leaves b (L.after (file_of b) (path_of c)) a
  step-leaves a e =
      let q : a ≡ answer_of (file_of b) c 0 (L.shown_from (file_of b) 0 (L.after (file_of b) (path_of c))) =
      e ∙ steps b c (opened-image b s.passes) s.some ∙ ap (answer_of (file_of b) c 0) (step-on (file_of b) top (path_of c) (L.after (file_of b) (path_of c)) s.stands refl) in
      subst (Leaves b (L.after (file_of b) (path_of c))) (sym q) (leaves b s.passes top c (L.after (file_of b) (path_of c)) rest-chained)

  -- a row, then the rows from the step on
  pub row-walks : (column : ℕ) (room : List ℕ) → walked b column (L.cell (path_of c) ∷ L.after (file_of b) (path_of c)) room
      ≡ and_then (level_of b column page index (length room)) (laid_over b page index room) (walked b column (left_of b (step_of b c)) (laid_over b page index room))
  unfolding walked
  row-walks column room =
      let to : (q j : ℕ) → Walked = λ q j. and_then (level_of b column q j (length room)) (laid_over b q j room) (walked b column (L.after (file_of b) (path_of c)) (laid_over b q j room)) in
      ap (λ q. to q (last_index c)) s.page_is ∙ ap (to page) s.index_is
      ∙ ap (and_then (level_of b column page index (length room)) (laid_over b page index room)) (sym ((step-leaves (step_of b c) refl).walks column (laid_over b page index room)))

-- ---- the loop: whatever becomes of the rows left becomes of all of them
pub record Going (b : List ℕ) (root column : ℕ) (start room : List ℕ) (s : Su.Summary) (met : Bool) (a : St.Stepped) : Type 0 where
  pub sized : length room ≡ length start
  pub standing : StandingAt b a.cursor a.shown
  pub answers : answer_from met s (walked b column (left_of b a) room) ≡ report_of b root column start
  pub lays : room_in (walked b column (left_of b a) room) ≡ room_of b root column start

pub starts : (b : List ℕ) (root column : ℕ) (room : List ℕ) (s : Su.Summary) → s ≡ none → (a : St.Stepped) → a ≡ first_of b root → Going b root column room room s false a
unfolding report_of room_of
starts b root column room s z a e =
    subst (λ a. Going b root column room room s false a) (sym e)
    (subst (λ s. Going b root column room room s false (first_of b root)) (sym z)
    (let w = first-leaves b root in
    record { sized = refl; standing = w.standing; answers = ap (answer_from false none) (w.walks column room); lays = ap room_in (w.walks column room) }))

abbrev Both : List ℕ → (root column : ℕ) → (start : List ℕ) → Re.Reported → List ℕ → Type 0
Both b root column start r room = (r ≡ report_of b root column start) × (room ≡ room_of b root column start)

module _ {b : List ℕ} {root column : ℕ} {start room : List ℕ} {s : Su.Summary} {met : Bool} {a : St.Stepped} (g : Going b root column start room s met a) where
  -- all rows were met
  pub at-end : a.shown ≡ Sh.End → Both b root column start (told_of s) room
  unfolding walked add_all
  at-end e =
      let l : left_of b a ≡ [] = ap (left_from b a.cursor) e in
      (sym (ap (λ l. answer_from met s (walked b column l room)) l) ∙ g.answers, sym (ap (λ l. room_in (walked b column l room)) l) ∙ g.lays)

  -- the cursor refuses
  pub at-stop : (number page : ℕ) → a.shown ≡ Sh.Refused number page → Both b root column start (refused_of number page) room
  unfolding walked
  at-stop number page e =
      let l : left_of b a ≡ L.stop number page ∷ [] = ap (left_from b a.cursor) e in
      (sym (ap (λ l. answer_from met s (walked b column l room)) l) ∙ g.answers, sym (ap (λ l. room_in (walked b column l room)) l) ∙ g.lays)

  -- a row
  module _ (page index n : ℕ) (row : ℤ) (e : a.shown ≡ Sh.Row page index n row) where
    here : Standing b a.cursor page index
    here = subst (StandingAt b a.cursor) e g.standing

    left_is : left_of b a ≡ L.cell (path_of a.cursor) ∷ L.after (file_of b) (path_of a.cursor)
    left_is = ap (left_from b a.cursor) e

    pub falls : (a' : St.Stepped) → a' ≡ step_of b a.cursor → length (left_of b a') < length (left_of b a)
    falls a' q = let w = (step-leaves b a.cursor here a' q).fewer in let l = ap length left_is in omega arith

    module _ (level : Le.Level) (is : level ≡ level_of b column page index (length room)) (room' : List ℕ) (laid : room' ≡ laid_over b page index room) where
      rest : Walked
      rest = walked b column (left_of b (step_of b a.cursor)) room'

      goes : walked b column (left_of b a) room ≡ and_then level room' rest
      unfolding rest
      goes =
          ap (λ l. walked b column l room) left_is ∙ row-walks b a.cursor here column room
          ∙ ap (λ l. and_then l (laid_over b page index room) (walked b column (left_of b (step_of b a.cursor)) (laid_over b page index room))) (sym is)
          ∙ ap (λ r. and_then level r (walked b column (left_of b (step_of b a.cursor)) r)) (sym laid)

      same_size : length room' ≡ length start
      same_size = ap length laid ∙ laid-length b page index room ∙ g.sized

      -- it refuses
      pub row-stops : (number holder : ℕ) → level ≡ Le.Refused number holder → Both b root column start (refused_of number holder) room'
      row-stops number holder k =
          let q : walked b column (left_of b a) room ≡ stopped number holder room' = goes ∙ ap (λ l. and_then l room' rest) k ∙ ends rest in
          (sym (ap (answer_from met s) q) ∙ g.answers, sym (ap room_in q) ∙ g.lays)
        where
          ends : (w : Walked) → and_then (Le.Refused number holder) room' w ≡ stopped number holder room'
          ends (whole xs r) = refl
          ends (stopped m p r) = refl

      module _ (a' : St.Stepped) (q : a' ≡ step_of b a.cursor) where
        now-at : StandingAt b a'.cursor a'.shown
        now-at = (step-leaves b a.cursor here a' q).standing

        here_on : rest ≡ walked b column (left_of b a') room'
        unfolding rest
        here_on = ap (λ a. walked b column (left_of b a) room') (sym q)

        -- it is passed over
        pub row-passes : level ≡ Le.Passed → Going b root column start room' s met a'
        row-passes k =
            let z = goes ∙ ap (λ l. and_then l room' rest) k ∙ on rest ∙ here_on in
            record { sized = same_size; standing = now-at; answers = sym (ap (answer_from met s) z) ∙ g.answers; lays = sym (ap room_in z) ∙ g.lays }
          where
            on : (w : Walked) → and_then Le.Passed room' w ≡ w
            on (whole xs r) = refl
            on (stopped m p r) = refl

        -- it is a real
        pub row-adds : (x : Float) → level ≡ Le.Real x → (s' : Su.Summary) → s' ≡ added met s x → Going b root column start room' s' true a'
        unfolding add_all
        row-adds x k s' more =
            let w = walked b column (left_of b a') room' in
            let z = goes ∙ ap (λ l. and_then l room' rest) k ∙ ap (and_then (Le.Real x) room') here_on in
            record {
              sized = same_size;
              standing = now-at;
              answers = ap (λ s. answer_from true s w) more ∙ sym (on w) ∙ sym (ap (answer_from met s) z) ∙ g.answers;
              lays = sym (same w) ∙ sym (ap room_in z) ∙ g.lays;
            }
          where
            on : (w : Walked) → answer_from met s (and_then (Le.Real x) room' w) ≡ answer_from true (added met s x) w
            on (whole xs r) = refl
            on (stopped m p r) = refl

            same : (w : Walked) → room_in (and_then (Le.Real x) room' w) ≡ room_in w
            same (whole xs r) = refl
            same (stopped m p r) = refl

        -- whatever it is, taken in
        pub row-takes : (met₀ : Option Su.Summary) → met ≡ met_in met₀ → s ≡ summary_in met₀ → (x : Option Float) → level ≡ told_real x
            → (after : Option Su.Summary) → after ≡ taken met₀ x → Going b root column start room' (summary_in after) (met_in after) a'
        row-takes s₀ m z None k after e = rw (e, ← m, ← z) (row-passes k)
        row-takes s₀ m z (Some x) k after e = rw (e, ← m, ← z) (row-adds x k (added met s x) refl)
