-- The ways of the code, and what the words mean in a good image.
-- Assumes nothing.
use Prim.Native.Nat.{ℕ, suc, ◌+◌, ◌*◌, ◌<◌, ◌≤◌}
use mathlib.Core.Path.{◌≡◌, refl, sym, ap, ◌∙◌, subst}
use mathlib.Core.Logic.{◌≢◌, inl, inr}
use mathlib.Core.Bool.{cond}
use mathlib.Core.List.{List}
use lib.Dec.{eqb}
use lib.IntN.{ℤ}
use lib.ListN.{length, get_or, set, length-set, length-replicate}
use native.Mathlib.Nat.{le_antisymm}
use native.Mathlib.Omega.{arith}
use borrow.Author.Tests.{eq-eqb, ne_eqb, le-leb, lt-leb}
use Rattle.number.specs.Bytes.{bias_of}
use Rattle.number.proofs.Cases.{cond_yes, cond_no}
use Rattle.std.specs.Prelude.{Ok, Err}
use Rattle.refusal.specs.declared.Rule.{Rule}
use Rattle.refusal.specs.Rule.{number_of}
use Rattle.header.specs.declared.Header.{Header}
use Rattle.header.specs.Header.{header_in, header_refusal}
use Rattle.header.specs.Told as HT
use Rattle.header.proofs.Laws.{told-number, told-stops, told-passes}
use Rattle.dealing.specs.File.{File}
use Rattle.dealing.specs.Good.{Dealing}
use Rattle.dealing.specs.Cursor as L
use Rattle.image.specs.Image.{file_of}
use Rattle.image.specs.Good.{GoodDealing, TableRoot}
use Rattle.cursor.specs.Answers.{blank, last_page, last_index, path_of, stepped, answer_of, opened, first_of, seek_of, step_of}
use Rattle.cursor.specs.Means.{row_in, Stands, NextRow, RowsOn}
use Rattle.cursor.specs.Shown as Sh
use Rattle.cursor.specs.declared.Cursor as Cu
use Rattle.cursor.specs.Stepped as St
use Rattle.cursor.proofs.Round.{pages-length, indices-length}
use Rattle.cursor_words.specs.Words.{pages_in, cells_in, cursor_in, laid_levels, laid_in, kept_by, kept_in, no_room, shown_or, words_or}
use Rattle.cursor_words.proofs.Round.{Sized, sized-in, reads-back}

-- ---- the two loops: one level more, and all of them
module _ (w : List ℕ) (k : ℕ) where
  next : k + 1 ≡ suc k
  next = omega arith

  pub pages-more : (ps : List ℕ) → ps ≡ pages_in w k → set ps k (get_or w (2 * k + 1) 0) ≡ pages_in w (k + 1)
  unfolding pages_in
  pages-more ps e = ap (λ (x : List ℕ). set x k (get_or w (2 * k + 1) 0)) e ∙ sym (ap (pages_in w) next)

  pub cells-more : (is : List ℕ) → is ≡ cells_in w k → set is k (get_or w (2 * k + 2) 0) ≡ cells_in w (k + 1)
  unfolding cells_in
  cells-more is e = ap (λ (x : List ℕ). set x k (get_or w (2 * k + 2) 0)) e ∙ sym (ap (cells_in w) next)

  pub laid_more : (ps is v : List ℕ) → v ≡ laid_levels ps is k w
      → set (set v (2 * k + 1) (get_or ps k 0)) (2 * k + 2) (get_or is k 0) ≡ laid_levels ps is (k + 1) w
  unfolding laid_levels
  laid_more ps is v e =
      ap (λ (x : List ℕ). set (set x (2 * k + 1) (get_or ps k 0)) (2 * k + 2) (get_or is k 0)) e ∙ sym (ap (λ n. laid_levels ps is n w) next)

  module _ (l : 20 ≤ k) (m : k ≤ 20) where
    pub all_read : (ps is : List ℕ) → ps ≡ pages_in w k → is ≡ cells_in w k
        → ◌≡◌ {A = Cu.Cursor} (record { levels = get_or w 0 0; pages = ps; cells = is }) (cursor_in w)
    all_read ps is e f =
        let z : k ≡ 20 = le_antisymm m l in
        made ps (pages_in w 20) is (cells_in w 20) (e ∙ ap (pages_in w) z) (f ∙ ap (cells_in w) z)
      where
        made : (p p' i i' : List ℕ) → p ≡ p' → i ≡ i'
            → ◌≡◌ {A = Cu.Cursor} (record { levels = get_or w 0 0; pages = p; cells = i }) (record { levels = get_or w 0 0; pages = p'; cells = i' })
        made p p' i i' e f = rw (e, f)

-- lengths of stores
pub set_long : (w : List ℕ) (i x n : ℕ) → n ≤ length w → n ≤ length (set w i x)
set_long w i x n h = let e = length-set w i x in omega arith

pub set_twice : (w v : List ℕ) (i x j y : ℕ) → length w ≡ length v → length (set (set w i x) j y) ≡ length v
set_twice w v i x j y e = length-set (set w i x) j y ∙ length-set w i x ∙ e

pub set-twice-long : (w : List ℕ) (i x j y n : ℕ) → n ≤ length w → n ≤ length (set (set w i x) j y)
set-twice-long w i x j y n h = set_long (set w i x) j y n (set_long w i x n h)

-- ---- under 41 words
pub no_header : (b : List ℕ) (rule : Rule) → HT.told (Err rule) ≡ header_in b → Sh.Refused (number_of rule) 0 ≡ no_room b
unfolding no_room
no_header b rule e = rw (told-stops b rule e, told-number b rule e)

pub small : (b : List ℕ) (h : Header) → HT.told (Ok h) ≡ header_in b → Sh.Refused 44 0 ≡ no_room b
unfolding no_room
small b h e = rw (eq-eqb (header_refusal b) 0 (told-passes b h e))

module _ (w : List ℕ) (f : St.Stepped) (l : length w < 41) where
  pub short-shown : (b : List ℕ) (r : Sh.Shown) → r ≡ no_room b → r ≡ shown_or b w f
  unfolding shown_or
  short-shown b r e = cond_no _ r f.shown (no_room b) (lt-leb 41 (length w) l) e

  pub short-kept : w ≡ words_or w f
  unfolding words_or
  short-kept = cond_no _ w (kept_in f w) w (lt-leb 41 (length w) l) refl

pub never : (w : List ℕ) {A : Type 0} → length w < 41 → 41 ≤ length w → A
never w l h = absurd (omega arith)

-- ---- 41 words or more
sized-answer : (f : File) (kept : Cu.Cursor) → Sized kept → (s : L.Shown) → Sized (answer_of f kept 0 s).cursor
sized-answer f kept k L.end = record { pages = length-replicate {A = ℕ} 20 0; cells = length-replicate {A = ℕ} 20 0 }
sized-answer f kept k (L.at y) = record { pages = pages-length 0 y.above y.page; cells = indices-length 0 y.above y.index }
sized-answer f kept k (L.refuses number page) = k

sized-blank : Sized blank
sized-blank = record { pages = length-replicate {A = ℕ} 20 0; cells = length-replicate {A = ℕ} 20 0 }

pub first-sized : (b : List ℕ) (root : ℕ) → Sized (first_of b root).cursor
unfolding first_of
first-sized b root = sized-answer (file_of b) blank sized-blank (opened b (L.first (file_of b) root))

pub seek-sized : (b : List ℕ) (root : ℕ) (row : ℤ) → Sized (seek_of b root row).cursor
unfolding seek_of
seek-sized b root row = sized-answer (file_of b) blank sized-blank (opened b (L.seek (file_of b) root (bias_of row)))

pub step-sized : (b w : List ℕ) → Sized (step_of b (cursor_in w)).cursor
unfolding step_of
step-sized b w =
    sized-answer (file_of b) (cursor_in w) (sized-in w) (opened b (cond (eqb (get_or w 0 0) 0) L.end (L.step (file_of b) (path_of (cursor_in w)))))

module _ (b w : List ℕ) {s f : St.Stepped} (e : s ≡ f) (z : Sized f.cursor) (l : 41 ≤ length w) {r : Sh.Shown} {w' : List ℕ} (k : record { answer : r ≡ s.shown; words : w' ≡ kept_in s w }) where
  pub long-shown : r ≡ shown_or b w f
  unfolding shown_or
  long-shown = cond_yes _ r f.shown (no_room b) (le-leb 41 (length w) l) (k.answer ∙ ap (λ (x : St.Stepped). x.shown) e)

  pub long_kept : w' ≡ words_or w f
  unfolding words_or
  long_kept = cond_yes _ w' (kept_in f w) w (le-leb 41 (length w) l) (k.words ∙ ap (λ (x : St.Stepped). kept_in x w) e)

  -- answer and words together are the answer and the cursor handed back
  same : w' ≡ laid_in s.cursor w → stepped r (cursor_in w') ≡ s
  same q =
      let z' = subst (λ (x : St.Stepped). Sized x.cursor) (sym e) z in
      ap (λ x. stepped x (cursor_in w')) k.answer ∙ ap (stepped s.shown) (ap cursor_in q ∙ reads-back s.cursor w z' l)

  answered : {d : Dealing} {root x : ℕ} → NextRow b d root x s → stepped r (cursor_in w') ≡ s
  answered (inl (page, cell, least, shows)) = same (k.words ∙ ap (λ x. kept_by x s.cursor w) shows.shown)
  answered (inr (ends, none)) = same (k.words ∙ ap (λ x. kept_by x s.cursor w) (ap (λ (x : St.Stepped). x.shown) ends))

  pub long-good : {d : Dealing} {root x : ℕ} → RowsOn b d root x s → RowsOn b d root x (stepped r (cursor_in w'))
  long-good {d} {root} {x} g = subst (RowsOn b d root x) (sym (answered g.next)) g

-- what a step's contract says, of the cursor that was read
abbrev StepSays : List ℕ → Cu.Cursor → St.Stepped → Type 0
StepSays b c s = record {
  answer : s ≡ step_of b c;
  good : (d : Dealing) (root : ℕ) → GoodDealing b d → TableRoot b d root → Stands b root c → RowsOn b d root (suc (row_in b (last_page c) (last_index c))) s;
}

pub step-there : (b w : List ℕ) {c : Cu.Cursor} {s : St.Stepped} → c ≡ cursor_in w → StepSays b c s → StepSays b (cursor_in w) s
step-there b w {s = s} e k = subst (λ (c : Cu.Cursor). StepSays b c s) e k
