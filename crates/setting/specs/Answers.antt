-- What setting a row answers, for every image and every question, and what the image is then.
use Rattle.std.specs.Prelude.{ℕ, ◌+◌, ◌-◌, ◌*◌, ◌≤◌, ◌<◌, ◌≡◌, Bool, true, false, cond, ◌≢◌, List, eqb, leb, ltb, ℤ, length, get_or}
use Rattle.header.specs.Header.{size_of, usable_of, header_refusal, Within}
use Rattle.record.specs.Record.{reads_of}
use Rattle.cell.specs.Split.{table_leaf, max_local}
use Rattle.page.specs.Header.{cell_count}
use Rattle.dealing.specs.File.{Page}
use Rattle.dealing.specs.Good.{Dealing}
use Rattle.image.specs.Pages.{page_in}
use Rattle.image.specs.Image.{file_of}
use Rattle.image.specs.Good.{TableRoot, Carries}
use Rattle.lookup.specs.Found as Fo
use Rattle.lookup.specs.Answers.{lookup_of}
use Rattle.setting.specs.declared.Outcome as Se
use Rattle.setting.specs.declared.Plan as Pl
use Rattle.setting.specs.Relaid.{stacked, leaf_room, cells_for, relaid, Sets}
use Rattle.setting.specs.Laying.{cells_anew, MayLay}

-- the root has kind 1 in the ledger, and neither it nor the leaf is page 1
abbrev pub may_write : (kinds : List ℕ) (root page : ℕ) → Bool
may_write ks root page = cond (ltb root 2) false (cond (eqb page 1) false (eqb (get_or ks (root - 1) 0) 1))

-- 54: the row's payload has a chain, or its record would have one, or the page has no room for it
unfoldable pub fit_for : List ℕ → (page cell : ℕ) (row : ℤ) (s : List ℕ) → ℕ
fit_for b page cell row s =
    cond (eqb ((file_of b).cell page cell).links 0)
    (cond (leb (length s) (max_local (usable_of b) table_leaf)) (cond (leb (leaf_room (cells_for b page cell row s)) (usable_of b)) 0 54) 54) 54

-- of a cell that was found: 53, 28, 54; else 0
unfoldable pub refusal_for : List ℕ → (kinds : List ℕ) (root page cell : ℕ) (row : ℤ) (s : List ℕ) → ℕ
refusal_for b ks root page cell row s = cond (may_write ks root page) (cond (reads_of s) (fit_for b page cell row s) 28) 53

-- a refusal reports its page, 28 page 0
abbrev pub refused_of : (number page : ℕ) → Se.Outcome
refused_of number page = record { refusal = number; found = false; page = page; cell = 0; length = 0 }

abbrev pub settled : (number page cell n : ℕ) → Se.Outcome
settled number page cell n =
    cond (eqb number 0) (record { refusal = 0; found = true; page = page; cell = cell; length = n }) (refused_of number (cond (eqb number 28) 0 page))

-- the answer, by what lookup answers
abbrev pub answer_for : List ℕ → (kinds : List ℕ) (root : ℕ) (row : ℤ) (s : List ℕ) → Fo.Found → Se.Outcome
answer_for b ks root row s Fo.Nothing = refused_of 0 0
answer_for b ks root row s (Fo.At page cell n) = settled (refusal_for b ks root page cell row s) page cell (length s)
answer_for b ks root row s (Fo.Refused number page) = refused_of number page

-- and the image then
abbrev pub image_for : List ℕ → (kinds : List ℕ) (root : ℕ) (row : ℤ) (s : List ℕ) → Fo.Found → List ℕ
image_for b ks root row s Fo.Nothing = b
image_for b ks root row s (Fo.At page cell n) = cond (eqb (refusal_for b ks root page cell row s) 0) (relaid b page cell row s) b
image_for b ks root row s (Fo.Refused number page) = b

unfoldable pub set_of : List ℕ → (kinds : List ℕ) (root : ℕ) (row : ℤ) (s : List ℕ) → Se.Outcome
set_of b ks root row s = answer_for b ks root row s (lookup_of b root row)

unfoldable pub image_after : List ℕ → (kinds : List ℕ) (root : ℕ) (row : ℤ) (s : List ℕ) → List ℕ
image_after b ks root row s = image_for b ks root row s (lookup_of b root row)

-- what that means for a good image b, whose ledger says the kind of the root: b' is the image at exit
abbrev pub Own : List ℕ → Dealing → (kinds : List ℕ) (root : ℕ) → Type 0
Own b d ks root = Page (file_of b) root → get_or ks (root - 1) 0 ≡ d.kind root

pub record Means (b b' : List ℕ) (d : Dealing) (root : ℕ) (row : ℤ) (s : List ℕ) (r : Se.Outcome) : Type 0 where
  -- the row was set: its root is a table's, the cell is the one that carries the number, and all is as `Sets` says
  pub done : r.found ≡ true → TableRoot b d root × Carries b d root row r.page r.cell × Sets b b' d r.page r.cell s
  -- under a table root nothing is found exactly where no leaf cell of the tree carries the number
  pub none : r.refusal ≡ 0 → r.found ≡ false → TableRoot b d root → (page cell : ℕ) → Carries b d root row page cell → ⊥
  -- else the image is untouched
  pub kept : r.found ≡ false → b' ≡ b

-- ---- what the parts of the code ask of each other

-- a cell that lookup shows
pub record FoundAt (b : List ℕ) (page cell : ℕ) : Type 0 where
  pub passes : header_refusal b ≡ 0
  pub in_file : Page (file_of b) page
  pub type : (file_of b).type page ≡ 13
  pub sound : (file_of b).broken page ≡ 0
  pub index : cell < (file_of b).count page

-- where the cells begin, 0 where there is no room
abbrev pub start_for : (u : ℕ) → List (List ℕ) → ℕ
start_for u cs = cond (leb (leaf_room cs) u) (u - length (stacked cs)) 0

-- the leaf may be laid anew
pub record Ready (b : List ℕ) (page cell : ℕ) (row : ℤ) (s : List ℕ) (size u count start : ℕ) : Type 0 where
  pub size_is : size ≡ size_of b
  pub usable_is : u ≡ usable_of b
  pub within : Within b size page
  pub few : page ≤ 2200000
  pub small : size ≤ 65536
  pub fits : (page - 1) * size + u ≤ length b
  pub may : MayLay (page_in b page) u cell row s 65536
  pub count_is : count ≡ cell_count (page_in b page) 0
  pub start_is : start ≡ u - length (stacked (cells_anew (page_in b page) u cell row s))

-- nothing is to be done
abbrev pub idle : (number page : ℕ) → Pl.Plan
idle number page = record { ready = false; size = 0; usable = 0; count = 0; start = 0; answer = refused_of number page }

-- what is to be done with a cell whose refusal is k
pub record Judged (b : List ℕ) (k page cell : ℕ) (row : ℤ) (s : List ℕ) (r : Pl.Plan) : Type 0 where
  pub answer : r.answer ≡ settled k page cell (length s)
  pub ready : r.ready ≡ true → (k ≡ 0) × Ready b page cell row s r.size r.usable r.count r.start
  pub rest : r.ready ≡ false → k ≢ 0

pub record Planned (b : List ℕ) (ks : List ℕ) (root : ℕ) (row : ℤ) (s : List ℕ) (r : Pl.Plan) : Type 0 where
  pub answer : r.answer ≡ set_of b ks root row s
  pub ready : r.ready ≡ true → (image_after b ks root row s ≡ relaid b r.answer.page r.answer.cell row s)
      × Ready b r.answer.page r.answer.cell row s r.size r.usable r.count r.start
  pub rest : r.ready ≡ false → image_after b ks root row s ≡ b
