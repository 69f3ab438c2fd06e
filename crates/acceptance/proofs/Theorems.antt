-- The theorems of acceptance, of images as bytes. `b` is an image, `pages_of b` its number N of pages. The words are those of
-- dealing/specs/Good.antt (dealings)
-- and of image/specs (`file_of`, good images); `verdict_is`, `kinds_at`, `namers_at`, `steps_at`, `lookup_of`, `fetched_of`, `out_of`, `first_of`,
-- `seek_of`, `step_of` and `report_of` are what the library answers and leaves, by its contracts.
-- dealing/specs/File.antt says how to read them; a statement ends where the line with `=` begins, and what follows is its proof.
use Prim.Native.Nat.{ℕ, suc, ◌-◌, ◌*◌, ◌≤◌, ◌<◌}
use mathlib.Core.Path.{◌≡◌, refl, sym, ap, ◌∙◌, subst}
use mathlib.Core.Bool.{true}
use mathlib.Core.Logic.{◌≢◌, ◌↔◌}
use mathlib.Core.List.{List, [], ◌++◌, Memᴰ as Mem}
use lib.IntN.{ℤ}
use lib.ListN.{length, get_or, drop, replicate, length-replicate}
use native.Mathlib.Omega.{arith}
use Rattle.header.specs.Header.{pages_of}
use Rattle.dealing.specs.File.{File, Page, is_table, root_kind}
use Rattle.dealing.specs.Good.{Dealing}
use Rattle.dealing.specs.Spelling.{long_in}
use Rattle.std.specs.Prelude.{Err}
use Rattle.record.specs.Record.{reads_of, column_at}
use Rattle.record.specs.declared.NoValue.TheVariants.{DoesNotRead}
use Rattle.record.proofs.Laws.{reads-column}
use Rattle.image.specs.Payload.{payload_of}
use Rattle.image.specs.Image.{file_of}
use Rattle.image.specs.Good.{GoodDealing, GoodImage, TableRoot, Carries, PayloadCell, OnPages}
use Rattle.image.proofs.Fields.{N-field}
use Rattle.image.proofs.Records.{good-reads}
use Rattle.names.specs.Good.{GoodDealingFor, GoodImageFor}
use Rattle.names.proofs.Good.{good_for, none-good}
use Rattle.verdict.specs.Verdict.{verdict_is, kinds_at, namers_at, steps_at}
use Rattle.verdict.specs.Means.{Means, Accepts}
use Rattle.verdict.specs.Answer.{Accepted, Refused}
use Rattle.verdict.proofs.MeansLaws as M
use Rattle.lookup.specs.Answers.{lookup_of, fetched_of, out_of}
use Rattle.lookup.specs.Means.{Finds, Shows, Nothing, Refuses, Fetches, Copied, NoRoom}
use Rattle.lookup.specs.Found as Found
use Rattle.lookup.specs.Fetched as Fetched
use Rattle.lookup.proofs.Theorems as L
use Rattle.number.specs.Bytes.{bias_of}
use Rattle.cursor.specs.declared.Cursor.{Cursor}
use Rattle.cursor.specs.Answers.{last_page, last_index, first_of, seek_of, step_of}
use Rattle.cursor.specs.Means.{row_in, Stands, Lists, RowCells}
use Rattle.cursor.proofs.Theorems as C
use Rattle.acceptance.proofs.OneList.{climbs-one}
use Rattle.report.specs.Report.{report_of}
use Rattle.report.specs.Means.{Reports, Tells, Is}
use Rattle.report.specs.Means as Reported
use Rattle.report.proofs.Theorems as R
use Rattle.wire.specs.Wire.{proposal_of}
use Rattle.proposal.specs.Check.{checked_of}
use Rattle.proposal.specs.Means.{dealt_out, Checks, Says}
use Rattle.proposal.proofs.Laws as P

-- what the verdict's contract says, of the answer and the ledgers by its equations
means : (b ordered ks ns ss : List ℕ) → Means b ordered ks ns ss (Accepts (verdict_is b ordered (length ks) (length ns) (length ss)))
    (kinds_at b ordered ks (length ns) (length ss)) (namers_at b ordered (length ks) ns (length ss)) (steps_at b ordered (length ks) (length ns) ss)
means b ordered ks ns ss = M.means b ordered ks ns ss _ _ _ _ (record { answer = refl; kinds = refl; namers = refl; steps = refl })

-- 1. For a caller who names roots as plain ascending: the verdict accepts an image, refusal 12 aside, exactly when it passes 1 to 11 and 34
-- and a dealing of it that is good for these names exists.
pub accepted-for : (b ordered : List ℕ) (kinds namers steps : ℕ) → pages_of b ≤ kinds → pages_of b ≤ namers → pages_of b ≤ steps
    → ((c : ℕ) × (verdict_is b ordered kinds namers steps ≡ Accepted (pages_of b) c)) ↔ GoodImageFor ordered b
accepted-for b ordered kinds namers steps k n s = (λ e. to.0 (e.0, same ∙ e.1), λ g. let w = to.1 g in (w.0, sym same ∙ w.1))
  where
    zeros : ℕ → List ℕ
    zeros m = replicate m 0

    long : (m : ℕ) → length (zeros m) ≡ m
    long m = length-replicate {A = ℕ} m 0

    same : verdict_is b ordered (length (zeros kinds)) (length (zeros namers)) (length (zeros steps)) ≡ verdict_is b ordered kinds namers steps
    same =
        ap (λ x. verdict_is b ordered x (length (zeros namers)) (length (zeros steps))) (long kinds)
        ∙ ap (λ x. verdict_is b ordered kinds x (length (zeros steps))) (long namers)
        ∙ ap (verdict_is b ordered kinds namers) (long steps)

    to : ((c : ℕ) × (verdict_is b ordered (length (zeros kinds)) (length (zeros namers)) (length (zeros steps)) ≡ Accepted (pages_of b) c))
        ↔ GoodImageFor ordered b
    to =
        (means b ordered (zeros kinds) (zeros namers) (zeros steps)).exactly (omega (arith, long kinds)) (omega (arith, long namers))
        (omega (arith, long steps))

-- With no root named: exactly when it passes 1 to 11 and a good dealing of it exists.
pub accepted-exactly : (b : List ℕ) (kinds namers steps : ℕ) → pages_of b ≤ kinds → pages_of b ≤ namers → pages_of b ≤ steps
    → ((c : ℕ) × (verdict_is b [] kinds namers steps ≡ Accepted (pages_of b) c)) ↔ GoodImage b
accepted-exactly b kinds namers steps k n s =
    let a = accepted-for b [] kinds namers steps k n s in
    let g = none-good b in
    (λ e. g.0 (a.0 e), λ h. a.1 (g.1 h))

-- What is refused with room for the ledgers is not good for these names; with none named it is not good.
pub refused-for : (b ordered : List ℕ) (kinds namers steps number page : ℕ) → pages_of b ≤ kinds → pages_of b ≤ namers → pages_of b ≤ steps
    → verdict_is b ordered kinds namers steps ≡ Refused number page → GoodImageFor ordered b → ⊥
refused-for b ordered kinds namers steps number page k n s e g =
    let a = (accepted-for b ordered kinds namers steps k n s).1 g in
    let w = a.1 in
    let z : ◌≡◌ {A = ℕ} 0 1 = cc in omega arith

pub refused-not-good : (b : List ℕ) (kinds namers steps number page : ℕ) → pages_of b ≤ kinds → pages_of b ≤ namers → pages_of b ≤ steps
    → verdict_is b [] kinds namers steps ≡ Refused number page → GoodImage b → ⊥
refused-not-good b kinds namers steps number page k n s e g = refused-for b [] kinds namers steps number page k n s e ((none-good b).1 g)

-- 2. Two good dealings of an image agree on kind, namer and step at every page of 1 to N. (One that is good for some names is good: `good_for`.)
pub one-dealing : (b : List ℕ) (d d' : Dealing) → GoodDealing b d → GoodDealing b d' → (p : ℕ) → 1 ≤ p → p ≤ pages_of b
    → (d.kind p ≡ d'.kind p) × (d.namer p ≡ d'.namer p) × (d.step p ≡ d'.step p)
one-dealing b d d' g g' p low high = (means b [] [] [] []).only d d' g g' p (low, omega (arith, N-field b))

-- 3. On acceptance the ledgers' first N entries are the kinds, namers and steps of that dealing: of the one there is, and of any. ks, ns
-- and ss are the ledgers that were lent.
module _ (b ordered ks ns ss : List ℕ) (long : ℕ)
    (accepted : verdict_is b ordered (length ks) (length ns) (length ss) ≡ Accepted (pages_of b) long) where
  pub ledgers : (d : Dealing) → GoodDealing b d → (p : ℕ) → 1 ≤ p → p ≤ pages_of b
      → (get_or (kinds_at b ordered ks (length ns) (length ss)) (p - 1) 0 ≡ d.kind p)
      × (get_or (namers_at b ordered (length ks) ns (length ss)) (p - 1) 0 ≡ d.namer p)
      × (get_or (steps_at b ordered (length ks) (length ns) ss) (p - 1) 0 ≡ d.step p)
  ledgers = (means b ordered ks ns ss).ledgers long accepted

  -- it is good for the names: under each of them keys rise strictly
  pub the-dealing-for : (d : Dealing) × GoodDealingFor ordered b d
  the-dealing-for = ((means b ordered ks ns ss).accepts (pages_of b) long accepted).1

  pub the-dealing : (d : Dealing) × GoodDealing b d
  the-dealing = (the-dealing-for.0, good_for ordered b the-dealing-for.0 the-dealing-for.1)

  -- the count told is that of the payload lengths, row numbers and interior keys, in the cells of all tree pages of that dealing, that are
  -- not in their shortest spelling; at most 65536 a page
  pub spelled-long : (d : Dealing) → GoodDealing b d → long ≡ long_in (file_of b) d
  spelled-long = (means b ordered ks ns ss).count (pages_of b) long accepted

  pub spelled-most : long ≤ pages_of b * 65536
  spelled-most = (means b ordered ks ns ss).count_most (pages_of b) long accepted

  -- a table root, told by the ledger: its entry is 1, and the page's type is 5 or 13
  pub ledger-root : (d : Dealing) → GoodDealing b d → (root : ℕ) → 1 ≤ root → root ≤ pages_of b
      → get_or (kinds_at b ordered ks (length ns) (length ss)) (root - 1) 0 ≡ root_kind → is_table (file_of b) root ≡ true → TableRoot b d root
  ledger-root d g root low high k t =
      record { page = (low, omega (arith, N-field b)); kind = sym (ledgers d g root low high).0 ∙ k; table = t }

-- 4. In an accepted image, whose good dealing is d: for every table root and every row number (of 64 bits) ..
module _ (b : List ℕ) (d : Dealing) (g : GoodDealing b d) (root : ℕ) (t : TableRoot b d root) (row : ℤ) where
  finds : Finds b d root row (Shows (lookup_of b root row)) (Nothing (lookup_of b root row)) (Refuses (lookup_of b root row))
  finds = L.finds g t row (lookup_of b root row) refl

  -- .. lookup shows a cell exactly when it is a leaf cell of the root's tree that carries the number, with its page, its index and the
  -- length of its payload
  pub lookup-shows : (page cell n : ℕ)
      → (lookup_of b root row ≡ Found.At page cell n) ↔ (Carries b d root row page cell × (n ≡ length (payload_of b page cell)))
  lookup-shows = finds.shows

  -- .. it is the only one
  pub lookup-once : (page cell page' cell' : ℕ) → Carries b d root row page cell → Carries b d root row page' cell' → (page ≡ page') × (cell ≡ cell')
  lookup-once = finds.once

  -- .. otherwise the answer is nothing
  pub lookup-nothing : (lookup_of b root row ≡ Found.Nothing) ↔ ((page cell : ℕ) → Carries b d root row page cell → ⊥)
  lookup-nothing = finds.nothing

  -- .. and it refuses for none
  pub lookup-passes : (number page : ℕ) → lookup_of b root row ≢ Found.Refused number page
  lookup-passes number page e = finds.passes (number, page, e)

-- 5. The payload of every cell of an accepted image's trees ..
module _ (b : List ℕ) (d : Dealing) (g : GoodDealing b d) (page cell : ℕ) (w : PayloadCell b d page cell) where
  fetches : (out : List ℕ)
      → Fetches b d page cell out (out_of (fetched_of b page cell (length out)) (payload_of b page cell) out)
      (Copied (fetched_of b page cell (length out))) (NoRoom (fetched_of b page cell (length out)))
  fetches out = L.fetches g w out _ (fetched_of b page cell (length out)) refl refl

  -- .. is fetched, with enough room, and stands at the start of the buffer; the rest of it stays
  pub payload-fetched : (out : List ℕ) → length (payload_of b page cell) ≤ length out
      → (fetched_of b page cell (length out) ≡ Fetched.Copied (length (payload_of b page cell)))
      × (out_of (fetched_of b page cell (length out)) (payload_of b page cell) out ≡ payload_of b page cell ++ drop (length (payload_of b page cell)) out)
  payload-fetched out = (fetches out).copied

  -- .. is the payload that the rules speak of: its local bytes, then the bytes of its chain's pages in order
  pub payload-on-pages : OnPages b d page cell
  payload-on-pages = L.on_pages g w

  -- .. and reads as a record: it has a number of columns, and no column of it is told not to read
  pub payload-reads : reads_of (payload_of b page cell) ≡ true
  payload-reads = good-reads g w

  pub payload-column : (column : ℕ) → column_at (payload_of b page cell) column ≢ Err DoesNotRead
  payload-column column = reads-column (payload_of b page cell) column payload-reads

-- 6. In an accepted image, under every table root: a cursor, stepped to the end ..
module _ (b : List ℕ) (d : Dealing) (g : GoodDealing b d) (root : ℕ) (t : TableRoot b d root) where
  -- .. from the first row shows every leaf cell of the tree once, in rising row order, and nothing else
  pub rows-listed : (ss : List (ℕ × ℕ)) × Lists b d root (first_of b root) ss × RowCells b d root 0 ss
  rows-listed = C.first-lists-cells g t

  -- .. from a given row number (of 64 bits), those not below it
  pub rows-from : (row : ℤ) → (ss : List (ℕ × ℕ)) × Lists b d root (seek_of b root row) ss × RowCells b d root (bias_of row) ss
  rows-from row = C.seek-lists-cells g t row

  -- .. from wherever it stands under the root, those past its row
  pub rows-after : (c : Cursor) → Stands b root c
      → (ss : List (ℕ × ℕ)) × Lists b d root (step_of b c) ss × RowCells b d root (suc (row_in b (last_page c) (last_index c))) ss
  rows-after c s = C.step-lists-cells g t c s

  -- Each cell of these lists has a payload that reads as a record.
  pub rows-read : (x : ℕ) (ss : List (ℕ × ℕ)) → RowCells b d root x ss → (q j : ℕ) → Mem (q, j) ss → reads_of (payload_of b q j) ≡ true
  rows-read x ss u q j m = good-reads g (L.leaf-payload t q j (u.each q j m).0)

  -- Two lists of these cells are one list: stepping to the end takes as many steps as there are cells.
  pub one_list : (x : ℕ) (ss ts : List (ℕ × ℕ)) → RowCells b d root x ss → RowCells b d root x ts → ss ≡ ts
  one_list x ss ts u v =
      climbs-one b ss ts u.rising v.rising
      (λ z m. let e = u.each z.0 z.1 m in v.all z.0 z.1 e.0 e.1)
      (λ z m. let e = v.each z.0 z.1 m in u.all z.0 z.1 e.0 e.1)

-- 7. In an accepted image, under every table root, with room for the longest payload: the report is the summary of the reals in a column of all leaf
-- cells of the tree, in rising row order, from left to right; the count is the count itself. It refuses only for want of room (44).
module _ (b : List ℕ) (d : Dealing) (g : GoodDealing b d) (root : ℕ) (t : TableRoot b d root) (column : ℕ) (room : List ℕ) where
  pub report-told : Reports b d root column (length room) (Tells (report_of b root column room)) (Is (report_of b root column room))
      (Reported.Refuses (report_of b root column room))
  report-told = R.reports g t column room (report_of b root column room) refl

-- 8. Ledgers made elsewhere: w is a proposal; ks, ns and ss are the ledgers that were lent. The checker ..
module _ (b w ks ns ss : List ℕ) where
  checks : Checks b w ks ns ss
      (Says (checked_of w (verdict_is b [] (length ks) (length ns) (length ss)) (kinds_at b [] ks (length ns) (length ss))
      (namers_at b [] (length ks) ns (length ss)) (steps_at b [] (length ks) (length ns) ss)))
      (kinds_at b [] ks (length ns) (length ss)) (namers_at b [] (length ks) ns (length ss)) (steps_at b [] (length ks) (length ns) ss)
  checks = P.checks b w ks ns ss _ _ _ _ (refl, (refl, (refl, (refl, means b [] ks ns ss)))) _ refl

  abbrev Yes : Type 0
  Yes =
      Says (checked_of w (verdict_is b [] (length ks) (length ns) (length ss)) (kinds_at b [] ks (length ns) (length ss))
      (namers_at b [] (length ks) ns (length ss)) (steps_at b [] (length ks) (length ns) ss))

  -- .. says yes exactly when the verdict, no root named, accepts the image and the proposal is its ledger
  pub yes-exactly : Yes ↔ ((n k : ℕ) × (verdict_is b [] (length ks) (length ns) (length ss) ≡ Accepted n k)
      × (w ≡ proposal_of n (kinds_at b [] ks (length ns) (length ss)) (namers_at b [] (length ks) ns (length ss))
      (steps_at b [] (length ks) (length ns) ss)))
  yes-exactly = checks.exactly

  -- .. so, refusal 12 aside, exactly when the image is good and the proposal spells its one dealing
  pub yes-good : pages_of b ≤ length ks → pages_of b ≤ length ns → pages_of b ≤ length ss
      → Yes ↔ ((d : Dealing) × GoodDealing b d × (w ≡ dealt_out (pages_of b) d))
  yes-good k n s = (checks.sound, λ x. checks.complete k n s x.0 x.1 x.2)
