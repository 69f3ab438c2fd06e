-- What the library answers on an image that is written: the verdict accepts it with the ledgers of the layout, lookup shows each row and no
-- other, the payload is the row's,
-- and the cursor lists the rows in their order.
use Prim.Native.Nat.{ℕ, zero, suc, ◌+◌, ◌-◌, ◌≤◌, ◌<◌}
use mathlib.Core.Path.{◌≡◌, refl, sym, ap, ◌∙◌, subst}
use mathlib.Core.Logic.{◌↔◌, ⊎_elim}
use mathlib.Core.List.Memᴰ.{head as here}
use mathlib.Core.List.Memᴰ.{tail as there}
use mathlib.Core.List.{List, [], ◌∷◌, ◌++◌, Memᴰ as Mem}
use native.Mathlib.Omega.{arith}
use lib.IntN.{ℤ, pos}
use lib.ListN.{length, get_or, drop}
use mir.Syntax.{w64}
use mir.Val.{SFits}
use Rattle.number.specs.Bytes.{bias_of}
use Rattle.number.proofs.Cases.{lt-or-ge}
use Rattle.number.proofs.SignedLaws.{bias-injective}
use Rattle.header.specs.Header.{pages_of}
use Rattle.dealing.specs.File.{Page, HasPayload, is_leaf, is_table, integer}
use Rattle.dealing.specs.Good.{Dealing, TreePage, InTree, LeafCell}
use Rattle.image.specs.Payload.{payload_of}
use Rattle.image.specs.Schema.{column4_of}
use Rattle.image.specs.Image.{file_of}
use Rattle.image.specs.Good.{GoodDealing, TableRoot, Carries, PayloadCell}
use Rattle.verdict.specs.Verdict.{verdict_is, kinds_at, namers_at, steps_at}
use Rattle.verdict.specs.Answer.{Accepted}
use Rattle.lookup.specs.Answers.{lookup_of, fetched_of, out_of}
use Rattle.lookup.specs.Found as Found
use Rattle.lookup.specs.Fetched as Fetched
use Rattle.cursor.specs.Answers.{first_of}
use Rattle.cursor.specs.Means.{row_in, Lists, Climbs, RowCells}
use Rattle.lookup.proofs.Theorems.{in_tree}
use Rattle.acceptance.proofs.Theorems.{accepted-exactly, ledgers, spelled-long, lookup-shows, lookup-nothing, payload-fetched, rows-listed, one_list}
use Rattle.writing.specs.Rows.{Row, no_row}
use Rattle.writing.specs.Layout.{leaves_of, later_pages, image_of}
use Rattle.writing.specs.Dealt.{leaf_with, cell_with, kind_of, namer_of, step_from, dealing_of}
use Rattle.writing.proofs.RowsLaid.{row_at}
use Rattle.writing.proofs.Built.{Fits, built}
use Rattle.writing.proofs.Order.{Rises}
use Rattle.writing.proofs.FreshGood.{AllRead, fresh-good, fresh-root, fresh-row, fresh-only, fresh-place, fresh-short}

-- where k rows from the xth on stand, by page and index
unfoldable pub places_from : (leaves : List (List Row)) (k x : ℕ) → List (ℕ × ℕ)
places_from leaves zero x = []
places_from leaves (suc k) x = (leaf_with leaves x, cell_with leaves x) ∷ places_from leaves k (suc x)

place_in : (leaves : List (List Row)) (k x y : ℕ) → x ≤ y → y < x + k → Mem (leaf_with leaves y, cell_with leaves y) (places_from leaves k x)
unfolding places_from
place_in leaves zero x y l h = absurd (omega arith)
place_in leaves (suc k) x y l h =
    ⊎_elim (λ (m : x < y). there (place_in leaves k (suc x) y (omega arith) (omega arith)))
    (λ (m : y ≤ x). let e : y ≡ x = omega arith in here (ap (λ z. (leaf_with leaves z, cell_with leaves z)) e)) (lt-or-ge x y)

place_of : (leaves : List (List Row)) (k x : ℕ) (q j : ℕ) → Mem (q, j) (places_from leaves k x)
    → (y : ℕ) × (x ≤ y) × (y < x + k) × (q ≡ leaf_with leaves y) × (j ≡ cell_with leaves y)
unfolding places_from
place_of leaves zero x q j m = elim m [ ]
place_of leaves (suc k) x q j (here e) = (x, omega arith, omega arith, ap (λ (z : ℕ × ℕ). z.0) e, ap (λ (z : ℕ × ℕ). z.1) e)
place_of leaves (suc k) x q j (there m) = let w = place_of leaves k (suc x) q j m in (w.0, omega (arith, w.1), omega (arith, w.2), w.3, w.4)

-- rows rise: of two, the later has the larger number
rises-from : (lo : ℕ) (rows : List Row) (y : ℕ) → Rises lo rows → y < length rows → lo ≤ bias_of (get_or rows y no_row).number
rises-from lo [] y h l = absurd (omega arith)
rises-from lo (r ∷ rs) zero h l = h.0
rises-from lo (r ∷ rs) (suc y) h l = omega (arith, h.0, rises-from (suc (bias_of r.number)) rs y h.1 (omega arith))

rises-two : (lo : ℕ) (rows : List Row) (x y : ℕ) → Rises lo rows → x < y → y < length rows
    → bias_of (get_or rows x no_row).number < bias_of (get_or rows y no_row).number
rises-two lo [] x y h l m = absurd (omega arith)
rises-two lo (r ∷ rs) zero zero h l m = absurd (omega arith)
rises-two lo (r ∷ rs) zero (suc y) h l m = omega (arith, rises-from (suc (bias_of r.number)) rs y h.1 (omega arith))
rises-two lo (r ∷ rs) (suc x) zero h l m = absurd (omega arith)
rises-two lo (r ∷ rs) (suc x) (suc y) h l m = rises-two (suc (bias_of r.number)) rs x y h.1 (omega arith) (omega arith)

module _ (schema : List ℕ) (rows : List Row) (fits : Fits schema rows) (rises : Rises 0 rows) (read_all : AllRead rows)
    (names-2 : column4_of schema ≡ integer (pos 2)) where
  abbrev image : List ℕ
  image = image_of schema rows

  abbrev leaves : List (List Row)
  leaves = leaves_of rows

  abbrev d : Dealing
  d = dealing_of leaves

  abbrev pages : ℕ
  pages = 1 + length (later_pages rows)

  pages-is : pages_of image ≡ pages
  pages-is = (built schema rows fits).header.pages-is

  good : GoodDealing image d
  good = fresh-good schema rows fits rises read_all names-2

  root : TableRoot image d 2
  root = fresh-root schema rows fits rises read_all names-2

  -- ---- the verdict
  module _ (ks ns ss : List ℕ) (k : pages ≤ length ks) (l : pages ≤ length ns) (m : pages ≤ length ss) where
    told : verdict_is image [] (length ks) (length ns) (length ss) ≡ Accepted (pages_of image) 0
    told =
        let w = (accepted-exactly image (length ks) (length ns) (length ss) (omega (arith, pages-is)) (omega (arith, pages-is))
        (omega (arith, pages-is))).1 (d, good) in
        let z : w.0 ≡ 0 = spelled-long image [] ks ns ss w.0 w.1 d good ∙ fresh-short schema rows fits rises read_all names-2 in
        w.1 ∙ ap (Accepted (pages_of image)) z

    -- it accepts the image, with its number of pages, and no number spelled long
    pub accepted : verdict_is image [] (length ks) (length ns) (length ss) ≡ Accepted pages 0
    accepted = told ∙ ap (λ n. Accepted n 0) pages-is

    -- its ledgers are those of the layout
    pub laid_out : (p : ℕ) → 1 ≤ p → p ≤ pages
        → (get_or (kinds_at image [] ks (length ns) (length ss)) (p - 1) 0 ≡ kind_of leaves p)
        × (get_or (namers_at image [] (length ks) ns (length ss)) (p - 1) 0 ≡ namer_of leaves p)
        × (get_or (steps_at image [] (length ks) (length ns) ss) (p - 1) 0 ≡ step_from leaves p p)
    laid_out p low high = ledgers image [] ks ns ss 0 told d good p low (omega (arith, pages-is))

  -- ---- lookup and payload

  -- lookup shows each row, with the length of its payload
  pub shown : (x : ℕ) → x < length rows
      → lookup_of image 2 (get_or rows x no_row).number
      ≡ Found.At (leaf_with leaves x) (cell_with leaves x) (length (get_or rows x no_row).payload)
  shown x l =
      let w = fresh-row schema rows fits rises read_all names-2 x l in
      (lookup-shows image d good 2 root (get_or rows x no_row).number (leaf_with leaves x) (cell_with leaves x)
      (length (get_or rows x no_row).payload)).1
      (w.0, ap length (sym w.1))

  -- and nothing for any other number
  pub nothing : (row : ℤ) → SFits w64 row → ((x : ℕ) → x < length rows → (get_or rows x no_row).number ≡ row → ⊥)
      → lookup_of image 2 row ≡ Found.Nothing
  nothing row f none =
      (lookup-nothing image d good 2 root row).1
      (λ page cell c.
      let w = fresh-only schema rows fits rises read_all names-2 row page cell c in
      none w.0 w.1 (bias-injective (get_or rows w.0 no_row).number row (row_at rows w.0 w.1 fits.all).number f w.2))

  cell-of : (q j : ℕ) → LeafCell (file_of image) d 2 q j → PayloadCell image d q j
  cell-of q j c = let p = in_tree (file_of image) d 2 root.page root.kind c.0.0 q c.0.1 in
      record { in_file = p.0; tree = p.1; has = rw c.1; index = c.2 }

  -- the payload fetched is the row's
  pub fetched : (x : ℕ) → x < length rows → (out : List ℕ) → length (get_or rows x no_row).payload ≤ length out
      → (fetched_of image (leaf_with leaves x) (cell_with leaves x) (length out) ≡ Fetched.Copied (length (get_or rows x no_row).payload))
      × (out_of (fetched_of image (leaf_with leaves x) (cell_with leaves x) (length out)) (payload_of image (leaf_with leaves x) (cell_with leaves x)) out
      ≡ (get_or rows x no_row).payload ++ drop (length (get_or rows x no_row).payload) out)
  fetched x l out h =
      let w = fresh-row schema rows fits rises read_all names-2 x l in
      let e = w.1 in
      let f = payload-fetched image d good (leaf_with leaves x) (cell_with leaves x)
      (cell-of (leaf_with leaves x) (cell_with leaves x) w.0.leaf) out (omega (arith, ap length e)) in
      (f.0 ∙ ap (λ p. Fetched.Copied (length p)) e, f.1 ∙ ap (λ p. p ++ drop (length p) out) e)

  -- ---- the cursor
  cells : RowCells image d 2 0 (places_from leaves (length rows) 0)
  unfolding places_from
  cells =
      record {
        each = λ q j m.
            let w = place_of leaves (length rows) 0 q j m in
            let c = (fresh-row schema rows fits rises read_all names-2 w.0 (omega (arith, w.2))).0 in (
              subst (λ z. LeafCell (file_of image) d 2 z j) (sym w.3)
                  (subst (LeafCell (file_of image) d 2 (leaf_with leaves w.0)) (sym w.4) c.leaf),
              omega arith,
            );
        all = λ q j c h.
            let w = fresh-place schema rows fits rises read_all names-2 q j c in
            subst (λ z. Mem (z, j) (places_from leaves (length rows) 0)) w.2
            (subst (λ z. Mem (leaf_with leaves w.0, z) (places_from leaves (length rows) 0)) w.3
            (place_in leaves (length rows) 0 w.0 (omega arith) (omega (arith, w.1))));
        rising = climbs (length rows) 0 (omega arith);
      }
    where
      number_is : (x : ℕ) → x < length rows → row_in image (leaf_with leaves x) (cell_with leaves x) ≡ bias_of (get_or rows x no_row).number
      number_is x l = (fresh-row schema rows fits rises read_all names-2 x l).0.number

      climbs : (k x : ℕ) → x + k ≤ length rows → Climbs image (places_from leaves k x)
      climbs zero x h = tt
      climbs (suc k) x h = (
        λ q j m.
            let w = place_of leaves k (suc x) q j m in
            let y : w.0 < length rows = omega (arith, w.2) in
            let e : row_in image q j ≡ bias_of (get_or rows w.0 no_row).number =
            ap (λ z. row_in image z j) w.3 ∙ ap (row_in image (leaf_with leaves w.0)) w.4 ∙ number_is w.0 y in
            omega (arith, number_is x (omega arith), rises-two 0 rows x w.0 rises (omega (arith, w.1)) y),
        climbs k (suc x) (omega arith),
      )

  -- stepped to the end from the first row it shows exactly the rows, in their order
  pub listed : Lists image d 2 (first_of image 2) (places_from leaves (length rows) 0)
  listed =
      let w = rows-listed image d good 2 root in
      subst (Lists image d 2 (first_of image 2)) (one_list image d good 2 root 0 w.0 (places_from leaves (length rows) 0) w.2 cells) w.1
