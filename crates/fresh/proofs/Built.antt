-- The same of what the builder builds: wherever it refuses nothing (`refusal_of`), with the rows as they are given to it (`rows_given`).
use Prim.Native.Nat.{ℕ, ◌-◌, ◌≤◌, ◌<◌}
use mathlib.Core.Path.{◌≡◌, sym, ap, ◌∙◌}
use mathlib.Core.List.{List, [], ◌++◌}
use native.Mathlib.Omega.{arith}
use lib.IntN.{ℤ, pos}
use lib.ListN.{length, get_or, drop}
use mir.Syntax.{w64}
use mir.Val.{SFits}
use Rattle.dealing.specs.File.{integer}
use Rattle.image.specs.Payload.{payload_of}
use Rattle.image.specs.Schema.{column4_of}
use Rattle.verdict.specs.Verdict.{verdict_is, kinds_at, namers_at, steps_at}
use Rattle.verdict.specs.Answer.{Accepted}
use Rattle.lookup.specs.Answers.{lookup_of, fetched_of, out_of}
use Rattle.lookup.specs.Found as Found
use Rattle.lookup.specs.Fetched as Fetched
use Rattle.cursor.specs.Answers.{first_of}
use Rattle.cursor.specs.Means.{Lists}
use Rattle.writing.specs.Rows.{Row, no_row}
use Rattle.writing.specs.Given.{rows_given}
use Rattle.writing.specs.Layout.{leaves_of, image_of}
use Rattle.writing.specs.Dealt.{leaf_with, cell_with, kind_of, namer_of, step_from, dealing_of}
use Rattle.writing.proofs.Built.{Fits}
use Rattle.writing.proofs.Order.{Rises}
use Rattle.writing.proofs.FreshGood.{AllRead}
use Rattle.builder.specs.Build.{AllFit, pages_for, refusal_of}
use Rattle.builder.proofs.Clear.{Clear, clear, clear-fits, clear-rises, clear-read, clear-pages}
use Rattle.fresh.proofs.Fresh as F
use Rattle.fresh.proofs.Fresh.{places_from}

-- the numbers are of 64 bits, as those of a slice are
module _ (schema : List ℕ) (numbers : List ℤ) (lengths payloads : List ℕ) (room : ℕ) (fit : AllFit numbers)
    (e : refusal_of schema numbers lengths payloads room ≡ 0) where
  abbrev rows : List Row
  rows = rows_given numbers lengths payloads

  abbrev image : List ℕ
  image = image_of schema rows

  abbrev leaves : List (List Row)
  leaves = leaves_of rows

  c : Clear schema numbers lengths payloads room
  c = clear schema numbers lengths payloads room e

  fits : Fits schema rows
  fits = clear-fits schema numbers lengths payloads room fit c

  rises : Rises 0 rows
  rises = clear-rises schema numbers lengths payloads room fit c

  read : AllRead rows
  read = clear-read schema numbers lengths payloads room fit c

  two : column4_of schema ≡ integer (pos 2)
  two = c.given.two

  module _ (ks ns ss : List ℕ) (k : pages_for rows ≤ length ks) (l : pages_for rows ≤ length ns) (m : pages_for rows ≤ length ss) where
    -- the verdict accepts it, with the layout's ledgers and no number spelled long
    pub accepted : verdict_is image [] (length ks) (length ns) (length ss) ≡ Accepted (pages_for rows) 0
    accepted =
        let n = clear-pages schema numbers lengths payloads room fit c in
        F.accepted schema rows fits rises read two ks ns ss (omega (arith, n)) (omega (arith, n)) (omega (arith, n)) ∙ ap (λ p. Accepted p 0) n

    pub laid_out : (p : ℕ) → 1 ≤ p → p ≤ pages_for rows
        → (get_or (kinds_at image [] ks (length ns) (length ss)) (p - 1) 0 ≡ kind_of leaves p)
        × (get_or (namers_at image [] (length ks) ns (length ss)) (p - 1) 0 ≡ namer_of leaves p)
        × (get_or (steps_at image [] (length ks) (length ns) ss) (p - 1) 0 ≡ step_from leaves p p)
    laid_out p low high =
        let n = clear-pages schema numbers lengths payloads room fit c in
        F.laid_out schema rows fits rises read two ks ns ss (omega (arith, n)) (omega (arith, n)) (omega (arith, n)) p low (omega (arith, n))

  -- lookup shows each row given, and nothing for any other number
  pub shown : (x : ℕ) → x < length rows
      → lookup_of image 2 (get_or rows x no_row).number
      ≡ Found.At (leaf_with leaves x) (cell_with leaves x) (length (get_or rows x no_row).payload)
  shown = F.shown schema rows fits rises read two

  pub nothing : (row : ℤ) → SFits w64 row → ((x : ℕ) → x < length rows → (get_or rows x no_row).number ≡ row → ⊥)
      → lookup_of image 2 row ≡ Found.Nothing
  nothing = F.nothing schema rows fits rises read two

  -- the payload fetched is the row's
  pub fetched : (x : ℕ) → x < length rows → (out : List ℕ) → length (get_or rows x no_row).payload ≤ length out
      → (fetched_of image (leaf_with leaves x) (cell_with leaves x) (length out) ≡ Fetched.Copied (length (get_or rows x no_row).payload))
      × (out_of (fetched_of image (leaf_with leaves x) (cell_with leaves x) (length out)) (payload_of image (leaf_with leaves x) (cell_with leaves x)) out
      ≡ (get_or rows x no_row).payload ++ drop (length (get_or rows x no_row).payload) out)
  fetched = F.fetched schema rows fits rises read two

  -- stepped to the end from the first row the cursor shows exactly the rows, in their order
  pub listed : Lists image (dealing_of leaves) 2 (first_of image 2) (places_from leaves (length rows) 0)
  listed = F.listed schema rows fits rises read two
