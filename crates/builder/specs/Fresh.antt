-- What holds of the file that is built, stated without the walk: it is good by the layout's dealing, the schema record is row 1 of page 1, page 2 is a table
-- root, and its tree carries exactly the rows.
use Rattle.std.specs.Prelude.{ℕ, ◌*◌, ◌<◌, ◌≡◌, List, ℤ, pos, length, get_or}
use Rattle.number.specs.Bytes.{bias_of}
use Rattle.dealing.specs.Good.{LeafCell}
use Rattle.dealing.specs.Spelling.{long_in}
use Rattle.image.specs.Image.{file_of}
use Rattle.image.specs.Payload.{payload_of}
use Rattle.image.specs.Good.{GoodDealing, TableRoot, Carries}
use Rattle.writing.specs.Rows.{Row, no_row}
use Rattle.writing.specs.Layout.{leaves_of, image_of}
use Rattle.writing.specs.Dealt.{leaf_with, cell_with, dealing_of}
use Rattle.builder.specs.Build.{pages_for}

pub record FreshFile (schema : List ℕ) (rows : List Row) : Type 0 where
  -- the dealing of the layout, which is then the only one
  pub good : GoodDealing (image_of schema rows) (dealing_of (leaves_of rows))
  -- page 1 has one cell: the schema record, with row number 1
  pub schema_row_is : ((file_of (image_of schema rows)).count 1 ≡ 1) × (((file_of (image_of schema rows)).cell 1 0).row ≡ bias_of (pos 1))
      × (payload_of (image_of schema rows) 1 0 ≡ schema)
  pub root : TableRoot (image_of schema rows) (dealing_of (leaves_of rows)) 2
  -- the xth row stands in its leaf cell, with its payload ..
  pub row : (x : ℕ) → x < length rows
      → Carries (image_of schema rows) (dealing_of (leaves_of rows)) 2 (get_or rows x no_row).number (leaf_with (leaves_of rows) x) (cell_with (leaves_of rows) x)
      × (payload_of (image_of schema rows) (leaf_with (leaves_of rows) x) (cell_with (leaves_of rows) x) ≡ (get_or rows x no_row).payload)
  -- .. every leaf cell is one of these ..
  pub place : (page cell : ℕ) → LeafCell (file_of (image_of schema rows)) (dealing_of (leaves_of rows)) 2 page cell
      → (x : ℕ) × (x < length rows) × (leaf_with (leaves_of rows) x ≡ page) × (cell_with (leaves_of rows) x ≡ cell)
  -- .. and no other number is carried
  pub only : (row : ℤ) (page cell : ℕ) → Carries (image_of schema rows) (dealing_of (leaves_of rows)) 2 row page cell
      → (x : ℕ) × (x < length rows) × (bias_of (get_or rows x no_row).number ≡ bias_of row)
  -- no number is spelled long
  pub short : long_in (file_of (image_of schema rows)) (dealing_of (leaves_of rows)) ≡ 0
  pub whole : length (image_of schema rows) ≡ pages_for rows * 1024
