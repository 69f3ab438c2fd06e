-- What the builder answers and leaves: its refusals in their order, the number of pages, the image. writing/specs/Layout.antt has the image's bytes, docs/LAYOUT.md the same in words.
use Rattle.std.specs.Prelude.{ℕ, zero, suc, ◌+◌, ◌-◌, ◌*◌, Bool, true, false, cond, not, List, ◌++◌, eqb, ltb, ℤ, pos, negsuc, length, get_or, drop}
use Rattle.std.specs.Int.{w64}
use Rattle.std.proofs.Common.{SFits}
use Rattle.number.specs.Bytes.{part, bias_of}
use Rattle.record.specs.Record.{reads_of}
use Rattle.cell.specs.Split.{payload_limit}
use Rattle.dealing.specs.File.{Column4, unfit, null, integer}
use Rattle.image.specs.Schema.{column4_of}
use Rattle.writing.specs.Rows.{Row}
use Rattle.writing.specs.Groups.{group_leaves}
use Rattle.writing.specs.Layout.{size, links_all, tree_size, image_of}
use Rattle.writing.specs.Given.{rows_given}
use Rattle.filling.specs.Fill.{sum_from}
use Rattle.builder.specs.Built.{Built}

-- numbers of 64 bits, as those of a slice are
pub record AllFit (ns : List ℤ) : Type 0 where
  pub each : (i : ℕ) → SFits w64 (get_or ns i (pos 0))

-- at most so many rows, and so many pages
abbrev pub rows_most : ℕ
rows_most = 4096

abbrev pub pages_most : ℕ
pages_most = 4096

-- each of the k numbers behind the ith is above the one before it, signed
unfoldable pub rises_from : List ℤ → (k i : ℕ) → Bool
rises_from ns zero i = true
rises_from ns (suc k) i = cond (ltb (bias_of (get_or ns i (pos 0))) (bias_of (get_or ns (i + 1) (pos 0)))) (rises_from ns k (i + 1)) false

-- one of k lengths from the ith on is over the limit
unfoldable pub over_from : List ℕ → (k i : ℕ) → Bool
over_from ls zero i = false
over_from ls (suc k) i = cond (ltb payload_limit (get_or ls i 0)) true (over_from ls k (i + 1))

-- one of k payloads from the ith on, which begins at `off`, does not read as a record
unfoldable pub unread_from : (lengths payloads : List ℕ) (k i off : ℕ) → Bool
unread_from ls ps zero i off = false
unread_from ls ps (suc k) i off = cond (reads_of (part ps off (get_or ls i 0))) (unread_from ls ps k (i + 1) (off + get_or ls i 0)) true

-- 48: the lists differ in length, too many rows, the lengths do not add up to the payloads, or the numbers do not rise
abbrev pub bad_lists : List ℤ → (lengths payloads : List ℕ) → Bool
bad_lists ns ls ps =
    cond (eqb (length ls) (length ns))
    (cond (ltb rows_most (length ns)) true (cond (eqb (sum_from ls (length ns) 0) (length ps)) (not (rises_from ns (length ns - 1) 0)) true)) true

-- column four is 2, in any integer type
abbrev pub is_two : Column4 → Bool
is_two unfit = false
is_two null = false
is_two (integer (pos n)) = eqb n 2
is_two (integer (negsuc n)) = false

-- 28: page 1 has room for a cell of 914 bytes, which has a record of 911; or the record has not five columns with 2 in the fourth
abbrev pub bad_schema : List ℕ → Bool
bad_schema schema = cond (ltb 911 (length schema)) true (not (is_two (column4_of schema)))

-- how many pages the layout has: page 1, the tree, the overflow pages
abbrev pub pages_for : List Row → ℕ
pages_for rows = 1 + tree_size (group_leaves size rows) + links_all rows

-- the first refusal that the inputs alone give: 48, 26, 28 for a row, 28 for the schema; 0: none
unfoldable pub given_refusal : (schema : List ℕ) → List ℤ → (lengths payloads : List ℕ) → ℕ
given_refusal schema ns ls ps =
    cond (bad_lists ns ls ps) 48 (cond (over_from ls (length ls) 0) 26 (cond (unread_from ls ps (length ls) 0 0) 28 (cond (bad_schema schema) 28 0)))

-- that of n pages, for an output of `room` bytes: 5, 44
abbrev pub size_refusal : (n room : ℕ) → ℕ
size_refusal n room = cond (ltb pages_most n) 5 (cond (ltb room (n * size)) 44 0)

-- the first refusal; 0: none
unfoldable pub refusal_of : (schema : List ℕ) → List ℤ → (lengths payloads : List ℕ) (room : ℕ) → ℕ
refusal_of schema ns ls ps room =
    cond (eqb (given_refusal schema ns ls ps) 0) (size_refusal (pages_for (rows_given ns ls ps)) room) (given_refusal schema ns ls ps)

-- what it answers; with a refusal no page
unfoldable pub built_of : (schema : List ℕ) → List ℤ → (lengths payloads : List ℕ) (room : ℕ) → Built
built_of schema ns ls ps room =
    record {
      refusal = refusal_of schema ns ls ps room;
      pages = cond (eqb (refusal_of schema ns ls ps room) 0) (pages_for (rows_given ns ls ps)) 0;
    }

-- what the output holds then: the image, and behind it what it held; with a refusal all is as it was
unfoldable pub out_at : (schema : List ℕ) → List ℤ → (lengths payloads out : List ℕ) → List ℕ
out_at schema ns ls ps out =
    cond (eqb (refusal_of schema ns ls ps (length out)) 0)
    (image_of schema (rows_given ns ls ps) ++ drop (pages_for (rows_given ns ls ps) * size) out) out
