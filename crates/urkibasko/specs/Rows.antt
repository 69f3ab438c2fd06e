use Rattle.std.specs.Prelude.{ℕ, ◌≡◌, List, ℤ, pos}
use Rattle.dealing.specs.Good.{Dealing}
use Rattle.cursor.specs.Answers.{stepped}
use Rattle.cursor.specs.Means.{RowsOn}
use Rattle.cursor.specs.Shown as S
use Rattle.cursor_words.specs.Words.{cursor_in}
use Rattle.urkibasko.specs.declared.answers.UrkRow.{UrkRow}

abbrev pub row_is : (refusal page found cell length : ℕ) → ℤ → UrkRow
row_is refusal page found cell length row = record { refusal = refusal; page = page; found = found; cell = cell; length = length; row = row }

-- found 1 with page, cell, length and row number; at the end found 0 and the rest 0; a refusal with its page
abbrev pub row_c : S.Shown → UrkRow
row_c S.End = row_is 0 0 0 0 0 (pos 0)
row_c (S.Row page cell length row) = row_is 0 page 1 cell length row
row_c (S.Refused number page) = row_is number page 0 0 0 (pos 0)

-- the answer is what C sees of s, and s with the cursor in the words lists the rows from x on
abbrev pub RowsC : List ℕ → Dealing → (root x : ℕ) → UrkRow → (words : List ℕ) → Type 0
RowsC b d root x r w = (s : S.Shown) × (r ≡ row_c s) × RowsOn b d root x (stepped s (cursor_in w))
