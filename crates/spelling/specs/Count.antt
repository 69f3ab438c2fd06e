use Rattle.std.specs.Prelude.{ℕ, zero, suc, ◌+◌, ◌-◌, ◌≤◌, ◌≡◌, Bool, true, false, cond, List, eqb, length, get_or}
use Rattle.header.specs.declared.Header.{Header}
use Rattle.cell.specs.Cell.{cell_at}
use Rattle.page.specs.Header.{cell_of}
use Rattle.dealing.specs.File.{File}
use Rattle.dealing.specs.Spelling.{is_tree, long_cells}
use Rattle.image.specs.Image.{file_of}
use Rattle.image.specs.Ready.{Opened}

-- a cell that was read before, on a page with u usable bytes
pub record Read (p : List ℕ) (u type at : ℕ) : Type 0 where
  pub least : 480 ≤ u
  pub most : u ≤ 65536
  pub within : u ≤ length p
  pub reads : (cell_at p u type at).fault ≡ 0

-- in the cells of a page with an index below n
unfoldable pub page_long : List ℕ → (u head n : ℕ) → ℕ
page_long p u head zero = 0
page_long p u head (suc n) = page_long p u head n + (cell_of p u head n).long

-- b passed refusals 1 to 11, ks has an entry for each page, and each page that it gives a tree page's kind is sound
pub record Trees (b : List ℕ) (h : Header) (ks : List ℕ) : Type 0 where
  pub opened : Opened b h
  pub long : length ks ≡ h.pages
  pub sound : (p : ℕ) → 1 ≤ p → p ≤ h.pages → is_tree (get_or ks (p - 1) 0) ≡ true → (file_of b).broken p ≡ 0

-- a ledger of n entries, one a page: a page noted with 1 has no number spelled long
pub record Short (f : File) (n : ℕ) (short : List ℕ) : Type 0 where
  pub entries : length short ≡ n
  pub noted : (i : ℕ) → get_or short i 0 ≡ 1 → long_cells f (i + 1) (f.count (i + 1)) ≡ 0

-- a tree page that is not noted
abbrev pub is_open : (kind noted : ℕ) → Bool
is_open k x = cond (eqb x 1) false (is_tree k)
