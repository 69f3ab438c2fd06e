-- What the parts of lookup ask of each other.
use Rattle.std.specs.Prelude.{ℕ, ◌≡◌, List, cond, eqb}
use Rattle.header.specs.Header.{pages_of, header_refusal}
use Rattle.header.specs.declared.Header.{Header}
use Rattle.cell.specs.declared.Cell.{Cell}
use Rattle.dealing.specs.Walk.{in_range}
use Rattle.image.specs.Pages.{cell_in}
use Rattle.image.specs.Image.{file_of}
use Rattle.image.specs.Ready.{PageAt}

-- page p was checked, and found to have that type and so many cells
pub record TreeAt (b : List ℕ) (h : Header) (p kind count : ℕ) : Type 0 where
  pub at : PageAt b h p
  pub kind_is : kind ≡ (file_of b).type p
  pub sound : (file_of b).broken p ≡ 0
  pub count_is : count ≡ (file_of b).count p

-- c is cell i of page p, which can be read
pub record CellOn (b : List ℕ) (h : Header) (p i : ℕ) (c : Cell) : Type 0 where
  pub at : PageAt b h p
  pub fault : (cell_in b p i).fault ≡ 0
  pub is : c ≡ cell_in b p i

-- the refusal that opening an image at page p gives: 1 to 11, then `missing` where the image has no page p; or 0
abbrev pub opening_refusal : List ℕ → (p missing : ℕ) → ℕ
opening_refusal b p missing = cond (eqb (header_refusal b) 0) (cond (in_range (pages_of b) p) 0 missing) (header_refusal b)
