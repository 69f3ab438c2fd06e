-- Where a tree page stands, and what its check finds, as the file has them.
use Rattle.std.specs.Prelude.{ℕ, ◌+◌, ◌-◌, ◌≤◌, ◌<◌, ◌≡◌, Bool, true, false, ◌⊎◌, List, length}
use Rattle.header.specs.declared.Header.{Header}
use Rattle.dealing.specs.File.{File, Place, schema_root, any_root, table_page, index_page, is_table, child_place}
use Rattle.dealing.specs.Walk.{Mode, schema_tree, plain_tree, ordered_tree, fault_in}
use Rattle.image.specs.Image.{file_of}
use Rattle.image.specs.Ready.{Opened, PageAt}
use Rattle.tree.specs.declared.Spot as S
use Rattle.tree.specs.Found as F
use Rattle.tree.specs.declared.Mode as M

abbrev pub spot_of : S.Spot → Place
spot_of S.TheVariants.Schema = schema_root
spot_of S.TheVariants.Root = any_root
spot_of S.TheVariants.Table = table_page
spot_of S.TheVariants.Index = index_page

abbrev pub mode_of : M.Mode → Mode
mode_of M.TheVariants.Schema = schema_tree
mode_of M.TheVariants.Plain = plain_tree
mode_of M.TheVariants.Ordered = ordered_tree

-- the check of page p in a place: the first of 22, 23 and 26 that it breaks; where there is none, its type, cells and right pointer
pub record Tests (f : File) (place : Place) (p : ℕ) (r : F.Found) : Type 0 where
  pub fault_is : r.fault ≡ fault_in f place p
  pub kind_is : r.fault ≡ 0 → r.kind ≡ f.type p
  pub cells_is : r.fault ≡ 0 → r.cells ≡ f.count p
  pub right_is : r.fault ≡ 0 → r.right ≡ f.right p

-- a leaf whose cells before `from` and from `to` on have no overflow chain and records that read; no number on it is spelled long, and on a table leaf rows
-- rise from `least` on; `next` is the least that may follow
pub record CalmAt (f : File) (p least next from to : ℕ) : Type 0 where
  pub within : to ≤ f.count p
  pub links : (i : ℕ) → i < f.count p → (i < from) ⊎ (to ≤ i) → (f.cell p i).links ≡ 0
  pub reads : (i : ℕ) → i < f.count p → (i < from) ⊎ (to ≤ i) → (f.cell p i).reads ≡ true
  pub short : (i : ℕ) → i < f.count p → (f.cell p i).long ≡ 0
  pub rises : is_table f p ≡ true → (i : ℕ) → i + 1 < f.count p → (f.cell p i).row < (f.cell p (i + 1)).row
  pub begins : is_table f p ≡ true → 0 < f.count p → least ≤ (f.cell p 0).row
  pub ends : is_table f p ≡ true → 0 < f.count p → next ≡ (f.cell p (f.count p - 1)).row + 1

-- page p is a tree page of that type that was found sound
pub record SoundAt (b : List ℕ) (h : Header) (p kind : ℕ) : Type 0 where
  pub at : PageAt b h p
  pub kind_is : kind ≡ (file_of b).type p
  pub sound : (file_of b).broken p ≡ 0

-- children to walk, which stand at `spot`: those of the sound interior page p; or a root alone, `right`
pub record Above (b : List ℕ) (h : Header) (p kind : ℕ) (spot : S.Spot) (cells right : ℕ) (root : Bool) : Type 0 where
  pub opened : Opened b h
  pub page : root ≡ false → SoundAt b h p kind × (cells ≡ (file_of b).count p) × (right ≡ (file_of b).right p) × (spot_of spot ≡ child_place (is_table (file_of b) p))
  pub alone : root ≡ true → (cells ≡ 0) × PageAt b h right

-- scratch bytes: the marks of a page's check; two payloads where keys are compared
unfoldable pub room_for : Header → M.Mode → ℕ
room_for h M.TheVariants.Schema = h.usable
room_for h M.TheVariants.Plain = h.usable
room_for h M.TheVariants.Ordered = 131072

abbrev pub Room : Header → M.Mode → List ℕ → Type 0
Room h mode w = room_for h mode ≤ length w
