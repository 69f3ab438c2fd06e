-- What the parts of quick reading ask of each other.
use Rattle.std.specs.Prelude.{ℕ, ◌+◌, ◌≤◌, ◌<◌, ◌≡◌, true, cond, List, leb, ltb, length, Option, Some, None, Result, Ok, Err}
use Rattle.refusal.specs.declared.Rule.{Rule}
use Rattle.refusal.specs.declared.Refusal.{Refusal}
use Rattle.refusal.specs.Rule.{number_of}
use Rattle.cell.specs.declared.Cell.{Cell}
use Rattle.page.specs.Header.{page_type, content_start, cell_count, cell_of, pointer_place, pointer}
use Rattle.page.specs.declared.Place.TheVariants.{PayloadPage}
use Rattle.page.specs.Place.{allowed}
use Rattle.page.specs.Fault.{cell_fault}
use Rattle.lookup.specs.Fetched as Fe
use Rattle.quick.specs.Search.{Sought, ends, stops}

-- a page that may be read: its size, its header's place, its type
pub record Readable (p : List ℕ) (u head kind : ℕ) : Type 0 where
  pub least : 480 ≤ u
  pub most : u ≤ 65536
  pub whole : u ≤ length p
  pub low : head ≤ 100
  pub type : kind ≡ page_type p head

-- and its content start, and where its pointer array begins
pub record Opened (p : List ℕ) (u head kind start first : ℕ) : Type 0 where
  pub page : Readable p u head kind
  pub content : start ≡ content_start p head
  pub array : first ≡ pointer_place p head 0
  pub near : first ≤ 112

-- where the ith cell begins: none where its pointer runs past u, or does not lie from the content start to below u
unfoldable pub start_of : List ℕ → (u head i : ℕ) → Option ℕ
start_of p u head i =
    cond (ltb u (pointer_place p head i + 2)) None
    (cond (ltb (pointer p head i) (content_start p head)) None
    (cond (leb u (pointer p head i)) None (Some (pointer p head i))))

-- c is the ith cell, which is not refused
pub record Looked (p : List ℕ) (u head i : ℕ) (c : Cell) : Type 0 where
  pub fault : cell_fault p u head i ≡ 0
  pub is : c ≡ cell_of p u head i

-- c is the ith cell of a page whose cells have payloads, and is not refused
pub record Picked (p : List ℕ) (u head i : ℕ) (c : Cell) : Type 0 where
  pub fits : allowed PayloadPage (page_type p head) ≡ true
  pub index : i < cell_count p head
  pub looked : Looked p u head i c

-- e is the refusal of the ith cell of page q, if its cells have payloads (22) and there is one (46)
abbrev pub PickRefused : List ℕ → (u head q i : ℕ) → Refusal → Type 0
PickRefused p u head q i e =
    Fe.Refused (number_of e.rule) e.page
    ≡ cond (allowed PayloadPage (page_type p head)) (cond (ltb i (cell_count p head)) (Fe.Refused (cell_fault p u head i) q) (Fe.Refused 46 0)) (Fe.Refused 22 q)

-- the answer of halving
abbrev pub sought_of : Result ℕ Rule → Sought
sought_of (Ok index) = ends index
sought_of (Err rule) = stops (number_of rule)
