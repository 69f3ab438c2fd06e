-- Two images that differ in bytes alone that no answer is to depend on: free leaf pages, reserved tails of pages, and on tree pages the gap between the pointer array and the content start.
-- `kind` gives the kind of each page of the first image: by its dealing d that is `d.kind`, by the ledger ks of kinds `kind_by ks`. Definitions only; dealing/specs/File.antt says how to read them.
use Rattle.std.specs.Prelude.{ℕ, ◌+◌, ◌-◌, ◌*◌, ◌≤◌, ◌<◌, ◌≡◌, ◌⊎◌, List, length, get_or}
use Rattle.number.specs.Bytes.{byte_at}
use Rattle.header.specs.Header.{size_of, usable_of, pages_of}
use Rattle.page.specs.Header.{content_start, array_end}
use Rattle.dealing.specs.File.{root_kind, trunk_kind, free_kind, tree_kind}
use Rattle.image.specs.Pages.{page_in, head_of, trunk_count_in}

-- the kind of page p by a ledger, one entry a page
abbrev pub kind_by : (kinds : List ℕ) → (p : ℕ) → ℕ
kind_by ks p = get_or ks (p - 1) 0

-- byte i of page p lies in the reserved tail, which every page has
abbrev pub InTail : List ℕ → (i : ℕ) → Type 0
InTail b i = usable_of b ≤ i

-- it lies between the end of the pointer array and the content start of a tree page, as the page itself says them
abbrev pub InGap : List ℕ → (kind : ℕ → ℕ) → (p i : ℕ) → Type 0
InGap b kind p i =
    ((kind p ≡ root_kind) ⊎ (kind p ≡ tree_kind)) × (array_end (page_in b p) (head_of p) ≤ i) × (i < content_start (page_in b p) (head_of p))

-- byte i of page p, a page of 1 to N, may change: the page is a free leaf, or the byte lies in the tail or in the gap
abbrev pub Unread : List ℕ → (kind : ℕ → ℕ) → (p i : ℕ) → Type 0
Unread b kind p i = (1 ≤ p) × (p ≤ pages_of b) × ((kind p ≡ free_kind) ⊎ (InTail b i ⊎ InGap b kind p i))

-- byte i of page p, in the whole image
abbrev pub place_of : List ℕ → (p i : ℕ) → ℕ
place_of b p i = (p - 1) * size_of b + i

-- c is b but for such bytes: as long, and every other byte the same, past page N too
pub record Altered (b c : List ℕ) (kind : ℕ → ℕ) : Type 0 where
  pub long : length c ≡ length b
  pub same : (p i : ℕ) → 1 ≤ p → i < size_of b → (Unread b kind p i → ⊥) → byte_at c (place_of b p i) ≡ byte_at b (place_of b p i)

-- More may change: besides, all of the lock-byte page (kind 8), what follows a trunk's leaf numbers, and pages past N.
abbrev pub Spare : List ℕ → (kind : ℕ → ℕ) → (p i : ℕ) → Type 0
Spare b kind p i =
    (pages_of b < p) ⊎ ((kind p ≡ 8) ⊎ (((kind p ≡ trunk_kind) × (8 + 4 * trunk_count_in b p ≤ i)) ⊎ Unread b kind p i))

pub record Wider (b c : List ℕ) (kind : ℕ → ℕ) : Type 0 where
  pub long : length c ≡ length b
  pub same : (p i : ℕ) → 1 ≤ p → i < size_of b → (Spare b kind p i → ⊥) → byte_at c (place_of b p i) ≡ byte_at b (place_of b p i)
