-- What acceptance means, told without the walk, whatever form the answer has: beside the equations, the verdict's contract says this.
-- dealing/specs/File.antt says how to read it.
use Rattle.std.specs.Prelude.{ℕ, ◌-◌, ◌*◌, ◌≤◌, ◌≡◌, ◌↔◌, List, length, get_or}
use Rattle.header.specs.Header.{pages_of}
use Rattle.dealing.specs.Good.{Dealing}
use Rattle.dealing.specs.Spelling.{long_in}
use Rattle.image.specs.Image.{file_of}
use Rattle.image.specs.Good.{GoodDealing, Agree}
use Rattle.names.specs.Good.{GoodImageFor}
use Rattle.verdict.specs.Answer as D

-- The caller names the roots in `ordered` as plain ascending; with none named the images that are good for the names are the good ones (names/proofs/Good.antt, `none-good`).
-- `Accepts n k` says that the answer accepts, and tells n pages and k numbers spelled long; ks, ns and ss are the ledgers at entry, ks', ns' and ss' at exit
pub record Means (b ordered ks ns ss : List ℕ) (Accepts : (n k : ℕ) → Type 0) (ks' ns' ss' : List ℕ) : Type 0 where
  -- what the verdict accepts is good for the names, and it tells the number of pages ..
  pub accepts : (n k : ℕ) → Accepts n k → (n ≡ pages_of b) × GoodImageFor ordered b
  -- .. and it accepts exactly the images that are, refusal 12 aside
  pub exactly : pages_of b ≤ length ks → pages_of b ≤ length ns → pages_of b ≤ length ss → ((k : ℕ) × Accepts (pages_of b) k) ↔ GoodImageFor ordered b
  -- no image has two good dealings
  pub only : (d d' : Dealing) → GoodDealing b d → GoodDealing b d' → Agree b d d'
  -- on acceptance the ledgers' first N entries are the good dealing's kinds, namers and steps
  pub ledgers : (k : ℕ) → Accepts (pages_of b) k → (d : Dealing) → GoodDealing b d → (p : ℕ) → 1 ≤ p → p ≤ pages_of b
      → (get_or ks' (p - 1) 0 ≡ d.kind p) × (get_or ns' (p - 1) 0 ≡ d.namer p) × (get_or ss' (p - 1) 0 ≡ d.step p)
  -- and the count is the image's and that dealing's: so many payload lengths, row numbers and interior keys, in the cells of all tree pages, are not in their shortest spelling
  pub count : (n k : ℕ) → Accepts n k → (d : Dealing) → GoodDealing b d → k ≡ long_in (file_of b) d
  -- it is at most 65536 a page
  pub count_most : (n k : ℕ) → Accepts n k → k ≤ n * 65536

abbrev pub Accepts : D.Answer → (n k : ℕ) → Type 0
Accepts r n k = r ≡ D.Accepted n k
