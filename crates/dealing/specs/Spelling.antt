-- Numbers that are not in their shortest spelling, counted over a file and its dealing: payload
-- lengths, row numbers and interior keys, in the cells of all tree pages.
-- Nothing of the walk is in it. Definitions only; File says how to read them.
use Rattle.std.specs.Prelude.{Bool, true, cond, List, ℕ, zero, suc, ◌+◌, ◌-◌, eqb, get_or}
use Rattle.dealing.specs.File.{File, root_kind, tree_kind}
use Rattle.dealing.specs.Good.{Dealing}

-- in the cells of a page with an index below n
unfoldable pub long_cells : File → (page n : ℕ) → ℕ
long_cells f p zero = 0
long_cells f p (suc n) = long_cells f p n + (f.cell p n).long

-- a tree page is a root or another tree page
abbrev pub is_tree : (kind : ℕ) → Bool
is_tree k = cond (eqb k root_kind) true (eqb k tree_kind)

-- on a page of that kind: on a tree page in all its cells, on another none
unfoldable pub long_on : File → (kind page : ℕ) → ℕ
long_on f k p = cond (is_tree k) (long_cells f p (f.count p)) 0

-- on the pages 1 to n, `kind` being the kind of each
unfoldable pub long_to : File → (kind : ℕ → ℕ) → (n : ℕ) → ℕ
long_to f kind zero = 0
long_to f kind (suc n) = long_to f kind n + long_on f (kind (suc n)) (suc n)

-- the count of a file and its dealing
abbrev pub long_in : File → Dealing → ℕ
long_in f d = long_to f d.kind f.N

-- the same by a ledger of kinds, one entry a page
abbrev pub long_by : File → (kinds : List ℕ) → ℕ
long_by f ks = long_to f (λ p. get_or ks (p - 1) 0) f.N
