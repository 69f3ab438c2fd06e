-- The rows under a page, listed from left to right: what a cursor meets, what it shows, and how
-- it steps on. Row numbers and keys are moved up by 2^63, so 0 is the least.
-- Definitions only; File says how to read them.
use Rattle.std.specs.Prelude.{◌≡◌, Bool, true, false, cond, not, ◌&&◌, ℕ, zero, suc, ◌-◌, ◌≤◌, ◌<◌, eqb, leb, ltb}
use mathlib.Core.List.{List, [], ◌∷◌, ◌++◌, Memᴰ as Mem}
use Rattle.dealing.specs.File.{File, is_leaf, table_page, level_limit}
use Rattle.dealing.specs.Good.{Dealing, LeafCell}
use Rattle.dealing.specs.Walk.{fault_in, in_range}

-- a path down to a leaf cell
pub record Path : Type 0 where
  -- the interior pages from the top down, each with the index of the child that the path takes: the cell's, or the cell count for the right child
  pub above : List (ℕ × ℕ)
  pub page : ℕ  -- the leaf ..
  pub index : ℕ  -- .. and the index of its cell

-- ---- what stands under a page
pub data Met : Type 0 where
  cell : Path → Met  -- a leaf cell
  stop : (number page : ℕ) → Met  -- a page that is entered there refuses; what follows is not met

-- k cells of a leaf from index i on
unfoldable pub leaf_met : (p i k : ℕ) → List Met
leaf_met p i zero = []
leaf_met p i (suc k) = cell (record { above = []; page = p; index = i }) ∷ leaf_met p (suc i) k

-- a path, taken from page p by its child i
abbrev pub by : (p i : ℕ) → Path → Path
by p i x = record { above = (p, i) ∷ x.above; page = x.page; index = x.index }

unfoldable pub under : (p i : ℕ) → List Met → List Met
under p i [] = []
under p i (cell x ∷ ms) = cell (by p i x) ∷ under p i ms
under p i (stop n q ∷ ms) = stop n q ∷ under p i ms

-- the child with an index from 0; the last is the right child
unfoldable pub child_at : File → (p i : ℕ) → ℕ
child_at f p i = cond (ltb i (f.count p)) (f.cell p i).child (f.right p)

-- what `below` gives of child i of page p: 20 where it is out of range
unfoldable pub child_met : File → (below : ℕ → List Met) (p i : ℕ) → List Met
child_met f below p i = cond (in_range f.N (child_at f p i)) (under p i (below (child_at f p i))) (stop 20 p ∷ [])

-- k children from index i on
unfoldable pub inner_met : File → (below : ℕ → List Met) (p i k : ℕ) → List Met
inner_met f below p i zero = []
inner_met f below p i (suc k) = child_met f below p i ++ inner_met f below p (suc i) k

-- 0 where the page is fit, else the refusal
abbrev pub unless_stop : (fault p : ℕ) → List Met → List Met
unless_stop zero p ms = ms
unless_stop (suc n) p ms = stop (suc n) p ∷ []

-- all of it, from left to right, with so many levels left: on each page 24, then 22, 23, 26
-- as on a table page, then each child's range (20), as lookup tests them
unfoldable pub listing : File → (levels page : ℕ) → List Met
listing f zero p = stop 24 p ∷ []
listing f (suc l) p =
    unless_stop (fault_in f table_page p) p (cond (is_leaf f p) (leaf_met p 0 (f.count p)) (inner_met f (listing f l) p 0 (suc (f.count p))))

-- the first of k cells from index i on whose key is at least the row number, else i + k
unfoldable pub index_for : File → (row p i k : ℕ) → ℕ
index_for f x p i zero = i
index_for f x p i (suc k) = cond (leb x (f.cell p i).row) i (index_for f x p (suc i) k)

-- the same from where lookup goes down for the row number
unfoldable pub listing_from : File → (row levels page : ℕ) → List Met
listing_from f x zero p = stop 24 p ∷ []
listing_from f x (suc l) p =
    unless_stop (fault_in f table_page p) p
    (cond (is_leaf f p) (leaf_met p 0 (f.count p))
    (child_met f (listing_from f x l) p (index_for f x p 0 (f.count p))
    ++ inner_met f (listing f l) p (suc (index_for f x p 0 (f.count p))) (f.count p - index_for f x p 0 (f.count p))))

-- ---- a stored path
-- its first page
abbrev pub top_of : List (ℕ × ℕ) → (page : ℕ) → ℕ
top_of [] q = q
top_of (s ∷ up) q = s.0

-- it stands: it has at most so many levels, its pages pass lookup's tests, each has the next at its index, and it ends at a leaf cell
unfoldable pub stands_in : File → (levels : ℕ) → (above : List (ℕ × ℕ)) (page index : ℕ) → Bool
stands_in f zero up q j = false
stands_in f (suc l) [] q j = in_range f.N q && (eqb (fault_in f table_page q) 0 && (is_leaf f q && ltb j (f.count q)))
stands_in f (suc l) ((p, i) ∷ up) q j =
    in_range f.N p
    && (eqb (fault_in f table_page p) 0 && (not (is_leaf f p) && (leb i (f.count p) && (eqb (child_at f p i) (top_of up q) && stands_in f l up q j))))

abbrev pub stands : File → Path → Bool
stands f x = stands_in f level_limit x.above x.page x.index

-- what follows its leaf cell
unfoldable pub after_in : File → (levels : ℕ) → (above : List (ℕ × ℕ)) (page index : ℕ) → List Met
after_in f zero up q j = []
after_in f (suc l) [] q j = leaf_met q (suc j) (f.count q - suc j)
after_in f (suc l) ((p, i) ∷ up) q j = under p i (after_in f l up q j) ++ inner_met f (listing f l) p (suc i) (f.count p - i)

abbrev pub after : File → Path → List Met
after f x = after_in f level_limit x.above x.page x.index

-- ---- the cursor's answers
pub data Shown : Type 0 where
  end : Shown
  at : Path → Shown  -- the leaf cell at the end of the path
  refuses : (number page : ℕ) → Shown

-- the row number of a path's leaf cell
abbrev pub row_at : File → Path → ℕ
row_at f x = (f.cell x.page x.index).row

-- the first that is met of refusals and of cells with a row number not below x
unfoldable pub shown_from : File → (x : ℕ) → List Met → Shown
shown_from f x [] = end
shown_from f x (cell y ∷ ms) = cond (leb x (row_at f y)) (at y) (shown_from f x ms)
shown_from f x (stop n p ∷ ms) = refuses n p

-- a root outside 1 to N is 20 with page 0
unfoldable pub first : File → (root : ℕ) → Shown
first f r = cond (in_range f.N r) (shown_from f 0 (listing f level_limit r)) (refuses 20 0)

-- down as lookup goes, then from left to right to the first row number not below x
unfoldable pub seek : File → (root x : ℕ) → Shown
seek f r x = cond (in_range f.N r) (shown_from f x (listing_from f x level_limit r)) (refuses 20 0)

-- from a cell to the next; a path that does not stand is 49
unfoldable pub step_in : File → (levels : ℕ) → (above : List (ℕ × ℕ)) (page index : ℕ) → Shown
step_in f l up q j = cond (stands_in f l up q j) (shown_from f 0 (after_in f l up q j)) (refuses 49 0)

abbrev pub step : File → Path → Shown
step f y = step_in f level_limit y.above y.page y.index

-- ---- for what is said of good files
-- the answer, and then those of step after step, show these cells one by one, and then the end
abbrev pub Runs : File → Shown → List Path → Type 0
Runs f a [] = a ≡ end
Runs f a (y ∷ ys) = (a ≡ at y) × Runs f (step f y) ys

-- each row number is below all that come after it
abbrev pub Rising : File → List Path → Type 0
Rising f [] = Unit {0}
Rising f (y ∷ ys) = ((z : Path) → Mem z ys → row_at f y < row_at f z) × Rising f ys

-- the path stands, and its first page is r
abbrev pub StandsUnder : File → (r : ℕ) → Path → Type 0
StandsUnder f r y = (top_of y.above y.page ≡ r) × (stands f y ≡ true)

-- the cells at the ends of these paths are the leaf cells of r's tree with a row number not below
-- x, all of them and nothing else; row numbers rise, so that each is there once
pub record RowsFrom (f : File) (d : Dealing) (r x : ℕ) (ys : List Path) : Type 0 where
  pub standing : (y : Path) → Mem y ys → StandsUnder f r y
  pub each : (y : Path) → Mem y ys → LeafCell f d r y.page y.index × (x ≤ row_at f y)
  pub all : (q j : ℕ) → LeafCell f d r q j → x ≤ (f.cell q j).row → (y : Path) × Mem y ys × (y.page ≡ q) × (y.index ≡ j)
  pub rising : Rising f ys
