-- The count of numbers spelled long: the ledger's is the dealing's, and how large it can be.
use mathlib.Core.Path.{◌≡◌, refl, ap}
use mathlib.Core.Bool.{Bool, true, false, cond}
use mathlib.Core.Logic.{inl, inr}
use mathlib.Core.List.{List}
use Prim.Native.Nat.{ℕ, zero, suc, ◌-◌, ◌*◌, ◌≤◌, ◌<◌}
use native.Mathlib.Omega.{arith}
use native.Mathlib.Nat.{suc-mul}
use lib.Dec.{eqb}
use lib.ListN.{get_or}
use borrow.Author.Tests.{eqb-true, eq-eqb}
use Rattle.dealing.specs.File.{File, root_kind, tree_kind}
use Rattle.dealing.specs.Good.{Dealing, TreePage, Good}
use Rattle.dealing.specs.Walk.{LedgerOf}
use Rattle.dealing.specs.Spelling.{long_cells, is_tree, long_on, long_to, long_in, long_by}
use Rattle.dealing.proofs.Unique.{unique}

-- `is_tree` is the test for a tree page
pub is-tree : (d : Dealing) (p : ℕ) → TreePage d p → is_tree (d.kind p) ≡ true
is-tree d p (inl e) = rw (eq-eqb (d.kind p) root_kind e)
is-tree d p (inr e) = rw e

pub tree_is : (d : Dealing) (p : ℕ) → is_tree (d.kind p) ≡ true → TreePage d p
tree_is d p = go (eqb (d.kind p) root_kind) refl
  where
    go : (t : Bool) → eqb (d.kind p) root_kind ≡ t → cond t true (eqb (d.kind p) tree_kind) ≡ true → TreePage d p
    go true e h = inl (eqb-true _ _ e)
    go false e h = inr (eqb-true _ _ h)

-- of a page that is no tree page nothing is counted, of a tree page all its cells
pub long-other : (f : File) (d : Dealing) (p : ℕ) → (TreePage d p → ⊥) → long_on f (d.kind p) p ≡ 0
unfolding long_on
long-other f d p n = go (is_tree (d.kind p)) refl
  where
    go : (t : Bool) → is_tree (d.kind p) ≡ t → cond t (long_cells f p (f.count p)) 0 ≡ 0
    go true e = absurd (n (tree_is d p e))
    go false e = refl

pub long-tree : (f : File) (d : Dealing) (p : ℕ) → TreePage d p → long_on f (d.kind p) p ≡ long_cells f p (f.count p)
unfolding long_on
long-tree f d p t = rw (is-tree d p t)

-- kinds that agree on the pages 1 to n
pub long_same : (f : File) (k k' : ℕ → ℕ) (n : ℕ) → ((p : ℕ) → 1 ≤ p → p ≤ n → k p ≡ k' p) → long_to f k n ≡ long_to f k' n
unfolding long_to
long_same f k k' zero e = refl
long_same f k k' (suc n) e =
    omega (arith, long_same f k k' n (λ p a b. e p a (omega arith)), ap (λ (x : ℕ). long_on f x (suc n)) (e (suc n) (omega arith) (omega arith)))

-- the ledger's count is the dealing's
pub long-ledger : (f : File) (d : Dealing) (ks ns : List ℕ) → LedgerOf f d ks ns → long_by f ks ≡ long_in f d
long-ledger f d ks ns l = long_same f (λ p. get_or ks (p - 1) 0) d.kind f.N (λ p a b. l.kinds_are p (a, b))

-- two good dealings have the same count
pub long-only : (f : File) (d d' : Dealing) → Good f d → Good f d' → long_in f d ≡ long_in f d'
long-only f d d' g g' = long_same f d.kind d'.kind f.N (λ p a b. (unique f d d' g g' p (a, b)).kind)

-- at most `most` a page: it cannot overflow
pub long-most : (f : File) (k : ℕ → ℕ) (most n : ℕ) → ((p : ℕ) → 1 ≤ p → p ≤ n → long_on f (k p) p ≤ most) → long_to f k n ≤ n * most
unfolding long_to
long-most f k most zero e = omega arith
long-most f k most (suc n) e =
    omega (arith, long-most f k most n (λ p a b. e p a (omega arith)), e (suc n) (omega arith) (omega arith), suc-mul n most)

-- at most 2 a cell
pub cells-most : (f : File) (p n : ℕ) → ((i : ℕ) → i < n → (f.cell p i).long ≤ 2) → long_cells f p n ≤ 2 * n
unfolding long_cells
cells-most f p zero e = omega arith
cells-most f p (suc n) e = omega (arith, cells-most f p n (λ i l. e i (omega arith)), e n (omega arith))
