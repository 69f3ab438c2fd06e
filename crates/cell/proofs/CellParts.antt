-- Laws of a cell's parts: the width of its child, where its local bytes end, its least size.
use Prim.Native.Nat.{ℕ, ◌+◌, ◌≤◌}
use mathlib.Core.Path.{◌≡◌, refl}
use lib.Dec.{ltb, eqb}
use native.Mathlib.Omega.{arith}
use borrow.Author.Tests.{ltb-true, ltb-false, eq-eqb, ne_eqb}
use Rattle.number.proofs.Cases.{by_cond}
use Rattle.cell.specs.Split.{index_interior, table_interior}
use Rattle.cell.specs.Cell.{child_width, at_least4, local_end}

pub width-le : (type : ℕ) → child_width type ≤ 4
width-le type =
    by_cond (λ n. n ≤ 4) (eqb type index_interior) _ _ (λ e. omega arith)
    (λ e. by_cond (λ n. n ≤ 4) (eqb type table_interior) _ _ (λ f. omega arith) (λ f. omega arith))

pub width_some : (type : ℕ) → (child_width type ≡ 0 → ⊥) → child_width type ≡ 4
width_some type =
    by_cond (λ n. (n ≡ 0 → ⊥) → n ≡ 4) (eqb type index_interior) _ _ (λ e h. refl)
    (λ e. by_cond (λ n. (n ≡ 0 → ⊥) → n ≡ 4) (eqb type table_interior) _ _ (λ f h. refl) (λ f h. absurd (h refl)))

pub width-interior : (type : ℕ) → type ≡ table_interior → child_width type ≡ 4
width-interior type h = rw h

-- where all is local the local bytes are the last, else 4 bytes follow
pub end-all : (start local P : ℕ) → local ≡ P → local_end start local P ≡ start + local
end-all start local P h = simp (eq-eqb _ _ h)

pub end_rest : (start local P : ℕ) → (local ≡ P → ⊥) → local_end start local P ≡ start + local + 4
end_rest start local P h = simp (ne_eqb _ _ h)

pub end-past : (start local P : ℕ) → start + local ≤ local_end start local P
end-past start local P = by_cond (λ n. start + local ≤ n) (eqb local P) _ _ (λ e. omega arith) (λ e. omega arith)

pub end-bound : (start local P : ℕ) → local_end start local P ≤ start + local + 4
end-bound start local P = by_cond (λ n. n ≤ start + local + 4) (eqb local P) _ _ (λ e. omega arith) (λ e. omega arith)

-- a cell takes at least 4 bytes, and no fewer than its fields
pub least-4 : (at end : ℕ) → at + 4 ≤ at_least4 at end
least-4 at end = by_cond (λ n. at + 4 ≤ n) (ltb end (at + 4)) _ _ (λ e. omega arith) (λ e. ltb-false _ _ e)

pub least-end : (at end : ℕ) → end ≤ at_least4 at end
least-end at end = by_cond (λ n. end ≤ n) (ltb end (at + 4)) _ _ (λ e. omega (arith, ltb-true end (at + 4) e)) (λ e. omega arith)
