-- A page's cells by list and by index, and what a page's type says in a place.
use mathlib.Core.Path.{◌≡◌, refl, ◌∙◌, ap, subst}
use mathlib.Core.Bool.{Bool, true, false, cond}
use mathlib.Core.Option.{some}
use Prim.Native.Nat.{ℕ, zero, suc, ◌+◌, ◌<◌}
use native.Mathlib.Nat.{zero-add}
use native.Mathlib.Omega.{arith}
use Rattle.dealing.specs.File.{Cell, File, is_table, cells_from, cells_of, Place, schema_root, any_root}
use Rattle.dealing.specs.File.{table_page, suits}
use Rattle.dealing.specs.Walk.{fault_in}
use Rattle.dealing.proofs.Lists.{At}

module _ (f : File) (p : ℕ) where
  from_at : (i k j : ℕ) (c : Cell) → At (cells_from f p i k) j c → (j < k) × (c ≡ f.cell p (i + j))
  unfolding cells_from
  from_at i zero j c a = absurd (let z : ◌≡◌ {A = ℕ} 0 1 = cc in omega arith)
  from_at i (suc k) zero c a = let e : i ≡ i + 0 = omega arith in let x : c ≡ f.cell p i = cc in (omega arith, x ∙ ap (f.cell p) e)
  from_at i (suc k) (suc j) c a =
      let w = from_at (suc i) k j c a in
      let e : suc i + j ≡ i + suc j = omega arith in
      (omega (arith, w.0), w.1 ∙ ap (f.cell p) e)

  at_from : (i k j : ℕ) → j < k → At (cells_from f p i k) j (f.cell p (i + j))
  unfolding cells_from
  at_from i zero j h = absurd (omega arith)
  at_from i (suc k) zero h = let e : i ≡ i + 0 = omega arith in ap (λ n. some (f.cell p n)) e
  at_from i (suc k) (suc j) h =
      let e : suc i + j ≡ i + suc j = omega arith in
      subst (λ n. At (cells_from f p (suc i) k) j (f.cell p n)) e (at_from (suc i) k j (omega arith))

  pub at-is : (j : ℕ) (c : Cell) → At (cells_of f p) j c → (j < f.count p) × (c ≡ f.cell p j)
  unfolding cells_of
  at-is j c a = let w = from_at 0 (f.count p) j c a in (w.0, w.1 ∙ ap (f.cell p) (zero-add j))

  pub is_at : (j : ℕ) → j < f.count p → At (cells_of f p) j (f.cell p j)
  unfolding cells_of
  is_at j h = subst (λ n. At (cells_from f p 0 (f.count p)) j (f.cell p n)) (zero-add j) (at_from 0 (f.count p) j h)

-- a page that suits its place and breaks nothing by itself has no fault there, and the other way round
module _ (f : File) (place : Place) (p : ℕ) where
  pub fault-none : suits place (f.type p) ≡ true → f.broken p ≡ 0 → fault_in f place p ≡ 0
  unfolding fault_in
  fault-none s b = rw (s, b)

  pub none-fault : fault_in f place p ≡ 0 → (suits place (f.type p) ≡ true) × (f.broken p ≡ 0)
  unfolding fault_in
  none-fault e = go (suits place (f.type p)) refl e
    where
      go : (b : Bool) → suits place (f.type p) ≡ b → cond b (f.broken p) 22 ≡ 0 → (suits place (f.type p) ≡ true) × (f.broken p ≡ 0)
      go true s e = (s, e)
      go false s e = absurd (omega arith)

module _ (f : File) (p : ℕ) where
  pub schema-as-table : fault_in f schema_root p ≡ 0 → fault_in f table_page p ≡ 0
  unfolding suits
  schema-as-table e = let w = none-fault f schema_root p e in fault-none f table_page p w.0 w.1

  pub root-as-table : fault_in f any_root p ≡ 0 → is_table f p ≡ true → fault_in f table_page p ≡ 0
  unfolding suits is_table
  root-as-table e t = let w = none-fault f any_root p e in fault-none f table_page p t w.1

  pub child-table : fault_in f table_page p ≡ 0 → is_table f p ≡ true
  unfolding suits is_table
  child-table e = (none-fault f table_page p e).0
