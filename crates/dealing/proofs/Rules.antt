-- The rules of a good dealing as the proofs use them: of a page's place as one fault, of cells as members of a list.
use mathlib.Core.Path.{◌≡◌, refl, sym, ◌∙◌, ap, subst}
use mathlib.Core.Bool.{true}
use mathlib.Core.Logic.{◌≢◌, inl, inr}
use Prim.Native.Nat.{ℕ, zero, suc, ◌≤◌}
use native.Mathlib.Omega.{arith}
use lib.IntN.{pos, negsuc}
use borrow.Author.Tests.{leb-true, le-leb}
use Rattle.dealing.specs.File.{Cell, Column4, unfit, null, integer, File, Page, is_leaf, is_table, payload, cells_of}
use Rattle.dealing.specs.Good.{Dealing, TreePage, InTree, place_of, Chain, RootNumber, Good}
use Rattle.dealing.specs.Walk.{fit, root, named_by, fault_in}
use Rattle.dealing.proofs.Lists.{At}
use Rattle.dealing.proofs.Cells.{at-is, fault-none}

-- a schema row is fit where column four is a root number, null or 0
pub fit-number : (f : File) (v : Column4) → fit f.N v ≡ true → RootNumber f v
fit-number f unfit e = let z : ◌≡◌ {A = ℕ} 0 1 = cc in omega arith
fit-number f null e = tt
fit-number f (integer (pos zero)) e = inl refl
fit-number f (integer (pos (suc zero))) e = absurd (let z : ◌≡◌ {A = ℕ} 0 1 = cc in omega arith)
fit-number f (integer (pos (suc (suc n)))) e = inr (omega (arith, leb-true (suc (suc n)) f.N e))
fit-number f (integer (negsuc n)) e = let z : ◌≡◌ {A = ℕ} 0 1 = cc in omega arith

pub number-fit : (f : File) (v : Column4) → RootNumber f v → fit f.N v ≡ true
number-fit f unfit h = absurd h
number-fit f null h = refl
number-fit f (integer (pos zero)) h = refl
number-fit f (integer (pos (suc zero))) (inl e) = absurd (omega arith)
number-fit f (integer (pos (suc zero))) (inr h) = absurd (omega arith)
number-fit f (integer (pos (suc (suc n)))) (inl e) = absurd (omega arith)
number-fit f (integer (pos (suc (suc n)))) (inr h) = le-leb (suc (suc n)) f.N (omega arith)
number-fit f (integer (negsuc n)) h = absurd h

-- it names the root whose number column four is
pub named-number : (v : Column4) (t : ℕ) → named_by v ≡ root t → (v ≡ integer (pos t)) × (t ≢ 0)
named-number unfit t e = absurd (let z : ◌≡◌ {A = ℕ} 0 1 = cc in omega arith)
named-number null t e = absurd (let z : ◌≡◌ {A = ℕ} 0 1 = cc in omega arith)
named-number (integer (pos zero)) t e = absurd (let z : ◌≡◌ {A = ℕ} 0 1 = cc in omega arith)
named-number (integer (pos (suc n))) t e = let k : suc n ≡ t = cc in (ap (λ n. integer (pos n)) k, λ z. omega arith)
named-number (integer (negsuc n)) t e = absurd (let z : ◌≡◌ {A = ℕ} 0 1 = cc in omega arith)

pub number-named : (v : Column4) (t : ℕ) → v ≡ integer (pos t) → t ≢ 0 → named_by v ≡ root t
number-named v zero e n = absurd (n refl)
number-named v (suc t) e n = rw e

module _ (f : File) (d : Dealing) (g : Good f d) where
  pub no-fault : (q : ℕ) → Page f q → TreePage d q → fault_in f (place_of f d q) q ≡ 0
  no-fault q h t = fault-none f (place_of f d q) q (g.rule_22 q h t) (g.rule_23_26 q h t)

  pub cell-chain : (q j : ℕ) (c : Cell) → Page f q → TreePage d q → payload (is_leaf f q) (is_table f q) ≡ true
      → At (cells_of f q) j c → 1 ≤ c.links → Chain f c.links c.first
  cell-chain q j c h t e a i =
      let w = at-is f q j c a in
      subst (λ (c : Cell). 1 ≤ c.links → Chain f c.links c.first) (sym w.1) (g.rule_27 q j h t e w.0) i

  pub row_number : (level q j : ℕ) (c : Cell) → InTree f d 1 level q → is_leaf f q ≡ true → At (cells_of f q) j c → RootNumber f (f.column4 q j)
  row_number level q j c t e a = g.rule_28 q j ((level, t), e, (at-is f q j c a).0)

  pub cell-reads : (q j : ℕ) (c : Cell) → Page f q → TreePage d q → payload (is_leaf f q) (is_table f q) ≡ true → At (cells_of f q) j c → c.reads ≡ true
  cell-reads q j c h t e a = let w = at-is f q j c a in ap (λ (c : Cell). c.reads) w.1 ∙ g.rule_28_reads q j h t e w.0
