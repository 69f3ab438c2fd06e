-- A file that is built has at most 4,096 pages.
-- Assumes nothing.
use Prim.Native.Nat.{ℕ, ◌≤◌}
use mathlib.Core.Path.{◌≡◌, ap}
use mathlib.Core.List.{List}
use native.Mathlib.Omega.{arith}
use lib.Dec.{eqb}
use lib.IntN.{ℤ}
use borrow.Author.Tests.{eqb-true}
use Rattle.number.proofs.Cases.{by_cond}
use Rattle.writing.specs.Given.{rows_given}
use Rattle.builder.specs.Built as B
use Rattle.builder.specs.Build.{pages_for, refusal_of, built_of}
use Rattle.builder.proofs.Clear.{clear}

most : (schema : List ℕ) (ns : List ℤ) (ls ps : List ℕ) (room : ℕ) → (built_of schema ns ls ps room).pages ≤ 4096
unfolding built_of
most schema ns ls ps room =
    by_cond (λ n. n ≤ 4096) (eqb (refusal_of schema ns ls ps room) 0) (pages_for (rows_given ns ls ps)) 0
    (λ e. (clear schema ns ls ps room (eqb-true (refusal_of schema ns ls ps room) 0 e)).pages) (λ e. omega arith)

pub pages-most : (schema : List ℕ) (ns : List ℤ) (ls ps : List ℕ) (room : ℕ) (r : B.Built) → r ≡ built_of schema ns ls ps room → r.pages ≤ 4096
pages-most schema ns ls ps room r e = omega (arith, most schema ns ls ps room, ap (λ (x : B.Built). x.pages) e)
