-- Laws of the payload split, for every u of at least 480 and every payload.
use Prim.Native.Nat.{ℕ, zero, suc, ◌+◌, ◌-◌, ◌*◌, ◌/◌, ◌<◌, ◌≤◌}
use mathlib.Core.Path.{◌≡◌, refl, ◌∙◌}
use mathlib.Core.Bool.{Bool, true, false, cond}
use lib.Dec.{leb, eqb}
use native.Mathlib.Nat.{mod-le, div-mul-le_self, lt-div-mul-add, div-eq_of_lt, zero-mul, suc-mul, mul-le-mul_right, lt_of_not-le}
use native.Mathlib.Nat.{div-add-mod', mul-add-div_right}
use native.Mathlib.Numerals.{sub-one}
use native.Mathlib.Omega.{arith}
use borrow.Author.Tests.{leb-true, leb-false, le-leb, lt-leb, ne_eqb}
use Rattle.cell.specs.Split.{index_interior, table_leaf, max_local, min_local, full_local, local_size, chain_length, payload_limit}

-- M is at most X
pub min-le-max : (u type : ℕ) → 480 ≤ u → min_local u ≤ max_local u type
min-le-max u type h = by-test (eqb type table_leaf)
  where
    by-test : (b : Bool) → min_local u ≤ cond b (u - 35) ((u - 12) * 64 / 255 - 23)
    by-test true = omega arith
    by-test false = omega arith

-- K is at most P, where P is more than M
pub full-le : (u P : ℕ) → min_local u ≤ P → full_local u P ≤ P
full-le u P h = omega (arith, mod-le (P - min_local u) (u - 4))

-- the three ways of a payload: all of it is local, K bytes, M bytes
pub local-all : (u type P : ℕ) → P ≤ max_local u type → P ≡ local_size u type P
unfolding local_size
local-all u type P h = simp (le-leb _ _ h)

pub local-full : (u type P : ℕ) → max_local u type < P → full_local u P ≤ max_local u type → full_local u P ≡ local_size u type P
unfolding local_size
local-full u type P h k = simp (lt-leb _ _ h, le-leb _ _ k)

pub local-least : (u type P : ℕ) → max_local u type < P → max_local u type < full_local u P → min_local u ≡ local_size u type P
unfolding local_size
local-least u type P h k = simp (lt-leb _ _ h, lt-leb _ _ k)

-- what holds of the local size in each of them holds of it
by-ways : (A : ℕ → Type 0) (u type P : ℕ)
    → (P ≤ max_local u type → A P)
    → (max_local u type < P → full_local u P ≤ max_local u type → A (full_local u P))
    → (max_local u type < P → A (min_local u))
    → A (local_size u type P)
unfolding local_size
by-ways A u type P all full least = first (leb P (max_local u type)) refl
  where
    second : max_local u type < P → (b : Bool) → leb (full_local u P) (max_local u type) ≡ b → A (cond b (full_local u P) (min_local u))
    second h true e = full h (leb-true _ _ e)
    second h false e = least h

    first : (b : Bool) → leb P (max_local u type) ≡ b → A (cond b P (cond (leb (full_local u P) (max_local u type)) (full_local u P) (min_local u)))
    first true e = all (leb-true _ _ e)
    first false e = second (leb-false _ _ e) (leb (full_local u P) (max_local u type)) refl

-- local bytes are bytes of the payload
pub local-le : (u type P : ℕ) → 480 ≤ u → local_size u type P ≤ P
local-le u type P h =
    by-ways (λ n. n ≤ P) u type P (λ a. omega arith) (λ a b. omega arith) (λ a. omega (arith, min-le-max u type h))

-- and are at most X
pub local-le-max : (u type P : ℕ) → 480 ≤ u → local_size u type P ≤ max_local u type
local-le-max u type P h =
    by-ways (λ n. n ≤ max_local u type) u type P (λ a. a) (λ a b. b) (λ a. min-le-max u type h)

-- where not all is local there is a rest
pub local-rest : (u type P : ℕ) → 480 ≤ u → max_local u type < P → local_size u type P < P
local-rest u type P h k = omega (arith, local-le-max u type P h)

-- the rest fits the chain's pages, and none of them is left empty
pub chain-holds : (u rest : ℕ) → 480 ≤ u → rest ≤ chain_length u rest * (u - 4)
unfolding chain_length
chain-holds u rest h = omega (arith, lt-div-mul-add {a = rest + (u - 5)} {b = u - 4} (omega arith))

pub chain-none : (u : ℕ) → 480 ≤ u → chain_length u 0 ≡ 0
unfolding chain_length
chain-none u h = div-eq_of_lt (omega arith)

pub chain-some : (u rest : ℕ) → 480 ≤ u → 0 < rest → 0 < chain_length u rest
chain-some u rest h k = by_number (chain_length u rest) (chain-holds u rest h)
  where
    by_number : (n : ℕ) → rest ≤ n * (u - 4) → 0 < n
    by_number zero e = omega (arith, zero-mul (u - 4))
    by_number (suc n) e = omega arith

pub chain-needed : (u rest : ℕ) → 480 ≤ u → 0 < rest → (chain_length u rest - 1) * (u - 4) < rest
unfolding chain_length
chain-needed u rest h k = by_number ((rest + (u - 5)) / (u - 4)) (div-mul-le_self (rest + (u - 5)) (u - 4))
  where
    by_number : (n : ℕ) → n * (u - 4) ≤ rest + (u - 5) → (n - 1) * (u - 4) < rest
    by_number zero e = omega (arith, zero-mul (u - 4))
    by_number (suc n) e = rw sub-one (omega (arith, suc-mul n (u - 4)))

-- no cell's chain is longer than 138 pages
pub chain-bound : (u rest : ℕ) → 480 ≤ u → rest ≤ payload_limit → chain_length u rest ≤ 138
unfolding chain_length
chain-bound u rest h k = by_number ((rest + (u - 5)) / (u - 4)) (div-mul-le_self (rest + (u - 5)) (u - 4))
  where
    by_number : (n : ℕ) → n * (u - 4) ≤ rest + (u - 5) → n ≤ 138
    by_number n e =
        let m : n < 139 = lt_of_not-le (λ (l : 139 ≤ n). omega (arith, mul-le-mul_right (u - 4) l)) in omega arith

-- with K bytes local the chain's pages are all full
pub full-fills : (u P : ℕ) → 480 ≤ u → min_local u ≤ P → P - full_local u P ≡ chain_length u (P - full_local u P) * (u - 4)
unfolding chain_length
full-fills u P h k =
    let q = (P - min_local u) / (u - 4) in
    let e : P - full_local u P ≡ q * (u - 4) = omega (arith, div-add-mod' (P - min_local u) (u - 4)) in
    let f : (q * (u - 4) + (u - 5)) / (u - 4) ≡ q =
    mul-add-div_right {m = u - 4} (omega arith) q (u - 5) ∙ omega (arith, div-eq_of_lt {n = u - 5} {m = u - 4} (omega arith)) in
    rw (e, f)

-- a cell fits a page that is otherwise empty, also where its numbers are spelled in 9 bytes: page header, cell pointer, then child, P, row
-- number, local bytes and the number of the chain's first page
pub table-leaf-fits : (u P : ℕ) → 480 ≤ u → 8 + 2 + (9 + 9 + local_size u table_leaf P + 4) ≤ u
table-leaf-fits u P h = omega (arith, local-le-max u table_leaf P h)

max-index : (u type : ℕ) → (type ≡ table_leaf → ⊥) → max_local u type ≡ (u - 12) * 64 / 255 - 23
max-index u type n = simp (ne_eqb _ _ n)

-- an index page has room for three of them whatever u is,
pub three-index-fit : (u type P : ℕ) → 480 ≤ u → (type ≡ table_leaf → ⊥) → 12 + 3 * (2 + 4 + 9 + local_size u type P + 4) ≤ u
three-index-fit u type P h n = omega (arith, local-le-max u type P h, max-index u type n)

-- and for four where u is at most 4346; the format (004) aims at four on every page, but at 65536 the largest leave no room for that
pub four-index-fit : (u type P : ℕ) → 480 ≤ u → u ≤ 4346 → (type ≡ table_leaf → ⊥) → 12 + 4 * (2 + 4 + 9 + local_size u type P + 4) ≤ u
four-index-fit u type P h k n = omega (arith, local-le-max u type P h, max-index u type n)

four-at-65536 : 65536 < 12 + 4 * (2 + 4 + 3 + local_size 65536 index_interior 16422)
unfolding local_size
four-at-65536 = omega arith
