use Prim.Native.Nat.{ℕ, ◌+◌}
use mathlib.Core.Path.{◌≡◌, ap, ◌∙◌, subst}
use native.Mathlib.Omega.{arith}
use lib.ListN.{length, get_or}
use lib.IntN.{ℤ, pos}
use borrow.Author.Rules.{rules, sfits_of}
use mir.Syntax.{w64}
use mir.ValLaws.{to_z-of_z}
use Rattle.writing.specs.Given.{cell_size}
use Rattle.filling.proofs.Sums.{Taking, taking-on, taking-full, taking-end, cell-most}
use Rattle.filling.proofs.leaf_group.Goals as goal
use Rattle.filling.proofs.leaf_group.Goals.{After-cell_size-weight}

-- the row that is weighed, and the length of its payload
abbrev row : After-cell_size-weight → ℤ
row c = get_or c.args.rows.now c.loop-j.j (pos 0)

abbrev bytes : After-cell_size-weight → ℕ
bytes c = get_or c.args.lengths.now c.loop-j.j 0

weighed : (c : After-cell_size-weight) → c.cell_size-weight.result ≡ cell_size (row c) (bytes c)
weighed c =
    c.cell_size-weight.ensures ∙ ap (λ (x : ℤ). cell_size x (bytes c)) (to_z-of_z w64 (row c) (search (rules, sfits_of)))

pub overflow_add-weight : goal.overflow_add-weight
overflow_add-weight c = let w = weighed (goal.at.overflow_add-weight c).After-cell_size-weight in omega (arith, cell-most (row (goal.at.overflow_add-weight c).After-cell_size-weight) (bytes (goal.at.overflow_add-weight c).After-cell_size-weight))

pub overflow_add-used : goal.overflow_add-used
overflow_add-used c = let w = weighed (goal.at.overflow_add-used c).After-cell_size-weight in omega (arith, cell-most (row (goal.at.overflow_add-used c).After-cell_size-weight) (bytes (goal.at.overflow_add-used c).After-cell_size-weight), c.loop-j.invariant.fits)

pub returns-then-used-weight-gt1016 : goal.returns-then-used-weight-gt1016
returns-then-used-weight-gt1016 c =
    taking-full _ _ _ _ _ _ _ c.loop-j-test.true (ap (λ x. 2 + x) (weighed (goal.at.returns-then-used-weight-gt1016 c).After-cell_size-weight)) c.if-used-weight-gt1016.true c.loop-j.invariant

pub loop-j-preserved : goal.loop-j-preserved
loop-j-preserved c =
    taking-on _ _ _ _ _ _ _ c.loop-j-test.true (ap (λ x. 2 + x) (weighed (goal.at.loop-j-preserved c).After-cell_size-weight)) (omega (arith, c.if-used-weight-gt1016.false))
    c.loop-j.invariant

pub returns : goal.returns
returns c =
    let a = c.args in
    let e : c.loop-j.j ≡ length a.rows.now = omega (arith, c.loop-j-test.false, c.loop-j.invariant) in
    taking-end _ _ _ _ _ _ (omega arith) (subst (λ j. Taking a.rows.now a.lengths.now (length a.rows.now) a.i j c.loop-j.used) e c.loop-j.invariant)
