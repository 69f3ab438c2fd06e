use Prim.Native.Nat.{ℕ, ◌+◌, ◌<◌, ◌≤◌}
use mathlib.Core.Path.{◌≡◌, ◌∙◌}
use mathlib.Core.Logic.{inl, inr}
use lib.ListN.{length}
use native.Mathlib.Omega.{arith}
use Rattle.number.proofs.Cases.{lt-or-ge}
use mir.Syntax.{w64}
use mir.ValLaws.{to_z-of_z}
use Rattle.number.proofs.SpellingLaws.{varint-size}
use Rattle.setting.proofs.LayLaws.{new-small, new-large}
use Rattle.setting.specs.Laying.{new_cell}
use Rattle.setting.proofs.fresh_size.Goals as goal
use Rattle.setting.proofs.fresh_size.Goals.{After-max}

pub overflow_add-n : goal.overflow_add-n
overflow_add-n c =
    omega (arith, c.varint_size-first.ensures, c.varint_size-second.ensures, varint-size (length c.args.fresh.now), varint-size c.word_of-bits.result)

pub overflow_add-n-2 : goal.overflow_add-n-2
overflow_add-n-2 c =
    omega (arith, c.varint_size-first.ensures, c.varint_size-second.ensures, varint-size (length c.args.fresh.now), varint-size c.word_of-bits.result)

-- the numbers and the record, and the cell that they make
abbrev n : After-max → ℕ
n c = c.varint_size-first.result + c.varint_size-second.result + length c.args.fresh.now

abbrev Whole : After-max → Type 0
Whole c = c.max.result ≡ length (new_cell c.args.u c.args.row c.args.fresh.now)

small : (c : After-max) → n c < 4 → Whole c
small c l =
    let e : c.max.result ≡ 4 = omega (arith, c.max.ensures) in
    e ∙ new-small _ c.args.row _ _ c.requires.0 c.requires.2 (to_z-of_z w64 _ c.ranges.row) _ _ _ c.word_of-bits.ensures
    c.varint_size-first.ensures c.varint_size-second.ensures l

large : (c : After-max) → 4 ≤ n c → Whole c
large c l =
    let e : c.max.result ≡ n c = omega (arith, c.max.ensures) in
    e ∙ new-large _ c.args.row _ _ c.requires.0 c.requires.2 (to_z-of_z w64 _ c.ranges.row) _ _ _ c.word_of-bits.ensures
    c.varint_size-first.ensures c.varint_size-second.ensures l

pub returns : goal.returns
returns c = let m = (goal.at.returns c).After-max in elim (lt-or-ge (n m) 4) [ inl l ↦ small m l | inr l ↦ large m l ]
