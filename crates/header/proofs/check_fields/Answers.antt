use mathlib.Core.Bool.{true}
use mathlib.Core.List.{[], ◌∷◌}
use mathlib.Core.Path.{◌≡◌, sym, ◌∙◌}
use native.Mathlib.Omega.{arith}
use Rattle.header.specs.Header.{holds}
use Rattle.header.proofs.Tests.{starts-from, refuse-6, refuse-7, refuse-8, pass-8}
use Rattle.header.proofs.check_fields.Goals as goal
use Rattle.header.proofs.check_fields.Goals.{Else-not-starts_with}

-- bytes 21 to 23 are 64, 32, 32
fractions : (c : Else-not-starts_with) → holds c.args.image.now 21 (64 ∷ 32 ∷ 32 ∷ []) ≡ true
fractions c =
    let l = c.requires.0 in
    sym (starts-from c.args.image.now (64 ∷ 32 ∷ 32 ∷ []) 21 (omega arith)) ∙ sym c.starts_with.ensures.value ∙ c.if-not-starts_with.false

pub returns-then-usable_of-lt480 : goal.returns-then-usable_of-lt480
returns-then-usable_of-lt480 c = let u = c.usable_of in refuse-6 _ _ u.ensures c.if-usable_of-lt480.true

pub returns-then-not-starts_with : goal.returns-then-not-starts_with
returns-then-not-starts_with c =
    let u = c.usable_of in
    let l = c.requires.0 in
    let s = sym (starts-from c.args.image.now (64 ∷ 32 ∷ 32 ∷ []) 21 (omega arith)) ∙ sym c.starts_with.ensures.value ∙ c.if-not-starts_with.true in
    refuse-7 _ _ u.ensures c.if-usable_of-lt480.false s

pub returns-then-bad_version : goal.returns-then-bad_version
returns-then-bad_version c =
    let u = c.usable_of in
    refuse-8 _ _ u.ensures c.if-usable_of-lt480.false (fractions (goal.at.returns-then-bad_version c).Else-not-starts_with)
    (sym c.bad_version.ensures ∙ c.if-bad_version.true)

pub returns : goal.returns
returns c =
    let u = c.usable_of in
    let v = sym c.bad_version.ensures ∙ c.if-bad_version.false in
    pass-8 _ _ u.ensures c.if-usable_of-lt480.false (fractions (goal.at.returns c).Else-not-starts_with) _ v c.check_count.ensures
