use mathlib.Core.Bool.{false, true}
use mathlib.Core.Path.{◌≡◌, sym, ◌∙◌}
use native.Mathlib.Omega.{arith}
use Rattle.header.specs.Header.{magic, holds, present_of}
use Rattle.refusal.specs.declared.Rule.TheVariants.{ShortImage, BadMagic, BadPageSize, PartialPage}
use Rattle.header.proofs.Tests.{starts-holds, refuse-1, refuse-2, refuse-3, refuse-4, pass-4}
use Rattle.header.proofs.Laws.{refused-form, passed-form}
use Rattle.header.proofs.check_form.Goals as goal
use Rattle.header.proofs.check_form.Goals.{Else-not-starts_with}

-- the magic stands at the beginning
begins : (c : Else-not-starts_with) → holds c.args.image.now 0 magic ≡ true
begins c =
    let l = c.if-image-lt512.false in
    sym (starts-holds c.args.image.now magic 0 (omega arith)) ∙ sym c.starts_with.ensures.value ∙ c.if-not-starts_with.false

pub returns-then-image-lt512 : goal.returns-then-image-lt512
returns-then-image-lt512 c = refused-form _ ShortImage (refuse-1 _ c.if-image-lt512.true)

pub returns-then-not-starts_with : goal.returns-then-not-starts_with
returns-then-not-starts_with c =
    let l = c.if-image-lt512.false in
    let b = c.args.image.now in
    let e : holds b 0 magic ≡ false = sym (starts-holds b magic 0 (omega arith)) ∙ sym c.starts_with.ensures.value ∙ c.if-not-starts_with.true in
    refused-form _ BadMagic (refuse-2 _ l e)

pub returns-then-size-eq0 : goal.returns-then-size-eq0
returns-then-size-eq0 c =
    let s = c.size_of-size in
    let e = begins (goal.at.returns-then-size-eq0 c).Else-not-starts_with in
    refused-form _ BadPageSize (refuse-3 _ c.if-image-lt512.false e _ s.ensures c.if-size-eq0.true)

pub returns-then-image-size-ne0 : goal.returns-then-image-size-ne0
returns-then-image-size-ne0 c =
    let s = c.size_of-size in
    let e = begins (goal.at.returns-then-image-size-ne0 c).Else-not-starts_with in
    refused-form _ PartialPage (refuse-4 _ c.if-image-lt512.false e _ s.ensures c.if-size-eq0.false c.if-image-size-ne0.true)

pub returns : goal.returns
unfolding present_of
returns c =
    let s = c.size_of-size in
    let e = begins (goal.at.returns c).Else-not-starts_with in
    passed-form _ _ _ s.ensures (rw s.ensures) (pass-4 _ c.if-image-lt512.false e _ s.ensures c.if-size-eq0.false c.if-image-size-ne0.false)
