use mathlib.Core.Path.{◌≡◌, sym, ap, ◌∙◌}
use Prim.Native.Nat.{◌+◌, ◌-◌}
use native.Mathlib.Omega.{arith}
use Rattle.image.proofs.Shape.{shape}
use Rattle.image.specs.Image.{file_of}
use Rattle.dealing.specs.Lookup.{follow}
use Rattle.image.proofs.Fields.{next_field}
use Rattle.dealing.proofs.LookupLaws.{follow-none, follow-some, follow-end, follow-over, follow-short, follow-lost, follow-more}
use Rattle.lookup.proofs.Ways.{page-at}
use Rattle.lookup.proofs.follow_chain.Goals as goal

pub returns-then-links-eq0 : goal.returns-then-links-eq0
returns-then-links-eq0 c = follow-none _ _ _ _ c.if-links-eq0.true

pub loop-link-init : goal.loop-link-init
loop-link-init c =
    let a = c.args in
    let all : a.links ≡ a.links - 0 = omega arith in
    (c.requires, follow-some _ _ _ _ c.if-links-eq0.false ∙ ap (λ n. follow (file_of a.image.now) a.p n a.first) all)

pub returns-then-next-eq0 : goal.returns-then-next-eq0
returns-then-next-eq0 c = c.loop-link.invariant.1 ∙ follow-short _ _ (c.args.links - c.loop-link._link) _ (λ z. omega arith) c.if-next-eq0.true

pub returns-then-h-next : goal.returns-then-h-next
returns-then-h-next c =
    let s = shape c.requires.opened in
    c.loop-link.invariant.1 ∙ follow-lost _ _ (c.args.links - c.loop-link._link) _ (λ z. omega arith) c.if-next-eq0.false (omega arith)

pub word_at-next-requires : goal.word_at-next-requires
word_at-next-requires c =
    let s = shape c.requires.opened in
    (page-at _ c.requires.opened c.if-next-eq0.false (omega arith), omega arith)

pub loop-link-preserved : goal.loop-link-preserved
loop-link-preserved c =
    let s = shape c.requires.opened in
    let f = file_of c.args.image.now in
    let left = c.args.links - c.loop-link._link in
    let fewer : left - 1 ≡ c.args.links - (c.loop-link._link + 1) = omega arith in (
      page-at _ c.requires.opened c.if-next-eq0.false (omega arith),
      c.loop-link.invariant.1 ∙
          follow-more _ _ left _ (λ z. omega arith) c.if-next-eq0.false (omega arith) ∙ ap
          (follow f c.loop-link.next (left - 1)) (next_field _ _ ∙ sym c.word_at-next.ensures) ∙ ap
          (λ n. follow f c.loop-link.next n c.word_at-next.result) fewer,
    )

pub returns-then-next-ne0 : goal.returns-then-next-ne0
returns-then-next-ne0 c = c.loop-link.invariant.1 ∙ follow-over _ _ (c.args.links - c.loop-link._link) _ (omega arith) c.if-next-ne0.true

pub returns : goal.returns
returns c = c.loop-link.invariant.1 ∙ follow-end _ _ (c.args.links - c.loop-link._link) _ (omega arith) (omega arith)
