use Rattle.std.proofs.lemmas.Result.{err_from_is_err_and}
use mathlib.Core.Path.{ap, ◌∙◌}
use native.Mathlib.Omega.{arith}
use Rattle.dealing.specs.Walk.{state}
use Rattle.image.proofs.Shape.{shape}
use Rattle.ledger.specs.Ledger.{outcome_at}
use Rattle.freelist.proofs.Laws.{leaf-fits, leaf-refused, leaf-named, leaves-named}
use Rattle.freelist.proofs.walk_trunk.Goals as goal

pub word_at-count-requires : goal.word_at-count-requires
word_at-count-requires c =
    (c.requires.0, let s = shape c.requires.0.opened in omega arith)

pub word_at-t-requires : goal.word_at-t-requires
word_at-t-requires c = (
  c.requires.0,
  leaf-fits c.requires.0.opened c.args.p _ c.word_at-count.ensures c.requires.2 c.loop-j.j
      (omega arith),
)

pub returns-in_err-enter : goal.returns-in_err-enter
returns-in_err-enter c =
    let w = c.loop-j in
    let e = c.enter in
    let p = err_from_is_err_and c.from_residual.result c.from_residual.ensures.1 in
    rw (p.1, p.2) (λ m l. w.invariant.1 m l
    ∙ leaf-refused c.requires.0.opened c.args.p _ c.word_at-count.ensures w.j _ (omega (arith))
    c.word_at-t.ensures (state w.kinds w.namers m l) _ _
    (e.ensures m l ∙ ap (λ r. outcome_at m l r e.new.kinds e.new.namers) c.in_err-enter.was))

pub loop-j-preserved : goal.loop-j-preserved
loop-j-preserved c =
    let w = c.loop-j in
    let e = c.enter in
    let ks = e.new.kinds in
    let ns = e.new.namers in (
      record { kinds_n = e.auto.kinds ∙ w.invariant.0.kinds_n; namers_n = e.auto.namers ∙ w.invariant.0.namers_n },
      λ m l. w.invariant.1 m l
          ∙ leaf-named c.requires.0.opened c.args.p _ c.word_at-count.ensures w.j _ (omega (arith))
          c.word_at-t.ensures (state w.kinds w.namers m l) (state ks ns m l)
          (e.ensures m l ∙ ap (λ r. outcome_at m l r ks ns) c.in_ok-enter.was),
    )

pub returns : goal.returns
returns c =
    let w = c.loop-j in
    λ m l. w.invariant.1 m l ∙ leaves-named c.requires.0.opened c.args.p _ c.word_at-count.ensures
    (state w.kinds w.namers m l) w.j (omega arith)
