use Rattle.image.proofs.Fields.{next_field}
use Rattle.std.proofs.lemmas.Result.{err_from_is_err_and}
use mathlib.Core.Path.{◌≡◌, refl, sym, ap, ◌∙◌}
use Prim.Native.Nat.{ℕ, ◌-◌}
use native.Mathlib.Omega.{arith}
use mathlib.Core.Option.{Option, none}
use mathlib.Core.List.{◌∷◌, []}
use Rattle.dealing.specs.Good.{Mark}
use Rattle.dealing.specs.Walk.{name, chain_events, chain_of, state, run}
use Rattle.dealing.proofs.RunLaws.{run_none}
use Rattle.dealing.proofs.WalkLaws.{no-chain, some_chain, chain-end, chain-over, chain-short, chain-stops, chain-goes}
use Rattle.image.specs.Image.{file_of}
use Rattle.image.specs.Ready.{PageAt}
use Rattle.image.proofs.Shape.{shape}
use Rattle.ledger.specs.Ledger.{outcome_at}
use Rattle.ledger.proofs.Ways.{at-n, entered}
use Rattle.ledger.proofs.walk_chain.Goals as goal
use Rattle.ledger.proofs.walk_chain.Goals.{After-enter, In_ok-enter, In-loop-t}

-- the next page is where it was thought to be
counted : (c : In-loop-t) (m : Option Mark) (l : ℕ)
    → let a = c.args in let f = file_of a.image.now in let w = c.loop-t in
    run f.N (state a.kinds.now a.namers.now m l) (chain_of f a.p a.links a.first)
    ≡ run f.N (state w.kinds w.namers m l) (chain_events f w.holder w.kind w.left w.place)
counted c m l =
    let f = file_of c.args.image.now in let w = c.loop-t in
    c.loop-left.invariant.3 m l ∙ c.loop-t.invariant.3 m l ∙ ap (λ x. run f.N (state w.kinds w.namers m l) (chain_events f w.holder w.kind w.left x)) c.loop-t-test.true

-- it was named
named : (c : After-enter) (m : Option Mark) (l : ℕ)
    → let w = c.loop-t in let f = file_of c.args.image.now in
    run f.N (state w.kinds w.namers m l) (name w.holder w.place w.kind ∷ []) ≡ outcome_at m l c.enter.result c.enter.new.kinds c.enter.new.namers
named c m l =
    let w = c.loop-t in
    at-n (state w.kinds w.namers m l) _ w.invariant.0.opened
    (ap (λ n. run n (state w.kinds w.namers m l) (name w.holder w.place w.kind ∷ [])) (sym w.invariant.2) ∙ c.enter.ensures m l)

-- and is new
page-new : (c : In_ok-enter) → PageAt c.args.image.now c.args.h c.loop-t.place
page-new c =
    let w = c.loop-t in
    entered _ (state w.kinds w.namers none 0) _ w.holder w.place w.kind w.invariant.0.opened w.invariant.2
    (c.enter.ensures none 0 ∙ ap (λ r. outcome_at none 0 r c.enter.new.kinds c.enter.new.namers) c.in_ok-enter.was)

pub returns-then-links-eq0 : goal.returns-then-links-eq0
returns-then-links-eq0 c =
    let f = file_of c.args.image.now in
    λ m l. ap (run f.N (state c.args.kinds.now c.args.namers.now m l)) (no-chain f _ _ _ c.if-links-eq0.true) ∙ run_none f.N _

pub loop-left-init : goal.loop-left-init
loop-left-init c =
    let f = file_of c.args.image.now in
    let P = c.requires in
    (P.0, P.1, refl, λ m l. ap (run f.N (state c.args.kinds.now c.args.namers.now m l)) (some_chain f _ _ _ c.if-links-eq0.false))

pub returns-then-place-eq0 : goal.returns-then-place-eq0
returns-then-place-eq0 c =
    λ m l. counted (goal.at.returns-then-place-eq0 c).In-loop-t m l ∙ chain-short _ _ _ _ _ _ (λ e. omega arith) c.if-place-eq0.true

pub returns-in_err-enter : goal.returns-in_err-enter
returns-in_err-enter c =
    let at = goal.at.returns-in_err-enter c in
    let p = err_from_is_err_and c.from_residual.result c.from_residual.ensures.1 in
    rw (p.1, p.2) (λ m l. counted at.In-loop-t m l
    ∙ chain-stops _ _ _ c.loop-t.left _ _ (λ e. omega arith) c.if-place-eq0.false _ _
    (named at.After-enter m l ∙ ap (λ r. outcome_at m l r c.enter.new.kinds c.enter.new.namers) c.in_err-enter.was))

pub word_at-t-requires : goal.word_at-t-requires
word_at-t-requires c =
    let v = page-new (goal.at.word_at-t-requires c).In_ok-enter in let h = shape v.opened in (v, omega (arith, h.used, h.inside))

pub overflow_add-place : goal.overflow_add-place
overflow_add-place c = let v = page-new (goal.at.overflow_add-place c).In_ok-enter in omega (arith, v.high, (shape v.opened).few)

pub loop-t-preserved : goal.loop-t-preserved
loop-t-preserved c =
    let at = goal.at.loop-t-preserved c in let w = c.loop-t in let e = c.enter.new in let b = c.args.image.now in let f = file_of b in (
      page-new at.In_ok-enter,
      record { kinds_n = c.enter.auto.kinds ∙ w.invariant.1.kinds_n; namers_n = c.enter.auto.namers ∙ w.invariant.1.namers_n },
      w.invariant.2,
      λ m l.
          w.invariant.3 m l
          ∙ ap (λ x. run f.N (state w.kinds w.namers m l) (chain_events f w.holder w.kind w.left x)) c.loop-t-test.true
          ∙ chain-goes _ _ _ w.left _ _ (λ e. omega arith) c.if-place-eq0.false _
          (named at.After-enter m l ∙ ap (λ r. outcome_at m l r e.kinds e.namers) c.in_ok-enter.was)
          ∙ ap (λ q. run f.N (state e.kinds e.namers m l) (chain_events f w.place 5 (w.left - 1) q)) (next_field b w.place ∙ sym c.word_at-t.ensures),
      omega (arith, w.invariant.4),
      λ z. absurd (omega (arith, w.invariant.4)),
    )

pub returns-then-t-ne0 : goal.returns-then-t-ne0
returns-then-t-ne0 c =
    let w = c.loop-left in λ m l. w.invariant.3 m l ∙ chain-over _ _ _ _ _ _ (omega arith) c.if-t-ne0.true

pub returns : goal.returns
returns c =
    let w = c.loop-left in λ m l. w.invariant.3 m l ∙ chain-end _ _ _ _ _ _ (omega arith) c.if-t-ne0.false
