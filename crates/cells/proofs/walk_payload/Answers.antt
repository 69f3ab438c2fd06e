use Rattle.std.proofs.lemmas.Result.{err_from_is_err_and}
use Prim.Native.Nat.{ℕ}
use mathlib.Core.Path.{◌≡◌, sym, ap, ◌∙◌}
use mathlib.Core.Option.{Option, none}
use native.Mathlib.Omega.{arith}
use Rattle.dealing.specs.Good.{Mark}
use Rattle.dealing.specs.Walk.{chain_of, state, went, run}
use Rattle.image.specs.Image.{file_of}
use Rattle.image.proofs.Shape.{shape}
use Rattle.ledger.specs.Ledger.{outcome_at}
use Rattle.cells.proofs.Laws.{payload-stops, payload-fetchable, payload-reads, payload-unread}
use Rattle.cells.proofs.walk_payload.Goals as goal
use Rattle.cells.proofs.walk_payload.Goals.{In_ok-walk_chain}

pub cell_links-links-requires : goal.cell_links-links-requires
cell_links-links-requires c =
    let s = shape c.requires.0.at.opened in
    (s.used, omega arith, c.requires.0.limit)

pub returns-in_err-walk_chain : goal.returns-in_err-walk_chain
returns-in_err-walk_chain c =
    let a = c.args in let w = c.walk_chain in
    let p = err_from_is_err_and c.from_residual.result c.from_residual.ensures.1 in
    rw (p.1, p.2) (λ m l. payload-stops c.requires.0 _ c.cell_links-links.ensures (state a.kinds.now a.namers.now m l) _ _
    (w.ensures m l ∙ ap (λ r. outcome_at m l r w.new.kinds w.new.namers) c.in_err-walk_chain.was))

-- the chain is whole
chained : (c : In_ok-walk_chain) (m : Option Mark) (l : ℕ)
    → let a = c.args in
    let w = c.walk_chain.new in
    let f = file_of a.image.now in
    run f.N (state a.kinds.now a.namers.now m l) (chain_of f a.p c.cell_links-links.result a.c.first)
    ≡ went (state w.kinds w.namers m l)
chained c m l =
    let w = c.walk_chain in
    w.ensures m l ∙ ap (λ r. outcome_at m l r w.new.kinds w.new.namers) c.in_ok-walk_chain.was

pub record_reads-requires : goal.record_reads-requires
record_reads-requires c =
    let a = c.args in
    payload-fetchable c.requires.0 _ c.cell_links-links.ensures (state a.kinds.now a.namers.now none 0) _
    (chained (goal.at.record_reads-requires c).In_ok-walk_chain none 0)

pub returns : goal.returns
returns c = λ m l.
    let a = c.args in
    payload-reads c.requires.0 _ c.cell_links-links.ensures (state a.kinds.now a.namers.now m l) _
    (chained (goal.at.returns c).In_ok-walk_chain m l)
    (sym c.if-not-record_reads.false ∙ c.record_reads.ensures)

pub returns-then-not-record_reads : goal.returns-then-not-record_reads
returns-then-not-record_reads c = λ m l.
    let a = c.args in
    payload-unread c.requires.0 _ c.cell_links-links.ensures (state a.kinds.now a.namers.now m l) _
    (chained (goal.at.returns-then-not-record_reads c).In_ok-walk_chain m l)
    (sym c.if-not-record_reads.true ∙ c.record_reads.ensures)
