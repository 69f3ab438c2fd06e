use Rattle.number.proofs.Cases.{cases}
use Rattle.ledger.specs.Ledger.{on_page}
use Rattle.keys.proofs.Held.{on-last}
use Rattle.keys.proofs.on_page.Goals as goal
use Rattle.keys.proofs.on_page.Goals.{then-p-eq0-via-then-p-eq0, then-p-eq0-via-else-p-eq0+then-h-p}
use Rattle.keys.proofs.on_page.Goals.{then-c-via-then-c, then-c-via-else-c+then-c-gt65536}

pub returns-then-p-eq0 : goal.returns-then-p-eq0
unfolding on_page
returns-then-p-eq0 c = elim c.then-p-eq0.branch [
  | then-p-eq0-via-then-p-eq0 w ↦ search cases depth 16
  | then-p-eq0-via-else-p-eq0+then-h-p w ↦ search cases depth 16
]

pub returns-then-c : goal.returns-then-c
unfolding on_page
returns-then-c c = elim c.then-c.branch [
  | then-c-via-then-c w ↦ search cases depth 16
  | then-c-via-else-c+then-c-gt65536 w ↦ search cases depth 16
]

pub returns-then-c-h : goal.returns-then-c-h
returns-then-c-h c = on-last _ _ _ _ c.if-p-eq0.false c.if-h-p.false c.if-c.false c.if-c-gt65536.false c.if-c-h.true

pub returns-else-c-h : goal.returns-else-c-h
unfolding on_page
returns-else-c-h c = search cases depth 16
