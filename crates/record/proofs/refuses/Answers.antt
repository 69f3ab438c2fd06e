use Rattle.number.proofs.Cases.{cases}
use Rattle.record.specs.Serial.{refused}
use Rattle.record.proofs.refuses.Goals as goal

pub returns-in-10 : goal.returns-in-10
unfolding refused
returns-in-10 c = search cases depth 12

pub returns-in-10-2 : goal.returns-in-10-2
unfolding refused
returns-in-10-2 c = search cases depth 12

pub returns-in_default : goal.returns-in_default
unfolding refused
returns-in_default c = search cases depth 12

pub returns-in_default-2 : goal.returns-in_default-2
unfolding refused
returns-in_default-2 c = search cases depth 12
