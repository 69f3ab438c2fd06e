use mathlib.Core.Path.{refl}
use Rattle.maps.proofs.Laws.{past-none, past-moved, past-there}
use Rattle.maps.proofs.past_map.Goals as goal
use Rattle.maps.proofs.past_map.Goals.{else-past_place-ne0-via-then-past_place-ne0+else-p-past_place, else-past_place-ne0-via-else-past_place-ne0}

pub returns-then-p-past_place : goal.returns-then-p-past_place
returns-then-p-past_place c =
    let a = c.args in past-moved a.size a.lock a.usable a.p c.requires.0 c.requires.1 _ refl c.if-p-past_place.true

pub returns-else-past_place-ne0 : goal.returns-else-past_place-ne0
returns-else-past_place-ne0 c =
    let a = c.args in
    elim c.else-past_place-ne0.branch [
      | else-past_place-ne0-via-then-past_place-ne0+else-p-past_place w ↦ past-there a.size a.lock a.usable a.p c.requires.0 c.requires.1 _ refl w.if-p-past_place.false
      | else-past_place-ne0-via-else-past_place-ne0 w ↦ past-none a.size a.lock a.usable a.p c.requires.0 c.requires.1 _ refl w.if-past_place-ne0.false
    ]
