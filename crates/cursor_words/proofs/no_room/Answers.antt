use Rattle.cursor_words.proofs.Laws.{no_header, small}
use Rattle.cursor_words.proofs.no_room.Goals as goal

pub returns-in-Ok : goal.returns-in-Ok
returns-in-Ok c = rw c.from.ensures (small _ _ c.in-Ok.ensures)

pub returns-in-Err : goal.returns-in-Err
returns-in-Err c = rw c.from-in-Err.ensures (no_header _ _ c.in-Err.ensures)
