use Rattle.cursor_words.proofs.Laws.{short-shown, short-kept, never, long-shown, long_kept, long-good, step-sized, step-there}
use Rattle.cursor_words.proofs.step.Goals as goal

pub returns-then-words-lt41 : goal.returns-then-words-lt41
returns-then-words-lt41 c =
    let few = c.if-words-lt41.true in
    record {
      answer = short-shown _ _ few _ _ c.no_room.ensures;
      words = short-kept _ _ few;
      good = λ d root g t l s. never c.args.words.now few l;
    }

pub returns : goal.returns
returns c =
    let b = c.args.image.now in
    let w = c.args.words.now in
    let said = step-there b w c.read.ensures c.step.ensures in
    let size = step-sized b w in
    let room = c.if-words-lt41.false in
    let kept = c.keep.ensures in
    record {
      answer = long-shown b w said.answer size room kept;
      words = long_kept b w said.answer size room kept;
      good = λ d root g t l s. long-good b w said.answer size room kept (said.good d root g t s);
    }
