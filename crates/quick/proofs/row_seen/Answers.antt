use native.Mathlib.Omega.{arith}
use Rattle.quick.proofs.Laws.{seen-none, seen-word}
use Rattle.quick.proofs.row_seen.Goals as goal

pub returns-in-None : goal.returns-in-None
returns-in-None c = seen-none _ _ _ _ _ c.requires.0.page.type c.in-None.ensures.place

pub row_word-requires : goal.row_word-requires
row_word-requires c = let l = c.in-Some.ensures.below in let m = c.requires.0.page.most in omega arith

pub returns-in-Some : goal.returns-in-Some
returns-in-Some c = seen-word _ _ _ _ _ c.requires.0.page.type _ c.in-Some.ensures.place _ c.row_word.ensures
