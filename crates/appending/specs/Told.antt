-- What the code answers, in the words of the definitions.
use Rattle.std.specs.Prelude.{ℕ, ◌≡◌, List, Result, Ok, Err, IfOk}
use Rattle.refusal.specs.declared.Rule.{Rule}
use Rattle.refusal.specs.Rule.{number_of}
use Rattle.wal.specs.State.{state_is, state_of}
use Rattle.wal.specs.declared.State as S
use Rattle.appending.specs.Appended.{Tail, Appended}
use Rattle.appending.specs.Answers.{told_is, answer_is, scan_refusal}
use Rattle.appending.specs.declared.Tail as T
use Rattle.appending.specs.declared.Appended as A

abbrev pub refusal_of : Result S.State Rule → ℕ
refusal_of (Ok s) = 0
refusal_of (Err rule) = number_of rule

-- of a log's tail: what refuses to tell it, or the state that it tells
pub record Tells (log : List ℕ) (words : ℕ) (answer : Result S.State Rule) : Type 0 where
  pub refuses : refusal_of answer ≡ scan_refusal log words
  pub state : IfOk answer (λ (s : S.State). state_is 0 s.size s.frames s.pages ≡ state_of log)

abbrev pub tail_told : Result T.Tail Rule → Tail
tail_told (Ok t) = told_is 0 t.page_size t.frames t.pages
tail_told (Err rule) = told_is (number_of rule) 0 0 0

abbrev pub appended_is : A.Appended → Appended
appended_is a = answer_is 0 a.at a.length

abbrev pub appended_told : Result A.Appended Rule → Appended
appended_told (Ok a) = appended_is a
appended_told (Err rule) = answer_is (number_of rule) 0 0
