-- What the code answers, in the words of the definitions.
use Rattle.std.specs.Prelude.{ℕ, suc, ◌≡◌, Bool, true, false, cond, eqb, Option, Some, None, Result, Ok, Err, IfOk, IfSome}
use Rattle.refusal.specs.declared.Rule.{Rule}
use Rattle.refusal.specs.Rule.{number_of}
use Rattle.wal.specs.declared.Order.{Order}
use Rattle.wal.specs.declared.Order.TheVariants.{Little, Big}
use Rattle.wal.specs.declared.Source.TheVariants.{Log, Image}
use Rattle.wal.specs.declared.Source.{Source}
use Rattle.wal.specs.declared.State as S
use Rattle.wal.specs.declared.Part as P
use Rattle.wal.specs.declared.Recovered as R
use Rattle.wal.specs.State.{State, little_magic, big_magic, state_is, nothing, refused}
use Rattle.wal.specs.Part.{Part}
use Rattle.wal.specs.Recovered.{Recovered}
use Rattle.wal.specs.View.{part_is, no_part, recovered_is}

-- the word order that a magic gives
unfoldable pub order_of : (magic : ℕ) → Option Order
order_of magic = cond (eqb magic little_magic) (Some Little) (cond (eqb magic big_magic) (Some Big) None)

-- a log's state
abbrev pub found_told : Result (Option S.State) Rule → State
found_told (Ok (Some s)) = state_is 0 s.size s.frames s.pages
found_told (Ok None) = nothing
found_told (Err rule) = refused (number_of rule)

-- the answer is that state, and one that is there has frames in force
pub record Finds (answer : Result (Option S.State) Rule) (s : State) : Type 0 where
  pub told : found_told answer ≡ s
  pub forced : IfOk answer (λ found. IfSome found (λ (f : S.State). f.frames ≡ 0 → ⊥))

-- the state of a log and an image
abbrev pub state_told : Result S.State Rule → State
state_told (Ok s) = state_is 0 s.size s.frames s.pages
state_told (Err rule) = refused (number_of rule)

-- the number, from 1, of a frame by its index; 0 for none
abbrev pub number_from : Option ℕ → ℕ
number_from None = 0
number_from (Some k) = suc k

abbrev pub is_log : Source → Bool
is_log Log = true
is_log Image = false

-- a part, or none, where none is refused with that number
abbrev pub part_or : (refusal : ℕ) → Option P.Part → Part
part_or refusal (Some p) = part_is 0 (is_log p.source) p.start p.length
part_or refusal None = no_part refusal

abbrev pub part_told : Result P.Part Rule → Part
part_told (Ok p) = part_is 0 (is_log p.source) p.start p.length
part_told (Err rule) = no_part (number_of rule)

-- the first refusal of whole recovery, or 0
abbrev pub refusal_told : Result Unit Rule → ℕ
refusal_told (Ok x) = 0
refusal_told (Err rule) = number_of rule

abbrev pub recovered_told : Result R.Recovered Rule → Recovered
recovered_told (Ok r) = recovered_is 0 r.pages r.length
recovered_told (Err rule) = recovered_is (number_of rule) 0 0
