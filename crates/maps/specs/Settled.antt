-- What the checks after the walk answer, as a verdict.
use Rattle.std.specs.Prelude.{ℕ, List, Result, Ok, Err}
use Rattle.refusal.specs.Rule.{number_of}
use Rattle.refusal.specs.declared.Refusal.{Refusal}
use Rattle.dealing.specs.Walk.{Verdict, accepted, refusal}

abbrev pub settled : Result Unit Refusal → (kinds namers : List ℕ) → Verdict
settled (Ok x) ks ns = accepted ks ns
settled (Err e) ks ns = refusal (number_of e.rule) e.page
