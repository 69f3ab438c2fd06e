-- What the code's checks of the header answer, as the definitions have it: with the number of the rule that is broken, or 0.
use Rattle.std.specs.Prelude.{ℕ, Result, Ok, Err}
use Rattle.refusal.specs.declared.Rule.{Rule}
use Rattle.refusal.specs.Rule.{number_of}
use Rattle.header.specs.declared.Pages as P
use Rattle.header.specs.declared.Header as H
use Rattle.header.specs.Pages.{Pages}
use Rattle.header.specs.Header.{Header}

abbrev pub told_number : Result Unit Rule → ℕ
told_number (Ok x) = 0
told_number (Err r) = number_of r

abbrev pub told_pages : Result P.Pages Rule → Pages
told_pages (Ok p) = record { refusal = 0; size = p.size; pages = p.pages }
told_pages (Err r) = record { refusal = number_of r; size = 0; pages = 0 }

abbrev pub told : Result H.Header Rule → Header
told (Ok h) = record { refusal = 0; size = h.size; usable = h.usable; pages = h.pages }
told (Err r) = record { refusal = number_of r; size = 0; usable = 0; pages = 0 }
