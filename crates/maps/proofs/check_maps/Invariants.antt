use Rattle.dealing.specs.Walk.{entry_checks}
use Rattle.dealing.proofs.Parts.{Clean}
use Rattle.image.specs.Image.{file_of}
use Rattle.maps.proofs.check_maps.Given as goal

abbrev pub invariant-loop-i : goal.invariant-loop-i
invariant-loop-i l = Clean (entry_checks (file_of l.image) l.kinds l.namers l.i)
