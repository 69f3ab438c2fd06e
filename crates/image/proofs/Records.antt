-- In a good image the payload of every cell reads as a record.
use Prim.Native.Nat.{ℕ}
use mathlib.Core.Path.{◌≡◌}
use mathlib.Core.Bool.{true}
use mathlib.Core.List.{List}
use Rattle.record.specs.Record.{reads_of}
use Rattle.dealing.specs.Good.{Dealing}
use Rattle.image.specs.Payload.{payload_of}
use Rattle.image.specs.Image.{file_of}
use Rattle.image.specs.Good.{GoodDealing, PayloadCell}

pub good-reads : {b : List ℕ} {d : Dealing} → GoodDealing b d → {q j : ℕ} → PayloadCell b d q j → reads_of (payload_of b q j) ≡ true
unfolding file_of payload_of
good-reads g {q} {j} w = g.good.rule_28_reads q j w.in_file w.tree w.has w.index
