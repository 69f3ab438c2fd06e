use Prim.Native.Nat.{◌-◌, ◌≤◌}
use Rattle.record.proofs.ScanLaws.{Scanning, met}
use Rattle.record.proofs.scan_types.Given as goal

abbrev pub invariant-loop-at : goal.invariant-loop-at
invariant-loop-at l =
    Scanning l.b l.own l.header l.i l.end l.at l.place l.count (met l.i l.count l.kind l.from) × (l.at ≤ l.header)

abbrev pub decreases-loop-at : goal.decreases-loop-at
decreases-loop-at l = l.header - l.at
