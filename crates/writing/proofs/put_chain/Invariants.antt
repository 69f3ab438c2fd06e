use Prim.Native.Nat.{◌-◌, ◌≤◌}
use lib.ListN.{length}
use Rattle.number.specs.Bytes.{part}
use Rattle.paging.specs.Pages.{over}
use Rattle.writing.specs.Pages.{joined}
use Rattle.writing.specs.Rows.{chain_of}
use Rattle.writing.proofs.ChainLaws.{ChainLeft}
use Rattle.writing.proofs.put_chain.Given as goal

abbrev pub invariant-loop-k : goal.invariant-loop-k
invariant-loop-k l =
    (l.k ≤ l.n)
    × ChainLeft (over l.initial.out l.at (joined (chain_of 1024 l.n l.first (part l.payloads l.from (l.end - l.from))))) (length l.initial.out) l.payloads l.end l.out (l.n - l.k)
    l.place l.page l.done
