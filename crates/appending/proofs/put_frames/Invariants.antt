use Rattle.std.proofs.Common.{◌++◌, length}
use Rattle.paging.specs.Pages.{over}
use Rattle.wal.specs.Sums.{is_big}
use Rattle.appending.specs.Written.{word4, frames_from, sums_from}
use Rattle.appending.proofs.WritingLaws.{Writing}
use Rattle.appending.proofs.put_frames.Given as goal

abbrev pub invariant-loop-i : goal.invariant-loop-i
invariant-loop-i l =
    Writing (over l.initial.out 0 (frames_from (is_big l.order) l.size (word4 l.salt1 ++ word4 l.salt2) l.n l.numbers l.pages (l.initial.t.s0, l.initial.t.s1)))
    (sums_from (is_big l.order) l.size l.n l.numbers l.pages (l.initial.t.s0, l.initial.t.s1)) (length l.initial.out) (is_big l.order) l.size (word4 l.salt1 ++ word4 l.salt2) l.n l.numbers l.pages
    l.out l.i l.at l.from l.t.s0 l.t.s1
