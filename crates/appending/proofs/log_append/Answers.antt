use Rattle.std.proofs.Common.{◌≡◌, ◌+◌, ◌++◌, ℕ, List, length, get_or, drop, sym, ap, ◌∙◌, arith}
use Rattle.wal.specs.Sums.{Sums, is_big}
use Rattle.appending.specs.Answers.{append_refusal}
use Rattle.appending.specs.Tail.{tail_is, size_in, big_in, frames_in}
use Rattle.appending.proofs.GivenLaws.{append-passed, given_long}
use Rattle.appending.proofs.CommitLaws.{appends}
use Rattle.appending.proofs.log_append.Goals as goal

pub returns-clause-appends : goal.returns-clause-appends
returns-clause-appends c log t =
    let tail : List ℕ = c.args.tail.now in
    let done : append_refusal tail c.args.n c.args.numbers.now (length c.args.pages.now) (length c.args.out.now) ≡ 0 = sym c.in_ok-check_commit.ensures in
    let big : is_big c.order_by-order.result ≡ big_in tail = c.order_by-order.ensures in
    let p = append-passed _ _ _ _ _ done in
    appends tail log t c.args.n c.args.numbers.now c.args.pages.now c.args.out.now (λ i. omega (arith, c.type_inv.pages i)) done _ _ _ _ _ _
    c.frame_at-at.ensures (given_long _ _ _ _ p.given) (rw big at c.put_frames-after.ensures.output)
    ((rw big at c.put_tail.ensures)
    ∙ ap (λ (s : Sums). tail_is (size_in tail) (big_in tail) (get_or tail 2 0) (get_or tail 3 0) s (frames_in tail + length c.args.numbers.now) c.args.n ++ drop 8 tail)
    (sym (rw big at c.put_frames-after.ensures.sums)))
