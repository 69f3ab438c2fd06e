use Rattle.std.proofs.Common.{◌≡◌, ◌++◌, true, drop, sym, ◌∙◌, rules}
use Rattle.paging.specs.Pages.{size_fits}
use Rattle.appending.specs.Written.{header_bytes}
use Rattle.appending.specs.Tail.{tail_of}
use Rattle.appending.proofs.OpenLaws.{tail-laid, begin-words, opens}
use Rattle.appending.proofs.log_begin.Goals as goal
use Rattle.appending.proofs.log_begin.Goals.{After-put_tail}

fits : (c : After-put_tail) → size_fits c.args.size ≡ true
fits c = sym c.size_fits.ensures ∙ c.if-not-size_fits.false

laid : (c : After-put_tail) → c.put_tail.new.tail ≡ tail_of (header_bytes c.args.size c.args.sequence c.args.salt1 c.args.salt2) ++ drop 8 c.args.tail.now
laid c =
    let a = c.args in
    tail-laid a.size a.sequence a.salt1 a.salt2 (fits c) _ _ a.tail.now _ (search rules) (search rules) c.put_header-sums.ensures.sums c.put_tail.ensures

pub returns-clause-words : goal.returns-clause-words
returns-clause-words c =
    let w : After-put_tail = (goal.at.returns-clause-words c).After-put_tail in
    let a = c.args in
    begin-words a.size a.sequence a.salt1 a.salt2 (fits w) _ _ _ c.if-tail-lt8.false c.if-out-lt32.false (laid w)

pub returns-clause-opens : goal.returns-clause-opens
returns-clause-opens c =
    let w : After-put_tail = (goal.at.returns-clause-opens c).After-put_tail in
    let a = c.args in
    opens a.size a.sequence a.salt1 a.salt2 (fits w) _ _ _ _ (search rules) (search rules) (laid w) c.put_header-sums.ensures.output
