use mathlib.Core.Path.{◌≡◌, sym, ◌∙◌}
use mathlib.Core.Bool.{false}
use lib.ListN.{length}
use Rattle.builder.specs.Build.{bad_lists, over_from, unread_from}
use Rattle.builder.proofs.Refused.{given-48, given-26, given-28-row, given-28, given-none}
use Rattle.builder.proofs.check_given.Goals as goal
use Rattle.builder.proofs.check_given.Goals.{Else-bad_lists, Else-over_limit, Else-unread}

-- the lists were found good, no payload too long, and all of them to read
listed : (c : Else-bad_lists) → bad_lists c.args.rows.now c.args.lengths.now c.args.payloads.now ≡ false
listed c = sym c.bad_lists.ensures.0 ∙ c.if-bad_lists.false

limited : (c : Else-over_limit) → let lengths = c.args.lengths.now in over_from lengths (length lengths) 0 ≡ false
limited c = sym c.over_limit.ensures ∙ c.if-over_limit.false

read : (c : Else-unread) → let lengths = c.args.lengths.now in unread_from lengths c.args.payloads.now (length lengths) 0 0 ≡ false
read c = sym c.unread.ensures ∙ c.if-unread.false

pub returns-then-bad_lists-clause-refusal : goal.returns-then-bad_lists-clause-refusal
returns-then-bad_lists-clause-refusal c = given-48 _ _ _ _ (sym c.bad_lists.ensures.0 ∙ c.if-bad_lists.true)

pub returns-then-over_limit-clause-refusal : goal.returns-then-over_limit-clause-refusal
returns-then-over_limit-clause-refusal c =
    given-26 _ _ _ _ (listed (goal.at.returns-then-over_limit-clause-refusal c).Else-bad_lists) (sym c.over_limit.ensures ∙ c.if-over_limit.true)

pub returns-then-unread-clause-refusal : goal.returns-then-unread-clause-refusal
returns-then-unread-clause-refusal c =
    let g = goal.at.returns-then-unread-clause-refusal c in
    given-28-row _ _ _ _ (listed g.Else-bad_lists) (limited g.Else-over_limit) (sym c.unread.ensures ∙ c.if-unread.true)

pub returns-then-bad_schema-clause-refusal : goal.returns-then-bad_schema-clause-refusal
returns-then-bad_schema-clause-refusal c =
    let g = goal.at.returns-then-bad_schema-clause-refusal c in
    given-28 _ _ _ _ (listed g.Else-bad_lists) (limited g.Else-over_limit) (read g.Else-unread) (sym c.bad_schema.ensures ∙ c.if-bad_schema.true)

pub returns : goal.returns
returns c =
    let g = goal.at.returns c in
    record {
      refusal = given-none _ _ _ _ (listed g.Else-bad_lists) (limited g.Else-over_limit) (read g.Else-unread) (sym c.bad_schema.ensures ∙ c.if-bad_schema.false);
      fit = c.bad_lists.ensures.1 c.if-bad_lists.false;
    }
