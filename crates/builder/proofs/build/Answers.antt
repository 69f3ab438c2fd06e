use Rattle.builder.proofs.FreshFile.{is-fresh}
use Prim.Native.Nat.{◌≤◌}
use native.Mathlib.Omega.{arith}
use mathlib.Core.Path.{◌≡◌, refl, sym}
use Rattle.std.proofs.lemmas.Result.{err_from_is_err_and}
use Rattle.refusal.proofs.Laws.{number-some}
use Rattle.builder.specs.Build.{given_refusal}
use Rattle.builder.proofs.Answer.{refused-given, given-sound, refused-5, refused-44, plan-most, image-room, built}
use Rattle.builder.proofs.build.Goals as goal
use Rattle.builder.proofs.build.Goals.{After-counted-p, In_ok-check_given}

pub returns-in_err-check_given : goal.returns-in_err-check_given
returns-in_err-check_given c =
    let p = err_from_is_err_and c.from_residual.result c.from_residual.ensures.1 in
    rw (p.1, p.2) (let r = refused-given _ _ _ _ c.args.out.now _ c.in_err-check_given.ensures.refusal (number-some _) in
    record { answer = r.0; output = r.1; good = tt })

-- what was given is not refused
fine : (c : In_ok-check_given) → let a = c.args in
    given_refusal a.schema.now a.rows.now a.lengths.now a.payloads.now ≡ 0
fine c = sym c.in_ok-check_given.ensures.refusal

pub counted-p-requires : goal.counted-p-requires
counted-p-requires c =
    let s = given-sound _ _ _ _ (fine (goal.at.counted-p-requires c).In_ok-check_given) in
    (s, omega (arith, s.few), omega (arith, s.few))

-- and has few pages of each sort
few : (c : After-counted-p) → let p = c.counted-p.result in (p.roots ≤ 1) × (p.inners ≤ 4096) × (p.leaves ≤ 4097) × (p.links ≤ 565248)
few c = plan-most _ _ _ _ (sym c.in_ok-check_given.ensures.refusal) _ _ _ c.counted-p.ensures

pub overflow_add-n : goal.overflow_add-n
overflow_add-n c = omega (arith, few (goal.at.overflow_add-n c).After-counted-p)

pub overflow_add-n-2 : goal.overflow_add-n-2
overflow_add-n-2 c = omega (arith, few (goal.at.overflow_add-n-2 c).After-counted-p)

pub overflow_add-n-3 : goal.overflow_add-n-3
overflow_add-n-3 c = omega (arith, few (goal.at.overflow_add-n-3 c).After-counted-p)

pub overflow_add-n-4 : goal.overflow_add-n-4
overflow_add-n-4 c = omega (arith, few (goal.at.overflow_add-n-4 c).After-counted-p)

pub returns-then-n-gt4096 : goal.returns-then-n-gt4096
returns-then-n-gt4096 c =
    let r = refused-5 _ _ _ _ (fine (goal.at.returns-then-n-gt4096 c).In_ok-check_given) _ _ _ c.counted-p.ensures c.args.out.now c.if-n-gt4096.true in
    record { answer = r.0; output = r.1; good = tt }

pub returns-then-out-n : goal.returns-then-out-n
returns-then-out-n c =
    let r = refused-44 _ _ _ _ (fine (goal.at.returns-then-out-n c).In_ok-check_given) _ _ _ c.counted-p.ensures c.args.out.now c.if-n-gt4096.false
    c.if-out-n.true in
    record { answer = r.0; output = r.1; good = tt }

pub put_image-requires : goal.put_image-requires
put_image-requires c =
    image-room _ _ _ _ (fine (goal.at.put_image-requires c).In_ok-check_given) _ _ _ c.counted-p.ensures _ (omega arith) (omega arith) c.if-n-gt4096.false c.if-out-n.false

pub returns : goal.returns
returns c =
    let r = built _ _ _ _ (fine (goal.at.returns c).In_ok-check_given) _ _ _ c.counted-p.ensures c.args.out.now c.put_image.new.out (omega arith) (omega arith)
    c.if-n-gt4096.false c.if-out-n.false c.put_image.ensures in
    record { answer = r.0; output = r.1; good = is-fresh _ _ _ _ _ _ r.0 c.in_ok-check_given.ensures.fit refl }
