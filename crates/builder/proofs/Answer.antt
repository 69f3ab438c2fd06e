-- What the builder answers and leaves, refusal by refusal.
-- Assumes nothing.
use Prim.Native.Nat.{ℕ, zero, suc, ◌+◌, ◌*◌, ◌<◌, ◌≤◌}
use mathlib.Core.Path.{◌≡◌, refl, sym, ap, ◌∙◌, subst}
use mathlib.Core.Bool.{true, false, cond}
use mathlib.Core.List.{List, ◌++◌}
use mathlib.Core.Logic.{⊎_elim}
use native.Mathlib.Omega.{arith}
use lib.Dec.{eqb, ltb}
use lib.IntN.{ℤ}
use lib.ListN.{length, get_or, drop, get_or-eq_default}
use borrow.Author.Tests.{lt-ltb, le-ltb, eq-eqb, ne_eqb, ltb-false}
use Rattle.number.proofs.Cases.{lt-or-ge}
use Rattle.paging.specs.Pages.{over}
use Rattle.writing.specs.Rows.{Row}
use Rattle.writing.specs.Layout.{size}
use Rattle.writing.specs.Given.{rows_given, Held}
use Rattle.filling.specs.Fill.{total, links_from, Limits, keys_grouped, row_counts}
use Rattle.filling.proofs.Sums.{links-most, key-bounds}
use Rattle.filling.proofs.Loops.{counts-most}
use Rattle.builder.specs.Built.{Built}
use Rattle.builder.specs.declared.Plan.{Plan}
use Rattle.builder.specs.Build.{over_from, pages_for}
use Rattle.builder.specs.Build.{given_refusal, size_refusal, refusal_of, built_of, out_at}
use Rattle.builder.specs.Plan.{Sound, Planned, pages_of, laid_bytes, ImageRoom}
use Rattle.builder.proofs.Clear.{Given, given-clear, held-from, either}
use Rattle.builder.proofs.ImageLaid.{laid-length}
use Rattle.builder.proofs.PlanLaws.{several-most, row-counts-most, least-most, tree_is, pages-given, image-is}

-- ---- the lists are sound
limit-from : (ls : List ℕ) (k i j : ℕ) → over_from ls k i ≡ false → i ≤ j → j < i + k → get_or ls j 0 ≤ 65536
unfolding over_from
limit-from ls zero i j e h l = absurd (omega arith)
limit-from ls (suc k) i j e h l =
    let p = either (ltb 65536 (get_or ls i 0)) _ e in
    ⊎_elim
    (λ (z : j < i + 1).
    let q : i ≡ j = omega arith in
    subst (λ x. get_or ls x 0 ≤ 65536) q (ltb-false 65536 (get_or ls i 0) p.0))
    (λ (z : i + 1 ≤ j). limit-from ls k (i + 1) j p.1 z (omega arith)) (lt-or-ge j (i + 1))

limits-are : (ls : List ℕ) → over_from ls (length ls) 0 ≡ false → Limits ls
limits-are ls e =
    record {
      limit = λ j. ⊎_elim (λ (z : j < length ls). limit-from ls (length ls) 0 j e (omega arith) (omega arith))
          (λ (z : length ls ≤ j). omega (arith, get_or-eq_default ls 0 {n = j} z)) (lt-or-ge j (length ls));
    }

roots-most : (n : ℕ) → cond (ltb n 2) 0 1 ≤ 1
roots-most n =
    ⊎_elim (λ (z : n < 2). omega (arith, ap {B = ℕ} (λ b. cond b 0 1) (lt-ltb n 2 z)))
    (λ (z : 2 ≤ n). omega (arith, ap {B = ℕ} (λ b. cond b 0 1) (le-ltb n 2 z))) (lt-or-ge n 2)

links-least : (ls : List ℕ) → Limits ls → (k i : ℕ) → links_from ls k i ≤ 138 * k
unfolding total
links-least ls l zero i = omega arith
links-least ls l (suc k) i = omega (arith, links-least ls l k (i + 1), links-most (get_or ls i 0) (l.limit i))

module _ (schema : List ℕ) (ns : List ℤ) (ls ps : List ℕ) where
  abbrev G : ℕ
  G = given_refusal schema ns ls ps

  abbrev rows : List Row
  rows = rows_given ns ls ps

  abbrev R : (room : ℕ) → ℕ
  R room = refusal_of schema ns ls ps room

  refusal-given : (room : ℕ) → (G ≡ 0 → ⊥) → R room ≡ G
  unfolding refusal_of
  refusal-given room h = rw (ne_eqb G 0 h)

  refusal-size : (room : ℕ) → G ≡ 0 → R room ≡ size_refusal (pages_for rows) room
  unfolding refusal_of
  refusal-size room h = rw (eq-eqb G 0 h)

  -- a refusal, and the output as it was
  refused : (out : List ℕ) (r : ℕ) → r ≡ R (length out) → (r ≡ 0 → ⊥)
      → (◌≡◌ {A = Built} (record { refusal = r; pages = 0 }) (built_of schema ns ls ps (length out))) × (out ≡ out_at schema ns ls ps out)
  unfolding built_of out_at
  refused out r e h =
      let z : eqb (R (length out)) 0 ≡ false = ne_eqb (R (length out)) 0 (λ (k : R (length out) ≡ 0). h (e ∙ k)) in
      (rw (z, ← e) refl, rw z refl)

  pub refused-given : (out : List ℕ) (r : ℕ) → r ≡ G → (r ≡ 0 → ⊥)
      → (◌≡◌ {A = Built} (record { refusal = r; pages = 0 }) (built_of schema ns ls ps (length out))) × (out ≡ out_at schema ns ls ps out)
  refused-given out r e h = refused out r (e ∙ sym (refusal-given (length out) (λ (k : G ≡ 0). h (e ∙ k)))) h

  module _ (given : G ≡ 0) where
    its : Given schema ns ls ps
    its = given-clear schema ns ls ps given

    pub given-sound : Sound ns ls
    given-sound = record { same = its.same; few = its.few; limits = limits-are ls its.limits }

    pub given-held : Held ls ps (length ns) 0 0
    given-held = held-from ls ps (length ns) 0 0 (rw its.same at its.limits) (omega (arith, its.adds))

    module _ (keys tops : List ℕ) (p : Plan) (plan : Planned ns ls keys tops p) where
      pages-are : pages_for rows ≡ pages_of p
      pages-are = pages-given schema ns ls ps keys tops p given-sound given-held plan

      pub refused-5 : (out : List ℕ) → 4096 < pages_of p
          → (◌≡◌ {A = Built} (record { refusal = 5; pages = 0 }) (built_of schema ns ls ps (length out))) × (out ≡ out_at schema ns ls ps out)
      refused-5 out h =
          refused out 5 (sym (refusal-size (length out) given ∙ ap (λ n. size_refusal n (length out)) pages-are
          ∙ ap (λ b. cond b 5 (cond (ltb (length out) (pages_of p * size)) 44 0)) (lt-ltb 4096 (pages_of p) h)))
          (λ (z : 5 ≡ 0). omega arith)

      pub refused-44 : (out : List ℕ) → pages_of p ≤ 4096 → length out < pages_of p * 1024
          → (◌≡◌ {A = Built} (record { refusal = 44; pages = 0 }) (built_of schema ns ls ps (length out))) × (out ≡ out_at schema ns ls ps out)
      refused-44 out h l =
          refused out 44 (sym (refusal-size (length out) given ∙ ap (λ n. size_refusal n (length out)) pages-are
          ∙ ap (λ b. cond b 5 (cond (ltb (length out) (pages_of p * size)) 44 0)) (le-ltb 4096 (pages_of p) h)
          ∙ ap (λ b. cond b 44 0) (lt-ltb (length out) (pages_of p * 1024) l)))
          (λ (z : 44 ≡ 0). omega arith)

      -- the sums fit
      pub plan-most : (p.roots ≤ 1) × (p.inners ≤ 4096) × (p.leaves ≤ 4097) × (p.links ≤ 565248)
      plan-most =
          let s = several-most (length (row_counts ns ls)) in
          let c = row-counts-most ns ls in
          let k = counts-most (keys_grouped keys) (λ left i h. (key-bounds keys left i (keys_grouped keys left i) h refl).0) p.low p.low 0 in (
            omega (arith, plan.roots, roots-most p.inners),
            omega (arith, plan.inners, plan.low, its.few),
            omega (arith, plan.leaves, least-most (length (row_counts ns ls)), its.few),
            omega (arith, plan.links, links-least ls given-sound.limits (length ns) 0, its.few),
          )

      pub image-room : (room : ℕ) → 4096 ≤ length keys → 4096 ≤ length tops → pages_of p ≤ 4096 → pages_of p * 1024 ≤ room
          → ImageRoom schema ns ls ps keys tops room p
      image-room room ke te few whole =
          let s = several-most (length (row_counts ns ls)) in
          let m = plan-most in
          record {
            short = its.short;
            sound = given-sound;
            held = given-held;
            planned = plan;
            tops_in = omega (arith, plan.high, several-most p.inners, m.1);
            keys_in = omega (arith, plan.low, row-counts-most ns ls, its.few);
            roots_are = (tree_is ns ls ps keys tops p 0 given-sound given-held plan).roots;
            pages = few;
            whole = whole;
          }

      pub built : (out out' : List ℕ) → 4096 ≤ length keys → 4096 ≤ length tops → pages_of p ≤ 4096 → pages_of p * 1024 ≤ length out
          → out' ≡ over out 0 (laid_bytes schema ns ls ps keys tops p)
          → (◌≡◌ {A = Built} (record { refusal = 0; pages = pages_of p }) (built_of schema ns ls ps (length out))) × (out' ≡ out_at schema ns ls ps out)
      unfolding built_of out_at
      built out out' ke te few whole e =
          let r : R (length out) ≡ 0 =
          refusal-size (length out) given ∙ ap (λ n. size_refusal n (length out)) pages-are
          ∙ ap (λ b. cond b 5 (cond (ltb (length out) (pages_of p * size)) 44 0)) (le-ltb 4096 (pages_of p) few)
          ∙ ap (λ b. cond b 44 0) (le-ltb (length out) (pages_of p * 1024) whole) in
          let z : eqb (R (length out)) 0 ≡ true = eq-eqb (R (length out)) 0 r in
          let i = image-is schema ns ls ps keys tops p given-sound given-held plan in
          let n : 0 + length (laid_bytes schema ns ls ps keys tops p) ≡ pages_for rows * size =
          omega (
            arith,
            laid-length schema ns ls ps keys tops (length out) p (image-room (length out) ke te few whole),
            ap (λ x. x * 1024) pages-are,
          ) in (
            rw (z, r, pages-are) refl,
            rw z (e ∙ ap (λ x. laid_bytes schema ns ls ps keys tops p ++ drop x out) n ∙ ap (λ x. x ++ drop (pages_for rows * size) out) i),
          )
