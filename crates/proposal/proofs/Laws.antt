-- From the verdict and the comparison to what the checker answers and means.
use Prim.Native.Nat.{ℕ, ◌-◌, ◌≤◌}
use mathlib.Core.Path.{◌≡◌, refl, sym, ap, ◌∙◌}
use mathlib.Core.Bool.{true, false}
use mathlib.Core.Logic.{◌⊎◌, inl, inr}
use mathlib.Core.List.{List, []}
use native.Mathlib.Omega.{arith}
use lib.Dec.{ltb}
use lib.ListN.{length}
use borrow.Author.Tests.{ltb-false}
use Rattle.std.specs.Prelude.{Option, Some, None}
use Rattle.number.proofs.Cases.{true-or-false}
use Rattle.header.specs.Header.{header_of, pages_of}
use Rattle.dealing.specs.Good.{Dealing}
use Rattle.image.specs.Good.{GoodDealing}
use Rattle.image.specs.Ready.{Opened}
use Rattle.image.proofs.Shape.{shape}
use Rattle.names.proofs.Good.{good_for, good_none}
use Rattle.verdict.specs.Verdict.{too_small, verdict_is, kinds_at, namers_at, steps_at}
use Rattle.verdict.specs.Means.{Means, Accepts}
use Rattle.verdict.specs.Answer as A
use Rattle.verdict.specs.Judged.{Answers}
use Rattle.verdict.proofs.MeansLaws.{accepting}
use Rattle.wire.specs.Wire.{at, proposal_of}
use Rattle.wire.specs.Compare.{compared_of}
use Rattle.wire.specs.Write.{most_pages}
use Rattle.wire.proofs.Theorems.{same-exactly, spelled_by}
use Rattle.proposal.specs.Check.{said, checked_of}
use Rattle.proposal.specs.Means.{dealt_out, Checks, Says}
use Rattle.proposal.specs.Checked as D

-- no ledger is too small
large : (N k n s : ℕ) → too_small N k n s ≡ false → (N ≤ k) × (N ≤ n) × (N ≤ s)
large N k n s = go (true-or-false (ltb k N)) (true-or-false (ltb n N))
  where
    go : (ltb k N ≡ true) ⊎ (ltb k N ≡ false) → (ltb n N ≡ true) ⊎ (ltb n N ≡ false) → too_small N k n s ≡ false → (N ≤ k) × (N ≤ n) × (N ≤ s)
    go (inl a) y e = absurd (let z = rw a at e in let w : ◌≡◌ {A = ℕ} 0 1 = cc in omega arith)
    go (inr a) (inl c) e = absurd (let z = rw (a, c) at e in let w : ◌≡◌ {A = ℕ} 0 1 = cc in omega arith)
    go (inr a) (inr c) e = (ltb-false k N a, ltb-false n N c, ltb-false s N (rw (a, c) at e))

-- what the verdict's contract says
abbrev pub Told : (b ks ns ss : List ℕ) (r : A.Answer) (ks' ns' ss' : List ℕ) → Type 0
Told b ks ns ss r ks' ns' ss' =
    (r ≡ verdict_is b [] (length ks) (length ns) (length ss))
    × ((ks' ≡ kinds_at b [] ks (length ns) (length ss))
    × ((ns' ≡ namers_at b [] (length ks) ns (length ss)) × ((ss' ≡ steps_at b [] (length ks) (length ns) ss) × Means b [] ks ns ss (Accepts r) ks' ns' ss')))

answers : {b ks ns ss : List ℕ} {r : A.Answer} {ks' ns' ss' : List ℕ} → Told b ks ns ss r ks' ns' ss' → Answers b [] ks ns ss r ks' ns' ss'
answers (e, (ek, (en, (es, m)))) = record { answer = e; kinds = ek; namers = en; steps = es }

module _ (b w ks ns ss : List ℕ) (r : A.Answer) (ks' ns' ss' : List ℕ) (t : Told b ks ns ss r ks' ns' ss') where
  -- an accepted image has few pages, and the ledgers an entry for each
  pub accepted-fits : (n k : ℕ) → r ≡ A.Accepted n k → (n ≤ most_pages) × (n ≤ length ks) × (n ≤ length ns) × (n ≤ length ss)
  accepted-fits n k e =
      let a = accepting b [] ks ns ss r ks' ns' ss' (answers t) n k e in
      let o : Opened b (header_of b) = record { is = refl; passes = a.passes } in
      let s = shape o in
      let l = large (pages_of b) (length ks) (length ns) (length ss) a.fits in
      let p = a.pages in
      (omega (arith, s.few, s.pages-is), omega (arith, l.0), omega (arith, l.1), omega (arith, l.2))

  module _ (x : D.Checked) (is : x ≡ checked_of w r ks' ns' ss') where
    yes-to : Says x → (n k : ℕ) × (r ≡ A.Accepted n k) × (w ≡ proposal_of n ks' ns' ss')
    yes-to y = go r refl (sym is ∙ y)
      where
        same : (n k : ℕ) → (c : Option ℕ) → compared_of w n ks' ns' ss' ≡ c → said c ≡ D.Yes → w ≡ proposal_of n ks' ns' ss'
        same n k None e z = (same-exactly w n ks' ns' ss').0 e
        same n k (Some p) e z = absurd (let q : ◌≡◌ {A = ℕ} 0 1 = cc in omega arith)

        go : (a : A.Answer) → r ≡ a → checked_of w a ks' ns' ss' ≡ D.Yes
            → (n k : ℕ) × (r ≡ A.Accepted n k) × (w ≡ proposal_of n ks' ns' ss')
        go (A.Accepted n k) e z = (n, k, e, same n k (compared_of w n ks' ns' ss') refl z)
        go (A.Refused q p) e z = absurd (let y : ◌≡◌ {A = ℕ} 0 1 = cc in omega arith)

    to-yes : (n k : ℕ) → r ≡ A.Accepted n k → w ≡ proposal_of n ks' ns' ss' → Says x
    to-yes n k e s = is ∙ ap (λ (a : A.Answer). checked_of w a ks' ns' ss') e ∙ ap said ((same-exactly w n ks' ns' ss').1 s)

    m : Means b [] ks ns ss (Accepts r) ks' ns' ss'
    m = t.1.1.1.1

    -- the ledgers are spelled as the good dealing
    dealt : (k : ℕ) → r ≡ A.Accepted (pages_of b) k → (d : Dealing) → GoodDealing b d → proposal_of (pages_of b) ks' ns' ss' ≡ dealt_out (pages_of b) d
    dealt k e d g = spelled_by (at ks') (at ns') (at ss') d.kind d.namer d.step (pages_of b) (λ p low high. m.ledgers k e d g p low high)

    pub checks : Checks b w ks ns ss (Says x) ks' ns' ss'
    checks =
        record {
          exactly = (λ y. let v = yes-to y in (v.0, v.1, sym t.0 ∙ v.2, v.3), λ v. to-yes v.0 v.1 (t.0 ∙ v.2) v.3);
          sound = λ y.
              let v = yes-to y in
              let a = m.accepts v.0 v.1 v.2 in
              let e : r ≡ A.Accepted (pages_of b) v.1 = v.2 ∙ ap (λ (i : ℕ). A.Accepted i v.1) a.0 in
              let s : w ≡ proposal_of (pages_of b) ks' ns' ss' = v.3 ∙ ap (λ (i : ℕ). proposal_of i ks' ns' ss') a.0 in
              let d = a.1.0 in
              let g = good_for [] b d a.1.1 in
              (d, g, s ∙ dealt v.1 e d g);
          complete = λ i j l d g s. let v = (m.exactly i j l).1 (d, good_none b d g) in to-yes (pages_of b) v.0 v.1 (s ∙ sym (dealt v.0 v.1 d g));
        }
