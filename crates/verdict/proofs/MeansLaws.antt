-- The equations of the verdict's contract give what it means.
use Prim.Native.Nat.{ℕ, ◌+◌, ◌-◌, ◌*◌, ◌≤◌}
use mathlib.Core.Path.{◌≡◌, refl, sym, ap, ◌∙◌, subst}
use mathlib.Core.Bool.{true, false, cond}
use mathlib.Core.List.{List, ◌++◌}
use mathlib.Core.Logic.{◌⊎◌, inl, inr}
use native.Mathlib.Omega.{arith}
use lib.Dec.{eqb, ltb}
use lib.ListN.{length, get_or, drop, get_or-append}
use borrow.Author.Tests.{eqb-true, eq-eqb, le-ltb}
use Rattle.number.proofs.Cases.{true-or-false}
use Rattle.header.specs.Header.{header_refusal, header_of, pages_of}
use Rattle.dealing.specs.File.{File}
use Rattle.dealing.specs.Walk.{Verdict, accepted, refusal, verdict_for}
use Rattle.dealing.specs.Spelling.{long_by}
use Rattle.dealing.proofs.Theorems.{accepts, only_one, ledger, ledger-length, ledger-steps, long-counted}
use Rattle.dealing.specs.Steps.{steps_by}
use Rattle.dealing.proofs.Stepped.{steps-long}
use Rattle.spelling.proofs.Laws.{counted-most}
use Rattle.image.specs.Image.{file_of}
use Rattle.image.specs.Ready.{Opened}
use Rattle.image.proofs.Shape.{shape}
use Rattle.image.proofs.Fields.{N-field}
use Rattle.names.specs.Names.{bad34}
use Rattle.names.specs.Good.{GoodImageFor}
use Rattle.names.proofs.Good.{text-told, told_text}
use Rattle.verdict.specs.Means.{Means, Accepts}
use Rattle.verdict.specs.Verdict.{answer_of, too_small, verdict_is, begins, kinds_at, namers_at, steps_at}
use Rattle.verdict.specs.Answer as D
use Rattle.verdict.specs.Judged.{Answers}
use Rattle.verdict.proofs.VerdictLaws.{walk-trees}

some-pages : (b : List ℕ) → header_refusal b ≡ 0 → 1 ≤ (file_of b).N
some-pages b z =
    let o : Opened b (header_of b) = record { is = refl; passes = z } in
    let s = shape o in let n = s.N-is in let m = s.some in omega arith

-- an answer that accepts is no refusal
not-refused : {A : Type 0} (N k x q : ℕ) → D.Accepted N k ≡ D.Refused x q → A
not-refused N k x q e = absurd (let z : ◌≡◌ {A = ℕ} 0 1 = cc in omega arith)

module _ (b ordered ks ns ss : List ℕ) (r : D.Answer) (ks' ns' ss' : List ℕ) (a : Answers b ordered ks ns ss r ks' ns' ss') where
  abbrev f : File
  f = file_of b

  abbrev N : ℕ
  N = pages_of b

  -- what acceptance took: 1 to 12 and 34 passed, and the walk accepts
  pub record Accepting (n k : ℕ) : Type 0 where
    pub pages : n ≡ N
    pub passes : header_refusal b ≡ 0
    pub text : bad34 ordered b ≡ false
    pub fits : too_small N (length ks) (length ns) (length ss) ≡ false
    pub kinds : List ℕ
    pub namers : List ℕ
    pub walk : verdict_for ordered f ≡ accepted kinds namers
    pub counts : k ≡ long_by f kinds

  pub accepting : (n k : ℕ) → r ≡ D.Accepted n k → Accepting n k
  unfolding verdict_is
  accepting n k e = header (true-or-false (eqb (header_refusal b) 0)) (sym e ∙ a.answer)
    where
      walked : header_refusal b ≡ 0 → bad34 ordered b ≡ false → too_small N (length ks) (length ns) (length ss) ≡ false → (v : Verdict) → verdict_for ordered f ≡ v → D.Accepted n k ≡ answer_of f v → Accepting n k
      walked z x t (accepted l m) v w =
          let e : n ≡ f.N = cc in
          let c : k ≡ long_by f l = cc in
          record { pages = e ∙ N-field b; passes = z; text = x; fits = t; kinds = l; namers = m; walk = v; counts = c }
      walked z x t (refusal y q) v w = not-refused n k y q w

      room : header_refusal b ≡ 0 → bad34 ordered b ≡ false → (too_small N (length ks) (length ns) (length ss) ≡ true) ⊎ (too_small N (length ks) (length ns) (length ss) ≡ false)
          → D.Accepted n k ≡ cond (too_small N (length ks) (length ns) (length ss)) (D.Refused 12 0) (answer_of f (verdict_for ordered f)) → Accepting n k
      room z x (inl t) w = not-refused n k 12 0 (w ∙ rw t refl)
      room z x (inr t) w = walked z x t (verdict_for ordered f) refl (w ∙ rw t refl)

      encoded : header_refusal b ≡ 0 → (bad34 ordered b ≡ true) ⊎ (bad34 ordered b ≡ false)
          → D.Accepted n k
          ≡ cond (bad34 ordered b) (D.Refused 34 0)
          (cond (too_small N (length ks) (length ns) (length ss)) (D.Refused 12 0) (answer_of f (verdict_for ordered f))) → Accepting n k
      encoded z (inl t) w = not-refused n k 34 0 (w ∙ rw t refl)
      encoded z (inr t) w = room z t (true-or-false (too_small N (length ks) (length ns) (length ss))) (w ∙ rw t refl)

      header : (eqb (header_refusal b) 0 ≡ true) ⊎ (eqb (header_refusal b) 0 ≡ false) → D.Accepted n k ≡ verdict_is b ordered (length ks) (length ns) (length ss) → Accepting n k
      header (inl t) w = encoded (eqb-true (header_refusal b) 0 t) (true-or-false (bad34 ordered b)) (w ∙ rw t refl)
      header (inr t) w = not-refused n k (header_refusal b) 0 (w ∙ rw t refl)

  good-accepted : N ≤ length ks → N ≤ length ns → N ≤ length ss → GoodImageFor ordered b → (c : ℕ) × (r ≡ D.Accepted N c)
  unfolding verdict_is
  good-accepted k n s g =
      let z = eq-eqb (header_refusal b) 0 g.1.passes in
      let kf : ltb (length ks) N ≡ false = le-ltb (length ks) N k in
      let nf : ltb (length ns) N ≡ false = le-ltb (length ns) N n in
      let sf : ltb (length ss) N ≡ false = le-ltb (length ss) N s in
      let x = told_text ordered b g.1.text in
      let v = (accepts ordered f (some-pages b g.1.passes)).1 (g.0, g.1.good) in
      (long_by f v.0, a.answer ∙ rw (z, x, kf, nf, sf, v.2) (ap (λ (m : ℕ). D.Accepted m (long_by f v.0)) (N-field b)))

  accepted-good : (n k : ℕ) → r ≡ D.Accepted n k → GoodImageFor ordered b
  accepted-good n k e =
      let w = accepting n k e in
      let g = (accepts ordered f (some-pages b w.passes)).0 (w.kinds, w.namers, w.walk) in
      (g.0, record { passes = w.passes; text = text-told ordered b w.text; good = g.1 })

  pub means : Means b ordered ks ns ss (Accepts r) ks' ns' ss'
  unfolding kinds_at namers_at steps_at begins
  means =
      record {
        accepts = λ n k e. ((accepting n k e).pages, accepted-good n k e);
        exactly = λ k n s. (λ x. accepted-good N x.0 x.1, good-accepted k n s);
        only = λ d d' g g'. only_one f d d' g.good g'.good;
        ledgers = λ k e d g p low high.
            let w = accepting N k e in
            let z = eq-eqb (header_refusal b) 0 w.passes in
            let n = N-field b in
            let some = some-pages b w.passes in
            let l = ledger ordered f some w.kinds w.namers w.walk d g.good in
            let long = ledger-length ordered f some w.kinds w.namers w.walk in
            let is-k : ks' ≡ w.kinds ++ drop N ks = a.kinds ∙ rw (z, w.text, w.fits, w.walk) refl in
            let is-n : ns' ≡ w.namers ++ drop N ns = a.namers ∙ rw (z, w.text, w.fits, w.walk) refl in
            let is-s : ss' ≡ steps_by w.namers N ++ drop N ss = a.steps ∙ rw (z, w.text, w.fits, w.walk) refl in
            let told = ledger-steps ordered f some w.kinds w.namers w.walk d g.good p (low, omega arith) in (
              ap (λ (x : List ℕ). get_or x (p - 1) 0) is-k ∙ get_or-append w.kinds (drop N ks) 0 (p - 1) (omega (arith, long.0)) ∙ l.kinds_are p (low, omega arith),
              ap (λ (x : List ℕ). get_or x (p - 1) 0) is-n ∙ get_or-append w.namers (drop N ns) 0 (p - 1) (omega (arith, long.1)) ∙ l.namers_are p (low, omega arith),
              ap (λ (x : List ℕ). get_or x (p - 1) 0) is-s ∙ get_or-append (steps_by w.namers N) (drop N ss) 0 (p - 1) (omega (arith, steps-long w.namers N N))
                  ∙ ap (λ (m : ℕ). get_or (steps_by w.namers m) (p - 1) 0) (sym n) ∙ told,
            );
        count = λ n k e d g. let w = accepting n k e in w.counts ∙ long-counted ordered f (some-pages b w.passes) w.kinds w.namers w.walk d g.good;
        count_most = λ n k e.
            let w = accepting n k e in
            let o : Opened b (header_of b) = record { is = refl; passes = w.passes } in
            let long = ledger-length ordered f (some-pages b w.passes) w.kinds w.namers w.walk in
            let s = shape o in
            let l : length w.kinds ≡ (header_of b).pages = long.0 ∙ s.N-is in
            let m = counted-most (walk-trees ordered w.kinds w.namers o l w.walk) in
            let e : (header_of b).pages ≡ n = s.pages-is ∙ sym w.pages in
            subst (λ (i : ℕ). k ≤ i * 65536) e (subst (λ (i : ℕ). i ≤ (header_of b).pages * 65536) (sym w.counts) m);
      }

pub meant : {b ordered ks ns ss : List ℕ} {r : D.Answer} {ks' ns' ss' : List ℕ} → Answers b ordered ks ns ss r ks' ns' ss' → Means b ordered ks ns ss (Accepts r) ks' ns' ss'
meant a = means _ _ _ _ _ _ _ _ _ a
