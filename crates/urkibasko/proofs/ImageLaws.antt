-- Verdict, lookup and payload, from the answer and its case to what C sees.
use Prim.Native.Nat.{ℕ}
use mathlib.Core.Path.{◌≡◌, refl, sym, ap, ◌∙◌, subst}
use mathlib.Core.Logic.{◌↔◌}
use mathlib.Core.List.{List}
use lib.IntN.{ℤ}
use lib.ListN.{length}
use native.Mathlib.Omega.{arith}
use Rattle.header.specs.Header.{pages_of}
use Rattle.dealing.specs.Good.{Dealing}
use Rattle.verdict.specs.Verdict.{verdict_is, kinds_at, namers_at, steps_at}
use Rattle.verdict.specs.Means.{Means, Accepts}
use Rattle.verdict.specs.Answer.{Answer}
use Rattle.lookup.specs.Means.{Finds, Shows, Nothing, Refuses, Fetches, Copied, NoRoom}
use Rattle.lookup.specs.Found.{Found}
use Rattle.lookup.specs.Found as F
use Rattle.lookup.specs.Fetched as P
use Rattle.urkibasko.specs.Image.{verdict_c, AcceptsC, found_c, ShowsC, NothingC, RefusesC, payload_c, CopiedC, NoRoomC}
use Rattle.urkibasko.specs.declared.answers.UrkVerdict.{UrkVerdict}
use Rattle.urkibasko.specs.declared.answers.UrkFound.{UrkFound}
use Rattle.urkibasko.specs.declared.answers.UrkPayload.{UrkPayload}
use Rattle.urkibasko.proofs.RefusalLaws.{is-numbered, accepts-same}

-- what acceptance means, in other words for acceptance
means-by : {b ordered ks ns ss ks' ns' ss' : List ℕ} {A B : (n k : ℕ) → Type 0} → ((n k : ℕ) → A n k ↔ B n k)
    → Means b ordered ks ns ss A ks' ns' ss' → Means b ordered ks ns ss B ks' ns' ss'
means-by {b} same m =
    record {
      accepts = λ n k h. m.accepts n k ((same n k).1 h);
      exactly = λ a c e. (
        λ h. (m.exactly a c e).0 (h.0, (same (pages_of b) h.0).1 h.1),
        λ g. let w = (m.exactly a c e).1 g in (w.0, (same (pages_of b) w.0).0 w.1),
      );
      only = m.only;
      ledgers = λ k h. m.ledgers k ((same (pages_of b) k).1 h);
      count = λ n k h. m.count n k ((same n k).1 h);
      count_most = λ n k h. m.count_most n k ((same n k).1 h);
    }

-- what C sees of a verdict means the same
pub verdict-means : (b ordered ks ns ss : List ℕ) {ks' ns' ss' : List ℕ} {r : Answer} {y : UrkVerdict}
    → r ≡ verdict_is b ordered (length ks) (length ns) (length ss) → y ≡ verdict_c r
    → Means b ordered ks ns ss (Accepts r) ks' ns' ss' → Means b ordered ks ns ss (AcceptsC y) ks' ns' ss'
verdict-means b ordered ks ns ss {ks'} {ns'} {ss'} e g m =
    let told = g ∙ ap verdict_c e in
    let means = subst (λ (x : Answer). Means b ordered ks ns ss (Accepts x) ks' ns' ss') e m in
    means-by (accepts-same (pages_of b) _ (is-numbered b ordered (length ks) (length ns) (length ss)) told) means

-- the equations, and what they mean
pub verdict-c : (b ordered ks ns ss : List ℕ) {ks' ns' ss' : List ℕ} {r : Answer} {y : UrkVerdict}
    → (r ≡ verdict_is b ordered (length ks) (length ns) (length ss))
    × ((ks' ≡ kinds_at b ordered ks (length ns) (length ss))
    × ((ns' ≡ namers_at b ordered (length ks) ns (length ss))
    × ((ss' ≡ steps_at b ordered (length ks) (length ns) ss) × Means b ordered ks ns ss (Accepts r) ks' ns' ss')))
    → y ≡ verdict_c r
    → (y ≡ verdict_c (verdict_is b ordered (length ks) (length ns) (length ss)))
    × ((ks' ≡ kinds_at b ordered ks (length ns) (length ss))
    × ((ns' ≡ namers_at b ordered (length ks) ns (length ss))
    × ((ss' ≡ steps_at b ordered (length ks) (length ns) ss) × Means b ordered ks ns ss (AcceptsC y) ks' ns' ss')))
verdict-c b ordered ks ns ss {ks'} {ns'} {ss'} (e, (ek, (en, (es, m)))) g = (g ∙ ap verdict_c e, (ek, (en, (es, verdict-means b ordered ks ns ss e g m))))

-- what C sees of a row found in a good image
pub found-good : {b : List ℕ} {d : Dealing} {root : ℕ} {row : ℤ} (a : Found) {y : UrkFound} → y ≡ found_c a
    → Finds b d root row (Shows a) (Nothing a) (Refuses a) → Finds b d root row (ShowsC y) (NothingC y) (RefusesC y)
found-good F.Nothing e g =
    record {
      shows = λ page cell n. (
        λ h. absurd (let z = ap (λ (u : UrkFound). u.found) e in omega (arith, h.1)),
        λ h. absurd (let k = (g.shows page cell n).1 h in let z : ◌≡◌ {A = ℕ} 0 1 = cc in omega arith),
      );
      once = g.once;
      nothing = (λ h. g.nothing.0 refl, λ h. (ap (λ (u : UrkFound). u.refusal) e, ap (λ (u : UrkFound). u.found) e));
      passes = λ h. h (ap (λ (u : UrkFound). u.refusal) e);
    }
found-good (F.At p c m) e g =
    let page_is = ap (λ (u : UrkFound). u.page) e in
    let cell_is = ap (λ (u : UrkFound). u.cell) e in
    let length_is = ap (λ (u : UrkFound). u.length) e in
    record {
      shows = λ page cell n. (
        λ h.
            let e₀ : p ≡ page = sym page_is ∙ h.2 in
            let e₁ : c ≡ cell = sym cell_is ∙ h.3 in
            let e₂ : m ≡ n = sym length_is ∙ h.4 in
            (g.shows page cell n).0 cc,
        λ h.
            let k = (g.shows page cell n).1 h in
            let e₀ : p ≡ page = cc in
            let e₁ : c ≡ cell = cc in
            let e₂ : m ≡ n = cc in
            (ap (λ (u : UrkFound). u.refusal) e, ap (λ (u : UrkFound). u.found) e, page_is ∙ e₀, cell_is ∙ e₁, length_is ∙ e₂),
      );
      once = g.once;
      nothing = (λ h. absurd (let z = ap (λ (u : UrkFound). u.found) e in omega (arith, h.1)), λ h. absurd (h p c ((g.shows p c m).0 refl).0));
      passes = λ h. h (ap (λ (u : UrkFound). u.refusal) e);
    }
found-good (F.Refused number page) e g = absurd (g.passes (number, page, refl))

-- what C sees of a payload fetched from a good image
pub fetched-good : {b : List ℕ} {d : Dealing} {page cell : ℕ} {out out' : List ℕ} (a : P.Fetched) {y : UrkPayload} → y ≡ payload_c a
    → Fetches b d page cell out out' (Copied a) (NoRoom a) → Fetches b d page cell out out' (CopiedC y) (NoRoomC y)
fetched-good a {y} e g =
    record {
      on_pages = g.on_pages;
      copied = λ l.
          let w = g.copied l in
          let k = e ∙ ap payload_c w.0 in
          ((ap (λ (u : UrkPayload). u.refusal) k, ap (λ (u : UrkPayload). u.length) k), w.1);
      no_room = λ l. let w = g.no_room l in (ap (λ (u : UrkPayload). u.refusal) (e ∙ ap payload_c w.0), w.1);
    }
