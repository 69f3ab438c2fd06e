-- Reading on by one step, with steps enough for all of the journal; each way out of `next_header` and `settle`.
use Rattle.std.proofs.Common.{◌≡◌, ℕ, zero, suc, ◌+◌, ◌-◌, ◌%◌, ◌<◌, ◌≤◌, Bool, true, false, cond, not, eqb, List, [], ◌∷◌, length, sym, refl, ap, ◌∙◌, ⊎_elim, arith, le-ltb, lt-ltb, eq-eqb, ne_eqb, eqb-true, None, Some}
use borrow.Author.Tests.{eqb-false, not-true, not-false}
use Rattle.number.proofs.Cases.{true-or-false}
use Rattle.number.specs.Bytes.{be}
use Rattle.journal.specs.Header.{magic_high, magic_low, is_magic, absent, nonce_at, most_at, pages_in, sector_of, size_of, headed}
use Rattle.journal.specs.Records.{after, ends, offer, sector_from, records_from}
use Rattle.journal.specs.Fields.{Sizes}
use Rattle.journal.specs.Reading.{rest_from, rest_of, NextHeader, Settled}
use Rattle.journal.specs.declared.Journal.{Journal}
use Rattle.journal.specs.declared.Records.{Records}
use Rattle.journal.proofs.RecordLaws.{going_on}

module _ (j : List ℕ) where
  pub not-headed : (s : ℕ) → length j < s + 28 → headed j s ≡ false
  unfolding headed
  not-headed s h = simp (lt-ltb _ _ h)

  pub ends-past : (nonce at : ℕ) → length j < after j at → ends j nonce at ≡ true
  unfolding ends
  ends-past nonce at h = simp (lt-ltb _ _ h)

  -- no step, and one step
  pub step-over : (nonce left at : ℕ) → records_from zero j nonce left at ≡ []
  unfolding records_from
  step-over nonce left at = refl

  module _ (f nonce left at : ℕ) where
    pub step-header : left ≡ 0 → headed j (sector_from j at) ≡ true
        → records_from (suc f) j nonce left at
        ≡ records_from f j (nonce_at j (sector_from j at)) (most_at j (sector_from j at)) (sector_from j at + sector_of j)
    unfolding records_from
    step-header z h = simp (eq-eqb left 0 z, h)

    pub step-none : left ≡ 0 → headed j (sector_from j at) ≡ false → records_from (suc f) j nonce left at ≡ []
    unfolding records_from
    step-none z h = simp (eq-eqb left 0 z, h)

    pub step-record : (left ≡ 0 → ⊥) → ends j nonce at ≡ false
        → records_from (suc f) j nonce left at ≡ offer j at (records_from f j nonce (left - 1) (after j at))
    unfolding records_from
    step-record z h = simp (ne_eqb left 0 z, h)

    pub step-ends : (left ≡ 0 → ⊥) → ends j nonce at ≡ true → records_from (suc f) j nonce left at ≡ []
    unfolding records_from
    step-ends z h = simp (ne_eqb left 0 z, h)

  -- nothing is read past the end
  pub past : (f nonce left at : ℕ) → length j < at → records_from f j nonce left at ≡ []
  unfolding records_from
  past zero nonce left at h = refl
  past (suc f) nonce left at h =
      let a : headed j (sector_from j at) ≡ false = not-headed (sector_from j at) (omega arith) in
      let b : ends j nonce at ≡ true = ends-past nonce at (omega arith) in
      ⊎_elim (λ (e : eqb left 0 ≡ true). simp (e, a)) (λ (e : eqb left 0 ≡ false). simp (e, b)) (true-or-false (eqb left 0))

  -- in under 28 bytes no header stands and no record is whole
  pub none-short : 512 ≤ size_of j → length j < 28 → (nonce left at : ℕ) → rest_from j nonce left at ≡ []
  none-short least h nonce left at =
      ⊎_elim
      (λ (z : eqb left 0 ≡ true). step-none (length j) nonce left at (eqb-true left 0 z) (not-headed (sector_from j at) (omega arith)))
      (λ (z : eqb left 0 ≡ false). step-ends (length j) nonce left at (eqb-false left 0 z) (ends-past nonce at (omega arith)))
      (true-or-false (eqb left 0))

  module _ (some : 1 ≤ sector_of j) where
    -- steps enough are as good as any more
    enough : (f g nonce left at : ℕ) → length j < at + f → length j < at + g → records_from f j nonce left at ≡ records_from g j nonce left at
    unfolding records_from
    enough zero zero nonce left at a b = refl
    enough zero (suc g) nonce left at a b = sym (past (suc g) nonce left at (omega arith))
    enough (suc f) zero nonce left at a b = past (suc f) nonce left at (omega arith)
    enough (suc f) (suc g) nonce left at a b =
        let h = enough f g (nonce_at j (sector_from j at)) (most_at j (sector_from j at)) (sector_from j at + sector_of j) (omega arith) (omega arith) in
        let r = enough f g nonce (left - 1) (after j at) (omega arith) (omega arith) in
        rw (h, r) refl

    more : (nonce left at : ℕ) → 1 ≤ at → records_from (length j) j nonce left at ≡ rest_from j nonce left at
    more nonce left at h = enough (length j) (suc (length j)) nonce left at (omega arith) (omega arith)

    pub rest-header : (nonce at : ℕ) → headed j (sector_from j at) ≡ true
        → rest_from j nonce 0 at ≡ rest_from j (nonce_at j (sector_from j at)) (most_at j (sector_from j at)) (sector_from j at + sector_of j)
    rest-header nonce at h =
        step-header (length j) nonce 0 at refl h
        ∙ more (nonce_at j (sector_from j at)) (most_at j (sector_from j at)) (sector_from j at + sector_of j) (omega arith)

    pub rest-record : (nonce left at : ℕ) → (left ≡ 0 → ⊥) → ends j nonce at ≡ false
        → rest_from j nonce left at ≡ offer j at (rest_from j nonce (left - 1) (after j at))
    rest-record nonce left at z h = step-record (length j) nonce left at z h ∙ ap (offer j at) (more nonce (left - 1) (after j at) (omega arith))

pub has-sector : (j : List ℕ) (size sector : ℕ) → Sizes j size sector → 1 ≤ sector_of j
has-sector j size sector z = omega (arith, z.is_sector, z.sector_least)

-- a record that counts stands before what is read behind it
pub rest-behind : (j : List ℕ) (size sector : ℕ) → Sizes j size sector → (nonce left at : ℕ) → (left ≡ 0 → ⊥) → ends j nonce at ≡ false
    → rest_from j nonce left at ≡ offer j at (rest_from j nonce (left - 1) (at + size + 8))
rest-behind j size sector z nonce left at some e =
    let k : after j at ≡ at + size + 8 = omega (arith, z.is_size) in
    rest-record j (has-sector j size sector z) nonce left at some e ∙ ap (λ (x : ℕ). offer j at (rest_from j nonce (left - 1) x)) k

-- no more is read at the journal's end
pub at-end : (j : List ℕ) (nonce : ℕ) → rest_from j nonce 0 (length j) ≡ []
at-end j nonce = step-none j (length j) nonce 0 (length j) refl (not-headed j (sector_from j (length j)) (omega arith))

-- the ways out of `is_absent` and `headed_at`
pub absent-magic : (j : List ℕ) (m : Bool) → 28 ≤ length j → m ≡ is_magic j 0 → not m ≡ absent j
unfolding absent
absent-magic j m h e = simp (le-ltb _ _ h, e) (turned (eqb (be 4 j 0) magic_high) (eqb (be 4 j 4) magic_low))
  where
    turned : (a b : Bool) → not (cond a b false) ≡ cond a (not b) true
    turned true b = refl
    turned false b = refl

module _ (j : List ℕ) (s : ℕ) (long : s + 28 ≤ length j) (m : Bool) (is-m : m ≡ is_magic j s) where
  headed-is : headed j s ≡ cond m (cond (eqb (be 4 j (s + 20)) (sector_of j)) (eqb (be 4 j (s + 24)) (size_of j)) false) false
  unfolding headed
  headed-is =
      simp (le-ltb _ _ long, is-m)
      (turned (eqb (be 4 j s) magic_high) (eqb (be 4 j (s + 4)) magic_low)
      (cond (eqb (be 4 j (s + 20)) (sector_of j)) (eqb (be 4 j (s + 24)) (size_of j)) false))
    where
      turned : (a b x : Bool) → cond a (cond b x false) false ≡ cond (cond a b false) x false
      turned true b x = refl
      turned false b x = refl

  pub head-none : m ≡ false → false ≡ headed j s
  head-none e = sym (headed-is ∙ simp e)

  module _ (yes : m ≡ true) (sector : ℕ) (is_sector : sector ≡ sector_of j) (x : ℕ) (is_x : x ≡ be 4 j (s + 20)) where
    pub head-sector : (x ≡ sector → ⊥) → false ≡ headed j s
    head-sector ne = sym (headed-is ∙ simp (yes, ne_eqb (be 4 j (s + 20)) (sector_of j) (λ e. ne (is_x ∙ e ∙ sym is_sector))))

    pub head-size : x ≡ sector → (y size : ℕ) → y ≡ be 4 j (s + 24) → size ≡ size_of j → eqb y size ≡ headed j s
    head-size e y size is_y is_size =
        let k : be 4 j (s + 20) ≡ sector_of j = sym is_x ∙ e ∙ is_sector in
        rw (is_y, is_size) (sym (headed-is ∙ simp (yes, eq-eqb _ _ k)))

-- the ways out of `next_header`
module _ (j : List ℕ) (size sector : ℕ) (z : Sizes j size sector) (at : ℕ) where
  some-sector : 1 ≤ sector_of j
  some-sector = has-sector j size sector z

  pub next-far : length j < at → NextHeader j at None
  next-far h nonce = past j (suc (length j)) nonce 0 at h

  module _ (skipped : ℕ) (is-skipped : skipped ≡ (sector - at % sector) % sector) where
    is-from : at + skipped ≡ sector_from j at
    is-from = rw (is-skipped, z.is_sector) refl

    pub next-none : (h : Bool) → h ≡ headed j (at + skipped) → h ≡ false → NextHeader j at None
    next-none h e f nonce = step-none j (length j) nonce 0 at refl (ap (headed j) (sym is-from) ∙ sym e ∙ f)

    pub next-some : (h : Bool) → at ≤ length j → skipped + sector ≤ length j - at → h ≡ headed j (at + skipped) → h ≡ true
        → NextHeader j at (Some (at + skipped))
    next-some h a b e f =
        record {
          same = λ nonce. rw is-from (rest-header j some-sector nonce at (ap (headed j) (sym is-from) ∙ sym e ∙ f));
          on = omega arith;
          within = omega (arith, z.is_sector);
        }

    pub next-short : at ≤ length j → length j - at < skipped + sector → NextHeader j at None
    next-short a b nonce =
        ⊎_elim
        (λ (h : headed j (sector_from j at) ≡ true).
        rest-header j some-sector nonce at h
        ∙ past j (suc (length j)) (nonce_at j (sector_from j at)) (most_at j (sector_from j at)) (sector_from j at + sector_of j)
        (omega (arith, is-from, z.is_sector)))
        (λ (h : headed j (sector_from j at) ≡ false). step-none j (length j) nonce 0 at refl h)
        (true-or-false (headed j (sector_from j at)))

-- the loop of `settle`: the reader as it was, and as it is; its ways out
pub record Settling (from r : Records) : Type 0 where
  pub journal : r.journal ≡ from.journal
  pub same : rest_of r ≡ rest_of from
  pub on : from.at ≤ r.at

pub settle-out : (from r : Records) → Settling from r → (r.left ≡ 0 → ⊥) → (b : Bool) → b ≡ ends r.journal.bytes.now r.nonce r.at → Settled from r (not b)
settle-out from r i some b e =
    record {
      journal = i.journal;
      same = i.same;
      on = i.on;
      some = λ h. some;
      stands = λ h. sym e ∙ not-true b h;
      finished = λ h. step-ends r.journal.bytes.now (length r.journal.bytes.now) r.nonce r.left r.at some (sym e ∙ not-false b h);
    }

-- the loop of `next`, at a record that counts
module _ (from r r₁ : Records) (i : Settling from r) (b : Bool) (s : Settled r r₁ b) (yes : b ≡ true) where
  abbrev j : List ℕ
  j = r₁.journal.bytes.now

  abbrev size : ℕ
  size = r₁.journal.size

  pub here-whole : (r₁.at + size + 8 ≤ length j) × (1 ≤ be 4 j r₁.at)
  here-whole = let g = going_on j r₁.nonce r₁.at (s.stands yes) in (omega (arith, g.0, r₁.journal.fields.sizes.is_size), g.1)

  abbrev pub behind : Records
  behind = record { journal = r₁.journal; at = r₁.at + size + 8; left = r₁.left - 1; nonce = r₁.nonce }

  next-rest : rest_of from ≡ offer j r₁.at (rest_of behind)
  next-rest =
      sym i.same ∙ sym s.same ∙ rest-behind j size r₁.journal.sector r₁.journal.fields.sizes r₁.nonce r₁.left r₁.at (s.some yes) (s.stands yes)

  module _ (number : ℕ) (is-number : number ≡ be 4 j r₁.at) where
    pub next-taken : number ≤ r₁.journal.pages → rest_of from ≡ record { number = number; place = r₁.at + 4 } ∷ rest_of behind
    unfolding offer
    next-taken h =
        let w : be 4 j r₁.at ≤ pages_in j = omega (arith, r₁.journal.fields.is_pages) in
        next-rest ∙ simp (le-ltb _ _ w, is-number)

    pub next-skipped : r₁.journal.pages < number → Settling from behind
    unfolding offer
    next-skipped h =
        let w : pages_in j < be 4 j r₁.at = omega (arith, r₁.journal.fields.is_pages) in
        record { journal = s.journal ∙ i.journal; same = sym (next-rest ∙ simp (lt-ltb _ _ w)); on = omega (arith, i.on, s.on) }

  pub goes_on : length j - (r₁.at + size + 8) < length r.journal.bytes.now - r.at
  goes_on =
      let e : length j ≡ length r.journal.bytes.now = ap (λ (x : Journal). length x.bytes.now) s.journal in
      omega (arith, here-whole.0, s.on)
