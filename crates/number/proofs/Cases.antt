-- A definition by nested tests, taken apart test by test: `search cases depth N` under `unfolding` that definition proves a `returns`.
use Rattle.std.proofs.Common.{◌≡◌, ℕ, ◌<◌, ◌≤◌, Bool, true, false, cond, not, eqb, ltb, leb, ◌⊎◌, sym, refl, ap, ◌∙◌, inl, inr, ⊎_elim, ltb-false, ltb-true, le-ltb, lt-ltb, eq-eqb, ne_eqb, le-leb}
use borrow.Author.Tests.{lt-leb}

pub cond_yes : {A : Type 0} (b : Bool) (x a y : A) → b ≡ true → x ≡ a → x ≡ cond b a y
cond_yes b x a y h e = rw h e

pub cond_no : {A : Type 0} (b : Bool) (x a y : A) → b ≡ false → x ≡ y → x ≡ cond b a y
cond_no b x a y h e = rw h e

pub not_yes : (b : Bool) → b ≡ false → not b ≡ true
not_yes b h = rw h

pub not-no : (b : Bool) → b ≡ true → not b ≡ false
not-no b h = rw h

-- a test of what a callee gave, m, which equals what the definition tests
pub lt-ltb-by : (a b m : ℕ) → m < b → m ≡ a → ltb a b ≡ true
lt-ltb-by a b m h e = lt-ltb a b (rw e at h)

pub le-ltb-by : (a b m : ℕ) → b ≤ m → m ≡ a → ltb a b ≡ false
le-ltb-by a b m h e = le-ltb a b (rw e at h)

pub lt-leb-by : (a b m : ℕ) → b < m → m ≡ a → leb a b ≡ false
lt-leb-by a b m h e = lt-leb a b (rw e at h)

pub le-leb-by : (a b m : ℕ) → m ≤ b → m ≡ a → leb a b ≡ true
le-leb-by a b m h e = le-leb a b (rw e at h)

pub eq-eqb-by : (a b m : ℕ) → m ≡ b → m ≡ a → eqb a b ≡ true
eq-eqb-by a b m h e = eq-eqb a b (sym e ∙ h)

pub ne-eqb-by : (a b m : ℕ) → (m ≡ b → ⊥) → m ≡ a → eqb a b ≡ false
ne-eqb-by a b m h e = ne_eqb a b (λ (k : a ≡ b). h (e ∙ k))

-- either a test holds or it does not
pub true-or-false : (b : Bool) → (b ≡ true) ⊎ (b ≡ false)
true-or-false true = inl refl
true-or-false false = inr refl

-- what holds of both ways of a test holds of what it picks
pub by_cond : {A : Type 0} (P : A → Type 0) (b : Bool) (x y : A) → (b ≡ true → P x) → (b ≡ false → P y) → P (cond b x y)
by_cond P true x y f g = f refl
by_cond P false x y f g = g refl

pub lt-or-ge : (a b : ℕ) → (a < b) ⊎ (b ≤ a)
lt-or-ge a b = ⊎_elim (λ h. inl (ltb-true a b h)) (λ h. inr (ltb-false a b h)) (true-or-false (ltb a b))

pub ruleset cases =
    (cond_yes, cond_no, not_yes, not-no, lt-ltb, le-ltb, le-leb, lt-leb, eq-eqb, ne_eqb, lt-ltb-by, le-ltb-by, lt-leb-by, le-leb-by, eq-eqb-by, ne-eqb-by)
