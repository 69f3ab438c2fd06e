-- The refusals, test by test, in the order of the code.
use Prim.Native.Nat.{ℕ, suc, ◌+◌, ◌-◌, ◌%◌, ◌<◌, ◌≤◌}
use mathlib.Core.Path.{◌≡◌, refl, ◌∙◌}
use mathlib.Core.Bool.{Bool, true, false, cond, ◌&&◌}
use mathlib.Core.List.{List, [], ◌∷◌}
use lib.Dec.{eqb}
use lib.ListN.{length, get_or, take, drop, replicate, length-drop}
use lib.Seq.{drop-cons}
use native.Mathlib.Numerals.{add-one}
use native.Mathlib.Omega.{arith}
use borrow.Author.Tests.{eq-eqb, ne_eqb, lt-ltb, le-ltb}
use Rattle.std.specs.Cmp.Lexicographic.{pointwise}
use Rattle.std.specs.List.{starts_with}
use Rattle.std.proofs.lemmas.List.{take_all}
use Rattle.number.specs.Bytes.{byte_at, be}
use Rattle.paging.proofs.BitLaws.{eqb-turned}
use Rattle.header.specs.Header.{page_limit, magic, holds, bad_version, bad_vacuum, size_of, present_of, counted, pages_of, usable_of, form_refusal, late_refusal, count_refusal, field_refusal}

and-cond : (s t : Bool) → (s && t) ≡ cond s t false
and-cond true t = refl
and-cond false t = refl

-- what `starts_with` says, from a place on
pub starts-holds : (b want : List ℕ) (at : ℕ) → at + length want ≤ length b → starts_with eqb (drop at b) want ≡ holds b at want
unfolding holds
starts-holds b [] at h = refl
starts-holds b (x ∷ xs) at h =
    let rest : pointwise eqb xs (take (length xs) (drop (suc at) b)) ≡ holds b (suc at) xs = starts-holds b xs (suc at) (omega arith) in
    rw (add-one at, drop-cons b at 0 (omega arith), eqb-turned x (get_or b at 0), rest) (and-cond (eqb (get_or b at 0) x) (holds b (suc at) xs))

pub starts-from : (b want : List ℕ) (at : ℕ) → at + length want ≤ length b → starts_with eqb (take (length b - at) (drop at b)) want ≡ holds b at want
starts-from b want at h =
    let e : take (length b - at) (drop at b) ≡ drop at b = take_all _ _ (omega (arith, length-drop at b)) in rw e (starts-holds b want at h)

module _ (b : List ℕ) where
  pub refuse-1 : length b < 512 → 1 ≡ form_refusal b
  unfolding form_refusal
  refuse-1 h = simp (lt-ltb _ _ h)

  module _ (t1 : 512 ≤ length b) where
    pub refuse-2 : holds b 0 magic ≡ false → 2 ≡ form_refusal b
    unfolding form_refusal
    refuse-2 h = simp (le-ltb _ _ t1, h)

    module _ (t2 : holds b 0 magic ≡ true) (size : ℕ) (e : size ≡ size_of b) where
      pub refuse-3 : size ≡ 0 → 3 ≡ form_refusal b
      unfolding form_refusal
      refuse-3 h = rw (← e) (simp (le-ltb _ _ t1, t2, h))

      module _ (t3 : size ≡ 0 → ⊥) where
        pub refuse-4 : (length b % size ≡ 0 → ⊥) → 4 ≡ form_refusal b
        unfolding form_refusal
        refuse-4 h = rw (← e) (simp (le-ltb _ _ t1, t2, ne_eqb _ _ t3, ne_eqb _ _ h))

        pub pass-4 : length b % size ≡ 0 → 0 ≡ form_refusal b
        unfolding form_refusal
        pass-4 h = rw (← e) (simp (le-ltb _ _ t1, t2, ne_eqb _ _ t3, eq-eqb _ _ h))

  -- the count at 28
  module _ (count : ℕ) (n : count ≡ be 4 b 28) where
    pub no-count : count ≡ 0 → false ≡ counted b
    unfolding counted
    no-count h = rw (← n) (simp h)

    pub count_by : (change version : ℕ) → (count ≡ 0 → ⊥) → change ≡ be 4 b 24 → version ≡ be 4 b 92 → eqb change version ≡ counted b
    unfolding counted
    count_by change version h c v = rw (← n, ← c, ← v) (simp (ne_eqb _ _ h))

    pub pages-counted : counted b ≡ true → count ≡ pages_of b
    unfolding pages_of
    pages-counted h = rw h n

  pub pages-present : (present : ℕ) → present ≡ present_of b → counted b ≡ false → present ≡ pages_of b
  unfolding pages_of
  pages-present present e h = rw h e

  module _ (usable : ℕ) (u : usable ≡ usable_of b) where
    pub refuse-6 : usable < 480 → 6 ≡ field_refusal b
    unfolding field_refusal
    refuse-6 h = rw (← u) (simp (lt-ltb _ _ h))

    module _ (t6 : 480 ≤ usable) where
      pub refuse-7 : holds b 21 (64 ∷ 32 ∷ 32 ∷ []) ≡ false → 7 ≡ field_refusal b
      unfolding field_refusal
      refuse-7 h = rw (← u) (simp (le-ltb _ _ t6, h))

      module _ (t7 : holds b 21 (64 ∷ 32 ∷ 32 ∷ []) ≡ true) where
        pub refuse-8 : bad_version (byte_at b 19) ≡ true → 8 ≡ field_refusal b
        unfolding field_refusal
        refuse-8 h = rw (← u) (simp (le-ltb _ _ t6, t7, h))

        pub pass-8 : (n : ℕ) → bad_version (byte_at b 19) ≡ false → n ≡ count_refusal b → n ≡ field_refusal b
        unfolding field_refusal
        pass-8 n h e = e ∙ rw (← u) (simp (le-ltb _ _ t6, t7, h))

  module _ (present pages : ℕ) (e : present ≡ present_of b) (f : pages ≡ pages_of b) where
    pub refuse-9 : present < pages → 9 ≡ count_refusal b
    refuse-9 h = rw (← e, ← f) (simp (lt-ltb _ _ h))

    module _ (t9 : pages ≤ present) where
      pub refuse-5 : page_limit < pages → 5 ≡ count_refusal b
      refuse-5 h = rw (← e, ← f) (simp (le-ltb _ _ t9, lt-ltb _ _ h))

      pub pass-5 : (n : ℕ) → pages ≤ page_limit → n ≡ late_refusal b → n ≡ count_refusal b
      pass-5 n h k = k ∙ rw (← e, ← f) (simp (le-ltb _ _ t9, le-ltb _ _ h))

  module _ (first second : ℕ) (f : first ≡ be 4 b 52) (s : second ≡ be 4 b 64) where
    pub refuse-10 : bad_vacuum first second ≡ true → 10 ≡ late_refusal b
    refuse-10 h = rw (← f, ← s) (simp h)

    module _ (t10 : bad_vacuum first second ≡ false) where
      pub refuse-11 : holds b 72 (replicate 20 0) ≡ false → 11 ≡ late_refusal b
      refuse-11 h = rw (← f, ← s) (simp (t10, h))

      pub pass-11 : holds b 72 (replicate 20 0) ≡ true → 0 ≡ late_refusal b
      pass-11 h = rw (← f, ← s) (simp (t10, h))
