-- The map with the entry about a page that a pointer names is a page with kind 7 by its place, and the entry lies below U.
use Prim.Native.Nat.{ℕ, ◌+◌, ◌-◌, ◌*◌, ◌/◌, ◌%◌, ◌≤◌, ◌<◌}
use mathlib.Core.Path.{◌≡◌, refl, ap, ◌∙◌}
use mathlib.Core.Logic.{◌≢◌, ⊎_elim}
use mathlib.Core.List.{List}
use lib.Dec.{eqb}
use native.Mathlib.Nat.{div-add-mod', mod-lt}
use native.Mathlib.Omega.{arith}
use lib.Arith.{digits_mod}
use borrow.Author.Tests.{eq-eqb, ne_eqb, eqb-true, eqb-false, le-ltb}
use Rattle.number.proofs.Cases.{true-or-false, lt-or-ge}
use Rattle.paging.specs.Pages.{lock_page}
use Rattle.header.specs.Header.{size_of, usable_of}
use Rattle.image.specs.Maps.{vacuum_in, past_place, past_map, fixed_in, map_of, entry_of}

-- the map m of page p
pub record MapOf (b : List ℕ) (p m : ℕ) : Type 0 where
  pub low : 2 ≤ m
  pub high : m ≤ p
  pub fixed : fixed_in b m ≡ 1
  pub entry : entry_of (size_of b) (usable_of b) p + 5 ≤ usable_of b

module _ (b : List ℕ) (used : 480 ≤ usable_of b) (v : vacuum_in b ≢ 0) where
  abbrev u : ℕ
  u = usable_of b

  abbrev lock : ℕ
  lock = lock_page (size_of b)

  abbrev far : (p : ℕ) → ℕ
  far p = past_place u p

  -- a page that stands at a map's place, or one past it
  at_place : (k m x : ℕ) → m ≡ k * (u / 5 + 1) + (x + 2) → x ≤ 1 → far m ≡ x
  unfolding past_place
  at_place k m x e h =
      let z : m - 2 ≡ k * (u / 5 + 1) + x = omega arith in
      ap (λ n. n % (u / 5 + 1)) z ∙ digits_mod k (omega arith)

  there : (m : ℕ) → m - far m ≢ lock → past_map (size_of b) u m ≡ far m
  unfolding past_map
  there m n = rw (ne_eqb (m - far m) lock n) refl

  moved : (m : ℕ) → m - far m ≡ lock → past_map (size_of b) u m ≡ far m - 1
  unfolding past_map
  moved m e = rw (eq-eqb (m - far m) lock e) refl

  is-lock : (m : ℕ) → m ≡ lock → fixed_in b m ≡ 2
  unfolding fixed_in
  is-lock m e = rw (eq-eqb m lock e) refl

  is-map : (m : ℕ) → 2 ≤ m → m ≢ lock → past_map (size_of b) u m ≡ 0 → fixed_in b m ≡ 1
  unfolding fixed_in
  is-map m l n e = rw (ne_eqb m lock n, ne_eqb (vacuum_in b) 0 v, le-ltb m 2 l, eq-eqb (past_map (size_of b) u m) 0 e) refl

  module _ (p : ℕ) (l : 2 ≤ p) (none : fixed_in b p ≡ 0) where
    abbrev x : ℕ
    x = far p

    splits : (k : ℕ) × (p ≡ k * (u / 5 + 1) + (x + 2))
    unfolding past_place
    splits = ((p - 2) / (u / 5 + 1), omega (arith, div-add-mod' (p - 2) (u / 5 + 1)))

    small : x ≤ u / 5
    unfolding past_place
    small = let a : (p - 2) % (u / 5 + 1) < u / 5 + 1 = mod-lt (p - 2) (omega arith) in omega arith

    -- no map moved: page p's is at the place before it
    in_place : p - x ≢ lock → MapOf b p (map_of (size_of b) u p)
    in_place n = rw (there p n) (⊎_elim none-past some-past (lt-or-ge x 1))
      where
        none-past : x < 1 → MapOf b p (p - x)
        none-past h = absurd (omega (arith, none, is-map p l (λ z. n (omega arith)) (omega (arith, there p n))))

        some-past : 1 ≤ x → MapOf b p (p - x)
        some-past h =
            let k = splits.0 in
            let s = splits.1 in
            let z : far (p - x) ≡ 0 = at_place k (p - x) 0 (omega arith) (omega arith) in
            let n' : p - x - far (p - x) ≢ lock = λ e. n (omega arith) in
            record {
              low = omega arith;
              high = omega arith;
              fixed = is-map (p - x) (omega arith) n (there (p - x) n' ∙ z);
              entry = omega (arith, there p n, small);
            }

    -- it falls on the lock-byte page, and is the page after that
    past-lock : p - x ≡ lock → MapOf b p (map_of (size_of b) u p)
    past-lock e = rw (moved p e) (⊎_elim none-past some-past (lt-or-ge x 2))
      where
        none-past : x < 2 → MapOf b p (p - (x - 1))
        none-past h =
            ⊎_elim (λ (z : x < 1). absurd (omega (arith, none, is-lock p (omega arith))))
            (λ (z : 1 ≤ x). absurd (omega (arith, none, is-map p l (λ w. omega arith) (omega (arith, moved p e)))))
            (lt-or-ge x 1)

        some-past : 2 ≤ x → MapOf b p (p - (x - 1))
        some-past h =
            let k = splits.0 in
            let s = splits.1 in
            let m = p - (x - 1) in
            let z : far m ≡ 1 = at_place k m 1 (omega arith) (omega arith) in
            record {
              low = omega arith;
              high = omega arith;
              fixed = is-map m (omega arith) (λ w. omega arith) (omega (arith, moved m (omega arith)));
              entry = omega (arith, moved p e, small);
            }

    pub the-map : MapOf b p (map_of (size_of b) u p)
    the-map = ⊎_elim (λ e. past-lock (eqb-true _ _ e)) (λ e. in_place (eqb-false _ _ e)) (true-or-false (eqb (p - x) lock))
