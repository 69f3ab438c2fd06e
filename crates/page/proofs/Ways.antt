-- The ways out of `rest` and of `soundness`, in the order of their tests, and of `check_page`.
-- Assumes nothing.
use mathlib.Core.Path.{◌≡◌, refl, sym, ◌∙◌}
use mathlib.Core.Bool.{Bool, true, false}
use mathlib.Core.List.{List}
use Prim.Native.Nat.{ℕ, ◌+◌, ◌-◌, ◌*◌, ◌%◌, ◌≤◌, ◌<◌}
use native.Mathlib.Omega.{arith}
use borrow.Author.Tests.{eq-eqb, ne_eqb}
use Rattle.page.specs.declared.Place.{Place}
use Rattle.page.specs.Checked.{Refused, Page}
use Rattle.page.specs.Header.{page_type, first_freeblock, cell_count, content_start, fragment_bytes, right_pointer}
use Rattle.page.specs.Place.{allowed}
use Rattle.page.specs.Fault.{sound_fault, page_fault, checked_of}
use Rattle.page.specs.Steps.{Cleared, Inside, Counted, Opened, CellsPlaced, AllNoted, FreePlaced, Rested}
use Rattle.page.specs.Sound.{Sound}
use Rattle.page.proofs.Table.{cleared-empty}
use Rattle.page.proofs.Refusals.{refused-cell, refused-rest, refused-not, refused-high, clash-free}
use Rattle.page.proofs.Refusals.{inside, sums-clash, falls-noted, gaps-clash, gaps-sound}

-- ---- the rest, once all cells are noted
module _ (p : List ℕ) (u head kind start first : ℕ) (o : Opened p u head kind start first) (n : ℕ) (count : n ≡ cell_count p head)
    (m : List ℕ) (held low : ℕ) (k : AllNoted p u head m held low) where
  pub way-array : start < first + 2 * n → Rested p u head m m 23
  way-array h = record { is = refused-rest p u head k.fault (λ s. omega (arith, s.array, o.array, o.content)); past = λ j l. refl }

  module _ (fragments : ℕ) (b : fragments ≡ fragment_bytes p head) where
    pub way-fragments : 60 < fragments → Rested p u head m m 23
    way-fragments h = record { is = refused-rest p u head k.fault (λ s. omega (arith, s.few)); past = λ j l. refl }

    module _ (at : ℕ) (begins : at ≡ first_freeblock p head) (m' : List ℕ) (done : Bool) (taken : ℕ) (f : FreePlaced p start u at m m' done taken) where
      freed : FreePlaced p (content_start p head) u (first_freeblock p head) m m' done taken
      freed = rw (o.content, begins) at f

      refused : (Sound p u head → ⊥) → Rested p u head m m' 23
      refused x = record { is = refused-rest p u head k.fault x; past = f.past }

      accepted : Sound p u head → Rested p u head m m' 0
      accepted s = record { is = refused-not p u head k.fault s; past = f.past }

      pub way-free : done ≡ false → Rested p u head m m' 23
      way-free q = refused (clash-free p u head m m' held low k done taken freed q)

      module _ (all : done ≡ true) (content : start ≤ u) where
        inner : content_start p head ≤ u
        inner = rw o.content at content

        pub way-sum : (held + taken + fragments ≡ u - start → ⊥) → Rested p u head m m' 23
        way-sum x = refused (sums-clash p u head m m' held low k done taken freed all inner (λ e. x (omega (arith, o.content))))

        pub way-inside : Inside m' start u
        way-inside = rw o.content (inside p u head m m' held low k done taken freed all inner)

        pub way-gaps : (gaps : ℕ) → Counted m' start u gaps → (gaps ≡ fragments → ⊥) → Rested p u head m m' 23
        way-gaps gaps g x =
            refused (gaps-clash p u head m m' held low k done taken freed all inner gaps (rw o.content at g) (λ e. x (e ∙ sym b)))

        module _ (array : first + 2 * n ≤ start) (few : fragments ≤ 60) (sum : held + taken + fragments ≡ u - start) where
          pub way-falls : (low ≡ 0 → ⊥) → taken ≡ 0 → Rested p u head m m' 0
          way-falls x t =
              accepted
              (falls-noted p u head m m' held low k done taken freed all inner
              (omega (arith, o.array, o.content)) (omega arith) (omega (arith, o.content)) t (k.falls x))

          pub way-sound : (gaps : ℕ) → Counted m' start u gaps → gaps ≡ fragments → Rested p u head m m' 0
          way-sound gaps g d =
              accepted
              (gaps-sound p u head m m' held low k done taken freed all inner gaps (rw o.content at g)
              (omega (arith, o.array, o.content)) (omega arith) (omega (arith, o.content)) (d ∙ b))

-- ---- the cells, then the rest
module _ (p : List ℕ) (u head kind start first : ℕ) (o : Opened p u head kind start first) (m : List ℕ) where
  pub way-high : u < start → Rested p u head m m 23
  way-high h = record { is = refused-high p u head (rw o.content at h); past = λ j l. refl }

  module _ (m₁ : List ℕ) (c : Cleared m m₁ (start - start % 4) u) (m₂ : List ℕ) (fault held low : ℕ) (k : CellsPlaced p u head m₁ m₂ fault held low) where
    pub way-cell : (fault ≡ 0 → ⊥) → Rested p u head m m₂ fault
    way-cell x = record { is = refused-cell p u head fault k.fault x; past = λ j l. k.past j l ∙ c.past j l }

    pub all_noted : fault ≡ 0 → AllNoted p u head m₂ held low
    all_noted z =
        record {
          before = m₁;
          empty = cleared-empty m m₁ (content_start p head) u (rw o.content at c);
          fault = sym z ∙ k.fault;
          written = k.written z;
          bytes = k.bytes z;
          falls = k.falls z;
          small = k.small;
        }

-- ---- the whole check
module _ (place : Place) (p : List ℕ) (u head : ℕ) where
  pub checked-type : allowed place (page_type p head) ≡ false → Refused 22 ≡ checked_of place p u head
  unfolding page_fault
  checked-type e = rw e

  module _ (suits : allowed place (page_type p head) ≡ true) (fault : ℕ) (is : fault ≡ sound_fault p u head) where
    page-fault : fault ≡ page_fault place p u head
    unfolding page_fault
    page-fault = rw suits is

    pub checked-fault : (fault ≡ 0 → ⊥) → Refused fault ≡ checked_of place p u head
    checked-fault x = rw (← page-fault, ne_eqb fault 0 x)

    pub checked-page :
        fault ≡ 0 → (n right : ℕ) → n ≡ cell_count p head → right ≡ right_pointer p head → Page (page_type p head) n right ≡ checked_of place p u head
    checked-page z n right count r = rw (← page-fault, eq-eqb fault 0 z, count, r)
