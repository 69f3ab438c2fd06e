-- The lock-byte page of an accepted image, where it has one: the page of 1 to N that holds byte 1073741824.
use Prim.Native.Nat.{ℕ, ◌+◌, ◌-◌, ◌≤◌}
use mathlib.Core.Path.{◌≡◌, refl, sym, ap, ◌∙◌}
use mathlib.Core.List.{List}
use lib.ListN.{length, get_or}
use native.Mathlib.Omega.{arith}
use borrow.Author.Tests.{eq-eqb}
use Rattle.paging.specs.Pages.{lock_page}
use Rattle.paging.proofs.LockLaws.{lock-past}
use Rattle.header.specs.Header.{size_of, pages_of}
use Rattle.dealing.specs.File.{Fixed}
use Rattle.dealing.specs.Good.{Dealing, Slot, Names}
use Rattle.image.specs.Image.{file_of}
use Rattle.image.specs.Good.{GoodDealing}
use Rattle.image.specs.Maps.{fixed_in}
use Rattle.image.proofs.Fields.{N-field, fixed-field}
use Rattle.image.proofs.Shape.{shape}
use Rattle.lookup.proofs.Theorems.{opened-image}
use Rattle.verdict.specs.Verdict.{verdict_is, kinds_at, namers_at, steps_at}
use Rattle.verdict.specs.Answer.{Accepted}
use Rattle.acceptance.proofs.Theorems.{ledgers}

module _ (b : List ℕ) (d : Dealing) (g : GoodDealing b d) (has : lock_page (size_of b) ≤ pages_of b) where
  abbrev lock : ℕ
  lock = lock_page (size_of b)

  fixed-2 : (file_of b).fixed lock ≡ 2
  unfolding fixed_in
  fixed-2 = fixed-field b lock ∙ rw (eq-eqb lock lock refl) refl

  second : 2 ≤ lock
  second =
      let h = shape (opened-image b g.passes) in
      let e = h.size_is in
      lock-past (size_of b) 1 (omega (arith, e, h.least)) (omega (arith, e, h.most))

  fixed : Fixed (file_of b) lock
  fixed = (second, omega (arith, N-field b), λ z. omega (arith, fixed-2))

  -- it has kind 8, namer 0 and step 0
  pub lock-placed : (d.kind lock ≡ 8) × (d.namer lock ≡ 0) × (d.step lock ≡ 0)
  lock-placed = let p = g.good.placed lock fixed in (p.0 ∙ ap (λ k. 6 + k) fixed-2, p.1, p.2)

  -- no pointer names it
  pub lock-unnamed : (q : ℕ) (s : Slot) → Names (file_of b) d q s lock → ⊥
  lock-unnamed q s n = let l = (g.good.pointers q s lock n.1.0 n.0 n.1.1).0 in omega (arith, fixed-2, l.2)

  -- and the ledgers say so
  pub lock-ledgers : (ordered ks ns ss : List ℕ) (long : ℕ) → verdict_is b ordered (length ks) (length ns) (length ss) ≡ Accepted (pages_of b) long
      → (get_or (kinds_at b ordered ks (length ns) (length ss)) (lock - 1) 0 ≡ 8)
      × (get_or (namers_at b ordered (length ks) ns (length ss)) (lock - 1) 0 ≡ 0)
      × (get_or (steps_at b ordered (length ks) (length ns) ss) (lock - 1) 0 ≡ 0)
  lock-ledgers ordered ks ns ss long a =
      let l = ledgers b ordered ks ns ss long a d g lock (omega (arith, second)) has in
      (l.0 ∙ lock-placed.0, l.1 ∙ lock-placed.1, l.2 ∙ lock-placed.2)
