-- The records laid over the output, by what is left: the rest over the output as it is gives what all give over the output as it was.
use Rattle.std.proofs.Common.{◌≡◌, ℕ, ◌+◌, ◌-◌, ◌*◌, ◌≤◌, List, [], ◌∷◌, length, take, drop, refl, ap, ◌∙◌}
use native.Mathlib.Nat.{add-sub_cancel_left}
use Rattle.paging.specs.Pages.{over}
use Rattle.journal.specs.Records.{Record}
use Rattle.journal.specs.Marks.{lay_all}
use Rattle.journal.proofs.MarkLaws.{Fit}

pub record Laying (j : List ℕ) (size n : ℕ) (out₀ : List ℕ) (all : List Record) (out : List ℕ) (rest : List Record) : Type 0 where
  pub long : length out ≡ length out₀
  pub same : lay_all j size out rest ≡ lay_all j size out₀ all
  pub fit : Fit j size n rest

module _ (j : List ℕ) (size n : ℕ) (out₀ : List ℕ) (all : List Record) where
  pub lay-start : Fit j size n all → Laying j size n out₀ all out₀ all
  lay-start f = record { long = refl; same = refl; fit = f }

  module _ (out : List ℕ) (rest : List Record) (i : Laying j size n out₀ all out rest) where
    pub lay-end : rest ≡ [] → out ≡ lay_all j size out₀ all
    unfolding lay_all
    lay-end e = rw e at i.same

    pub lay-next : (r : Record) (rest' : List Record) → rest ≡ r ∷ rest' → (out' : List ℕ)
        → out' ≡ over out ((r.number - 1) * size) (take (r.place + size - r.place) (drop r.place j)) → length out' ≡ length out
        → Laying j size n out₀ all out' rest'
    unfolding lay_all
    lay-next r rest' e out' o l =
        let f : Fit j size n (r ∷ rest') = rw e at i.fit in
        let s : lay_all j size out (r ∷ rest') ≡ lay_all j size out₀ all = rw e at i.same in
        record { long = l ∙ i.long; same = ap (λ (x : List ℕ). lay_all j size x rest') (rw add-sub_cancel_left at o) ∙ s; fit = f.3 }

-- what the next record has
pub next-fit : (j : List ℕ) (size n : ℕ) (rest : List Record) → Fit j size n rest → (r : Record) (rest' : List Record) → rest ≡ r ∷ rest'
    → (1 ≤ r.number) × (r.number ≤ n) × (r.place + size ≤ length j)
next-fit j size n rest f r rest' e = let g : Fit j size n (r ∷ rest') = rw e at f in (g.0, g.1, g.2)
