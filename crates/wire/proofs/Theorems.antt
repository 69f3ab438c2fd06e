-- What the format and the comparison mean.
use Prim.Native.Nat.{ℕ, zero, suc, ◌+◌, ◌-◌, ◌*◌, ◌≤◌, ◌<◌}
use mathlib.Core.Path.{◌≡◌, refl, sym, ap, ◌∙◌, subst}
use mathlib.Core.Bool.{true, false}
use mathlib.Core.Logic.{◌⊎◌, inl, inr, ◌↔◌}
use mathlib.Core.List.{List, [], ◌++◌, append_assoc, append-nil}
use native.Mathlib.Nat.{suc-mul}
use native.Mathlib.Decide.{ℕ_discrete}
use native.Mathlib.Omega.{arith}
use lib.Dec.{eqb}
use lib.ListN.{length, take, drop}
use lib.Seq.{take_at, take_all, take-add, drop-append-add}
use borrow.Author.Tests.{eqb-true, eq-eqb}
use Rattle.number.specs.Bytes.{part}
use Rattle.number.proofs.Cases.{true-or-false}
use Rattle.paging.specs.Pages.{join_pages}
use Rattle.paging.proofs.PagesLaws.{page-of-join}
use Rattle.wire.specs.Wire.{frame, entry, spelled, entry_of, proposal_of}
use Rattle.wire.specs.Compare.{same, framed, agrees, differs, comparison, compared_of}
use Rattle.std.specs.Prelude.{None, Some}
use Rattle.wire.proofs.Laws.{same_self, same_true, frame-long, entries-sized, proposal-long}

not-differs : {A : Type 0} (p : ℕ) → Some p ≡ None → A
not-differs p e = absurd (let z : ◌≡◌ {A = ℕ} 0 1 = cc in omega arith)

module _ (w ks ns ss : List ℕ) where
  -- none differs where all agree, and only there
  none-differs : (i k : ℕ) → ((j : ℕ) → i ≤ j → j < i + k → agrees w ks ns ss j ≡ true) → differs w ks ns ss i k ≡ 0
  unfolding differs
  none-differs i zero h = refl
  none-differs i (suc k) h = rw (h i (omega arith) (omega arith)) (none-differs (suc i) k (λ j a b. h j (omega arith) (omega arith)))

  all-agree : (i k : ℕ) → differs w ks ns ss i k ≡ 0 → (j : ℕ) → i ≤ j → j < i + k → agrees w ks ns ss j ≡ true
  unfolding differs
  all-agree i zero e j a b = absurd (omega arith)
  all-agree i (suc k) e j a b = go (true-or-false (agrees w ks ns ss i)) (all-agree (suc i) k) (le-cases i j a)
    where
      le-cases : (i j : ℕ) → i ≤ j → (i ≡ j) ⊎ (suc i ≤ j)
      le-cases i j h = dec (ℕ_discrete i j)
        where
          dec : Dec (i ≡ j) → (i ≡ j) ⊎ (suc i ≤ j)
          dec (yes e) = inl e
          dec (no n) = inr (omega arith)

      go : (agrees w ks ns ss i ≡ true) ⊎ (agrees w ks ns ss i ≡ false)
          → (differs w ks ns ss (suc i) k ≡ 0 → (j : ℕ) → suc i ≤ j → j < suc i + k → agrees w ks ns ss j ≡ true)
          → (i ≡ j) ⊎ (suc i ≤ j) → agrees w ks ns ss j ≡ true
      go (inl t) rest (inl x) = subst (λ j. agrees w ks ns ss j ≡ true) x t
      go (inl t) rest (inr x) = rest (rw t at e) j x (omega arith)
      go (inr f) rest x = absurd (let z : suc i ≡ 0 = rw f at e in omega arith)

  -- the front and the first i entries
  grown : (n : ℕ) → part w 0 5 ≡ frame n → ((j : ℕ) → j < n → part w (5 + j * 9) 9 ≡ entry_of ks ns ss (suc j))
      → (i : ℕ) → i ≤ n → take (5 + i * 9) w ≡ frame n ++ join_pages (entry_of ks ns ss) i
  unfolding join_pages
  grown n f h zero l = f ∙ sym (append-nil (frame n))
  grown n f h (suc i) l =
      let e : 5 + suc i * 9 ≡ 5 + i * 9 + 9 = omega (arith, suc-mul i 9) in
      ap (λ j. take j w) e ∙ take-add (5 + i * 9) 9 w
      ∙ ap (λ (x : List ℕ). x ++ part w (5 + i * 9) 9) (grown n f h i (omega arith))
      ∙ ap (λ (x : List ℕ). (frame n ++ join_pages (entry_of ks ns ss) i) ++ x) (h i (omega arith))
      ∙ append_assoc (frame n) (join_pages (entry_of ks ns ss) i) (entry_of ks ns ss (suc i))

  -- what is the same is the ledgers' proposal ..
  same-spelled : (n : ℕ) → compared_of w n ks ns ss ≡ None → w ≡ proposal_of n ks ns ss
  unfolding compared_of framed agrees spelled
  same-spelled n e = outer (true-or-false (framed w n))
    where
      inner : framed w n ≡ true → (d : ℕ) → differs w ks ns ss 0 n ≡ d → comparison d ≡ None → w ≡ proposal_of n ks ns ss
      inner f zero z x = lengths (true-or-false (eqb (length w) (5 + n * 9)))
        where
          lengths : (eqb (length w) (5 + n * 9) ≡ true) ⊎ (eqb (length w) (5 + n * 9) ≡ false) → w ≡ proposal_of n ks ns ss
          lengths (inl t) =
              let l : length w ≡ 5 + n * 9 = eqb-true (length w) (5 + n * 9) t in
              let g : part w 0 5 ≡ frame n = same_true (part w 0 5) (frame n) (rw t at f) in
              sym (take_all (5 + n * 9) w (omega arith)) ∙ grown n g (λ j b. same_true _ _ (all-agree 0 n z j (omega arith) (omega arith))) n (omega arith)
          lengths (inr t) = absurd (let k = rw t at f in let y : ◌≡◌ {A = ℕ} 0 1 = cc in omega arith)
      inner f (suc d) z x = not-differs (suc d) x

      outer : (framed w n ≡ true) ⊎ (framed w n ≡ false) → w ≡ proposal_of n ks ns ss
      outer (inl t) = inner t (differs w ks ns ss 0 n) refl (rw t at e)
      outer (inr t) = not-differs 0 (rw t at e)

-- .. and the proposal is the same
spelled_same : (n : ℕ) (ks ns ss : List ℕ) → compared_of (proposal_of n ks ns ss) n ks ns ss ≡ None
unfolding compared_of framed agrees spelled
spelled_same n ks ns ss =
    let w : List ℕ = proposal_of n ks ns ss in
    let l = eq-eqb (length w) (5 + n * 9) (proposal-long n ks ns ss) in
    let f : same (part w 0 5) (frame n) ≡ true = rw (take_at (frame n) (join_pages (entry_of ks ns ss) n) 5 (frame-long n)) (same_self (frame n)) in
    let d : differs w ks ns ss 0 n ≡ 0 = none-differs w ks ns ss 0 n (λ j a b. rw (cut j (omega arith)) (same_self (entry_of ks ns ss (suc j)))) in
    rw (l, f, d) refl
  where
    cut : (j : ℕ) → j < n → part (frame n ++ join_pages (entry_of ks ns ss) n) (5 + j * 9) 9 ≡ entry_of ks ns ss (suc j)
    cut j b =
        let e : 5 + j * 9 ≡ length (frame n) + j * 9 = omega (arith, frame-long n) in
        let z : j ≡ suc j - 1 = omega arith in
        ap (λ i. part (frame n ++ join_pages (entry_of ks ns ss) n) i 9) e
        ∙ ap (take 9) (drop-append-add (frame n) (join_pages (entry_of ks ns ss) n) (j * 9))
        ∙ ap (λ i. part (join_pages (entry_of ks ns ss) n) (i * 9) 9) z
        ∙ ap (λ (x : List ℕ). part x ((suc j - 1) * 9) 9) (sym (append-nil (join_pages (entry_of ks ns ss) n)))
        ∙ page-of-join (entry_of ks ns ss) 9 n [] (entries-sized ks ns ss n) (suc j) (omega arith) (omega arith)

-- 1. A proposal compares as the same exactly where it is the ledgers', byte for byte.
pub same-exactly : (w : List ℕ) (n : ℕ) (ks ns ss : List ℕ) → (compared_of w n ks ns ss ≡ None) ↔ (w ≡ proposal_of n ks ns ss)
same-exactly w n ks ns ss = (λ e. same-spelled w ks ns ss n e, λ e. ap (λ (x : List ℕ). compared_of x n ks ns ss) e ∙ spelled_same n ks ns ss)

-- 2. It is the spelling of the kinds, namers and steps that the ledgers have.
entries_by : (k h s k' h' s' : ℕ → ℕ) (n : ℕ) → ((p : ℕ) → 1 ≤ p → p ≤ n → (k p ≡ k' p) × (h p ≡ h' p) × (s p ≡ s' p))
    → join_pages (λ p. entry (k p) (h p) (s p)) n ≡ join_pages (λ p. entry (k' p) (h' p) (s' p)) n
unfolding join_pages
entries_by k h s k' h' s' zero e = refl
entries_by k h s k' h' s' (suc n) e =
    let x = e (suc n) (omega arith) (omega arith) in
    rw (entries_by k h s k' h' s' n (λ p a b. e p a (omega arith)), x.0, x.1, x.2) refl

pub spelled_by : (k h s k' h' s' : ℕ → ℕ) (n : ℕ) → ((p : ℕ) → 1 ≤ p → p ≤ n → (k p ≡ k' p) × (h p ≡ h' p) × (s p ≡ s' p))
    → spelled k h s n ≡ spelled k' h' s' n
unfolding spelled
spelled_by k h s k' h' s' n e = ap (λ (x : List ℕ). frame n ++ x) (entries_by k h s k' h' s' n e)

-- 3. What the writer puts down, cut at its length, compares as the same with the ledgers that it was written from.
pub written_same : (n : ℕ) (ks ns ss out out' : List ℕ) → out' ≡ proposal_of n ks ns ss ++ drop (5 + n * 9) out
    → compared_of (take (5 + n * 9) out') n ks ns ss ≡ None
written_same n ks ns ss out out' e =
    ap (λ (x : List ℕ). compared_of x n ks ns ss)
    (ap (take (5 + n * 9)) e ∙ take_at (proposal_of n ks ns ss) (drop (5 + n * 9) out) (5 + n * 9) (proposal-long n ks ns ss))
    ∙ spelled_same n ks ns ss
