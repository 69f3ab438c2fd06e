-- What a summary says of recovery by the same journal, and of where reading stopped.
use Prim.Native.Nat.{ℕ, zero, suc, ◌+◌, ◌-◌, ◌*◌, ◌≤◌}
use mathlib.Core.Path.{◌≡◌, refl, sym, ◌∙◌}
use mathlib.Core.Bool.{true, false, cond, true≢false}
use mathlib.Core.List.{List}
use mathlib.Core.Logic.{◌⊎◌, inl, inr, ⊎_elim}
use native.Mathlib.Omega.{arith}
use lib.Dec.{ltb, eqb}
use lib.ListN.{length}
use Rattle.number.specs.Bytes.{be}
use Rattle.number.proofs.Cases.{true-or-false, by_cond}
use Rattle.paging.specs.Pages.{page_limit, size_fits}
use Rattle.paging.proofs.PagesLaws.{fits-range}
use Rattle.journal.specs.Header.{magic_high, magic_low, absent, nonce_at, most_at, pages_in, sector_of, size_of}
use Rattle.journal.specs.Records.{Record, after, offer, sector_from, records_from, laid, twice}
use Rattle.journal.specs.Recovery.{missing, refused, done, restored, recovery}
use Rattle.journal.specs.Segments as S
use Rattle.journal.proofs.ReadingLaws.{step-header, step-none, step-record, step-ends}
use Rattle.journal_summary.specs.Summary.{layable, tally_from, tally_of, capped, untold}
use Rattle.journal_summary.specs.Summary.{refusal_of, told, summary_in, journal_summary_of}
use Rattle.journal_summary.specs.Promises.{ReachedIn, begins, passes, opens, Stops, Agrees}
use Rattle.journal_summary.specs.Summary.{Tally}
use Rattle.journal_summary.specs.Summary.{Summary}
use Rattle.journal_summary.proofs.TallyLaws.{tally-header, tally-none, tally-record, tally-ends, Step, header, none, counts, fails}
use Rattle.journal_summary.proofs.TallyLaws.{step_of, Enough, enough-header, enough-record}

-- ==== The count
-- of one record
offered : (j : List ℕ) (at : ℕ) (rs : List Record) → length (offer j at rs) ≡ layable (pages_in j) (be 4 j at) + length rs
unfolding offer layable
offered j at rs =
    ⊎_elim (λ (t : ltb (pages_in j) (be 4 j at) ≡ true). simp t (omega arith))
    (λ (t : ltb (pages_in j) (be 4 j at) ≡ false). simp t (omega arith)) (true-or-false (ltb (pages_in j) (be 4 j at)))

layable-one : (n p : ℕ) → layable n p ≤ 1
unfolding layable
layable-one n p = by_cond (λ (x : ℕ). x ≤ 1) (ltb n p) 0 1 (λ t. omega arith) (λ t. omega arith)

-- as many records are laid down as are counted so, and no more than count
record Fewer (t : Tally) (rs : List Record) : Type 0 where
  same : t.laid ≡ length rs
  within : t.laid ≤ t.counting

tally-laid : (j : List ℕ) (f s left at : ℕ) → Fewer (tally_from f j s left at) (records_from f j (nonce_at j s) left at)
unfolding tally_from records_from
tally-laid j zero s left at = record { same = refl; within = omega arith }
tally-laid j (suc f) s left at =
    go
    (tally-laid j f (sector_from j at) (most_at j (sector_from j at)) (sector_from j at + sector_of j))
    (tally-laid j f s (left - 1) (after j at))
    (step_of j s left at)
  where
    go : Fewer (tally_from f j (sector_from j at) (most_at j (sector_from j at)) (sector_from j at + sector_of j))
        (records_from f j (nonce_at j (sector_from j at)) (most_at j (sector_from j at)) (sector_from j at + sector_of j))
        → Fewer (tally_from f j s (left - 1) (after j at)) (records_from f j (nonce_at j s) (left - 1) (after j at))
        → Step j s left at → Fewer (tally_from (suc f) j s left at) (records_from (suc f) j (nonce_at j s) left at)
    go hs rs (header z h) =
        rw (tally-header j f s left at z h, step-header j f (nonce_at j s) left at z h)
        (record { same = omega (arith, hs.same); within = omega (arith, hs.within) })
    go hs rs (none z h) = rw (tally-none j f s left at z h, step-none j f (nonce_at j s) left at z h) (record { same = refl; within = omega arith })
    go hs rs (counts z h) =
        rw (tally-record j f s left at z h, step-record j f (nonce_at j s) left at z h)
        (record {
          same = omega (arith, rs.same, offered j at (records_from f j (nonce_at j s) (left - 1) (after j at)));
          within = omega (arith, rs.within, layable-one (pages_in j) (be 4 j at));
        })
    go hs rs (fails z h) = rw (tally-ends j f s left at z h, step-ends j f (nonce_at j s) left at z h) (record { same = refl; within = omega arith })

-- ==== Where reading stops
-- it is where `journal` comes to
pub reached-in : (j : List ℕ) {s left at : ℕ} → ReachedIn j s left at → S.Reached j (nonce_at j s) left at
reached-in j begins = S.begins
reached-in j (passes r n h) = S.passes (reached-in j r) n h
reached-in j (opens r z h) = S.opens (reached-in j r) z h

tally-stops : (j : List ℕ) → 1 ≤ sector_of j → (f s left at : ℕ) → Enough j f at → ReachedIn j s left at → Stops j (tally_from f j s left at).stop
tally-stops j some zero s left at e r = absurd (let l = e.0 in omega arith)
tally-stops j some (suc f) s left at e r =
    go
    (tally-stops j some f (sector_from j at) (most_at j (sector_from j at)) (sector_from j at + sector_of j))
    (tally-stops j some f s (left - 1) (after j at))
    (step_of j s left at)
  where
    go : (Enough j f (sector_from j at + sector_of j) → ReachedIn j (sector_from j at) (most_at j (sector_from j at)) (sector_from j at + sector_of j)
        → Stops j (tally_from f j (sector_from j at) (most_at j (sector_from j at)) (sector_from j at + sector_of j)).stop)
        → (Enough j f (after j at) → ReachedIn j s (left - 1) (after j at) → Stops j (tally_from f j s (left - 1) (after j at)).stop)
        → Step j s left at → Stops j (tally_from (suc f) j s left at).stop
    go hs rs (header z h) = rw (tally-header j f s left at z h) (hs (enough-header j some f at e h) (opens r z h))
    go hs rs (none z h) =
        rw (tally-none j f s left at z h) (record { s = s; left = left; at = at; reached = r; why = inl (z, h, refl) })
    go hs rs (counts z h) = rw (tally-record j f s left at z h) (rs (enough-record j some f (nonce_at j s) at e h) (passes r z h))
    go hs rs (fails z h) =
        rw (tally-ends j f s left at z h) (record { s = s; left = left; at = at; reached = r; why = inr (z, h, refl) })

-- ==== What recovery does
none-agrees : (j : List ℕ) (h : ℕ) → (h ≡ 0 → ⊥) → absent j ≡ true → Agrees j (untold 0 h)
unfolding recovery
none-agrees j h n a =
    record {
      header = (λ e. absurd (true≢false (sym a ∙ e)), λ e. absurd (n e));
      copies = λ e image room. simp a;
      refuses = λ e. absurd (e refl);
      recovers = λ e. absurd (n e);
      laid_down = λ t. absurd (n t.there);
      within_counting = omega arith;
      has_segment = λ t. absurd (n t.there);
      stops = λ t. absurd (n t.there);
    }

refused-agrees : (j : List ℕ) → absent j ≡ false → ((image : List ℕ) (room : ℕ) → recovery j image room ≡ refused 41) → Agrees j (untold 41 0)
refused-agrees j a r =
    record {
      header = (λ e. refl, λ e. a);
      copies = λ e. absurd (e refl);
      refuses = λ e. r;
      recovers = λ e f. absurd (omega arith);
      laid_down = λ t. absurd (t.fits refl);
      within_counting = omega arith;
      has_segment = λ t. absurd (t.fits refl);
      stops = λ t. absurd (t.fits refl);
    }

capped-some : (n : ℕ) → 1 ≤ n → 1 ≤ capped n
unfolding capped
capped-some n h = by_cond (λ (x : ℕ). 1 ≤ x) (ltb n 0xffffffff) n 0xffffffff (λ t. h) (λ t. omega arith)

told-agrees : (j : List ℕ) → absent j ≡ false → size_fits (size_of j) ≡ true → size_fits (sector_of j) ≡ true → Agrees j (told j)
unfolding told tally_of recovery restored refusal_of
told-agrees j a s c =
    let fewer = tally-laid j (suc (length j)) 0 (most_at j 0) (sector_of j) in
    let range = fits-range (sector_of j) c in
    let some : 1 ≤ sector_of j = omega (arith, range.0) in
    record {
      header = (λ e. refl, λ e. a);
      copies = λ e. absurd (e refl);
      refuses = λ e image room. refusing image room e (true-or-false (ltb page_limit (pages_in j))) (true-or-false (twice (laid j)));
      recovers = λ e f image room. recovering image room f (true-or-false (ltb page_limit (pages_in j))) (true-or-false (twice (laid j)));
      laid_down = λ t. omega (arith, fewer.same);
      within_counting = omega (arith, fewer.within);
      has_segment = λ t. capped-some _ (omega arith);
      stops = λ t. tally-stops j some (suc (length j)) 0 (most_at j 0) (sector_of j) (omega arith, omega arith) begins;
    }
  where
    refusing : (image : List ℕ) (room : ℕ) → (refusal_of j ≡ 0 → ⊥)
        → (ltb page_limit (pages_in j) ≡ true) ⊎ (ltb page_limit (pages_in j) ≡ false) → (twice (laid j) ≡ true) ⊎ (twice (laid j) ≡ false)
        → recovery j image room ≡ refused (refusal_of j)
    refusing image room n (inl l) t = simp (a, s, c, l)
    refusing image room n (inr l) (inl t) = simp (a, s, c, l, t)
    refusing image room n (inr l) (inr t) = absurd (n (simp (l, t)))

    recovering : (image : List ℕ) (room : ℕ) → refusal_of j ≡ 0 → (ltb page_limit (pages_in j) ≡ true) ⊎ (ltb page_limit (pages_in j) ≡ false)
        → (twice (laid j) ≡ true) ⊎ (twice (laid j) ≡ false)
        → recovery j image room
        ≡ cond (missing j image (pages_in j)) (refused 43)
        (cond (ltb room (pages_in j * size_of j)) (refused 44) (done (pages_in j) (pages_in j * size_of j)))
    recovering image room z (inl l) t = absurd (let k : 42 ≡ 0 = simp l at z in omega arith)
    recovering image room z (inr l) (inl t) = absurd (let k : 45 ≡ 0 = simp (l, t) at z in omega arith)
    recovering image room z (inr l) (inr t) = simp (a, s, c, l, t)

-- The summary says what recovery does by the journal, whatever the image: hand it on, refuse with the same number, or recover as many
-- pages; how many records it lays down; and why
-- it reads no further.
pub agrees : (j : List ℕ) (r : Summary) → r ≡ journal_summary_of j → Agrees j r
unfolding journal_summary_of summary_in absent recovery
agrees j r e =
    rw e
    (by_cond (Agrees j) (ltb (length j) 28) _ _ (λ t. none-agrees j 1 (λ k. omega arith) (simp t))
    (λ l. by_cond (Agrees j) (eqb (be 4 j 0) magic_high) _ _
    (λ h. by_cond (Agrees j) (eqb (be 4 j 4) magic_low) _ _
    (λ m.
    let a : absent j ≡ false = simp (l, h, m) in
    by_cond (Agrees j) (size_fits (size_of j)) _ _
    (λ s. by_cond (Agrees j) (size_fits (sector_of j)) _ _ (told-agrees j a s) (λ c. refused-agrees j a (λ image room. simp (a, s, c))))
    (λ s. refused-agrees j a (λ image room. simp (a, s))))
    (λ m. none-agrees j 2 (λ k. omega arith) (simp (l, h, m))))
    (λ h. none-agrees j 2 (λ k. omega arith) (simp (l, h)))))
