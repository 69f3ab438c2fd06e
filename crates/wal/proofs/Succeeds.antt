-- Two theorems more: only a log with an accepted header is shown, and whole recovery succeeds exactly where every view but the lock-byte page's does.
use Prim.Native.Nat.{ℕ, ◌*◌, ◌≤◌}
use mathlib.Core.Path.{◌≡◌, refl}
use mathlib.Core.Bool.{Bool, true, false, cond, false≢true}
use mathlib.Core.List.{List}
use native.Mathlib.Omega.{arith}
use lib.Dec.{ltb, eqb}
use lib.ListN.{length}
use borrow.Author.Tests.{eq-eqb, ne_eqb, eqb-true, eqb-false, le-ltb, ltb-false}
use Rattle.number.specs.Bytes.{be}
use Rattle.wal.specs.Frames.{carries, header_sums, last_of, last_frame}
use Rattle.wal.specs.State.{little_magic, big_magic, log_version, size_of, nothing, refused, state_in, state_of}
use Rattle.wal.specs.View.{image_state, pair_state, no_part, image_part, page_at, page_in, page_of, refusal_in}
use Rattle.wal.specs.Whole.{InPlace}
use Rattle.wal.proofs.AgreeLaws.{succeeds, succeeded, all-in-place, none-missing}
use Rattle.wal.specs.Promises.{Accepted}
use Rattle.wal.specs.State.{State}
use Rattle.wal.specs.Part.{Part}
use Rattle.number.proofs.Cases.{by_cond}
use Rattle.paging.specs.Pages.{lock_page, size_fits}
use Rattle.wal.proofs.ViewLaws.{state-bounds}

module _ (log : List ℕ) where
  abbrev Told : State → Type 0
  Told s = s.refusal ≡ 0 → (s.frames ≡ 0 → ⊥) → (big : Bool) × Accepted big log

  in_told : (big : Bool) → 32 ≤ length log → be 4 log 0 ≡ cond big big_magic little_magic → Told (state_in big log)
  unfolding state_in
  in_told big l m =
      by_cond Told (carries log 8 (header_sums big log)) _ nothing
      (λ c. by_cond Told (eqb (be 4 log 4) log_version) _ (refused 40)
      (λ v. by_cond Told (size_fits (size_of log)) _ (refused 41)
      (λ s r f. (big, record { long = l; magic = m; sums = c; version = eqb-true _ _ v; size = s }))
      (λ s r f. absurd (omega arith)))
      (λ v r f. absurd (omega arith)))
      (λ c r f. absurd (f refl))

  of-told : Told (state_of log)
  unfolding state_of
  of-told =
      by_cond Told (ltb (length log) 32) nothing _ (λ l r f. absurd (f refl))
      (λ l. by_cond Told (eqb (be 4 log 0) little_magic) (state_in false log) _ (λ e. in_told false (ltb-false _ _ l) (eqb-true _ _ e))
      (λ e. by_cond Told (eqb (be 4 log 0) big_magic) (state_in true log) nothing (λ f. in_told true (ltb-false _ _ l) (eqb-true _ _ f)) (λ f r g. absurd (g refl))))

  pair-told : (image : List ℕ) → Told (pair_state log image)
  unfolding pair_state
  pair-told image =
      by_cond Told (eqb (state_of log).refusal 0) _ (state_of log)
      (λ r. by_cond Told (eqb (state_of log).frames 0) (image_state image) (state_of log) (λ z a f. absurd (f refl)) (λ z. of-told))
      (λ r. of-told)

abbrev Framed : State → Part → Type 0
Framed s r = r.logged ≡ true → (s.refusal ≡ 0) × (s.frames ≡ 0 → ⊥)

image-framed : (s : State) (image : List ℕ) (refusal size p : ℕ) → Framed s (image_part refusal size image p)
unfolding image_part
image-framed s image refusal size p =
    by_cond (Framed s) (ltb (length image) (p * size)) (no_part refusal) _ (λ i l. absurd (false≢true l)) (λ i l. absurd (false≢true l))

page-framed : (s : State) (log image : List ℕ) (p : ℕ) → Framed s (page_in s log image p)
unfolding page_in page_at last_of
page-framed s log image p =
    by_cond (Framed s) (eqb s.refusal 0) _ (no_part s.refusal)
    (λ r. by_cond (Framed s) (eqb p 0) (no_part 46) _ (λ z l. absurd (false≢true l))
    (λ z. by_cond (Framed s) (ltb s.pages p) (no_part 46) _ (λ o l. absurd (false≢true l))
    (λ o. by_cond (Framed s) (eqb p (lock_page s.size)) (image_part 46 s.size image p) _ (λ k. image-framed s image 46 s.size p)
    (λ k. by_cond (Framed s) (eqb (last_frame s.size log p s.frames) 0) (image_part 43 s.size image p) _ (λ f. image-framed s image 43 s.size p)
    (λ f l. (eqb-true s.refusal 0 r, λ n. eqb-false (last_frame s.size log p s.frames) 0 f (rw n refl)))))))
    (λ r l. absurd (false≢true l))

-- a part of the log is shown only where the header is accepted
pub only-accepted : (log image : List ℕ) (p : ℕ) → (page_of log image p).logged ≡ true → (big : Bool) × Accepted big log
only-accepted log image p l =
    let w = page-framed (pair_state log image) log image p l in
    pair-told log image w.0 w.1

-- whole recovery succeeds exactly where the view of every page of 1 to n but the lock-byte page does, and there is room
at-passes : (size : ℕ) (log image : List ℕ) (m n p : ℕ) → 1 ≤ p → p ≤ n → (p ≡ lock_page size → ⊥) → InPlace log image size (last_frame size log p m) p
    → (page_at size log image m n p).refusal ≡ 0
unfolding page_at image_part
at-passes size log image m n p a b ne h = go (eqb (last_frame size log p m) 0) refl
  where
    go : (t : Bool) → eqb (last_frame size log p m) 0 ≡ t → (page_at size log image m n p).refusal ≡ 0
    go true e =
        simp (ne_eqb p 0 (λ z. omega arith), le-ltb n p b, ne_eqb p (lock_page size) ne, e, le-ltb (length image) (p * size) (h.imaged (eqb-true _ 0 e)))
    go false e = simp (ne_eqb p 0 (λ z. omega arith), le-ltb n p b, ne_eqb p (lock_page size) ne, e)

at-imaged : (size : ℕ) (log image : List ℕ) (m n p : ℕ) → 1 ≤ p → p ≤ n → (p ≡ lock_page size → ⊥) → (page_at size log image m n p).refusal ≡ 0
    → last_frame size log p m ≡ 0 → p * size ≤ length image
unfolding page_at image_part
at-imaged size log image m n p a b ne h z = go (ltb (length image) (p * size)) refl
  where
    go : (t : Bool) → ltb (length image) (p * size) ≡ t → p * size ≤ length image
    go true e = absurd (let y : ◌≡◌ {A = ℕ} 43 0 = simp (ne_eqb p 0 (λ z. omega arith), le-ltb n p b, ne_eqb p (lock_page size) ne, eq-eqb (last_frame size log p m) 0 z, e) at h in omega arith)
    go false e = ltb-false _ _ e

pub views-succeed : (log image : List ℕ) (room p : ℕ) → refusal_in (pair_state log image) log image room ≡ 0 → 1 ≤ p → p ≤ (pair_state log image).pages
    → (p ≡ lock_page (pair_state log image).size → ⊥) → (page_of log image p).refusal ≡ 0
unfolding page_in
views-succeed log image room p done a b ne =
    let s = pair_state log image in
    let ok = succeeds s log image room done in
    simp (eq-eqb s.refusal 0 ok.passed)
    (at-passes s.size log image s.frames s.pages p a b ne
    (all-in-place s.size log image s.frames s.pages p (state-bounds log image ok.passed) ok.none a b ne))

pub whole-succeeds : (log image : List ℕ) (room : ℕ) → (pair_state log image).refusal ≡ 0
    → ((p : ℕ) → 1 ≤ p → p ≤ (pair_state log image).pages → (p ≡ lock_page (pair_state log image).size → ⊥) → (page_of log image p).refusal ≡ 0)
    → (pair_state log image).pages * (pair_state log image).size ≤ room → refusal_in (pair_state log image) log image room ≡ 0
unfolding page_in
whole-succeeds log image room passed views fits =
    let s = pair_state log image in
    succeeded s log image room
    (record {
      passed = passed;
      none = none-missing s.size log image s.frames s.pages
          (λ p a b ne z. at-imaged s.size log image s.frames s.pages p a b ne (simp (eq-eqb s.refusal 0 passed) at (views p a b ne)) z);
      fits = fits;
    })
