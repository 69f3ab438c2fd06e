-- What two logs that agree on the frames in force show: the same.
use Prim.Native.Nat.{ℕ, zero, suc, ◌+◌, ◌-◌, ◌*◌, ◌<◌, ◌≤◌}
use mathlib.Core.Path.{◌≡◌, refl, sym, ap}
use mathlib.Core.Bool.{Bool, true, false, cond}
use mathlib.Core.List.{List}
use native.Mathlib.Omega.{arith}
use lib.Dec.{ltb, eqb}
use lib.ListN.{length, take}
use borrow.Author.Tests.{eqb-false}
use Rattle.number.specs.Bytes.{part}
use Rattle.number.proofs.Cases.{by_cond}
use Rattle.paging.specs.Pages.{lock_page, lock_bytes}
use Rattle.wal.specs.Frames.{frame_at, page_number, last_of, last_frame}
use Rattle.wal.specs.View.{pair_state, no_part, image_part, page_at, page_in, bytes_of, page_from}
use Rattle.wal.specs.View.{shown_at, missing, room_refusal, refusal_in}
use Rattle.wal.specs.Promises.{Shown}
use Rattle.wal.specs.State.{State}
use Rattle.wal.specs.Part.{Part}
use Rattle.wal.proofs.FrameLaws.{frame-prev, frame-mono, last-below}
use Rattle.wal.proofs.RecoverLaws.{join-same}
use Rattle.wal.proofs.TakeLaws.{number-take, part-take}

-- the first m frames have the same page numbers and pages in both logs
pub record Agree (size m : ℕ) (a b : List ℕ) : Type 0 where
  pub number : (k : ℕ) → k < m → page_number size a k ≡ page_number size b k
  pub bytes : (f : ℕ) → (f ≡ 0 → ⊥) → f ≤ m → part a (frame_at size (f - 1) + 24) size ≡ part b (frame_at size (f - 1) + 24) size

pub agree-sym : (size m : ℕ) (a b : List ℕ) → Agree size m a b → Agree size m b a
agree-sym size m a b h = record { number = λ k l. sym (h.number k l); bytes = λ f n l. sym (h.bytes f n l) }

pub none-agree : (size : ℕ) (a b : List ℕ) → Agree size 0 a b
none-agree size a b = record { number = λ k l. absurd (omega arith); bytes = λ f n l. absurd (n (omega arith)) }

pub take-agree : (size m c : ℕ) (log : List ℕ) → 32 ≤ c → frame_at size m ≤ c → Agree size m (take c log) log
take-agree size m c log past h =
    record {
      number = λ k l. number-take c log past size k (let e = frame-mono size (suc k) m l in omega arith);
      bytes = λ f n l.
          let e = frame-mono size f m l in
          let g = frame-prev size f (omega arith) in
          part-take c log (frame_at size (f - 1) + 24) size (omega arith);
    }

module _ (size m : ℕ) (a b image : List ℕ) (same : Agree size m a b) where
  last-frame-same : (p k : ℕ) → k ≤ m → last_frame size a p k ≡ last_frame size b p k
  unfolding last_of
  last-frame-same p zero h = refl
  last-frame-same p (suc k) h = rw (same.number k h, last-frame-same p k (omega arith)) refl

  lf : (p : ℕ) → last_frame size a p m ≡ last_frame size b p m
  lf p = last-frame-same p m (omega arith)

  low : (p : ℕ) → last_frame size b p m ≤ m
  low p = last-below (λ (k : ℕ). eqb (page_number size b k) p) m

  page-at-same : (n p : ℕ) → page_at size a image m n p ≡ page_at size b image m n p
  unfolding page_at
  page-at-same n p = rw (lf p) refl

  from-same : (f p : ℕ) → f ≤ m → page_from size a image f p ≡ page_from size b image f p
  unfolding page_from
  from-same f p h = go (eqb f 0) refl
    where
      go : (t : Bool) → eqb f 0 ≡ t → page_from size a image f p ≡ page_from size b image f p
      go true e = simp e
      go false e = simp e (same.bytes f (eqb-false f 0 e) h)

  shown-same : (p : ℕ) → shown_at size a image m p ≡ shown_at size b image m p
  unfolding shown_at
  shown-same p = rw (lf p) (ap (cond (eqb p (lock_page size)) (lock_bytes size image)) (from-same (last_frame size b p m) p (low p)))

  missing-same : (n : ℕ) → missing size a image m n ≡ missing size b image m n
  unfolding missing
  missing-same zero = refl
  missing-same (suc n) = rw (missing-same n, lf (suc n)) refl

  part_same : (refusal p : ℕ) → bytes_of a image (image_part refusal size image p) ≡ bytes_of b image (image_part refusal size image p)
  unfolding image_part
  part_same refusal p =
      by_cond (λ (r : Part). bytes_of a image r ≡ bytes_of b image r) (ltb (length image) (p * size)) (no_part refusal) _ (λ l. refl) (λ l. refl)

  bytes_same : (n p : ℕ) → bytes_of a image (page_at size b image m n p) ≡ bytes_of b image (page_at size b image m n p)
  unfolding page_at
  bytes_same n p =
      let F : Part → Type 0 = λ r. bytes_of a image r ≡ bytes_of b image r in
      by_cond F (eqb p 0) (no_part 46) _ (λ z. refl)
      (λ z. by_cond F (ltb n p) (no_part 46) _ (λ o. refl)
      (λ o. by_cond F (eqb p (lock_page size)) (image_part 46 size image p) _ (λ k. part_same 46 p)
      (λ k. by_cond F (eqb (last_frame size b p m) 0) (image_part 43 size image p) _ (λ f. part_same 43 p)
      (λ f. same.bytes (last_frame size b p m) (eqb-false _ 0 f) (low p)))))

  room-same : (n room : ℕ) → room_refusal size a image m n room ≡ room_refusal size b image m n room
  unfolding room_refusal
  room-same n room = rw (missing-same n) refl

-- a log shows the state s as read from another, where both agree on its frames
module _ (a image : List ℕ) (s : State) (b : List ℕ) (e : pair_state a image ≡ s) (same : Agree s.size s.frames a b) where
  page-same : (p : ℕ) → page_in s a image p ≡ page_in s b image p
  unfolding page_in
  page-same p = rw (page-at-same s.size s.frames a b image same s.pages p) refl

  in-bytes-same : (p : ℕ) → bytes_of a image (page_in s b image p) ≡ bytes_of b image (page_in s b image p)
  unfolding page_in
  in-bytes-same p =
      by_cond (λ (r : Part). bytes_of a image r ≡ bytes_of b image r) (eqb s.refusal 0) _ (no_part s.refusal)
      (λ z. bytes_same s.size s.frames a b image same s.pages p) (λ z. refl)

  in-refusal-same : (room : ℕ) → refusal_in s a image room ≡ refusal_in s b image room
  unfolding refusal_in
  in-refusal-same room = rw (room-same s.size s.frames a b image same s.pages room) refl

  pub shown_by : Shown a image s b
  shown_by =
      record {
        state = e;
        page = λ p. rw e (page-same p);
        view = λ p. rw e (rw (page-same p) (in-bytes-same p));
        whole = rw e (join-same (shown_at s.size a image s.frames) (shown_at s.size b image s.frames) s.pages (λ p x y. shown-same s.size s.frames a b image same p));
        refusal = λ room. rw e (in-refusal-same room);
      }
