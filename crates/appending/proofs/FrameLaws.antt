-- Frames that were written, as a reader of the log finds them.
use Prim.Native.Nat.{ℕ, zero, suc, ◌+◌, ◌*◌, ◌/◌, ◌^◌, ◌<◌, ◌≤◌}
use mathlib.Core.Path.{◌≡◌, refl, sym, ap, ◌∙◌, subst}
use mathlib.Core.Bool.{Bool, true, cond}
use mathlib.Core.List.{List, [], ◌∷◌, ◌++◌}
use native.Mathlib.Nat.{add-zero, zero-add, zero-mul, suc-mul}
use native.Mathlib.Decide.{ℕ_discrete}
use native.Mathlib.Omega.{arith}
use lib.Dec.{eqb}
use lib.ListN.{length, get_or, take, drop, length-append, length-drop}
use lib.Seq.{length-take-le, drop-drop}
use borrow.Author.Tests.{eq-eqb, ne_eqb}
use Rattle.number.specs.Bytes.{byte_at, be, part}
use Rattle.number.proofs.BeLaws.{be-same}
use Rattle.number.proofs.Cases.{by_cond}
use Rattle.number.proofs.VarintReading.{Stands}
use Rattle.paging.specs.Pages.{lock_page}
use Rattle.wal.specs.Sums.{Sums, sums_over}
use Rattle.wal.specs.Frames.{frame_at, page_number, commit_size, marked, carries, sums_after, holds, counting}
use Rattle.wal.proofs.FrameLaws.{frame-next, frame-mono, frame-holds}
use Rattle.appending.specs.Written.{word4, sum_bytes, frame_head, sums_on, frame_bytes, commit_for, frames_from, sums_from}
use Rattle.appending.proofs.StandLaws.{stands-front, stands-past, stands-part, word-length, words-length, word_read, sums-stand, Low, sums-low, one-low}

-- the log's salts
pub record Salted (log salts : List ℕ) : Type 0 where
  pub long : length salts ≡ 8
  pub first : be 4 log 16 ≡ be 4 salts 0
  pub second : be 4 log 20 ≡ be 4 salts 4

pub frame-length : (salts : List ℕ) (p commit : ℕ) (page : List ℕ) (t : Sums) → length salts ≡ 8 → length (frame_bytes salts p commit page t) ≡ 24 + length page
unfolding frame_bytes
frame-length salts p commit page t e =
    omega (
      arith,
      length-append (frame_head p commit) (salts ++ (sum_bytes t ++ page)),
      length-append salts (sum_bytes t ++ page),
      length-append (sum_bytes t) page,
      words-length p commit,
      words-length t.0 t.1,
    )

-- ---- one frame
-- where its parts stand
module _ (log salts : List ℕ) (start p commit : ℕ) (page : List ℕ) (t : Sums) (stands : Stands log start (frame_bytes salts p commit page t)) (long : length salts ≡ 8) where
  stands-head : Stands log start (frame_head p commit)
  unfolding frame_bytes
  stands-head = stands-front log start (frame_head p commit) (salts ++ (sum_bytes t ++ page)) stands

  stands-rest : Stands log (start + 8) (salts ++ (sum_bytes t ++ page))
  unfolding frame_bytes
  stands-rest = stands-past log start 8 (frame_head p commit) (salts ++ (sum_bytes t ++ page)) (words-length p commit) stands

  stands-salts : Stands log (start + 8) salts
  stands-salts = stands-front log (start + 8) salts (sum_bytes t ++ page) stands-rest

  stands-tail : Stands log (start + 16) (sum_bytes t ++ page)
  stands-tail =
      let e : start + 8 + 8 ≡ start + 16 = omega arith in
      subst (λ (k : ℕ). Stands log k (sum_bytes t ++ page)) e (stands-past log (start + 8) 8 salts (sum_bytes t ++ page) long stands-rest)

  stands-sums : Stands log (start + 16) (sum_bytes t)
  stands-sums = stands-front log (start + 16) (sum_bytes t) page stands-tail

  stands-page : Stands log (start + 24) page
  stands-page =
      let e : start + 16 + 8 ≡ start + 24 = omega arith in
      subst (λ (k : ℕ). Stands log k page) e (stands-past log (start + 16) 8 (sum_bytes t) page (words-length t.0 t.1) stands-tail)

-- the sums carried on over it
frame-sums : (big : Bool) (size : ℕ) (log salts : List ℕ) (m p commit : ℕ) (page : List ℕ) (s t : Sums) → Stands log (frame_at size m) (frame_bytes salts p commit page t)
    → length salts ≡ 8 → length page ≡ size → sums_after big size log m ≡ s → sums_after big size log (suc m) ≡ sums_on big size p commit page s
unfolding sums_after
frame-sums big size log salts m p commit page s t stands ls long sums =
    let start : ℕ = frame_at size m in
    rw sums
    (ap (sums_over big log (start + 24) (size / 8))
    (sums-stand big log start (frame_head p commit) 1 s (omega (arith, words-length p commit)) (stands-head log salts start p commit page t stands ls))
    ∙ sums-stand big log (start + 24) page (size / 8) _ (omega arith) (stands-page log salts start p commit page t stands ls))

-- what is read of frame m
pub record FrameRead (big : Bool) (size : ℕ) (log : List ℕ) (m p commit : ℕ) (page : List ℕ) (t : Sums) : Type 0 where
  pub number : page_number size log m ≡ p
  pub after : commit_size size log m ≡ commit
  pub bytes : part log (frame_at size m + 24) size ≡ page
  pub sums : sums_after big size log (suc m) ≡ t
  pub holding : holds big size log m ≡ true

module _ (big : Bool) (size : ℕ) (log salts : List ℕ) (m p commit : ℕ) (page : List ℕ) (s : Sums)
    (stands : Stands log (frame_at size m) (frame_bytes salts p commit page (sums_on big size p commit page s)))
    (room : frame_at size (suc m) ≤ length log) (salted : Salted log salts) (long : length page ≡ size)
    (small : p < 2 ^ 32) (few : commit < 2 ^ 32) (some : p ≡ 0 → ⊥) (unlocked : p ≡ lock_page size → ⊥)
    (sums : sums_after big size log m ≡ s) where
  abbrev start : ℕ
  start = frame_at size m

  abbrev t : Sums
  t = sums_on big size p commit page s

  s-head : Stands log start (frame_head p commit)
  s-head = stands-head log salts start p commit page t stands salted.long

  s-salts : Stands log (start + 8) salts
  s-salts = stands-salts log salts start p commit page t stands salted.long

  s-sums : Stands log (start + 16) (sum_bytes t)
  s-sums = stands-sums log salts start p commit page t stands salted.long

  s-page : Stands log (start + 24) page
  s-page = stands-page log salts start p commit page t stands salted.long

  r-number : be 4 log start ≡ p
  r-number = word_read p log start small (stands-front log start (word4 p) (word4 commit) s-head)

  r-commit : be 4 log (start + 4) ≡ commit
  r-commit = word_read commit log (start + 4) few (stands-past log start 4 (word4 p) (word4 commit) (word-length p) s-head)

  low : Low t
  low = sums-low big page 0 (size / 8) _ (one-low big (frame_head p commit) 0 s)

  r-sum0 : be 4 log (start + 16) ≡ t.0
  r-sum0 = word_read t.0 log (start + 16) low.0 (stands-front log (start + 16) (word4 t.0) (word4 t.1) s-sums)

  r-sum1 : be 4 log (start + 20) ≡ t.1
  r-sum1 =
      let e : start + 16 + 4 ≡ start + 20 = omega arith in
      ap (be 4 log) (sym e)
      ∙ word_read t.1 log (start + 16 + 4) low.1 (stands-past log (start + 16) 4 (word4 t.0) (word4 t.1) (word-length t.0) s-sums)

  r-salt0 : be 4 log (start + 8) ≡ be 4 log 16
  r-salt0 = be-same 4 log salts (start + 8) 0 (λ i l. rw zero-add (s-salts i (omega (arith, salted.long)))) ∙ sym salted.first

  r-salt1 : be 4 log (start + 12) ≡ be 4 log 20
  r-salt1 =
      be-same 4 log salts (start + 12) 4
      (λ i l.
      let e : start + 12 + i ≡ start + 8 + (4 + i) = omega arith in
      ap (byte_at log) e ∙ s-salts (4 + i) (omega (arith, salted.long)))
      ∙ sym salted.second

  r-sums : sums_after big size log (suc m) ≡ t
  r-sums = frame-sums big size log salts m p commit page s t stands salted.long long sums

  pub frame-read : FrameRead big size log m p commit page t
  unfolding marked carries
  frame-read =
      record {
        number = r-number;
        after = r-commit;
        bytes = stands-part log (start + 24) size page long (omega (arith, frame-next size m)) s-page;
        sums = r-sums;
        holding = frame-holds big size log m room
            (simp (r-number, ne_eqb p 0 some, ne_eqb p (lock_page size) unlocked, eq-eqb _ _ r-salt0, eq-eqb _ _ r-salt1))
            (simp (r-sums, eq-eqb _ _ r-sum0, eq-eqb _ _ r-sum1));
      }

-- ---- all frames of a commit
pub frames-length : (big : Bool) (size : ℕ) (salts : List ℕ) (n : ℕ) (numbers pages : List ℕ) (s : Sums) → length salts ≡ 8 → length pages ≡ length numbers * size
    → length (frames_from big size salts n numbers pages s) ≡ length numbers * (24 + size)
unfolding frames_from
frames-length big size salts n [] pages s e w = sym (zero-mul (24 + size))
frames-length big size salts n (p ∷ rest) pages s e w =
    let commit : ℕ = commit_for n (length rest) in
    let t : Sums = sums_on big size p commit (take size pages) s in
    let w' : length pages ≡ length rest * size + size = w ∙ suc-mul (length rest) size in
    let l : length (take size pages) ≡ size = length-take-le size pages (omega arith) in
    let d : length (drop size pages) ≡ length rest * size = length-drop size pages ∙ omega arith in
    let r = frames-length big size salts n rest (drop size pages) t e d in
    let f = frame-length salts p commit (take size pages) t e in
    let a = length-append (frame_bytes salts p commit (take size pages) t) (frames_from big size salts n rest (drop size pages) t) in
    let m = suc-mul (length rest) (24 + size) in
    omega arith

-- the sums carried on over them
pub frames-summed : (big : Bool) (size : ℕ) (log salts : List ℕ) (n : ℕ) (numbers pages : List ℕ) (s : Sums) (m : ℕ) → length salts ≡ 8 → length pages ≡ length numbers * size
    → sums_after big size log m ≡ s → Stands log (frame_at size m) (frames_from big size salts n numbers pages s)
    → sums_after big size log (m + length numbers) ≡ sums_from big size n numbers pages s
unfolding frames_from sums_from
frames-summed big size log salts n [] pages s m ls w e st = rw (add-zero m) e
frames-summed big size log salts n (p ∷ rest) pages s m ls w e st =
    let commit : ℕ = commit_for n (length rest) in
    let t : Sums = sums_on big size p commit (take size pages) s in
    let w' : length pages ≡ length rest * size + size = w ∙ suc-mul (length rest) size in
    let l : length (take size pages) ≡ size = length-take-le size pages (omega arith) in
    let d : length (drop size pages) ≡ length rest * size = length-drop size pages ∙ omega arith in
    let one : List ℕ = frame_bytes salts p commit (take size pages) t in
    let others : List ℕ = frames_from big size salts n rest (drop size pages) t in
    let f : length one ≡ 24 + size = frame-length salts p commit (take size pages) t ls ∙ omega arith in
    let here : sums_after big size log (suc m) ≡ t =
    frame-sums big size log salts m p commit (take size pages) s t (stands-front log (frame_at size m) one others st) ls l e in
    let behind : Stands log (frame_at size (suc m)) others =
    subst (λ (k : ℕ). Stands log k others) (sym (frame-next size m)) (stands-past log (frame_at size m) (24 + size) one others f st) in
    let next : m + suc (length rest) ≡ suc m + length rest = omega arith in
    rw next (frames-summed big size log salts n rest (drop size pages) t (suc m) ls d here behind)

-- what is read of the frames m, m + 1, ..
pub record FramesRead (big : Bool) (size : ℕ) (log : List ℕ) (m n : ℕ) (numbers pages : List ℕ) : Type 0 where
  pub counts : counting big size log (m + length numbers) ≡ true
  pub number : (i : ℕ) → i < length numbers → page_number size log (m + i) ≡ get_or numbers i 0
  pub after : (i : ℕ) → i < length numbers → commit_size size log (m + i) ≡ cond (eqb (suc i) (length numbers)) n 0
  pub bytes : (i : ℕ) → i < length numbers → part log (frame_at size (m + i) + 24) size ≡ part pages (i * size) size

-- numbers that a frame may carry
pub record Allowed (size n : ℕ) (numbers : List ℕ) : Type 0 where
  pub few : n < 2 ^ 32
  pub low : (i : ℕ) → i < length numbers → 1 ≤ get_or numbers i 0
  pub high : (i : ℕ) → i < length numbers → get_or numbers i 0 ≤ n
  pub unlocked : (i : ℕ) → i < length numbers → get_or numbers i 0 ≡ lock_page size → ⊥

allowed-rest : (size n p : ℕ) (rest : List ℕ) → Allowed size n (p ∷ rest) → Allowed size n rest
allowed-rest size n p rest a =
    record {
      few = a.few;
      low = λ i l. a.low (suc i) (omega arith);
      high = λ i l. a.high (suc i) (omega arith);
      unlocked = λ i l. a.unlocked (suc i) (omega arith);
    }

commit-small : (n k : ℕ) → n < 2 ^ 32 → commit_for n k < 2 ^ 32
commit-small n k h = by_cond (λ (x : ℕ). x < 2 ^ 32) (eqb k 0) n 0 (λ e. h) (λ e. omega arith)

eqb-suc : (a b : ℕ) → eqb (suc a) (suc b) ≡ eqb a b
eqb-suc a b = go (ℕ_discrete a b)
  where
    go : Dec (a ≡ b) → eqb (suc a) (suc b) ≡ eqb a b
    go (yes e) = rw (eq-eqb a b e) (eq-eqb (suc a) (suc b) (omega arith))
    go (no n) = rw (ne_eqb a b n) (ne_eqb (suc a) (suc b) (λ e. n (omega arith)))

commit-last : (n k : ℕ) → commit_for n k ≡ cond (eqb 1 (suc k)) n 0
commit-last n k = go (ℕ_discrete k 0)
  where
    go : Dec (k ≡ 0) → commit_for n k ≡ cond (eqb 1 (suc k)) n 0
    go (yes e) = simp (eq-eqb k 0 e, eq-eqb 1 (suc k) (omega arith))
    go (no z) = simp (ne_eqb k 0 z, ne_eqb 1 (suc k) (λ e. z (omega arith)))

pub frames-read : (big : Bool) (size : ℕ) (log salts : List ℕ) (n : ℕ) (numbers pages : List ℕ) (s : Sums) (m : ℕ) → Salted log salts
    → Allowed size n numbers → length pages ≡ length numbers * size → frame_at size (m + length numbers) ≤ length log
    → counting big size log m ≡ true → sums_after big size log m ≡ s
    → Stands log (frame_at size m) (frames_from big size salts n numbers pages s) → FramesRead big size log m n numbers pages
unfolding frames_from counting
frames-read big size log salts n [] pages s m salted a w room c e st =
    record {
      counts = rw (add-zero m) c;
      number = λ i l. absurd (omega arith);
      after = λ i l. absurd (omega arith);
      bytes = λ i l. absurd (omega arith);
    }
frames-read big size log salts n (p ∷ rest) pages s m salted a w room c e st =
    let commit : ℕ = commit_for n (length rest) in
    let t : Sums = sums_on big size p commit (take size pages) s in
    let w' : length pages ≡ length rest * size + size = w ∙ suc-mul (length rest) size in
    let l : length (take size pages) ≡ size = length-take-le size pages (omega arith) in
    let d : length (drop size pages) ≡ length rest * size = length-drop size pages ∙ omega arith in
    let next : m + suc (length rest) ≡ suc m + length rest = omega arith in
    let far : frame_at size (suc m) ≤ frame_at size (m + suc (length rest)) = frame-mono size (suc m) (m + suc (length rest)) (omega arith) in
    let low : 1 ≤ p = a.low 0 (omega arith) in
    let high : p ≤ n = a.high 0 (omega arith) in
    let few = a.few in
    let one : List ℕ = frame_bytes salts p commit (take size pages) t in
    let others : List ℕ = frames_from big size salts n rest (drop size pages) t in
    let here : FrameRead big size log m p commit (take size pages) t =
    frame-read big size log salts m p commit (take size pages) s (stands-front log (frame_at size m) one others st) (omega arith) salted l (omega arith)
    (commit-small n (length rest) few) (λ z. omega arith) (a.unlocked 0 (omega arith)) e in
    let f : length (frame_bytes salts p commit (take size pages) t) ≡ 24 + size = frame-length salts p commit (take size pages) t salted.long ∙ omega arith in
    let behind : Stands log (frame_at size m + (24 + size)) (frames_from big size salts n rest (drop size pages) t) =
    stands-past log (frame_at size m) (24 + size) one others f st in
    let r : FramesRead big size log (suc m) n rest (drop size pages) =
    frames-read big size log salts n rest (drop size pages) t (suc m) salted (allowed-rest size n p rest a) d (rw next at room)
    (rw (c, here.holding) refl) here.sums
    (subst (λ (k : ℕ). Stands log k (frames_from big size salts n rest (drop size pages) t)) (sym (frame-next size m)) behind) in
    record {
      counts = rw next r.counts;
      number = number r here;
      after = after r here;
      bytes = bytes r here;
    }
  where
    step : (i : ℕ) → m + suc i ≡ suc m + i
    step i = omega arith

    number : FramesRead big size log (suc m) n rest (drop size pages)
        → FrameRead big size log m p (commit_for n (length rest)) (take size pages) (sums_on big size p (commit_for n (length rest)) (take size pages) s)
        → (i : ℕ) → i < suc (length rest) → page_number size log (m + i) ≡ get_or (p ∷ rest) i 0
    number r here zero l = rw (add-zero m) here.number
    number r here (suc i) l = rw (step i) (r.number i (omega arith))

    after : FramesRead big size log (suc m) n rest (drop size pages)
        → FrameRead big size log m p (commit_for n (length rest)) (take size pages) (sums_on big size p (commit_for n (length rest)) (take size pages) s)
        → (i : ℕ) → i < suc (length rest) → commit_size size log (m + i) ≡ cond (eqb (suc i) (suc (length rest))) n 0
    after r here zero l = rw (add-zero m) here.after ∙ commit-last n (length rest)
    after r here (suc i) l = rw (step i, eqb-suc (suc i) (length rest)) (r.after i (omega arith))

    bytes : FramesRead big size log (suc m) n rest (drop size pages)
        → FrameRead big size log m p (commit_for n (length rest)) (take size pages) (sums_on big size p (commit_for n (length rest)) (take size pages) s)
        → (i : ℕ) → i < suc (length rest) → part log (frame_at size (m + i) + 24) size ≡ part pages (i * size) size
    bytes r here zero l = rw (add-zero m, zero-mul size) here.bytes
    bytes r here (suc i) l =
        let k : size + i * size ≡ suc i * size = omega (arith, suc-mul i size) in
        rw (step i) (r.bytes i (omega arith) ∙ ap (take size) (drop-drop (i * size) size pages ∙ ap (λ (x : ℕ). drop x pages) k))
