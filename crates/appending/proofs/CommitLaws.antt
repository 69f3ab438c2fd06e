-- A commit appended by the tail of a log.
use Rattle.std.proofs.Common.{◌≡◌, ℕ, ◌+◌, ◌<◌, Bool, true, false, cond, List, ◌++◌, length, get_or, take, drop, refl, sym, ap, ◌∙◌, subst, arith}
use lib.Dec.{eqb}
use lib.Seq.{get_or-take, take-append-le, take_at}
use borrow.Author.Tests.{eq-eqb, eqb-true}
use Rattle.number.specs.Bytes.{be, part}
use Rattle.number.proofs.Cases.{by_cond}
use Rattle.wal.specs.Frames.{frame_at, sums_after, last_commit}
use Rattle.wal.specs.State.{size_of, state_of}
use Rattle.wal.specs.Promises.{Accepted, in_force}
use Rattle.wal.specs.State.{State}
use Rattle.appending.specs.Appended.{Appended}
use Rattle.appending.specs.Written.{frames_from, sums_from, frames_bytes}
use Rattle.appending.specs.Tail.{tail_is, big_of, frames_of, tail_of, size_in, big_in, salts_in, sums_in, frames_in, IsTail}
use Rattle.appending.specs.Promises.{Fits, committed, Appends}
use Rattle.appending.specs.Answers.{answer_is, added_length, append_refusal, append_of, append_out, tail_after, append_tail}
use Rattle.appending.proofs.BytesLaws.{AllBytes, bytes-append, bytes-take, bytes-drop, bytes-frames, words-again}
use Rattle.appending.proofs.GivenLaws.{given-fit, Passed, append-passed}
use Rattle.appending.proofs.TailLaws.{told, tail-length}
use Rattle.appending.proofs.BehindLaws.{behind}
use Rattle.appending.proofs.AppendLaws as A

-- ---- the tail of a log with a commit
module _ (log : List ℕ) (n : ℕ) (numbers pages : List ℕ) (a : Accepted (big_of log) log) (fits : Fits (size_of log) n numbers pages) where
  abbrev new : List ℕ
  new = committed (big_of log) log n numbers pages

  pub new-big : big_of new ≡ big_of log
  new-big = told (big_of log) new (A.new-accepted (big_of log) log n numbers pages a fits)

  new-frames : last_commit (big_of log) (size_of log) new ≡ frames_of log + length numbers
  new-frames = A.new-last (big_of log) log n numbers pages a fits

  pub new-tail : tail_of new
      ≡ tail_is (size_of log) (big_of log) (be 4 log 16) (be 4 log 20)
      (sums_from (big_of log) (size_of log) n numbers pages (sums_after (big_of log) (size_of log) log (frames_of log))) (frames_of log + length numbers) n
  unfolding tail_of
  new-tail =
      let e = A.new-size (big_of log) log n numbers pages a fits in
      let x = A.new-salt1 (big_of log) log n numbers pages a fits in
      let y = A.new-salt2 (big_of log) log n numbers pages a fits in
      let s = A.new-sums (big_of log) log n numbers pages a fits in
      let p : (state_of new).pages ≡ n = ap (λ (z : State). z.pages) (A.new-state (big_of log) log n numbers pages a fits) in
      rw (p, new-big, e, x, y, new-frames, s) refl

  pub new-bytes : AllBytes log → AllBytes pages → AllBytes new
  new-bytes f g =
      bytes-append (in_force (big_of log) log) (frames_bytes (big_of log) log n numbers pages) (bytes-take (frame_at (size_of log) (frames_of log)) log f)
      (bytes-frames (big_of log) (size_of log) (part log 16 8) n numbers pages (sums_after (big_of log) (size_of log) log (frames_of log))
      (bytes-take 8 (drop 16 log) (bytes-drop 16 log f)) g)

-- ---- what the words of a tail are
module _ (tail log : List ℕ) (t : IsTail tail log) where
  word_in : (k : ℕ) → k < 8 → get_or tail k 0 ≡ get_or (tail_of log) k 0
  word_in k l = sym (get_or-take 8 tail k 0 l) ∙ ap (λ (x : List ℕ). get_or x k 0) t.words

  pub size-in : size_in tail ≡ size_of log
  unfolding tail_of
  size-in = word_in 0 (omega arith)

  one : (big : Bool) → eqb (cond big 1 0) 1 ≡ big
  one true = refl
  one false = refl

  big-in : big_in tail ≡ big_of log
  unfolding tail_of
  big-in = ap (λ (k : ℕ). eqb k 1) (word_in 1 (omega arith)) ∙ one (big_of log)

  salt1-in : get_or tail 2 0 ≡ be 4 log 16
  unfolding tail_of
  salt1-in = word_in 2 (omega arith)

  salt2-in : get_or tail 3 0 ≡ be 4 log 20
  unfolding tail_of
  salt2-in = word_in 3 (omega arith)

  salts-in : salts_in tail ≡ part log 16 8
  salts-in = rw (salt1-in, salt2-in) (words-again log 16 20 t.bytes (omega arith) (let l = t.header.long in omega arith))

  sums-in : sums_in tail ≡ sums_after (big_of log) (size_of log) log (frames_of log)
  unfolding tail_of
  sums-in = rw (word_in 4 (omega arith), word_in 5 (omega arith)) refl

  frames-in : frames_in tail ≡ frames_of log
  unfolding tail_of
  frames-in = word_in 6 (omega arith)

  -- ---- and what is appended by it
  module _ (n : ℕ) (numbers pages out : List ℕ) (bytes : AllBytes pages) (done : append_refusal tail n numbers (length pages) (length out) ≡ 0) where
    passed : Passed tail n numbers (length pages) (length out)
    passed = append-passed tail n numbers (length pages) (length out) done

    fits : Fits (size_of log) n numbers pages
    fits = subst (λ (size : ℕ). Fits size n numbers pages) size-in (given-fit (size_in tail) n numbers pages passed.few passed.given)

    abbrev big : Bool
    big = big_of log

    abbrev whole : List ℕ
    whole = committed big log n numbers pages

    pub frames-are : frames_from (big_in tail) (size_in tail) (salts_in tail) n numbers pages (sums_in tail) ≡ frames_bytes big log n numbers pages
    frames-are = rw (big-in, size-in, salts-in, sums-in) refl

    pub tail-are : tail_after tail n numbers pages ≡ tail_of whole
    tail-are = rw (big-in, size-in, salt1-in, salt2-in, sums-in, frames-in) (sym (new-tail log n numbers pages t.header fits))

    added : length (frames_bytes big log n numbers pages) ≡ added_length (size_of log) numbers
    added = A.added-length big log n numbers pages t.header fits

    -- from the place, the length, the output and the tail that the code has
    module _ (at long : ℕ) (rest out' words tail' : List ℕ) (ea : at ≡ frame_at (size_in tail) (frames_in tail)) (el : long ≡ added_length (size_in tail) numbers)
        (eo : out' ≡ frames_from (big_in tail) (size_in tail) (salts_in tail) n numbers pages (sums_in tail) ++ rest)
        (et : tail' ≡ tail_after tail n numbers pages ++ words) where
      base-is : take at log ≡ in_force big log
      base-is = rw (ea, size-in, frames-in) refl

      out-is : out' ≡ frames_bytes big log n numbers pages ++ rest
      out-is = eo ∙ ap (λ (x : List ℕ). x ++ rest) frames-are

      long-is : long ≡ length (frames_bytes big log n numbers pages)
      long-is = el ∙ ap (λ (size : ℕ). added_length size numbers) size-in ∙ sym added

      frames-out : take long out' ≡ frames_bytes big log n numbers pages
      frames-out = rw out-is (take_at (frames_bytes big log n numbers pages) rest long (sym long-is))

      whole-is : take at log ++ take long out' ≡ whole
      whole-is = rw (base-is, frames-out) refl

      cut-is : (c : ℕ) → c < long → take at log ++ take c out' ≡ in_force big log ++ take c (frames_bytes big log n numbers pages)
      cut-is c l = rw (base-is, out-is) (ap (λ (x : List ℕ). in_force big log ++ x) (take-append-le c (frames_bytes big log n numbers pages) rest (omega (arith, long-is))))

      next-words : take 8 tail' ≡ tail_of whole
      next-words = ap (take 8) et ∙ ap (λ (x : List ℕ). take 8 (x ++ words)) tail-are ∙ front-of (tail_of whole) (tail-length whole)
        where
          front-of : (x : List ℕ) → length x ≡ 8 → take 8 (x ++ words) ≡ x
          front-of x e = take_at x words 8 e

      is-next : IsTail tail' whole
      is-next =
          record {
            header = rw (new-big log n numbers pages t.header fits) (A.new-accepted big log n numbers pages t.header fits);
            bytes = new-bytes log n numbers pages t.header fits t.bytes bytes;
            words = next-words;
          }

      pub appends : Appends log n numbers pages (answer_is 0 at long) tail' out'
      appends =
          record {
            fits = fits;
            base = base-is;
            frames = frames-out;
            behind = λ x. rw base-is (behind big log t.header x).1;
            cuts = λ c image l. rw (cut-is c l) (A.cut-alike big log n numbers pages t.header fits c (omega (arith, long-is)) image);
            state = rw whole-is (A.new-state big log n numbers pages t.header fits);
            given = λ image p i l e later. rw whole-is (A.given-view big log n numbers pages t.header fits image p i l e later);
            kept = λ image p none alone low high old.
                let g = A.pair-sized big log image t.header alone (omega arith) in
                rw whole-is (
                  A.other-page big log n numbers pages t.header fits image p none g.0 g.1 low high old,
                  A.other-view big log n numbers pages t.header fits image p none g.0 g.1 low high old,
                );
            shown = λ image p none. rw whole-is (A.other-shown big log n numbers pages t.header fits image p none);
            next = rw whole-is is-next;
          }

    -- by the definitions alone
    pub append-of : Appends log n numbers pages (append_of tail n numbers (length pages) (length out)) (append_tail tail n numbers pages (length out)) (append_out tail n numbers pages out)
    unfolding append_of append_tail append_out
    append-of =
        let e = eq-eqb (append_refusal tail n numbers (length pages) (length out)) 0 done in
        simp e
        (appends (frame_at (size_in tail) (frames_in tail)) (added_length (size_in tail) numbers) (drop (added_length (size_in tail) numbers) out)
        (frames_from (big_in tail) (size_in tail) (salts_in tail) n numbers pages (sums_in tail) ++ drop (added_length (size_in tail) numbers) out) (drop 8 tail)
        (tail_after tail n numbers pages ++ drop 8 tail) refl refl refl refl)

  pub append-appends : (n : ℕ) (numbers pages out : List ℕ) → AllBytes pages → (append_of tail n numbers (length pages) (length out)).refusal ≡ 0
      → Appends log n numbers pages (append_of tail n numbers (length pages) (length out)) (append_tail tail n numbers pages (length out)) (append_out tail n numbers pages out)
  unfolding append_of
  append-appends n numbers pages out f h = append-of n numbers pages out f (none h)
    where
      none : (append_of tail n numbers (length pages) (length out)).refusal ≡ 0 → append_refusal tail n numbers (length pages) (length out) ≡ 0
      none =
          by_cond (λ (r : Appended). r.refusal ≡ 0 → append_refusal tail n numbers (length pages) (length out) ≡ 0) (eqb (append_refusal tail n numbers (length pages) (length out)) 0) _ _
          (λ e z. eqb-true _ 0 e) (λ e z. z)
