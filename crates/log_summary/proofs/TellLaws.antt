-- Each way out of `tell`, `inspect_in` and `inspect`.
use Prim.Native.Nat.{ℕ, zero, suc, ◌≤◌}
use mathlib.Core.Path.{◌≡◌, refl, sym, ◌∙◌}
use mathlib.Core.Bool.{Bool, true}
use mathlib.Core.List.{List}
use lib.ListN.{length}
use borrow.Author.Tests.{lt-ltb, le-ltb}
use Prim.Native.Nat.{◌<◌}
use Rattle.number.specs.Bytes.{be}
use Rattle.wal.specs.Frames.{frame_at, counting, count_of, scan_of}
use Rattle.std.specs.Prelude.{Option, Some, None}
use Rattle.wal.specs.declared.Order.{Order}
use Rattle.wal.specs.Sums.{is_big}
use Rattle.wal.specs.Told.{order_of}
use Rattle.wal.proofs.OrderLaws.{in_order, no_order}
use Rattle.wal.proofs.FrameLaws.{frame-first, last-passes, counted-whole}
use Rattle.frames.specs.Table.{whole_frames}
use Rattle.log_summary.specs.Summary.{Summary, size_after, stop_at, over_limit, untold, told, summary_in, log_summary_of}
use Rattle.wal.specs.declared.Found.{Found}

-- all that is counted counts, and is whole
pub count-counts : (big : Bool) (size : ℕ) (log : List ℕ) → counting big size log (count_of big size log) ≡ true
unfolding counting
count-counts big size log = go (count_of big size log) refl
  where
    go : (m : ℕ) → count_of big size log ≡ m → counting big size log m ≡ true
    go zero e = refl
    go (suc k) e = last-passes (λ (j : ℕ). counting big size log (suc j)) (length log) k e

pub count-whole : (big : Bool) (size : ℕ) (log : List ℕ) → 32 ≤ length log → frame_at size (count_of big size log) ≤ length log
count-whole big size log l = go (count_of big size log) (count-counts big size log)
  where
    go : (m : ℕ) → counting big size log m ≡ true → frame_at size m ≤ length log
    go zero e = rw (frame-first size) l
    go (suc k) e = counted-whole big size log k e

pub is-told : (big : Bool) (size : ℕ) (log : List ℕ) (f : Found) (n over whole at stop : ℕ) → f ≡ scan_of big size log → n ≡ size_after size log f.commit → over ≡ over_limit n
    → whole ≡ whole_frames size log → at ≡ frame_at size f.counting → stop ≡ stop_at size log at
    → record { refusal = over; header = 0; page_size = size; pages = n; frames = whole; counting = f.counting; in_force = f.commit; stop = stop } ≡ told big size log
unfolding told
is-told big size log f n over whole at stop ef en eo ew ea es = rw (es, ea, ew, eo, en, ef) refl

module _ (log : List ℕ) (r : Summary) where
  pub of-short : length log < 32 → r ≡ untold 0 1 → r ≡ log_summary_of log
  unfolding log_summary_of
  of-short h e = simp (lt-ltb (length log) 32 h) e

  module _ (long : 32 ≤ length log) (o : Option Order) (magic : ℕ) (is-magic : magic ≡ be 4 log 0) (is-o : o ≡ order_of magic) where
    pub of-order : (order : Order) → o ≡ Some order → r ≡ summary_in (is_big order) log → r ≡ log_summary_of log
    unfolding order_of log_summary_of
    of-order order e h =
        simp (le-ltb (length log) 32 long, ← is-magic)
        (h ∙ in_order (λ (b : Bool). summary_in b log) (untold 0 2) _ _ order (sym is-o ∙ e))

    pub of_other : o ≡ None → r ≡ untold 0 2 → r ≡ log_summary_of log
    unfolding order_of log_summary_of
    of_other e h =
        simp (le-ltb (length log) 32 long, ← is-magic)
        (h ∙ no_order (λ (b : Bool). summary_in b log) (untold 0 2) _ _ (sym is-o ∙ e))
