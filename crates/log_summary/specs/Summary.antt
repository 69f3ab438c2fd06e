-- What a log says of itself: how far recovery reads it, and why no further. Which frames are whole, which count and which is the last commit, `frames` and `wal` say.
use Rattle.std.specs.Prelude.{ℕ, ◌+◌, ◌-◌, Bool, true, false, cond, List, ltb, eqb, length}
use Rattle.number.specs.Bytes.{be}
use Rattle.paging.specs.Pages.{page_limit, size_fits, lock_page}
use Rattle.wal.specs.Frames.{frame_at, carries, header_sums, commit_size, last_commit, salted, count_of}
use Rattle.wal.specs.State.{little_magic, big_magic, log_version, size_of}
use Rattle.frames.specs.Table.{whole_frames}

-- what is told, in numbers: why the log is refused, or 0; whether its header is accepted (0); and why the scan stopped
pub record Summary : Type 0 where
  pub refusal : ℕ
  pub header : ℕ
  pub page_size : ℕ
  pub pages : ℕ
  pub frames : ℕ
  pub counting : ℕ
  pub in_force : ℕ
  pub stop : ℕ

-- n: the size after the last of the first m frames, a commit; of none, 0
unfoldable pub size_after : (size : ℕ) → List ℕ → (m : ℕ) → ℕ
size_after size log m = cond (eqb m 0) 0 (commit_size size log (m - 1))

-- Why the scan stops at `at`, where the frame after the last that counts would begin: 0 the log ends there; 1 the frame is cut; 2 its number is 0; 5 that is the
-- lock-byte page's; 3 its salts are not the header's; 4 its sums do not match, nothing else being left. The tests stand in the order of `marked`.
unfoldable pub stop_at : (size : ℕ) → List ℕ → (at : ℕ) → ℕ
stop_at size log at =
    cond (eqb (length log) at) 0
    (cond (ltb (length log) (at + (24 + size))) 1
    (cond (eqb (be 4 log at) 0) 2
    (cond (eqb (be 4 log at) (lock_page size)) 5
    (cond (salted log at) 4 3))))

-- 42: n is over the limit
unfoldable pub over_limit : (n : ℕ) → ℕ
over_limit n = cond (ltb page_limit n) 42 0

-- the header is not accepted (1 under 32 bytes, 2 wrong magic, 3 wrong sums), or refused with that number: all that follows is 0
abbrev pub untold : (refusal header : ℕ) → Summary
untold refusal header =
    record { refusal = refusal; header = header; page_size = 0; pages = 0; frames = 0; counting = 0; in_force = 0; stop = 0 }

-- the log behind a header that is accepted; with 42 all is told too
unfoldable pub told : (big : Bool) (size : ℕ) → List ℕ → Summary
told big size log =
    record {
      refusal = over_limit (size_after size log (last_commit big size log));
      header = 0;
      page_size = size;
      pages = size_after size log (last_commit big size log);
      frames = whole_frames size log;
      counting = count_of big size log;
      in_force = last_commit big size log;
      stop = stop_at size log (frame_at size (count_of big size log));
    }

-- the log in the word order that its magic gives
unfoldable pub summary_in : (big : Bool) → List ℕ → Summary
summary_in big log =
    cond (carries log 8 (header_sums big log))
    (cond (eqb (be 4 log 4) log_version) (cond (size_fits (size_of log)) (told big (size_of log) log) (untold 41 0)) (untold 40 0))
    (untold 0 3)

-- the whole log
unfoldable pub log_summary_of : List ℕ → Summary
log_summary_of log =
    cond (ltb (length log) 32) (untold 0 1)
    (cond (eqb (be 4 log 0) little_magic) (summary_in false log)
    (cond (eqb (be 4 log 0) big_magic) (summary_in true log) (untold 0 2)))
