-- What a summary says of recovery by that journal (proofs/Theorems.antt).
use Rattle.std.specs.Prelude.{ℕ, ◌+◌, ◌-◌, ◌*◌, ◌≤◌, ◌≡◌, true, false, cond, List, ◌⊎◌, ◌↔◌, ltb, length}
use Rattle.journal.specs.Header.{absent, nonce_at, most_at, sector_of, headed}
use Rattle.journal.specs.Records.{after, ends, sector_from, laid}
use Rattle.journal.specs.Recovery.{missing, refused, done, copied, recovery}
use Rattle.journal_summary.specs.Summary.{header_stop, record_stop}
use Rattle.journal_summary.specs.Summary.{Summary}

-- a journal whose records are told: its header is there, and it is not refused with 41
pub record Told (r : Summary) : Type 0 where
  pub there : r.header ≡ 0
  pub fits : r.refusal ≡ 41 → ⊥

-- `journal`'s `Reached`, told by the place s of the segment's header, so that its count is known beside its nonce (`reached-in`, proofs/Theorems.antt)
pub data ReachedIn (j : List ℕ) : (s left at : ℕ) → Type 0 where
  begins : ReachedIn j 0 (most_at j 0) (sector_of j)
  passes : {s left at : ℕ} → ReachedIn j s left at → (left ≡ 0 → ⊥) → ends j (nonce_at j s) at ≡ false → ReachedIn j s (left - 1) (after j at)
  opens : {s left at : ℕ} → ReachedIn j s left at → left ≡ 0 → headed j (sector_from j at) ≡ true
      → ReachedIn j (sector_from j at) (most_at j (sector_from j at)) (sector_from j at + sector_of j)

-- Where reading comes to an end, and why: no header stands behind the last record that was counted, or a record ends them.
pub record Stops (j : List ℕ) (stop : ℕ) : Type 0 where
  pub s : ℕ
  pub left : ℕ
  pub at : ℕ
  pub reached : ReachedIn j s left at
  pub why : ((left ≡ 0) × (headed j (sector_from j at) ≡ false) × (stop ≡ header_stop j (sector_from j at)))
      ⊎ ((left ≡ 0 → ⊥) × (ends j (nonce_at j s) at ≡ true) × (stop ≡ record_stop j s at))

-- of every journal, whatever the image and the room for the output
pub record Agrees (j : List ℕ) (r : Summary) : Type 0 where
  -- there is no journal exactly where its header is not there; recovery then hands the image on
  pub header : (absent j ≡ false) ↔ (r.header ≡ 0)
  pub copies : (r.header ≡ 0 → ⊥) → (image : List ℕ) (room : ℕ) → recovery j image room ≡ copied image room
  -- recovery refuses with the same number
  pub refuses : (r.refusal ≡ 0 → ⊥) → (image : List ℕ) (room : ℕ) → recovery j image room ≡ refused r.refusal
  -- with none, a missing page (43) and too little room (44) are left, and the same pages of the same size are recovered
  pub recovers : r.header ≡ 0 → r.refusal ≡ 0 → (image : List ℕ) (room : ℕ)
      → recovery j image room
      ≡ cond (missing j image r.pages) (refused 43) (cond (ltb room (r.pages * r.page_size)) (refused 44) (done r.pages (r.pages * r.page_size)))
  -- as many records are laid down
  pub laid_down : Told r → r.laid ≡ length (laid j)
  pub within_counting : r.laid ≤ r.counting
  pub has_segment : Told r → 1 ≤ r.segments
  pub stops : Told r → Stops j r.stop
