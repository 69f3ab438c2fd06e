-- Worked by hand: pages of 512 bytes, a log of 1640 bytes, which has three whole frames, an image of two pages, and a table that no fill left.
use Prim.Native.Nat.{ℕ}
use mathlib.Core.Path.{◌≡◌, refl}
use mathlib.Core.Bool.{true, false}
use mathlib.Core.List.{[], ◌∷◌}
use lib.ListN.{replicate}
use Rattle.paging.specs.Pages.{size_fits, lock_page}
use Rattle.wal.specs.Frames.{frame_at}
use Rattle.wal.specs.View.{no_part, part_is, image_part}
use Rattle.wal.specs.Part.{Part}
use Rattle.frames.specs.Table.{whole_frames, entry_part, part_by}

abbrev shown : (n size p : ℕ) → Part
shown n size p = part_by (replicate 1640 0) (replicate 1024 0) (3 ∷ 0 ∷ 4 ∷ 0 ∷ []) n size p

whole : (whole_frames 512 (replicate 1640 0) ≡ 3) × (whole_frames 512 (replicate 1639 0) ≡ 2) × (whole_frames 512 (replicate 31 0) ≡ 0)
whole = (refl, refl, refl)

-- entry 3: the third frame's page, at 32 + 2 * 536 + 24; entry 0: the image's second page; entry 4: past the log; entry 0, and the image has no fourth page
by_entries : (shown 4 512 1 ≡ part_is 0 true 1128 512) × (shown 4 512 2 ≡ part_is 0 false 512 512) × (shown 4 512 3 ≡ no_part 43) × (shown 4 512 4 ≡ no_part 43)
unfolding part_by entry_part image_part frame_at lock_page size_fits
by_entries = (refl, refl, refl, refl)

-- pages 0 and n + 1; a page size that is none before all else; a table shorter than n before the page
refused : (shown 4 512 0 ≡ no_part 46) × (shown 2 512 3 ≡ no_part 46) × (shown 5 768 0 ≡ no_part 41) × (shown 5 512 0 ≡ no_part 47)
unfolding part_by size_fits
refused = (refl, refl, refl, refl)
