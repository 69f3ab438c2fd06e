-- Pages that have their kind by their place: the lock-byte page, and, where the number at 52 is not zero, the pointer maps:
-- page 2, then each page that is J + 1 on. A map has J entries, one about each page after it, up to the next map. A map that
-- would fall on the lock-byte page stands on the next page, and the later maps where they would.
use Rattle.std.specs.Prelude.{ℕ, ◌+◌, ◌-◌, ◌*◌, ◌/◌, ◌%◌, cond, List, eqb, ltb}
use Rattle.number.specs.Bytes.{byte_at, be}
use Rattle.paging.specs.Pages.{lock_page}
use Rattle.header.specs.Header.{size_of, usable_of}
use Rattle.image.specs.Pages.{page_in}

-- the number at 52
abbrev pub vacuum_in : List ℕ → ℕ
vacuum_in b = be 4 b 52

-- J: how many entries of five bytes a page of u usable bytes has room for
abbrev pub map_entries : (u : ℕ) → ℕ
map_entries u = u / 5

-- how many pages page p, from 2 on, stands past the last place up to it that a map would have
unfoldable pub past_place : (u p : ℕ) → ℕ
past_place u p = (p - 2) % (map_entries u + 1)

-- how many it stands past its map, which is one page on where that place is the lock-byte page: 0 for a map
unfoldable pub past_map : (size u p : ℕ) → ℕ
past_map size u p = cond (eqb (p - past_place u p) (lock_page size)) (past_place u p - 1) (past_place u p)

-- the kind that a page has by its place, less 6: 1 for a map, 2 for the lock-byte page, whatever 52 says, 0 for a page that has none
unfoldable pub fixed_in : List ℕ → (p : ℕ) → ℕ
fixed_in b p =
    cond (eqb p (lock_page (size_of b))) 2
    (cond (eqb (vacuum_in b) 0) 0 (cond (ltb p 2) 0 (cond (eqb (past_map (size_of b) (usable_of b) p) 0) 1 0)))

-- page p's map, and where in it the entry about p stands: a type, then a number of four bytes
abbrev pub map_of : (size u p : ℕ) → ℕ
map_of size u p = p - past_map size u p

abbrev pub entry_of : (size u p : ℕ) → ℕ
entry_of size u p = 5 * (past_map size u p - 1)

abbrev pub entry_type_in : List ℕ → (p : ℕ) → ℕ
entry_type_in b p = byte_at (page_in b (map_of (size_of b) (usable_of b) p)) (entry_of (size_of b) (usable_of b) p)

abbrev pub entry_number_in : List ℕ → (p : ℕ) → ℕ
entry_number_in b p = be 4 (page_in b (map_of (size_of b) (usable_of b) p)) (entry_of (size_of b) (usable_of b) p + 1)
