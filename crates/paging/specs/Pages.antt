-- How many pages there may be, the lock-byte page, pages side by side, and bytes laid over others.
use Rattle.std.specs.Prelude.{ℕ, zero, suc, ◌+◌, ◌-◌, ◌*◌, ◌/◌, Bool, true, cond, List, [], ◌++◌, eqb, ltb, length, take, drop, replicate}
use Rattle.number.specs.Bytes.{part}

-- at most so many pages (refusals 5 and 42)
abbrev pub page_limit : ℕ
page_limit = 2200000

-- the lock-byte page: the one that holds byte 1073741824, counted from 0. A file of exactly so many bytes has none.
unfoldable pub lock_page : (size : ℕ) → ℕ
lock_page size = 1073741824 / size + 1

-- what recovery of a whole file writes there: what stands in the image, or zeros where the image does not have all of that page
unfoldable pub lock_bytes : (size : ℕ) (image : List ℕ) → List ℕ
lock_bytes size image =
    cond (ltb (length image) (lock_page size * size)) (replicate size 0) (part image ((lock_page size - 1) * size) size)

-- the pages 1 to n, each as `shown` has it
unfoldable pub join_pages : (shown : ℕ → List ℕ) (n : ℕ) → List ℕ
join_pages shown zero = []
join_pages shown (suc n) = join_pages shown n ++ shown (suc n)

-- b with the bytes s laid over it from `at` on
abbrev pub over : (b : List ℕ) (at : ℕ) (s : List ℕ) → List ℕ
over b at s = take at b ++ (s ++ drop (at + length s) b)

-- a page or sector size: a power of two from 512 to 65536
unfoldable pub size_fits : (size : ℕ) → Bool
size_fits x =
    cond (eqb x 512) true
    (cond (eqb x 1024) true
    (cond (eqb x 2048) true
    (cond (eqb x 4096) true
    (cond (eqb x 8192) true (cond (eqb x 16384) true (cond (eqb x 32768) true (eqb x 65536)))))))
