-- How an image is laid down before frames or records are laid over it. About the code alone.
use Rattle.std.specs.Prelude.{ℕ, ◌-◌, ◌*◌, cond, List, ltb, length, take, replicate}
use Rattle.paging.specs.Pages.{lock_page, over}

-- zeros for the lock-byte page, where it is of 1 to n and does not lie wholly within an image of `long` bytes
unfoldable pub lay_lock : (size n long : ℕ) (out : List ℕ) → List ℕ
lay_lock size n long out =
    cond (ltb n (lock_page size)) out
    (cond (ltb long (lock_page size * size)) (over out ((lock_page size - 1) * size) (replicate size 0)) out)

-- the image over an output with room for n pages, then those zeros
unfoldable pub lay_image : (size n : ℕ) (image out : List ℕ) → List ℕ
lay_image size n image out = lay_lock size n (length image) (over out 0 (take (n * size) image))
