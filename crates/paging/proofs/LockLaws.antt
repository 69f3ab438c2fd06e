-- The lock-byte page, and an image laid down with it.
use Prim.Native.Nat.{ℕ, suc, ◌+◌, ◌-◌, ◌*◌, ◌/◌, ◌%◌, ◌<◌, ◌≤◌}
use mathlib.Core.Path.{◌≡◌, refl, sym, ap, ◌∙◌}
use mathlib.Core.List.{List}
use mathlib.Core.Logic.{⊎_elim}
use native.Mathlib.Nat.{zero-add, add-sub_cancel, suc-mul, mul-le-mul_right, div-add-mod', mod-lt}
use native.Mathlib.Numerals.{add-one}
use native.Mathlib.Decide.{ℕ_discrete}
use native.Mathlib.Omega.{arith}
use lib.ListN.{length, take, drop, replicate, length-take, length-drop, length-replicate, get_or-replicate}
use lib.Seq.{get_or-take, length-take-le, drop-drop}
use borrow.Author.Tests.{lt-ltb, le-ltb}
use borrow.Rule.Slice.PartMut.{put_mid}
use Rattle.number.proofs.Cases.{lt-or-ge}
use Rattle.number.specs.Bytes.{byte_at, part}
use Rattle.paging.specs.Pages.{lock_page, lock_bytes, over}
use Rattle.paging.specs.Laying.{lay_lock, lay_image}
use Rattle.paging.proofs.PagesLaws.{length_over, over_below, over-within, over-past, page-fits, pages-apart, part_length, part_at}

-- ---- its number
-- page x / size + 1 holds byte x
holds-byte : (x size : ℕ) → 1 ≤ size → ((x / size + 1 - 1) * size ≤ x) × (x < (x / size + 1) * size)
holds-byte x size some =
    let e : x / size * size + x % size ≡ x = div-add-mod' x size in
    let m : x % size < size = mod-lt x some in
    let one : x / size + 1 - 1 ≡ x / size = add-sub_cancel (x / size) 1 in
    let next : (x / size + 1) * size ≡ x / size * size + size = ap (λ (k : ℕ). k * size) (add-one (x / size)) ∙ suc-mul (x / size) size in
    (rw one (omega arith), omega arith)

-- the lock-byte page holds byte 1073741824
pub lock-holds : (size : ℕ) → 1 ≤ size → ((lock_page size - 1) * size ≤ 1073741824) × (1073741824 < lock_page size * size)
unfolding lock_page
lock-holds size some = holds-byte 1073741824 size some

-- a file that ends by that byte has none
pub lock-past : (size n : ℕ) → 1 ≤ size → n * size ≤ 1073741824 → n < lock_page size
lock-past size n some h =
    ⊎_elim
    (λ (l : n < lock_page size). l)
    (λ (l : lock_page size ≤ n).
    let m : lock_page size * size ≤ n * size = mul-le-mul_right size l in
    absurd (omega (arith, (lock-holds size some).1)))
    (lt-or-ge n (lock_page size))

pub lock-one : (size : ℕ) → 1 ≤ lock_page size
unfolding lock_page
lock-one size = omega arith

-- at 512 and at 65536 bytes a page
pub lock-512 : lock_page 512 ≡ 2097153
unfolding lock_page
lock-512 = refl

pub lock-65536 : lock_page 65536 ≡ 16385
unfolding lock_page
lock-65536 = refl

-- ---- its bytes
pub lock-length : (size : ℕ) (image : List ℕ) → length (lock_bytes size image) ≡ size
unfolding lock_bytes
lock-length size image =
    ⊎_elim
    (λ (l : length image < lock_page size * size). rw (lt-ltb _ _ l) (length-replicate {A = ℕ} size 0))
    (λ (l : lock_page size * size ≤ length image).
    rw (le-ltb _ _ l) (part_length image ((lock_page size - 1) * size) size
    (omega (arith, page-fits (lock_page size) (lock_page size) size (lock-one size) (omega arith)))))
    (lt-or-ge (length image) (lock_page size * size))

pub lock-there : (size : ℕ) (image : List ℕ) → lock_page size * size ≤ length image → lock_bytes size image ≡ part image ((lock_page size - 1) * size) size
unfolding lock_bytes
lock-there size image l = rw (le-ltb _ _ l) refl

pub lock-zeros : (size : ℕ) (image : List ℕ) → length image < lock_page size * size → lock_bytes size image ≡ replicate size 0
unfolding lock_bytes
lock-zeros size image l = rw (lt-ltb _ _ l) refl

-- ---- zeros laid down
module _ (size n long : ℕ) (b : List ℕ) (room : n * size ≤ length b) where
  abbrev at : ℕ
  at = (lock_page size - 1) * size

  abbrev zeros : List ℕ
  zeros = replicate size 0

  zeros-fit : lock_page size ≤ n → at + length zeros ≤ length b
  zeros-fit h = omega (arith, length-replicate {A = ℕ} size 0, page-fits (lock_page size) n size (lock-one size) h)

  -- the ways out of `lay_lock`
  pub lock-above : n < lock_page size → b ≡ lay_lock size n long b
  unfolding lay_lock
  lock-above h = simp (lt-ltb _ _ h)

  pub lock-within : lock_page size ≤ n → lock_page size * size ≤ long → b ≡ lay_lock size n long b
  unfolding lay_lock
  lock-within h l = simp (le-ltb _ _ h, le-ltb _ _ l)

  pub lock-zeroed : lock_page size ≤ n → long < lock_page size * size → over b at zeros ≡ lay_lock size n long b
  unfolding lay_lock
  lock-zeroed h l = simp (le-ltb _ _ h, lt-ltb _ _ l)

  -- what `fill` does there: a part of the slice, lent and filled, put back
  filled : lock_page size ≤ n → long < lock_page size * size → (w : List ℕ)
      → w ≡ replicate (length (take (lock_page size * size - at) (drop at b))) 0
      → put_mid at (lock_page size * size - at) b w ≡ lay_lock size n long b
  filled h l w e =
      let e₁ : suc (lock_page size - 1) ≡ lock_page size = omega (arith, lock-one size) in
      let e₂ : lock_page size * size ≡ at + size = rw e₁ at (suc-mul (lock_page size - 1) size) in
      let width : lock_page size * size - at ≡ size = omega arith in
      let fit : at + size ≤ length b = omega (arith, page-fits (lock_page size) n size (lock-one size) h) in
      let long' : length (take size (drop at b)) ≡ size = length-take-le size (drop at b) (omega (arith, length-drop at b)) in
      let e₃ : w ≡ zeros = e ∙ rw (width, long') refl in
      let zero-long : length zeros ≡ size = length-replicate {A = ℕ} size 0 in
      let there : put_mid at (lock_page size * size - at) b w ≡ over b at zeros = rw (width, e₃, zero-long) (simp drop-drop) in
      there ∙ lock-zeroed h l

  pub lock-filled : (lock : ℕ) → lock ≡ lock_page size → lock ≤ n → long < lock * size → (w : List ℕ)
      → w ≡ replicate (length (take (lock * size - (lock - 1) * size) (drop ((lock - 1) * size) b))) 0
      → put_mid ((lock - 1) * size) (lock * size - (lock - 1) * size) b w ≡ lay_lock size n long b
  lock-filled lock is h l w e = rw is (filled (rw is at h) (rw is at l) w (rw is at e))

  by-lock : (P : List ℕ → Type 0) → (lock_page size ≤ n → long < lock_page size * size → P (over b at zeros)) → P b → P (lay_lock size n long b)
  by-lock P zeroed kept =
      ⊎_elim
      (λ (a : n < lock_page size). rw (← lock-above a) kept)
      (λ (a : lock_page size ≤ n).
      ⊎_elim
      (λ (l : long < lock_page size * size). rw (← lock-zeroed a l) (zeroed a l))
      (λ (l : lock_page size * size ≤ long). rw (← lock-within a l) kept)
      (lt-or-ge long (lock_page size * size)))
      (lt-or-ge n (lock_page size))

  zeroed-length : length (lay_lock size n long b) ≡ length b
  zeroed-length = by-lock (λ (x : List ℕ). length x ≡ length b) (λ a l. length_over b at zeros (zeros-fit a)) refl

  zeroed-past : (i : ℕ) → n * size ≤ i → byte_at (lay_lock size n long b) i ≡ byte_at b i
  zeroed-past i h =
      by-lock (λ (x : List ℕ). byte_at x i ≡ byte_at b i)
      (λ a l. over-past b at zeros (zeros-fit a) i (omega (arith, length-replicate {A = ℕ} size 0, page-fits (lock_page size) n size (lock-one size) a)))
      refl

  zeroed-other : (p i : ℕ) → 1 ≤ p → (p ≡ lock_page size → ⊥) → i < size → byte_at (lay_lock size n long b) ((p - 1) * size + i) ≡ byte_at b ((p - 1) * size + i)
  zeroed-other p i one ne h =
      by-lock (λ (x : List ℕ). byte_at x ((p - 1) * size + i) ≡ byte_at b ((p - 1) * size + i))
      (λ a l.
      ⊎_elim
      (λ (k : p < lock_page size). over_below b at zeros (zeros-fit a) ((p - 1) * size + i) (omega (arith, pages-apart p (lock_page size) size one k)))
      (λ (k : lock_page size ≤ p).
      over-past b at zeros (zeros-fit a) ((p - 1) * size + i)
      (omega (arith, length-replicate {A = ℕ} size 0, pages-apart (lock_page size) p size (lock-one size) (omega arith))))
      (lt-or-ge p (lock_page size)))
      refl

-- ---- the image laid down
module _ (size n : ℕ) (image out : List ℕ) (room : n * size ≤ length out) where
  abbrev first : List ℕ
  first = take (n * size) image

  abbrev start : List ℕ
  start = over out 0 first

  short : length first ≤ n * size
  short = omega (arith, length-take (n * size) image)

  start_fits : 0 + length first ≤ length out
  start_fits = omega (arith, short)

  start-room : n * size ≤ length start
  start-room = omega (arith, length_over out 0 first start_fits)

  start-at : (p i : ℕ) → 1 ≤ p → p ≤ n → i < size → p * size ≤ length image → byte_at start ((p - 1) * size + i) ≡ byte_at image ((p - 1) * size + i)
  start-at p i a b h l =
      let k : ℕ = (p - 1) * size + i in
      let low : k < n * size = omega (arith, page-fits p n size a b) in
      let long : k < length first = omega (arith, length-take (n * size) image, page-fits p p size a (omega arith)) in
      ap (λ (x : ℕ). byte_at start x) (sym (zero-add k)) ∙ over-within out 0 first start_fits k long ∙ get_or-take (n * size) image k 0 low

  pub image-length : length (lay_image size n image out) ≡ length out
  unfolding lay_image
  image-length = zeroed-length size n (length image) start start-room ∙ length_over out 0 first start_fits

  pub image-past : (i : ℕ) → n * size ≤ i → byte_at (lay_image size n image out) i ≡ byte_at out i
  unfolding lay_image
  image-past i h = zeroed-past size n (length image) start start-room i h ∙ over-past out 0 first start_fits i (omega (arith, short))

  -- a page that lies within the image
  pub image-page : (p i : ℕ) → 1 ≤ p → p ≤ n → i < size → p * size ≤ length image
      → byte_at (lay_image size n image out) ((p - 1) * size + i) ≡ byte_at image ((p - 1) * size + i)
  unfolding lay_image
  image-page p i a b h l = go (ℕ_discrete p (lock_page size))
    where
      go : Dec (p ≡ lock_page size) → byte_at (lay_image size n image out) ((p - 1) * size + i) ≡ byte_at image ((p - 1) * size + i)
      go (yes e) =
          let same = lock-within size n (length image) start start-room (omega arith) (rw e at l) in
          rw (← same) (start-at p i a b h l)
      go (no ne) = zeroed-other size n (length image) start start-room p i a ne h ∙ start-at p i a b h l

  -- the lock-byte page
  pub image-lock : lock_page size ≤ n → (i : ℕ) → i < size
      → byte_at (lay_image size n image out) ((lock_page size - 1) * size + i) ≡ byte_at (lock_bytes size image) i
  unfolding lay_image
  image-lock b i h =
      ⊎_elim
      (λ (l : length image < lock_page size * size).
      let at : ℕ = (lock_page size - 1) * size in
      let z : byte_at (replicate {A = ℕ} size 0) i ≡ 0 = get_or-replicate {A = ℕ} size i 0 0 h in
      let same = lock-zeroed size n (length image) start start-room b l in
      rw (← same, lock-zeros size image l)
      (over-within start at (replicate size 0) (zeros-fit size n (length image) start start-room b) i (omega (arith, length-replicate {A = ℕ} size 0))))
      (λ (l : lock_page size * size ≤ length image).
      let e = lock-there size image l in
      image-page (lock_page size) i (lock-one size) b h l ∙ rw e (sym (part_at image ((lock_page size - 1) * size) size i h)))
      (lt-or-ge (length image) (lock_page size * size))
