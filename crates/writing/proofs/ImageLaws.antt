-- Pages side by side in an image, and the header of a fresh file.
--     in-append, in-at     parts of pages side by side, and one of them
--     joined_in            pages of 1024 bytes joined are the pages of the image
--     header-passes        the header of a fresh file passes refusals 1 to 11; its page size, usable size and number of pages
-- Assumes nothing.
use Prim.Native.Nat.{ℕ, zero, suc, ◌+◌, ◌-◌, ◌*◌, ◌%◌, ◌<◌, ◌≤◌}
use mathlib.Core.Path.{◌≡◌, refl, sym, ap, ◌∙◌, subst}
use mathlib.Core.Bool.{true}
use mathlib.Core.List.{List, [], ◌∷◌, ◌++◌, append_assoc}
use native.Mathlib.Nat.{add-zero}
use native.Mathlib.Omega.{arith}
use lib.ListN.{length, get_or, replicate, length-append}
use lib.Seq.{take_at, drop_at}
use borrow.Author.Tests.{le-ltb, eq-eqb, ne_eqb}
use Rattle.number.specs.Bytes.{byte_at, be}
use Rattle.header.specs.Header.{page_limit, magic, holds, size_for, size_of, present_of, counted, pages_of, usable_of, form_refusal, field_refusal}
use Rattle.header.specs.Header.{header_refusal, page_of}
use Rattle.image.specs.Pages.{page_in, free_head_in, free_total_in}
use Rattle.image.specs.Maps.{vacuum_in}
use Rattle.writing.specs.Cells.{be_bytes}
use Rattle.writing.specs.Pages.{joined}
use Rattle.writing.specs.Groups.{Each}
use Rattle.writing.specs.Layout.{file_header}
use Rattle.writing.proofs.ChainRead.{InImage}

-- ---- pages side by side
pub in-append : (b : List ℕ) (t : ℕ) (ps qs : List (List ℕ)) → InImage b t (ps ++ qs) → InImage b t ps × InImage b (t + length ps) qs
in-append b t [] qs h = (tt, subst (λ k. InImage b k qs) (sym (add-zero t)) h)
in-append b t (p ∷ ps) qs h =
    let r = in-append b (t + 1) ps qs h.1 in
    let e : t + 1 + length ps ≡ t + suc (length ps) = omega arith in
    ((h.0, r.0), subst (λ k. InImage b k qs) e r.1)

pub in-at : (b : List ℕ) (t : ℕ) (ps : List (List ℕ)) (i : ℕ) → i < length ps → InImage b t ps → page_in b (t + i) ≡ get_or ps i []
in-at b t [] i l h = absurd (omega arith)
in-at b t (p ∷ ps) zero l h = rw add-zero h.0
in-at b t (p ∷ ps) (suc i) l h =
    let e : t + suc i ≡ t + 1 + i = omega arith in
    ap (page_in b) e ∙ in-at b (t + 1) ps i (omega arith) h.1

pub joined-append : (ps qs : List (List ℕ)) → joined (ps ++ qs) ≡ joined ps ++ joined qs
unfolding joined
joined-append [] qs = refl
joined-append (p ∷ ps) qs = ap (λ x. p ++ x) (joined-append ps qs) ∙ sym (append_assoc p (joined ps) (joined qs))

pub joined-more : (p : List ℕ) (ps : List (List ℕ)) → joined (p ∷ ps) ≡ p ++ joined ps
unfolding joined
joined-more p ps = refl

-- page t of front ++ p ++ rest, where front is the pages before it
page-here : (front p rest : List ℕ) (t : ℕ) → length front ≡ (t - 1) * 1024 → length p ≡ 1024 → page_of (front ++ (p ++ rest)) 1024 t ≡ p
unfolding page_of
page-here front p rest t e l = rw (drop_at front (p ++ rest) ((t - 1) * 1024) e, take_at p rest 1024 l)

pub joined_in : (b : List ℕ) (front : List ℕ) (t : ℕ) (ps : List (List ℕ)) → b ≡ front ++ joined ps → size_of b ≡ 1024 → 1 ≤ t
    → length front ≡ (t - 1) * 1024 → Each (λ p. length p ≡ 1024) ps → InImage b t ps
joined_in b front t [] e s l k a = tt
joined_in b front t (p ∷ ps) e s l k a =
    let f : b ≡ front ++ (p ++ joined ps) = e ∙ ap (λ x. front ++ x) (joined-more p ps) in
    let here : page_in b t ≡ p = ap (λ n. page_of b n t) s ∙ ap (λ x. page_of x 1024 t) f ∙ page-here front p (joined ps) t k a.0 in (
      here,
      joined_in b (front ++ p) (t + 1) ps (f ∙ sym (append_assoc front p (joined ps))) s (omega arith)
          (omega (arith, length-append front p, a.0)) a.1,
    )

pub joined-size : (ps : List (List ℕ)) → Each (λ p. length p ≡ 1024) ps → length (joined ps) ≡ length ps * 1024
unfolding joined
joined-size [] a = omega arith
joined-size (p ∷ ps) a = length-append p (joined ps) ∙ omega (arith, a.0, joined-size ps a.1)

-- ---- the header
pub header-size : (n : ℕ) → length (file_header n) ≡ 100
unfolding file_header be_bytes
header-size n = refl

pub record FreshHeader (b : List ℕ) (n : ℕ) : Type 0 where
  pub passes : header_refusal b ≡ 0
  pub size_is : size_of b ≡ 1024
  pub usable_is : usable_of b ≡ 1024
  pub pages-is : pages_of b ≡ n
  pub no-free : free_head_in b ≡ 0
  pub none_free : free_total_in b ≡ 0
  pub no-maps : vacuum_in b ≡ 0

both : (b : List ℕ) → form_refusal b ≡ 0 → field_refusal b ≡ 0 → header_refusal b ≡ 0
unfolding header_refusal
both b e f = rw (e, f)

module _ (n : ℕ) (rest : List ℕ) (low : 1 ≤ n) (high : n ≤ 4096) (whole : length (file_header n ++ rest) ≡ n * 1024) where
  abbrev b : List ℕ
  b = file_header n ++ rest

  fresh-size : size_of b ≡ 1024
  unfolding file_header be_bytes size_of size_for be
  fresh-size = refl

  fresh-usable : usable_of b ≡ 1024
  unfolding file_header be_bytes usable_of size_of size_for be
  fresh-usable = refl

  fresh-present : present_of b ≡ n
  unfolding present_of
  fresh-present = rw (fresh-size, whole) (omega arith)

  -- the count at 28, and the numbers at 24 and 92
  fresh-count : be 4 b 28 ≡ n
  unfolding file_header be_bytes be
  fresh-count = omega arith

  fresh-changes : (be 4 b 24 ≡ 1) × (be 4 b 92 ≡ 1)
  unfolding file_header be_bytes be
  fresh-changes = (refl, refl)

  fresh-counted : counted b ≡ true
  unfolding counted
  fresh-counted = rw (fresh-count, ne_eqb n 0 (λ (z : n ≡ 0). omega arith), fresh-changes.0, fresh-changes.1)

  fresh-pages : pages_of b ≡ n
  unfolding pages_of
  fresh-pages = rw (fresh-counted, fresh-count)

  fresh-magic : holds b 0 magic ≡ true
  unfolding file_header be_bytes holds
  fresh-magic = refl

  fresh-fractions : holds b 21 (64 ∷ 32 ∷ 32 ∷ []) ≡ true
  unfolding file_header be_bytes holds
  fresh-fractions = refl

  fresh-zeros : holds b 72 (replicate 20 0) ≡ true
  unfolding file_header be_bytes holds
  fresh-zeros = refl

  fresh-version : byte_at b 19 ≡ 1
  unfolding file_header be_bytes
  fresh-version = refl

  fresh-maps : (be 4 b 52 ≡ 0) × (be 4 b 64 ≡ 0)
  unfolding file_header be_bytes be
  fresh-maps = (refl, refl)

  fresh-free : (free_head_in b ≡ 0) × (free_total_in b ≡ 0)
  unfolding file_header be_bytes be
  fresh-free = (refl, refl)

  form-passes : form_refusal b ≡ 0
  unfolding form_refusal
  form-passes = rw (whole, le-ltb (n * 1024) 512 (omega arith), fresh-magic, fresh-size, eq-eqb (n * 1024 % 1024) 0 (omega arith))

  field-passes : field_refusal b ≡ 0
  unfolding field_refusal
  field-passes =
      rw (
        fresh-usable,
        fresh-fractions,
        fresh-version,
        fresh-present,
        fresh-pages,
        le-ltb n n (omega arith),
        le-ltb page_limit n (omega arith),
        fresh-maps.0,
        fresh-maps.1,
        fresh-zeros,
      )

  pub header-passes : FreshHeader b n
  header-passes =
      record {
        passes = passed;
        size_is = fresh-size;
        usable_is = fresh-usable;
        pages-is = fresh-pages;
        no-free = fresh-free.0;
        none_free = fresh-free.1;
        no-maps = fresh-maps.0;
      }
    where
      passed : header_refusal b ≡ 0
      passed = both b form-passes field-passes
