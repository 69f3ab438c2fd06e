-- Each way out of `restore_in`, `copy_image` and `recover`.
use Rattle.std.proofs.Common.{◌≡◌, ℕ, suc, ◌-◌, ◌*◌, ◌<◌, ◌≤◌, Bool, true, false, cond, List, ◌++◌, length, drop, sym, refl, ap, ◌∙◌, ⊎_elim, arith, le-ltb, lt-ltb}
use lib.Dec.{eqb-suc-zero}
use Rattle.number.proofs.Cases.{lt-or-ge, true-or-false}
use Rattle.paging.specs.Pages.{page_limit, lock_page, join_pages, over, size_fits}
use Rattle.paging.specs.Laying.{lay_image}
use Rattle.paging.specs.Bits.{Clear, Noted, lacks}
use Rattle.paging.proofs.PagesLaws.{fits-range}
use Rattle.paging.proofs.BitLaws.{eqb-turned}
use Rattle.journal.specs.Header.{absent, pages_in, sector_of, size_of}
use Rattle.journal.specs.Records.{laid, carries, twice}
use Rattle.journal.specs.Recovery.{shown, missing, refused, done, copied, copied_output, restored, restored_output, recovery, output}
use Rattle.journal.specs.Recovered as D
use Rattle.journal.specs.Fields.{Fields, sizes_fit}
use Rattle.journal.specs.Marks.{marked, Scan, lay_all}
use Rattle.journal.proofs.MarkLaws.{Fit, laid-fit, marked-noted, clash-twice, lacks-missing}
use Rattle.journal.proofs.RestoreLaws.{restored-is}

-- what is answered and what the output holds
pub record Restored (j image out out' : List ℕ) (r : D.Recovered) : Type 0 where
  pub answer : r ≡ restored j image (length out)
  pub bytes : out' ≡ restored_output j image out

-- by the definitions: each test that refuses, and the end
module _ (j image out : List ℕ) where
  same_out : (r : D.Recovered) (number : ℕ) → r ≡ restored j image (length out) → r ≡ refused (suc number) → Restored j image out out r
  unfolding restored_output
  same_out r number e f = record { answer = e; bytes = rw (sym e ∙ f) (rw (eqb-suc-zero number) refl) }

  is-45 : (r : D.Recovered) → twice (laid j) ≡ true → r ≡ refused 45 → Restored j image out out r
  unfolding restored
  is-45 r t e = same_out r 44 (e ∙ simp t) e

  is-43 : (r : D.Recovered) → twice (laid j) ≡ false → missing j image (pages_in j) ≡ true → r ≡ refused 43 → Restored j image out out r
  unfolding restored
  is-43 r t m e = same_out r 42 (e ∙ simp (t, m)) e

  is-44 : (r : D.Recovered) → twice (laid j) ≡ false → missing j image (pages_in j) ≡ false → length out < pages_in j * size_of j
      → r ≡ refused 44 → Restored j image out out r
  unfolding restored
  is-44 r t m h e = same_out r 43 (e ∙ simp (t, m, lt-ltb _ _ h)) e

  is-done : (out₁ out₂ : List ℕ) (n size : ℕ) → n ≡ pages_in j → size ≡ size_of j → 0 < size → Fit j size n (laid j) → twice (laid j) ≡ false
      → missing j image (pages_in j) ≡ false
      → n * size ≤ length out → out₁ ≡ lay_image size n image out → out₂ ≡ lay_all j size out₁ (laid j) → Restored j image out out₂ (done n (n * size))
  unfolding restored restored_output
  is-done out₁ out₂ n size is-n is_size some fit t m room e₁ e₂ =
      let m' : missing j image n ≡ false = rw (← is-n) at m in
      let room' : pages_in j * size_of j ≤ length out = rw (is-n, is_size) at room in
      let all : out₂ ≡ join_pages (shown j image) n ++ drop (n * size) out =
      e₂ ∙ ap (λ (o : List ℕ). lay_all j size o (laid j)) e₁ ∙ restored-is j image out n size is-n is_size some fit t m' room in
      record { answer = simp (t, m, le-ltb _ _ room', is-n, is_size); bytes = all ∙ simp (t, m, le-ltb _ _ room', is-n, is_size) }

-- the ways out of `restore_in`: m₀ are the marks at first, m those after the scan, t its answer
module _ (j : List ℕ) (size sector n : ℕ) (f : Fields j size sector n) (m₀ : List ℕ) (clear : Clear m₀) (m : List ℕ) (t : Bool)
    (s : Scan n (laid j) m₀ m t) (image out : List ℕ) where
  scanned-twice : t ≡ twice (laid j)
  scanned-twice = s.clashes ∙ clash-twice m₀ clear (laid j)

  scanned-marks : t ≡ false → (p : ℕ) → 1 ≤ p → p ≤ n → marked m p ≡ carries (laid j) p
  scanned-marks e p a b = s.marks e p a b ∙ rw (clear.none (p - 1)) refl

  pub restore-45 : t ≡ true → Restored j image out out (refused 45)
  restore-45 h = is-45 j image out _ (sym scanned-twice ∙ h) refl

  -- m' are the marks with the lock-byte page's
  module _ (once : t ≡ false) (lock : ℕ) (is-lock : lock ≡ lock_page size) (m' : List ℕ) (noted : Noted n m lock m') (w : Bool)
      (is-w : w ≡ lacks m' (length image) size n) where
    scanned-missing : w ≡ missing j image (pages_in j)
    scanned-missing =
        is-w
        ∙ lacks-missing j image m' size n f.sizes.is_size
        (λ p a b. marked-noted n m m' lock p noted a b ∙ rw (scanned-marks once p a b, is-lock, eqb-turned (lock_page size) p) refl)
        n (omega arith)
        ∙ ap (missing j image) f.is_pages

    pub restore-43 : w ≡ true → Restored j image out out (refused 43)
    restore-43 h = is-43 j image out _ (sym scanned-twice ∙ once) (sym scanned-missing ∙ h) refl

    module _ (whole : w ≡ false) where
      pub restore-44 : length out < n * size → Restored j image out out (refused 44)
      restore-44 h =
          is-44 j image out _ (sym scanned-twice ∙ once) (sym scanned-missing ∙ whole) (rw (f.is_pages, f.sizes.is_size) at h) refl

      pub restore-done : (out₁ out₂ : List ℕ) → n * size ≤ length out → out₁ ≡ lay_image size n image out → out₂ ≡ lay_all j size out₁ (laid j)
          → Restored j image out out₂ (done n (n * size))
      restore-done out₁ out₂ room e₁ e₂ =
          is-done j image out out₁ out₂ n size f.is_pages f.sizes.is_size (omega (arith, f.sizes.least))
          (laid-fit j size n f.sizes.is_size f.is_pages)
          (sym scanned-twice ∙ once) (sym scanned-missing ∙ whole) room e₁ e₂

-- the ways out of `copy_image`
module _ (j image out : List ℕ) where
  pub copy-44 : length out < length image → (refused 44 ≡ copied image (length out)) × (out ≡ copied_output image out)
  unfolding copied copied_output
  copy-44 h = (simp (lt-ltb _ _ h), simp (lt-ltb _ _ h))

  pub copy_done : (out' : List ℕ) → length image ≤ length out → out' ≡ over out 0 image
      → (done 0 (length image) ≡ copied image (length out)) × (out' ≡ copied_output image out)
  unfolding copied copied_output
  copy_done out' h e = (simp (le-ltb _ _ h), e ∙ simp (le-ltb _ _ h))

-- both sizes fit
pub both-fit : (j : List ℕ) → sizes_fit j ≡ true → (size_fits (size_of j) ≡ true) × (size_fits (sector_of j) ≡ true)
both-fit j h = go (size_fits (size_of j)) (size_fits (sector_of j)) h
  where
    go : (a b : Bool) → cond a b false ≡ true → (a ≡ true) × (b ≡ true)
    go true b h = (refl, h)
    go false b h = absurd (let z : ◌≡◌ {A = ℕ} 0 1 = cc in omega arith)

-- what `new` reads
pub has-fields : (j : List ℕ) (size sector n : ℕ) → size ≡ size_of j → size_fits size ≡ true → sector ≡ sector_of j → size_fits sector ≡ true
    → n ≡ pages_in j → Fields j size sector n
has-fields j size sector n es a ec b en =
    let p = fits-range size a in
    let q = fits-range sector b in
    record { sizes = record { is_size = es; is_sector = ec; least = p.0; most = p.1; sector_least = q.0; sector_most = q.1 }; is_pages = en }

-- the answers of `recover`
module _ (j image out : List ℕ) where
  pub record Recovery (out' : List ℕ) (r : D.Recovered) : Type 0 where
    pub answer : r ≡ recovery j image (length out)
    pub bytes : out' ≡ output j image out

  pub recover-copied : (out' : List ℕ) (r : D.Recovered) → absent j ≡ true → r ≡ copied image (length out)
      → out' ≡ copied_output image out → Recovery out' r
  unfolding recovery output copied_output
  recover-copied out' r a e f = record { answer = e ∙ simp a; bytes = f ∙ simp a }

  refuses : (r : D.Recovered) (number : ℕ) → r ≡ recovery j image (length out) → r ≡ refused (suc number) → Recovery out r
  unfolding output
  refuses r number e f = record { answer = e; bytes = rw (sym e ∙ f) (rw (eqb-suc-zero number) refl) }

  module _ (there : absent j ≡ false) where
    pub recover-41 : (r : D.Recovered) → sizes_fit j ≡ false → r ≡ refused 41 → Recovery out r
    unfolding recovery
    recover-41 r s e =
        let is : refused 41 ≡ recovery j image (length out) =
        ⊎_elim
        (λ (y : size_fits (size_of j) ≡ true).
        let z : size_fits (sector_of j) ≡ false = simp y at s in
        simp (there, y, z))
        (λ (n : size_fits (size_of j) ≡ false). simp (there, n))
        (true-or-false (size_fits (size_of j))) in
        refuses r 40 (e ∙ is) e

    module _ (fit : sizes_fit j ≡ true) where
      fits : (size_fits (size_of j) ≡ true) × (size_fits (sector_of j) ≡ true)
      fits = both-fit j fit

      pub recover-42 : (r : D.Recovered) → page_limit < pages_in j → r ≡ refused 42 → Recovery out r
      unfolding recovery
      recover-42 r h e = refuses r 41 (e ∙ simp (there, fits.0, fits.1, lt-ltb _ _ h)) e

      pub recover-restored : (out' : List ℕ) (r : D.Recovered) → pages_in j ≤ page_limit → r ≡ restored j image (length out)
          → out' ≡ restored_output j image out → Recovery out' r
      unfolding recovery output restored_output
      recover-restored out' r h e f =
          record { answer = e ∙ simp (there, fits.0, fits.1, le-ltb _ _ h); bytes = f ∙ simp (there, fits.0, fits.1, le-ltb _ _ h) }

-- what a header that is there has
pub there-28 : (j : List ℕ) → absent j ≡ false → 28 ≤ length j
unfolding absent
there-28 j h =
    ⊎_elim
    (λ (l : length j < 28). absurd (let z : ◌≡◌ {A = Bool} true false = simp (lt-ltb _ _ l) at h in let y : ◌≡◌ {A = ℕ} 0 1 = cc in omega arith))
    (λ (l : 28 ≤ length j). l)
    (lt-or-ge (length j) 28)
