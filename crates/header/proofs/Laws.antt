-- What callers cite of the header: what a passed check gives, and where the pages lie.
use Prim.Native.Nat.{ℕ, zero, suc, ◌+◌, ◌-◌, ◌*◌, ◌/◌, ◌%◌, ◌^◌, ◌<◌, ◌≤◌}
use mathlib.Core.Path.{◌≡◌, refl, sym, ap, ◌∙◌}
use mathlib.Core.Bool.{Bool, true, false, cond, not, ◌&&◌}
use mathlib.Core.Logic.{◌⊎◌, inl, inr, ⊎_elim}
use mathlib.Core.List.{List, [], ◌∷◌}
use lib.Dec.{eqb, ltb}
use lib.ListN.{length, length-take, length-drop}
use native.Mathlib.Nat.{suc-mul, zero-mul, div-add-mod', mul-le-mul_right}
use native.Mathlib.Omega.{arith}
use borrow.Author.Tests.{eq-eqb, ne_eqb, lt-ltb, le-ltb, ltb-false, eqb-true, eqb-false, not-false}
use lib.Pow.{pow_mono}
use Rattle.number.specs.Bytes.{byte_at, be}
use Rattle.header.specs.Header.{magic, holds, bad_version, page_limit, size_for, size_of, present_of, counted, pages_of, usable_of, form_refusal, late_refusal, count_refusal, field_refusal, header_refusal, size_refusal, form_in, pages_in, Header, header_in, header_of, page_of, Within}
use Rattle.std.specs.Prelude.{Result, Ok, Err}
use Rattle.header.specs.Pages.{Pages}
use Rattle.header.specs.Told.{told_number, told_pages, told}
use Rattle.header.specs.declared.Pages as P
use Rattle.header.specs.declared.Header as H
use Rattle.refusal.specs.declared.Rule.{Rule}
use Rattle.refusal.specs.Rule.{number_of}
use Rattle.refusal.proofs.Laws.{number-some}

-- a refusal's number is not 0, so 0 shows that its test failed
passed : (b : Bool) (n x : ℕ) → 1 ≤ n → cond b n x ≡ 0 → (b ≡ false) × (x ≡ 0)
passed true n x h e = absurd (omega arith)
passed false n x h e = (refl, e)

-- the sizes of pages: powers of two
abbrev pub Size : ℕ → Type 0
Size x = (k : ℕ) × (9 ≤ k) × (k ≤ 16) × (x ≡ 2 ^ k)

size-of-cond : (b : Bool) (k y : ℕ) → 9 ≤ k → k ≤ 16 → (y ≡ 0) ⊎ Size y → (cond b (2 ^ k) y ≡ 0) ⊎ Size (cond b (2 ^ k) y)
size-of-cond true k y h l s = inr (k, h, l, refl)
size-of-cond false k y h l s = s

size-cases : (x : ℕ) → (size_for x ≡ 0) ⊎ Size (size_for x)
unfolding size_for
size-cases x =
    size-of-cond (eqb x 1) 16 _ (omega arith) (omega arith)
    (size-of-cond (eqb x 512) 9 _ (omega arith) (omega arith)
    (size-of-cond (eqb x 1024) 10 _ (omega arith) (omega arith)
    (size-of-cond (eqb x 2048) 11 _ (omega arith) (omega arith)
    (size-of-cond (eqb x 4096) 12 _ (omega arith) (omega arith)
    (size-of-cond (eqb x 8192) 13 _ (omega arith) (omega arith)
    (size-of-cond (eqb x 16384) 14 _ (omega arith) (omega arith) (size-of-cond (eqb x 32768) 15 _ (omega arith) (omega arith) (inl refl))))))))

power-range : (k : ℕ) → 9 ≤ k → k ≤ 16 → (512 ≤ 2 ^ k) × (2 ^ k ≤ 65536)
power-range k l h = (pow_mono l, pow_mono h)

-- refusals 1 to 4 passed
pub record Formed (b : List ℕ) (size present : ℕ) : Type 0 where
  pub passes : form_refusal b ≡ 0
  pub size_is : size ≡ size_of b
  pub present-is : present ≡ present_of b

-- what they give
pub record Cut (b : List ℕ) (size present : ℕ) : Type 0 where
  pub power : Size size
  pub least : 512 ≤ size
  pub most : size ≤ 65536
  pub some : 1 ≤ present
  pub whole : present * size ≡ length b
  pub long : 512 ≤ length b

some-pages : (n size len : ℕ) → 512 ≤ len → n * size ≡ len → 1 ≤ n
some-pages zero size len l e = absurd (let z = zero-mul size in omega arith)
some-pages (suc n) size len l e = omega arith

cut_of : (b : List ℕ) → form_refusal b ≡ 0 → Cut b (size_of b) (present_of b)
unfolding form_refusal present_of
cut_of b e =
    let t1 = passed (ltb (length b) 512) 1 _ (omega arith) e in
    let t2 = passed (not (holds b 0 magic)) 2 _ (omega arith) t1.1 in
    let t3 = passed (eqb (size_of b) 0) 3 _ (omega arith) t2.1 in
    let t4 = passed (not (eqb (length b % size_of b) 0)) 4 _ (omega arith) t3.1 in
    let whole : length b / size_of b * size_of b ≡ length b =
    (let d = div-add-mod' (length b) (size_of b) in let z : length b % size_of b ≡ 0 = eqb-true _ 0 (not-false _ t4.0) in omega arith) in
    ⊎_elim (λ (z : size_of b ≡ 0). absurd (eqb-false _ 0 t3.0 z))
    (λ (w : Size (size_of b)). let r = power-range w.0 w.1 w.2 in
    let q = w.3 in
    let l : 512 ≤ length b = ltb-false _ _ t1.0 in record {
      power = w;
      least = rw q r.0;
      most = rw q r.1;
      some = some-pages _ _ (length b) l whole;
      whole = whole;
      long = l;
    })
    (unfold size_of in size-cases (be 2 b 16))

pub formed-cut : {b : List ℕ} {size present : ℕ} → Formed b size present → Cut b size present
formed-cut {b} {size} {present} s = rw (s.size_is, s.present-is) (cut_of b s.passes)

-- the answer of the check of 1 to 4
pub form-number : (b : List ℕ) → (form_in b).refusal ≡ form_refusal b
unfolding form_in
form-number b = by (eqb (form_refusal b) 0) refl
  where
    by : (t : Bool) → eqb (form_refusal b) 0 ≡ t
        → (cond {A = Pages} t (record { refusal = 0; size = size_of b; pages = present_of b }) (record { refusal = form_refusal b; size = 0; pages = 0 })).refusal
        ≡ form_refusal b
    by true h = sym (eqb-true _ 0 h)
    by false h = refl

pub form-refused : (b : List ℕ) (r : Rule) → told_pages (Err r) ≡ form_in b → number_of r ≡ form_refusal b
form-refused b r e = ap (λ (x : Pages). x.refusal) e ∙ form-number b

pub form-passed : (b : List ℕ) (p : P.Pages) → told_pages (Ok p) ≡ form_in b → Formed b p.size p.pages
unfolding form_in
form-passed b p e =
    let z : form_refusal b ≡ 0 = sym (ap (λ (x : Pages). x.refusal) e ∙ form-number b) in
    let k = simp (eq-eqb _ 0 z) at e in
    record { passes = z; size_is = ap (λ (x : Pages). x.size) k; present-is = ap (λ (x : Pages). x.pages) k }

-- how it is made
pub refused-form : (b : List ℕ) (r : Rule) → number_of r ≡ form_refusal b → told_pages (Err r) ≡ form_in b
unfolding form_in
refused-form b r e = rw (← e) (simp (ne_eqb (number_of r) 0 (number-some r)))

pub passed-form : (b : List ℕ) (size present : ℕ) → size ≡ size_of b → present ≡ present_of b → 0 ≡ form_refusal b
    → record { refusal = 0; size = size; pages = present } ≡ form_in b
unfolding form_in
passed-form b size present e f z = rw (← z, e, f)

-- An image that recovery shows alone.

-- refusals 1 to 4, then 5 over the pages present, passed
pub record Sized (b : List ℕ) (size pages : ℕ) : Type 0 where
  pub passes : size_refusal b ≡ 0
  pub size_is : size ≡ size_of b
  pub pages-is : pages ≡ present_of b

-- what they give
pub record Paged (b : List ℕ) (size pages : ℕ) : Type 0 where
  pub power : Size size
  pub least : 512 ≤ size
  pub most : size ≤ 65536
  pub some : 1 ≤ pages
  pub few : pages ≤ page_limit
  pub whole : pages * size ≡ length b
  pub long : 512 ≤ length b

paged-of : (b : List ℕ) → size_refusal b ≡ 0 → Paged b (size_of b) (present_of b)
unfolding size_refusal
paged-of b e = by (eqb (form_refusal b) 0) refl e
  where
    by : (t : Bool) → eqb (form_refusal b) 0 ≡ t → cond t (cond (ltb page_limit (present_of b)) 5 0) (form_refusal b) ≡ 0 → Paged b (size_of b) (present_of b)
    by true h k =
        let g = cut_of b (eqb-true _ 0 h) in
        let t5 = passed (ltb page_limit (present_of b)) 5 _ (omega arith) k in
        record { power = g.power; least = g.least; most = g.most; some = g.some; few = ltb-false _ _ t5.0; whole = g.whole; long = g.long }
    by false h k = absurd (eqb-false _ 0 h k)

pub sized-paged : {b : List ℕ} {size pages : ℕ} → Sized b size pages → Paged b size pages
sized-paged {b} {size} {pages} s = rw (s.size_is, s.pages-is) (paged-of b s.passes)

pub pages-passed : (b : List ℕ) (r : Pages) → r ≡ pages_in b → r.refusal ≡ 0 → Sized b r.size r.pages
unfolding pages_in
pages-passed b r e n = by (eqb (size_refusal b) 0) refl
  where
    by : (t : Bool) → eqb (size_refusal b) 0 ≡ t → Sized b r.size r.pages
    by true h = record { passes = eqb-true _ 0 h; size_is = ap (λ (x : Pages). x.size) (rw h at e); pages-is = ap (λ (x : Pages). x.pages) (rw h at e) }
    by false h = absurd (eqb-false _ 0 h (sym (ap (λ (x : Pages). x.refusal) (rw h at e)) ∙ n))

-- how its answer is made from that of the check of 1 to 4
pub refused-alone : (b : List ℕ) (r : Rule) → told_pages (Err r) ≡ form_in b → told_pages (Err r) ≡ pages_in b
unfolding size_refusal pages_in
refused-alone b r e = let k = form-refused b r e in rw (← k) (simp (ne_eqb (number_of r) 0 (number-some r)))

module _ (b : List ℕ) (p : P.Pages) (e : told_pages (Ok p) ≡ form_in b) where
  f : Formed b p.size p.pages
  f = form-passed b p e

  pub alone-5 : page_limit < p.pages → record { refusal = 5; size = 0; pages = 0 } ≡ pages_in b
  unfolding size_refusal pages_in
  alone-5 h = rw (← f.present-is) (simp (eq-eqb _ 0 f.passes, lt-ltb _ _ h))

  pub alone-passed : p.pages ≤ page_limit → told_pages (Ok p) ≡ pages_in b
  unfolding form_in size_refusal pages_in
  alone-passed h = e ∙ simp (eq-eqb _ 0 f.passes, le-ltb _ _ (rw f.present-is at h))

-- refusals 1 to 11 passed
pub record Headed (b : List ℕ) (size usable pages : ℕ) : Type 0 where
  pub passes : header_refusal b ≡ 0
  pub formed : form_refusal b ≡ 0
  pub size_is : size ≡ size_of b
  pub usable_is : usable ≡ usable_of b
  pub pages-is : pages ≡ pages_of b

-- what they give
pub record Numbered (b : List ℕ) (size usable pages : ℕ) : Type 0 where
  pub least : 512 ≤ size
  pub most : size ≤ 65536
  pub used : 480 ≤ usable
  pub inside : usable ≤ size
  pub some : 1 ≤ pages
  pub few : pages ≤ page_limit
  pub within : pages * size ≤ length b
  pub long : 512 ≤ length b

-- N is at least 1, by the count or by the pages present
some-counted : (b : List ℕ) → 1 ≤ present_of b → 1 ≤ pages_of b
unfolding counted pages_of
some-counted b h = by (eqb (be 4 b 28) 0) refl
  where
    last : (t : Bool) → (be 4 b 28 ≡ 0 → ⊥) → 1 ≤ cond t (be 4 b 28) (present_of b)
    last true n = omega arith
    last false n = h

    by : (t : Bool) → eqb (be 4 b 28) 0 ≡ t → 1 ≤ cond (not t && eqb (be 4 b 24) (be 4 b 92)) (be 4 b 28) (present_of b)
    by true k = h
    by false k = last (eqb (be 4 b 24) (be 4 b 92)) (eqb-false _ 0 k)

numbered_of : (b : List ℕ) → header_refusal b ≡ 0 → form_refusal b ≡ 0 → Numbered b (size_of b) (usable_of b) (pages_of b)
unfolding header_refusal field_refusal usable_of
numbered_of b h f =
    let g = cut_of b f in
    let t0 = simp (eq-eqb (form_refusal b) 0 f) at h in
    let t6 = passed (ltb (size_of b - byte_at b 20) 480) 6 _ (omega arith) t0 in
    let t7 = passed (not (holds b 21 (64 ∷ 32 ∷ 32 ∷ []))) 7 _ (omega arith) t6.1 in
    let t8 = passed (bad_version (byte_at b 19)) 8 (count_refusal b) (omega arith) t7.1 in
    let t9 = passed (ltb (present_of b) (pages_of b)) 9 _ (omega arith) t8.1 in
    let t5 = passed (ltb page_limit (pages_of b)) 5 (late_refusal b) (omega arith) t9.1 in
    let l : 480 ≤ size_of b - byte_at b 20 = ltb-false _ _ t6.0 in
    let m : pages_of b * size_of b ≤ present_of b * size_of b = mul-le-mul_right (size_of b) (ltb-false _ _ t9.0) in
    let w = g.whole in
    record {
      least = g.least;
      most = g.most;
      used = l;
      inside = omega arith;
      some = some-counted b g.some;
      few = ltb-false _ _ t5.0;
      within = omega arith;
      long = g.long;
    }

pub headed-numbered : {b : List ℕ} {size usable pages : ℕ} → Headed b size usable pages → Numbered b size usable pages
headed-numbered {b} {size} {usable} {pages} h = rw (h.size_is, h.usable_is, h.pages-is) (numbered_of b h.passes h.formed)

-- a page of 1 to N lies within the image
pub page-within : {b : List ℕ} {size usable pages : ℕ} (p : ℕ) → Numbered b size usable pages → 1 ≤ p → p ≤ pages → Within b size p
page-within {b} {size} {usable} {pages} p g l h =
    record { low = l; inside = let e = g.within in let m : p * size ≤ pages * size = mul-le-mul_right size h in omega arith }

module _ (b : List ℕ) (r : Header) (e : r ≡ header_in b) where
  pub header_refused : (r.refusal ≡ 0 → ⊥) → r.refusal ≡ header_refusal b
  unfolding header_in
  header_refused n = by (eqb (header_refusal b) 0) refl
    where
      by : (t : Bool) → eqb (header_refusal b) 0 ≡ t → r.refusal ≡ header_refusal b
      by true h = absurd (n (ap (λ (x : Header). x.refusal) (rw h at e)))
      by false h = ap (λ (x : Header). x.refusal) (rw h at e)

  pub header-passed : r.refusal ≡ 0 → Headed b r.size r.usable r.pages
  unfolding header_in header_refusal
  header-passed n = by (eqb (header_refusal b) 0) refl
    where
      form-passes : (t : Bool) → eqb (form_refusal b) 0 ≡ t → header_refusal b ≡ 0 → form_refusal b ≡ 0
      form-passes true k h = eqb-true _ 0 k
      form-passes false k h = simp k at h

      by : (t : Bool) → eqb (header_refusal b) 0 ≡ t → Headed b r.size r.usable r.pages
      by true h = record {
        passes = eqb-true _ 0 h;
        formed = form-passes (eqb (form_refusal b) 0) refl (eqb-true _ 0 h);
        size_is = ap (λ (x : Header). x.size) (rw h at e);
        usable_is = ap (λ (x : Header). x.usable) (rw h at e);
        pages-is = ap (λ (x : Header). x.pages) (rw h at e);
      }
      by false h = absurd (eqb-false _ 0 h (sym (ap (λ (x : Header). x.refusal) (rw h at e)) ∙ n))

-- an image that passes
pub headed : (b : List ℕ) → header_refusal b ≡ 0 → Headed b (size_of b) (usable_of b) (pages_of b)
unfolding header_in
headed b z = header-passed b (record { refusal = 0; size = size_of b; usable = usable_of b; pages = pages_of b }) (simp (eq-eqb _ 0 z)) refl

-- what the code's check answers
module _ (b : List ℕ) where
  pub header-number : (header_in b).refusal ≡ header_refusal b
  unfolding header_in
  header-number = by (eqb (header_refusal b) 0) refl
    where
      by : (t : Bool) → eqb (header_refusal b) 0 ≡ t
          → (cond {A = Header} t (record { refusal = 0; size = size_of b; usable = usable_of b; pages = pages_of b })
          (record { refusal = header_refusal b; size = 0; usable = 0; pages = 0 })).refusal ≡ header_refusal b
      by true h = sym (eqb-true _ 0 h)
      by false h = refl

  module _ (r : Rule) (e : told (Err r) ≡ header_in b) where
    pub told-number : number_of r ≡ header_refusal b
    told-number = ap (λ (x : Header). x.refusal) e ∙ header-number

    pub told-stops : eqb (header_refusal b) 0 ≡ false
    told-stops = ne_eqb (header_refusal b) 0 (λ z. number-some r (told-number ∙ z))

  module _ (h : H.Header) (e : told (Ok h) ≡ header_in b) where
    pub told-passes : header_refusal b ≡ 0
    told-passes = sym (ap (λ (x : Header). x.refusal) e ∙ header-number)

    pub told-is : h ≡ header_of b
    told-is =
        let d = header-passed b (told (Ok h)) e refl in
        let u = d.size_is in
        let v = d.usable_is in
        let w = d.pages-is in rw (← u, ← v, ← w) refl

  -- how it is made
  pub refused-early : (r : Rule) → number_of r ≡ form_refusal b → told (Err r) ≡ header_in b
  unfolding header_in header_refusal
  refused-early r e = rw (← e) (simp (ne_eqb (number_of r) 0 (number-some r)))

  pub refused-late : (r : Rule) → form_refusal b ≡ 0 → number_of r ≡ field_refusal b → told (Err r) ≡ header_in b
  unfolding header_in header_refusal
  refused-late r z e = rw (← e) (simp (eq-eqb (form_refusal b) 0 z, ne_eqb (number_of r) 0 (number-some r)))

  pub passed-header : (size usable pages : ℕ) → form_refusal b ≡ 0 → size ≡ size_of b → usable ≡ usable_of b → pages ≡ pages_of b → 0 ≡ field_refusal b
      → record { refusal = 0; size = size; usable = usable; pages = pages } ≡ header_in b
  unfolding header_in header_refusal
  passed-header size usable pages f s u p z = rw (← z, s, p, u) (simp (eq-eqb (form_refusal b) 0 f))

-- a page ends where the next one begins
pub page-end : (size p : ℕ) → 1 ≤ p → (p - 1) * size + size ≡ p * size
page-end size p h = let e : p ≡ suc (p - 1) = omega arith in sym (suc-mul (p - 1) size) ∙ ap (λ q. q * size) (sym e)

module _ (b : List ℕ) (size p : ℕ) (w : Within b size p) where
  pub page-length : length (page_of b size p) ≡ size
  unfolding page_of
  page-length = let e = page-end size p w.low in let l = w.inside in simp (length-take, length-drop) (omega arith)
