-- The check of a tree page in its place.
use Prim.Native.Nat.{ℕ}
use mathlib.Core.Path.{◌≡◌, refl, sym, ap, ◌∙◌}
use mathlib.Core.Bool.{Bool, true, false, cond}
use mathlib.Core.List.{List}
use lib.Dec.{eqb}
use native.Mathlib.Omega.{arith}
use borrow.Author.Tests.{eqb-true, eqb-false}
use Rattle.header.specs.declared.Header.{Header}
use Rattle.page.specs.declared.Place as P
use Rattle.page.specs.Checked as C
use Rattle.page.specs.Place.{allowed}
use Rattle.page.specs.Header.{page_type, cell_count, right_pointer}
use Rattle.page.specs.Fault.{checked_of}
use Rattle.dealing.specs.File.{File, Place, suits}
use Rattle.dealing.specs.Walk.{fault_in}
use Rattle.image.specs.Pages.{page_in, head_of}
use Rattle.image.specs.Image.{file_of}
use Rattle.image.specs.Ready.{Opened}
use Rattle.image.proofs.Shape.{shape}
use Rattle.image.proofs.Faults.{fault-same}
use Rattle.tree.specs.Spots.{Tests}

-- no refusal: the page is sound
pub fault-none : (f : File) (place : Place) (p : ℕ) → fault_in f place p ≡ 0 → f.broken p ≡ 0
unfolding fault_in
fault-none f place p e = go (suits place (f.type p)) e
  where
    go : (b : Bool) → cond b (f.broken p) 22 ≡ 0 → f.broken p ≡ 0
    go true e = e
    go false e = absurd (omega arith)

module _ {b : List ℕ} {h : Header} (p : ℕ) (x : P.Place) (place : Place) (o : Opened b h) (same : (t : ℕ) → allowed x t ≡ suits place t)
    (r : C.Checked) (e : r ≡ checked_of x (page_in b p) h.usable (head_of p)) where
  fault : ℕ
  fault = fault_in (file_of b) place p

  -- the page as it is answered where it has no refusal, else the refusal
  abbrev read : C.Checked
  read = C.Page (page_type (page_in b p) (head_of p)) (cell_count (page_in b p) (head_of p)) (right_pointer (page_in b p) (head_of p))

  answered : r ≡ cond (eqb fault 0) read (C.Refused fault)
  unfolding fault
  answered = e ∙ ap (λ u. checked_of x (page_in b p) u (head_of p)) (shape o).usable_is
      ∙ ap (λ n. cond (eqb n 0) read (C.Refused n)) (fault-same b p x place same)

  pub tests-refused : (n : ℕ) → r ≡ C.Refused n → Tests (file_of b) place p (record { fault = n; kind = 0; cells = 0; right = 0 })
  unfolding fault
  tests-refused n k = go (eqb fault 0) refl
    where
      go : (t : Bool) → eqb fault 0 ≡ t → Tests (file_of b) place p (record { fault = n; kind = 0; cells = 0; right = 0 })
      go true z = absurd (let w : r ≡ C.Page _ _ _ = rw z at answered in let y : ◌≡◌ {A = ℕ} 0 1 = cc in omega arith)
      go false z =
          let w : r ≡ C.Refused fault = rw z at answered in
          let i : n ≡ fault = cc in
          let no : n ≡ 0 → ⊥ = λ y. eqb-false fault 0 z (sym i ∙ y) in
          record { fault_is = i; kind_is = λ y. absurd (no y); cells_is = λ y. absurd (no y); right_is = λ y. absurd (no y) }

  pub tests-page : (kind cells right : ℕ) → r ≡ C.Page kind cells right
      → Tests (file_of b) place p (record { fault = 0; kind = kind; cells = cells; right = right })
  unfolding fault file_of
  tests-page kind cells right k = go (eqb fault 0) refl
    where
      go : (t : Bool) → eqb fault 0 ≡ t → Tests (file_of b) place p (record { fault = 0; kind = kind; cells = cells; right = right })
      go true z =
          let w : r ≡ C.Page (page_type (page_in b p) (head_of p)) (cell_count (page_in b p) (head_of p)) (right_pointer (page_in b p) (head_of p)) = rw z at answered in
          record { fault_is = sym (eqb-true fault 0 z); kind_is = λ y. cc; cells_is = λ y. cc; right_is = λ y. cc }
      go false z = absurd (let w : r ≡ C.Refused fault = rw z at answered in let y : ◌≡◌ {A = ℕ} 0 1 = cc in omega arith)
