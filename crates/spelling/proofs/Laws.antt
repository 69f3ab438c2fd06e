-- The loops of the count, and each way out of a cell.
use Prim.Native.Nat.{ℕ, zero, suc, ◌+◌, ◌-◌, ◌*◌, ◌≤◌, ◌<◌}
use mathlib.Core.Path.{◌≡◌, refl, sym, ap, ◌∙◌, subst}
use mathlib.Core.Bool.{Bool, true, false, cond}
use mathlib.Core.List.{List}
use native.Mathlib.Omega.{arith}
use lib.ListN.{length, get_or}
use lib.Dec.{eqb}
use borrow.Author.Tests.{eqb-true}
use Rattle.header.specs.declared.Header.{Header}
use Rattle.header.specs.Header.{usable_of}
use Rattle.cell.specs.Cell.{child_width, cell_at}
use Rattle.cell.proofs.CellLaws.{CellRead, cell-read}
use Rattle.page.specs.Header.{page_type, cell_count, array_end, pointer, cell_of}
use Rattle.page.specs.Fault.{sound_fault}
use Rattle.page.proofs.PageLaws.{Checks}
use Rattle.dealing.specs.File as F
use Rattle.dealing.specs.Spelling.{is_tree, long_cells, long_on, long_to, long_by}
use Rattle.image.specs.Pages.{page_in, head_of, cell_in}
use Rattle.image.specs.Image.{file_of}
use Rattle.image.specs.Ready.{PageAt}
use Rattle.image.proofs.Shape.{shape}
use Rattle.image.proofs.Fields.{cell_field, count-field, broken-field}
use Rattle.image.proofs.Tree.{checks, cell-reads}
use Rattle.dealing.proofs.Spelled.{long-most, cells-most}
use Rattle.number.specs.Bytes.{be}
use Rattle.number.proofs.Cases.{by_cond}
use Rattle.spelling.specs.Count.{Read, Trees, Short, is_open, page_long}

-- a cell that was read lies below u, takes 4 bytes at least, and counts 2 at most
pub lies : {p : List ℕ} {u type at : ℕ} → Read p u type at → CellRead p u type at (cell_at p u type at)
lies {p} {u} {type} {at} r = cell-read p u type at r.least r.reads

pub inside : {p : List ℕ} {u type at : ℕ} → Read p u type at → (at + 4 ≤ u) × (u ≤ 65536) × (u ≤ length p)
inside r = let l = lies r in omega (arith, l.least, l.within, r.most, r.within)

pub long-few : {p : List ℕ} {u type at x : ℕ} → Read p u type at → x ≡ (cell_at p u type at).long → (x ≡ (cell_at p u type at).long) × (x ≤ 2)
long-few r e = (e, omega (arith, e, (lies r).long-bound))

-- the ith cell of a sound page, whose pointer stands w bytes past the header's end
module _ {p : List ℕ} {u head i at w : ℕ} (k : Checks p u head) (l : i < cell_count p head) (is-w : w ≡ child_width (page_type p head)) (is_at : at ≡ be 2 p (head + 8 + w + 2 * i)) where
  pub pointer_is : at ≡ pointer p head i
  pointer_is = is_at ∙ ap (λ (x : ℕ). be 2 p (head + 8 + x + 2 * i)) is-w

  pub pointer-reads : 480 ≤ u → u ≤ 65536 → u ≤ length p → Read p u (page_type p head) at
  pointer-reads least most within =
      record { least = least; most = most; within = within; reads = ap (λ (x : ℕ). (cell_at p u (page_type p head) x).fault) pointer_is ∙ (k.read i l).no-fault }

  pub pointer-long : {x : ℕ} → x ≡ (cell_at p u (page_type p head) at).long → x ≡ (cell_of p u head i).long
  pointer-long e = e ∙ ap (λ (y : ℕ). (cell_at p u (page_type p head) y).long) pointer_is

-- a page's cells, counted to i
pub record Counting (p : List ℕ) (u head i total : ℕ) : Type 0 where
  pub within : i ≤ cell_count p head
  pub is : total ≡ page_long p u head i
  pub small : total ≤ 2 * i

pub counting-starts : (p : List ℕ) (u head : ℕ) → Counting p u head 0 0
unfolding page_long
counting-starts p u head = record { within = omega arith; is = refl; small = omega arith }

pub counting-on : (p : List ℕ) (u head i total x : ℕ) → Counting p u head i total → i < cell_count p head → x ≡ (cell_of p u head i).long → x ≤ 2
    → Counting p u head (i + 1) (total + x)
unfolding page_long
counting-on p u head i total x c l e s =
    record {
      within = omega arith;
      is = let n : i + 1 ≡ suc i = omega arith in ap (λ (t : ℕ). t + x) c.is ∙ ap (λ (y : ℕ). page_long p u head i + y) e ∙ ap (page_long p u head) (sym n);
      small = omega (arith, c.small);
    }

pub counting-ends : {p : List ℕ} {u head i total : ℕ} (n : ℕ) → Counting p u head i total → n ≡ cell_count p head → n ≤ i → array_end p head ≤ u → u ≤ 65536
    → (total ≡ page_long p u head (cell_count p head)) × (total ≤ 65536)
counting-ends {p} {u} {head} {i} {total} n c e l a m =
    let s : i ≡ cell_count p head = omega (arith, c.within) in
    (c.is ∙ ap (page_long p u head) s, omega (arith, c.small))

-- the file's count of a page is the page's own
pub page-count : (b : List ℕ) (p n : ℕ) → page_long (page_in b p) (usable_of b) (head_of p) n ≡ long_cells (file_of b) p n
unfolding page_long long_cells file_of cell_in
page-count b p zero = refl
page-count b p (suc n) = ap (λ (x : ℕ). x + (cell_of (page_in b p) (usable_of b) (head_of p) n).long) (page-count b p n)

-- the page that is read is page p of the image
module _ (b : List ℕ) (p : ℕ) (q : List ℕ) (u head : ℕ) (is-q : q ≡ page_in b p) (is-u : u ≡ usable_of b) (is-head : head ≡ head_of p) where
  pub tree-sound : (file_of b).broken p ≡ 0 → sound_fault q u head ≡ 0
  tree-sound z = rw (is-q, is-u, is-head) (sym (broken-field b p) ∙ z)

  pub tree-counted : (x : ℕ) → x ≡ page_long q u head (cell_count q head) → x ≡ long_cells (file_of b) p ((file_of b).count p)
  tree-counted x e =
      e ∙ rw (is-q, is-u, is-head) (page-count b p (cell_count (page_in b p) (head_of p)) ∙ ap (long_cells (file_of b) p) (sym (count-field b p)))

-- the pages, counted to i
pub record Over (f : F.File) (ks : List ℕ) (i total : ℕ) : Type 0 where
  pub is : total ≡ long_to f (λ p. get_or ks (p - 1) 0) i
  pub small : total ≤ i * 65536

pub over-starts : (f : F.File) (ks : List ℕ) → Over f ks 0 0
unfolding long_to
over-starts f ks = record { is = refl; small = omega arith }

over-on : (f : F.File) (ks : List ℕ) (i total x : ℕ) → Over f ks i total → x ≡ long_on f (get_or ks i 0) (i + 1) → x ≤ 65536 → Over f ks (i + 1) (total + x)
unfolding long_to
over-on f ks i total x o e s =
    let n : i + 1 ≡ suc i = omega arith in
    let m : suc i - 1 ≡ i = omega arith in
    record {
      is = ap (λ (t : ℕ). t + x) o.is ∙ ap (λ (y : ℕ). long_to f (λ p. get_or ks (p - 1) 0) i + y) (e ∙ ap (long_on f (get_or ks i 0)) n ∙ ap (λ (j : ℕ). long_on f (get_or ks j 0) (suc i)) (sym m))
          ∙ ap (long_to f (λ p. get_or ks (p - 1) 0)) (sym n);
      small = omega (arith, o.small);
    }

pub over-ends : {f : F.File} {ks : List ℕ} {i total : ℕ} (n : ℕ) → Over f ks i total → f.N ≡ n → i ≤ n → n ≤ i → (total ≡ long_by f ks) × (total ≤ n * 65536)
over-ends {f} {ks} {i} n o e l m =
    let s : i ≡ f.N = omega arith in
    (o.is ∙ ap (long_to f (λ p. get_or ks (p - 1) 0)) s, omega (arith, o.small))

-- an open page is a tree page
pub open-tree : (k x : ℕ) → is_open k x ≡ true → is_tree k ≡ true
open-tree k x e = go (eqb x 1) e
  where
    go : (t : Bool) → cond t false (is_tree k) ≡ true → is_tree k ≡ true
    go true w = absurd (let y : ◌≡◌ {A = ℕ} 0 1 = cc in omega arith)
    go false w = w

-- on a page that is not open there is none
closed_none : (f : F.File) (k x p : ℕ) → is_open k x ≡ false → (x ≡ 1 → long_cells f p (f.count p) ≡ 0) → 0 ≡ long_on f k p
unfolding long_on
closed_none f k x p e z = go (eqb x 1) refl
  where
    none : long_cells f p (f.count p) ≡ 0 → (t : Bool) → 0 ≡ cond t (long_cells f p (f.count p)) 0
    none l true = sym l
    none l false = refl

    go : (t : Bool) → eqb x 1 ≡ t → 0 ≡ cond (is_tree k) (long_cells f p (f.count p)) 0
    go true w = none (z (eqb-true x 1 w)) (is_tree k)
    go false w = let n : is_tree k ≡ false = rw w at e in rw n refl

-- the count of an open page
open-counted : (f : F.File) (k x p n : ℕ) → is_open k x ≡ true → n ≡ long_cells f p (f.count p) → n ≡ long_on f k p
unfolding long_on
open-counted f k x p n e h = rw (open-tree k x e) h

-- a page passed, with what it has or with nothing
module _ {f : F.File} {ks short : List ℕ} {i total m : ℕ} (o : Over f ks i total) (s : Short f m short) where
  pub over_open : (x : ℕ) → is_open (get_or ks i 0) (get_or short i 0) ≡ true → x ≡ long_cells f (i + 1) (f.count (i + 1)) → x ≤ 65536
      → Over f ks (i + 1) (total + x)
  over_open x e h l = over-on f ks i total x o (open-counted f (get_or ks i 0) (get_or short i 0) (i + 1) x e h) l

  over_one : is_open (get_or ks i 0) (get_or short i 0) ≡ false → Over f ks (i + 1) total
  over_one e =
      let same : total + 0 ≡ total = omega arith in
      subst (Over f ks (i + 1)) same
      (over-on f ks i total 0 o (closed_none f (get_or ks i 0) (get_or short i 0) (i + 1) e (s.noted i)) (omega arith))

-- so the count goes on past pages that are not open
pub over_skip : {f : F.File} {ks short : List ℕ} {i r total m : ℕ} → Over f ks i total → Short f m short → i ≤ r
    → ((j : ℕ) → i ≤ j → j < r → is_open (get_or ks j 0) (get_or short j 0) ≡ false) → Over f ks r total
over_skip {f} {ks} {short} {i} {r} {total} {m} o s low passed = go (r - i) i (omega arith) (omega arith) o
  where
    go : (k j : ℕ) → j + k ≡ r → i ≤ j → Over f ks j total → Over f ks r total
    go zero j e l q = let h : j ≡ r = omega arith in subst (λ t. Over f ks t total) h q
    go (suc k) j e l q = go k (j + 1) (omega arith) (omega arith) (over_one q s (passed j l (omega arith)))

pub over_closed : {f : F.File} {ks short : List ℕ} {i total m : ℕ} → Over f ks i total → Short f m short
    → is_open (get_or ks i 0) (get_or short i 0) ≡ false → Over f ks (i + 1) total
over_closed {f} {ks} {short} {i} o s e =
    over_skip o s (omega arith)
    (λ j l h. let k : j ≡ i = omega arith in subst (λ (t : ℕ). is_open (get_or ks t 0) (get_or short t 0) ≡ false) (sym k) e)

-- how large it can be: 2 a cell, and a pointer takes 2 bytes
pub page-most : {b : List ℕ} {h : Header} {p : ℕ} → PageAt b h p → (file_of b).broken p ≡ 0 → long_cells (file_of b) p ((file_of b).count p) ≤ 65536
page-most {b} {h} {p} a z =
    let s = shape a.opened in
    let c = checks a z in
    let l = cells-most (file_of b) p ((file_of b).count p) (λ i k. omega (arith, ap (λ (x : F.Cell). x.long) (cell_field b p i), (cell-reads a z i k).long-bound)) in
    omega (arith, l, c.array, count-field b p, s.usable_is, s.inside, s.most)

pub counted-most : {b : List ℕ} {h : Header} {ks : List ℕ} → Trees b h ks → long_by (file_of b) ks ≤ h.pages * 65536
unfolding long_on
counted-most {b} {h} {ks} t =
    let s = shape t.opened in
    let n = s.N-is in
    omega (arith, n, long-most (file_of b) (λ p. get_or ks (p - 1) 0) 65536 (file_of b).N (λ p low high. one p low (omega arith)))
  where
    one : (p : ℕ) → 1 ≤ p → p ≤ h.pages → long_on (file_of b) (get_or ks (p - 1) 0) p ≤ 65536
    one p low high =
        by_cond (λ (n : ℕ). n ≤ 65536) (is_tree (get_or ks (p - 1) 0)) _ _
        (λ e. page-most (record { opened = t.opened; low = low; high = high }) (t.sound p low high e)) (λ e. omega arith)
