-- Pages by their place, and the entries about the others: each way out of the functions, over plain variables.
use mathlib.Core.Path.{◌≡◌, refl, sym, ap, subst, ◌∙◌}
use mathlib.Core.Bool.{Bool, true, false, cond}
use mathlib.Core.Logic.{◌≢◌}
use mathlib.Core.List.{List, ◌∷◌, ◌++◌, append-nil, []}
use Prim.Native.Nat.{ℕ, zero, suc, ◌+◌, ◌-◌, ◌*◌, ◌/◌, ◌%◌, ◌≤◌, ◌<◌}
use native.Mathlib.Nat.{mod-lt, mod-le}
use native.Mathlib.Omega.{arith}
use lib.Dec.{eqb}
use lib.ListN.{length, get_or, set, drop, length-append, drop_of_length-le}
use borrow.Author.Tests.{eq-eqb, ne_eqb, le-ltb}
use Rattle.number.specs.Bytes.{byte_at, be}
use Rattle.header.specs.declared.Header.{Header}
use Rattle.paging.specs.Pages.{lock_page}
use Rattle.header.specs.Header.{size_of, usable_of, page_of}
use Rattle.dealing.specs.File.{File, root_kind}
use Rattle.dealing.specs.Good.{type_for, number_for}
use Rattle.dealing.specs.Walk.{accepted, refusal, kind_at, kinds_to, agrees, entry_checks, largest_root, final, settle}
use Rattle.dealing.proofs.Parts.{Clean}
use Rattle.dealing.proofs.After.{checks-more, settle-unmapped, settle-31, settle-32, settle-mapped}
use Rattle.image.specs.Pages.{page_in}
use Rattle.image.specs.Maps.{vacuum_in, past_place, past_map, fixed_in}
use Rattle.image.specs.Image.{file_of}
use Rattle.image.specs.Ready.{Opened}
use Rattle.image.proofs.Fields.{vacuum-field, fixed-field, entry-type-field, entry-number-field}
use Rattle.image.proofs.Shape.{shape}

-- how far page p stands past its map: each way out of past_map
pub past-within : (u p : ℕ) → 2 ≤ p → ((p - 2) % (u / 5 + 1) ≤ u / 5) × ((p - 2) % (u / 5 + 1) + 2 ≤ p)
past-within u p h =
    let a : (p - 2) % (u / 5 + 1) < u / 5 + 1 = mod-lt (p - 2) (omega arith) in
    let b : (p - 2) % (u / 5 + 1) ≤ p - 2 = mod-le (p - 2) (u / 5 + 1) in
    (omega arith, omega arith)

module _ (size lock u p : ℕ) (el : lock ≡ lock_page size) (h : 2 ≤ p) (past : ℕ) (e : past ≡ (p - 2) % (u / 5 + 1)) where
  abbrev Past : ℕ → Type 0
  Past r = (r ≡ past_map size u p) × (r ≤ u / 5) × (r + 2 ≤ p)

  place_is : past_place u p ≡ past
  unfolding past_place
  place_is = sym e

  within : (past ≤ u / 5) × (past + 2 ≤ p)
  within = let w = past-within u p h in (omega (arith, e), omega (arith, e))

  none-less : (t : Bool) → 0 ≡ cond t (0 - 1) 0
  none-less true = refl
  none-less false = refl

  pub past-none : past ≡ 0 → Past past
  unfolding past_map
  past-none z = (rw (place_is, z) (none-less (eqb (p - 0) (lock_page size))), within.0, within.1)

  pub past-moved : p - past ≡ lock → Past (past - 1)
  unfolding past_map
  past-moved k = (rw (place_is, eq-eqb (p - past) (lock_page size) (k ∙ el)) refl, omega (arith, within.0), omega (arith, within.1))

  pub past-there : p - past ≢ lock → Past past
  unfolding past_map
  past-there k = (rw (place_is, ne_eqb (p - past) (lock_page size) (λ z. k (z ∙ sym el))) refl, within.0, within.1)

-- which pages have their kind by their place
module _ {b : List ℕ} {h : Header} (o : Opened b h) (lock p : ℕ) (el : lock ≡ lock_page h.size) where
  lock-is : lock ≡ lock_page (size_of b)
  lock-is = el ∙ ap lock_page (shape o).size_is

  fixed-lock : p ≡ lock → (file_of b).fixed p ≡ 2
  unfolding fixed_in
  fixed-lock k = fixed-field b p ∙ rw (eq-eqb p (lock_page (size_of b)) (k ∙ lock-is)) refl

  module _ (k : p ≢ lock) where
    no-lock : eqb p (lock_page (size_of b)) ≡ false
    no-lock = ne_eqb p (lock_page (size_of b)) (λ z. k (z ∙ sym lock-is))

    fixed-none : vacuum_in b ≡ 0 → (file_of b).fixed p ≡ 0
    unfolding fixed_in
    fixed-none v = fixed-field b p ∙ rw (no-lock, eq-eqb (vacuum_in b) 0 v) refl

    module _ (v : vacuum_in b ≢ 0) (l : 2 ≤ p) (past : ℕ) (e : past ≡ past_map h.size h.usable p) where
      past_is : past ≡ past_map (size_of b) (usable_of b) p
      past_is = e ∙ ap (λ s. past_map s h.usable p) (shape o).size_is ∙ ap (λ u. past_map (size_of b) u p) (shape o).usable_is

      fixed-map : past ≡ 0 → (file_of b).fixed p ≡ 1
      unfolding fixed_in
      fixed-map z = fixed-field b p ∙ rw (no-lock, ne_eqb (vacuum_in b) 0 v, le-ltb p 2 l, eq-eqb (past_map (size_of b) (usable_of b) p) 0 (sym past_is ∙ z)) refl

      fixed-other : past ≢ 0 → (file_of b).fixed p ≡ 0
      unfolding fixed_in
      fixed-other n =
          fixed-field b p ∙ rw (no-lock, ne_eqb (vacuum_in b) 0 v, le-ltb p 2 l, ne_eqb (past_map (size_of b) (usable_of b) p) 0 (λ z. n (past_is ∙ z))) refl

-- its kind before the walk
module _ {b : List ℕ} {h : Header} (o : Opened b h) (lock p : ℕ) (el : lock ≡ lock_page h.size) (n : p ≢ 1) where
  pub kind-lock : p ≡ lock → 8 ≡ kind_at (file_of b) p
  kind-lock k = rw (ne_eqb p 1 n, fixed-lock o lock p el k) refl

  module _ (k : p ≢ lock) where
    pub kind-none : vacuum_in b ≡ 0 → 0 ≡ kind_at (file_of b) p
    kind-none v = rw (ne_eqb p 1 n, fixed-none o lock p el k v) refl

    module _ (v : vacuum_in b ≢ 0) (l : 2 ≤ p) (past : ℕ) (e : past ≡ past_map h.size h.usable p) where
      pub kind-map : past ≡ 0 → 7 ≡ kind_at (file_of b) p
      kind-map z = rw (ne_eqb p 1 n, fixed-map o lock p el k v l past e z) refl

      pub kind-other : past ≢ 0 → 0 ≡ kind_at (file_of b) p
      kind-other q = rw (ne_eqb p 1 n, fixed-other o lock p el k v l past e q) refl

-- the same size and usable bytes by other names
pub past-at : {size usable size' usable' past : ℕ} (p : ℕ) → size ≡ size' → usable ≡ usable' → past ≡ past_map size usable p → past ≡ past_map size' usable' p
past-at p s u e = rw (← s, ← u) e

-- the kinds filled in from the front
kinds-long : (f : File) (i : ℕ) → length (kinds_to f i) ≡ i
unfolding kinds_to
kinds-long f zero = refl
kinds-long f (suc i) = length-append (kinds_to f i) (kind_at f (suc i) ∷ []) ∙ let e = kinds-long f i in omega arith

put-more : (l d : List ℕ) (x : ℕ) → length l < length d → set (l ++ drop (length l) d) (length l) x ≡ (l ++ (x ∷ [])) ++ drop (suc (length l)) d
put-more [] [] x h = absurd (omega arith)
put-more [] (y ∷ d) x h = refl
put-more (z ∷ l) [] x h = absurd (omega arith)
put-more (z ∷ l) (y ∷ d) x h = ap (λ (t : List ℕ). z ∷ t) (put-more l d x (omega arith))

pub filled_none : (f : File) (d : List ℕ) → d ≡ kinds_to f 0 ++ drop 0 d
unfolding kinds_to
filled_none f d = refl

pub filled_more : (f : File) (i x : ℕ) (d : List ℕ) → i < length d → x ≡ kind_at f (i + 1)
    → set (kinds_to f i ++ drop i d) i x ≡ kinds_to f (i + 1) ++ drop (i + 1) d
unfolding kinds_to
filled_more f i x d l e =
    let k = kinds-long f i in
    let s : i + 1 ≡ suc i = omega arith in
    ap (λ j. set (kinds_to f i ++ drop j d) j x) (sym k)
    ∙ put-more (kinds_to f i) d x (omega arith)
    ∙ ap (λ j. (kinds_to f i ++ (x ∷ [])) ++ drop (suc j) d) k
    ∙ ap (λ x. (kinds_to f i ++ (x ∷ [])) ++ drop (suc i) d) (e ∙ ap (kind_at f) s)
    ∙ ap (λ j. kinds_to f j ++ drop j d) (sym s)

pub filled : (f : File) (n i : ℕ) (d l : List ℕ) → f.N ≡ n → n ≤ i → i ≤ n → length d ≡ n → l ≡ kinds_to f i ++ drop i d → l ≡ kinds_to f f.N
filled f n i d l en a b k e =
    let y : length d ≤ i = omega arith in let z : drop i d ≡ [] = drop_of_length-le d y in
    let s : i ≡ f.N = omega arith in
    e ∙ ap (λ (r : List ℕ). kinds_to f i ++ r) z ∙ append-nil (kinds_to f i) ∙ ap (kinds_to f) s

-- an entry: where it stands, its type, then its number
pub entry-within : (u past : ℕ) → past ≤ u / 5 → (past ≡ 0 → ⊥) → 5 * (past - 1) + 5 ≤ u
entry-within u past l n = omega arith

pub page_is : {b : List ℕ} {h : Header} (o : Opened b h) (m : ℕ) {pg : List ℕ} → pg ≡ page_of b h.size m → pg ≡ page_in b m
page_is {b} {h} o m {pg} e = e ∙ ap (λ z. page_of b z m) (shape o).size_is

-- agreement
pub agrees_first : (f : File) (p k n : ℕ) → p ≡ 1 → true ≡ agrees f p k n
unfolding agrees
agrees_first f p k n e = rw (eq-eqb p 1 e) refl

module _ {b : List ℕ} {h : Header} (o : Opened b h) (lock p k n : ℕ) (el : lock ≡ lock_page h.size) (m : p ≢ 1) where
  pub agrees-lock : p ≡ lock → true ≡ agrees (file_of b) p k n
  unfolding agrees
  agrees-lock i = rw (ne_eqb p 1 m, fixed-lock o lock p el i) refl

  module _ (i : p ≢ lock) (v : vacuum_in b ≢ 0) (l : 2 ≤ p) (past : ℕ) (e : past ≡ past_map h.size h.usable p) where
    pub agrees-map : past ≡ 0 → true ≡ agrees (file_of b) p k n
    unfolding agrees
    agrees-map z = rw (ne_eqb p 1 m, fixed-map o lock p el i v l past e z) refl

    pub agrees-entry : past ≢ 0 → (sort number : ℕ) → sort ≡ type_for k → number ≡ number_for k n → (r : Bool)
        → r ≡ cond (eqb (byte_at (page_in b (p - past)) (5 * (past - 1))) sort) (eqb (be 4 (page_in b (p - past)) (5 * (past - 1) + 1)) number) false
        → r ≡ agrees (file_of b) p k n
    unfolding agrees
    agrees-entry q sort number es en r w =
        let d = past_is o lock p el i v l past e in
        rw (ne_eqb p 1 m, fixed-other o lock p el i v l past e q, entry-type-field b p, entry-number-field b p, ← d, ← es, ← en) w

-- the largest root, from the last page down
pub root-here : (ks : List ℕ) (last : ℕ) → 0 < last → get_or ks (last - 1) 0 ≡ 1 → last ≡ largest_root ks last
unfolding largest_root
root-here ks zero h e = absurd (omega arith)
root-here ks (suc m) h e = let z : suc m - 1 ≡ m = omega arith in rw (eq-eqb (get_or ks m 0) root_kind (ap (λ i. get_or ks i 0) (sym z) ∙ e)) refl

pub root_below : (ks : List ℕ) (last : ℕ) → 0 < last → get_or ks (last - 1) 0 ≢ 1 → largest_root ks last ≡ largest_root ks (last - 1)
unfolding largest_root
root_below ks zero h n = absurd (omega arith)
root_below ks (suc m) h n =
    let z : suc m - 1 ≡ m = omega arith in
    rw (ne_eqb (get_or ks m 0) root_kind (λ e. n (ap (λ i. get_or ks i 0) z ∙ e))) (ap (largest_root ks) (sym z))

pub root_none : (ks : List ℕ) (last : ℕ) → last ≤ 0 → largest_root ks last ≡ 0
unfolding largest_root
root_none ks zero h = refl
root_none ks (suc m) h = absurd (omega arith)

-- the checks after the walk
module _ {b : List ℕ} {h : Header} (o : Opened b h) (ks ns : List ℕ) where
  abbrev f : File
  f = file_of b

  pub maps_none : vacuum_in b ≡ 0 → settle (final f ks ns) ks ns ≡ accepted ks ns
  maps_none v = settle-unmapped f ks ns (vacuum-field b ∙ v)

  pub maps-more : (i : ℕ) → Clean (entry_checks f ks ns i) → agrees f (i + 1) (get_or ks i 0) (get_or ns i 0) ≡ true → Clean (entry_checks f ks ns (i + 1))
  maps-more i c e =
      let s : i + 1 ≡ suc i = omega arith in
      subst (λ j. Clean (entry_checks f ks ns j)) (sym s) (checks-more f ks ns i c (ap (λ j. agrees f j (get_or ks i 0) (get_or ns i 0)) (sym s) ∙ e))

  module _ (v : vacuum_in b ≢ 0) where
    mapped : f.vacuum ≢ 0
    mapped z = v (sym (vacuum-field b) ∙ z)

    pub maps-31 : (i : ℕ) → i < h.pages → Clean (entry_checks f ks ns i) → agrees f (i + 1) (get_or ks i 0) (get_or ns i 0) ≡ false
        → settle (final f ks ns) ks ns ≡ refusal 31 (i + 1)
    maps-31 i l c e =
        let s : i + 1 ≡ suc i = omega arith in
        let n = (shape o).N-is in
        settle-31 f ks ns mapped i (omega arith) c (ap (λ j. agrees f j (get_or ks i 0) (get_or ns i 0)) (sym s) ∙ e) ∙ ap (refusal 31) (sym s)

    module _ (i : ℕ) (low : h.pages ≤ i) (high : i ≤ h.pages) (c : Clean (entry_checks f ks ns i)) where
      at_n : f.N ≡ h.pages
      at_n = (shape o).N-is

      all : Clean (entry_checks f ks ns f.N)
      all = let e : i ≡ f.N = omega (arith, at_n) in subst (λ j. Clean (entry_checks f ks ns j)) e c

      pub maps-32 : vacuum_in b ≢ largest_root ks h.pages → settle (final f ks ns) ks ns ≡ refusal 32 1
      maps-32 n = settle-32 f ks ns mapped all (λ e. n (sym (vacuum-field b) ∙ e ∙ ap (largest_root ks) at_n))

      pub maps-good : vacuum_in b ≡ largest_root ks h.pages → settle (final f ks ns) ks ns ≡ accepted ks ns
      maps-good e = settle-mapped f ks ns mapped all (vacuum-field b ∙ e ∙ ap (largest_root ks) (sym at_n))
