-- Each way out of the functions, over plain variables.
use Prim.Native.Nat.{ℕ, suc, ◌+◌, ◌-◌, ◌*◌, ◌≤◌, ◌<◌}
use mathlib.Core.Path.{◌≡◌, refl, sym, ap, ◌∙◌, subst}
use mathlib.Core.Bool.{Bool, true, false}
use mathlib.Core.Logic.{◌≢◌, ◌⊎◌, inl, inr}
use mathlib.Core.List.{List, [], ◌∷◌, ◌++◌, append_assoc}
use native.Mathlib.Nat.{suc-mul}
use native.Mathlib.Omega.{arith}
use lib.Dec.{eqb, ltb}
use lib.Pointwise.{pointwise}
use lib.ListN.{length, take, drop, length-append, take-append-drop}
use lib.Seq.{take_at, drop-append-add, drop-drop, length-take-le}
use borrow.Author.Tests.{eqb-true, eq-eqb, ne_eqb, lt-ltb, le-ltb}
use Rattle.number.specs.Bytes.{part}
use Rattle.number.proofs.Cases.{true-or-false}
use Rattle.paging.specs.Pages.{join_pages, over}
use Rattle.paging.proofs.PagesLaws.{Sized, length-pages}
use Rattle.wire.specs.Wire.{four, frame, entry, spelled, at, entry_of, proposal_of}
use Rattle.wire.specs.Compare.{same, framed, agrees, differs, compared_of}
use Rattle.wire.specs.Write.{most_pages, written_of, out_of}
use Rattle.wire.specs.Laid.{Laid}
use Rattle.std.specs.Prelude.{Option, None, Some, Result, Ok, Err}
use Rattle.refusal.specs.declared.Rule as R

-- ---- equal bytes

pub same_self : (l : List ℕ) → same l l ≡ true
unfolding same
same_self [] = refl
same_self (x ∷ l) = rw (eq-eqb x x refl) (same_self l)

pub same_true : (l m : List ℕ) → same l m ≡ true → l ≡ m
unfolding same
same_true [] [] e = refl
same_true [] (y ∷ m) e = absurd (let z : ◌≡◌ {A = ℕ} 0 1 = cc in omega arith)
same_true (x ∷ l) [] e = absurd (let z : ◌≡◌ {A = ℕ} 0 1 = cc in omega arith)
same_true (x ∷ l) (y ∷ m) e = go (true-or-false (eqb x y)) (same_true l m)
  where
    go : (eqb x y ≡ true) ⊎ (eqb x y ≡ false) → (same l m ≡ true → l ≡ m) → x ∷ l ≡ y ∷ m
    go (inl t) rest = let k = eqb-true x y t in let r = rest (rw t at e) in cc
    go (inr t) rest = absurd (let k = rw t at e in let z : ◌≡◌ {A = ℕ} 0 1 = cc in omega arith)

-- as the language compares slices
pub same-eq : (l m : List ℕ) → pointwise eqb l m ≡ same l m
unfolding same
same-eq [] [] = refl
same-eq [] (y ∷ m) = refl
same-eq (x ∷ l) [] = refl
same-eq (x ∷ l) (y ∷ m) = go (true-or-false (eqb x y)) (same-eq l m)
  where
    go : (eqb x y ≡ true) ⊎ (eqb x y ≡ false) → pointwise eqb l m ≡ same l m → pointwise eqb (x ∷ l) (y ∷ m) ≡ same (x ∷ l) (y ∷ m)
    go (inl t) e = rw t e
    go (inr f) e = rw f refl

-- the same of a part
pub same-part : (w want : List ℕ) (at m : ℕ) (r : Bool) → m ≡ length want → r ≡ pointwise eqb (part w at m) want
    → r ≡ same (part w at (length want)) want
same-part w want at m r e h = h ∙ same-eq (part w at m) want ∙ ap (λ j. same (part w at j) want) e

-- ---- lengths

pub frame-long : (n : ℕ) → length (frame n) ≡ 5
unfolding frame four
frame-long n = refl

pub entry-long : (k h s : ℕ) → length (entry k h s) ≡ 9
unfolding entry four
entry-long k h s = refl

pub entries-sized : (ks ns ss : List ℕ) (n : ℕ) → Sized (entry_of ks ns ss) 9 n
entries-sized ks ns ss n p a b = entry-long (at ks p) (at ns p) (at ss p)

pub entries-long : (ks ns ss : List ℕ) (n : ℕ) → length (join_pages (entry_of ks ns ss) n) ≡ n * 9
entries-long ks ns ss n = length-pages (entry_of ks ns ss) 9 n (entries-sized ks ns ss n)

pub proposal-long : (n : ℕ) (ks ns ss : List ℕ) → length (proposal_of n ks ns ss) ≡ 5 + n * 9
unfolding spelled
proposal-long n ks ns ss = length-append (frame n) (join_pages (entry_of ks ns ss) n) ∙ omega (arith, frame-long n, entries-long ks ns ss n)

pub front-five : (n : ℕ) (front : List ℕ) → front ≡ frame n → 5 ≡ length front
front-five n front e = sym (ap length e ∙ frame-long n)

pub entry-nine : (k h s : ℕ) (next : List ℕ) → next ≡ entry k h s → 9 ≡ length next
entry-nine k h s next e = sym (ap length e ∙ entry-long k h s)

-- ---- comparing

module _ (w : List ℕ) (n : ℕ) (ks ns ss : List ℕ) where
  pub compared-length : length w ≢ 5 + n * 9 → Some 0 ≡ compared_of w n ks ns ss
  unfolding compared_of framed
  compared-length h = rw (ne_eqb (length w) (5 + n * 9) h) refl

  module _ (l : length w ≡ 5 + n * 9) (front : List ℕ) (is : front ≡ frame n) where
    pub front-is : (r : Bool) → r ≡ same (part w 0 (length front)) front → r ≡ framed w n
    unfolding framed
    front-is r e =
        let k : length front ≡ 5 = ap length is ∙ frame-long n in
        e ∙ ap (λ j. same (part w 0 j) front) k ∙ ap (λ (x : List ℕ). same (part w 0 5) x) is ∙ rw (eq-eqb (length w) (5 + n * 9) l) refl

    pub compared-front : (r : Bool) → r ≡ same (part w 0 (length front)) front → r ≡ false → Some 0 ≡ compared_of w n ks ns ss
    unfolding compared_of
    compared-front r e f = let k = sym (front-is r e) ∙ f in rw k refl

  -- what is left to be compared from page i + 1 on
  pub record Comparing (i : ℕ) : Type 0 where
    pub high : i ≤ n
    pub front : framed w n ≡ true
    pub left : differs w ks ns ss 0 n ≡ differs w ks ns ss i (n - i)

  pub comparing-starts : framed w n ≡ true → Comparing 0
  comparing-starts f = let z : n ≡ n - 0 = omega arith in record { high = omega arith; front = f; left = ap (differs w ks ns ss 0) z }

  module _ (i : ℕ) (c : Comparing i) where
    pub compared-ends : n ≤ i → None ≡ compared_of w n ks ns ss
    unfolding compared_of differs
    compared-ends h = let z : n - i ≡ 0 = omega arith in let k : differs w ks ns ss 0 n ≡ 0 = c.left ∙ ap (differs w ks ns ss i) z in rw (c.front, k) refl

    module _ (l : i < n) (want : List ℕ) (is : want ≡ entry_of ks ns ss (suc i)) where
      next : n - i ≡ suc (n - (i + 1))
      next = omega arith

      pub agreed : (r : Bool) → r ≡ same (part w (5 + i * 9) (length want)) want → r ≡ agrees w ks ns ss i
      unfolding agrees
      agreed r e =
          let k : length want ≡ 9 = ap length is ∙ entry-long (at ks (suc i)) (at ns (suc i)) (at ss (suc i)) in
          e ∙ ap (λ j. same (part w (5 + i * 9) j) want) k ∙ ap (λ (x : List ℕ). same (part w (5 + i * 9) 9) x) is

      pub compared-here : agrees w ks ns ss i ≡ false → Some (i + 1) ≡ compared_of w n ks ns ss
      unfolding compared_of differs
      compared-here f =
          let s : suc i ≡ i + 1 = omega arith in
          let k : differs w ks ns ss 0 n ≡ suc i = c.left ∙ ap (differs w ks ns ss i) next ∙ rw f refl in
          rw (c.front, k) (ap Some (sym s))

      pub comparing-more : agrees w ks ns ss i ≡ true → Comparing (i + 1)
      unfolding differs
      comparing-more t =
          let s : suc i ≡ i + 1 = omega arith in
          record {
            high = omega arith;
            front = c.front;
            left = c.left ∙ ap (differs w ks ns ss i) next ∙ rw t (ap (λ j. differs w ks ns ss j (n - (i + 1))) s);
          }

-- ---- writing

module _ (out ks ns ss : List ℕ) where
  abbrev J : ℕ → List ℕ
  J i = join_pages (entry_of ks ns ss) i

  pub laid_none : Laid out ks ns ss 0 out
  unfolding join_pages
  laid_none = record { is = sym (take-append-drop 5 out) }

  pub laid_more : (i : ℕ) (out' next : List ℕ) → 5 + i * 9 + 9 ≤ length out → Laid out ks ns ss i out' → next ≡ entry_of ks ns ss (suc i)
      → Laid out ks ns ss (i + 1) (over out' (5 + i * 9) next)
  unfolding join_pages
  laid_more i out' next l c e =
      let at5 : length (take 5 out) ≡ 5 = length-take-le 5 out (omega arith) in
      let long : length (take 5 out ++ J i) ≡ 5 + i * 9 = length-append (take 5 out) (J i) ∙ omega (arith, at5, entries-long ks ns ss i) in
      let size : length next ≡ 9 = ap length e ∙ entry-long (at ks (suc i)) (at ns (suc i)) (at ss (suc i)) in
      let is : out' ≡ (take 5 out ++ J i) ++ drop (5 + i * 9) out = c.is ∙ sym (append_assoc (take 5 out) (J i) (drop (5 + i * 9) out)) in
      let front : take (5 + i * 9) out' ≡ take 5 out ++ J i = ap (take (5 + i * 9)) is ∙ take_at (take 5 out ++ J i) (drop (5 + i * 9) out) (5 + i * 9) long in
      let m : length (take 5 out ++ J i) + length next ≡ 5 + i * 9 + length next = omega arith in
      let back : drop (5 + i * 9 + length next) out' ≡ drop (length next) (drop (5 + i * 9) out) =
      ap (drop (5 + i * 9 + length next)) is ∙ ap (λ j. drop j ((take 5 out ++ J i) ++ drop (5 + i * 9) out)) (sym m)
      ∙ drop-append-add (take 5 out ++ J i) (drop (5 + i * 9) out) (length next) in
      let s : suc i ≡ i + 1 = omega arith in
      let k : 5 + i * 9 + length next ≡ 5 + suc i * 9 = omega (arith, suc-mul i 9) in
      subst (λ j. Laid out ks ns ss j (over out' (5 + i * 9) next)) s
      (record {
        is =
            ap (λ (x : List ℕ). x ++ (next ++ drop (5 + i * 9 + length next) out')) front
            ∙ ap (λ (x : List ℕ). (take 5 out ++ J i) ++ (next ++ x)) (back ∙ drop-drop (length next) (5 + i * 9) out ∙ ap (λ j. drop j out) k)
            ∙ ap (λ (x : List ℕ). (take 5 out ++ J i) ++ (x ++ drop (5 + suc i * 9) out)) e
            ∙ append_assoc (take 5 out) (J i) (entry_of ks ns ss (suc i) ++ drop (5 + suc i * 9) out)
            ∙ ap (λ (x : List ℕ). take 5 out ++ x) (sym (append_assoc (J i) (entry_of ks ns ss (suc i)) (drop (5 + suc i * 9) out)));
      })

  pub laid-ends : (n i : ℕ) (out' : List ℕ) → i ≤ n → n ≤ i → Laid out ks ns ss i out' → Laid out ks ns ss n out'
  laid-ends n i out' a b c = let e : i ≡ n = omega arith in subst (λ j. Laid out ks ns ss j out') e c

  -- all of it: first what stands in front
  pub laid-whole : (n : ℕ) (front out₁ out₂ : List ℕ) → 5 + n * 9 ≤ length out → front ≡ frame n → out₁ ≡ over out 0 front → Laid out₁ ks ns ss n out₂
      → out₂ ≡ proposal_of n ks ns ss ++ drop (5 + n * 9) out
  unfolding spelled
  laid-whole n front out₁ out₂ l e f c =
      let five : length front ≡ 5 = ap length e ∙ frame-long n in
      let five' : length (frame n) ≡ 5 = frame-long n in
      let z : 0 + length front ≡ 5 = omega arith in
      let is : out₁ ≡ frame n ++ drop 5 out = f ∙ ap (λ j. front ++ drop j out) z ∙ ap (λ (x : List ℕ). x ++ drop 5 out) e in
      let a : take 5 out₁ ≡ frame n = ap (take 5) is ∙ take_at (frame n) (drop 5 out) 5 five' in
      let m : length (frame n) + n * 9 ≡ 5 + n * 9 = omega arith in
      let b : drop (5 + n * 9) out₁ ≡ drop (5 + n * 9) out =
      ap (drop (5 + n * 9)) is ∙ ap (λ j. drop j (frame n ++ drop 5 out)) (sym m) ∙ drop-append-add (frame n) (drop 5 out) (n * 9) ∙ drop-drop (n * 9) 5 out in
      c.is ∙ ap (λ (x : List ℕ). x ++ (J n ++ drop (5 + n * 9) out₁)) a ∙ ap (λ (x : List ℕ). frame n ++ (J n ++ x)) b
      ∙ sym (append_assoc (frame n) (J n) (drop (5 + n * 9) out))

-- the ways out of the writer
pub record Writes (n : ℕ) (ks ns ss out : List ℕ) (r : Result ℕ R.Rule) (out' : List ℕ) : Type 0 where
  pub answer : r ≡ written_of n (length ks) (length ns) (length ss) (length out)
  pub bytes : out' ≡ out_of r n ks ns ss out

module _ (n : ℕ) (ks ns ss out : List ℕ) where
  pub too_many : most_pages < n → Writes n ks ns ss out (Err R.TheVariants.TooManyPages) out
  unfolding written_of
  too_many l = record { answer = rw (lt-ltb most_pages n l) refl; bytes = refl }

  module _ (few : n ≤ most_pages) where
    f : ltb most_pages n ≡ false
    f = le-ltb most_pages n few

    pub kinds-short : length ks < n → Writes n ks ns ss out (Err R.TheVariants.SmallLedgers) out
    unfolding written_of
    kinds-short l = record { answer = rw (f, lt-ltb (length ks) n l) refl; bytes = refl }

    module _ (kinds-fit : n ≤ length ks) where
      k : ltb (length ks) n ≡ false
      k = le-ltb (length ks) n kinds-fit

      pub namers-short : length ns < n → Writes n ks ns ss out (Err R.TheVariants.SmallLedgers) out
      unfolding written_of
      namers-short l = record { answer = rw (f, k, lt-ltb (length ns) n l) refl; bytes = refl }

      module _ (namers-fit : n ≤ length ns) where
        h : ltb (length ns) n ≡ false
        h = le-ltb (length ns) n namers-fit

        pub steps-short : length ss < n → Writes n ks ns ss out (Err R.TheVariants.SmallLedgers) out
        unfolding written_of
        steps-short l = record { answer = rw (f, k, h, lt-ltb (length ss) n l) refl; bytes = refl }

        module _ (steps-fit : n ≤ length ss) where
          s : ltb (length ss) n ≡ false
          s = le-ltb (length ss) n steps-fit

          pub no_room : length out < 5 + n * 9 → Writes n ks ns ss out (Err R.TheVariants.SmallOutput) out
          unfolding written_of
          no_room l = record { answer = rw (f, k, h, s, lt-ltb (length out) (5 + n * 9) l) refl; bytes = refl }

          pub all-written : 5 + n * 9 ≤ length out → (out' : List ℕ) → out' ≡ proposal_of n ks ns ss ++ drop (5 + n * 9) out
              → Writes n ks ns ss out (Ok (5 + n * 9)) out'
          unfolding written_of
          all-written l out' e = record { answer = rw (f, k, h, s, le-ltb (length out) (5 + n * 9) l) refl; bytes = e }
