-- A chain's pages, laid one by one.
--     ChainLeft, chain-start, chain-on, chain-end     what is left of them
-- Assumes nothing.
use Prim.Native.Nat.{ℕ, zero, suc, ◌+◌, ◌-◌, ◌*◌, ◌<◌, ◌≤◌}
use mathlib.Core.Path.{◌≡◌, refl, sym, ap, ◌∙◌, subst}
use mathlib.Core.Bool.{cond}
use mathlib.Core.List.{List, [], ◌∷◌, ◌++◌}
use mathlib.Core.Logic.{⊎_elim}
use native.Mathlib.Omega.{arith}
use lib.Dec.{eqb, ltb}
use lib.ListN.{length, take, drop, length-append, length-take, drop_of_length-le}
use lib.Seq.{take-take, drop-drop, take_all}
use borrow.Author.Tests.{lt-ltb, le-ltb}
use Rattle.number.specs.Bytes.{part}
use Rattle.number.proofs.Cases.{lt-or-ge}
use Rattle.paging.specs.Pages.{over}
use Rattle.paging.proofs.PagesLaws.{length_over}
use Rattle.writing.specs.Pages.{joined, overflow_page}
use Rattle.writing.specs.Rows.{chain_of}
use Rattle.writing.specs.Given.{ChainRoom}
use Rattle.writing.proofs.ChainRead.{overflow-length}
use Rattle.writing.proofs.OverLaws.{over-over, over_none}
use Rattle.writing.proofs.LeafLaws.{part_length}

pub record ChainLeft (target : List ℕ) (room : ℕ) (ps : List ℕ) (end : ℕ) (now : List ℕ) (m place page done : ℕ) : Type 0 where
  pub same : length now ≡ room
  pub fits : ChainRoom (length ps) room place page m done end
  pub is : over now place (joined (chain_of 1024 m page (part ps done (end - done)))) ≡ target

take_none : {A : Type 0} (k : ℕ) → take {A = A} k [] ≡ []
take_none zero = refl
take_none (suc k) = refl

pub drop-take : {A : Type 0} (m n : ℕ) (l : List A) → drop m (take n l) ≡ take (n - m) (drop m l)
drop-take zero n l = let e : n - 0 ≡ n = omega arith in rw e
drop-take (suc m) zero l = let e : 0 - suc m ≡ 0 = omega arith in rw e
drop-take (suc m) (suc n) [] = sym (take_none (suc n - suc m))
drop-take (suc m) (suc n) (x ∷ l) = let e : suc n - suc m ≡ n - m = omega arith in rw e (drop-take m n l)

-- the next 1020 bytes, or all that are left; and what is behind them
module _ (ps : List ℕ) (done end n : ℕ) (order : done ≤ end) (bytes : end ≤ length ps)
    (n-is : n ≡ cond (ltb (end - done) 1020) (end - done) 1020) where
  few : end - done < 1020 → n ≡ end - done
  few h = n-is ∙ ap (λ b. cond b (end - done) 1020) (lt-ltb (end - done) 1020 h)

  many : 1020 ≤ end - done → n ≡ 1020
  many h = n-is ∙ ap (λ b. cond b (end - done) 1020) (le-ltb (end - done) 1020 h)

  rest-length : length (part ps done (end - done)) ≡ end - done
  rest-length = part_length ps done (end - done) (omega arith)

  pub chunk-is : take 1020 (part ps done (end - done)) ≡ part ps done n
  chunk-is =
      ⊎_elim (λ (h : end - done < 1020). take_all 1020 (part ps done (end - done)) (omega (arith, rest-length)) ∙ ap (part ps done) (sym (few h)))
      (λ (h : 1020 ≤ end - done). take-take 1020 (end - done) (drop done ps) h ∙ ap (part ps done) (sym (many h)))
      (lt-or-ge (end - done) 1020)

  pub behind-is : drop 1020 (part ps done (end - done)) ≡ part ps (done + n) (end - (done + n))
  behind-is =
      ⊎_elim
      (λ (h : end - done < 1020).
      let z : end - (done + n) ≡ 0 = omega (arith, few h) in
      drop_of_length-le (part ps done (end - done)) {i = 1020} (omega (arith, rest-length)) ∙ ap (λ k. take k (drop (done + n) ps)) (sym z))
      (λ (h : 1020 ≤ end - done).
      let e : end - done - 1020 ≡ end - (done + n) = omega (arith, many h) in
      let f : done + 1020 ≡ done + n = omega (arith, many h) in
      drop-take 1020 (end - done) (drop done ps) ∙ ap (take (end - done - 1020)) (drop-drop 1020 done ps)
      ∙ ap (λ k. take k (drop (done + 1020) ps)) e ∙ ap (λ k. take (end - (done + n)) (drop k ps)) f)
      (lt-or-ge (end - done) 1020)

  pub chunk-length : length (part ps done n) ≡ n
  chunk-length =
      part_length ps done n (⊎_elim (λ (h : end - done < 1020). omega (arith, few h)) (λ (h : 1020 ≤ end - done). omega (arith, many h))
      (lt-or-ge (end - done) 1020))

  pub done_order : done + n ≤ end
  done_order =
      ⊎_elim (λ (h : end - done < 1020). omega (arith, few h)) (λ (h : 1020 ≤ end - done). omega (arith, many h))
      (lt-or-ge (end - done) 1020)

  pub done-enough : (m : ℕ) → end ≤ done + suc m * 1020 → end ≤ done + n + m * 1020
  done-enough m e =
      ⊎_elim (λ (h : end - done < 1020). omega (arith, few h)) (λ (h : 1020 ≤ end - done). omega (arith, many h))
      (lt-or-ge (end - done) 1020)

chain_more : (m page : ℕ) (rest : List ℕ) → joined (chain_of 1024 (suc m) page rest)
    ≡ overflow_page 1024 (cond (eqb m 0) 0 (page + 1)) (take 1020 rest) ++ joined (chain_of 1024 m (page + 1) (drop 1020 rest))
unfolding chain_of joined
chain_more m page rest = refl

pub chain-sized : (m page : ℕ) (rest : List ℕ) → length (joined (chain_of 1024 m page rest)) ≡ m * 1024
unfolding chain_of joined
chain-sized zero page rest = omega arith
chain-sized (suc m) page rest =
    let l : length (overflow_page 1024 (cond (eqb m 0) 0 (page + 1)) (take 1020 rest)) ≡ 1024 =
    overflow-length 1024 (cond (eqb m 0) 0 (page + 1)) (take 1020 rest) (omega (arith, length-take 1020 rest)) in
    length-append (overflow_page 1024 (cond (eqb m 0) 0 (page + 1)) (take 1020 rest)) (joined (chain_of 1024 m (page + 1) (drop 1020 rest)))
    ∙ omega (arith, chain-sized m (page + 1) (drop 1020 rest))

module _ (target : List ℕ) (room : ℕ) (ps : List ℕ) (end : ℕ) (now : List ℕ) (n k place page done : ℕ) (less : k < n)
    (left : ChainLeft target room ps end now (n - k) place page done) where
  abbrev m : ℕ
  m = n - (k + 1)

  suc-is : n - k ≡ suc m
  suc-is = omega arith

  turn : ChainLeft target room ps end now (suc m) place page done
  turn = subst (λ x. ChainLeft target room ps end now x place page done) suc-is left

  pub chain-on : (now' : List ℕ) (size_is next left_is : ℕ) → left_is ≡ m → size_is ≡ cond (ltb (end - done) 1020) (end - done) 1020
      → next ≡ cond (eqb left_is 0) 0 (page + 1)
      → now' ≡ over now place (overflow_page 1024 next (take (done + size_is - done) (drop done ps)))
      → ChainLeft target room ps end now' (n - (k + 1)) (place + 1024) (page + 1) (done + size_is)
  chain-on now' z next lz le ze ne e =
      let f = turn.fits in
      let chunk = part ps done z in
      let ze' : done + z - done ≡ z = omega arith in
      let cl = chunk-length ps done end z f.order f.bytes ze in
      let few-z : z ≤ 1020 =
      omega (arith, ap length (chunk-is ps done end z f.order f.bytes ze), length-take 1020 (part ps done (end - done))) in
      let ne' : next ≡ cond (eqb m 0) 0 (page + 1) = ne ∙ ap (λ x. cond (eqb x 0) 0 (page + 1)) le in
      let p = overflow_page 1024 next chunk in
      let pl : length p ≡ 1024 = overflow-length 1024 next chunk (omega arith) in
      let e' : now' ≡ over now place p = e ∙ ap (λ x. over now place (overflow_page 1024 next (take x (drop done ps)))) ze' in
      let R = joined (chain_of 1024 m (page + 1) (part ps (done + z) (end - (done + z)))) in
      let rl : length R ≡ m * 1024 = chain-sized m (page + 1) (part ps (done + z) (end - (done + z))) in
      let all : joined (chain_of 1024 (suc m) page (part ps done (end - done))) ≡ p ++ R =
      chain_more m page (part ps done (end - done)) ∙ ap (λ x. overflow_page 1024 x (take 1020 (part ps done (end - done)))
      ++ joined (chain_of 1024 m (page + 1) (drop 1020 (part ps done (end - done))))) (sym ne')
      ∙ ap (λ x. overflow_page 1024 next x ++ joined (chain_of 1024 m (page + 1) (drop 1020 (part ps done (end - done)))))
      (chunk-is ps done end z f.order f.bytes ze)
      ∙ ap (λ x. p ++ joined (chain_of 1024 m (page + 1) x)) (behind-is ps done end z f.order f.bytes ze) in
      record {
        same = ap length e' ∙ length_over now place p (omega (arith, f.whole, turn.same)) ∙ turn.same;
        fits = record {
          whole = omega (arith, f.whole);
          order = done_order ps done end z f.order f.bytes ze;
          bytes = f.bytes;
          enough = done-enough ps done end z f.order f.bytes ze m f.enough;
          pages = omega (arith, f.pages);
        };
        is = ap (λ x. over x (place + 1024) R) e' ∙ over-over now place (place + 1024) p R (omega arith)
            (omega (arith, f.whole, turn.same)) ∙ ap (over now place) (sym all) ∙ turn.is;
      }

chain-nothing : (page : ℕ) (rest : List ℕ) → joined (chain_of 1024 0 page rest) ≡ []
unfolding chain_of joined
chain-nothing page rest = refl

pub chain-end : (target : List ℕ) (room : ℕ) (ps : List ℕ) (end : ℕ) (now : List ℕ) (m place page done : ℕ) → m ≡ 0
    → ChainLeft target room ps end now m place page done → now ≡ target
chain-end target room ps end now m place page done z left =
    let e : joined (chain_of 1024 m page (part ps done (end - done))) ≡ [] =
    ap (λ x. joined (chain_of 1024 x page (part ps done (end - done)))) z ∙ chain-nothing page (part ps done (end - done)) in
    sym (over_none now place) ∙ ap (over now place) (sym e) ∙ left.is
