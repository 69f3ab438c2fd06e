-- Laws of the freeblocks, and of the loop that notes them.
-- Assumes nothing.
use mathlib.Core.Path.{◌≡◌, refl, sym, ap, ap₂, ◌∙◌, subst}
use mathlib.Core.Bool.{Bool, true, false, true≢false, false≢true}
use mathlib.Core.List.{List, [], ◌∷◌}
use Prim.Native.Nat.{ℕ, zero, suc, ◌+◌, ◌-◌, ◌≤◌, ◌<◌}
use native.Mathlib.Nat.{zero-add, add-zero}
use native.Mathlib.Omega.{arith}
use borrow.Author.Tests.{ltb-true, ltb-false}
use lib.Dec.{ltb}
use Rattle.page.specs.Sound.{Span, span, block_next, block_size, Freeblock, Freeblocks, Within, AllWithin}
use Rattle.page.specs.Steps.{Noted, Lies, Written, Fine, BlockRead, NoBlock, FreePlaced, total}

-- the freeblocks of a list are those of any other reading of it
pub unique : (p : List ℕ) (u at : ℕ) (ss ts : List Span) → Freeblocks p u at ss → Freeblocks p u at ts → ss ≡ ts
unique p u at [] [] c d = refl
unique p u at [] (t ∷ ts) c d = absurd (let h = d.0.there in omega arith)
unique p u at (s ∷ ss) [] c d = absurd (let h = c.0.there in omega arith)
unique p u at (s ∷ ss) (t ∷ ts) c d = ap₂ ◌∷◌ (c.0.is ∙ sym d.0.is) (unique p u (block_next p at) ss ts c.1 d.1)

-- what is left of the way up to u: 0 at the end of the list
abbrev pub left : ℕ → ℕ → ℕ
left u zero = 0
left u (suc k) = u - k

pub left_less : (u at next : ℕ) → 0 < at → at < u → (0 < next → at < next) → left u next < left u at
left_less u zero next p q r = absurd (omega arith)
left_less u (suc k) zero p q r = omega arith
left_less u (suc k) (suc l) p q r = let h : suc k < suc l = r (omega arith) in omega arith

-- ---- judging one
-- one that is fine, where its two fields say so
module _ (start u at next size : ℕ) (w : Fine start u at next size) where
  pub fine-block :
      (p : List ℕ) → (at ≡ 0 → ⊥) → at + 4 ≤ u → next ≡ block_next p at → size ≡ block_size p at → Freeblock p u at (span at (at + size))
  fine-block p some h en es =
      record {
        there = omega arith;
        head = h;
        size = let d = w.least in omega arith;
        rises = rw en at w.rises;
        is = ap (λ (n : ℕ). span at (at + n)) es;
      }

  pub fine-lies : Lies start u (span at (at + size))
  fine-lies = record { low = w.low; least = omega (arith, w.least); high = w.high }

-- none where its head runs past u, nor where its fields say otherwise
module _ (p : List ℕ) (start u at : ℕ) where
  pub block-past : u < at + 4 → NoBlock p start u at
  block-past h s k w = omega (arith, k.head)

  pub block-unfit : (next size : ℕ) → next ≡ block_next p at → size ≡ block_size p at → (Fine start u at next size → ⊥) → NoBlock p start u at
  block-unfit next size en es bad s k w =
      let v : Within start u (span at (at + block_size p at)) = rw k.is at w in
      bad (record { low = v.low; least = omega (arith, k.size); high = omega (arith, v.high); rises = rw en k.rises })

-- ---- the lists
module _ (p : List ℕ) (start u : ℕ) where
  freed-none : (at : ℕ) (m : List ℕ) → at ≡ 0 → FreePlaced p start u at m m true 0
  freed-none at m e =
      record { yes = λ _. ([], e, refl, refl); no = λ q. absurd (true≢false q); past = λ j h. refl }

  freed-bad : (at : ℕ) (m : List ℕ) (k : ℕ) → 0 < at → ((s : Span) → Freeblock p u at s → Within start u s → ⊥) → FreePlaced p start u at m m false k
  freed-bad at m k h n =
      record { yes = λ q. absurd (false≢true q); no = λ _. no-list; past = λ j h. refl }
    where
      no-list : (ss : List Span) → Freeblocks p u at ss → AllWithin start u ss → ⊥
      no-list [] c w = omega arith
      no-list (s ∷ ss) c w = n s c.0 w.0

  module _ (at : ℕ) (m m' : List ℕ) (s : Span) (b : Freeblock p u at s) (l : Lies start u s) (t : Noted m m' s.from (s.end - s.from)) where
    freed-more : (m'' : List ℕ) (r' : Bool) (k : ℕ) → FreePlaced p start u (block_next p at) m' m'' r' k → FreePlaced p start u at m m'' r' (s.end - s.from + k)
    freed-more m'' r' k f =
        record { yes = yes-list; no = each; past = λ j h. f.past j h ∙ t.past j (omega (arith, l.least, l.high)) }
      where
        yes-list : r' ≡ true → (ss : List Span) × Freeblocks p u at ss × Written start u m m'' ss × (s.end - s.from + k ≡ total ss)
        yes-list q = let g = f.yes q in (s ∷ g.0, (b, g.1), (m', l, t, g.2), omega (arith, g.3))

        each : r' ≡ false → (ss : List Span) → Freeblocks p u at ss → AllWithin start u ss → ⊥
        each q [] c w = let h = b.there in omega arith
        each q (x ∷ ss) c w = f.no q ss c.1 w.1

-- ---- the loop: whatever becomes of the freeblocks from `at` on, noted in the table m, becomes of all, noted in the table m₀, with b bytes more
pub record More (p : List ℕ) (u start first : ℕ) (m₀ m : List ℕ) (at b : ℕ) : Type 0 where
  pub go : (mf : List ℕ) (r : Bool) (k : ℕ) → FreePlaced p start u at m mf r k → FreePlaced p start u first m₀ mf r (b + k)

-- a refusal counts nothing
any-count : (p : List ℕ) (u start at : ℕ) (m mf : List ℕ) (k k' : ℕ) → FreePlaced p start u at m mf false k → FreePlaced p start u at m mf false k'
any-count p u start at m mf k k' f = record { yes = λ q. absurd (false≢true q); no = f.no; past = f.past }

module _ (p : List ℕ) (u start first : ℕ) (m₀ m : List ℕ) (at b : ℕ) (f : More p u start first m₀ m at b) where
  pub more-none : at ≡ 0 → FreePlaced p start u first m₀ m true b
  more-none e =
      subst (λ (n : ℕ). FreePlaced p start u first m₀ m true n) (add-zero b) (f.go m true 0 (freed-none p start u at m e))

  module _ (some : at ≡ 0 → ⊥) where
    more-bad : ((s : Span) → Freeblock p u at s → Within start u s → ⊥) → FreePlaced p start u first m₀ m false 0
    more-bad h = any-count p u start first m₀ m (b + 0) 0 (f.go m false 0 (freed-bad p start u at m 0 (omega arith) h))

    pub more-unfit : NoBlock p start u at → FreePlaced p start u first m₀ m false 0
    more-unfit h = more-bad h

    module _ (next size : ℕ) (r : BlockRead p start u at next size) (m' : List ℕ) (t : Noted m m' at size) where
      here : Noted m m' at (at + size - at)
      here =
          let e : at + size - at ≡ size = omega arith in
          rw e t

      pub more-next : More p u start first m₀ m' next (b + size)
      more-next =
          record {
            go = λ mf r'' n g.
                let w = r.fine in
                let block = fine-block start u at next size w p some r.head r.next-is r.size-is in
                let lies = fine-lies start u at next size w in
                let e : b + (at + size - at + n) ≡ b + size + n = omega arith in
                rw e at (f.go mf r'' (at + size - at + n) (freed-more p start u at m m' _ block lies here mf r'' n (rw r.next-is at g)));
          }
