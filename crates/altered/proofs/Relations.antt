-- An image that differs in unread bytes alone keeps what a good dealing of the first has read.
use Prim.Native.Nat.{ℕ, ◌+◌, ◌*◌, ◌≤◌, ◌<◌}
use mathlib.Core.Path.{◌≡◌, sym, subst, ◌∙◌}
use mathlib.Core.Logic.{◌≢◌, ◌⊎◌, inl, inr, ⊎_elim}
use mathlib.Core.List.{List}
use native.Mathlib.Omega.{arith}
use Rattle.number.specs.Bytes.{byte_at}
use Rattle.header.specs.Header.{usable_of, pages_of, header_of}
use Rattle.page.specs.Header.{content_start, array_end}
use Rattle.dealing.specs.File.{Page, free_kind, trunk_kind, tree_kind, root_kind}
use Rattle.dealing.specs.Good.{Dealing, TreePage}
use Rattle.image.specs.Pages.{page_in, head_of, trunk_count_in}
use Rattle.image.specs.Image.{file_of}
use Rattle.image.specs.Good.{GoodDealing}
use Rattle.image.proofs.Fields.{N-field}
use Rattle.image.proofs.Shape.{Shape, shape}
use Rattle.lookup.proofs.Theorems.{opened-image}
use Rattle.altered.specs.Altered.{InGap, Unread, place_of, Altered, Spare, Wider}
use Rattle.altered.proofs.Kept.{Same-at, Keeps}

-- the request's relation is the narrower one
pub altered-wider : {b c : List ℕ} {kind : ℕ → ℕ} → Altered b c kind → Wider b c kind
altered-wider a = record { long = a.long; same = λ p i l h n. a.same p i l h (λ x. n (inr (inr (inr x)))) }

-- kinds that agree on the pages 1 to N give the same relation
unread-by : (b : List ℕ) (k k' : ℕ → ℕ) → ((p : ℕ) → 1 ≤ p → p ≤ pages_of b → k p ≡ k' p) → (p i : ℕ) → Unread b k p i → Unread b k' p i
unread-by b k k' e p i (l, h, inl x) = (l, h, inl (sym (e p l h) ∙ x))
unread-by b k k' e p i (l, h, inr (inl x)) = (l, h, inr (inl x))
unread-by b k k' e p i (l, h, inr (inr (inl t, x, y))) = (l, h, inr (inr (inl (sym (e p l h) ∙ t), x, y)))
unread-by b k k' e p i (l, h, inr (inr (inr t, x, y))) = (l, h, inr (inr (inr (sym (e p l h) ∙ t), x, y)))

pub altered-by : (b c : List ℕ) (k k' : ℕ → ℕ) → ((p : ℕ) → 1 ≤ p → p ≤ pages_of b → k p ≡ k' p) → Altered b c k → Altered b c k'
altered-by b c k k' e a = record { long = a.long; same = λ p i l h n. a.same p i l h (λ x. n (unread-by b k k' e p i x)) }

module _ (b c : List ℕ) (d : Dealing) (g : GoodDealing b d) (a : Wider b c d.kind) where
  form : Shape b (header_of b)
  form = shape (opened-image b g.passes)

  -- a byte below U of a page of 1 to N that is neither a free leaf nor the lock-byte page is the same, unless it follows a trunk's leaf
  -- numbers or lies in a gap
  kept : (p i : ℕ) → 1 ≤ p → p ≤ pages_of b → i < usable_of b → d.kind p ≢ free_kind → d.kind p ≢ 8
      → (d.kind p ≡ trunk_kind → i < 8 + 4 * trunk_count_in b p)
      → (TreePage d p → (i < array_end (page_in b p) (head_of p)) ⊎ (content_start (page_in b p) (head_of p) ≤ i)) → Same-at b c p i
  kept p i l h u f k t s = a.same p i l (omega (arith, form.inside, form.usable_is, form.size_is)) no
    where
      gap : InGap b d.kind p i → ⊥
      gap x =
          ⊎_elim (λ (z : i < array_end (page_in b p) (head_of p)). omega (arith, x.1))
          (λ (z : content_start (page_in b p) (head_of p) ≤ i). omega (arith, x.2)) (s x.0)

      no : Spare b d.kind p i → ⊥
      no (inl x) = omega arith
      no (inr (inl x)) = k x
      no (inr (inr (inl x))) = omega (arith, x.1, t x.0)
      no (inr (inr (inr (_, _, inl x)))) = f (omega (arith, x))
      no (inr (inr (inr (_, _, inr (inl x))))) = omega arith
      no (inr (inr (inr (_, _, inr (inr x))))) = gap x

  no-tree : (p : ℕ) → d.kind p ≢ root_kind → d.kind p ≢ tree_kind → {A : Type 0} → TreePage d p → A
  no-tree p r t (inl e) = absurd (r e)
  no-tree p r t (inr e) = absurd (t e)

  high : (p : ℕ) → Page (file_of b) p → p ≤ pages_of b
  high p h = omega (arith, N-field b, h.1)

  pub wider-keeps : Keeps b c d
  wider-keeps =
      record {
        long = a.long;
        header = λ i l.
            let e : place_of b 1 i ≡ i = omega arith in
            let k = g.good.kind_1 in
            subst (λ n. byte_at c n ≡ byte_at b n) e
            (kept 1 i (omega arith) (omega (arith, form.some, form.pages-is)) (omega (arith, form.used, form.usable_is))
            (λ z. omega arith) (λ z. omega arith) (λ z. omega arith) (λ z. inl (omega arith)));
        tree = λ p i h t l o. tree-kept p i h t l o t;
        overflow = λ p i h o l. overflow-kept p i h l o;
        trunk = λ p i h k l m.
            kept p i h.0 (high p h) l (λ z. omega arith) (λ z. omega arith) (λ z. m) (no-tree p (λ z. omega arith) (λ z. omega arith));
        map = λ p i h k l. kept p i h.0 (high p h) l (λ z. omega arith) (λ z. omega arith) (λ z. omega arith)
            (no-tree p (λ z. omega arith) (λ z. omega arith));
      }
    where
      tree-kept : (p i : ℕ) → Page (file_of b) p → TreePage d p → i < usable_of b
          → (i < array_end (page_in b p) (head_of p)) ⊎ (content_start (page_in b p) (head_of p) ≤ i) → TreePage d p → Same-at b c p i
      tree-kept p i h t l o (inl k) = kept p i h.0 (high p h) l (λ z. omega arith) (λ z. omega arith) (λ z. omega arith) (λ z. o)
      tree-kept p i h t l o (inr k) = kept p i h.0 (high p h) l (λ z. omega arith) (λ z. omega arith) (λ z. omega arith) (λ z. o)

      overflow-kept : (p i : ℕ) → Page (file_of b) p → i < usable_of b → (d.kind p ≡ 4) ⊎ (d.kind p ≡ 5) → Same-at b c p i
      overflow-kept p i h l (inl k) =
          kept p i h.0 (high p h) l (λ z. omega arith) (λ z. omega arith) (λ z. omega arith)
          (no-tree p (λ z. omega arith) (λ z. omega arith))
      overflow-kept p i h l (inr k) =
          kept p i h.0 (high p h) l (λ z. omega arith) (λ z. omega arith) (λ z. omega arith)
          (no-tree p (λ z. omega arith) (λ z. omega arith))
