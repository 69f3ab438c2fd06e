-- The turns of the walk over children.
use Prim.Native.Nat.{ℕ, zero, suc, ◌+◌, ◌≤◌, ◌<◌}
use mathlib.Core.Path.{◌≡◌, refl, sym, ap, ◌∙◌}
use mathlib.Core.Bool.{Bool, true, false}
use mathlib.Core.List.{List, [], ◌∷◌, ◌++◌, append-nil}
use native.Mathlib.Omega.{arith}
use borrow.Author.Tests.{lt-ltb, le-ltb}
use Rattle.header.specs.declared.Header.{Header}
use Rattle.dealing.specs.File.{File, is_table}
use Rattle.dealing.specs.Walk.{Mode, is_ordered, entry_of, Event, key, payload_events, child_events, key_or_chain, inner_cell, inner_events, State, went, refused, run}
use Rattle.dealing.proofs.RunLaws.{then-went, then-refused, run_none}
use Rattle.dealing.proofs.WalkLaws.{rest_of, rest_more, rest_end}
use Rattle.image.specs.Image.{file_of}
use Rattle.image.specs.Ready.{PageAt}
use Rattle.ledger.proofs.Ways.{entered}
use Rattle.tree.specs.declared.Spot.{Spot}
use Rattle.tree.specs.Spots.{Above}
use Rattle.tree.specs.Turns.{child_at, name_of, after_at, turn, turns}
use Rattle.tree.proofs.Cells.{count-few}

module _ (f : File) (p cells right i : ℕ) where
  pub child-cell : i < cells → child_at f p cells right i ≡ (f.cell p i).child
  unfolding child_at
  child-cell h = rw (lt-ltb _ _ h)

  pub child-right : cells ≤ i → child_at f p cells right i ≡ right
  unfolding child_at
  child-right h = rw (le-ltb _ _ h)

module _ (f : File) (mode : Mode) (p cells i : ℕ) where
  after-cell : i < cells → after_at f mode p cells i ≡ key_or_chain f mode (is_table f p) p (f.cell p i)
  unfolding after_at
  after-cell h = rw (lt-ltb _ _ h)

  pub after-right : cells ≤ i → after_at f mode p cells i ≡ []
  unfolding after_at
  after-right h = rw (le-ltb _ _ h)

  pub after_table : (r : ℕ) → i < cells → is_table f p ≡ true → r ≡ (f.cell p i).row → after_at f mode p cells i ≡ key p r ∷ []
  after_table r h t e = after-cell h ∙ rw (t, e)

  after-index : i < cells → is_table f p ≡ false → after_at f mode p cells i ≡ payload_events f p (f.cell p i) ++ entry_of (is_ordered mode) false p (f.cell p i)
  after-index h t = after-cell h ∙ rw t

  module _ (l : i < cells) (t : is_table f p ≡ false) (s : State) where
    pub after-stops : (x q : ℕ) → run f.N s (payload_events f p (f.cell p i)) ≡ refused x q → run f.N s (after_at f mode p cells i) ≡ refused x q
    after-stops x q e = ap (run f.N s) (after-index l t) ∙ then-refused f.N s x q (payload_events f p (f.cell p i)) _ e

    pub after-goes : (s₁ : State) → run f.N s (payload_events f p (f.cell p i)) ≡ went s₁
        → run f.N s (after_at f mode p cells i) ≡ run f.N s₁ (entry_of (is_ordered mode) false p (f.cell p i))
    after-goes s₁ e = ap (run f.N s) (after-index l t) ∙ then-went f.N s s₁ (payload_events f p (f.cell p i)) _ e

module _ (f : File) (mode : Mode) (below : ℕ → List Event) (root : Bool) (p cells right i : ℕ) (s : State) where
  abbrev child : ℕ
  child = child_at f p cells right i

  -- a turn: the child is named, walked, and what comes after
  pub turn-name-stops : (x q : ℕ) → run f.N s (name_of root p child) ≡ refused x q → run f.N s (turn f mode below root p cells right i) ≡ refused x q
  unfolding turn
  turn-name-stops x q e = then-refused f.N s x q (name_of root p child) _ e

  module _ (s₁ : State) (e₁ : run f.N s (name_of root p child) ≡ went s₁) where
    pub turn-child-stops : (x q : ℕ) → run f.N s₁ (below child) ≡ refused x q → run f.N s (turn f mode below root p cells right i) ≡ refused x q
    unfolding turn
    turn-child-stops x q e = then-went f.N s s₁ (name_of root p child) _ e₁ ∙ then-refused f.N s₁ x q (below child) _ e

    pub turn-child-goes : (s₂ : State) → run f.N s₁ (below child) ≡ went s₂
        → run f.N s (turn f mode below root p cells right i) ≡ run f.N s₂ (after_at f mode p cells i)
    unfolding turn
    turn-child-goes s₂ e = then-went f.N s s₁ (name_of root p child) _ e₁ ∙ then-went f.N s₁ s₂ (below child) _ e

  -- the turns from the ith on
  pub turns-stop : (k x q : ℕ) → run f.N s (turn f mode below root p cells right i) ≡ refused x q
      → run f.N s (turns f mode below root p cells right i (suc k)) ≡ refused x q
  unfolding turns
  turns-stop k x q e = then-refused f.N s x q (turn f mode below root p cells right i) _ e

  pub turns_go : (k : ℕ) (s₁ : State) → run f.N s (turn f mode below root p cells right i) ≡ went s₁
      → run f.N s (turns f mode below root p cells right i (suc k)) ≡ run f.N s₁ (turns f mode below root p cells right (i + 1) k)
  unfolding turns
  turns_go k s₁ e = then-went f.N s s₁ (turn f mode below root p cells right i) _ e

  pub turns-end : run f.N s (turns f mode below root p cells right i 0) ≡ went s
  unfolding turns
  turns-end = run_none f.N s

-- the turns of an interior page are its events
module _ (f : File) (mode : Mode) (below : ℕ → List Event) (p : ℕ) where
  turn-cell : (i : ℕ) → i < f.count p → inner_cell f mode below p (f.cell p i) ≡ turn f mode below false p (f.count p) (f.right p) i
  unfolding turn inner_cell
  turn-cell i h = rw (child-cell f p (f.count p) (f.right p) i h, after-cell f mode p (f.count p) i h)

  turn-right : (i : ℕ) → f.count p ≤ i → child_events below p (f.right p) ≡ turn f mode below false p (f.count p) (f.right p) i
  unfolding turn
  turn-right i h =
      sym (append-nil (child_events below p (f.right p)))
      ∙ sym (rw (child-right f p (f.count p) (f.right p) i h, after-right f mode p (f.count p) i h))

  turns-from : (k i : ℕ) → i + k ≡ f.count p → inner_events f mode below p (rest_of f p i) ≡ turns f mode below false p (f.count p) (f.right p) i (suc k)
  unfolding inner_events turns
  turns-from zero i e =
      let z : f.count p ≤ i = omega arith in
      ap (inner_events f mode below p) (rest_end f p i z)
      ∙ turn-right i z
      ∙ sym (append-nil (turn f mode below false p (f.count p) (f.right p) i))
  turns-from (suc k) i e =
      let l : i < f.count p = omega arith in
      ap (inner_events f mode below p) (rest_more f p i l)
      ∙ ap (λ x. x ++ inner_events f mode below p (rest_of f p (i + 1))) (turn-cell i l)
      ∙ ap (λ x. turn f mode below false p (f.count p) (f.right p) i ++ x) (turns-from k (i + 1) (omega arith))

  pub turns-inner : (cells right : ℕ) → cells ≡ f.count p → right ≡ f.right p
      → inner_events f mode below p (rest_of f p 0) ≡ turns f mode below false p cells right 0 (cells + 1)
  turns-inner cells right n r =
      let e : suc (f.count p) ≡ cells + 1 = omega arith in
      turns-from (f.count p) 0 (omega arith)
      ∙ ap (turns f mode below false p (f.count p) (f.right p) 0) e
      ∙ ap (λ x. turns f mode below false p x (f.right p) 0 (cells + 1)) (sym n)
      ∙ ap (λ x. turns f mode below false p cells x 0 (cells + 1)) (sym r)

-- that of a root alone are its own
pub turns-root : (f : File) (mode : Mode) (below : ℕ → List Event) (p right : ℕ) → turns f mode below true p 0 right 0 (0 + 1) ≡ below right
unfolding turns turn
turns-root f mode below p right =
    rw (child-right f p 0 right 0 (omega arith), after-right f mode p 0 0 (omega arith)) (append-nil (below right ++ []) ∙ append-nil (below right))

-- children of a page or a root
module _ {b : List ℕ} {h : Header} {p kind : ℕ} {spot : Spot} {cells right : ℕ} {root : Bool} (a : Above b h p kind spot cells right root) where
  pub above-few : cells ≤ 32768
  above-few = go root refl
    where
      go : (t : Bool) → root ≡ t → cells ≤ 32768
      go true e = let w = a.alone e in omega (arith, w.0)
      go false e = let w = a.page e in omega (arith, w.1, count-few w.0)

  -- where there are cells there is a page
  pub above-page : (i : ℕ) → i < cells → root ≡ false
  above-page i l = go root refl
    where
      go : (t : Bool) → root ≡ t → root ≡ false
      go true e = absurd (let w = a.alone e in omega (arith, w.0))
      go false e = e

  -- a child that was named is a page
  pub child-page : (i : ℕ) (s s₁ : State) → run h.pages s (name_of root p (child_at (file_of b) p cells right i)) ≡ went s₁
      → PageAt b h (child_at (file_of b) p cells right i)
  child-page i s s₁ e = go root refl e
    where
      go : (t : Bool) → root ≡ t → run h.pages s (name_of t p (child_at (file_of b) p cells right i)) ≡ went s₁ → PageAt b h (child_at (file_of b) p cells right i)
      go true k w =
          let v = a.alone k in let n : cells ≤ i = omega (arith, v.0) in
          rw (child-right (file_of b) p cells right i n) v.1
      go false k w = entered h.pages s s₁ p _ 6 a.opened refl w
