-- One event over the ledgers and the numbers of a tree, each way that it can go.
use mathlib.Core.Path.{◌≡◌, refl, sym, ap, ◌∙◌}
use mathlib.Core.Bool.{Bool, true, false, cond}
use mathlib.Core.Logic.{◌≢◌}
use mathlib.Core.List.{List, ◌∷◌, []}
use Prim.Native.Nat.{ℕ, ◌≤◌, ◌<◌}
use borrow.Author.Tests.{lt-ltb}
use Rattle.dealing.specs.Good.{a_row, a_key}
use Rattle.dealing.specs.Walk.{Event, name, row, key, leaf, row_of, run, step, and_then, even, at_leaf, went, refused, Outcome, follows, State}
use Rattle.dealing.proofs.RunLaws.{run_none, run_row, run-row-bad, run-key, run-key-bad, run-leaf-first, run-leaf, run-leaf-bad}
use Rattle.dealing.proofs.Passed.{named-page}
use native.Mathlib.Omega.{arith}
use Rattle.header.specs.declared.Header.{Header}
use Rattle.image.specs.Image.{file_of}
use Rattle.image.specs.Ready.{Opened, PageAt}
use Rattle.image.proofs.Shape.{shape}
use Rattle.ledger.specs.Ledger.{mark_of, state_of, Least}
use Rattle.ledger.specs.declared.Last as L
use Rattle.ledger.specs.declared.Last.TheVariants.{Nothing, Row, Key}
use Rattle.ledger.specs.declared.Tree as T

abbrev pub tree : L.Last → ℕ → T.Tree
tree m l = record { last = m; leaf_at = l }

module _ (n : ℕ) (b ks ns : List ℕ) (t : T.Tree) where
  module _ (table : Bool) (p r : ℕ) where
    -- an index leaf has no row numbers
    pub row-none : table ≡ false → run n (state_of b ks ns t) (row_of table p r) ≡ went (state_of b ks ns t)
    row-none e = rw e (run_none n (state_of b ks ns t))

    module _ (is-table : table ≡ true) where
      pub row-went : follows (mark_of b t.last) (a_row r) ≡ true → run n (state_of b ks ns t) (row_of table p r) ≡ went (state_of b ks ns (tree (Row r) t.leaf_at))
      row-went e = rw is-table (run_row n (state_of b ks ns t) [] p r e ∙ run_none n _)

      pub row-bad : follows (mark_of b t.last) (a_row r) ≡ false → run n (state_of b ks ns t) (row_of table p r) ≡ refused 25 p
      row-bad e = rw is-table (run-row-bad n (state_of b ks ns t) [] p r e)

  module _ (p k : ℕ) where
    pub key-went : follows (mark_of b t.last) (a_key k) ≡ true → run n (state_of b ks ns t) (key p k ∷ []) ≡ went (state_of b ks ns (tree (Key k) t.leaf_at))
    key-went e = run-key n (state_of b ks ns t) [] p k e ∙ run_none n _

    pub key-bad : follows (mark_of b t.last) (a_key k) ≡ false → run n (state_of b ks ns t) (key p k ∷ []) ≡ refused 25 p
    key-bad e = run-key-bad n (state_of b ks ns t) [] p k e

  module _ (p l : ℕ) where
    pub leaf_first : t.leaf_at ≡ 0 → run n (state_of b ks ns t) (leaf p l ∷ []) ≡ went (state_of b ks ns (tree t.last l))
    leaf_first e = run-leaf-first n (state_of b ks ns t) [] p l e ∙ run_none n _

    pub leaf-even : t.leaf_at ≢ 0 → t.leaf_at ≡ l → run n (state_of b ks ns t) (leaf p l ∷ []) ≡ went (state_of b ks ns (tree t.last l))
    leaf-even z e = run-leaf n (state_of b ks ns t) [] p l z e ∙ run_none n _

    pub leaf-uneven : t.leaf_at ≢ 0 → t.leaf_at ≢ l → run n (state_of b ks ns t) (leaf p l ∷ []) ≡ refused 24 p
    leaf-uneven z e = run-leaf-bad n (state_of b ks ns t) [] p l z e

-- the least row number that may follow
module _ (t : T.Tree) (least : ℕ) where
  least-by : ((b : List ℕ) (r : ℕ) → least ≤ r → r < 18446744073709551615 → follows (mark_of b t.last) (a_row r) ≡ true) → Least t least
  least-by f = record { follows = λ n p r b ks ns l g. row-went n b ks ns t true p r refl (f b r l g) }

  pub least_first : t.last ≡ Nothing → Least t least
  least_first e = least-by (λ b r l g. ap (λ m. follows (mark_of b m) (a_row r)) e)

  module _ (x : ℕ) (after : (r : ℕ) → least ≤ r → r < 18446744073709551615 → x < r) where
    pub least-after-row : t.last ≡ Row x → Least t least
    least-after-row e = least-by (λ b r l g. ap (λ m. follows (mark_of b m) (a_row r)) e ∙ lt-ltb x r (after r l g))

    pub least-after-key : t.last ≡ Key x → Least t least
    least-after-key e = least-by (λ b r l g. ap (λ m. follows (mark_of b m) (a_row r)) e ∙ lt-ltb x r (after r l g))

-- a row number that was taken may follow
row-follows : (N : ℕ) (s s₁ : State) (p r : ℕ) → run N s (row p r ∷ []) ≡ went s₁ → follows s.last (a_row r) ≡ true
row-follows N s s₁ p r e = go (follows s.last (a_row r)) refl
  where
    go : (t : Bool) → follows s.last (a_row r) ≡ t → t ≡ true
    go true k = refl
    go false k = absurd (let w = sym e ∙ run-row-bad N s [] p r k in let y : ◌≡◌ {A = ℕ} 0 1 = cc in omega arith)

-- a leaf leaves what was read last
leaf-keeps : (N : ℕ) (s s₁ : State) (p l : ℕ) → run N s (leaf p l ∷ []) ≡ went s₁ → s₁.last ≡ s.last
unfolding run step and_then
leaf-keeps N s s₁ p l e = go (even s.leaf_at l) e
  where
    go : (t : Bool) → and_then (cond t (went (at_leaf s l)) (refused 24 p)) (λ x. run N x []) ≡ went s₁ → s₁.last ≡ s.last
    go true k = let w : s₁ ≡ at_leaf s l = cc in ap (λ (x : State). x.last) w
    go false k = absurd (let y : ◌≡◌ {A = ℕ} 0 1 = cc in omega arith)

module _ {t : T.Tree} {least : ℕ} (q : Least t least) where
  pub least-follows : (b : List ℕ) (r : ℕ) → least ≤ r → r < 18446744073709551615 → follows (mark_of b t.last) (a_row r) ≡ true
  least-follows b r l g = row-follows 0 (state_of b [] [] t) _ 0 r (q.follows 0 0 r b [] [] l g)

  pub least-after-leaf : (t₁ : T.Tree) (page levels : ℕ) → ((b : List ℕ) → run 0 (state_of b [] [] t) (leaf page levels ∷ []) ≡ went (state_of b [] [] t₁)) → Least t₁ least
  least-after-leaf t₁ page levels e = record {
    follows = λ n p r b ks ns l g.
        row-went n b ks ns t₁ true p r refl (ap (λ m. follows m (a_row r)) (leaf-keeps 0 _ _ page levels (e b)) ∙ least-follows b r l g);
  }

-- the number of pages is the file's N
pub at-n : {b : List ℕ} {h : Header} (s : State) (es : List Event) {o : Outcome} → Opened b h → run h.pages s es ≡ o → run (file_of b).N s es ≡ o
at-n {b} {h} s es g e = rw (shape g).N-is e

-- a page that was named is a page of the image
pub entered : {b : List ℕ} {h : Header} (n : ℕ) (s s' : State) (holder t kind : ℕ) → Opened b h → n ≡ h.pages → run n s (name holder t kind ∷ []) ≡ went s' → PageAt b h t
entered {b} {h} n s s' holder t kind g k e =
    let w = named-page (file_of b) s s' holder t kind (at-n s _ g (ap (λ n. run n s (name holder t kind ∷ [])) (sym k) ∙ e)) in
    let z = (shape g).N-is in
    record { opened = g; low = w.0; high = omega arith }
