-- A leaf's cells, as the code goes.
use Prim.Native.Nat.{ℕ, ◌+◌, ◌-◌}
use mathlib.Core.Path.{◌≡◌, refl, sym, ap, ◌∙◌}
use mathlib.Core.Bool.{Bool, true, false, cond}
use mathlib.Core.List.{List, [], ◌∷◌, ◌++◌, append-nil}
use native.Mathlib.Omega.{arith}
use Rattle.dealing.specs.File.{File, Column4, is_table}
use Rattle.dealing.specs.Walk.{Mode, schema_tree, plain_tree, ordered_tree, is_schema, is_ordered, Event, leaf, entry, check, entry_of, payload_events, row_of, fit, schema_row, named_by, leaf_cell, State, went, refused, run}
use Rattle.dealing.proofs.RunLaws.{then-went, then-refused, run_none, run-fail}
use Rattle.std.proofs.Common.{Option, Result, Ok, Err}
use Rattle.refusal.specs.declared.Rule.{Rule}
use Rattle.refusal.specs.declared.Rule.TheVariants.{BadRecord}
use Rattle.schema.specs.Row.{row_is, row_named}
use Rattle.tree.specs.Leaves.{leaf_last, leaf_rest}

-- what a schema row says: whether it is fit
module _ (N : ℕ) (v : Column4) (r : Result (Option ℕ) Rule) (e : r ≡ row_is N v) where
  pub row-unfit : (rule : Rule) → r ≡ Err rule → (fit N v ≡ false) × (rule ≡ BadRecord)
  unfolding row_is
  row-unfit rule k = go (fit N v) (sym e ∙ k)
    where
      go : (b : Bool) → cond b (Ok (row_named (named_by v))) (Err BadRecord) ≡ Err rule → (b ≡ false) × (rule ≡ BadRecord)
      go true w = absurd (let y : ◌≡◌ {A = ℕ} 0 1 = cc in omega arith)
      go false w = (refl, cc)

  pub row-fit : (m : Option ℕ) → r ≡ Ok m → fit N v ≡ true
  unfolding row_is
  row-fit m k = go (fit N v) (sym e ∙ k)
    where
      go : (b : Bool) → cond b (Ok (row_named (named_by v))) (Err BadRecord) ≡ Ok m → b ≡ true
      go true w = refl
      go false w = absurd (let y : ◌≡◌ {A = ℕ} 0 1 = cc in omega arith)

module _ (f : File) (mode : Mode) (p i : ℕ) (s : State) where
  pub rest-payload-stops : (x q : ℕ) → run f.N s (payload_events f p (f.cell p i)) ≡ refused x q → run f.N s (leaf_rest f mode p i) ≡ refused x q
  unfolding leaf_rest
  rest-payload-stops x q e = then-refused f.N s x q (payload_events f p (f.cell p i)) _ e

  pub rest-payload-goes : (s₁ : State) → run f.N s (payload_events f p (f.cell p i)) ≡ went s₁ → run f.N s (leaf_rest f mode p i) ≡ run f.N s₁ (leaf_last f mode p i)
  unfolding leaf_rest
  rest-payload-goes s₁ e = then-went f.N s s₁ (payload_events f p (f.cell p i)) _ e

  -- after the payload: nothing, the order, or the schema row
  pub last-plain : mode ≡ plain_tree → run f.N s (leaf_last f mode p i) ≡ went s
  unfolding leaf_last
  last-plain m = ap (λ m. run f.N s (entry_of (is_ordered m) (is_table f p) p (f.cell p i) ++ schema_row f.N (is_schema m) (f.column4 p i) p)) m ∙ go (is_table f p)
    where
      go : (t : Bool) → run f.N s (entry_of false t p (f.cell p i) ++ []) ≡ went s
      go true = run_none f.N s
      go false = run_none f.N s

  module _ (m : mode ≡ ordered_tree) where
    last-ordered : (t : Bool) → is_table f p ≡ t → run f.N s (leaf_last f mode p i) ≡ run f.N s (entry_of true t p (f.cell p i))
    unfolding leaf_last
    last-ordered t e =
        ap (λ m. run f.N s (entry_of (is_ordered m) (is_table f p) p (f.cell p i) ++ schema_row f.N (is_schema m) (f.column4 p i) p)) m
        ∙ ap (run f.N s) (append-nil (entry_of true (is_table f p) p (f.cell p i))) ∙ ap (λ t. run f.N s (entry_of true t p (f.cell p i))) e

    pub last-table : is_table f p ≡ true → run f.N s (leaf_last f mode p i) ≡ went s
    last-table e = last-ordered true e ∙ run_none f.N s

    pub last_entry : is_table f p ≡ false → run f.N s (leaf_last f mode p i) ≡ run f.N s (entry p (f.cell p i).key ∷ [])
    last_entry e = last-ordered false e

  module _ (m : mode ≡ schema_tree) where
    last-schema : run f.N s (leaf_last f mode p i) ≡ run f.N s (check (fit f.N (f.column4 p i)) 28 p)
    unfolding leaf_last
    last-schema =
        ap (λ m. run f.N s (entry_of (is_ordered m) (is_table f p) p (f.cell p i) ++ schema_row f.N (is_schema m) (f.column4 p i) p)) m ∙ go (is_table f p)
      where
        go : (t : Bool) → run f.N s (entry_of false t p (f.cell p i) ++ check (fit f.N (f.column4 p i)) 28 p) ≡ run f.N s (check (fit f.N (f.column4 p i)) 28 p)
        go true = refl
        go false = refl

    pub last-unfit : fit f.N (f.column4 p i) ≡ false → run f.N s (leaf_last f mode p i) ≡ refused 28 p
    last-unfit k = last-schema ∙ rw k (run-fail f.N s [] 28 p)

    pub last_fit : fit f.N (f.column4 p i) ≡ true → run f.N s (leaf_last f mode p i) ≡ went s
    last_fit k = last-schema ∙ rw k (run_none f.N s)

  pub cell-stops : (x q : ℕ) → run f.N s (row_of (is_table f p) p (f.cell p i).row) ≡ refused x q → run f.N s (leaf_cell f mode p i (f.cell p i)) ≡ refused x q
  unfolding leaf_cell
  cell-stops x q e = then-refused f.N s x q (row_of (is_table f p) p (f.cell p i).row) _ e

  pub cell-goes : (s₁ : State) → run f.N s (row_of (is_table f p) p (f.cell p i).row) ≡ went s₁
      → run f.N s (leaf_cell f mode p i (f.cell p i)) ≡ run f.N s₁ (leaf_rest f mode p i)
  unfolding leaf_cell leaf_rest leaf_last
  cell-goes s₁ e = then-went f.N s s₁ (row_of (is_table f p) p (f.cell p i).row) _ e

-- a leaf: evenness, then its cells
module _ (f : File) (mode : Mode) (p l : ℕ) (s : State) where
  pub leaf-stops : (x q : ℕ) (es : List Event) → run f.N s (leaf p l ∷ []) ≡ refused x q → run f.N s (leaf p l ∷ es) ≡ refused x q
  leaf-stops x q es e = then-refused f.N s x q (leaf p l ∷ []) es e

  pub leaf-goes : (s₁ : State) (es : List Event) → run f.N s (leaf p l ∷ []) ≡ went s₁ → run f.N s (leaf p l ∷ es) ≡ run f.N s₁ es
  leaf-goes s₁ es e = then-went f.N s s₁ (leaf p l ∷ []) es e
