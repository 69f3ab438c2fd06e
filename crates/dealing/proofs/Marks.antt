-- Order and evenness: what the run tests is what the rules say of the trees.
use mathlib.Core.Path.{◌≡◌, refl, sym, ◌∙◌, ap}
use mathlib.Core.Bool.{Bool, true, false, cond}
use mathlib.Core.Option.{Option, none, some}
use mathlib.Core.List.{List, [], ◌∷◌, ◌++◌, map, map-append, append_assoc}
use Prim.Native.Nat.{ℕ, zero, suc}
use lib.Dec.{eqb, leb}
use Rattle.dealing.specs.File.{tree_kind, Place, schema_root, any_root, Cell, Column4, File, child_place, is_leaf, is_table, cells_of}
use Rattle.dealing.specs.Good.{Mark, a_row, a_key, a_record, row_or_record, rows_of, key_of, inner_of, reading}
use Rattle.dealing.specs.Walk.{Mode, schema_tree, plain_tree, ordered_tree, is_schema, is_ordered, is_named, mode_for, entry_of, payload_events, Event}
use Rattle.dealing.specs.Walk.{start, name, fail, row, key, leaf, entry, check, faults, not0, chain_events, chain_of, row_of, fit, schema_row}
use Rattle.dealing.specs.Walk.{leaf_events, key_or_chain, inner_events, page_events, over_children, schema_roots, root_events}
use Rattle.dealing.specs.Walk.{trunk_leaves, trunk_events, free_count, free_events, events, fault_in}
use Rattle.dealing.proofs.Lists.{gather}
use Rattle.dealing.proofs.Parts.{gather_append, leaf-more, inner-more}
use Rattle.dealing.proofs.Trees.{collect}

abbrev pub mark_of : Event → List (Option Mark)
mark_of start = none ∷ []
mark_of (name h t k) = []
mark_of (fail n p) = []
mark_of (row p r) = some (a_row r) ∷ []
mark_of (key p k) = some (a_key k) ∷ []
mark_of (leaf p l) = []
mark_of (entry p v) = some (a_record v) ∷ []

abbrev pub left_of : Event → List (Option ℕ)
left_of start = none ∷ []
left_of (name h t k) = []
left_of (fail n p) = []
left_of (row p r) = []
left_of (key p k) = []
left_of (leaf p l) = some l ∷ []
left_of (entry p v) = []

-- events that name and fail only
module _ {B : Type 0} (φ : Event → List B) (nm : (h t k : ℕ) → φ (name h t k) ≡ []) (fl : (n p : ℕ) → φ (fail n p) ≡ []) where
  check-none : (b : Bool) (n p : ℕ) → gather φ (check b n p) ≡ []
  check-none true n p = refl
  check-none false n p = rw (fl n p)

  faults-none : (n p : ℕ) → gather φ (faults n p) ≡ []
  faults-none zero p = refl
  faults-none (suc n) p = rw (fl (suc n) p)

  chain-none : (h k n t : ℕ) (f : File) → gather φ (chain_events f h k n t) ≡ []
  unfolding chain_events
  chain-none h k zero t f = check-none (eqb t 0) 27 h
  chain-none h k (suc n) t f =
      gather_append φ (check (not0 t) 27 h) (name h t k ∷ chain_events f t 5 n (f.next t))
      ∙ rw (check-none (not0 t) 27 h, nm h t k, chain-none t 5 n (f.next t) f)

  chain_of-none : (p n t : ℕ) (f : File) → gather φ (chain_of f p n t) ≡ []
  unfolding chain_of
  chain_of-none p zero t f = refl
  chain_of-none p (suc n) t f = chain-none p 4 (suc n) t f

  payload-none : (p : ℕ) (c : Cell) (f : File) → gather φ (payload_events f p c) ≡ []
  unfolding payload_events
  payload-none p c f =
      gather_append φ (chain_of f p c.links c.first) (check c.reads 28 p)
      ∙ rw (chain_of-none p c.links c.first f, check-none c.reads 28 p)

  schema-none : (N : ℕ) (b : Bool) (v : Column4) (p : ℕ) → gather φ (schema_row N b v p) ≡ []
  schema-none N true v p = check-none (fit N v) 28 p
  schema-none N false v p = refl

  leaves_none : (f : File) (p k j : ℕ) → gather φ (trunk_leaves f p k j) ≡ []
  unfolding trunk_leaves
  leaves_none f p zero j = refl
  leaves_none f p (suc k) j = rw (nm p (f.trunk_leaf p j) 3, leaves_none f p k (suc j))

  trunk-none : (f : File) (n h t : ℕ) → gather φ (trunk_events f n h t) ≡ []
  unfolding trunk_events
  trunk-none f zero h t = refl
  trunk-none f (suc n) h zero = refl
  trunk-none f (suc n) h (suc t) =
      let c = check (leb (f.trunk_count (suc t)) f.trunk_room) 29 (suc t) in
      let l = trunk_leaves f (suc t) (f.trunk_count (suc t)) 0 in
      let r = trunk_events f n (suc t) (f.trunk_next (suc t)) in
      ap (λ x. x ++ gather φ (c ++ (l ++ r))) (nm h (suc t) 2)
      ∙ gather_append φ c (l ++ r)
      ∙ ap (λ x. x ++ gather φ (l ++ r)) (check-none (leb (f.trunk_count (suc t)) f.trunk_room) 29 (suc t))
      ∙ gather_append φ l r
      ∙ rw (leaves_none f (suc t) (f.trunk_count (suc t)) 0, trunk-none f n (suc t) (f.trunk_next (suc t)))

  free-none : (f : File) → gather φ (free_events f) ≡ []
  unfolding free_events
  free-none f =
      gather_append φ (trunk_events f (suc f.N) 1 f.free_head) (check (eqb (free_count f (suc f.N) f.free_head) f.free_total) 29 1)
      ∙ rw (trunk-none f (suc f.N) 1 f.free_head, check-none (eqb (free_count f (suc f.N) f.free_head) f.free_total) 29 1)

  -- so a leaf's cell gives what its row number and its record give
  leaf-gives : (f : File) (m : Mode) (p i : ℕ) (c : Cell) (cs : List Cell)
      → gather φ (leaf_events f m p i (c ∷ cs))
      ≡ gather φ (row_of (is_table f p) p c.row) ++ (gather φ (entry_of (is_ordered m) (is_table f p) p c) ++ gather φ (leaf_events f m p (suc i) cs))
  leaf-gives f m p i c cs =
      let A = row_of (is_table f p) p c.row in
      let B = payload_events f p c in
      let C = entry_of (is_ordered m) (is_table f p) p c in
      let D = schema_row f.N (is_schema m) (f.column4 p i) p in
      let E = leaf_events f m p (suc i) cs in
      ap (gather φ) (leaf-more f m p i c cs)
      ∙ gather_append φ A (B ++ (C ++ (D ++ E)))
      ∙ ap (λ l. gather φ A ++ l) (gather_append φ B (C ++ (D ++ E)))
      ∙ ap (λ l. gather φ A ++ (l ++ gather φ (C ++ (D ++ E)))) (payload-none p c f)
      ∙ ap (λ l. gather φ A ++ l) (gather_append φ C (D ++ E))
      ∙ ap (λ l. gather φ A ++ (gather φ C ++ l)) (gather_append φ D E)
      ∙ ap (λ l. gather φ A ++ (gather φ C ++ (l ++ gather φ E))) (schema-none f.N (is_schema m) (f.column4 p i) p)

  -- and an interior cell what its child gives, then its key or its record
  inner-gives : (f : File) (m : Mode) (below : ℕ → List Event) (p : ℕ) (c : Cell) (cs : List Cell)
      → gather φ (inner_events f m below p (c ∷ cs))
      ≡ gather φ (below c.child) ++ (gather φ (key_or_chain f m (is_table f p) p c) ++ gather φ (inner_events f m below p cs))
  inner-gives f m below p c cs =
      ap (gather φ) (inner-more f m below p c cs)
      ∙ ap (λ l. l ++ gather φ (below c.child ++ (key_or_chain f m (is_table f p) p c ++ inner_events f m below p cs))) (nm p c.child tree_kind)
      ∙ gather_append φ (below c.child) (key_or_chain f m (is_table f p) p c ++ inner_events f m below p cs)
      ∙ ap (λ l. gather φ (below c.child) ++ l) (gather_append φ (key_or_chain f m (is_table f p) p c) (inner_events f m below p cs))

-- the marks of a page's events are its reading
module _ (f : File) (m : Mode) where
  entry-marks : (o : Bool) (p : ℕ) (c : Cell) → gather mark_of (entry_of o false p c) ≡ map some (key_of o false c)
  unfolding key_of
  entry-marks true p c = refl
  entry-marks false p c = refl

  -- the row number and the record of a leaf's cell
  cell-marks : (o t : Bool) (p : ℕ) (c : Cell) → gather mark_of (row_of t p c.row) ++ gather mark_of (entry_of o t p c) ≡ map some (row_or_record o t c)
  cell-marks o true p c = refl
  cell-marks true false p c = refl
  cell-marks false false p c = refl

  leaf-marks : (p i : ℕ) (cs : List Cell) → gather mark_of (leaf_events f m p i cs) ≡ map some (rows_of (is_ordered m) (is_table f p) cs)
  unfolding rows_of
  leaf-marks p i [] = unfold leaf_events in refl
  leaf-marks p i (c ∷ cs) =
      let A = row_of (is_table f p) p c.row in
      let C = entry_of (is_ordered m) (is_table f p) p c in
      let E = leaf_events f m p (suc i) cs in
      leaf-gives mark_of (λ h t k. refl) (λ n p. refl) f m p i c cs
      ∙ sym (append_assoc (gather mark_of A) (gather mark_of C) (gather mark_of E))
      ∙ ap (λ l. l ++ gather mark_of E) (cell-marks (is_ordered m) (is_table f p) p c)
      ∙ ap (λ l. map some (row_or_record (is_ordered m) (is_table f p) c) ++ l) (leaf-marks p (suc i) cs)
      ∙ sym (map-append some (row_or_record (is_ordered m) (is_table f p) c) (rows_of (is_ordered m) (is_table f p) cs))

  key-marks : (p : ℕ) (t : Bool) (c : Cell) → gather mark_of (key_or_chain f m t p c) ≡ map some (key_of (is_ordered m) t c)
  key-marks p true c = unfold key_of in refl
  key-marks p false c =
      gather_append mark_of (payload_events f p c) (entry_of (is_ordered m) false p c)
      ∙ ap (λ l. l ++ gather mark_of (entry_of (is_ordered m) false p c)) (payload-none mark_of (λ h t k. refl) (λ n p. refl) p c f)
      ∙ entry-marks (is_ordered m) p c

  inner-marks : (below : ℕ → List Event) (read : ℕ → List Mark) → ((c : ℕ) → gather mark_of (below c) ≡ map some (read c)) → (p : ℕ) (cs : List Cell)
      → gather mark_of (inner_events f m below p cs) ≡ map some (inner_of read (is_ordered m) (is_table f p) (f.right p) cs)
  unfolding inner_of
  inner-marks below read h p [] = unfold inner_events in h (f.right p)
  inner-marks below read h p (c ∷ cs) =
      inner-gives mark_of (λ h t k. refl) (λ n p. refl) f m below p c cs
      ∙ rw (h c.child, key-marks p (is_table f p) c, inner-marks below read h p cs)
      (sym (map-append some (read c.child) (key_of (is_ordered m) (is_table f p) c ++ inner_of read (is_ordered m) (is_table f p) (f.right p) cs)
      ∙ ap (λ l. map some (read c.child) ++ l)
      (map-append some (key_of (is_ordered m) (is_table f p) c) (inner_of read (is_ordered m) (is_table f p) (f.right p) cs))))

  pub page-marks : (l : ℕ) (place : Place) (p : ℕ) → gather mark_of (page_events f m l place p) ≡ map some (reading f (is_ordered m) l p)
  unfolding page_events reading
  page-marks zero place p = refl
  page-marks (suc l) place p =
      gather_append mark_of (faults (fault_in f place p) p)
      (cond (is_leaf f p) (leaf p (suc l) ∷ leaf_events f m p 0 (cells_of f p)) (inner_events f m (page_events f m l (child_place (is_table f p))) p (cells_of f p)))
      ∙ rw (faults-none mark_of (λ h t k. refl) (λ n p. refl) (fault_in f place p) p) (go (page-marks l (child_place (is_table f p))) (is_leaf f p))
    where
      go : ((c : ℕ) → gather mark_of (page_events f m l (child_place (is_table f p)) c) ≡ map some (reading f (is_ordered m) l c)) → (b : Bool)
          → gather mark_of
          (cond b (leaf p (suc l) ∷ leaf_events f m p 0 (cells_of f p)) (inner_events f m (page_events f m l (child_place (is_table f p))) p (cells_of f p)))
          ≡ map some (cond b (rows_of (is_ordered m) (is_table f p) (cells_of f p))
          (inner_of (reading f (is_ordered m) l) (is_ordered m) (is_table f p) (f.right p) (cells_of f p)))
      go ih true = leaf-marks p 0 (cells_of f p)
      go ih false = inner-marks (page_events f m l (child_place (is_table f p))) (reading f (is_ordered m) l) ih p (cells_of f p)

-- and its leaves
abbrev pub leafy_left : ℕ → ℕ → List ℕ
leafy_left l p = l ∷ []

row-lefts : (t : Bool) (p r : ℕ) → gather left_of (row_of t p r) ≡ []
row-lefts true p r = refl
row-lefts false p r = refl

entry-lefts : (o t : Bool) (p : ℕ) (c : Cell) → gather left_of (entry_of o t p c) ≡ []
entry-lefts o true p c = refl
entry-lefts true false p c = refl
entry-lefts false false p c = refl

module _ (f : File) (m : Mode) where
  leaf-lefts : (p i : ℕ) (cs : List Cell) → gather left_of (leaf_events f m p i cs) ≡ []
  leaf-lefts p i [] = unfold leaf_events in refl
  leaf-lefts p i (c ∷ cs) =
      leaf-gives left_of (λ h t k. refl) (λ n p. refl) f m p i c cs
      ∙ rw (row-lefts (is_table f p) p c.row, entry-lefts (is_ordered m) (is_table f p) p c, leaf-lefts p (suc i) cs)

  key-lefts : (p : ℕ) (t : Bool) (c : Cell) → gather left_of (key_or_chain f m t p c) ≡ []
  key-lefts p true c = refl
  key-lefts p false c =
      gather_append left_of (payload_events f p c) (entry_of (is_ordered m) false p c)
      ∙ rw (payload-none left_of (λ h t k. refl) (λ n p. refl) p c f, entry-lefts (is_ordered m) false p c)

  inner-lefts : (below : ℕ → List Event) (read : ℕ → List ℕ) → ((c : ℕ) → gather left_of (below c) ≡ map some (read c)) → (p : ℕ) (cs : List Cell)
      → gather left_of (inner_events f m below p cs) ≡ map some (over_children read (f.right p) cs)
  unfolding over_children
  inner-lefts below read h p [] = unfold inner_events in h (f.right p)
  inner-lefts below read h p (c ∷ cs) =
      inner-gives left_of (λ h t k. refl) (λ n p. refl) f m below p c cs
      ∙ rw (h c.child, key-lefts p (is_table f p) c, inner-lefts below read h p cs)
      (sym (map-append some (read c.child) (over_children read (f.right p) cs)))

  pub page-lefts : (l : ℕ) (place : Place) (p : ℕ) → gather left_of (page_events f m l place p) ≡ map some (collect f leafy_left l p)
  unfolding page_events collect
  page-lefts zero place p = refl
  page-lefts (suc l) place p =
      gather_append left_of (faults (fault_in f place p) p)
      (cond (is_leaf f p) (leaf p (suc l) ∷ leaf_events f m p 0 (cells_of f p)) (inner_events f m (page_events f m l (child_place (is_table f p))) p (cells_of f p)))
      ∙ rw (faults-none left_of (λ h t k. refl) (λ n p. refl) (fault_in f place p) p) (go (page-lefts l (child_place (is_table f p))) (is_leaf f p))
    where
      go : ((c : ℕ) → gather left_of (page_events f m l (child_place (is_table f p)) c) ≡ map some (collect f leafy_left l c)) → (b : Bool)
          → gather left_of
          (cond b (leaf p (suc l) ∷ leaf_events f m p 0 (cells_of f p)) (inner_events f m (page_events f m l (child_place (is_table f p))) p (cells_of f p)))
          ≡ map some (cond b (leafy_left (suc l) p) (over_children (collect f leafy_left l) (f.right p) (cells_of f p)))
      go ih true = ap (λ l'. some (suc l) ∷ l') (leaf-lefts p 0 (cells_of f p))
      go ih false = inner-lefts (page_events f m l (child_place (is_table f p))) (collect f leafy_left l) ih p (cells_of f p)

-- the whole walk, tree by tree: each root with whether its order is asked for
abbrev pub asked_trees : (ordered : List ℕ) → List (ℕ × ℕ) → List (Bool × ℕ)
asked_trees ordered [] = []
asked_trees ordered (x ∷ xs) = (is_named ordered x.1, x.1) ∷ asked_trees ordered xs

mode-asked : (b : Bool) → is_ordered (cond b ordered_tree plain_tree) ≡ b
mode-asked true = refl
mode-asked false = refl

module _ {C : Type 0} (φ : Event → List (Option C)) (nm : (h t k : ℕ) → φ (name h t k) ≡ []) (fl : (n p : ℕ) → φ (fail n p) ≡ []) (st : φ start ≡ none ∷ [])
    (ordered : List ℕ) (f : File) (read : Bool → ℕ → List C)
    (page : (m : Mode) (place : Place) (p : ℕ) → gather φ (page_events f m 20 place p) ≡ map some (read (is_ordered m) p)) where
  abbrev pub tree_of : Bool × ℕ → List (Option C)
  tree_of x = none ∷ map some (read x.0 x.1)

  roots-trees : (xs : List (ℕ × ℕ)) → gather φ (root_events ordered f xs) ≡ gather tree_of (asked_trees ordered xs)
  unfolding root_events
  roots-trees [] = refl
  roots-trees (x ∷ xs) =
      gather_append φ (name x.0 x.1 1 ∷ start ∷ page_events f (mode_for ordered x.1) 20 any_root x.1) (root_events ordered f xs)
      ∙ rw (nm x.0 x.1 1, st, page (mode_for ordered x.1) any_root x.1, mode-asked (is_named ordered x.1), roots-trees xs)

  pub trees : gather φ (events ordered f) ≡ gather tree_of ((false, 1) ∷ asked_trees ordered (schema_roots f 20 1))
  unfolding events
  trees =
      gather_append φ (start ∷ page_events f schema_tree 20 schema_root 1) (free_events f ++ root_events ordered f (schema_roots f 20 1))
      ∙ rw (
        st,
        page schema_tree schema_root 1,
        gather_append φ (free_events f) (root_events ordered f (schema_roots f 20 1)),
        free-none φ nm fl f,
        roots-trees (schema_roots f 20 1),
      )
