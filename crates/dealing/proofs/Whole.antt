-- The visits behind the events of a tree page, of the freelist, of the roots, and of the whole walk.
use mathlib.Core.Path.{◌≡◌, refl, sym, ◌∙◌, subst}
use mathlib.Core.Bool.{Bool, true, false, cond}
use mathlib.Core.List.{List, [], ◌∷◌, ◌++◌, map, map-append, append-nil}
use mathlib.Core.List.Memᴰ.{head as here}
use mathlib.Core.List.Memᴰ.{tail as there}
use mathlib.Core.List.{Memᴰ as Mem}
use Prim.Native.Nat.{ℕ, zero, suc, ◌≤◌}
use lib.Dec.{leb}
use borrow.Author.Tests.{leb-true, le-leb}
use Rattle.dealing.specs.File.{Place, any_root, Cell, File, child_place, is_leaf, is_table, cells_of}
use Rattle.dealing.specs.Good.{Slot, child_slot, right_slot, leaf_slot, next_slot}
use Rattle.dealing.specs.Walk.{Mode, plain_tree, ordered_tree, is_schema, is_named, mode_for, Event, start, name, fail, leaf}
use Rattle.dealing.specs.Walk.{inner_events}
use Rattle.dealing.specs.Walk.{page_events, fault_in}
use Rattle.dealing.specs.Walk.{root_at, leaf_roots, over_children, schema_roots, root_events, trunk_leaves, trunk_events, Named}
use Rattle.dealing.specs.Walk.{nothing, root}
use Rattle.dealing.proofs.Rich.{tree, trunk, spare, Visit, place_kind, kind_of, to}
use Rattle.dealing.proofs.Rich.{inner_slots, leaf_slots, trunk_to, root_in, root_to, root_slots}
use Rattle.dealing.proofs.Rich.{inner, roots_for, roots_of}
use Rattle.dealing.proofs.Rich.{InnerAsks, Asks}
use Rattle.dealing.proofs.Parts.{root_of, Part, quiet, join, named, recast, pick_part, checked, faulted, silent}
use Rattle.dealing.proofs.Parts.{Inland, WoodRole, Wood, FreeOnes, inland-child, child-kind, inner-more}
use Rattle.dealing.proofs.Parts.{leaf_part, key_part}

-- the roots of the schema tree below a page, with its own or without
abbrev pub full : File → Bool → (l p : ℕ) → List (ℕ × ℕ)
full f true l p = schema_roots f l p
full f false l p = []

abbrev pub below : File → Bool → (l p : ℕ) → List (ℕ × ℕ)
below f w zero p = []
below f w (suc l) p = cond (is_leaf f p) [] (over_children (full f w l) (f.right p) (cells_of f p))

root-plain : (p s i : ℕ) (v : Named) → map root_of (root_to p s i v) ≡ root_at p v
root-plain p s i nothing = refl
root-plain p s i (root r) = refl

roots-plain : (f : File) (p s i : ℕ) (cs : List Cell) → map root_of (root_slots f p s i cs) ≡ leaf_roots f p i cs
unfolding root_slots leaf_roots
roots-plain f p s i [] = refl
roots-plain f p s i (c ∷ cs) =
    map-append root_of (root_to p s i (root_in f p i)) (root_slots f p s (suc i) cs) ∙ rw (root-plain p s i (root_in f p i), roots-plain f p s (suc i) cs)

no-roots : (g : ℕ → List (ℕ × ℕ)) → ((p : ℕ) → g p ≡ []) → (r : ℕ) (cs : List Cell) → over_children g r cs ≡ []
unfolding over_children
no-roots g h r [] = h r
no-roots g h r (c ∷ cs) = rw (h c.child, no-roots g h r cs)

pub full_is : (f : File) (w : Bool) (l p s top : ℕ) (place : Place) → map root_of (roots_for f p s (tree w top place l)) ++ below f w l p ≡ full f w l p
unfolding roots_for schema_roots
full_is f true zero p s top place = refl
full_is f false zero p s top place = refl
full_is f true (suc l) p s top place = go (is_leaf f p)
  where
    go : (b : Bool) → map root_of (cond b (root_slots f p s 0 (cells_of f p)) []) ++ cond b [] (over_children (full f true l) (f.right p) (cells_of f p))
        ≡ cond b (leaf_roots f p 0 (cells_of f p)) (over_children (schema_roots f l) (f.right p) (cells_of f p))
    go true = append-nil (map root_of (root_slots f p s 0 (cells_of f p))) ∙ roots-plain f p s 0 (cells_of f p)
    go false = refl
full_is f false (suc l) p s top place = go (is_leaf f p)
  where
    go : (b : Bool) → cond b [] (over_children (full f false l) (f.right p) (cells_of f p)) ≡ []
    go true = refl
    go false = no-roots (full f false l) (λ q. refl) (f.right p) (cells_of f p)

module _ (f : File) (w : Bool) (m : Mode) (is : is_schema m ≡ w) where
  child_part : (top l : ℕ) (place : Place) → Inland place → place_kind place ≡ 6 → (h s : ℕ) (x : Slot) (c : ℕ)
      → Part f (Wood w) (inner f c (suc s) (tree w top place l)) (Asks f c (tree w top place l)) (below f w l c) (page_events f m l place c)
      → Part f (Wood w) (to h s x c (tree w top place l) ∷ []) (Unit {0}) (full f w l c) (name h c 6 ∷ page_events f m l place c)
  child_part top l place q k h s x c sub =
      subst (λ P. Part f (Wood w) (to h s x c (tree w top place l) ∷ []) (Unit {0}) P (name h c 6 ∷ page_events f m l place c))
      (full_is f w l c (suc s) top place)
      (subst (λ n. Part f (Wood w) (to h s x c (tree w top place l) ∷ []) (Unit {0})
      (map root_of (roots_for f c (suc s) (tree w top place l)) ++ below f w l c) (name h c n ∷ page_events f m l place c)) k
      (named f (Wood w) (to h s x c (tree w top place l)) (refl, q) sub))

  inner_part : (top l : ℕ) (place : Place) → Inland place → place_kind place ≡ 6 → (h s i : ℕ) (cs : List Cell)
      → ((c : ℕ) → Part f (Wood w) (inner f c (suc s) (tree w top place l)) (Asks f c (tree w top place l)) (below f w l c) (page_events f m l place c))
      → Part f (Wood w) (inner_slots (is_table f h) (f.right h) (tree w top place l) h s i cs) (InnerAsks (is_table f h) cs)
      (over_children (full f w l) (f.right h) cs)
      (inner_events f m (page_events f m l place) h cs)
  unfolding inner_slots over_children
  inner_part top l place q k h s i [] sub = unfold inner_events in child_part top l place q k h s right_slot (f.right h) (sub (f.right h))
  inner_part top l place q k h s i (c ∷ cs) sub =
      subst (λ E. Part f (Wood w) (inner_slots (is_table f h) (f.right h) (tree w top place l) h s i (c ∷ cs)) (InnerAsks (is_table f h) (c ∷ cs))
      (over_children (full f w l) (f.right h) (c ∷ cs)) E)
      (sym (inner-more f m (page_events f m l place) h c cs))
      (recast f (Wood w) (InnerAsks (is_table f h) (c ∷ cs)) (λ a. (a.1.0, a.1.1)) (λ a. (tt, (a.0, a.1)))
      (join f (Wood w) (child_part top l place q k h s (child_slot i) c.child (sub c.child))
      (join f (Wood w) (key_part f w m (is_table f h) h s i c) (inner_part top l place q k h s (suc i) cs sub))))

  leafed : {S : List Visit} {K : Type 0} {P : List (ℕ × ℕ)} {E : List Event} (p l : ℕ) → Part f (Wood w) S K P E → Part f (Wood w) S K P (leaf p l ∷ E)
  leafed p l a =
      record {
        names = a.names;
        plain = a.plain;
        closed = a.closed;
        each = a.each;
        asks = a.asks;
        clean = a.clean;
        found = a.found;
        found_all = a.found_all;
        found_plain = a.found_plain;
      }

  pub tree_part : (l : ℕ) (place : Place) (p s top : ℕ)
      → Part f (Wood w) (inner f p s (tree w top place l)) (Asks f p (tree w top place l)) (below f w l p) (page_events f m l place p)
  unfolding inner page_events
  tree_part zero place p s top = quiet f (Wood w) ⊥ (fail 24 p ∷ []) refl (λ c. c) (λ c. c)
  tree_part (suc l) place p s top =
      join f (Wood w) (faulted f (Wood w) (fault_in f place p) p)
      (pick_part f (Wood w) (is_leaf f p) (leafed p (suc l) (leaf_part f w m is p s 0 (cells_of f p)))
      (inner_part top l (child_place (is_table f p)) (inland-child (is_table f p)) (child-kind (is_table f p)) p s 0 (cells_of f p)
      (λ c. tree_part l (child_place (is_table f p)) c (suc s) top)))

-- a root's tree is not the schema's
not-schema : (b : Bool) → is_schema (cond b ordered_tree plain_tree) ≡ false
not-schema true = refl
not-schema false = refl

module _ (f : File) where
  started : {Q : Visit → Type 0} {S : List Visit} {K : Type 0} {P : List (ℕ × ℕ)} {E : List Event} → Part f Q S K P E → Part f Q S K P (start ∷ E)
  started a =
      record {
        names = a.names;
        plain = a.plain;
        closed = a.closed;
        each = a.each;
        asks = a.asks;
        clean = a.clean;
        found = a.found;
        found_all = a.found_all;
        found_plain = a.found_plain;
      }

  leaves_part : (h s k j : ℕ) → Part f FreeOnes (leaf_slots f h s k j) (Unit {0}) [] (trunk_leaves f h k j)
  unfolding leaf_slots trunk_leaves inner roots_for
  leaves_part h s zero j = silent f FreeOnes
  leaves_part h s (suc k) j =
      recast f FreeOnes (Unit {0}) (λ a. tt) (λ a. (tt, tt))
      (join f FreeOnes (named f FreeOnes (to h s (leaf_slot j) (f.trunk_leaf h j) spare) tt (silent f FreeOnes)) (leaves_part h s k (suc j)))

  pub trunk_part : (n h s : ℕ) (x : Slot) (t : ℕ) → Part f FreeOnes (trunk_to h s x n t) (Unit {0}) [] (trunk_events f n h t)
  unfolding trunk_events inner roots_for
  trunk_part zero h s x t = silent f FreeOnes
  trunk_part (suc n) h s x zero = silent f FreeOnes
  trunk_part (suc n) h s x (suc t) =
      named f FreeOnes (to h s x (suc t) (trunk n)) tt
      (recast f FreeOnes (f.trunk_count (suc t) ≤ f.trunk_room)
      (λ a. leb-true (f.trunk_count (suc t)) f.trunk_room a.0) (λ a. (le-leb (f.trunk_count (suc t)) f.trunk_room a, (tt, tt)))
      (join f FreeOnes (checked f FreeOnes (leb (f.trunk_count (suc t)) f.trunk_room) 29 (suc t))
      (join f FreeOnes (leaves_part (suc t) (suc s) (f.trunk_count (suc t)) 0) (trunk_part n (suc t) (suc s) next_slot (f.trunk_next (suc t))))))

  abbrev pub IsRoot : Visit → Type 0
  IsRoot v = v.role ≡ tree false v.page any_root 20

  pub roots_part : (ordered : List ℕ) (vs : List Visit) → ((v : Visit) → Mem v vs → IsRoot v)
      → (P : List (ℕ × ℕ)) × Part f (Wood false) vs (Unit {0}) P (root_events ordered f (map root_of vs))
  unfolding root_events
  roots_part ordered [] h = ([], silent f (Wood false))
  roots_part ordered (v ∷ vs) h =
      let r = roots_part ordered vs (λ u m. h u (there m)) in
      let e : v.role ≡ tree false v.page any_root 20 = h v (here refl) in
      let q : WoodRole false v.role = rw e (refl, tt) in
      let t : Part f (Wood false) (inner f v.page v.step v.role) (Asks f v.page v.role) (below f false 20 v.page)
      (page_events f (mode_for ordered v.page) 20 any_root v.page) =
      subst (λ o. Part f (Wood false) (inner f v.page v.step o) (Asks f v.page o) (below f false 20 v.page)
      (page_events f (mode_for ordered v.page) 20 any_root v.page)) (sym e)
      (tree_part f false (mode_for ordered v.page) (not-schema (is_named ordered v.page)) 20 any_root v.page v.step v.page) in
      let k : kind_of v.role ≡ 1 = rw e in
      let x = named f (Wood false) v q (started t) in
      let y =
      subst (λ n. Part f (Wood false) (v ∷ []) (Unit {0}) (map root_of (roots_of f v) ++ below f false 20 v.page)
      (name v.holder v.page n ∷ start ∷ page_events f (mode_for ordered v.page) 20 any_root v.page)) k x in
      (_, recast f (Wood false) (Unit {0}) (λ a. tt) (λ a. (tt, tt)) (join f (Wood false) y r.1))
