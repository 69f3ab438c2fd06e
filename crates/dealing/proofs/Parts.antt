-- Events taken apart: the visits behind a list of events, what they name, and what they ask.
use mathlib.Core.Path.{◌≡◌, refl, sym, ◌∙◌, ap, subst}
use mathlib.Core.Bool.{Bool, true, false, cond}
use mathlib.Core.Logic.{◌≢◌, ⊎_elim}
use mathlib.Core.List.{List, [], ◌∷◌, ◌++◌, map, map-append, append_assoc, append-nil}
use mathlib.Core.List.Memᴰ.{append_cases}
use mathlib.Core.List.Memᴰ.{head as here}
use mathlib.Core.List.Memᴰ.{tail as there}
use mathlib.Core.List.{Memᴰ as Mem}
use mathlib.Core.List.Memᴰ.{append_left}
use mathlib.Core.List.Memᴰ.{append_right}
use mathlib.Core.List.Permᴰ.{cons}
use mathlib.Core.List.Permᴰ.{nil}
use mathlib.Core.List.Permᴰ.{swap}
use mathlib.Core.List.Permᴰ.{trans}
use mathlib.Core.List.{Permᴰ as Perm}
use mathlib.Core.List.Permᴰ
use Prim.Native.Nat.{ℕ, zero, suc}
use native.Mathlib.Omega.{arith}
use lib.Dec.{eqb}
use borrow.Author.Tests.{eq-eqb, eqb-true}
use Rattle.dealing.specs.File.{Place, schema_root, any_root, table_page, index_page, Cell, Column4, File, child_place, is_table}
use Rattle.dealing.specs.Good.{Slot, chain_slot, next_slot}
use Rattle.dealing.specs.Walk.{Mode, is_schema, is_ordered, entry_of, Event, start, name, fail, row, key, leaf, entry, check, faults, not0}
use Rattle.dealing.specs.Walk.{chain_events, chain_of, payload_events, row_of, fit, schema_row, leaf_cell, leaf_events, child_events, key_or_chain}
use Rattle.dealing.specs.Walk.{inner_cell, inner_events}
use Rattle.dealing.proofs.Lists.{gather}
use Rattle.dealing.proofs.Rich.{Role, tree, over, trunk, spare, Visit, place_kind, first_kind, kind_of, to, chain_next, leaf_chains, index_chain}
use Rattle.dealing.proofs.Rich.{inner, roots_for, within, roots_of, ChainAsks, CellAsks, PayloadAsks, RowAsks, LeafAsks, IndexAsks, Asks}

-- permutations
module _ {A : Type 0} where
  pub perm-mem : {a : A} {l l' : List A} → Perm l l' → Mem a l → Mem a l'
  perm-mem nil m = m
  perm-mem (cons e d) (here k) = here (k ∙ e)
  perm-mem (cons e d) (there m) = there (perm-mem d m)
  perm-mem (swap e e') (here k) = there (here (k ∙ e))
  perm-mem (swap e e') (there (here k)) = here (k ∙ e')
  perm-mem (swap e e') (there (there m)) = there (there m)
  perm-mem (trans d d') m = perm-mem d' (perm-mem d m)

  pub perm-both : {a b c d : List A} → Perm a b → Perm c d → Perm (a ++ c) (b ++ d)
  perm-both {a} {b} {c} {d} p q = trans (Permᴰ.append_right c p) (Permᴰ.append_left b q)

  pub perm-cross : (a b c d : List A) → Perm ((a ++ b) ++ (c ++ d)) ((a ++ c) ++ (b ++ d))
  perm-cross a b c d =
      rw (append_assoc a b (c ++ d), append_assoc a c (b ++ d))
      (Permᴰ.append_left a (rw (← append_assoc b c d, ← append_assoc c b d) (Permᴰ.append_right d (Permᴰ.append_comm b c))))

pub gather_append : {A B : Type 0} (g : A → List B) (a b : List A) → gather g (a ++ b) ≡ gather g a ++ gather g b
gather_append g [] b = refl
gather_append g (x ∷ a) b = ap (λ l. g x ++ l) (gather_append g a b) ∙ sym (append_assoc (g x) (gather g a) (gather g b))

-- events
abbrev pub names_of : List Event → List (ℕ × ℕ × ℕ)
names_of [] = []
names_of (start ∷ es) = names_of es
names_of (name h t k ∷ es) = (h, t, k) ∷ names_of es
names_of (fail n p ∷ es) = names_of es
names_of (row p r ∷ es) = names_of es
names_of (key p k ∷ es) = names_of es
names_of (leaf p l ∷ es) = names_of es
names_of (entry p v ∷ es) = names_of es

abbrev pub Clean : List Event → Type 0
Clean [] = Unit {0}
Clean (start ∷ es) = Clean es
Clean (name h t k ∷ es) = Clean es
Clean (fail n p ∷ es) = ⊥
Clean (row p r ∷ es) = Clean es
Clean (key p k ∷ es) = Clean es
Clean (leaf p l ∷ es) = Clean es
Clean (entry p v ∷ es) = Clean es

pub names-append : (a b : List Event) → names_of (a ++ b) ≡ names_of a ++ names_of b
names-append [] b = refl
names-append (start ∷ es) b = names-append es b
names-append (name h t k ∷ es) b = ap (λ l. (h, t, k) ∷ l) (names-append es b)
names-append (fail n p ∷ es) b = names-append es b
names-append (row p r ∷ es) b = names-append es b
names-append (key p k ∷ es) b = names-append es b
names-append (leaf p l ∷ es) b = names-append es b
names-append (entry p v ∷ es) b = names-append es b

pub clean-split : (a b : List Event) → Clean (a ++ b) → Clean a × Clean b
clean-split [] b c = (tt, c)
clean-split (start ∷ es) b c = clean-split es b c
clean-split (name h t k ∷ es) b c = clean-split es b c
clean-split (fail n p ∷ es) b c = absurd c
clean-split (row p r ∷ es) b c = clean-split es b c
clean-split (key p k ∷ es) b c = clean-split es b c
clean-split (leaf p l ∷ es) b c = clean-split es b c
clean-split (entry p v ∷ es) b c = clean-split es b c

pub clean-join : (a b : List Event) → Clean a → Clean b → Clean (a ++ b)
clean-join [] b c c' = c'
clean-join (start ∷ es) b c c' = clean-join es b c c'
clean-join (name h t k ∷ es) b c c' = clean-join es b c c'
clean-join (fail n p ∷ es) b c c' = absurd c
clean-join (row p r ∷ es) b c c' = clean-join es b c c'
clean-join (key p k ∷ es) b c c' = clean-join es b c c'
clean-join (leaf p l ∷ es) b c c' = clean-join es b c c'
clean-join (entry p v ∷ es) b c c' = clean-join es b c c'

abbrev pub plain_of : Visit → ℕ × ℕ × ℕ
plain_of v = (v.holder, v.page, kind_of v.role)

abbrev pub root_of : Visit → ℕ × ℕ
root_of v = (v.holder, v.page)

abbrev pub AsksOf : File → Visit → Type 0
AsksOf f v = Asks f v.page v.role

-- The visits behind the events E: they are what S names and what they name themselves; the events
-- are clean just where K and what the visits ask hold; P are the roots found
pub record Part (f : File) (Q : Visit → Type 0) (S : List Visit) (K : Type 0) (P : List (ℕ × ℕ)) (E : List Event) : Type 0 where
  pub names : List Visit
  pub plain : names_of E ≡ map plain_of names
  pub closed : Perm names (S ++ gather (within f) names)
  pub each : (v : Visit) → Mem v names → Q v
  pub asks : Clean E → K × ((v : Visit) → Mem v names → AsksOf f v)
  pub clean : K → ((v : Visit) → Mem v names → AsksOf f v) → Clean E
  pub found : List Visit
  pub found_all : Perm found (gather (roots_of f) names)
  pub found_plain : map root_of found ≡ P

module _ (f : File) (Q : Visit → Type 0) where
  pub quiet : (K : Type 0) (E : List Event) → names_of E ≡ [] → (Clean E → K) → (K → Clean E) → Part f Q [] K [] E
  quiet K E n a b =
      record {
        names = [];
        plain = n;
        closed = nil;
        each = λ v m. elim m [ ];
        asks = λ c. (a c, λ v m. elim m [ ]);
        clean = λ k h. b k;
        found = [];
        found_all = nil;
        found_plain = refl;
      }

  pub join : {S S' : List Visit} {K K' : Type 0} {P P' : List (ℕ × ℕ)} {E E' : List Event}
      → Part f Q S K P E → Part f Q S' K' P' E' → Part f Q (S ++ S') (K × K') (P ++ P') (E ++ E')
  join {S} {S'} {K} {K'} {P} {P'} {E} {E'} a b =
      record {
        names = a.names ++ b.names;
        plain = names-append E E' ∙ rw (a.plain, b.plain, map-append);
        closed =
            rw (gather_append (within f) a.names b.names)
            (trans (perm-both a.closed b.closed) (perm-cross S (gather (within f) a.names) S' (gather (within f) b.names)));
        each = λ v m. ⊎_elim (a.each v) (b.each v) (append_cases a.names m);
        asks = λ c.
            let s = clean-split E E' c in
            let x = a.asks s.0 in
            let y = b.asks s.1 in
            ((x.0, y.0), λ v m. ⊎_elim (x.1 v) (y.1 v) (append_cases a.names m));
        clean = λ k h.
            clean-join E E' (a.clean k.0 (λ v m. h v (append_left b.names m))) (b.clean k.1 (λ v m. h v (append_right a.names m)));
        found = a.found ++ b.found;
        found_all = rw (gather_append (roots_of f) a.names b.names) (perm-both a.found_all b.found_all);
        found_plain = map-append root_of a.found b.found ∙ rw (a.found_plain, b.found_plain);
      }

  pub named : (v : Visit) {P : List (ℕ × ℕ)} {E : List Event} → Q v → Part f Q (within f v) (AsksOf f v) P E
      → Part f Q (v ∷ []) (Unit {0}) (map root_of (roots_of f v) ++ P) (name v.holder v.page (kind_of v.role) ∷ E)
  named v {P} {E} q a =
      record {
        names = v ∷ a.names;
        plain = ap (λ l. plain_of v ∷ l) a.plain;
        closed = cons refl a.closed;
        each = λ w m. each w m;
        asks = λ c. (tt, λ w m. asked w (a.asks c) m);
        clean = λ k h. a.clean (h v (here refl)) (λ w m. h w (there m));
        found = roots_of f v ++ a.found;
        found_all = Permᴰ.append_left (roots_of f v) a.found_all;
        found_plain = map-append root_of (roots_of f v) a.found ∙ rw a.found_plain;
      }
    where
      each : (w : Visit) → Mem w (v ∷ a.names) → Q w
      each w (here e) = subst Q (sym e) q
      each w (there m) = a.each w m

      asked : (w : Visit) → AsksOf f v × ((u : Visit) → Mem u a.names → AsksOf f u) → Mem w (v ∷ a.names) → AsksOf f w
      asked w h (here e) = subst (AsksOf f) (sym e) h.0
      asked w h (there m) = h.1 w m

  pub recast : {S : List Visit} {K : Type 0} {P : List (ℕ × ℕ)} {E : List Event} (K' : Type 0) → (K → K') → (K' → K) → Part f Q S K P E → Part f Q S K' P E
  recast K' i j a =
      record {
        names = a.names;
        plain = a.plain;
        closed = a.closed;
        each = a.each;
        asks = λ c. let x = a.asks c in (i x.0, x.1);
        clean = λ k h. a.clean (j k) h;
        found = a.found;
        found_all = a.found_all;
        found_plain = a.found_plain;
      }

  pub pick_part : (b : Bool) {S S' : List Visit} {K K' : Type 0} {P P' : List (ℕ × ℕ)} {E E' : List Event}
      → Part f Q S K P E → Part f Q S' K' P' E' → Part f Q (cond b S S') (cond b K K') (cond b P P') (cond b E E')
  pick_part true a a' = a
  pick_part false a a' = a'

  pub checked : (b : Bool) (n p : ℕ) → Part f Q [] (b ≡ true) [] (check b n p)
  checked true n p = quiet (true ≡ true) [] refl (λ c. refl) (λ k. tt)
  checked false n p = quiet (false ≡ true) (fail n p ∷ []) refl (λ c. absurd c) (λ k. absurd (let z : ◌≡◌ {A = ℕ} 0 1 = cc in omega arith))

  pub faulted : (n p : ℕ) → Part f Q [] (n ≡ 0) [] (faults n p)
  faulted zero p = quiet (◌≡◌ {A = ℕ} 0 0) [] refl (λ c. refl) (λ k. tt)
  faulted (suc n) p = quiet (suc n ≡ 0) (fail (suc n) p ∷ []) refl (λ c. absurd c) (λ k. absurd (omega arith))

  pub silent : Part f Q [] (Unit {0}) [] []
  silent = quiet (Unit {0}) [] refl (λ c. tt) (λ k. tt)

pub not0-true : (t : ℕ) → not0 t ≡ true → t ≢ 0
not0-true zero e = absurd (let z : ◌≡◌ {A = ℕ} 0 1 = cc in omega arith)
not0-true (suc t) e = λ z. omega arith

pub true-not0 : (t : ℕ) → t ≢ 0 → not0 t ≡ true
true-not0 zero n = absurd (n refl)
true-not0 (suc t) n = refl

-- tree and overflow pages
abbrev pub Inland : Place → Type 0
Inland schema_root = ⊥
Inland any_root = Unit {0}
Inland table_page = Unit {0}
Inland index_page = Unit {0}

abbrev pub WoodRole : Bool → Role → Type 0
WoodRole b (tree b' r p l) = (b' ≡ b) × Inland p
WoodRole b (over _ _) = Unit {0}
WoodRole b (trunk n) = ⊥
WoodRole b spare = ⊥

abbrev pub Wood : Bool → Visit → Type 0
Wood b v = WoodRole b v.role

abbrev pub FreeRole : Role → Type 0
FreeRole (tree b' r p l) = ⊥
FreeRole (over _ _) = ⊥
FreeRole (trunk n) = Unit {0}
FreeRole spare = Unit {0}

abbrev pub FreeOnes : Visit → Type 0
FreeOnes v = FreeRole v.role

pub inland-child : (t : Bool) → Inland (child_place t)
inland-child true = tt
inland-child false = tt

pub child-kind : (t : Bool) → place_kind (child_place t) ≡ 6
child-kind true = refl
child-kind false = refl

-- a cell's events, and then those of the cells after it
pub leaf-more : (f : File) (m : Mode) (p i : ℕ) (c : Cell) (cs : List Cell)
    → leaf_events f m p i (c ∷ cs)
    ≡ row_of (is_table f p) p c.row
    ++ (payload_events f p c
    ++ (entry_of (is_ordered m) (is_table f p) p c ++ (schema_row f.N (is_schema m) (f.column4 p i) p ++ leaf_events f m p (suc i) cs)))
unfolding leaf_events leaf_cell
leaf-more f m p i c cs =
    let A = row_of (is_table f p) p c.row in
    let B = payload_events f p c in
    let C = entry_of (is_ordered m) (is_table f p) p c in
    let D = schema_row f.N (is_schema m) (f.column4 p i) p in
    let E = leaf_events f m p (suc i) cs in
    append_assoc A (B ++ (C ++ D)) E ∙ ap (λ l. A ++ l) (append_assoc B (C ++ D) E ∙ ap (λ l. B ++ l) (append_assoc C D E))

pub inner-more : (f : File) (m : Mode) (below : ℕ → List Event) (p : ℕ) (c : Cell) (cs : List Cell)
    → inner_events f m below p (c ∷ cs) ≡ child_events below p c.child ++ (key_or_chain f m (is_table f p) p c ++ inner_events f m below p cs)
unfolding inner_events inner_cell
inner-more f m below p c cs = append_assoc (child_events below p c.child) (key_or_chain f m (is_table f p) p c) (inner_events f m below p cs)

module _ (f : File) (w : Bool) where
  pub chain_part : (n : ℕ) (b : Bool) (x : Slot) (h s t : ℕ)
      → Part f (Wood w) (chain_next h s x b n t) (ChainAsks n t) [] (chain_events f h (first_kind b) n t)
  unfolding chain_events inner roots_for
  chain_part zero b x h s t = recast f (Wood w) (t ≡ 0) (λ e. eqb-true t 0 e) (λ e. eq-eqb t 0 e) (checked f (Wood w) (eqb t 0) 27 h)
  chain_part (suc n) b x h s t =
      recast f (Wood w) (t ≢ 0) (λ k. not0-true t k.0) (λ k. (true-not0 t k, tt))
      (join f (Wood w) (checked f (Wood w) (not0 t) 27 h)
      (named f (Wood w) (to h s x t (over b n)) tt (chain_part n false next_slot t (suc s) (f.next t))))

  pub cell_part : (n : ℕ) (x : Slot) (h s t : ℕ) → Part f (Wood w) (chain_next h s x true n t) (CellAsks n t) [] (chain_of f h n t)
  unfolding chain_of
  cell_part zero x h s t = silent f (Wood w)
  cell_part (suc n) x h s t = chain_part (suc n) true x h s t

  pub payload_part : (x : Slot) (h s : ℕ) (c : Cell) → Part f (Wood w) (chain_next h s x true c.links c.first) (PayloadAsks c) [] (payload_events f h c)
  unfolding payload_events
  payload_part x h s c =
      subst (λ S. Part f (Wood w) S (PayloadAsks c) [] (chain_of f h c.links c.first ++ check c.reads 28 h))
      (append-nil (chain_next h s x true c.links c.first))
      (join f (Wood w) (cell_part c.links x h s c.first) (checked f (Wood w) c.reads 28 h))

  row_part : (t : Bool) (p r : ℕ) → Part f (Wood w) [] (Unit {0}) [] (row_of t p r)
  row_part true p r = quiet f (Wood w) (Unit {0}) (row p r ∷ []) refl (λ c. tt) (λ k. tt)
  row_part false p r = silent f (Wood w)

  schema_part : (b : Bool) (v : Column4) (p : ℕ) → Part f (Wood w) [] (RowAsks f.N b v) [] (schema_row f.N b v p)
  schema_part true v p = checked f (Wood w) (fit f.N v) 28 p
  schema_part false v p = silent f (Wood w)

  entry_part : (o t : Bool) (p : ℕ) (c : Cell) → Part f (Wood w) [] (Unit {0}) [] (entry_of o t p c)
  entry_part o true p c = silent f (Wood w)
  entry_part true false p c = quiet f (Wood w) (Unit {0}) (entry p c.key ∷ []) refl (λ k. tt) (λ k. tt)
  entry_part false false p c = silent f (Wood w)

  module _ (m : Mode) where
    pub leaf_part : is_schema m ≡ w → (h s i : ℕ) (cs : List Cell) → Part f (Wood w) (leaf_chains h s i cs) (LeafAsks f w h i cs) [] (leaf_events f m h i cs)
    unfolding leaf_chains
    leaf_part is h s i [] = unfold leaf_events in silent f (Wood w)
    leaf_part is h s i (c ∷ cs) =
        subst (λ E. Part f (Wood w) (leaf_chains h s i (c ∷ cs)) (LeafAsks f w h i (c ∷ cs)) [] E) (sym (leaf-more f m h i c cs))
        (recast f (Wood w) (LeafAsks f w h i (c ∷ cs)) (λ k. (k.1.0, k.1.1.1.0, k.1.1.1.1)) (λ k. (tt, (k.0, (tt, (k.1, k.2)))))
        (join f (Wood w) (row_part (is_table f h) h c.row)
        (join f (Wood w) (payload_part (chain_slot i) h s c)
        (join f (Wood w) (entry_part (is_ordered m) (is_table f h) h c)
        (join f (Wood w) (subst (λ b. Part f (Wood w) [] (RowAsks f.N w (f.column4 h i)) [] (schema_row f.N b (f.column4 h i) h)) (sym is)
        (schema_part w (f.column4 h i) h))
        (leaf_part is h s (suc i) cs))))))

    pub key_part : (t : Bool) (h s i : ℕ) (c : Cell) → Part f (Wood w) (index_chain t h s i c) (IndexAsks t c) [] (key_or_chain f m t h c)
    key_part true h s i c = quiet f (Wood w) (Unit {0}) (key h c.row ∷ []) refl (λ k. tt) (λ k. tt)
    key_part false h s i c =
        subst (λ S. Part f (Wood w) S (IndexAsks false c) [] (key_or_chain f m false h c)) (append-nil (index_chain false h s i c))
        (recast f (Wood w) (IndexAsks false c) (λ k. k.0) (λ k. (k, tt))
        (join f (Wood w) (payload_part (chain_slot i) h s c) (entry_part (is_ordered m) false h c)))
