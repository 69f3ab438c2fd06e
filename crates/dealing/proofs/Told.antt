-- Which visits a visit makes, slot by slot.
use mathlib.Core.Path.{◌≡◌, refl, sym, ◌∙◌, ap, subst}
use mathlib.Core.Bool.{Bool, true, false, cond}
use mathlib.Core.Logic.{◌≢◌, ◌⊎◌, inl, inr, ⊎_elim}
use mathlib.Core.Option.{none, some}
use mathlib.Core.List.{List, [], ◌∷◌, ◌++◌, append-nil}
use mathlib.Core.List.Memᴰ.{append_cases}
use mathlib.Core.List.Memᴰ.{head as here}
use mathlib.Core.List.Memᴰ.{tail as there}
use mathlib.Core.List.{Memᴰ as Mem}
use mathlib.Core.List.Memᴰ.{append_left}
use mathlib.Core.List.Memᴰ.{append_right}
use Prim.Native.Nat.{ℕ, zero, suc, ◌+◌, ◌<◌}
use native.Mathlib.Nat.{zero-add}
use native.Mathlib.Omega.{arith}
use Rattle.dealing.specs.File.{Place, schema_root, any_root, table_page, index_page, Cell, File, child_place, payload, is_leaf, is_table, cells_of}
use Rattle.dealing.proofs.Lists.{At}
use Rattle.dealing.specs.Walk.{Named, nothing, root}
use Rattle.dealing.specs.Good.{Slot, child_slot, right_slot, chain_slot, root_slot, head_slot, leaf_slot, next_slot}
use Rattle.dealing.proofs.Rich.{Role, tree, over, trunk, spare, Visit, to, chain_next, leaf_chains, index_chain, inner_slots, leaf_slots, trunk_to}
use Rattle.dealing.proofs.Rich.{root_in, root_to, root_slots}
use Rattle.dealing.proofs.Rich.{inner, roots_for, free_for, head_for}

abbrev pub ToldTree : File → (q : ℕ) → Bool → (top : ℕ) → Place → (left : ℕ) → Slot → ℕ → Role → Type 0
ToldTree f q b r p l (child_slot j) t o =
    (l' : ℕ) × (l ≡ suc l') × (is_leaf f q ≡ false) × ((c : Cell) × At (cells_of f q) j c × (t ≡ c.child))
    × (o ≡ tree b r (child_place (is_table f q)) l')
ToldTree f q b r p l right_slot t o = (l' : ℕ) × (l ≡ suc l') × (is_leaf f q ≡ false) × (t ≡ f.right q) × (o ≡ tree b r (child_place (is_table f q)) l')
ToldTree f q b r p l (chain_slot j) t o =
    (l' : ℕ) × (l ≡ suc l') × (payload (is_leaf f q) (is_table f q) ≡ true)
    × ((c : Cell) × (n : ℕ) × At (cells_of f q) j c × (c.links ≡ suc n) × (t ≡ c.first) × (o ≡ over true n))
ToldTree f q b r p l (root_slot j) t o =
    (l' : ℕ) × (l ≡ suc l') × (b ≡ true) × (is_leaf f q ≡ true) × ((c : Cell) × At (cells_of f q) j c) × (root_in f q j ≡ root t) × (o ≡ tree false t any_root 20)
ToldTree f q b r p l head_slot t o = (p ≡ schema_root) × (f.free_head ≢ 0) × (t ≡ f.free_head) × (o ≡ trunk f.N)
ToldTree f q b r p l (leaf_slot j) t o = ⊥
ToldTree f q b r p l next_slot t o = ⊥

abbrev pub ToldOver : File → (q n : ℕ) → Slot → ℕ → Role → Type 0
ToldOver f q n (child_slot j) t o = ⊥
ToldOver f q n right_slot t o = ⊥
ToldOver f q n (chain_slot j) t o = ⊥
ToldOver f q n (root_slot j) t o = ⊥
ToldOver f q n head_slot t o = ⊥
ToldOver f q n (leaf_slot j) t o = ⊥
ToldOver f q n next_slot t o = (n' : ℕ) × (n ≡ suc n') × (t ≡ f.next q) × (o ≡ over false n')

abbrev pub ToldTrunk : File → (q n : ℕ) → Slot → ℕ → Role → Type 0
ToldTrunk f q n (child_slot j) t o = ⊥
ToldTrunk f q n right_slot t o = ⊥
ToldTrunk f q n (chain_slot j) t o = ⊥
ToldTrunk f q n (root_slot j) t o = ⊥
ToldTrunk f q n head_slot t o = ⊥
ToldTrunk f q n (leaf_slot j) t o = (j < f.trunk_count q) × (t ≡ f.trunk_leaf q j) × (o ≡ spare)
ToldTrunk f q n next_slot t o = (n' : ℕ) × (n ≡ suc n') × (f.trunk_next q ≢ 0) × (t ≡ f.trunk_next q) × (o ≡ trunk n')

abbrev pub Told : File → (q : ℕ) → Role → Slot → ℕ → Role → Type 0
Told f q (tree b r p l) x t o = ToldTree f q b r p l x t o
Told f q (over b n) x t o = ToldOver f q n x t o
Told f q (trunk n) x t o = ToldTrunk f q n x t o
Told f q spare x t o = ⊥

pub record Said (f : File) (q s : ℕ) (o : Role) (m : Visit) : Type 0 where
  pub holder : m.holder ≡ q
  pub step : m.step ≡ suc s
  pub told : Told f q o m.slot m.page m.role

-- lists of slots
none-some : {A B : Type 0} (a : A) → none ≡ some a → B
none-some a e = absurd (let z : ◌≡◌ {A = ℕ} 0 1 = cc in omega arith)

module _ (h s : ℕ) where
  pub chain-out : (x : Slot) (b : Bool) (n t : ℕ) (m : Visit) → Mem m (chain_next h s x b n t) → (k : ℕ) × (n ≡ suc k) × (m ≡ to h s x t (over b k))
  chain-out x b zero t m i = elim i [ ]
  chain-out x b (suc n) t m (here e) = (n, refl, e)
  chain-out x b (suc n) t m (there i) = elim i [ ]

  chain-in : (x : Slot) (b : Bool) (n t k : ℕ) → n ≡ suc k → Mem (to h s x t (over b k)) (chain_next h s x b n t)
  chain-in x b n t k e = subst (λ n. Mem (to h s x t (over b k)) (chain_next h s x b n t)) (sym e) (here refl)

  pub record AtChain (i : ℕ) (cs : List Cell) (m : Visit) : Type 0 where
    pub j : ℕ
    pub c : Cell
    pub n : ℕ
    pub at : At cs j c
    pub links : c.links ≡ suc n
    pub is : m ≡ to h s (chain_slot (i + j)) c.first (over true n)

  pub chains-out : (i : ℕ) (cs : List Cell) (m : Visit) → Mem m (leaf_chains h s i cs) → AtChain i cs m
  unfolding leaf_chains
  chains-out i [] m k = elim k [ ]
  chains-out i (c ∷ cs) m k = go (chains-out (suc i) cs m) (append_cases (chain_next h s (chain_slot i) true c.links c.first) k)
    where
      go : (Mem m (leaf_chains h s (suc i) cs) → AtChain (suc i) cs m)
          → Mem m (chain_next h s (chain_slot i) true c.links c.first) ⊎ Mem m (leaf_chains h s (suc i) cs)
          → AtChain i (c ∷ cs) m
      go ih (inl a) =
          let r = chain-out (chain_slot i) true c.links c.first m a in
          let e : i ≡ i + 0 = omega arith in
          record { j = 0; c = c; n = r.0; at = refl; links = r.1; is = r.2 ∙ ap (λ i. to h s (chain_slot i) c.first (over true r.0)) e }
      go ih (inr a) =
          let r = ih a in
          let e : suc i + r.j ≡ i + suc r.j = omega arith in
          record {
            j = suc r.j;
            c = r.c;
            n = r.n;
            at = r.at;
            links = r.links;
            is = r.is
                ∙ ap (λ i. to h s (chain_slot i) r.c.first (over true r.n)) e;
          }

  chains-in : (i : ℕ) (cs : List Cell) (j : ℕ) (c : Cell) (n : ℕ) → At cs j c → c.links ≡ suc n
      → Mem (to h s (chain_slot (i + j)) c.first (over true n)) (leaf_chains h s i cs)
  unfolding leaf_chains
  chains-in i [] j c n a l = none-some c a
  chains-in i (x ∷ cs) zero c n a l =
      let e : x ≡ c = cc in
      let k : i ≡ i + 0 = omega arith in
      append_left (leaf_chains h s (suc i) cs)
      (subst (λ y. Mem (to h s (chain_slot (i + 0)) c.first (over true n)) (chain_next h s (chain_slot i) true y.links y.first)) (sym e)
      (subst (λ z. Mem (to h s (chain_slot z) c.first (over true n)) (chain_next h s (chain_slot i) true c.links c.first)) k
      (chain-in (chain_slot i) true c.links c.first n l)))
  chains-in i (x ∷ cs) (suc j) c n a l =
      let e : suc i + j ≡ i + suc j = omega arith in
      append_right (chain_next h s (chain_slot i) true x.links x.first)
      (subst (λ z. Mem (to h s (chain_slot z) c.first (over true n)) (leaf_chains h s (suc i) cs)) e (chains-in (suc i) cs j c n a l))

  pub record AtChild (o : Role) (i : ℕ) (cs : List Cell) (m : Visit) : Type 0 where
    pub j : ℕ
    pub c : Cell
    pub at : At cs j c
    pub is : m ≡ to h s (child_slot (i + j)) c.child o

  abbrev pub Inner : Bool → ℕ → Role → ℕ → List Cell → Visit → Type 0
  Inner t r o i cs m = (m ≡ to h s right_slot r o) ⊎ (AtChild o i cs m ⊎ ((t ≡ false) × AtChain i cs m))

  pub index-out : (t : Bool) (i : ℕ) (c : Cell) (m : Visit) → Mem m (index_chain t h s i c)
      → (t ≡ false) × ((k : ℕ) × (c.links ≡ suc k) × (m ≡ to h s (chain_slot i) c.first (over true k)))
  index-out true i c m k = elim k [ ]
  index-out false i c m k = (refl, chain-out (chain_slot i) true c.links c.first m k)

  pub inner_out : (t : Bool) (r : ℕ) (o : Role) (i : ℕ) (cs : List Cell) (m : Visit) → Mem m (inner_slots t r o h s i cs) → Inner t r o i cs m
  unfolding inner_slots
  inner_out t r o i [] m (here e) = inl e
  inner_out t r o i [] m (there k) = elim k [ ]
  inner_out t r o i (c ∷ cs) m (here e) =
      let k : i ≡ i + 0 = omega arith in
      inr (inl (record { j = 0; c = c; at = refl; is = e ∙ ap (λ i. to h s (child_slot i) c.child o) k }))
  inner_out t r o i (c ∷ cs) m (there k) = go (inner_out t r o (suc i) cs m) (append_cases (index_chain t h s i c) k)
    where
      go : (Mem m (inner_slots t r o h s (suc i) cs) → Inner t r o (suc i) cs m)
          → Mem m (index_chain t h s i c) ⊎ Mem m (inner_slots t r o h s (suc i) cs) → Inner t r o i (c ∷ cs) m
      go ih (inl a) =
          let w = index-out t i c m a in
          let k : i ≡ i + 0 = omega arith in
          inr (inr (
            w.0,
            record {
              j = 0;
              c = c;
              n = w.1.0;
              at = refl;
              links = w.1.1;
              is = w.1.2
                  ∙ ap (λ i. to h s (chain_slot i) c.first (over true w.1.0)) k;
            },
          ))
      go ih (inr a) = more (ih a)
        where
          more : Inner t r o (suc i) cs m → Inner t r o i (c ∷ cs) m
          more (inl e) = inl e
          more (inr (inl w)) =
              let e : suc i + w.j ≡ i + suc w.j = omega arith in
              inr (inl (record { j = suc w.j; c = w.c; at = w.at; is = w.is ∙ ap (λ i. to h s (child_slot i) w.c.child o) e }))
          more (inr (inr w)) =
              let u = w.1 in
              let e : suc i + u.j ≡ i + suc u.j = omega arith in
              inr (inr (
                w.0,
                record {
                  j = suc u.j;
                  c = u.c;
                  n = u.n;
                  at = u.at;
                  links = u.links;
                  is = u.is
                      ∙ ap (λ i. to h s (chain_slot i) u.c.first (over true u.n)) e;
                },
              ))

  right-in : (t : Bool) (r : ℕ) (o : Role) (i : ℕ) (cs : List Cell) → Mem (to h s right_slot r o) (inner_slots t r o h s i cs)
  unfolding inner_slots
  right-in t r o i [] = here refl
  right-in t r o i (c ∷ cs) = there (append_right (index_chain t h s i c) (right-in t r o (suc i) cs))

  child-in : (t : Bool) (r : ℕ) (o : Role) (i : ℕ) (cs : List Cell) (j : ℕ) (c : Cell) → At cs j c
      → Mem (to h s (child_slot (i + j)) c.child o) (inner_slots t r o h s i cs)
  unfolding inner_slots
  child-in t r o i [] j c a = none-some c a
  child-in t r o i (x ∷ cs) zero c a =
      let e : c ≡ x = cc in
      let k : i + 0 ≡ i = omega arith in
      here (ap (λ z. to h s (child_slot z) c.child o) k ∙ ap (λ (y : Cell). to h s (child_slot i) y.child o) e)
  child-in t r o i (x ∷ cs) (suc j) c a =
      let e : suc i + j ≡ i + suc j = omega arith in
      there (append_right (index_chain t h s i x)
      (subst (λ z. Mem (to h s (child_slot z) c.child o) (inner_slots t r o h s (suc i) cs)) e (child-in t r o (suc i) cs j c a)))

  index_in : (r : ℕ) (o : Role) (i : ℕ) (cs : List Cell) (j : ℕ) (c : Cell) (n : ℕ) → At cs j c → c.links ≡ suc n
      → Mem (to h s (chain_slot (i + j)) c.first (over true n)) (inner_slots false r o h s i cs)
  unfolding inner_slots
  index_in r o i [] j c n a l = none-some c a
  index_in r o i (x ∷ cs) zero c n a l =
      let e : x ≡ c = cc in
      let k : i ≡ i + 0 = omega arith in
      there (append_left (inner_slots false r o h s (suc i) cs)
      (subst (λ y. Mem (to h s (chain_slot (i + 0)) c.first (over true n)) (chain_next h s (chain_slot i) true y.links y.first)) (sym e)
      (subst (λ z. Mem (to h s (chain_slot z) c.first (over true n)) (chain_next h s (chain_slot i) true c.links c.first)) k
      (chain-in (chain_slot i) true c.links c.first n l))))
  index_in r o i (x ∷ cs) (suc j) c n a l =
      let e : suc i + j ≡ i + suc j = omega arith in
      there (append_right (index_chain false h s i x)
      (subst (λ z. Mem (to h s (chain_slot z) c.first (over true n)) (inner_slots false r o h s (suc i) cs)) e (index_in r o (suc i) cs j c n a l)))

  module _ (f : File) where
    pub record AtRoot (i : ℕ) (cs : List Cell) (m : Visit) : Type 0 where
      pub j : ℕ
      pub c : Cell
      pub r : ℕ
      pub at : At cs j c
      pub reads : root_in f h (i + j) ≡ root r
      pub is : m ≡ to h s (root_slot (i + j)) r (tree false r any_root 20)

    pub root-out : (i : ℕ) (v : Named) (m : Visit) → Mem m (root_to h s i v) → (r : ℕ) × (v ≡ root r) × (m ≡ to h s (root_slot i) r (tree false r any_root 20))
    root-out i nothing m k = elim k [ ]
    root-out i (root r) m (here e) = (r, refl, e)
    root-out i (root r) m (there k) = elim k [ ]

    pub roots-out : (i : ℕ) (cs : List Cell) (m : Visit) → Mem m (root_slots f h s i cs) → AtRoot i cs m
    unfolding root_slots
    roots-out i [] m k = elim k [ ]
    roots-out i (c ∷ cs) m k = go (roots-out (suc i) cs m) (append_cases (root_to h s i (root_in f h i)) k)
      where
        go : (Mem m (root_slots f h s (suc i) cs) → AtRoot (suc i) cs m) → Mem m (root_to h s i (root_in f h i)) ⊎ Mem m (root_slots f h s (suc i) cs)
            → AtRoot i (c ∷ cs) m
        go ih (inl a) =
            let w = root-out i (root_in f h i) m a in
            let e : i ≡ i + 0 = omega arith in
            record {
              j = 0;
              c = c;
              r = w.0;
              at = refl;
              reads = ap (λ i. root_in f h i) (sym e) ∙ w.1;
              is = w.2
                  ∙ ap (λ i. to h s (root_slot i) w.0 (tree false w.0 any_root 20)) e;
            }
        go ih (inr a) =
            let w = ih a in
            let e : suc i + w.j ≡ i + suc w.j = omega arith in
            record {
              j = suc w.j;
              c = w.c;
              r = w.r;
              at = w.at;
              reads = ap (λ i. root_in f h i) (sym e) ∙ w.reads;
              is = w.is
                  ∙ ap (λ i. to h s (root_slot i) w.r (tree false w.r any_root 20)) e;
            }

    roots-in : (i : ℕ) (cs : List Cell) (j : ℕ) (c : Cell) (r : ℕ) → At cs j c → root_in f h (i + j) ≡ root r
        → Mem (to h s (root_slot (i + j)) r (tree false r any_root 20)) (root_slots f h s i cs)
    unfolding root_slots
    roots-in i [] j c r a e = none-some c a
    roots-in i (x ∷ cs) zero c r a e =
        let k : i + 0 ≡ i = omega arith in
        append_left (root_slots f h s (suc i) cs)
        (subst (λ v. Mem (to h s (root_slot (i + 0)) r (tree false r any_root 20)) (root_to h s i v)) (sym (ap (λ i. root_in f h i) (sym k) ∙ e))
        (here (ap (λ z. to h s (root_slot z) r (tree false r any_root 20)) k)))
    roots-in i (x ∷ cs) (suc j) c r a e =
        let k : suc i + j ≡ i + suc j = omega arith in
        append_right (root_to h s i (root_in f h i))
        (subst (λ z. Mem (to h s (root_slot z) r (tree false r any_root 20)) (root_slots f h s (suc i) cs)) k
        (roots-in (suc i) cs j c r a (ap (λ i. root_in f h i) k ∙ e)))

    pub leaves-out : (k j : ℕ) (m : Visit) → Mem m (leaf_slots f h s k j) → (i : ℕ) × (i < k) × (m ≡ to h s (leaf_slot (j + i)) (f.trunk_leaf h (j + i)) spare)
    unfolding leaf_slots
    leaves-out zero j m a = elim a [ ]
    leaves-out (suc k) j m (here e) = let q : j ≡ j + 0 = omega arith in (0, omega arith, e ∙ ap (λ j. to h s (leaf_slot j) (f.trunk_leaf h j) spare) q)
    leaves-out (suc k) j m (there a) =
        let w = leaves-out k (suc j) m a in
        let q : suc j + w.0 ≡ j + suc w.0 = omega arith in
        (suc w.0, omega (arith, w.1), w.2 ∙ ap (λ j. to h s (leaf_slot j) (f.trunk_leaf h j) spare) q)

    leaves_in : (k j i : ℕ) → i < k → Mem (to h s (leaf_slot (j + i)) (f.trunk_leaf h (j + i)) spare) (leaf_slots f h s k j)
    unfolding leaf_slots
    leaves_in zero j i a = absurd (omega arith)
    leaves_in (suc k) j zero a = let q : j + 0 ≡ j = omega arith in here (ap (λ j. to h s (leaf_slot j) (f.trunk_leaf h j) spare) q)
    leaves_in (suc k) j (suc i) a =
        let q : suc j + i ≡ j + suc i = omega arith in
        there (subst (λ z. Mem (to h s (leaf_slot z) (f.trunk_leaf h z) spare) (leaf_slots f h s k (suc j))) q (leaves_in k (suc j) i (omega arith)))

  pub trunk-out : (x : Slot) (n t : ℕ) (m : Visit) → Mem m (trunk_to h s x n t) → (k : ℕ) × (n ≡ suc k) × (t ≢ 0) × (m ≡ to h s x t (trunk k))
  trunk-out x zero t m a = elim a [ ]
  trunk-out x (suc n) zero m a = elim a [ ]
  trunk-out x (suc n) (suc t) m (here e) = (n, refl, (λ z. omega arith), e)
  trunk-out x (suc n) (suc t) m (there a) = elim a [ ]

  trunk-in : (x : Slot) (n t k : ℕ) → n ≡ suc k → t ≢ 0 → Mem (to h s x t (trunk k)) (trunk_to h s x n t)
  trunk-in x zero t k e z = absurd (omega arith)
  trunk-in x (suc n) zero k e z = absurd (z refl)
  trunk-in x (suc n) (suc t) k e z = let q : k ≡ n = omega arith in here (ap (λ k. to h s x (suc t) (trunk k)) q)

-- a visit of the slots is told by them, and the other way round
module _ (f : File) (q s : ℕ) where
  abbrev all : Role → List Visit
  all o = inner f q s o ++ (free_for f q s o ++ roots_for f q s o)

  said : (o : Role) (x : Slot) (t : ℕ) (o' : Role) (m : Visit) → m ≡ to q s x t o' → Told f q o x t o' → Said f q s o m
  said o x t o' m e w = subst (Said f q s o) (sym e) (record { holder = refl; step = refl; told = w })

  from-leaf : (b : Bool) (r : ℕ) (p : Place) (l : ℕ) (m : Visit) → is_leaf f q ≡ true → Mem m (leaf_chains q s 0 (cells_of f q))
      → Said f q s (tree b r p (suc l)) m
  from-leaf b r p l m e k =
      let w = chains-out q s 0 (cells_of f q) m k in
      said (tree b r p (suc l)) (chain_slot w.j) w.c.first (over true w.n) m
      (w.is ∙ ap (λ i. to q s (chain_slot i) w.c.first (over true w.n)) (zero-add w.j))
      (l, refl, rw e, (w.c, w.n, w.at, w.links, refl, refl))

  from_inner : (b : Bool) (r : ℕ) (p : Place) (l : ℕ) (m : Visit) → is_leaf f q ≡ false
      → Inner q s (is_table f q) (f.right q) (tree b r (child_place (is_table f q)) l) 0 (cells_of f q) m → Said f q s (tree b r p (suc l)) m
  from_inner b r p l m e (inl k) = said (tree b r p (suc l)) right_slot (f.right q) (tree b r (child_place (is_table f q)) l) m k (l, refl, e, refl, refl)
  from_inner b r p l m e (inr (inl w)) =
      said (tree b r p (suc l)) (child_slot w.j) w.c.child (tree b r (child_place (is_table f q)) l) m
      (w.is ∙ ap (λ i. to q s (child_slot i) w.c.child (tree b r (child_place (is_table f q)) l)) (zero-add w.j))
      (l, refl, e, (w.c, w.at, refl), refl)
  from_inner b r p l m e (inr (inr u)) =
      let w = u.1 in
      said (tree b r p (suc l)) (chain_slot w.j) w.c.first (over true w.n) m
      (w.is ∙ ap (λ i. to q s (chain_slot i) w.c.first (over true w.n)) (zero-add w.j))
      (l, refl, rw (e, u.0), (w.c, w.n, w.at, w.links, refl, refl))

  from-tree : (b : Bool) (r : ℕ) (p : Place) (l : ℕ) (m : Visit) → Mem m (inner f q s (tree b r p l)) → Said f q s (tree b r p l) m
  unfolding inner
  from-tree b r p zero m k = elim k [ ]
  from-tree b r p (suc l) m k = go (is_leaf f q) refl k
    where
      go : (y : Bool) → is_leaf f q ≡ y
          → Mem m (cond y (leaf_chains q s 0 (cells_of f q))
          (inner_slots (is_table f q) (f.right q) (tree b r (child_place (is_table f q)) l) q s 0 (cells_of f q)))
          → Said f q s (tree b r p (suc l)) m
      go true e k = from-leaf b r p l m e k
      go false e k = from_inner b r p l m e (inner_out q s (is_table f q) (f.right q) (tree b r (child_place (is_table f q)) l) 0 (cells_of f q) m k)

  from-head : (b : Bool) (r : ℕ) (p : Place) (l : ℕ) (m : Visit) → Mem m (head_for f q s p) → Said f q s (tree b r p l) m
  from-head b r schema_root l m k =
      let w = trunk-out q s head_slot (suc f.N) f.free_head m k in
      let e : w.0 ≡ f.N = (let z = w.1 in omega arith) in
      said (tree b r schema_root l) head_slot f.free_head (trunk f.N) m (w.3 ∙ ap (λ n. to q s head_slot f.free_head (trunk n)) e) (refl, w.2, refl, refl)
  from-head b r any_root l m k = elim k [ ]
  from-head b r table_page l m k = elim k [ ]
  from-head b r index_page l m k = elim k [ ]

  from-roots : (b : Bool) (r : ℕ) (p : Place) (l : ℕ) (m : Visit) → Mem m (roots_for f q s (tree b r p l)) → Said f q s (tree b r p l) m
  unfolding roots_for
  from-roots true r p zero m k = elim k [ ]
  from-roots false r p l m k = elim k [ ]
  from-roots true r p (suc l) m k = go (is_leaf f q) refl k
    where
      go : (y : Bool) → is_leaf f q ≡ y → Mem m (cond y (root_slots f q s 0 (cells_of f q)) []) → Said f q s (tree true r p (suc l)) m
      go true e k =
          let w = roots-out q s f 0 (cells_of f q) m k in
          said (tree true r p (suc l)) (root_slot w.j) w.r (tree false w.r any_root 20) m
          (w.is ∙ ap (λ i. to q s (root_slot i) w.r (tree false w.r any_root 20)) (zero-add w.j))
          (l, refl, refl, e, (w.c, w.at), ap (λ i. root_in f q i) (sym (zero-add w.j)) ∙ w.reads, refl)
      go false e k = elim k [ ]

  pub describe : (o : Role) (m : Visit) → Mem m (all o) → Said f q s o m
  unfolding free_for
  describe (tree b r p l) m k =
      ⊎_elim (from-tree b r p l m) (λ k. ⊎_elim (from-head b r p l m) (from-roots b r p l m) (append_cases (head_for f q s p) k))
      (append_cases (inner f q s (tree b r p l)) k)
  describe (over b n) m k = unfold inner roots_for in (
      let w = chain-out q s next_slot false n (f.next q) m (rw append-nil at k) in
      said (over b n) next_slot (f.next q) (over false w.0) m w.2 (w.0, w.1, refl, refl))
  describe (trunk n) m k = unfold inner roots_for in go (append_cases (leaf_slots f q s (f.trunk_count q) 0) (rw append-nil at k))
    where
      go : Mem m (leaf_slots f q s (f.trunk_count q) 0) ⊎ Mem m (trunk_to q s next_slot n (f.trunk_next q)) → Said f q s (trunk n) m
      go (inl a) =
          let w = leaves-out q s f (f.trunk_count q) 0 m a in
          said (trunk n) (leaf_slot w.0) (f.trunk_leaf q w.0) spare m
          (w.2 ∙ ap (λ j. to q s (leaf_slot j) (f.trunk_leaf q j) spare) (zero-add w.0)) (w.1, refl, refl)
      go (inr a) =
          let w = trunk-out q s next_slot n (f.trunk_next q) m a in
          said (trunk n) next_slot (f.trunk_next q) (trunk w.0) m w.3 (w.0, w.1, w.2, refl, refl)
  describe spare m k = unfold inner roots_for in elim k [ ]

  leaf-in : (b : Bool) (r : ℕ) (p : Place) (l j : ℕ) (c : Cell) (n : ℕ) → (y z : Bool) → is_leaf f q ≡ y → is_table f q ≡ z → payload y z ≡ true
      → At (cells_of f q) j c → c.links ≡ suc n
      → Mem (to q s (chain_slot j) c.first (over true n)) (inner f q s (tree b r p (suc l)))
  unfolding inner
  leaf-in b r p l j c n true z e e' k a i =
      rw e (subst (λ j. Mem (to q s (chain_slot j) c.first (over true n)) (leaf_chains q s 0 (cells_of f q))) (zero-add j)
      (chains-in q s 0 (cells_of f q) j c n a i))
  leaf-in b r p l j c n false true e e' k a i = absurd (let z : ◌≡◌ {A = ℕ} 0 1 = cc in omega arith)
  leaf-in b r p l j c n false false e e' k a i =
      rw (e, e')
      (subst (λ j. Mem (to q s (chain_slot j) c.first (over true n)) (inner_slots false (f.right q) (tree b r index_page l) q s 0 (cells_of f q))) (zero-add j)
      (index_in q s (f.right q) (tree b r index_page l) 0 (cells_of f q) j c n a i))

  tree-child-in : (b : Bool) (r : ℕ) (p : Place) (l j : ℕ) (c : Cell) → is_leaf f q ≡ false → At (cells_of f q) j c
      → Mem (to q s (child_slot j) c.child (tree b r (child_place (is_table f q)) l)) (inner f q s (tree b r p (suc l)))
  unfolding inner
  tree-child-in b r p l j c e a =
      let o : Role = tree b r (child_place (is_table f q)) l in
      rw e (subst (λ j. Mem (to q s (child_slot j) c.child o) (inner_slots (is_table f q) (f.right q) o q s 0 (cells_of f q))) (zero-add j)
      (child-in q s (is_table f q) (f.right q) o 0 (cells_of f q) j c a))

  tree-right-in : (b : Bool) (r : ℕ) (p : Place) (l : ℕ) → is_leaf f q ≡ false
      → Mem (to q s right_slot (f.right q) (tree b r (child_place (is_table f q)) l)) (inner f q s (tree b r p (suc l)))
  unfolding inner
  tree-right-in b r p l e = rw e (right-in q s (is_table f q) (f.right q) (tree b r (child_place (is_table f q)) l) 0 (cells_of f q))

  tree-root-in : (r : ℕ) (p : Place) (l j : ℕ) (c : Cell) (t : ℕ) → is_leaf f q ≡ true → At (cells_of f q) j c → root_in f q j ≡ root t
      → Mem (to q s (root_slot j) t (tree false t any_root 20)) (roots_for f q s (tree true r p (suc l)))
  unfolding roots_for
  tree-root-in r p l j c t e a k =
      rw e (subst (λ j. Mem (to q s (root_slot j) t (tree false t any_root 20)) (root_slots f q s 0 (cells_of f q))) (zero-add j)
      (roots-in q s f 0 (cells_of f q) j c t a (ap (λ i. root_in f q i) (zero-add j) ∙ k)))

  undescribe-tree : (b : Bool) (r : ℕ) (p : Place) (l : ℕ) (x : Slot) (t : ℕ) (o' : Role) → ToldTree f q b r p l x t o'
      → Mem (to q s x t o') (all (tree b r p l))
  unfolding free_for
  undescribe-tree b r p l (child_slot j) t o' w =
      rw (w.1, w.3.2, w.4)
      (append_left (head_for f q s p ++ roots_for f q s (tree b r p (suc w.0))) (tree-child-in b r p w.0 j w.3.0 w.2 w.3.1))
  undescribe-tree b r p l right_slot t o' w =
      rw (w.1, w.3, w.4) (append_left (head_for f q s p ++ roots_for f q s (tree b r p (suc w.0))) (tree-right-in b r p w.0 w.2))
  undescribe-tree b r p l (chain_slot j) t o' w =
      let u = w.3 in
      rw (w.1, u.4, u.5)
      (append_left (head_for f q s p ++ roots_for f q s (tree b r p (suc w.0)))
      (leaf-in b r p w.0 j u.0 u.1 (is_leaf f q) (is_table f q) refl refl w.2 u.2 u.3))
  undescribe-tree b r p l (root_slot j) t o' w =
      rw (w.1, w.2, w.6)
      (append_right (inner f q s (tree true r p (suc w.0))) (append_right (head_for f q s p) (tree-root-in r p w.0 j w.4.0 t w.3 w.4.1 w.5)))
  undescribe-tree b r p l head_slot t o' w =
      rw (w.0, w.2, w.3)
      (append_right (inner f q s (tree b r schema_root l))
      (append_left (roots_for f q s (tree b r schema_root l)) (trunk-in q s head_slot (suc f.N) f.free_head f.N refl w.1)))
  undescribe-tree b r p l (leaf_slot j) t o' w = absurd w
  undescribe-tree b r p l next_slot t o' w = absurd w

  undescribe-over : (b : Bool) (n : ℕ) (x : Slot) (t : ℕ) (o' : Role) → ToldOver f q n x t o' → Mem (to q s x t o') (all (over b n))
  unfolding inner
  undescribe-over b n (child_slot j) t o' w = absurd w
  undescribe-over b n right_slot t o' w = absurd w
  undescribe-over b n (chain_slot j) t o' w = absurd w
  undescribe-over b n (root_slot j) t o' w = absurd w
  undescribe-over b n head_slot t o' w = absurd w
  undescribe-over b n (leaf_slot j) t o' w = absurd w
  undescribe-over b n next_slot t o' w =
      rw (w.2, w.3) (append_left (free_for f q s (over b n) ++ roots_for f q s (over b n)) (chain-in q s next_slot false n (f.next q) w.0 w.1))

  undescribe-trunk : (n : ℕ) (x : Slot) (t : ℕ) (o' : Role) → ToldTrunk f q n x t o' → Mem (to q s x t o') (all (trunk n))
  unfolding inner
  undescribe-trunk n (child_slot j) t o' w = absurd w
  undescribe-trunk n right_slot t o' w = absurd w
  undescribe-trunk n (chain_slot j) t o' w = absurd w
  undescribe-trunk n (root_slot j) t o' w = absurd w
  undescribe-trunk n head_slot t o' w = absurd w
  undescribe-trunk n (leaf_slot j) t o' w =
      rw (w.1, w.2)
      (append_left (free_for f q s (trunk n) ++ roots_for f q s (trunk n))
      (append_left (trunk_to q s next_slot n (f.trunk_next q))
      (subst (λ j. Mem (to q s (leaf_slot j) (f.trunk_leaf q j) spare) (leaf_slots f q s (f.trunk_count q) 0)) (zero-add j)
      (leaves_in q s f (f.trunk_count q) 0 j w.0))))
  undescribe-trunk n next_slot t o' w =
      rw (w.3, w.4)
      (append_left (free_for f q s (trunk n) ++ roots_for f q s (trunk n))
      (append_right (leaf_slots f q s (f.trunk_count q) 0) (trunk-in q s next_slot n (f.trunk_next q) w.0 w.1 w.2)))

  pub undescribe : (o : Role) (x : Slot) (t : ℕ) (o' : Role) → Told f q o x t o' → Mem (to q s x t o') (all o)
  undescribe (tree b r p l) x t o' w = undescribe-tree b r p l x t o' w
  undescribe (over b n) x t o' w = undescribe-over b n x t o' w
  undescribe (trunk n) x t o' w = undescribe-trunk n x t o' w
  undescribe spare x t o' w = absurd w
