-- From a visit that a dealing agrees with to those that it makes; the slots of a visit are distinct.
use mathlib.Core.Path.{◌≡◌, refl, sym, ◌∙◌, ap, subst}
use mathlib.Core.Bool.{Bool, true, false, cond}
use mathlib.Core.Logic.{◌≢◌, ◌⊎◌, inl, inr, ⊎_elim}
use mathlib.Core.List.{List, [], ◌∷◌, ◌++◌, append-nil}
use mathlib.Core.List.Memᴰ.{append_cases}
use mathlib.Core.List.{Memᴰ as Mem}
use Prim.Native.Nat.{ℕ, zero, suc, ◌+◌, ◌*◌, ◌≤◌}
use native.Mathlib.Omega.{arith}
use borrow.Author.Tests.{ne_eqb}
use Rattle.dealing.specs.File.{Place, schema_root, any_root, table_page, index_page, Cell, File, Nameable, child_place, is_leaf, is_table, cells_of}
use Rattle.dealing.specs.Good.{Dealing, Slot, child_slot, right_slot, chain_slot, root_slot, head_slot, leaf_slot, next_slot, InTree}
use Rattle.dealing.proofs.Rich.{Role, tree, over, trunk, spare, Visit, kind_of, ChainAsks, chain_next, leaf_chains}
use Rattle.dealing.proofs.Rich.{index_chain, inner_slots, leaf_slots, trunk_to, root_in, root_to, root_slots, inner, roots_for, free_for, head_for}
use Rattle.dealing.specs.Walk.{Named, nothing, root}
use Rattle.dealing.proofs.Parts.{child-kind}
use Rattle.dealing.proofs.Lists.{Once, once-append}
use Rattle.dealing.proofs.Told.{ToldTree, Told, chain-out, chains-out, index-out, inner_out, root-out}
use Rattle.dealing.proofs.Told.{roots-out, leaves-out, trunk-out, Inner}
use Rattle.dealing.proofs.Match.{TreeFits, RoleFits, Match, child-not}

-- what a page must have left for its role
abbrev pub Avail : File → ℕ → Role → Type 0
Avail f t (tree b r p l) = 1 ≤ l
Avail f t (over b n) = ChainAsks n (f.next t)
Avail f t (trunk n) = 1 ≤ n
Avail f t spare = Unit {0}

-- a trunk's fuel and its step make N + 1
abbrev pub Fuel : File → Role → ℕ → Type 0
Fuel f (tree b r p l) s = p ≡ schema_root → s ≡ 0
Fuel f (over b n) s = Unit {0}
Fuel f (trunk n) s = n + s ≡ suc f.N
Fuel f spare s = Unit {0}

any-not : any_root ≢ schema_root
any-not e = let z : ◌≡◌ {A = ℕ} 0 1 = cc in omega arith

module _ (f : File) where
  fuel-tree : (q s : ℕ) (b : Bool) (r : ℕ) (p : Place) (l : ℕ) → Fuel f (tree b r p l) s → (x : Slot) (t : ℕ) (o : Role) → ToldTree f q b r p l x t o
      → Fuel f o (suc s)
  fuel-tree q s b r p l h (child_slot j) t o w = rw w.4 (λ e. absurd (child-not f (record { kind = λ n. n; namer = λ n. n; step = λ n. n }) (is_table f q) e))
  fuel-tree q s b r p l h right_slot t o w = rw w.4 (λ e. absurd (child-not f (record { kind = λ n. n; namer = λ n. n; step = λ n. n }) (is_table f q) e))
  fuel-tree q s b r p l h (chain_slot j) t o w = rw w.3.5 tt
  fuel-tree q s b r p l h (root_slot j) t o w = rw w.6 (λ e. absurd (any-not e))
  fuel-tree q s b r p l h head_slot t o w = let e : s ≡ 0 = h w.0 in rw w.3 (omega arith)
  fuel-tree q s b r p l h (leaf_slot j) t o w = absurd w
  fuel-tree q s b r p l h next_slot t o w = absurd w

  pub fuel-told : (q s : ℕ) (o : Role) → Fuel f o s → (x : Slot) (t : ℕ) (o' : Role) → Told f q o x t o' → Fuel f o' (suc s)
  fuel-told q s (tree b r p l) h x t o' w = fuel-tree q s b r p l h x t o' w
  fuel-told q s (over b n) h next_slot t o' w = rw w.3 tt
  fuel-told q s (over b n) h (child_slot j) t o' w = absurd w
  fuel-told q s (over b n) h right_slot t o' w = absurd w
  fuel-told q s (over b n) h (chain_slot j) t o' w = absurd w
  fuel-told q s (over b n) h (root_slot j) t o' w = absurd w
  fuel-told q s (over b n) h head_slot t o' w = absurd w
  fuel-told q s (over b n) h (leaf_slot j) t o' w = absurd w
  fuel-told q s (trunk n) h (leaf_slot j) t o' w = rw w.2 tt
  fuel-told q s (trunk n) h next_slot t o' w = let e : n ≡ suc w.0 = w.1 in rw w.4 (omega arith)
  fuel-told q s (trunk n) h (child_slot j) t o' w = absurd w
  fuel-told q s (trunk n) h right_slot t o' w = absurd w
  fuel-told q s (trunk n) h (chain_slot j) t o' w = absurd w
  fuel-told q s (trunk n) h (root_slot j) t o' w = absurd w
  fuel-told q s (trunk n) h head_slot t o' w = absurd w
  fuel-told q s spare h x t o' w = absurd w

module _ (f : File) (d : Dealing) where
  pub grow-tree : (n r q t : ℕ) → InTree f d r n q → Nameable f t → d.kind t ≡ 6 → d.namer t ≡ q → InTree f d r (suc n) t
  grow-tree zero r q t h l k e = absurd h
  grow-tree (suc n) r q t h l k e = (l, k, subst (InTree f d r (suc n)) (sym e) h)

  pub child_fits : (q : ℕ) (b : Bool) (r : ℕ) (p : Place) (l : ℕ) → TreeFits f d q b r p l → (l' : ℕ) → l ≡ suc l' → (t : ℕ) → Nameable f t
      → d.kind t ≡ 6 → d.namer t ≡ q → 1 ≤ l'
      → TreeFits f d t b r (child_place (is_table f q)) l'
  child_fits q b r p l F l' e t h k n a =
      record {
        level = suc F.level;
        in_tree = grow-tree F.level r q t F.in_tree h k n;
        levels = (let z = F.levels in omega arith);
        some = a;
        top = F.top;
        top-kind = F.top-kind;
        schema = F.schema;
        place = rw (k, n);
      }

  pub root-fits : (t : ℕ) → Nameable f t → d.kind t ≡ 1 → TreeFits f d t false t any_root 20
  root-fits t h k =
      record {
        level = 1;
        in_tree = refl;
        levels = omega arith;
        some = omega arith;
        top = omega arith;
        top-kind = k;
        schema = sym (ne_eqb t 1 (λ e. omega arith));
        place = rw (k, ne_eqb t 1 (λ e. omega arith));
      }

  fits-tree : (q : ℕ) (b : Bool) (r : ℕ) (p : Place) (l : ℕ) → TreeFits f d q b r p l → (x : Slot) (t : ℕ) (o : Role) → ToldTree f q b r p l x t o
      → Nameable f t → d.kind t ≡ kind_of o → d.namer t ≡ q → Avail f t o → RoleFits f d t o
  fits-tree q b r p l F (child_slot j) t o w h k n =
      subst (λ o. d.kind t ≡ kind_of o → Avail f t o → RoleFits f d t o) (sym w.4)
      (λ k a. child_fits q b r p l F w.0 w.1 t h (k ∙ child-kind (is_table f q)) n a) k
  fits-tree q b r p l F right_slot t o w h k n =
      subst (λ o. d.kind t ≡ kind_of o → Avail f t o → RoleFits f d t o) (sym w.4)
      (λ k a. child_fits q b r p l F w.0 w.1 t h (k ∙ child-kind (is_table f q)) n a) k
  fits-tree q b r p l F (chain_slot j) t o w h k n = subst (λ o. Avail f t o → RoleFits f d t o) (sym w.3.5) (λ a. a)
  fits-tree q b r p l F (root_slot j) t o w h k n =
      subst (λ o. d.kind t ≡ kind_of o → Avail f t o → RoleFits f d t o) (sym w.6) (λ k a. root-fits t h k) k
  fits-tree q b r p l F head_slot t o w h k n = subst (λ o. Avail f t o → RoleFits f d t o) (sym w.3) (λ a. a)
  fits-tree q b r p l F (leaf_slot j) t o w h k n = absurd w
  fits-tree q b r p l F next_slot t o w h k n = absurd w

  fits_told : (q : ℕ) (o : Role) → RoleFits f d q o → (x : Slot) (t : ℕ) (o' : Role) → Told f q o x t o'
      → Nameable f t → d.kind t ≡ kind_of o' → d.namer t ≡ q → Avail f t o' → RoleFits f d t o'
  fits_told q (tree b r p l) F x t o' w h k n a = fits-tree q b r p l F x t o' w h k n a
  fits_told q (over b i) F next_slot t o' w h k n a = (subst (λ o. Avail f t o → RoleFits f d t o) (sym w.3) (λ a. a)) a
  fits_told q (over b i) F (child_slot j) t o' w h k n a = absurd w
  fits_told q (over b i) F right_slot t o' w h k n a = absurd w
  fits_told q (over b i) F (chain_slot j) t o' w h k n a = absurd w
  fits_told q (over b i) F (root_slot j) t o' w h k n a = absurd w
  fits_told q (over b i) F head_slot t o' w h k n a = absurd w
  fits_told q (over b i) F (leaf_slot j) t o' w h k n a = absurd w
  fits_told q (trunk i) F (leaf_slot j) t o' w h k n a = (subst (λ o. Avail f t o → RoleFits f d t o) (sym w.2) (λ a. a)) a
  fits_told q (trunk i) F next_slot t o' w h k n a = (subst (λ o. Avail f t o → RoleFits f d t o) (sym w.4) (λ a. a)) a
  fits_told q (trunk i) F (child_slot j) t o' w h k n a = absurd w
  fits_told q (trunk i) F right_slot t o' w h k n a = absurd w
  fits_told q (trunk i) F (chain_slot j) t o' w h k n a = absurd w
  fits_told q (trunk i) F (root_slot j) t o' w h k n a = absurd w
  fits_told q (trunk i) F head_slot t o' w h k n a = absurd w
  fits_told q spare F x t o' w h k n a = absurd w

  pub grow : (q : ℕ) (o : Role) → Match f d q o → (x : Slot) (t : ℕ) (o' : Role) → Told f q o x t o'
      → Nameable f t → d.kind t ≡ kind_of o' → d.namer t ≡ q → Avail f t o' → Match f d t o'
  grow q o M x t o' w h k n a = record { page = omega arith; kind = k; fits = fits_told q o M.fits x t o' w h k n a }

-- a number for each slot
abbrev pub code : Slot → ℕ
code right_slot = 0
code head_slot = 1
code next_slot = 2
code (child_slot j) = 4 * j + 3
code (chain_slot j) = 4 * j + 4
code (root_slot j) = 4 * j + 5
code (leaf_slot j) = 4 * j + 6

abbrev pub code_of : Visit → ℕ
code_of v = code v.slot

module _ (f : File) (h s : ℕ) where
  once-chain : (x : Slot) (b : Bool) (n t : ℕ) → Once code_of (chain_next h s x b n t)
  once-chain x b zero t = tt
  once-chain x b (suc n) t = (λ y m. elim m [ ], tt)

  once-chains : (i : ℕ) (cs : List Cell) → Once code_of (leaf_chains h s i cs)
  unfolding leaf_chains
  once-chains i [] = tt
  once-chains i (c ∷ cs) =
      once-append code_of (chain_next h s (chain_slot i) true c.links c.first) (leaf_chains h s (suc i) cs)
      (once-chain (chain_slot i) true c.links c.first) (once-chains (suc i) cs)
      (λ x y m n e.
      let a = chain-out h s (chain_slot i) true c.links c.first x m in
      let b = chains-out h s (suc i) cs y n in
      omega (arith, ap code_of a.2, ap code_of b.is))

  once-index : (t : Bool) (i : ℕ) (c : Cell) → Once code_of (index_chain t h s i c)
  once-index true i c = tt
  once-index false i c = once-chain (chain_slot i) true c.links c.first

  -- on an interior page, what stands from index i on
  past : (t : Bool) (r : ℕ) (o : Role) (i : ℕ) (cs : List Cell) (y : Visit) → Inner h s t r o i cs y → (code_of y ≡ 0) ⊎ (4 * i + 3 ≤ code_of y)
  past t r o i cs y (inl e) = inl (ap code_of e)
  past t r o i cs y (inr (inl w)) = inr (omega (arith, ap code_of w.is))
  past t r o i cs y (inr (inr w)) = inr (omega (arith, ap code_of w.1.is))

  once-inner : (t : Bool) (r : ℕ) (o : Role) (i : ℕ) (cs : List Cell) → Once code_of (inner_slots t r o h s i cs)
  unfolding inner_slots
  once-inner t r o i [] = (λ y m. elim m [ ], tt)
  once-inner t r o i (c ∷ cs) = (
    λ y m. ⊎_elim
        (λ k e. let a = index-out h s t i c y k in omega (arith, ap code_of a.1.2))
        (λ k e. ⊎_elim (λ z. omega arith) (λ z. omega arith) (past t r o (suc i) cs y (inner_out h s t r o (suc i) cs y k)))
        (append_cases (index_chain t h s i c) m),
    once-append code_of (index_chain t h s i c) (inner_slots t r o h s (suc i) cs) (once-index t i c) (once-inner t r o (suc i) cs)
        (λ x y m n e.
        let a = index-out h s t i c x m in
        let p = ap code_of a.1.2 in
        ⊎_elim (λ z. omega arith) (λ z. omega arith) (past t r o (suc i) cs y (inner_out h s t r o (suc i) cs y n))),
  )

  once-root : (i : ℕ) (v : Named) → Once code_of (root_to h s i v)
  once-root i nothing = tt
  once-root i (root r) = (λ y m. elim m [ ], tt)

  once-roots : (i : ℕ) (cs : List Cell) → Once code_of (root_slots f h s i cs)
  unfolding root_slots
  once-roots i [] = tt
  once-roots i (c ∷ cs) =
      once-append code_of (root_to h s i (root_in f h i)) (root_slots f h s (suc i) cs) (once-root i (root_in f h i)) (once-roots (suc i) cs)
      (λ x y m n e.
      let a = root-out h s f i (root_in f h i) x m in
      let b = roots-out h s f (suc i) cs y n in
      omega (arith, ap code_of a.2, ap code_of b.is))

  once-leaves : (k j : ℕ) → Once code_of (leaf_slots f h s k j)
  unfolding leaf_slots
  once-leaves zero j = tt
  once-leaves (suc k) j = (λ y m e. let b = leaves-out h s f k (suc j) y m in omega (arith, ap code_of b.2), once-leaves k (suc j))

  once-trunk : (x : Slot) (n t : ℕ) → Once code_of (trunk_to h s x n t)
  once-trunk x zero t = tt
  once-trunk x (suc n) zero = tt
  once-trunk x (suc n) (suc t) = (λ y m. elim m [ ], tt)

  once-within : (o : Role) → Once code_of (inner f h s o)
  unfolding inner
  once-within (tree b r p zero) = tt
  once-within (tree b r p (suc l)) = go (is_leaf f h)
    where
      go : (y : Bool)
          → Once code_of (cond y (leaf_chains h s 0 (cells_of f h))
          (inner_slots (is_table f h) (f.right h) (tree b r (child_place (is_table f h)) l) h s 0 (cells_of f h)))
      go true = once-chains 0 (cells_of f h)
      go false = once-inner (is_table f h) (f.right h) (tree b r (child_place (is_table f h)) l) 0 (cells_of f h)
  once-within (over b n) = once-chain next_slot false n (f.next h)
  once-within (trunk n) =
      once-append code_of (leaf_slots f h s (f.trunk_count h) 0) (trunk_to h s next_slot n (f.trunk_next h)) (once-leaves (f.trunk_count h) 0)
      (once-trunk next_slot n (f.trunk_next h))
      (λ x y m k e.
      let a = leaves-out h s f (f.trunk_count h) 0 x m in
      let b = trunk-out h s next_slot n (f.trunk_next h) y k in
      omega (arith, ap code_of a.2, ap code_of b.3))
  once-within spare = tt

  -- no slot that is named at once is named later
  once-head : (p : Place) → Once code_of (head_for f h s p)
  once-head schema_root = once-trunk head_slot (suc f.N) f.free_head
  once-head any_root = tt
  once-head table_page = tt
  once-head index_page = tt

  once-roots_for : (o : Role) → Once code_of (roots_for f h s o)
  unfolding roots_for
  once-roots_for (tree true r p zero) = tt
  once-roots_for (tree true r p (suc l)) = go (is_leaf f h)
    where
      go : (y : Bool) → Once code_of (cond y (root_slots f h s 0 (cells_of f h)) [])
      go true = once-roots 0 (cells_of f h)
      go false = tt
  once-roots_for (tree false r p l) = tt
  once-roots_for (over b n) = tt
  once-roots_for (trunk n) = tt
  once-roots_for spare = tt

  -- an element of each of the three parts, by its code
  code-within : (b : Bool) (r : ℕ) (p : Place) (l : ℕ) (m : Visit) → Mem m (inner f h s (tree b r p l))
      → (code_of m ≡ 0) ⊎ ((j : ℕ) × ((code_of m ≡ 4 * j + 3) ⊎ (code_of m ≡ 4 * j + 4)))
  unfolding inner
  code-within b r p zero m k = elim k [ ]
  code-within b r p (suc l) m k = go (is_leaf f h) k
    where
      go : (y : Bool)
          → Mem m (cond y (leaf_chains h s 0 (cells_of f h))
          (inner_slots (is_table f h) (f.right h) (tree b r (child_place (is_table f h)) l) h s 0 (cells_of f h)))
          → (code_of m ≡ 0) ⊎ ((j : ℕ) × ((code_of m ≡ 4 * j + 3) ⊎ (code_of m ≡ 4 * j + 4)))
      go true k = let w = chains-out h s 0 (cells_of f h) m k in inr (0 + w.j, inr (ap code_of w.is))
      go false k = go' (inner_out h s (is_table f h) (f.right h) (tree b r (child_place (is_table f h)) l) 0 (cells_of f h) m k)
        where
          go' : Inner h s (is_table f h) (f.right h) (tree b r (child_place (is_table f h)) l) 0 (cells_of f h) m
              → (code_of m ≡ 0) ⊎ ((j : ℕ) × ((code_of m ≡ 4 * j + 3) ⊎ (code_of m ≡ 4 * j + 4)))
          go' (inl e) = inl (ap code_of e)
          go' (inr (inl w)) = inr (0 + w.j, inl (ap code_of w.is))
          go' (inr (inr w)) = inr (0 + w.1.j, inr (ap code_of w.1.is))

  code-head : (p : Place) (m : Visit) → Mem m (head_for f h s p) → code_of m ≡ 1
  code-head schema_root m k = ap code_of (trunk-out h s head_slot (suc f.N) f.free_head m k).3
  code-head any_root m k = elim k [ ]
  code-head table_page m k = elim k [ ]
  code-head index_page m k = elim k [ ]

  code-roots : (b : Bool) (r : ℕ) (p : Place) (l : ℕ) (m : Visit) → Mem m (roots_for f h s (tree b r p l)) → (j : ℕ) × (code_of m ≡ 4 * j + 5)
  unfolding roots_for
  code-roots true r p zero m k = elim k [ ]
  code-roots false r p l m k = elim k [ ]
  code-roots true r p (suc l) m k = go (is_leaf f h) k
    where
      go : (y : Bool) → Mem m (cond y (root_slots f h s 0 (cells_of f h)) []) → (j : ℕ) × (code_of m ≡ 4 * j + 5)
      go true k = let w = roots-out h s f 0 (cells_of f h) m k in (0 + w.j, ap code_of w.is)
      go false k = elim k [ ]

  pub once-slots : (o : Role) → Once code_of (inner f h s o ++ (free_for f h s o ++ roots_for f h s o))
  unfolding free_for
  once-slots (tree b r p l) =
      once-append code_of (inner f h s (tree b r p l)) (head_for f h s p ++ roots_for f h s (tree b r p l)) (once-within (tree b r p l))
      (once-append code_of (head_for f h s p) (roots_for f h s (tree b r p l)) (once-head p) (once-roots_for (tree b r p l))
      (λ x y m n e. let a = code-roots b r p l y n in omega (arith, code-head p x m, a.1)))
      (λ x y m n e. ⊎_elim
      (λ k. apart-1 x y (code-head p y k) e (code-within b r p l x m))
      (λ k. let a = code-roots b r p l y k in apart-2 x y a.0 a.1 e (code-within b r p l x m))
      (append_cases (head_for f h s p) n))
    where
      apart-1 : (x y : Visit) → code_of y ≡ 1 → code_of x ≡ code_of y → (code_of x ≡ 0) ⊎ ((j : ℕ) × ((code_of x ≡ 4 * j + 3) ⊎ (code_of x ≡ 4 * j + 4))) → ⊥
      apart-1 x y a e (inl k) = omega arith
      apart-1 x y a e (inr (j, inl k)) = omega arith
      apart-1 x y a e (inr (j, inr k)) = omega arith

      apart-2 : (x y : Visit) (i : ℕ) → code_of y ≡ 4 * i + 5 → code_of x ≡ code_of y
          → (code_of x ≡ 0) ⊎ ((j : ℕ) × ((code_of x ≡ 4 * j + 3) ⊎ (code_of x ≡ 4 * j + 4))) → ⊥
      apart-2 x y i a e (inl k) = omega arith
      apart-2 x y i a e (inr (j, inl k)) = omega arith
      apart-2 x y i a e (inr (j, inr k)) = omega arith
  once-slots (over b n) = unfold roots_for in rw append-nil (once-within (over b n))
  once-slots (trunk n) = unfold roots_for in rw append-nil (once-within (trunk n))
  once-slots spare = unfold roots_for in rw append-nil (once-within spare)
