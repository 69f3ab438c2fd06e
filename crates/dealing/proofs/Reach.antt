-- A good dealing agrees with every visit of the walk.
use mathlib.Core.Path.{◌≡◌, refl, sym, ◌∙◌, ap, subst}
use mathlib.Core.Bool.{Bool, true, false, cond}
use mathlib.Core.Logic.{◌≢◌, ◌⊎◌, inl, inr, ⊎_elim}
use mathlib.Core.List.{List, [], ◌∷◌, ◌++◌}
use mathlib.Core.List.Memᴰ.{append_cases}
use mathlib.Core.List.Memᴰ.{head as here}
use mathlib.Core.List.Memᴰ.{tail as there}
use mathlib.Core.List.{Memᴰ as Mem}
use mathlib.Core.List.Memᴰ.{append_left}
use mathlib.Core.List.Memᴰ.{append_right}
use mathlib.Core.List.Permᴰ
use mathlib.Core.List.{Permᴰ as Perm}
use Prim.Native.Nat.{ℕ, zero, suc, ◌+◌, ◌≤◌}
use native.Mathlib.Omega.{arith}
use native.Mathlib.Decide.{ℕ_discrete}
use borrow.Author.Tests.{eqb-true}
use Rattle.dealing.specs.File.{Place, schema_root, Cell, Column4, File, Nameable, Fixed}
use Rattle.dealing.specs.File.{is_leaf, is_table, cells_of}
use Rattle.dealing.specs.Good.{RootNumber, Dealing, Slot, child_slot, right_slot, chain_slot, root_slot, head_slot, leaf_slot, next_slot, TreePage}
use Rattle.dealing.specs.Good.{InTree, PointsTo, Chain, Good}
use Rattle.dealing.specs.Walk.{fault_in}
use Rattle.dealing.proofs.Rules.{number-fit, no-fault, cell-chain, cell-reads, row_number}
use Rattle.dealing.proofs.Rich.{Role, tree, over, trunk, spare, Visit, kind_of, to, ChainAsks, CellAsks, PayloadAsks}
use Rattle.dealing.proofs.Rich.{RowAsks, LeafAsks, IndexAsks, InnerAsks, Asks, slots, first}
use Rattle.dealing.proofs.Parts.{child-kind, perm-mem}
use Rattle.dealing.proofs.Lists.{At, gather, gather-in, gather-out, Once}
use Rattle.dealing.proofs.Sums.{sum-append, sum-perm, sum-gather, sum_same, one, one_same, one-other, count, count-has}
use Rattle.dealing.proofs.Sums.{count_none, count-once, once-count}
use Rattle.dealing.proofs.Unique.{first-or, fixed-none, named_by, deep}
use Rattle.dealing.proofs.Told.{ToldTree, Told, describe, undescribe}
use Rattle.dealing.proofs.Match.{Match, told-holds, holds-told, first-schema, place-kinds}
use Rattle.dealing.proofs.Grow.{Avail, Fuel, fuel-told, grow-tree, grow, code, code_of, once-slots}

-- the visits that are closed: what page 1 names, and what they name
module _ (f : File) (vs : List Visit) (closed : Perm vs (slots f first ++ gather (slots f) vs)) where
  pub origin : (m : Visit) → Mem m vs → (n : Visit) × Mem n (first ∷ vs) × Mem m (slots f n)
  origin m k =
      ⊎_elim (λ a. (first, here refl, a)) (λ a. let r = gather-out (slots f) vs a in (r.0, there r.1, r.2))
      (append_cases (slots f first) (perm-mem closed k))

  pub closure : (n m : Visit) → Mem n (first ∷ vs) → Mem m (slots f n) → Mem m vs
  closure n m (here e) k = perm-mem (Permᴰ.symm closed) (append_left (gather (slots f) vs) (subst (λ n. Mem m (slots f n)) e k))
  closure n m (there i) k = perm-mem (Permᴰ.symm closed) (append_right (slots f first) (gather-in (slots f) vs i k))

-- what a page's cells ask, cell by cell
module _ (f : File) (b : Bool) (h : ℕ) where
  pub leaf-asks : (i : ℕ) (cs : List Cell) → ((j : ℕ) (c : Cell) → At cs j c → PayloadAsks c × RowAsks f.N b (f.column4 h (i + j))) → LeafAsks f b h i cs
  leaf-asks i [] w = tt
  leaf-asks i (c ∷ cs) w =
      let e : i + 0 ≡ i = omega arith in
      let a = w 0 c refl in (
        a.0,
        subst (λ n. RowAsks f.N b (f.column4 h n)) e a.1,
        leaf-asks (suc i) cs (λ j x k. let e' : i + suc j ≡ suc i + j = omega arith in let a = w (suc j) x k in
            (a.0, subst (λ n. RowAsks f.N b (f.column4 h n)) e' a.1)),
      )

  pub asks-leaf : (i : ℕ) (cs : List Cell) → LeafAsks f b h i cs → (j : ℕ) (c : Cell) → At cs j c → PayloadAsks c × RowAsks f.N b (f.column4 h (i + j))
  asks-leaf i [] w j c a = absurd (let z : ◌≡◌ {A = ℕ} 0 1 = cc in omega arith)
  asks-leaf i (x ∷ cs) w zero c a =
      let e : i ≡ i + 0 = omega arith in
      let k : x ≡ c = cc in
      (subst PayloadAsks k w.0, subst (λ n. RowAsks f.N b (f.column4 h n)) e w.1)
  asks-leaf i (x ∷ cs) w (suc j) c a =
      let e : suc i + j ≡ i + suc j = omega arith in
      let r = asks-leaf (suc i) cs w.2 j c a in
      (r.0, subst (λ n. RowAsks f.N b (f.column4 h n)) e r.1)

pub inner-asks : (t : Bool) (cs : List Cell) → ((j : ℕ) (c : Cell) → At cs j c → IndexAsks t c) → InnerAsks t cs
inner-asks t [] w = tt
inner-asks t (c ∷ cs) w = (w 0 c refl, inner-asks t cs (λ j x k. w (suc j) x k))

pub asks-inner : (t : Bool) (cs : List Cell) → InnerAsks t cs → (j : ℕ) (c : Cell) → At cs j c → IndexAsks t c
asks-inner t [] w j c a = absurd (let z : ◌≡◌ {A = ℕ} 0 1 = cc in omega arith)
asks-inner t (x ∷ cs) w zero c a = let k : x ≡ c = cc in subst (IndexAsks t) k w.0
asks-inner t (x ∷ cs) w (suc j) c a = asks-inner t cs w.1 j c a

-- the rest of a chain
abbrev pub Rest : File → ℕ → Role → Type 0
Rest f q (tree b r p l) = Unit {0}
Rest f q (over b n) = Chain f n (f.next q)
Rest f q (trunk n) = Unit {0}
Rest f q spare = Unit {0}

pub chain-asks : (f : File) (n t : ℕ) → Chain f n t → ChainAsks n t
chain-asks f zero t c = omega arith
chain-asks f (suc n) t c = c.0

module _ (f : File) (some : 1 ≤ f.N) (d : Dealing) (g : Good f d) where
  pub match-first : Match f d 1 (tree true 1 schema_root 20)
  match-first =
      record {
        page = omega arith;
        kind = g.kind_1;
        fits = record {
          level = 1;
          in_tree = refl;
          levels = omega arith;
          some = omega arith;
          top = omega arith;
          top-kind = g.kind_1;
          schema = refl;
          place = first-schema f d 1 g.kind_1 refl;
        };
      }

  avail-tree : (q : ℕ) (b : Bool) (r : ℕ) (p : Place) (l : ℕ) → Match f d q (tree b r p l) → (x : Slot) (t : ℕ) (o : Role) → ToldTree f q b r p l x t o
      → Nameable f t → d.kind t ≡ kind_of o → d.namer t ≡ q → Avail f t o × Rest f t o
  avail-tree q b r p l M (child_slot j) t o w h k n =
      (subst (λ o. d.kind t ≡ kind_of o → Avail f t o × Rest f t o) (sym w.4)
      (λ k. let F = M.fits in
      let a = g.rule_24_depth r (suc F.level) t F.top F.top-kind (grow-tree f d F.level r q t F.in_tree h (k ∙ child-kind (is_table f q)) n) in
      (omega (arith, F.levels, w.1), tt))) k
  avail-tree q b r p l M right_slot t o w h k n =
      (subst (λ o. d.kind t ≡ kind_of o → Avail f t o × Rest f t o) (sym w.4)
      (λ k. let F = M.fits in
      let a = g.rule_24_depth r (suc F.level) t F.top F.top-kind (grow-tree f d F.level r q t F.in_tree h (k ∙ child-kind (is_table f q)) n) in
      (omega (arith, F.levels, w.1), tt))) k
  avail-tree q b r p l M (chain_slot j) t o w h k n =
      let u = w.3 in
      let e : u.0.links ≡ suc u.1 = u.3 in
      let c = cell-chain f d g q j u.0 M.page (⊎_elim (λ e. inl (M.kind ∙ e)) (λ e. inr (M.kind ∙ e)) (place-kinds p)) w.2 u.2 (omega arith) in
      let c' : Chain f (suc u.1) u.0.first = subst (λ n. Chain f n u.0.first) e c in
      let c'' : Chain f u.1 (f.next t) = subst (λ t. Chain f u.1 (f.next t)) (sym u.4) c'.1 in
      subst (λ o. Avail f t o × Rest f t o) (sym u.5) (chain-asks f u.1 (f.next t) c'', c'')
  avail-tree q b r p l M (root_slot j) t o w h k n = subst (λ o. Avail f t o × Rest f t o) (sym w.6) (omega arith, tt)
  avail-tree q b r p l M head_slot t o w h k n = subst (λ o. Avail f t o × Rest f t o) (sym w.3) (some, tt)
  avail-tree q b r p l M (leaf_slot j) t o w h k n = absurd w
  avail-tree q b r p l M next_slot t o w h k n = absurd w

  avail-told : (q : ℕ) (o : Role) → Match f d q o → Rest f q o → (x : Slot) (t : ℕ) (o' : Role) → Told f q o x t o'
      → Nameable f t → d.kind t ≡ kind_of o' → d.namer t ≡ q → Fuel f o' (d.step t) → Avail f t o' × Rest f t o'
  avail-told q (tree b r p l) M c x t o' w h k n u = avail-tree q b r p l M x t o' w h k n
  avail-told q (over b i) M c next_slot t o' w h k n u =
      let c' : Chain f (suc w.0) (f.next q) = subst (λ n. Chain f n (f.next q)) w.1 c in
      let c'' : Chain f w.0 (f.next t) = subst (λ t. Chain f w.0 (f.next t)) (sym w.2) c'.1 in
      subst (λ o. Avail f t o × Rest f t o) (sym w.3) (chain-asks f w.0 (f.next t) c'', c'')
  avail-told q (over b i) M c (child_slot j) t o' w h k n u = absurd w
  avail-told q (over b i) M c right_slot t o' w h k n u = absurd w
  avail-told q (over b i) M c (chain_slot j) t o' w h k n u = absurd w
  avail-told q (over b i) M c (root_slot j) t o' w h k n u = absurd w
  avail-told q (over b i) M c head_slot t o' w h k n u = absurd w
  avail-told q (over b i) M c (leaf_slot j) t o' w h k n u = absurd w
  avail-told q (trunk i) M c (leaf_slot j) t o' w h k n u = subst (λ o. Avail f t o × Rest f t o) (sym w.2) (tt, tt)
  avail-told q (trunk i) M c next_slot t o' w h k n u =
      (subst (λ o. Fuel f o (d.step t) → Avail f t o × Rest f t o) (sym w.4) (λ u. (omega (arith, deep f d g t (omega arith)), tt))) u
  avail-told q (trunk i) M c (child_slot j) t o' w h k n u = absurd w
  avail-told q (trunk i) M c right_slot t o' w h k n u = absurd w
  avail-told q (trunk i) M c (chain_slot j) t o' w h k n u = absurd w
  avail-told q (trunk i) M c (root_slot j) t o' w h k n u = absurd w
  avail-told q (trunk i) M c head_slot t o' w h k n u = absurd w
  avail-told q spare M c x t o' w h k n u = absurd w

  pub record Inv (v : Visit) : Type 0 where
    pub match : Match f d v.page v.role
    pub namer : d.namer v.page ≡ v.holder
    pub step : d.step v.page ≡ v.step
    pub fuel : Fuel f v.role v.step
    pub rest : Rest f v.page v.role

  pub inv-first : Inv first
  inv-first = record { match = match-first; namer = g.namer_1; step = g.step_1; fuel = λ e. refl; rest = tt }

  -- what a visit makes
  pub record Next (n m : Visit) : Type 0 where
    pub holds : PointsTo f d n.page m.slot m.page (kind_of m.role)
    pub later : Nameable f m.page
    pub namer : d.namer m.page ≡ n.page
    pub inv : Inv m

  pub inv-next : (n m : Visit) → Inv n → Mem m (slots f n) → Next n m
  inv-next n m I k =
      let S = describe f n.page n.step n.role m k in
      let H = told-holds f d n.page n.role I.match m.slot m.page m.role S.told in
      let P = g.pointers n.page m.slot m.page (kind_of m.role) I.match.page H in
      let e : d.step m.page ≡ m.step = g.steps m.page P.0 ∙ ap (λ q. suc (d.step q)) P.2 ∙ ap suc I.step ∙ sym S.step in
      let u : Fuel f m.role m.step =
      subst (Fuel f m.role) (sym S.step) (fuel-told f n.page n.step n.role I.fuel m.slot m.page m.role S.told) in
      let a =
      avail-told n.page n.role I.match I.rest m.slot m.page m.role S.told P.0 P.1 P.2
      (subst (Fuel f m.role) (sym e) u) in
      record {
        holds = H;
        later = P.0;
        namer = P.2;
        inv = record {
          match = grow f d n.page n.role I.match m.slot m.page m.role S.told P.0 P.1 P.2 a.0;
          namer = P.2 ∙ sym S.holder;
          step = e;
          fuel = u;
          rest = a.1;
        };
      }

  -- what the visit's own checks ask
  cell-asks : (n t : ℕ) → (1 ≤ n → Chain f n t) → CellAsks n t
  cell-asks zero t h = tt
  cell-asks (suc n) t h = (h (omega arith)).0

  row-asks : (b : Bool) (v : Column4) → (b ≡ true → RootNumber f v) → RowAsks f.N b v
  row-asks true v h = number-fit f v (h refl)
  row-asks false v h = tt

  index-asks : (t : Bool) (c : Cell) → (t ≡ false → PayloadAsks c) → IndexAsks t c
  index-asks true c h = tt
  index-asks false c h = h refl

  asks-tree : (q : ℕ) (b : Bool) (r : ℕ) (p : Place) (l : ℕ) → Match f d q (tree b r p l) → Asks f q (tree b r p l)
  asks-tree q b r p zero M = absurd (let F = M.fits in omega (arith, F.some))
  asks-tree q b r p (suc l) M =
      (subst (λ p. fault_in f p q ≡ 0) M.fits.place (no-fault f d g q M.page tp), go (is_leaf f q) refl)
    where
      tp : TreePage d q
      tp = ⊎_elim (λ e. inl (M.kind ∙ e)) (λ e. inr (M.kind ∙ e)) (place-kinds p)

      go : (y : Bool) → is_leaf f q ≡ y → cond y (LeafAsks f b q 0 (cells_of f q)) (InnerAsks (is_table f q) (cells_of f q))
      go true e =
          leaf-asks f b q 0 (cells_of f q)
          (λ j c a.
          let z : j ≡ 0 + j = omega arith in (
            (cell-asks c.links c.first (λ i. cell-chain f d g q j c M.page tp (rw e) a i), cell-reads f d g q j c M.page tp (rw e) a),
            row-asks b (f.column4 q (0 + j))
                (λ t. let F = M.fits in
                let o : r ≡ 1 = eqb-true r 1 (sym F.schema ∙ t) in
                subst (λ j. RootNumber f (f.column4 q j)) z (row_number f d g F.level q j c (subst (λ r. InTree f d r F.level q) o F.in_tree) e a)),
          ))
      go false e =
          inner-asks (is_table f q) (cells_of f q) (λ j c a. index-asks (is_table f q) c (λ t. (
            cell-asks c.links c.first
                (λ i. cell-chain f d g q j c M.page tp (rw (e, t)) a i),
            cell-reads f d g q j c M.page tp (rw (e, t)) a,
          )))

  pub inv-asks : (q : ℕ) (o : Role) → Match f d q o → Asks f q o
  inv-asks q (tree b r p l) M = asks-tree q b r p l M
  inv-asks q (over b n) M = M.fits
  inv-asks q (trunk n) M = omega (arith, g.rule_29_room q M.page M.kind)
  inv-asks q spare M = tt

-- distinct by one key, where another key tells the first
pub recode : {A : Type 0} (k k' : A → ℕ) (l : List A) → ((x y : A) → Mem x l → Mem y l → k' x ≡ k' y → k x ≡ k y) → Once k l → Once k' l
recode k k' [] h o = tt
recode k k' (x ∷ l) h o = (λ y m e. o.0 y m (h x y (here refl) (there m) e), recode k k' l (λ a b m n. h a b (there m) (there n)) o.1)

abbrev pub page_of : Visit → ℕ
page_of v = v.page

module _ (f : File) (some : 1 ≤ f.N) (d : Dealing) (g : Good f d) where
  pub slots-once : (n : Visit) → Inv f some d g n → Once page_of (slots f n)
  slots-once n I =
      recode code_of page_of (slots f n)
      (λ x y m k e.
      let a = inv-next f some d g n x I m in
      let b = inv-next f some d g n y I k in
      ap code (g.once n.page n.page x.slot y.slot y.page
      (I.match.page, (kind_of x.role, subst (λ t. PointsTo f d n.page x.slot t (kind_of x.role)) e a.holds))
      (I.match.page, (kind_of y.role, b.holds))).1)
      (once-slots f n.page n.step n.role)

  pub slots-count : (n : Visit) → Inv f some d g n → (t : ℕ) → Nameable f t → count page_of t (slots f n) ≡ one n.page (d.namer t)
  slots-count n I t l = go (ℕ_discrete n.page (d.namer t))
    where
      go : Dec (n.page ≡ d.namer t) → count page_of t (slots f n) ≡ one n.page (d.namer t)
      go (yes e) =
          let N = named_by f d g t l in
          let T =
          holds-told f d g.kind_1 n.page n.role I.match N.slot t (d.kind t)
          (subst (λ q. PointsTo f d q N.slot t (d.kind t)) (sym e) N.holds) in
          let m : Visit = to n.page n.step N.slot t T.role in
          once-count page_of (slots f n) (slots-once n I) m (undescribe f n.page n.step n.role N.slot t T.role T.told)
          ∙ sym (one_same n.page (d.namer t) e)
      go (no e) =
          count_none page_of t (slots f n) (λ m k z. e (sym (inv-next f some d g n m I k).namer ∙ ap d.namer z))
          ∙ sym (one-other n.page (d.namer t) e)

  module _ (vs : List Visit) (closed : Perm vs (slots f first ++ gather (slots f) vs)) where
    from-parent : (v n : Visit) → Inv f some d g n → Mem v (slots f n) → Inv f some d g v × Nameable f v.page
    from-parent v n I i = let w = inv-next f some d g n v I i in (w.inv, w.later)

    inv-to : (k : ℕ) (v : Visit) → Mem v vs → v.step ≤ k → Inv f some d g v × Nameable f v.page
    inv-to zero v m h =
        let w = origin f vs closed v m in
        absurd (omega (arith, (describe f w.0.page w.0.step w.0.role v w.2).step))
    inv-to (suc k) v m h = go (λ n. inv-to k n) (origin f vs closed v m)
      where
        go : ((n : Visit) → Mem n vs → n.step ≤ k → Inv f some d g n × Nameable f n.page) → (n : Visit) × Mem n (first ∷ vs) × Mem v (slots f n)
            → Inv f some d g v × Nameable f v.page
        go ih (n, here e, i) = from-parent v n (subst (Inv f some d g) (sym e) (inv-first f some d g)) i
        go ih (n, there j, i) = from-parent v n (ih n j (omega (arith, (describe f n.page n.step n.role v i).step))).0 i

    pub inv-all : (v : Visit) → Mem v vs → Inv f some d g v × Nameable f v.page
    inv-all v m = inv-to v.step v m (omega arith)

    -- each page after the first is visited exactly once
    count-back : (t : ℕ) → Nameable f t → count page_of t vs ≡ one 1 (d.namer t) + count page_of (d.namer t) vs
    count-back t l =
        sum-perm (λ x. one (page_of x) t) closed
        ∙ sum-append (λ x. one (page_of x) t) (slots f first) (gather (slots f) vs)
        ∙ (let a = slots-count first (inv-first f some d g) t l in
        let b = sum-gather (λ x. one (page_of x) t) (slots f) vs in
        let c = sum_same (λ n. count page_of t (slots f n)) (λ n. one n.page (d.namer t)) vs (λ n m. slots-count n (inv-all n m).0 t l) in
        omega arith)

    count-first : count page_of 1 vs ≡ 0
    count-first = count_none page_of 1 vs (λ v m e. let l : Nameable f v.page = (inv-all v m).1 in omega arith)

    count-to : (k t : ℕ) → Nameable f t → d.step t ≤ k → count page_of t vs ≡ 1
    count-to zero t l h = absurd (omega (arith, g.steps t l))
    count-to (suc k) t l h = go (count-to k (d.namer t)) (first-or f d g (d.namer t) (named_by f d g t l).page)
      where
        go : (Nameable f (d.namer t) → d.step (d.namer t) ≤ k → count page_of (d.namer t) vs ≡ 1)
            → (d.namer t ≡ 1) ⊎ (Fixed f (d.namer t) ⊎ Nameable f (d.namer t)) → count page_of t vs ≡ 1
        go ih (inl e) = let c : count page_of (d.namer t) vs ≡ 0 = ap (λ p. count page_of p vs) e ∙ count-first in
            omega (arith, count-back t l, one_same 1 (d.namer t) (sym e))
        go ih (inr (inl x)) = let n = named_by f d g t l in fixed-none f d g (d.namer t) x n.slot t (d.kind t) n.holds
        go ih (inr (inr j)) =
            let n : 1 ≢ d.namer t = (λ e. omega arith) in
            omega (arith, count-back t l, one-other 1 (d.namer t) n, ih j (omega (arith, g.steps t l)))

    pub visited : (t : ℕ) → Nameable f t → (v : Visit) × Mem v vs × (v.page ≡ t)
    visited t l = count-has page_of t vs (omega (arith, count-to (d.step t) t l (omega arith)))

    pub visits-once : Once page_of vs
    visits-once = count-once page_of vs (λ v m. omega (arith, count-to (d.step v.page) v.page (inv-all v m).1 (omega arith)))
