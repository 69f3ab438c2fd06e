-- An accepted file has a good dealing: the one that the walk's visits are.
use mathlib.Core.Path.{◌≡◌, refl, sym, ◌∙◌, ap, subst}
use mathlib.Core.Bool.{Bool, true, false, cond}
use mathlib.Core.Logic.{◌≢◌, ◌⊎◌, inl, inr, ⊎_elim}
use mathlib.Core.List.{List, [], ◌∷◌, ◌++◌}
use mathlib.Core.List.Memᴰ.{head as here}
use mathlib.Core.List.Memᴰ.{tail as there}
use mathlib.Core.List.{Memᴰ as Mem}
use mathlib.Core.List.{Permᴰ as Perm}
use Prim.Native.Nat.{ℕ, zero, suc, ◌+◌, ◌≤◌, ◌<◌}
use native.Mathlib.Nat.{zero-add}
use native.Mathlib.Omega.{arith}
use native.Mathlib.Decide.{ℕ_discrete}
use lib.Dec.{eqb}
use borrow.Author.Tests.{eq-eqb, ne_eqb}
use Rattle.dealing.specs.File.{Place, Cell, File, Page, Nameable, Fixed, payload}
use Rattle.dealing.specs.File.{is_leaf, is_table, cells_of, suits}
use Rattle.dealing.proofs.Cells.{is_at, none-fault}
use Rattle.dealing.proofs.Rules.{fit-number, number-named}
use Rattle.dealing.specs.Good.{RootNumber, Dealing, Slot, child_slot, right_slot, chain_slot, root_slot, head_slot, leaf_slot, next_slot, TreePage}
use Rattle.dealing.specs.Good.{InTree, PointsTo, place_of, Chain, reading, Ordered, on_freelist, free_pages, After, Good}
use Rattle.dealing.specs.Walk.{fit, schema_roots, leaf_roots, fault_in}
use Rattle.dealing.proofs.Lists.{At, Once, once-same, gather}
use Rattle.dealing.proofs.Steps.{step-below}
use Rattle.dealing.proofs.Sums.{sum, pages-same, tally, tally-all, tally-none, tally-one}
use Rattle.dealing.proofs.Rich.{Role, tree, over, trunk, spare, Visit, kind_of, to, first, root_in, slots}
use Rattle.dealing.proofs.Rich.{RowAsks, LeafAsks, InnerAsks, Asks}
use Rattle.dealing.proofs.Parts.{AsksOf}
use Rattle.dealing.proofs.Walked.{free_weight}
use Rattle.dealing.proofs.Told.{Said, describe, undescribe}
use Rattle.dealing.proofs.Match.{Match, place-kinds, first-kinds, tree-kind, tree-one, tree-page, told-holds}
use Rattle.dealing.proofs.Match.{holds-told, first-schema}
use Rattle.dealing.proofs.Grow.{Avail, Fuel, fuel-told, grow}
use Rattle.dealing.proofs.Reach.{page_of, origin, closure, asks-leaf, asks-inner}
use Rattle.dealing.proofs.Unique.{Naming}
use Rattle.dealing.proofs.Trees.{collect, inside, leafy_roots, roots-collect, leaf-roots-in}
use Rattle.dealing.proofs.Marks.{leafy_left}
use Rattle.dealing.proofs.Tests.{trees_of, Level}
use Rattle.dealing.proofs.GoodAccepted.{free-over, high}

abbrev choose : {P A : Type 0} → Dec P → A → A → A
choose (yes _) a b = a
choose (no _) a b = b

look : List Visit → ℕ → Visit
look [] p = first
look (x ∷ l) p = choose (ℕ_discrete x.page p) x (look l p)

look_is : (l : List Visit) → Once page_of l → (x : Visit) → Mem x l → look l x.page ≡ x
unfolding look
look_is (y ∷ l) o x (here e) = go (ℕ_discrete y.page x.page)
  where
    go : (q : Dec (y.page ≡ x.page)) → choose q y (look l x.page) ≡ x
    go (yes _) = sym e
    go (no n) = absurd (n (ap page_of (sym e)))
look_is (y ∷ l) o x (there m) = go (look_is l o.1 x m) (ℕ_discrete y.page x.page)
  where
    go : look l x.page ≡ x → (q : Dec (y.page ≡ x.page)) → choose q y (look l x.page) ≡ x
    go ih (yes k) = absurd (o.0 x m k)
    go ih (no n) = ih
look_is [] o x x4 = elim x4 [ ]

-- the visits are distinct pages of 2..N, all of them, closed, and ask what holds
module _ (f : File) (some : 1 ≤ f.N) (vs : List Visit) (closed : Perm vs (slots f first ++ gather (slots f) vs))
    (range : (v : Visit) → Mem v vs → Nameable f v.page) (dist : Once page_of vs) (cover : (p : ℕ) → Nameable f p → (v : Visit) × Mem v vs × (v.page ≡ p))
    (asks-1 : AsksOf f first) (asks-all : (v : Visit) → Mem v vs → AsksOf f v) where
  abbrev all : List Visit
  all = first ∷ vs

  all-dist : Once page_of all
  all-dist = (λ v m e. let l : Nameable f v.page = range v m in omega arith, dist)

  ent : ℕ → Visit
  ent p = look all p

  abbrev gate : ℕ → ℕ
  gate p = cond (eqb p 1) 0 (f.fixed p)

  pub dealt : Dealing
  dealt =
      record {
        kind = λ p. choose (ℕ_discrete (gate p) 0) (kind_of (ent p).role) (6 + f.fixed p);
        namer = λ p. choose (ℕ_discrete (gate p) 0) (ent p).holder 0;
        step = λ p. choose (ℕ_discrete (gate p) 0) (ent p).step 0;
      }

  is : (v : Visit) → Mem v all → ent v.page ≡ v
  unfolding ent
  is v m = look_is all all-dist v m

  gate-later : (p : ℕ) → Nameable f p → gate p ≡ 0
  gate-later p l = rw (ne_eqb p 1 (λ e. omega (arith, l.0))) l.2

  gate-all : (v : Visit) → Mem v all → gate v.page ≡ 0
  gate-all v (here e) = ap (λ (v : Visit). gate v.page) e
  gate-all v (there m) = gate-later v.page (range v m)

  gate-fixed : (p : ℕ) → Fixed f p → gate p ≢ 0
  gate-fixed p x e = x.2 (sym (rw (ne_eqb p 1 (λ e. omega (arith, x.0))) refl) ∙ e)

  chosen : {A : Type 0} (p : ℕ) (a b : A) → gate p ≡ 0 → choose (ℕ_discrete (gate p) 0) a b ≡ a
  chosen p a b e = go (ℕ_discrete (gate p) 0)
    where
      go : (q : Dec (gate p ≡ 0)) → choose q a b ≡ a
      go (yes _) = refl
      go (no n) = absurd (n e)

  unchosen : {A : Type 0} (p : ℕ) (a b : A) → gate p ≢ 0 → choose (ℕ_discrete (gate p) 0) a b ≡ b
  unchosen p a b e = go (ℕ_discrete (gate p) 0)
    where
      go : (q : Dec (gate p ≡ 0)) → choose q a b ≡ b
      go (yes z) = absurd (e z)
      go (no n) = refl

  pub good_placed : (p : ℕ) → Fixed f p → (dealt.kind p ≡ 6 + f.fixed p) × (dealt.namer p ≡ 0) × (dealt.step p ≡ 0)
  unfolding dealt
  good_placed p x = let n = gate-fixed p x in
      (unchosen p (kind_of (ent p).role) (6 + f.fixed p) n, unchosen p (ent p).holder 0 n, unchosen p (ent p).step 0 n)

  pub kind_is : (v : Visit) → Mem v all → dealt.kind v.page ≡ kind_of v.role
  unfolding dealt
  kind_is v m = chosen v.page (kind_of (ent v.page).role) (6 + f.fixed v.page) (gate-all v m) ∙ ap (λ v. kind_of v.role) (is v m)

  pub namer-is : (v : Visit) → Mem v all → dealt.namer v.page ≡ v.holder
  unfolding dealt
  namer-is v m = chosen v.page (ent v.page).holder 0 (gate-all v m) ∙ ap (λ v. v.holder) (is v m)

  step_is : (v : Visit) → Mem v all → dealt.step v.page ≡ v.step
  unfolding dealt
  step_is v m = chosen v.page (ent v.page).step 0 (gate-all v m) ∙ ap (λ v. v.step) (is v m)

  in_all : (v : Visit) → Mem v all → Page f v.page
  in_all v (here e) = subst (λ (v : Visit). Page f v.page) (sym e) (omega arith)
  in_all v (there m) = let l : Nameable f v.page = range v m in omega arith

  asks : (v : Visit) → Mem v all → AsksOf f v
  asks v (here e) = subst (AsksOf f) (sym e) asks-1
  asks v (there m) = asks-all v m

  -- every page is visited, or has its kind by its place
  found : (p : ℕ) → Page f p → Fixed f p ⊎ ((v : Visit) × Mem v all × (v.page ≡ p))
  found p h = go (ℕ_discrete p 1) (ℕ_discrete (f.fixed p) 0)
    where
      go : Dec (p ≡ 1) → Dec (f.fixed p ≡ 0) → Fixed f p ⊎ ((v : Visit) × Mem v all × (v.page ≡ p))
      go (yes e) z = inr (first, here refl, sym e)
      go (no n) (yes z) = let r = cover p (omega arith) in inr (r.0, there r.1, r.2)
      go (no n) (no z) = inl (omega arith, omega arith, z)

  fixed-kind : (p : ℕ) → Fixed f p → 7 ≤ dealt.kind p
  fixed-kind p x = let n : f.fixed p ≢ 0 = x.2 in omega (arith, (good_placed p x).0)

  -- so a page whose kind is one of the six is visited
  visited-one : (p : ℕ) → Page f p → dealt.kind p ≤ 6 → (v : Visit) × Mem v all × (v.page ≡ p)
  visited-one p h k = ⊎_elim (λ x. absurd (omega (arith, fixed-kind p x))) (λ w. w) (found p h)

  holder-kind : (q : ℕ) (s : Slot) (t k : ℕ) → dealt.kind 1 ≡ 1 → PointsTo f dealt q s t k → dealt.kind q ≤ 6
  holder-kind q (child_slot j) t k o w = ⊎_elim (λ e. omega arith) (λ e. omega arith) w.0
  holder-kind q right_slot t k o w = ⊎_elim (λ e. omega arith) (λ e. omega arith) w.0
  holder-kind q (chain_slot j) t k o w = ⊎_elim (λ e. omega arith) (λ e. omega arith) w.0
  holder-kind q (root_slot j) t k o w = ⊎_elim (λ e. omega arith) (λ e. omega arith) (tree-kind f dealt w.0.0.0 1 q o w.0.0.1)
  holder-kind q head_slot t k o w = omega (arith, ap dealt.kind w.0)
  holder-kind q (leaf_slot j) t k o w = omega (arith, w.0)
  holder-kind q next_slot t k o (inl w) = omega (arith, w.0)
  holder-kind q next_slot t k o (inr w) = ⊎_elim (λ e. omega arith) (λ e. omega arith) w.0

  -- whence a visit comes
  record Parent (v : Visit) : Type 0 where
    by : Visit
    met : Mem by all
    says : Said f by.page by.step by.role v

  parent : (v : Visit) → Mem v vs → Parent v
  parent v m = let r = origin f vs closed v m in record { by = r.0; met = r.1; says = describe f r.0.page r.0.step r.0.role v r.2 }

  back : (p s : ℕ) → 1 ≤ p → p ≤ f.N → dealt.step p ≡ suc s → (q : ℕ) × (1 ≤ q) × (q ≤ f.N) × (dealt.step q ≡ s)
  back p s a b e = go (found p (a, b))
    where
      go : Fixed f p ⊎ ((v : Visit) × Mem v all × (v.page ≡ p)) → (q : ℕ) × (1 ≤ q) × (q ≤ f.N) × (dealt.step q ≡ s)
      go (inl x) = absurd (omega (arith, (good_placed p x).2))
      go (inr (v, here k, e')) = absurd (omega (arith, ap dealt.step e', step_is v (here k), ap (λ (v : Visit). v.step) k))
      go (inr (v, there m, e')) =
          let r = parent v m in
          let h = in_all r.by r.met in
          (r.by.page, h.0, h.1, omega (arith, ap dealt.step e', step_is v (there m), step_is r.by r.met, r.says.step))

  shallow : (v : Visit) → Mem v all → v.step < f.N
  shallow v m = let h = in_all v m in omega (arith, step-below dealt.step f.N back v.page h.0 h.1, step_is v m)

  avail : (t s : ℕ) (o : Role) → Asks f t o → Fuel f o s → s < f.N → Avail f t o
  avail t s (tree b r p zero) a u h = absurd a
  avail t s (tree b r p (suc l)) a u h = omega arith
  avail t s (over b n) a u h = a
  avail t s (trunk n) a u h = omega arith
  avail t s spare a u h = tt

  record Fine (v : Visit) : Type 0 where
    match : Match f dealt v.page v.role
    fuel : Fuel f v.role v.step

  fine-first : Fine first
  fine-first =
      record {
        match = record {
          page = omega arith;
          kind = kind_is first (here refl);
          fits = record {
            level = 1;
            in_tree = refl;
            levels = omega arith;
            some = omega arith;
            top = omega arith;
            top-kind = kind_is first (here refl);
            schema = refl;
            place = first-schema f dealt 1 (kind_is first (here refl)) refl;
          };
        };
        fuel = λ e. refl;
      }

  fine-next : (v : Visit) → (m : Mem v vs) → (r : Parent v) → Fine r.by → Fine v
  fine-next v m r F =
      let n : Visit = r.by in
      let S = r.says in
      let u : Fuel f v.role v.step =
      subst (Fuel f v.role) (sym S.step) (fuel-told f n.page n.step n.role F.fuel v.slot v.page v.role S.told) in
      record {
        match =
            grow f dealt n.page n.role F.match v.slot v.page v.role S.told (range v m) (kind_is v (there m))
            (namer-is v (there m) ∙ S.holder)
            (avail v.page v.step v.role (asks-all v m) u (shallow v (there m)));
        fuel = u;
      }

  fine-to : (k : ℕ) (v : Visit) → Mem v all → v.step ≤ k → Fine v
  fine-to zero v m h = go m
    where
      go : Mem v all → Fine v
      go (here e) = subst Fine (sym e) fine-first
      go (there m) = let r = parent v m in absurd (omega (arith, r.says.step))
  fine-to (suc k) v m h = go (λ n. fine-to k n) m
    where
      go : ((n : Visit) → Mem n all → n.step ≤ k → Fine n) → Mem v all → Fine v
      go ih (here e) = subst Fine (sym e) fine-first
      go ih (there m) = let r = parent v m in fine-next v m r (ih r.by r.met (omega (arith, r.says.step)))

  fine : (v : Visit) → Mem v all → Fine v
  fine v m = fine-to v.step v m (omega arith)

  kind_1 : dealt.kind 1 ≡ 1
  kind_1 = kind_is first (here refl)

  -- a pointer by the dealing is a visit
  record Followed (q : ℕ) (s : Slot) (t k : ℕ) : Type 0 where
    visit : Visit
    met : Mem visit vs
    holder : visit.holder ≡ q
    page : visit.page ≡ t
    slot : visit.slot ≡ s
    kind : kind_of visit.role ≡ k

  followed : (q : ℕ) (s : Slot) (t k : ℕ) → Page f q → PointsTo f dealt q s t k → Followed q s t k
  followed q s t k h H =
      let r = visited-one q h (holder-kind q s t k kind_1 H) in
      let v : Visit = r.0 in
      let T = holds-told f dealt kind_1 v.page v.role (fine v r.1).match s t k (subst (λ q. PointsTo f dealt q s t k) (sym r.2) H) in
      record {
        visit = to v.page v.step s t T.role;
        met = closure f vs closed v (to v.page v.step s t T.role) r.1 (undescribe f v.page v.step v.role s t T.role T.told);
        holder = r.2;
        page = refl;
        slot = refl;
        kind = T.kind;
      }

  good-pointers : (q : ℕ) (s : Slot) (t k : ℕ) → Page f q → PointsTo f dealt q s t k → Nameable f t × (dealt.kind t ≡ k) × (dealt.namer t ≡ q)
  good-pointers q s t k h H =
      let F = followed q s t k h H in (
        subst (Nameable f) F.page (range F.visit F.met),
        ap dealt.kind (sym F.page) ∙ kind_is F.visit (there F.met) ∙ F.kind,
        ap dealt.namer (sym F.page) ∙ namer-is F.visit (there F.met) ∙ F.holder,
      )

  good-once : (q q' : ℕ) (s s' : Slot) (t k k' : ℕ) → Page f q → Page f q' → PointsTo f dealt q s t k → PointsTo f dealt q' s' t k' → (q ≡ q') × (s ≡ s')
  good-once q q' s s' t k k' h h' H H' =
      let F = followed q s t k h H in
      let F' = followed q' s' t k' h' H' in
      let e : F.visit ≡ F'.visit = once-same page_of vs dist F.met F'.met (F.page ∙ sym F'.page) in
      (sym F.holder ∙ ap (λ v. v.holder) e ∙ F'.holder, sym F.slot ∙ ap (λ v. v.slot) e ∙ F'.slot)

  named : (p : ℕ) → Nameable f p → Naming f dealt p
  named p l =
      let c = cover p l in
      let v : Visit = c.0 in
      let r = parent v c.1 in
      let e : r.by.page ≡ dealt.namer p = sym r.says.holder ∙ sym (namer-is v (there c.1)) ∙ ap dealt.namer c.2 in
      let H = told-holds f dealt r.by.page r.by.role (fine r.by r.met).match v.slot v.page v.role r.says.told in
      record {
        slot = v.slot;
        page = subst (Page f) e (in_all r.by r.met);
        holds = subst (λ q. PointsTo f dealt q v.slot p (dealt.kind p)) e
            (subst (λ p. PointsTo f dealt r.by.page v.slot p (dealt.kind p)) c.2
            (subst (PointsTo f dealt r.by.page v.slot v.page) (sym (kind_is v (there c.1))) H));
      }

  good-steps : (p : ℕ) → Nameable f p → dealt.step p ≡ suc (dealt.step (dealt.namer p))
  good-steps p l =
      let c = cover p l in
      let v : Visit = c.0 in
      let r = parent v c.1 in
      let e : r.by.page ≡ dealt.namer p = sym r.says.holder ∙ sym (namer-is v (there c.1)) ∙ ap dealt.namer c.2 in
      ap dealt.step (sym c.2) ∙ step_is v (there c.1) ∙ r.says.step ∙ ap suc (sym (step_is r.by r.met) ∙ ap dealt.step e)

  -- a tree page's visit
  record TreeVisit (q : ℕ) : Type 0 where
    b : Bool
    r : ℕ
    p : Place
    l : ℕ
    step : ℕ
    slot : Slot
    holder : ℕ
    met : Mem (record { holder = holder; page = q; step = step; slot = slot; role = tree b r p (suc l) }) all
    match : Match f dealt q (tree b r p (suc l))
    asked : Asks f q (tree b r p (suc l))

  tree-visit : (q : ℕ) → Page f q → TreePage dealt q → TreeVisit q
  tree-visit q h k =
      let c = visited-one q h (⊎_elim (λ e. omega arith) (λ e. omega arith) k) in
      let v : Visit = c.0 in
      let e : Mem (record { holder = v.holder; page = q; step = v.step; slot = v.slot; role = v.role }) all =
      subst (λ q. Mem (record { holder = v.holder; page = q; step = v.step; slot = v.slot; role = v.role }) all) c.2 c.1 in
      go v.role v.step v.slot v.holder e (subst (λ q. Match f dealt q v.role) c.2 (fine v c.1).match)
      (subst (λ q. Asks f q v.role) c.2 (asks v c.1))
    where
      go : (o : Role) (s : ℕ) (x : Slot) (hd : ℕ) → Mem (record { holder = hd; page = q; step = s; slot = x; role = o }) all → Match f dealt q o
          → Asks f q o → TreeVisit q
      go (tree b r p zero) s x hd m M a = absurd a
      go (tree b r p (suc l)) s x hd m M a = record { b = b; r = r; p = p; l = l; step = s; slot = x; holder = hd; met = m; match = M; asked = a }
      go (over b n) s x hd m M a =
          absurd (⊎_elim (λ i. ⊎_elim (λ j. omega (arith, M.kind)) (λ j. omega (arith, M.kind)) k)
          (λ i. ⊎_elim (λ j. omega (arith, M.kind)) (λ j. omega (arith, M.kind)) k) (first-kinds b))
      go (trunk n) s x hd m M a = absurd (⊎_elim (λ j. omega (arith, M.kind)) (λ j. omega (arith, M.kind)) k)
      go spare s x hd m M a = absurd (⊎_elim (λ j. omega (arith, M.kind)) (λ j. omega (arith, M.kind)) k)

  -- and what it says of the tree that it lies in
  record Lies (r level q : ℕ) : Type 0 where
    visit : TreeVisit q
    top : visit.r ≡ r
    levels : level + suc visit.l ≡ 21

  lies : (r level q : ℕ) → Page f r → dealt.kind r ≡ 1 → InTree f dealt r level q → Lies r level q
  lies r n q h k t =
      let v = tree-visit q (tree-page f dealt n r q h t) (tree-kind f dealt n r q k t) in
      let F = v.match.fits in
      let w = tree-one f dealt F.level n v.r r q F.top-kind k F.in_tree t in
      record { visit = v; top = w.0; levels = omega (arith, w.1, F.levels) }

  depth : (r level q : ℕ) → Page f r → dealt.kind r ≡ 1 → InTree f dealt r level q → level ≤ 20
  depth r n q h k t = let w = lies r n q h k t in let e = w.levels in omega arith

  rows : (level q j : ℕ) → InTree f dealt 1 level q → is_leaf f q ≡ true → j < f.count q → RootNumber f (f.column4 q j)
  rows n q j t e a =
      let w = lies 1 n q (omega arith) kind_1 t in
      let v = w.visit in
      let F = v.match.fits in
      let y : v.b ≡ true = F.schema ∙ eq-eqb v.r 1 w.top in
      let A : LeafAsks f v.b q 0 (cells_of f q) =
      subst (λ b. cond b (LeafAsks f v.b q 0 (cells_of f q)) (InnerAsks (is_table f q) (cells_of f q))) e v.asked.1 in
      let R = (asks-leaf f v.b q 0 (cells_of f q) A j (f.cell q j) (is_at f q j a)).1 in
      fit-number f (f.column4 q j) (subst (λ i. fit f.N (f.column4 q i) ≡ true) (zero-add j) (subst (λ b. RowAsks f.N b (f.column4 q (0 + j))) y R))

  -- chains
  chain-of : (n : ℕ) (hd q s : ℕ) (x : Slot) (b : Bool) → Mem (record { holder = hd; page = q; step = s; slot = x; role = over b n }) vs → Chain f n (f.next q)
  chain-of zero hd q s x b m = let e : f.next q ≡ 0 = asks-all (record { holder = hd; page = q; step = s; slot = x; role = over b zero }) m in omega arith
  chain-of (suc n) hd q s x b m =
      let v : Visit = record { holder = hd; page = q; step = s; slot = x; role = over b (suc n) } in
      let k =
      closure f vs closed v (to q s next_slot (f.next q) (over false n)) (there m)
      (undescribe f q s (over b (suc n)) next_slot (f.next q) (over false n) (n, refl, refl, refl)) in
      (asks-all v m, chain-of n q (f.next q) (suc s) next_slot false k)

  chains : (q j : ℕ) (c : Cell) → Page f q → TreePage dealt q → payload (is_leaf f q) (is_table f q) ≡ true → At (cells_of f q) j c → 1 ≤ c.links
      → Chain f c.links c.first
  chains q j c h k e a i = go c.links refl i
    where
      v : TreeVisit q
      v = tree-visit q h k

      go : (n : ℕ) → c.links ≡ n → 1 ≤ n → Chain f n c.first
      go zero e' i = absurd (omega arith)
      go (suc n) e' i =
          let u : Visit = record { holder = v.holder; page = q; step = v.step; slot = v.slot; role = tree v.b v.r v.p (suc v.l) } in
          let m = closure f vs closed u (to q v.step (chain_slot j) c.first (over true n)) v.met
          (undescribe f q v.step (tree v.b v.r v.p (suc v.l)) (chain_slot j) c.first (over true n)
          (v.l, refl, e, (c, n, a, e', refl, refl))) in
          let l : Nameable f c.first = range (to q v.step (chain_slot j) c.first (over true n)) m in
          ((λ z. omega arith), chain-of n q c.first (suc v.step) (chain_slot j) true m)

  reads_all : (q j : ℕ) → Page f q → TreePage dealt q → payload (is_leaf f q) (is_table f q) ≡ true → j < f.count q → (f.cell q j).reads ≡ true
  reads_all q j h k e a = go (is_leaf f q) (is_table f q) refl refl e v.asked.1
    where
      v : TreeVisit q
      v = tree-visit q h k

      go : (y z : Bool) → is_leaf f q ≡ y → is_table f q ≡ z → payload y z ≡ true
          → cond y (LeafAsks f v.b q 0 (cells_of f q)) (InnerAsks z (cells_of f q)) → (f.cell q j).reads ≡ true
      go true z l t e A = (asks-leaf f v.b q 0 (cells_of f q) A j (f.cell q j) (is_at f q j a)).0.1
      go false false l t e A = (asks-inner false (cells_of f q) A j (f.cell q j) (is_at f q j a)).1
      go false true l t e A = absurd (let z : ◌≡◌ {A = ℕ} 0 1 = cc in omega arith)

  rooms : (q : ℕ) → Page f q → dealt.kind q ≡ 2 → f.trunk_count q ≤ f.trunk_room
  rooms q h k =
      let c = visited-one q h (omega arith) in
      let v : Visit = c.0 in
      go v.role (subst (λ q. Match f dealt q v.role) c.2 (fine v c.1).match) (subst (λ q. Asks f q v.role) c.2 (asks v c.1))
    where
      go : (o : Role) → Match f dealt q o → Asks f q o → f.trunk_count q ≤ f.trunk_room
      go (tree b r p l) M a = absurd (⊎_elim (λ j. omega (arith, M.kind)) (λ j. omega (arith, M.kind)) (place-kinds p))
      go (over b n) M a = absurd (⊎_elim (λ j. omega (arith, M.kind)) (λ j. omega (arith, M.kind)) (first-kinds b))
      go (trunk n) M a = a
      go spare M a = absurd (omega (arith, M.kind))

  total : free_pages dealt f.N ≡ sum (free_weight f) vs
  total =
      free-over dealt f.N
      ∙ sym (pages-same (tally page_of (free_weight f) vs) (λ p. on_freelist (dealt.kind p)) f.N each)
      ∙ tally-all page_of (free_weight f) f.N vs (λ v m. let l = range v m in omega arith)
    where
      each : (p : ℕ) → 1 ≤ p → p ≤ f.N → tally page_of (free_weight f) vs p ≡ on_freelist (dealt.kind p)
      each p a b = go (ℕ_discrete p 1) (ℕ_discrete (f.fixed p) 0)
        where
          go : Dec (p ≡ 1) → Dec (f.fixed p ≡ 0) → tally page_of (free_weight f) vs p ≡ on_freelist (dealt.kind p)
          go (yes e) z =
              tally-none page_of (free_weight f) vs p (λ v m k. let l = range v m in omega arith)
              ∙ sym (ap (λ q. on_freelist (dealt.kind q)) e ∙ ap on_freelist kind_1)
          go (no n) (no z) =
              tally-none page_of (free_weight f) vs p (λ v m k. z (ap f.fixed (sym k) ∙ (range v m).2))
              ∙ sym (ap on_freelist (good_placed p (omega arith, omega arith, z)).0 ∙ high (f.fixed p))
          go (no n) (yes z) =
              let r = cover p (omega arith) in
              subst (λ p. tally page_of (free_weight f) vs p ≡ on_freelist (dealt.kind p)) r.2
              (tally-one page_of (free_weight f) vs dist r.0 r.1 ∙ sym (ap on_freelist (kind_is r.0 (there r.1))))

  -- every root is one of the walk's trees
  root-named : (r : ℕ) (s : Slot) (q k : ℕ) → k ≡ 1 → PointsTo f dealt q s r k → Mem (q, r) (schema_roots f 20 1)
  root-named r (root_slot j) q k e H =
      let n : ℕ = H.0.0.0 in
      let w = lies 1 n q (omega arith) kind_1 H.0.0.1 in
      let m : Mem (q, r) (leaf_roots f q 0 (cells_of f q)) =
      leaf-roots-in f q 0 (cells_of f q) j (f.cell q j) r (is_at f q j H.0.2)
      (ap (λ j. root_in f q j) (zero-add j) ∙ number-named (f.column4 q j) r H.1 H.2) in
      subst (Mem (q, r)) (sym (roots-collect f 20 1))
      (inside f (leafy_roots f) dealt named n (suc w.visit.l) 1 q H.0.0.1 w.levels (q, r) (leafy-in w.visit.l q r H.0.1 m))
    where
      leafy-in : (l q r : ℕ) → is_leaf f q ≡ true → Mem (q, r) (leaf_roots f q 0 (cells_of f q)) → Mem (q, r) (collect f (leafy_roots f) (suc l) q)
      leafy-in l q r e m = unfold collect in rw e m
  root-named r (child_slot j) q k e H = absurd (omega (arith, H.4))
  root-named r right_slot q k e H = absurd (omega (arith, H.3))
  root-named r (chain_slot j) q k e H = absurd (omega (arith, H.5))
  root-named r head_slot q k e H = absurd (omega (arith, H.3))
  root-named r (leaf_slot j) q k e H = absurd (omega (arith, H.3))
  root-named r next_slot q k e (inl H) = absurd (omega (arith, H.3))
  root-named r next_slot q k e (inr H) = absurd (omega (arith, H.3))

  later : (r : ℕ) → Page f r → dealt.kind r ≡ 1 → r ≢ 1 → Nameable f r
  later r h k n = go (ℕ_discrete (f.fixed r) 0)
    where
      go : Dec (f.fixed r ≡ 0) → Nameable f r
      go (yes z) = (omega arith, omega arith, z)
      go (no z) = absurd (omega (arith, fixed-kind r (omega arith, omega arith, z)))

  pub is-tree : (r : ℕ) → Page f r → dealt.kind r ≡ 1 → (x : ℕ × ℕ) × Mem x (trees_of f) × (x.1 ≡ r)
  is-tree r h k = go (ℕ_discrete r 1)
    where
      go : Dec (r ≡ 1) → (x : ℕ × ℕ) × Mem x (trees_of f) × (x.1 ≡ r)
      go (yes e) = ((0, 1), here refl, sym e)
      go (no n) = let w = named r (later r h k n) in ((dealt.namer r, r), there (root-named r w.slot (dealt.namer r) (dealt.kind r) k w.holds), refl)

  leafy-left : (l q : ℕ) → is_leaf f q ≡ true → Mem (suc l) (collect f leafy_left (suc l) q)
  unfolding collect
  leafy-left l q e = rw e (here refl)

  module _ (total-is : sum (free_weight f) vs ≡ f.free_total) (ordered : (x : ℕ × ℕ) → Mem x (trees_of f) → Ordered (reading f false 20 x.1))
      (level : (x : ℕ × ℕ) → Mem x (trees_of f) → Level f x.1) (after : After f dealt) where
    evens : (r n q n' q' : ℕ) → Page f r → dealt.kind r ≡ 1
        → InTree f dealt r n q → is_leaf f q ≡ true → InTree f dealt r n' q' → is_leaf f q' ≡ true → n ≡ n'
    evens r n q n' q' h k t e t' e' =
        let w = lies r n q h k t in
        let w' = lies r n' q' h k t' in
        let x = is-tree r h k in
        let a = inside f leafy_left dealt named n (suc w.visit.l) r q t w.levels (suc w.visit.l) (leafy-left w.visit.l q e) in
        let a' = inside f leafy_left dealt named n' (suc w'.visit.l) r q' t' w'.levels (suc w'.visit.l) (leafy-left w'.visit.l q' e') in
        let s : suc w.visit.l ≡ suc w'.visit.l = (subst (Level f) x.2 (level x.0 x.1)) (suc w.visit.l) (suc w'.visit.l) a a' in
        omega (arith, w.levels, w'.levels)

    sound : (q : ℕ) → Page f q → TreePage dealt q → (suits (place_of f dealt q) (f.type q) ≡ true) × (f.broken q ≡ 0)
    sound q h k = let v = tree-visit q h k in none-fault f (place_of f dealt q) q (subst (λ p. fault_in f p q ≡ 0) (sym v.match.fits.place) v.asked.0)

    pub dealt-good : Good f dealt
    dealt-good =
        record {
          kind_1 = kind_1;
          namer_1 = namer-is first (here refl);
          step_1 = step_is first (here refl);
          steps = good-steps;
          placed = good_placed;
          pointers = good-pointers;
          named = λ p l. let w = named p l in (dealt.namer p, w.slot, (w.page, (dealt.kind p, w.holds)));
          once = λ q q' s s' t h h'. good-once q q' s s' t h.1.0 h'.1.0 h.0 h'.0 h.1.1 h'.1.1;
          rule_22 = λ q h k. (sound q h k).0;
          rule_23_26 = λ q h k. (sound q h k).1;
          rule_24_depth = depth;
          rule_24_even = λ r n q n' q' h. evens r n q n' q' (omega arith);
          rule_25 = λ r h k. let x = is-tree r h k in subst (λ r. Ordered (reading f false 20 r)) x.2 (ordered x.0 x.1);
          rule_27 = λ q j h k e a. chains q j (f.cell q j) h k e (is_at f q j a);
          rule_28 = λ q j l. rows l.0.0 q j l.0.1 l.1 l.2;
          rule_28_reads = reads_all;
          rule_29_room = λ q h k. omega (arith, rooms q h k);
          rule_29_total = total ∙ total-is;
          after = after;
        }
