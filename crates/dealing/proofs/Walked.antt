-- The visits of the whole walk: they are what page 1 names and what they name themselves.
use mathlib.Core.Path.{◌≡◌, refl, sym, ◌∙◌, ap, subst}
use mathlib.Core.Bool.{Bool, true, false, cond}
use mathlib.Core.Logic.{⊎_elim}
use mathlib.Core.List.{List, [], ◌∷◌, ◌++◌, map, map-append, append_assoc, append-nil}
use mathlib.Core.List.Memᴰ.{append_cases}
use mathlib.Core.List.Memᴰ.{head as here}
use mathlib.Core.List.Memᴰ.{tail as there}
use mathlib.Core.List.{Memᴰ as Mem}
use mathlib.Core.List.Memᴰ.{append_left}
use mathlib.Core.List.Memᴰ.{append_right}
use mathlib.Core.List.Permᴰ.{nil}
use mathlib.Core.List.Permᴰ.{trans}
use mathlib.Core.List.{Permᴰ as Perm}
use mathlib.Core.List.Permᴰ
use Prim.Native.Nat.{ℕ, zero, suc, ◌+◌}
use native.Mathlib.Omega.{arith}
use lib.Dec.{eqb, leb}
use lib.ListN.{length, length-append, length-map}
use borrow.Author.Tests.{eq-eqb, eqb-true}
use Rattle.dealing.specs.File.{schema_root, any_root, table_page, index_page, Cell, File, is_leaf, cells_of}
use Rattle.dealing.specs.Good.{head_slot, on_freelist}
use Rattle.dealing.specs.Walk.{schema_tree, Event, start, check, page_events, schema_roots, root_events, trunk_leaves}
use Rattle.dealing.specs.Walk.{trunk_events, free_count, Named, nothing, root, free_events, events}
use Rattle.dealing.proofs.Lists.{gather, gather-out}
use Rattle.dealing.proofs.Sums.{sum, sum-append, sum-zero}
use Rattle.dealing.proofs.Rich.{Role, tree, over, trunk, spare, Visit, kind_of, trunk_to, root_in, root_to, root_slots}
use Rattle.dealing.proofs.Rich.{inner, roots_for, free_for, within, roots_of, free_of, slots, first, Asks}
use Rattle.dealing.proofs.Parts.{perm-mem, perm-both, perm-cross, gather_append, names_of, Clean, names-append, clean-split, clean-join}
use Rattle.dealing.proofs.Parts.{plain_of, root_of, AsksOf, Part}
use Rattle.dealing.proofs.Parts.{WoodRole, Wood, FreeRole, FreeOnes, checked}
use Rattle.dealing.proofs.Whole.{below, full_is, tree_part, trunk_part, IsRoot, roots_part}

abbrev pub free_weight : File → Visit → ℕ
free_weight f v = on_freelist (kind_of v.role)

module _ (ordered : List ℕ) (f : File) where
  root-to : (h s i : ℕ) (c : Named) (v : Visit) → Mem v (root_to h s i c) → IsRoot f v
  root-to h s i (root r) v (here e) = rw e
  root-to h s i (root r) v (there m) = elim m [ ]
  root-to h s i nothing v x' = elim x' [ ]

  root-slots : (h s i : ℕ) (cs : List Cell) (v : Visit) → Mem v (root_slots f h s i cs) → IsRoot f v
  unfolding root_slots
  root-slots h s i (c ∷ cs) v m = ⊎_elim (root-to h s i (root_in f h i) v) (root-slots h s (suc i) cs v) (append_cases (root_to h s i (root_in f h i)) m)
  root-slots h s i [] v m = elim m [ ]

  roots_are : (h s : ℕ) (o : Role) (v : Visit) → Mem v (roots_for f h s o) → IsRoot f v
  unfolding roots_for
  roots_are h s (tree true r p (suc l)) v m = go (is_leaf f h) m
    where
      go : (b : Bool) → Mem v (cond b (root_slots f h s 0 (cells_of f h)) []) → IsRoot f v
      go true m = root-slots h s 0 (cells_of f h) v m
      go false m = elim m [ ]
  roots_are h s (tree true r p zero) v m = elim m [ ]
  roots_are h s (tree false r p l) v m = elim m [ ]
  roots_are h s (over b n) v m = elim m [ ]
  roots_are h s (trunk n) v m = elim m [ ]
  roots_are h s spare v m = elim m [ ]

  wood-free : (w : Bool) (h s : ℕ) (o : Role) → WoodRole w o → free_for f h s o ≡ []
  unfolding free_for
  wood-free w h s (tree b r schema_root l) q = absurd q.1
  wood-free w h s (tree b r any_root l) q = refl
  wood-free w h s (tree b r table_page l) q = refl
  wood-free w h s (tree b r index_page l) q = refl
  wood-free w h s (over b n) q = refl
  wood-free w h s (trunk n) q = absurd q
  wood-free w h s spare q = absurd q

  wood-roots : (h s : ℕ) (o : Role) → WoodRole false o → roots_for f h s o ≡ []
  unfolding roots_for
  wood-roots h s (tree true r p l) q = absurd (let z : ◌≡◌ {A = ℕ} 0 1 = cc q.0 in omega arith)
  wood-roots h s (tree false r p l) q = refl
  wood-roots h s (over b n) q = refl
  wood-roots h s (trunk n) q = absurd q
  wood-roots h s spare q = absurd q

  free-free : (h s : ℕ) (o : Role) → FreeRole o → free_for f h s o ++ roots_for f h s o ≡ []
  unfolding free_for roots_for
  free-free h s (tree b r p l) q = absurd q
  free-free h s (over b n) q = absurd q
  free-free h s (trunk n) q = refl
  free-free h s spare q = refl

  wood-kind : (w : Bool) (o : Role) → WoodRole w o → on_freelist (kind_of o) ≡ 0
  wood-kind w (tree b r schema_root l) q = refl
  wood-kind w (tree b r any_root l) q = refl
  wood-kind w (tree b r table_page l) q = refl
  wood-kind w (tree b r index_page l) q = refl
  wood-kind w (over true n) q = refl
  wood-kind w (over false n) q = refl
  wood-kind w (trunk n) q = absurd q
  wood-kind w spare q = absurd q

  free-kind : (o : Role) → FreeRole o → on_freelist (kind_of o) ≡ 1
  free-kind (tree b r p l) q = absurd q
  free-kind (over b n) q = absurd q
  free-kind (trunk n) q = refl
  free-kind spare q = refl

  -- with nothing to name later
  slots-alone : (l : List Visit) → ((v : Visit) → Mem v l → free_of f v ++ roots_of f v ≡ []) → gather (slots f) l ≡ gather (within f) l
  slots-alone [] h = refl
  slots-alone (v ∷ l) h = rw (h v (here refl), append-nil (within f v), slots-alone l (λ u m. h u (there m)))

  slots-roots : (l : List Visit) → ((v : Visit) → Mem v l → free_of f v ≡ []) → Perm (gather (within f) l ++ gather (roots_of f) l) (gather (slots f) l)
  slots-roots [] h = nil
  slots-roots (v ∷ l) h =
      rw (h v (here refl))
      (trans (perm-cross (within f v) (gather (within f) l) (roots_of f v) (gather (roots_of f) l))
      (Permᴰ.append_left (within f v ++ roots_of f v) (slots-roots l (λ u m. h u (there m)))))

  check-names : (b : Bool) (n p : ℕ) → names_of (check b n p) ≡ []
  check-names true n p = refl
  check-names false n p = refl

  leaf-count : (p k j : ℕ) → length (names_of (trunk_leaves f p k j)) ≡ k
  unfolding trunk_leaves
  leaf-count p zero j = refl
  leaf-count p (suc k) j = ap suc (leaf-count p k (suc j))

  free-count : (n h t : ℕ) → free_count f n t ≡ length (names_of (trunk_events f n h t))
  unfolding free_count trunk_events
  free-count zero h t = refl
  free-count (suc n) h zero = refl
  free-count (suc n) h (suc t) =
      let C = check (leb (f.trunk_count (suc t)) f.trunk_room) 29 (suc t) in
      let L = trunk_leaves f (suc t) (f.trunk_count (suc t)) 0 in
      let R = trunk_events f n (suc t) (f.trunk_next (suc t)) in
      let e : length (names_of (C ++ (L ++ R))) ≡ f.trunk_count (suc t) + free_count f n (f.trunk_next (suc t)) =
      ap length (names-append C (L ++ R) ∙ ap (λ l. l ++ names_of (L ++ R)) (check-names (leb (f.trunk_count (suc t)) f.trunk_room) 29 (suc t))
      ∙ names-append L R)
      ∙ length-append (names_of L) (names_of R)
      ∙ rw (leaf-count (suc t) (f.trunk_count (suc t)) 0, ← free-count n (suc t) (f.trunk_next (suc t))) in
      ap suc (sym e)

  sum-length : (l : List Visit) → ((v : Visit) → Mem v l → free_weight f v ≡ 1) → sum (free_weight f) l ≡ length l
  sum-length [] h = refl
  sum-length (v ∷ l) h = omega (arith, h v (here refl), sum-length l (λ u m. h u (there m)))

  abbrev T : Part f (Wood true) (inner f 1 0 (tree true 1 schema_root 20)) (Asks f 1 (tree true 1 schema_root 20)) (below f true 20 1)
      (page_events f schema_tree 20 schema_root 1)
  T = tree_part f true schema_tree refl 20 schema_root 1 0 1

  abbrev F : Part f FreeOnes (trunk_to 1 0 head_slot (suc f.N) f.free_head) (Unit {0}) [] (trunk_events f (suc f.N) 1 f.free_head)
  F = trunk_part f (suc f.N) 1 0 head_slot f.free_head

  abbrev all_roots : List Visit
  all_roots = roots_of f first ++ T.found

  all-roots : (v : Visit) → Mem v all_roots → IsRoot f v
  all-roots v m = ⊎_elim (roots_are 1 0 (tree true 1 schema_root 20) v) go (append_cases (roots_of f first) m)
    where
      go : Mem v T.found → IsRoot f v
      go n = let r = gather-out (roots_of f) T.names (perm-mem T.found_all n) in roots_are r.0.page r.0.step r.0.role v r.2

  abbrev G : (P : List (ℕ × ℕ)) × Part f (Wood false) all_roots (Unit {0}) P (root_events ordered f (map root_of all_roots))
  G = roots_part f ordered all_roots all-roots

  roots-read : map root_of all_roots ≡ schema_roots f 20 1
  roots-read =
      map-append root_of (roots_of f first) T.found ∙ ap (λ l. map root_of (roots_of f first) ++ l) T.found_plain
      ∙ full_is f true 20 1 0 1 schema_root

  abbrev total : ℕ
  total = free_count f (suc f.N) f.free_head

  abbrev all : List Visit
  all = T.names ++ (F.names ++ G.1.names)

  -- the events in their parts
  parts : events ordered f
      ≡ (start ∷ page_events f schema_tree 20 schema_root 1)
      ++ ((trunk_events f (suc f.N) 1 f.free_head ++ check (eqb total f.free_total) 29 1) ++ root_events ordered f (map root_of all_roots))
  unfolding events free_events
  parts = rw roots-read

  check-clean : (b : Bool) (n p : ℕ) → b ≡ true → Clean (check b n p)
  check-clean true n p e = tt
  check-clean false n p e = absurd (let z : ◌≡◌ {A = ℕ} 0 1 = cc in omega arith)

  all_plain : names_of (events ordered f) ≡ map plain_of all
  all_plain =
      ap names_of parts
      ∙ names-append (start ∷ page_events f schema_tree 20 schema_root 1)
      ((trunk_events f (suc f.N) 1 f.free_head ++ check (eqb total f.free_total) 29 1) ++ root_events ordered f (map root_of all_roots))
      ∙ rw (
        T.plain,
        names-append (trunk_events f (suc f.N) 1 f.free_head ++ check (eqb total f.free_total) 29 1) (root_events ordered f (map root_of all_roots)),
        names-append (trunk_events f (suc f.N) 1 f.free_head) (check (eqb total f.free_total) 29 1),
        F.plain,
        check-names (eqb total f.free_total) 29 1,
        G.1.plain,
        append-nil,
      )
      (sym (map-append plain_of T.names (F.names ++ G.1.names) ∙ ap (λ l. map plain_of T.names ++ l) (map-append plain_of F.names G.1.names)))

  shuffle : (w1 gt f1 gf r1 gr gg : List Visit) → Perm ((w1 ++ gt) ++ ((f1 ++ gf) ++ ((r1 ++ gr) ++ gg))) ((w1 ++ (f1 ++ r1)) ++ ((gt ++ gr) ++ (gf ++ gg)))
  shuffle w1 gt f1 gf r1 gr gg =
      let a : Perm ((f1 ++ gf) ++ ((r1 ++ gr) ++ gg)) ((f1 ++ r1) ++ (gf ++ (gr ++ gg))) = rw (append_assoc r1 gr gg) (perm-cross f1 gf r1 (gr ++ gg)) in
      let b : Perm (gt ++ (gf ++ (gr ++ gg))) ((gt ++ gr) ++ (gf ++ gg)) = rw (← append_assoc gt gf (gr ++ gg)) (perm-cross gt gf gr gg) in
      trans (Permᴰ.append_left (w1 ++ gt) a)
      (trans (perm-cross w1 gt (f1 ++ r1) (gf ++ (gr ++ gg))) (Permᴰ.append_left (w1 ++ (f1 ++ r1)) b))

  free-closed : Perm F.names (free_of f first ++ gather (within f) F.names)
  unfolding free_for
  free-closed = F.closed

  all_closed : Perm all (slots f first ++ gather (slots f) all)
  all_closed =
      let gt = gather (within f) T.names in
      let gf = gather (within f) F.names in
      let gg = gather (within f) G.1.names in
      let gr = gather (roots_of f) T.names in
      let w1 = within f first in
      let f1 = free_of f first in
      let r1 = roots_of f first in
      let a : Perm all ((w1 ++ gt) ++ ((f1 ++ gf) ++ ((r1 ++ T.found) ++ gg))) = perm-both T.closed (perm-both free-closed G.1.closed) in
      let b : Perm ((w1 ++ gt) ++ ((f1 ++ gf) ++ ((r1 ++ T.found) ++ gg))) ((w1 ++ gt) ++ ((f1 ++ gf) ++ ((r1 ++ gr) ++ gg))) =
      Permᴰ.append_left (w1 ++ gt) (Permᴰ.append_left (f1 ++ gf) (Permᴰ.append_right gg (Permᴰ.append_left r1 T.found_all))) in
      let e : gather (slots f) all ≡ gather (slots f) T.names ++ (gf ++ gg) =
      gather_append (slots f) T.names (F.names ++ G.1.names)
      ∙ ap (λ l. gather (slots f) T.names ++ l)
      (gather_append (slots f) F.names G.1.names
      ∙ rw (
        slots-alone F.names (λ v m. free-free v.page v.step v.role (F.each v m)),
        slots-alone G.1.names
            (λ v m. rw (wood-free false v.page v.step v.role (G.1.each v m), wood-roots v.page v.step v.role (G.1.each v m))),
      ))
      in
      let c : Perm ((gt ++ gr) ++ (gf ++ gg)) (gather (slots f) T.names ++ (gf ++ gg)) =
      Permᴰ.append_right (gf ++ gg) (slots-roots T.names (λ v m. wood-free true v.page v.step v.role (T.each v m))) in
      rw e (trans a (trans b (trans (shuffle w1 gt f1 gf r1 gr gg) (Permᴰ.append_left (w1 ++ (f1 ++ r1)) c))))

  all-total : sum (free_weight f) all ≡ total
  all-total =
      sum-append (free_weight f) T.names (F.names ++ G.1.names)
      ∙ (let a = sum-append (free_weight f) F.names G.1.names in
      let b = sum-zero (free_weight f) T.names (λ v m. wood-kind true v.role (T.each v m)) in
      let c = sum-zero (free_weight f) G.1.names (λ v m. wood-kind false v.role (G.1.each v m)) in
      let d = sum-length F.names (λ v m. free-kind v.role (F.each v m)) in
      let e = free-count (suc f.N) 1 f.free_head ∙ ap length F.plain ∙ length-map F.names plain_of in
      omega arith)

-- what is known of the walk's visits
pub record Walked (ordered : List ℕ) (f : File) : Type 0 where
  pub visits : List Visit
  pub plain : names_of (events ordered f) ≡ map plain_of visits
  pub closed : Perm visits (slots f first ++ gather (slots f) visits)
  pub total : ℕ
  pub total-is : sum (free_weight f) visits ≡ total
  pub asks : Clean (events ordered f) → AsksOf f first × ((v : Visit) → Mem v visits → AsksOf f v) × (total ≡ f.free_total)
  pub clean : AsksOf f first → ((v : Visit) → Mem v visits → AsksOf f v) → total ≡ f.free_total → Clean (events ordered f)

pub walked : (ordered : List ℕ) (f : File) → Walked ordered f
walked ordered f =
    record {
      visits = all ordered f;
      plain = all_plain ordered f;
      closed = all_closed ordered f;
      total = total ordered f;
      total-is = all-total ordered f;
      asks = λ c.
          let s = clean-split (start ∷ page_events f schema_tree 20 schema_root 1) ((E₁ ++ C) ++ R) (subst Clean (parts ordered f) c) in
          let s' = clean-split (E₁ ++ C) R s.1 in
          let s'' = clean-split E₁ C s'.0 in
          let t = (T ordered f).asks s.0 in
          let u = (F ordered f).asks s''.0 in
          let v = (G ordered f).1.asks s'.1 in (
            t.0,
            λ x m. ⊎_elim (t.1 x) (λ n. ⊎_elim (u.1 x) (v.1 x) (append_cases (F ordered f).names n)) (append_cases (T ordered f).names m),
            eqb-true (total ordered f) f.free_total ((checked f FreeOnes (eqb (total ordered f) f.free_total) 29 1).asks s''.1).0,
          );
      clean = λ k h e.
          subst Clean (sym (parts ordered f))
          (clean-join (start ∷ page_events f schema_tree 20 schema_root 1) ((E₁ ++ C) ++ R)
          ((T ordered f).clean k (λ x m. h x (append_left ((F ordered f).names ++ (G ordered f).1.names) m)))
          (clean-join (E₁ ++ C) R
          (clean-join E₁ C ((F ordered f).clean tt (λ x m. h x (append_right (T ordered f).names (append_left (G ordered f).1.names m))))
          (check-clean ordered f (eqb (total ordered f) f.free_total) 29 1 (eq-eqb (total ordered f) f.free_total e)))
          ((G ordered f).1.clean tt (λ x m. h x (append_right (T ordered f).names (append_right (F ordered f).names m))))));
    }
  where
    E₁ : List Event
    E₁ = trunk_events f (suc f.N) 1 f.free_head

    C : List Event
    C = check (eqb (total ordered f) f.free_total) 29 1

    R : List Event
    R = root_events ordered f (map root_of (all_roots ordered f))
