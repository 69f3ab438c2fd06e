-- The freelist over the bytes of an image, each way that a turn can go.
use mathlib.Core.Path.{◌≡◌, refl, sym, ap, ◌∙◌}
use mathlib.Core.Logic.{◌≢◌}
use mathlib.Core.List.{List, ◌∷◌, []}
use mathlib.Core.Option.{Option, none}
use Prim.Native.Nat.{ℕ, suc, ◌+◌, ◌-◌, ◌*◌, ◌/◌, ◌≤◌, ◌<◌}
use native.Mathlib.Nat.{sub-zero, zero-add}
use lib.ListN.{length}
use native.Mathlib.Omega.{arith}
use lib.Dec.{eqb}
use borrow.Author.Tests.{eq-eqb, ne_eqb}
use Rattle.number.specs.Bytes.{be}
use Rattle.header.specs.declared.Header.{Header}
use Rattle.header.specs.Header.{page_limit}
use Rattle.dealing.specs.File.{File, trunk_kind, free_kind}
use Rattle.dealing.specs.Good.{Mark}
use Rattle.dealing.specs.Walk.{name, check, trunk_leaves, trunk_events, free_count, free_events, run, went, refused, Outcome, State, state}
use Rattle.dealing.proofs.RunLaws.{run_none, run-fail, then-went}
use Rattle.dealing.proofs.WalkLaws.{leaves-end, leaves-stop, leaves-go, trunk-none, trunk-end, count-more, trunk-name-stops, trunk-full}
use Rattle.dealing.proofs.WalkLaws.{trunk-leaves-stop, trunk-goes, free-stops}
use Rattle.image.specs.Pages.{page_in}
use Rattle.image.specs.Image.{file_of}
use Rattle.image.specs.Ready.{Opened, PageAt}
use Rattle.image.proofs.Fields.{head-field, total-field, trunk-next-field, trunk-count-field, trunk-leaf-field, room-field}
use Rattle.image.proofs.Shape.{shape}
use Rattle.ledger.specs.Ledger.{Open}
use Rattle.ledger.proofs.Ways.{at-n, entered}

-- what is read of a trunk, with room for its leaves
module _ {b : List ℕ} {h : Header} (g : Opened b h) (p count : ℕ) (k : count ≡ be 4 (page_in b p) 4) where
  count_is : (file_of b).trunk_count p ≡ count
  count_is = trunk-count-field b p ∙ sym k

  room-is : (file_of b).trunk_room ≡ h.usable / 4 - 2
  room-is = room-field b ∙ ap (λ u. u / 4 - 2) (sym (shape g).usable_is)

  pub count_fits : count ≤ h.usable / 4 - 2 → (file_of b).trunk_count p ≤ (file_of b).trunk_room
  count_fits i =
      let c = count_is in
      let z = room-is in
      omega arith

  pub count-over : h.usable / 4 - 2 < count → (file_of b).trunk_room < (file_of b).trunk_count p
  count-over i =
      let c = count_is in
      let z = room-is in
      omega arith

  pub leaf-fits : (file_of b).trunk_count p ≤ (file_of b).trunk_room → (j : ℕ) → j < count → 8 + 4 * j + 4 ≤ h.usable
  leaf-fits r j i =
      let c = count_is in
      let z = room-is in
      omega arith

  pub leaves-named : (s : State) (j : ℕ) → count ≤ j → run (file_of b).N s (trunk_leaves (file_of b) p ((file_of b).trunk_count p - j) j) ≡ went s
  leaves-named s j i =
      let c = count_is in leaves-end (file_of b) p j s (omega arith)

  -- leaf j is named
  module _ (j t : ℕ) (i : j < count) (e : t ≡ be 4 (page_in b p) (8 + 4 * j)) (s : State) where
    at_leaf : {o : Outcome} → run h.pages s (name p t free_kind ∷ []) ≡ o → run (file_of b).N s (name p ((file_of b).trunk_leaf p j) free_kind ∷ []) ≡ o
    at_leaf r = ap (λ t. run (file_of b).N s (name p t free_kind ∷ [])) (trunk-leaf-field b p j ∙ sym e) ∙ at-n s (name p t free_kind ∷ []) g r

    below : j < (file_of b).trunk_count p
    below = let c = count_is in omega arith

    pub leaf-refused : (x q : ℕ) → run h.pages s (name p t free_kind ∷ []) ≡ refused x q
        → run (file_of b).N s (trunk_leaves (file_of b) p ((file_of b).trunk_count p - j) j) ≡ refused x q
    leaf-refused x q r = leaves-stop (file_of b) p j s below x q (at_leaf r)

    pub leaf-named : (s' : State) → run h.pages s (name p t free_kind ∷ []) ≡ went s'
        → run (file_of b).N s (trunk_leaves (file_of b) p ((file_of b).trunk_count p - j) j)
        ≡ run (file_of b).N s' (trunk_leaves (file_of b) p ((file_of b).trunk_count p - (j + 1)) (j + 1))
    leaf-named s' r = leaves-go (file_of b) p j s below s' (at_leaf r)

pub leaves_all : (f : File) (p : ℕ) (s : State) → run f.N s (trunk_leaves f p (f.trunk_count p) 0) ≡ run f.N s (trunk_leaves f p (f.trunk_count p - 0) 0)
leaves_all f p s = ap (λ k. run f.N s (trunk_leaves f p k 0)) (sym (sub-zero (f.trunk_count p)))

-- the total
pub total-good : (n : ℕ) (s : State) (total stated : ℕ) → total ≡ stated → run n s (check (eqb total stated) 29 1) ≡ went s
total-good n s total stated e = rw (eq-eqb total stated e) (run_none n s)

pub total-bad : (n : ℕ) (s : State) (total stated : ℕ) → total ≢ stated → run n s (check (eqb total stated) 29 1) ≡ refused 29 1
total-bad n s total stated e = rw (ne_eqb total stated e) (run-fail n s [] 29 1)

-- The walk from one trunk to the next: `left` trunks may come, t is the next one's number,
-- `total` pages are counted. A trunk and its leaves are at most 16383 pages.
pub record Going (b : List ℕ) (h : Header) (ks₀ ns₀ ks ns : List ℕ) (holder t total left : ℕ) : Type 0 where
  pub ledgers : Open h.pages ks ns
  pub counted : total + free_count (file_of b) left t ≡ free_count (file_of b) (suc (file_of b).N) (file_of b).free_head
  pub small : total + left * 16383 ≤ (h.pages + 1) * 16383
  pub walked : (m : Option Mark) (l : ℕ)
      → run (file_of b).N (state ks₀ ns₀ m l) (trunk_events (file_of b) (suc (file_of b).N) 1 (file_of b).free_head)
      ≡ run (file_of b).N (state ks ns m l) (trunk_events (file_of b) left holder t)

-- as many may come
pub going-same : {b : List ℕ} {h : Header} {ks₀ ns₀ ks ns : List ℕ} {holder t total left left' : ℕ} → left ≡ left'
    → Going b h ks₀ ns₀ ks ns holder t total left → Going b h ks₀ ns₀ ks ns holder t total left'
going-same e w = rw (sym e) w

-- trunk t is named
pub record Named (b : List ℕ) (h : Header) (ks ns : List ℕ) (holder t : ℕ) (ks₁ ns₁ : List ℕ) : Type 0 where
  pub page : PageAt b h t
  pub ledgers : Open h.pages ks₁ ns₁
  pub enters : (m : Option Mark) (l : ℕ) → run (file_of b).N (state ks ns m l) (name holder t trunk_kind ∷ []) ≡ went (state ks₁ ns₁ m l)

module _ {b : List ℕ} {h : Header} (g : Opened b h) where
  pub going-first : (ks ns : List ℕ) (t : ℕ) → Open h.pages ks ns → t ≡ be 4 b 32 → Going b h ks ns ks ns 1 t 0 (h.pages + 1)
  going-first ks ns t o e =
      let head = head-field b ∙ sym e in
      let fuel : suc (file_of b).N ≡ h.pages + 1 = (let z = (shape g).N-is in omega arith) in record {
        ledgers = o;
        counted = zero-add _ ∙ rw (head, fuel);
        small = omega arith;
        walked = λ m l. rw (head, fuel);
      }

  pub named-trunk : {ks ns ks₁ ns₁ : List ℕ} (holder t : ℕ) → Open h.pages ks ns → length ks₁ ≡ length ks → length ns₁ ≡ length ns
      → ((m : Option Mark) (l : ℕ) → run h.pages (state ks ns m l) (name holder t trunk_kind ∷ []) ≡ went (state ks₁ ns₁ m l))
      → Named b h ks ns holder t ks₁ ns₁
  named-trunk {ks} {ns} holder t o k n e =
      record {
        page = entered h.pages (state ks ns none 0) _ holder t trunk_kind g refl (e none 0);
        ledgers = record { kinds_n = k ∙ o.kinds_n; namers_n = n ∙ o.namers_n };
        enters = λ m l. at-n (state ks ns m l) (name holder t trunk_kind ∷ []) g (e m l);
      }

  module _ {ks₀ ns₀ ks ns : List ℕ} {holder t total left : ℕ} (w : Going b h ks₀ ns₀ ks ns holder t total left) where
    -- what is counted stays far from a number's end
    pub total-fits : total ≤ (page_limit + 1) * 16383
    total-fits =
        let few = (shape g).few in
        let e = w.small in
        omega arith

    -- no trunk follows: the total is tested
    freelist-told : (m : Option Mark) (l : ℕ) → (trunk_events (file_of b) left holder t ≡ []) × (free_count (file_of b) left t ≡ 0)
        → run (file_of b).N (state ks₀ ns₀ m l) (free_events (file_of b)) ≡ run (file_of b).N (state ks ns m l) (check (eqb total (be 4 b 36)) 29 1)
    unfolding free_events
    freelist-told m l z =
        let f = file_of b in
        let s = state ks ns m l in
        let c = w.counted in
        let e : free_count f (suc f.N) f.free_head ≡ total = omega (arith, z.1) in
        then-went f.N (state ks₀ ns₀ m l) s (trunk_events f (suc f.N) 1 f.free_head) _ (w.walked m l ∙ ap (run f.N s) z.0 ∙ run_none f.N s)
        ∙ rw (e, total-field b)

    pub freelist-ends : t ≡ 0 → (m : Option Mark) (l : ℕ)
        → run (file_of b).N (state ks₀ ns₀ m l) (free_events (file_of b)) ≡ run (file_of b).N (state ks ns m l) (check (eqb total (be 4 b 36)) 29 1)
    freelist-ends e m l = freelist-told m l (trunk-end (file_of b) left holder t (state ks ns m l) e)

    pub freelist-spent : left ≡ 0 → (m : Option Mark) (l : ℕ)
        → run (file_of b).N (state ks₀ ns₀ m l) (free_events (file_of b)) ≡ run (file_of b).N (state ks ns m l) (check (eqb total (be 4 b 36)) 29 1)
    freelist-spent e m l = freelist-told m l (trunk-none (file_of b) left holder t (state ks ns m l) e)

    -- trunk t follows
    module _ (fuel : left ≢ 0) (some : t ≢ 0) where
      stops : (m : Option Mark) (l x q : ℕ) → run (file_of b).N (state ks ns m l) (trunk_events (file_of b) left holder t) ≡ refused x q
          → run (file_of b).N (state ks₀ ns₀ m l) (free_events (file_of b)) ≡ refused x q
      stops m l x q e = free-stops (file_of b) (state ks₀ ns₀ m l) x q (w.walked m l ∙ e)

      pub trunk-refused : (m : Option Mark) (l x q : ℕ) → run h.pages (state ks ns m l) (name holder t trunk_kind ∷ []) ≡ refused x q
          → run (file_of b).N (state ks₀ ns₀ m l) (free_events (file_of b)) ≡ refused x q
      trunk-refused m l x q e =
          stops m l x q (trunk-name-stops (file_of b) left holder t (state ks ns m l) fuel some x q (at-n (state ks ns m l) (name holder t trunk_kind ∷ []) g e))

      module _ {ks₁ ns₁ : List ℕ} (d : Named b h ks ns holder t ks₁ ns₁) (count : ℕ) (k : count ≡ be 4 (page_in b t) 4) where
        pub trunk-over : h.usable / 4 - 2 < count → (m : Option Mark) (l : ℕ) → run (file_of b).N (state ks₀ ns₀ m l) (free_events (file_of b)) ≡ refused 29 t
        trunk-over i m l =
            stops m l 29 t
            (trunk-full (file_of b) left holder t (state ks ns m l) fuel some (state ks₁ ns₁ m l) (d.enters m l) (count-over g t count k i))

        module _ (i : count ≤ h.usable / 4 - 2) where
          pub leaves-refused : (m : Option Mark) (l x q : ℕ)
              → run (file_of b).N (state ks₁ ns₁ m l) (trunk_leaves (file_of b) t ((file_of b).trunk_count t) 0) ≡ refused x q
              → run (file_of b).N (state ks₀ ns₀ m l) (free_events (file_of b)) ≡ refused x q
          leaves-refused m l x q e =
              let s₁ = state ks₁ ns₁ m l in
              stops m l x q
              (trunk-leaves-stop (file_of b) left holder t (state ks ns m l) fuel some s₁ (d.enters m l) (count_fits g t count k i) x q
              (sym (leaves_all (file_of b) t s₁) ∙ e))

          pub going_on : {ks₂ ns₂ : List ℕ} (next : ℕ) → Open h.pages ks₂ ns₂ → next ≡ be 4 (page_in b t) 0
              → ((m : Option Mark) (l : ℕ)
              → run (file_of b).N (state ks₁ ns₁ m l) (trunk_leaves (file_of b) t ((file_of b).trunk_count t) 0) ≡ went (state ks₂ ns₂ m l))
              → Going b h ks₀ ns₀ ks₂ ns₂ t next (total + (count + 1)) (left - 1)
          going_on {ks₂} {ns₂} next o e r =
              let f = file_of b in
              let n = trunk-next-field b t ∙ sym e in record {
                ledgers = o;
                counted =
                    (let c : free_count f left t ≡ suc (count + free_count f (left - 1) next) =
                    (count-more f left holder t (state ks ns none 0) fuel some ∙ rw (count_is g t count k, n)) in
                    let z = w.counted in
                    omega (arith, c, z));
                small =
                    (let z = shape g in
                    let y = w.small in
                    omega (arith, z.most, z.inside, y, i, fuel));
                walked = λ m l.
                    (let s₁ = state ks₁ ns₁ m l in
                    w.walked m l
                    ∙ trunk-goes f left holder t (state ks ns m l) fuel some s₁ (d.enters m l) (count_fits g t count k i) (state ks₂ ns₂ m l)
                    (sym (leaves_all f t s₁) ∙ r m l)
                    ∙ ap (λ q. run f.N (state ks₂ ns₂ m l) (trunk_events f (left - 1) t q)) n);
              }
