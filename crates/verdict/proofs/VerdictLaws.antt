-- Each way out of the functions of the verdict.
use Prim.Native.Nat.{ℕ, suc, ◌+◌, ◌-◌, ◌<◌, ◌≤◌}
use mathlib.Core.Path.{◌≡◌, refl, sym, ap, subst, ◌∙◌}
use mathlib.Core.Bool.{true, false}
use mathlib.Core.List.{List, [], ◌∷◌, ◌++◌, append-nil}
use mathlib.Core.Option.{Option, none}
use native.Mathlib.Omega.{arith}
use lib.Dec.{eqb, ltb}
use lib.ListN.{length, drop, replicate, drop_of_length-le}
use mathlib.Core.Logic.{◌⊎◌, inl, inr}
use borrow.Author.Tests.{eqb-true, eq-eqb, ne_eqb, lt-ltb, le-ltb}
use Rattle.number.proofs.Cases.{true-or-false}
use Rattle.dealing.specs.Good.{Mark}
use Rattle.std.proofs.Common.{Err}
use Rattle.refusal.specs.Rule.{number_of}
use Rattle.refusal.specs.declared.Rule.{Rule}
use Rattle.header.specs.Told.{told}
use Rattle.header.proofs.Laws.{told-number, told-stops}
use Rattle.header.specs.Header.{header_refusal, header_in, pages_of}
use Rattle.header.specs.declared.Header.{Header}
use Rattle.dealing.specs.File.{File, Page, schema_root, level_limit}
use Rattle.dealing.specs.Spelling.{is_tree, long_by}
use Rattle.dealing.proofs.Spelled.{tree_is}
use Rattle.dealing.specs.Steps.{steps_by, Rooted}
use Rattle.dealing.proofs.Theorems.{accepted-dealing, ledger-rooted}
use Rattle.spelling.specs.Count.{Trees}
use Rattle.dealing.specs.Walk.{schema_tree, Event, name, fail, row, key, leaf, entry, name_checks, verdict_for, start, page_events, events, State, state, Outcome, went, refused, run, blank, first_zero, Verdict, accepted, refusal, final, settle}
use Rattle.dealing.proofs.WalkLaws.{tree-begins, verdict-refused, verdict-unnamed, verdict-settled}
use Rattle.dealing.proofs.After.{settle-past, clean-settle}
use Rattle.image.specs.Image.{file_of}
use Rattle.image.specs.Ready.{Opened}
use Rattle.image.proofs.Shape.{shape}
use Rattle.names.specs.Names.{bad34}
use Rattle.tree.specs.Spots.{room_for, Room}
use Rattle.tree.specs.declared.Mode as M
use Rattle.roots.specs.Again.{room_of, Scratch}
use Rattle.verdict.specs.Judged.{Judged, Told, Answers}
use Rattle.verdict.specs.Verdict.{last_checks, answer_of, dismissed, judgement_of, kinds_of, namers_of, steps_of, too_small, verdict_is, begins, kinds_at, namers_at, steps_at, refused as refused_with}
use Rattle.verdict.specs.Answer as D
use Rattle.verdict.specs.Judgement as J

-- all entries cleared
pub cleared : (l : List ℕ) (n : ℕ) → length l ≡ n → replicate n 0 ++ drop n l ≡ replicate n 0
cleared l n h = let k : length l ≤ n = omega arith in let e : drop n l ≡ [] = drop_of_length-le l k in rw e (append-nil (replicate n 0))

-- scratch that is lent is enough: for the marks of a page, or two payloads
pub usable-most : {b : List ℕ} {h : Header} → Opened b h → h.usable ≤ 65536
usable-most o = let s = shape o in omega (arith, s.inside, s.most)

pub room-none : (h : Header) (n : ℕ) → h.usable ≤ n → room_of h [] ≤ n
unfolding room_of
room-none h n l = l

pub room_most : {b : List ℕ} {h : Header} → Opened b h → (l : List ℕ) → room_of h l ≤ 131072
unfolding room_of
room_most o [] = omega (arith, usable-most o)
room_most o (x ∷ l) = omega arith

pub room-schema : {b : List ℕ} {h : Header} → Opened b h → (l w : List ℕ) → Scratch h l w → Room h M.TheVariants.Schema w
unfolding room_of room_for
room-schema o [] w r = r
room-schema o (x ∷ l) w r = let s = shape o in omega (arith, s.inside, s.most)

-- the walk of the schema tree, from the blank ledgers
pub schema-run : (f : File) (ks ns : List ℕ) (o : Outcome) → ks ≡ (blank f).kinds → ns ≡ (blank f).namers
    → run f.N (state ks ns none 0) (page_events f schema_tree level_limit schema_root 1) ≡ o
    → run f.N (blank f) (start ∷ page_events f schema_tree level_limit schema_root 1) ≡ o
schema-run f ks ns o ek es e =
    tree-begins f.N (blank f) (page_events f schema_tree level_limit schema_root 1)
    ∙ ap (λ (l : List ℕ). run f.N (state l (blank f).namers none 0) (page_events f schema_tree level_limit schema_root 1)) (sym ek)
    ∙ ap (λ (l : List ℕ). run f.N (state ks l none 0) (page_events f schema_tree level_limit schema_root 1)) (sym es)
    ∙ e

-- the checks of the finished ledgers: those of the maps, then those of the names
settle-stops : (a b : List Event) (ks ns : List ℕ) (x q : ℕ) → settle a ks ns ≡ refusal x q → settle (a ++ b) ks ns ≡ refusal x q
unfolding settle
settle-stops [] b ks ns x q e = absurd (let z : ◌≡◌ {A = ℕ} 0 1 = cc in omega arith)
settle-stops (start ∷ a) b ks ns x q e = settle-stops a b ks ns x q e
settle-stops (name h t k ∷ a) b ks ns x q e = settle-stops a b ks ns x q e
settle-stops (fail n p ∷ a) b ks ns x q e = e
settle-stops (row p r ∷ a) b ks ns x q e = settle-stops a b ks ns x q e
settle-stops (key p k ∷ a) b ks ns x q e = settle-stops a b ks ns x q e
settle-stops (leaf p l ∷ a) b ks ns x q e = settle-stops a b ks ns x q e
settle-stops (entry p v ∷ a) b ks ns x q e = settle-stops a b ks ns x q e

module _ (ordered : List ℕ) (f : File) (ks ns : List ℕ) where
  pub last-stops : (x q : ℕ) → settle (final f ks ns) ks ns ≡ refusal x q → settle (last_checks ordered f ks ns) ks ns ≡ refusal x q
  last-stops x q e = settle-stops (final f ks ns) (name_checks f ks ordered) ks ns x q e

  pub last-names : settle (final f ks ns) ks ns ≡ accepted ks ns → settle (last_checks ordered f ks ns) ks ns ≡ settle (name_checks f ks ordered) ks ns
  last-names e = settle-past (final f ks ns) (name_checks f ks ordered) ks ns (clean-settle (final f ks ns) ks ns ks ns e).0

-- a verdict, with ledgers of n entries
module _ (N n : ℕ) (is-n : N ≡ n) where
  pub judged-refused : (v : Verdict) (x q : ℕ) (r : J.Judgement) (ks ns : List ℕ) → v ≡ refusal x q → r ≡ dismissed x q → ks ≡ replicate n 0 → ns ≡ replicate n 0 → Judged N v r ks ns
  judged-refused v x q r ks ns e er ek en = record { answer = rw e er; kinds = rw (e, is-n) ek; namers = rw (e, is-n) en }

  pub judged-accepted : (v : Verdict) (ks ns : List ℕ) → v ≡ accepted ks ns → Judged N v (J.Accepted n) ks ns
  judged-accepted v ks ns e = record { answer = rw e (ap J.Accepted (sym is-n)); kinds = rw e refl; namers = rw e refl }

-- the verdict of the walk
module _ (ordered : List ℕ) (f : File) (n : ℕ) (is-n : f.N ≡ n) where
  pub judged-walk : (x q : ℕ) (r : J.Judgement) (ks ns : List ℕ) → run f.N (blank f) (events ordered f) ≡ refused x q
      → r ≡ dismissed x q → ks ≡ replicate n 0 → ns ≡ replicate n 0 → Judged f.N (verdict_for ordered f) r ks ns
  judged-walk x q r ks ns e = judged-refused f.N n is-n (verdict_for ordered f) x q r ks ns (verdict-refused ordered f x q e)

  pub judged-unnamed : (s : State) (first : ℕ) (r : J.Judgement) (ks ns : List ℕ) → run f.N (blank f) (events ordered f) ≡ went s → first ≡ first_zero s.kinds → first < n
      → r ≡ dismissed 30 (first + 1) → ks ≡ replicate n 0 → ns ≡ replicate n 0 → Judged f.N (verdict_for ordered f) r ks ns
  judged-unnamed s first r ks ns e ef l er =
      let k : first + 1 ≡ suc (first_zero s.kinds) = omega arith in
      judged-refused f.N n is-n (verdict_for ordered f) 30 (suc (first_zero s.kinds)) r ks ns (verdict-unnamed ordered f s e (omega arith)) (er ∙ ap (dismissed 30) k)

  pub judged-settled : (m : Option Mark) (l : ℕ) (first : ℕ) (ks ns : List ℕ) (r : J.Judgement) (ks' ns' : List ℕ) → run f.N (blank f) (events ordered f) ≡ went (state ks ns m l) → first ≡ first_zero ks → n ≤ first
      → Judged f.N (settle (last_checks ordered f ks ns) ks ns) r ks' ns' → Judged f.N (verdict_for ordered f) r ks' ns'
  judged-settled m l first ks ns r ks' ns' e ef h j = subst (λ v. Judged f.N v r ks' ns') (sym (verdict-settled ordered f (state ks ns m l) e (omega arith))) j

-- the answer to a judgement
module _ (ordered : List ℕ) (f : File) (r : J.Judgement) (ks ns : List ℕ) (j : Judged f.N (verdict_for ordered f) r ks ns) where
  pub told-refused : (x q : ℕ) (ss : List ℕ) → r ≡ dismissed x q → ss ≡ replicate f.N 0 → Told ordered f (refused_with x q) ks ns ss
  told-refused x q ss e z = let w = go (verdict_for ordered f) (sym e ∙ j.answer) in record { answer = w.0; kinds = j.kinds; namers = j.namers; steps = z ∙ w.1 }
    where
      go : (v : Verdict) → dismissed x q ≡ judgement_of f.N v → (refused_with x q ≡ answer_of f v) × (replicate f.N 0 ≡ steps_of f.N v)
      go (accepted k m) w = absurd (let z : ◌≡◌ {A = ℕ} 0 1 = cc in omega arith)
      go (refusal y p) w = (cc, refl)

  -- an accepting one: the ledgers are the walk's
  pub judged-walked : (n : ℕ) → r ≡ J.Accepted n → (n ≡ f.N) × (verdict_for ordered f ≡ accepted ks ns)
  judged-walked n e = go (verdict_for ordered f) (sym e ∙ j.answer) j.kinds j.namers
    where
      go : (v : Verdict) → J.Accepted n ≡ judgement_of f.N v → ks ≡ kinds_of f.N v → ns ≡ namers_of f.N v → (n ≡ f.N) × (v ≡ accepted ks ns)
      go (accepted k m) w a b = (cc, rw (a, b) refl)
      go (refusal y p) w a b = absurd (let z : ◌≡◌ {A = ℕ} 0 1 = cc in omega arith)

  pub told-accepted : (n long : ℕ) (ss : List ℕ) → r ≡ J.Accepted n → long ≡ long_by f ks → ss ≡ steps_by ns f.N → Told ordered f (D.Accepted n long) ks ns ss
  told-accepted n long ss e h z =
      let w = judged-walked n e in
      record {
        answer = rw w.1 (ap (λ (m : ℕ). D.Accepted m long) w.0 ∙ ap (D.Accepted f.N) h);
        kinds = j.kinds;
        namers = j.namers;
        steps = rw w.1 z;
      }

-- by the walk's ledgers every tree page is sound
pub walk-trees : {b : List ℕ} {h : Header} (ordered ks ns : List ℕ) → Opened b h → length ks ≡ h.pages → verdict_for ordered (file_of b) ≡ accepted ks ns → Trees b h ks
walk-trees {b} {h} ordered ks ns o l e =
    let s = shape o in
    let n = s.N-is in
    let some : 1 ≤ (file_of b).N = omega (arith, s.some) in
    let w = accepted-dealing ordered (file_of b) some ks ns e in
    record {
      opened = o;
      long = l;
      sound = λ p low high t.
          let page : Page (file_of b) p = (low, omega arith) in
          w.1.good.rule_23_26 p page (tree_is w.0 p (ap is_tree (sym (w.2.kinds_are p page)) ∙ t));
    }

-- and every way along the namers ends
pub walk-rooted : {b : List ℕ} {h : Header} (ordered ks ns : List ℕ) → Opened b h → verdict_for ordered (file_of b) ≡ accepted ks ns → Rooted ns h.pages
walk-rooted {b} {h} ordered ks ns o e =
    let s = shape o in
    subst (Rooted ns) s.N-is (ledger-rooted ordered (file_of b) (omega (arith, s.some, s.N-is)) ks ns e)

-- so many steps as the file has pages: cleared, or filled in
pub steps-cleared : {b : List ℕ} {h : Header} → Opened b h → (ss : List ℕ) → length ss ≡ h.pages → replicate h.pages 0 ++ drop h.pages ss ≡ replicate (file_of b).N 0
steps-cleared {b} {h} o ss l = cleared ss h.pages l ∙ ap (λ (n : ℕ). replicate n 0) (sym (shape o).N-is)

pub steps-filled : {b : List ℕ} {h : Header} → Opened b h → (ns : List ℕ) → steps_by ns h.pages ≡ steps_by ns (file_of b).N
steps-filled {b} {h} o ns = ap (steps_by ns) (sym (shape o).N-is)

-- the ways out of `decide`
module _ (b ordered ks ns ss : List ℕ) where
  pub header-refuses : (rule : Rule) → told (Err rule) ≡ header_in b → Answers b ordered ks ns ss (refused_with (number_of rule) 0) ks ns ss
  unfolding verdict_is begins kinds_at namers_at steps_at
  header-refuses rule e =
      let z = told-stops b rule e in
      record { answer = rw z (ap (λ (x : ℕ). refused_with x 0) (told-number b rule e)); kinds = rw z refl; namers = rw z refl; steps = rw z refl }

  -- the header passes
  module _ (h : Header) (o : Opened b h) where
    passes : header_refusal b ≡ 0
    passes = o.passes

    n-is : h.pages ≡ pages_of b
    n-is = (shape o).pages-is

    pub text-refused : bad34 ordered b ≡ true → Answers b ordered ks ns ss (refused_with 34 0) ks ns ss
    unfolding verdict_is begins kinds_at namers_at steps_at
    text-refused t =
        let z = eq-eqb (header_refusal b) 0 passes in
        record { answer = rw (z, t) refl; kinds = rw (z, t) refl; namers = rw (z, t) refl; steps = rw (z, t) refl }

    short : (l : List ℕ) → length l < h.pages → ltb (length l) (pages_of b) ≡ true
    short l k = lt-ltb (length l) (pages_of b) (omega (arith, n-is))

    enough : (l : List ℕ) → h.pages ≤ length l → ltb (length l) (pages_of b) ≡ false
    enough l k = le-ltb (length l) (pages_of b) (omega (arith, n-is))

    -- and so does the text encoding
    module _ (text : bad34 ordered b ≡ false) where
      too-small : too_small (pages_of b) (length ks) (length ns) (length ss) ≡ true → Answers b ordered ks ns ss (refused_with 12 0) ks ns ss
      unfolding verdict_is begins kinds_at namers_at steps_at
      too-small t =
          let z = eq-eqb (header_refusal b) 0 passes in
          record { answer = rw (z, text, t) refl; kinds = rw (z, text, t) refl; namers = rw (z, text, t) refl; steps = rw (z, text, t) refl }

      pub kinds-short : length ks < h.pages → Answers b ordered ks ns ss (refused_with 12 0) ks ns ss
      kinds-short l = too-small (rw (short ks l) refl)

      module _ (kinds-fit : h.pages ≤ length ks) where
        pub namers-short : length ns < h.pages → Answers b ordered ks ns ss (refused_with 12 0) ks ns ss
        namers-short l = too-small (rw (enough ks kinds-fit, short ns l) refl)

        module _ (namers-fit : h.pages ≤ length ns) where
          pub steps-short : length ss < h.pages → Answers b ordered ks ns ss (refused_with 12 0) ks ns ss
          steps-short l = too-small (rw (enough ks kinds-fit, enough ns namers-fit) (short ss l))

          pub walked : h.pages ≤ length ss → (r : D.Answer) (ks₁ ns₁ ss₁ : List ℕ) → Told ordered (file_of b) r ks₁ ns₁ ss₁
              → Answers b ordered ks ns ss r (ks₁ ++ drop h.pages ks) (ns₁ ++ drop h.pages ns) (ss₁ ++ drop h.pages ss)
          unfolding verdict_is begins kinds_at namers_at steps_at file_of
          walked l r ks₁ ns₁ ss₁ j =
              let t : too_small (pages_of b) (length ks) (length ns) (length ss) ≡ false = rw (enough ks kinds-fit, enough ns namers-fit) (enough ss l) in
              let z = eq-eqb (header_refusal b) 0 passes in
              record {
                answer = rw (z, text, t) j.answer;
                kinds = rw (z, text, t) (rw (j.kinds, n-is) refl);
                namers = rw (z, text, t) (rw (j.namers, n-is) refl);
                steps = rw (z, text, t) (rw (j.steps, n-is) refl);
              }
