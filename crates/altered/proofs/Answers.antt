-- An image whose file agrees with that of a good one where the dealing looks gives the same answers but for payloads, their lengths and the count of
-- numbers spelled long; with the same lengths and spellings but for the bytes of payloads; one that keeps what the dealing has read gives the same answers.
use Prim.Native.Nat.{ℕ, zero, suc, ◌≤◌}
use mathlib.Core.Path.{◌≡◌, refl, sym, ap, ap₂, subst, ◌∙◌}
use mathlib.Core.Bool.{Bool, true, false, cond, not}
use mathlib.Core.Logic.{◌⊎◌, inl, inr, ⊎_elim, ◌↔◌}
use mathlib.Core.List.{List, [], ◌∷◌}
use lib.Dec.{eqb, ltb}
use lib.IntN.{ℤ}
use lib.ListN.{length}
use native.Mathlib.Omega.{arith}
use borrow.Author.Tests.{eq-eqb}
use Rattle.number.specs.Bytes.{be, bias_of}
use Rattle.number.proofs.Cases.{true-or-false}
use Rattle.header.specs.Header.{usable_of, pages_of, header_refusal}
use Rattle.page.specs.declared.Place as P
use Rattle.page.specs.Place.{allowed}
use Rattle.page.specs.Fault.{page_fault}
use Rattle.dealing.specs.File.{File, Page, is_table, table_page, suits, level_limit}
use Rattle.dealing.specs.Good.{Dealing, TreePage}
use Rattle.dealing.specs.Walk.{Verdict, accepted, refusal, verdict_for, fault_in, in_range}
use Rattle.dealing.specs.Lookup as K
use Rattle.dealing.specs.Spelling.{long_in}
use Rattle.dealing.specs.Cursor as L
use Rattle.dealing.proofs.Passed.{range-in}
use Rattle.image.specs.Pages.{page_in, head_of}
use Rattle.image.specs.Payload.{payload_of}
use Rattle.image.specs.Image.{file_of}
use Rattle.image.specs.Good.{GoodDealing, PayloadCell, TableRoot}
use Rattle.image.proofs.Fields as F
use Rattle.image.proofs.Shape.{shape}
use Rattle.names.specs.Names.{bad34}
use Rattle.names.specs.Good.{GoodDealingFor}
use Rattle.verdict.specs.Verdict.{refused as refused_by, answer_of, too_small, verdict_is, begins, kinds_at, namers_at, steps_at}
use Rattle.verdict.specs.Answer as A
use Rattle.lookup.specs.Answers.{found_of, lookup_of, along, room_for, cell_fetched, or_fault, page_fetched, fetched_of, out_of}
use Rattle.lookup.specs.Found as Found
use Rattle.lookup.specs.Fetched as Fetched
use Rattle.lookup.proofs.Theorems as Lt
use Rattle.cursor.specs.declared.Cursor.{Cursor}
use Rattle.cursor.specs.Stepped.{Stepped}
use Rattle.cursor.specs.Shown as Shown
use Rattle.cursor.specs.Answers as C
use Rattle.cursor.specs.Answers.{first_of, seek_of, step_of, path_of}
use Rattle.cursor.specs.Means.{Stands, NextRow}
use Rattle.cursor.proofs.Theorems as CT
use Rattle.altered.specs.Answers.{Root, steps_from, first_page, SameBytes, found_in, stepped_in, recounted, LikePlaces, SamePlaces, SameAnswers}
use Rattle.altered.proofs.Same.{Same, AllNumbers, same_good, same-good-for, good-for-back}
use Rattle.altered.proofs.SameHeader as H
use Rattle.altered.proofs.SameReads as S
use Rattle.altered.proofs.SameVerdict as W
use Rattle.altered.proofs.Kept.{Agrees, Keeps, KeepsPages, keeps-pages, cell-all, payload_same, numbers-same, images-agree}

module _ (b c : List ℕ) (d : Dealing) (g : GoodDealing b d) (k : Agrees b c d) where
  abbrev f : File
  f = file_of b

  abbrev f' : File
  f' = file_of c

  same : Same f f' d
  same = k.files

  some : 1 ≤ f.N
  some = let form = shape (Lt.opened-image b g.passes) in omega (arith, form.some, form.N-is)

  passes' : header_refusal c ≡ 0
  passes' = H.refusal-kept b c k.long k.header ∙ g.passes

  good : GoodDealing c d
  good = record { passes = passes'; good = same_good f f' d some same g.good }

  open-b : eqb (header_refusal b) 0 ≡ true
  open-b = eq-eqb (header_refusal b) 0 g.passes

  open-c : eqb (header_refusal c) 0 ≡ true
  open-c = eq-eqb (header_refusal c) 0 passes'

  -- ---- verdict and ledgers
  pages-are : pages_of c ≡ pages_of b
  pages-are = H.pages-kept b c k.long k.header

  text_same : be 4 c 56 ≡ be 4 b 56
  text_same = H.be-kept b c k.long k.header 4 56 (omega arith)

  good_for : (ordered : List ℕ) → GoodDealingFor ordered b d ↔ GoodDealingFor ordered c d
  good_for ordered = (
    λ o. record { passes = passes'; text = λ r m. text_same ∙ o.text r m; good = same-good-for f f' d some same g.good ordered o.good },
    λ o. record { passes = g.passes; text = λ r m. sym text_same ∙ o.text r m; good = good-for-back f f' d some same g.good ordered o.good },
  )

  module _ (ordered : List ℕ) where
    walk_same : verdict_for ordered f' ≡ verdict_for ordered f
    walk_same = W.verdict-same f f' d some same g.good ordered

    answer-like : answer_of f' (verdict_for ordered f') ≡ recounted (long_in f' d) (answer_of f (verdict_for ordered f))
    answer-like = ap (answer_of f') walk_same ∙ go (verdict_for ordered f) refl
      where
        go : (v : Verdict) → verdict_for ordered f ≡ v → answer_of f' v ≡ recounted (long_in f' d) (answer_of f v)
        go (accepted ks ns) e = ap₂ (λ n m. A.Accepted n m) same.N (W.count_is f f' d some same g.good ordered ks ns e)
        go (refusal number page) e = refl

    answer-same : AllNumbers f f' d → answer_of f' (verdict_for ordered f') ≡ answer_of f (verdict_for ordered f)
    answer-same w = ap (answer_of f') walk_same ∙ go (verdict_for ordered f) refl
      where
        go : (v : Verdict) → verdict_for ordered f ≡ v → answer_of f' v ≡ answer_of f v
        go (accepted ks ns) e = ap₂ (λ n m. A.Accepted n m) same.N (W.count_same f f' d some same g.good w ordered ks ns e)
        go (refusal number page) e = refl

    encoding-same : bad34 ordered c ≡ bad34 ordered b
    unfolding bad34
    encoding-same = go ordered
      where
        go : (l : List ℕ) → bad34 l c ≡ bad34 l b
        go [] = refl
        go (r ∷ rs) = ap (λ n. not (eqb n 1)) text_same

    verdict-like : (kinds namers steps : ℕ) → verdict_is c ordered kinds namers steps ≡ recounted (long_in f' d) (verdict_is b ordered kinds namers steps)
    unfolding verdict_is
    verdict-like kinds namers steps =
        rw (open-b, open-c, encoding-same, pages-are, answer-like)
        (go (bad34 ordered b) (too_small (pages_of b) kinds namers steps) (answer_of f (verdict_for ordered f)))
      where
        go : (x y : Bool) (a : A.Answer) → cond x (refused_by 34 0) (cond y (refused_by 12 0) (recounted (long_in f' d) a))
            ≡ recounted (long_in f' d) (cond x (refused_by 34 0) (cond y (refused_by 12 0) a))
        go true y a = refl
        go false true a = refl
        go false false a = refl

    verdict-same : AllNumbers f f' d → (kinds namers steps : ℕ) → verdict_is c ordered kinds namers steps ≡ verdict_is b ordered kinds namers steps
    unfolding verdict_is
    verdict-same w kinds namers steps = rw (open-b, open-c, encoding-same, pages-are, answer-same w) refl

    begins-same : (kinds namers steps : ℕ) → begins c ordered kinds namers steps ≡ begins b ordered kinds namers steps
    unfolding begins
    begins-same kinds namers steps = rw (open-b, open-c, encoding-same, pages-are) refl

    kinds-same : (ks : List ℕ) (namers steps : ℕ) → kinds_at c ordered ks namers steps ≡ kinds_at b ordered ks namers steps
    unfolding kinds_at
    kinds-same ks namers steps = rw (begins-same (length ks) namers steps, pages-are, walk_same) refl

    namers-same : (kinds : ℕ) (ns : List ℕ) (steps : ℕ) → namers_at c ordered kinds ns steps ≡ namers_at b ordered kinds ns steps
    unfolding namers_at
    namers-same kinds ns steps = rw (begins-same kinds (length ns) steps, pages-are, walk_same) refl

    step-numbers-same : (kinds namers : ℕ) (ss : List ℕ) → steps_at c ordered kinds namers ss ≡ steps_at b ordered kinds namers ss
    unfolding steps_at
    step-numbers-same kinds namers ss = rw (begins-same kinds namers (length ss), pages-are, walk_same) refl

  -- ---- lookup and the cursor
  lookup-like : (root : ℕ) → Root b d root → (row : ℤ) → lookup_of c root row ≡ found_in c (lookup_of b root row)
  unfolding lookup_of
  lookup-like root r row =
      rw (open-b, open-c) (ap found_of (S.looked-like f f' d some same g.good root (bias_of row) (r.0, inl r.1)).0
      ∙ go (K.lookup f root (bias_of row)))
    where
      go : (a : K.Answer) → found_of (S.answer_in f' a) ≡ found_in c (found_of a)
      go K.nowhere = refl
      go (K.shows p i n) = refl
      go (K.refuses n p) = refl

  answer-shows : (kept : Cursor) (s' s : L.Shown) → S.Shows f f' d some same g.good s' s → C.answer_of f' kept 0 s' ≡ stepped_in c (C.answer_of f kept 0 s)
  answer-shows kept s' s w = ap (C.answer_of f' kept 0) w.0 ∙ go s w.1
    where
      go : (s : L.Shown) → S.Seen f f' d some same g.good s → C.answer_of f' kept 0 s ≡ stepped_in c (C.answer_of f kept 0 s)
      go L.end e = refl
      go (L.at y) e =
          ap (λ (r : ℕ). C.stepped (Shown.Row y.page y.index (f'.cell y.page y.index).length (C.row_of r)) (C.cursor_from 0 y))
          (S.row_is f f' d some same g.good y.page e.0 y.index e.1)
      go (L.refuses n p) e = refl

  first-like : (root : ℕ) → Root b d root → first_of c root ≡ stepped_in c (first_of b root)
  unfolding first_of
  first-like root r = rw (open-b, open-c) (answer-shows C.blank _ _ (S.first-same f f' d some same g.good root (r.0, inl r.1)))

  seek-like : (root : ℕ) → Root b d root → (row : ℤ) → seek_of c root row ≡ stepped_in c (seek_of b root row)
  unfolding seek_of
  seek-like root r row = rw (open-b, open-c) (answer-shows C.blank _ _ (S.seek-same f f' d some same g.good root (bias_of row) (r.0, inl r.1)))

  module _ (root : ℕ) (r : Root b d root) (x : Cursor) (e : first_page x ≡ root) where
    steps_on : S.Shows f f' d some same g.good (L.step f' (path_of x)) (L.step f (path_of x))
    steps_on = S.step_same f f' d some same g.good (path_of x) (subst (λ p. Page f p × TreePage d p) (sym e) (r.0, inl r.1))

    step-like : step_of c x ≡ stepped_in c (step_of b x)
    unfolding step_of
    step-like = rw (open-b, open-c) (go (eqb x.levels 0))
      where
        go : (t : Bool) → C.answer_of f' x 0 (cond t L.end (L.step f' (path_of x))) ≡ stepped_in c (C.answer_of f x 0 (cond t L.end (L.step f (path_of x))))
        go true = refl
        go false = answer-shows x _ _ steps_on

  -- with the same lengths
  module _ (w : AllNumbers f f' d) where
    lookup-same : (root : ℕ) → Root b d root → (row : ℤ) → lookup_of c root row ≡ lookup_of b root row
    unfolding lookup_of
    lookup-same root r row = rw (open-b, open-c) (ap found_of (S.looked-same f f' d some same g.good w root (bias_of row) (r.0, inl r.1)))

    answer-shown : (kept : Cursor) (s' s : L.Shown) → S.Shows f f' d some same g.good s' s → C.answer_of f' kept 0 s' ≡ C.answer_of f kept 0 s
    answer-shown kept s' s v = answer-shows kept s' s v ∙ go s v.1
      where
        go : (s : L.Shown) → S.Seen f f' d some same g.good s → stepped_in c (C.answer_of f kept 0 s) ≡ C.answer_of f kept 0 s
        go L.end e = refl
        go (L.at y) e =
            ap (λ (n : ℕ). C.stepped (Shown.Row y.page y.index n (C.row_of (L.row_at f y))) (C.cursor_from 0 y))
            (w y.page y.index e.0.0 e.0.1 e.1).length
        go (L.refuses n p) e = refl

    first-same : (root : ℕ) → Root b d root → first_of c root ≡ first_of b root
    unfolding first_of
    first-same root r = rw (open-b, open-c) (answer-shown C.blank _ _ (S.first-same f f' d some same g.good root (r.0, inl r.1)))

    seek-same : (root : ℕ) → Root b d root → (row : ℤ) → seek_of c root row ≡ seek_of b root row
    unfolding seek_of
    seek-same root r row = rw (open-b, open-c) (answer-shown C.blank _ _ (S.seek-same f f' d some same g.good root (bias_of row) (r.0, inl r.1)))

    step_same : (root : ℕ) → Root b d root → (x : Cursor) → first_page x ≡ root → step_of c x ≡ step_of b x
    unfolding step_of
    step_same root r x e = rw (open-b, open-c) (go (eqb x.levels 0))
      where
        go : (t : Bool) → C.answer_of f' x 0 (cond t L.end (L.step f' (path_of x))) ≡ C.answer_of f x 0 (cond t L.end (L.step f (path_of x)))
        go true = refl
        go false = answer-shown x _ _ (steps_on root r x e)

  -- ---- payloads
  module _ (page cell : ℕ) (w : PayloadCell b d page cell) (long : (f'.cell page cell).length ≡ (f.cell page cell).length) where
    fault-same : page_fault P.TheVariants.PayloadPage (page_in c page) (usable_of c) (head_of page)
        ≡ page_fault P.TheVariants.PayloadPage (page_in b page) (usable_of b) (head_of page)
    unfolding page_fault
    fault-same =
        ap₂ (λ (t s : ℕ). cond (allowed P.TheVariants.PayloadPage t) s 22)
        (sym (F.type-field c page) ∙ same.type page w.in_file w.tree ∙ F.type-field b page)
        (sym (F.broken-field c page) ∙ same.broken page w.in_file w.tree ∙ F.broken-field b page)

    cell-fetched : (room : ℕ) → cell_fetched f' page (f'.cell page cell) room ≡ cell_fetched f page (f.cell page cell) room
    unfolding cell_fetched
    cell-fetched room =
        ap₂ (λ (x : K.Followed) (n : ℕ). along x (room_for n room))
        (S.chain-followed f f' d some same g.good page cell (w.in_file, w.tree) w.has w.index)
        long

    page-fetched : (room : ℕ) → page_fetched c page cell room ≡ page_fetched b page cell room
    unfolding page_fetched
    page-fetched room =
        ap₂ (λ (n : ℕ) (x : Fetched.Fetched). or_fault n page x) fault-same
        (ap₂ (λ (n : ℕ) (x : Fetched.Fetched). cond (ltb cell n) x (Fetched.Refused 46 0))
        (same.count page w.in_file w.tree) (cell-fetched room))

    fetched-same : (room : ℕ) → fetched_of c page cell room ≡ fetched_of b page cell room
    unfolding fetched_of
    fetched-same room =
        rw (open-b, open-c)
        (ap₂ (λ (n : ℕ) (x : Fetched.Fetched). cond (in_range n page) x (Fetched.Refused 46 0)) same.N (page-fetched room))

    pub bytes_same : payload_of c page cell ≡ payload_of b page cell → SameBytes b c page cell
    bytes_same p =
        record {
          fetched = fetched-same;
          payload = p;
          buffer = λ out. ap₂ (λ (x : Fetched.Fetched) (s : List ℕ). out_of x s out) (fetched-same (length out)) p;
        }

  -- ---- what is shown under a root, step after step
  module _ (root : ℕ) (r : Root b d root) where
    -- a cursor at the end, or one that stands under a table root
    abbrev Going : Cursor → Type 0
    Going x = (x.levels ≡ 0) ⊎ (Stands b root x × (is_table f root ≡ true))

    table : is_table f root ≡ true → TableRoot b d root
    table t = record { page = r.0; kind = r.1; table = t }

    -- an answer, told by what comes next under a table root
    pub record Shows-on (x : Stepped) : Type 0 where
      pub going : Going x.cursor
      pub payload : (page cell n : ℕ) (row : ℤ) → x.shown ≡ Shown.Row page cell n row → PayloadCell b d page cell

    ended : (x : Stepped) → x ≡ C.stepped Shown.End C.blank → Shows-on x
    ended x e =
        record {
          going = inl (ap (λ (y : Stepped). y.cursor.levels) e);
          payload = λ page cell n row z. absurd (let y : Shown.Row page cell n row ≡ Shown.End =
              sym z ∙ ap (λ (y : Stepped). y.shown) e in let o : ◌≡◌ {A = ℕ} 0 1 = cc in omega arith);
        }

    next-shows : is_table f root ≡ true → (m : ℕ) (x : Stepped) → NextRow b d root m x → Shows-on x
    next-shows t m x (inl (page, cell, _, s)) =
        record {
          going = inr (s.stands, t);
          payload = λ page' cell' n row e.
              let z : Shown.Row page' cell' n row
              ≡ Shown.Row page cell (length (payload_of b page cell)) s.row = sym e ∙ s.shown in
              let e₀ : page ≡ page' = cc in
              let e₁ : cell ≡ cell' = cc in
              subst (λ p. PayloadCell b d p cell') e₀ (subst (PayloadCell b d page) e₁ (Lt.leaf-payload (table t) page cell s.carries.leaf));
        }
    next-shows t m x (inr (e, _)) = ended x e

    refused : (number page : ℕ) (x : Stepped) → x ≡ C.stepped (Shown.Refused number page) C.blank → Shows-on x
    refused number page x e =
        record {
          going = inl (ap (λ (y : Stepped). y.cursor.levels) e);
          payload = λ page' cell n row z. absurd (let y : Shown.Row page' cell n row ≡ Shown.Refused number page =
              sym z ∙ ap (λ (y : Stepped). y.shown) e in let o : ◌≡◌ {A = ℕ} 0 1 = cc in omega arith);
        }

    -- under an index root the first page is refused
    module _ (t : is_table f root ≡ false) where
      unfit : fault_in f table_page root ≡ 22
      unfolding fault_in suits is_table
      unfit = ap (λ (x : Bool). cond x (f.broken root) 22) t

      first_stops : L.listing f level_limit root ≡ L.stop 22 root ∷ []
      unfolding L.listing
      first_stops = rw unfit refl

      seek-stops : (x : ℕ) → L.listing_from f x level_limit root ≡ L.stop 22 root ∷ []
      unfolding L.listing_from
      seek-stops x = rw unfit refl

      in-range : in_range f.N root ≡ true
      in-range = range-in f.N root r.0.0 r.0.1

      first-refused : first_of b root ≡ C.stepped (Shown.Refused 22 root) C.blank
      unfolding first_of L.first L.shown_from
      first-refused = rw (open-b, in-range, first_stops) refl

      seek-refused : (row : ℤ) → seek_of b root row ≡ C.stepped (Shown.Refused 22 root) C.blank
      unfolding seek_of L.seek L.shown_from
      seek-refused row = rw (open-b, in-range, seek-stops (bias_of row)) refl

      lookup-refused : (row : ℤ) → lookup_of b root row ≡ Found.Refused 22 root
      unfolding lookup_of K.lookup K.lookup_page
      lookup-refused row = rw (open-b, in-range, unfit) refl

    first-shows : Shows-on (first_of b root)
    first-shows =
        ⊎_elim (λ t. next-shows t 0 (first_of b root) (CT.first_next g (table t) (first_of b root) refl))
        (λ t. refused 22 root (first_of b root) (first-refused t)) (true-or-false (is_table f root))

    seek-shows : (row : ℤ) → Shows-on (seek_of b root row)
    seek-shows row =
        ⊎_elim (λ t. next-shows t (bias_of row) (seek_of b root row) (CT.seek-next g (table t) row (seek_of b root row) refl))
        (λ t. refused 22 root (seek_of b root row) (seek-refused t row))
        (true-or-false (is_table f root))

    step-shows : (x : Cursor) → Going x → Shows-on (step_of b x)
    step-shows x (inl z) = ended (step_of b x) (CT.end_stays b g.passes x z)
    step-shows x (inr (s, t)) = next-shows t _ (step_of b x) (CT.step-next g (table t) x s (step_of b x) refl)

    all-shows : (x : Stepped) → Shows-on x → (n : ℕ) → Shows-on (steps_from b x n)
    unfolding steps_from
    all-shows x w zero = w
    all-shows x w (suc n) = let v = all-shows x w n in step-shows (steps_from b x n).cursor v.going

    going-like : (x : Cursor) → Going x → step_of c x ≡ stepped_in c (step_of b x)
    going-like x (inl z) = CT.end_stays c passes' x z ∙ sym (ap (stepped_in c) (CT.end_stays b g.passes x z))
    going-like x (inr (s, t)) = step-like root r x s.path.0

    steps-like : (x' x : Stepped) → x' ≡ stepped_in c x → Shows-on x → (n : ℕ) → steps_from c x' n ≡ stepped_in c (steps_from b x n)
    unfolding steps_from
    steps-like x' x e w zero = e
    steps-like x' x e w (suc n) =
        ap (λ (y : Stepped). step_of c y.cursor) (steps-like x' x e w n) ∙ going-like (steps_from b x n).cursor (all-shows x w n).going

    module _ (w : AllNumbers f f' d) where
      going-same : (x : Cursor) → Going x → step_of c x ≡ step_of b x
      going-same x (inl z) = CT.end_stays c passes' x z ∙ sym (CT.end_stays b g.passes x z)
      going-same x (inr (s, t)) = step_same w root r x s.path.0

      steps-same : (x : Stepped) → Shows-on x → (n : ℕ) → steps_from c x n ≡ steps_from b x n
      unfolding steps_from
      steps-same x v zero = refl
      steps-same x v (suc n) =
          ap (λ (y : Stepped). step_of c y.cursor) (steps-same x v n) ∙ going-same (steps_from b x n).cursor (all-shows x v n).going

    -- a cell that lookup shows has a payload
    found-payload : (row : ℤ) (page cell n : ℕ) → lookup_of b root row ≡ Found.At page cell n → PayloadCell b d page cell
    found-payload row page cell n e =
        ⊎_elim
        (λ t. let w = ((Lt.finds g (table t) row (lookup_of b root row) refl).shows page cell n).0 e in
        Lt.leaf-payload (table t) page cell w.0.leaf)
        (λ t. absurd (let z : Found.At page cell n ≡ Found.Refused 22 root = sym e ∙ lookup-refused t row in
        let o : ◌≡◌ {A = ℕ} 0 1 = cc in omega arith))
        (true-or-false (is_table f root))

  pub places-like : LikePlaces b c d
  places-like =
      record {
        good = good;
        good_for = good_for;
        verdict = verdict-like;
        kinds = kinds-same;
        namers = namers-same;
        steps = step-numbers-same;
        lookup = lookup-like;
        first = λ root r n. steps-like root r (first_of c root) (first_of b root) (first-like root r) (first-shows root r) n;
        seek = λ root r row n. steps-like root r (seek_of c root row) (seek_of b root row) (seek-like root r row) (seek-shows root r row) n;
        step = step-like;
      }

  pub places_same : AllNumbers f f' d → SamePlaces b c d
  places_same w =
      record {
        good = good;
        good_for = good_for;
        verdict = λ ordered. verdict-same ordered w;
        kinds = kinds-same;
        namers = namers-same;
        steps = step-numbers-same;
        lookup = lookup-same w;
        first = λ root r n. ap (λ (x : Stepped). steps_from c x n) (first-same w root r) ∙ steps-same root r w (first_of b root) (first-shows root r) n;
        seek = λ root r row n. ap (λ (x : Stepped). steps_from c x n) (seek-same w root r row)
            ∙ steps-same root r w (seek_of b root row) (seek-shows root r row) n;
        step = step_same w;
        fetched = λ page cell v. fetched-same page cell v (w page cell v.in_file v.tree v.index).length;
      }

module _ (b c : List ℕ) (d : Dealing) (g : GoodDealing b d) (k : Keeps b c d) where
  pages : KeepsPages b c d
  pages = keeps-pages b c d g k

  agree : Agrees b c d
  agree = images-agree b c d g pages

  numbers : AllNumbers (file_of b) (file_of c) d
  numbers q j h t l = numbers-same b c d g pages q h t j l (cell-all b c d g k q j h t l)

  same_bytes : (page cell : ℕ) → PayloadCell b d page cell → SameBytes b c page cell
  same_bytes page cell w =
      bytes_same b c d g agree page cell w (numbers page cell w.in_file w.tree w.index).length
      (payload_same b c d g pages page w.in_file w.tree cell w.index (cell-all b c d g k page cell w.in_file w.tree w.index))

  pub answers-same : SameAnswers b c d
  answers-same =
      let p = places_same b c d g agree numbers in
      record {
        good = p.good;
        good_for = p.good_for;
        verdict = p.verdict;
        kinds = p.kinds;
        namers = p.namers;
        steps = p.steps;
        lookup = p.lookup;
        first = p.first;
        seek = p.seek;
        step = p.step;
        cell = same_bytes;
        found = λ root r row page cell n e. same_bytes page cell (found-payload b c d g agree root r row page cell n e);
        first_shown = λ root r n page cell length row e.
            same_bytes page cell ((all-shows b c d g agree root r (first_of b root) (first-shows b c d g agree root r) n).payload page cell length row e);
        seek_shown = λ root r from n page cell length row e.
            same_bytes page cell
            ((all-shows b c d g agree root r (seek_of b root from) (seek-shows b c d g agree root r from) n).payload page cell length row e);
      }
