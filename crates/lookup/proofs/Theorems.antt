-- Lookup and payloads in good images, and what every answer says of the payload's length.
-- Assumes nothing.
use Prim.Native.Nat.{ℕ, zero, suc, ◌-◌}
use mathlib.Core.Path.{◌≡◌, refl, sym, ap, ◌∙◌, subst}
use mathlib.Core.Bool.{true, false, ◌||◌}
use mathlib.Core.Logic.{◌⊎◌, inl, inr, ⊎_elim}
use mathlib.Core.List.{List, ◌++◌}
use lib.Dec.{eqb}
use lib.IntN.{ℤ}
use lib.ListN.{length, take}
use native.Mathlib.Omega.{arith}
use borrow.Author.Tests.{eqb-true}
use Rattle.number.specs.Bytes.{part, bias_of}
use Rattle.number.proofs.Cases.{true-or-false}
use Rattle.header.specs.Header.{usable_of, header_of, header_refusal}
use Rattle.page.specs.declared.Place.TheVariants.{PayloadPage}
use Rattle.page.specs.Place.{allowed}
use Rattle.page.specs.Fault.{page_fault}
use Rattle.page.proofs.PageLaws.{page-none}
use Rattle.dealing.specs.File.{File, Cell, Page, is_leaf, is_table, leaf_type, table_type, index_type, payload, Place, suits, schema_root, any_root, table_page, index_page, root_kind}
use Rattle.dealing.specs.Good.{Dealing, TreePage, InTree, LeafCell, place_of, chain_pages}
use Rattle.dealing.specs.Lookup.{Answer, nowhere, shows, refuses, lookup, whole, follow_cell}
use Rattle.dealing.proofs.Theorems.{lookup-exact, lookup-nothing, lookup-passes, rows-once, payload-followed, payload-linked}
use Rattle.cell.specs.Cell.{cell_links}
use Rattle.image.specs.Pages.{page_in, head_of, cell_in}
use Rattle.image.specs.Payload.{payload_of, chunks_of}
use Rattle.image.specs.Image.{file_of}
use Rattle.image.specs.Good.{GoodDealing, TableRoot, PayloadCell, OnPages}
use Rattle.image.specs.Ready.{Opened, PageAt}
use Rattle.image.proofs.Shape.{shape}
use Rattle.image.proofs.Fields.{type-field, broken-field, cell_field}
use Rattle.payload.specs.Copy.{Fetchable}
use Rattle.payload.proofs.CopyLaws.{cell-length, cell-chained, rest-chunks, payload-is}
use Rattle.lookup.specs.Answers.{found_of, lookup_of, cell_fetched, fetched_of, out_of}
use Rattle.lookup.specs.Means.{Finds, Shows, Nothing, Refuses, Fetches, Copied, NoRoom}
use Rattle.lookup.specs.Ready.{CellOn}
use Rattle.lookup.specs.Found as Fo
use Rattle.lookup.specs.Fetched as Fe
use Rattle.lookup.proofs.Ways.{Fit, readable, opened-lookup, fetch-short, fetch-copied, fetchable, cell-at, page-there}

-- an image that passes 1 to 11
pub opened-image : (b : List ℕ) → header_refusal b ≡ 0 → Opened b (header_of b)
opened-image b z = record { is = refl; passes = z }

-- the answer is the enum's case
module _ (page cell n : ℕ) where
  pub shown : (a : Answer) → found_of a ≡ Fo.At page cell n → a ≡ shows page cell n
  shown nowhere e = absurd (let z : ◌≡◌ {A = ℕ} 0 1 = cc in omega arith)
  shown (shows p i m) e =
      let e₀ : p ≡ page = cc in
      let e₁ : i ≡ cell = cc in
      let e₂ : m ≡ n = cc in
      cc
  shown (refuses k p) e = absurd (let z : ◌≡◌ {A = ℕ} 0 1 = cc in omega arith)

missing : (a : Answer) → found_of a ≡ Fo.Nothing → a ≡ nowhere
missing nowhere e = refl
missing (shows p i n) e = absurd (let z : ◌≡◌ {A = ℕ} 0 1 = cc in omega arith)
missing (refuses k p) e = absurd (let z : ◌≡◌ {A = ℕ} 0 1 = cc in omega arith)

stopped : (number page : ℕ) (a : Answer) → found_of a ≡ Fo.Refused number page → a ≡ refuses number page
stopped number page nowhere e = absurd (let z : ◌≡◌ {A = ℕ} 0 1 = cc in omega arith)
stopped number page (shows p i n) e = absurd (let z : ◌≡◌ {A = ℕ} 0 1 = cc in omega arith)
stopped number page (refuses k p) e =
    let e₀ : k ≡ number = cc in
    let e₁ : p ≡ page = cc in
    cc

-- the pages of a root's tree are tree pages
pub in_tree : (f : File) (d : Dealing) (r : ℕ) → Page f r → d.kind r ≡ root_kind → (level q : ℕ) → InTree f d r level q → Page f q × TreePage d q
in_tree f d r page k zero q h = absurd h
in_tree f d r page k (suc zero) q h = subst (λ q. Page f q × TreePage d q) (sym h) (page, inl k)
in_tree f d r page k (suc (suc n)) q h = let l = h.0 in ((omega arith, l.1), inr h.1)

-- a leaf cell of a root's tree has a payload
pub leaf-payload : {b : List ℕ} {d : Dealing} {root : ℕ} → TableRoot b d root → (q j : ℕ) → LeafCell (file_of b) d root q j → PayloadCell b d q j
leaf-payload {b} {d} {root} t q j l =
    let p = in_tree (file_of b) d root t.page t.kind l.0.0 q l.0.1 in
    record { in_file = p.0; tree = p.1; has = rw l.1; index = l.2 }

-- the types of tree pages whose cells have payloads
family : (place : Place) (t : ℕ) → suits place t ≡ true → (table_type t ≡ true) ⊎ (index_type t ≡ true)
unfolding suits
family schema_root t e = inl e
family any_root t e = ⊎_elim (λ y. inl y) (λ (x : table_type t ≡ false). inr (rw x at e)) (true-or-false (table_type t))
family table_page t e = inl e
family index_page t e = inr e

payload-type : (t : ℕ) → (table_type t ≡ true) ⊎ (index_type t ≡ true) → payload (leaf_type t) (table_type t) ≡ true → allowed PayloadPage t ≡ true
unfolding allowed
payload-type t k h = by-13 (true-or-false (eqb t 13))
  where
    by_index : eqb t 13 ≡ false → (table_type t ≡ true) ⊎ (index_type t ≡ true) → (eqb t 13 || (eqb t 2 || eqb t 10)) ≡ true
    by_index n (inl a) =
        ⊎_elim (λ (y : eqb t 5 ≡ true). absurd (let z : ◌≡◌ {A = ℕ} 0 1 = (let e : t ≡ 5 = eqb-true t 5 y in let w = rw e at h in cc) in omega arith))
        (λ (x : eqb t 5 ≡ false). absurd (let z : ◌≡◌ {A = ℕ} 0 1 = (let w = rw (x, n) at a in cc) in omega arith)) (true-or-false (eqb t 5))
    by_index n (inr a) = ⊎_elim (λ (y : eqb t 2 ≡ true). rw (n, y)) (λ (x : eqb t 2 ≡ false). rw (n, x) (rw x at a)) (true-or-false (eqb t 2))

    by-13 : (eqb t 13 ≡ true) ⊎ (eqb t 13 ≡ false) → (eqb t 13 || (eqb t 2 || eqb t 10)) ≡ true
    by-13 (inl y) = rw y
    by-13 (inr n) = by_index n k

-- ---- payloads in a good image
module _ {b : List ℕ} {d : Dealing} (g : GoodDealing b d) {q i : ℕ} (w : PayloadCell b d q i) where
  o : Opened b (header_of b)
  o = opened-image b g.passes

  at : PageAt b (header_of b) q
  at = let s = shape o in record { opened = o; low = w.in_file.0; high = omega (arith, s.N-is, w.in_file.1) }

  sound : (file_of b).broken q ≡ 0
  sound = g.good.rule_23_26 q w.in_file w.tree

  on : CellOn b (header_of b) q i (cell_in b q i)
  on = readable at sound w.index refl

  chain : follow_cell (file_of b) q (cell_links (header_of b).usable (cell_in b q i)) (cell_in b q i).first ≡ whole
  chain =
      let s = shape o in
      let e = payload-followed (file_of b) d g.good q i w.in_file w.tree w.has w.index in
      let k = ap (λ (c : Cell). follow_cell (file_of b) q c.links c.first) (cell_field b q i) in
      ap (λ u. follow_cell (file_of b) q (cell_links u (cell_in b q i)) (cell_in b q i).first) s.usable_is ∙ sym k ∙ e

  whole-cell : Fetchable b (header_of b) q (cell_in b q i) (cell_in b q i).payload
  whole-cell = fetchable on (cell_links (header_of b).usable (cell_in b q i)) refl (cell_in b q i).payload chain (omega arith)

  is-length : length (payload_of b q i) ≡ (cell_in b q i).payload
  is-length = ap length (payload-is b q i) ∙ cell-length b (header_of b) q (cell_in b q i) (cell_in b q i).payload whole-cell

  -- the payload has the length that its cell says
  pub payload-length : length (payload_of b q i) ≡ ((file_of b).cell q i).length
  payload-length = is-length ∙ sym (ap (λ (c : Cell). c.length) (cell_field b q i))

  -- it is the bytes of its pages
  pub on_pages : OnPages b d q i
  on_pages =
      let c = cell_in b q i in
      let local = part (page_in b q) c.start c.local in
      record {
        bytes =
            payload-is b q i
            ∙ ap (λ x. local ++ x)
            (rest-chunks b (header_of b) o (c.payload - c.local) c.first (cell-chained b (header_of b) q c c.payload whole-cell)
            ∙ ap (λ (x : Cell). take (c.payload - c.local) (chunks_of b (chain_pages (file_of b) x.links x.first))) (sym (cell_field b q i)));
        length_is = payload-length;
        linked = payload-linked (file_of b) d g.good q i w.in_file w.tree w.has w.index;
      }

  none : page_fault PayloadPage (page_in b q) (usable_of b) (head_of q) ≡ 0
  unfolding is_leaf is_table
  none =
      let t = (file_of b).type q in
      let a : allowed PayloadPage t ≡ true = payload-type t (family (place_of (file_of b) d q) t (g.good.rule_22 q w.in_file w.tree)) w.has in
      (page-none PayloadPage (page_in b q) (usable_of b) (head_of q)).1
      (ap (allowed PayloadPage) (sym (type-field b q)) ∙ a, sym (broken-field b q) ∙ sound)

  fit : Fit PayloadPage at ((file_of b).type q) ((file_of b).count q) ((file_of b).right q)
  unfolding is_leaf is_table
  fit =
      record {
        tree = record { at = at; kind_is = refl; sound = sound; count_is = refl };
        right_is = refl;
        none = none;
        suits-place = payload-type ((file_of b).type q) (family (place_of (file_of b) d q) ((file_of b).type q) (g.good.rule_22 q w.in_file w.tree)) w.has;
      }

  asked : (room : ℕ) (r : Fe.Fetched) → r ≡ cell_fetched (file_of b) q ((file_of b).cell q i) room → r ≡ fetched_of b q i room
  asked room r e =
      page-there b q i room at r (cell-at at i room fit r w.index e)

  -- 5. it is fetched, with enough room, and is the payload that the rules speak of
  pub fetches : (out out' : List ℕ) (r : Fe.Fetched) → r ≡ fetched_of b q i (length out) → out' ≡ out_of r (payload_of b q i) out → Fetches b d q i out out' (Copied r) (NoRoom r)
  fetches out out' r e f =
      record {
        on_pages = on_pages;
        copied = λ l.
            let k = asked (length out) (Fe.Copied (cell_in b q i).payload) (fetch-copied on links refl (length out) chain (omega (arith, is-length))) in
            let x : r ≡ Fe.Copied (length (payload_of b q i)) = e ∙ sym k ∙ ap Fe.Copied (sym is-length) in
            (x, f ∙ ap (λ r. out_of r (payload_of b q i) out) x);
        no_room = λ l.
            let k = asked (length out) (Fe.Refused 44 0) (fetch-short on links refl (length out) chain (omega (arith, is-length))) in
            let x : r ≡ Fe.Refused 44 0 = e ∙ sym k in
            (x, f ∙ ap (λ r. out_of r (payload_of b q i) out) x);
      }
    where
      links : ℕ
      links = cell_links (header_of b).usable (cell_in b q i)

-- ---- lookup in a good image, at a table root
module _ {b : List ℕ} {d : Dealing} (g : GoodDealing b d) {root : ℕ} (t : TableRoot b d root) (row : ℤ) where
  answer : lookup_of b root row ≡ found_of (lookup (file_of b) root (bias_of row))
  answer = opened-lookup b root row (opened-image b g.passes)

  pub leaf-length : (q i : ℕ) → LeafCell (file_of b) d root q i → length (payload_of b q i) ≡ ((file_of b).cell q i).length
  leaf-length q i l = payload-length g (leaf-payload t q i l)

  -- 4. lookup shows a cell exactly when a leaf cell of the root's tree carries the row number
  pub finds : (r : Fo.Found) → r ≡ lookup_of b root row → Finds b d root row (Shows r) (Nothing r) (Refuses r)
  finds r e =
      let exact = lookup-exact (file_of b) d g.good root t.page t.kind t.table (bias_of row) in
      let none = lookup-nothing (file_of b) d g.good root t.page t.kind t.table (bias_of row) in
      record {
        shows = λ q i n. (
          λ h.
              let w = (exact q i n).0 (shown q i n (lookup (file_of b) root (bias_of row)) (sym (e ∙ answer) ∙ h)) in
              (record { leaf = w.0; number = w.1 }, w.2 ∙ sym (leaf-length q i w.0)),
          λ h. e ∙ answer ∙ ap found_of ((exact q i n).1 (h.0.leaf, h.0.number, h.1 ∙ leaf-length q i h.0.leaf)),
        );
        once = λ q i q' i' h h'.
            rows-once (file_of b) d g.good root t.page t.kind t.table q q' i i' h.leaf h'.leaf (h.number ∙ sym h'.number);
        nothing = (
          λ h q i c. none.0 (missing (lookup (file_of b) root (bias_of row)) (sym (e ∙ answer) ∙ h)) q i c.leaf c.number,
          λ h. e ∙ answer ∙ ap found_of (none.1 (λ q i l k. h q i (record { leaf = l; number = k }))),
        );
        passes = λ h.
            lookup-passes (file_of b) d g.good root t.page t.kind t.table (bias_of row) h.0 h.1
            (stopped h.0 h.1 (lookup (file_of b) root (bias_of row)) (sym (e ∙ answer) ∙ h.2));
      }

-- ---- the entry points' promises, each from the equation
pub good-too : {b : List ℕ} (root : ℕ) (row : ℤ) {r : Fo.Found} → r ≡ lookup_of b root row
    → record {
      answer : r ≡ lookup_of b root row;
      good : (d : Dealing) → GoodDealing b d → TableRoot b d root → Finds b d root row (Shows r) (Nothing r) (Refuses r);
    }
good-too root row {r} e = record { answer = e; good = λ d g t. finds g t row r e }

pub all_three : {b : List ℕ} (page cell : ℕ) (out : List ℕ) {out' : List ℕ} {r : Fe.Fetched} → r ≡ fetched_of b page cell (length out) → out' ≡ out_of r (payload_of b page cell) out
    → record {
      answer : r ≡ fetched_of b page cell (length out);
      buffer : out' ≡ out_of r (payload_of b page cell) out;
      good : (d : Dealing) → GoodDealing b d → PayloadCell b d page cell → Fetches b d page cell out out' (Copied r) (NoRoom r);
    }
all_three page cell out {out'} {r} e f = record { answer = e; buffer = f; good = λ d g w. fetches g w out out' r e f }
