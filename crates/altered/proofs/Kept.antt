-- Two images that agree on the bytes that a good dealing of the first has read: their files agree where it looks, and payloads are the same bytes.
use Prim.Native.Nat.{ℕ, zero, suc, ◌+◌, ◌-◌, ◌*◌, ◌/◌, ◌≤◌, ◌<◌}
use mathlib.Core.Path.{◌≡◌, refl, sym, ap, ap₂, subst, ◌∙◌}
use mathlib.Core.Bool.{Bool, true, false, cond}
use mathlib.Core.Logic.{◌≢◌, ◌⊎◌, inl, inr, ⊎_elim}
use mathlib.Core.List.{List, [], ◌++◌}
use lib.Dec.{eqb, ltb}
use lib.ListN.{length, take}
use native.Mathlib.Omega.{arith}
use borrow.Author.Tests.{eqb-true}
use Rattle.number.specs.Bytes.{byte_at, be, part}
use Rattle.number.proofs.BeLaws.{be-same}
use Rattle.number.proofs.Cases.{by_cond}
use Rattle.number.specs.Varint.{varint_length}
use Rattle.paging.proofs.PagesLaws.{part_length, part_at}
use Rattle.header.specs.Header.{size_of, usable_of, pages_of, page_of, header_of}
use Rattle.header.proofs.Laws.{page-length}
use Rattle.record.specs.Record.{reads_of}
use Rattle.compare.specs.Values.{values_of, list_of}
use Rattle.cell.specs.declared.Cell as D
use Rattle.cell.specs.Split.{table_interior, chain_length}
use Rattle.cell.specs.Cell.{refused_cell, key_cell, cell_at, cell_links}
use Rattle.cell.proofs.CellLaws.{CellRead, links-none}
use Rattle.page.specs.Header.{page_type, cell_count, content_start, array_end, right_pointer, pointer, cell_of}
use Rattle.page.specs.Fault.{sound_fault}
use Rattle.page.proofs.PageLaws.{sound-checks}
use Rattle.page.proofs.PageLocal.{page-alike, cell-kept, page-kept, right_kept}
use Rattle.dealing.specs.File.{Cell, File, Page, Nameable, is_leaf, is_table, leaf_type, table_type, payload, first_kind, later_kind, trunk_kind}
use Rattle.dealing.specs.Good.{Dealing, TreePage, LeafCell, Linked, chain_pages}
use Rattle.dealing.proofs.Match.{tree-kind}
use Rattle.dealing.proofs.Theorems.{payload-linked}
use Rattle.image.specs.Pages.{page_in, head_of, cell_in, trunk_count_in}
use Rattle.image.specs.Payload.{next_in, chunk_in, chain_bytes, cell_bytes, payload_of}
use Rattle.image.specs.Schema.{column4_of}
use Rattle.image.specs.Maps.{map_of, entry_of, vacuum_in, entry_type_in, entry_number_in}
use Rattle.image.specs.Image.{file_of}
use Rattle.image.specs.Good.{GoodDealing}
use Rattle.image.specs.Ready.{PageAt}
use Rattle.image.proofs.Fields as F
use Rattle.image.proofs.Shape.{Shape, shape, at-within}
use Rattle.lookup.proofs.Theorems.{opened-image}
use Rattle.altered.specs.Altered.{place_of}
use Rattle.altered.proofs.Same.{bare, Same, SameNumbers}
use Rattle.altered.proofs.SameReads.{entries-same}
use Rattle.altered.proofs.SameHeader as H
use Rattle.altered.proofs.SameMaps.{the-map}

-- byte i of page p is the same
abbrev pub Same-at : (b c : List ℕ) (p i : ℕ) → Type 0
Same-at b c p i = byte_at c (place_of b p i) ≡ byte_at b (place_of b p i)

-- what a good dealing of b has read is the same in c: the header, tree pages below U but for the gap, overflow pages and maps below U,
-- trunks up to their last leaf number
pub record Keeps (b c : List ℕ) (d : Dealing) : Type 0 where
  pub long : length c ≡ length b
  pub header : (i : ℕ) → i < 100 → byte_at c i ≡ byte_at b i
  pub tree : (p i : ℕ) → Page (file_of b) p → TreePage d p → i < usable_of b
      → (i < array_end (page_in b p) (head_of p)) ⊎ (content_start (page_in b p) (head_of p) ≤ i) → Same-at b c p i
  pub overflow : (p i : ℕ) → Page (file_of b) p → (d.kind p ≡ first_kind) ⊎ (d.kind p ≡ later_kind) → i < usable_of b → Same-at b c p i
  pub trunk : (p i : ℕ) → Page (file_of b) p → d.kind p ≡ trunk_kind → i < usable_of b → i < 8 + 4 * trunk_count_in b p → Same-at b c p i
  pub map : (p i : ℕ) → Page (file_of b) p → d.kind p ≡ 7 → i < usable_of b → Same-at b c p i

-- a tree page says the same in c, but for its cells
pub record PageKept (b c : List ℕ) (q : ℕ) : Type 0 where
  pub type : page_type (page_in c q) (head_of q) ≡ page_type (page_in b q) (head_of q)
  pub count : cell_count (page_in c q) (head_of q) ≡ cell_count (page_in b q) (head_of q)
  pub sound : sound_fault (page_in c q) (usable_of b) (head_of q) ≡ 0
  pub right : right_pointer (page_in c q) (head_of q) ≡ right_pointer (page_in b q) (head_of q)

-- the local bytes of a cell of b are the same in c
abbrev pub LocalKept : (b c : List ℕ) (q j : ℕ) → Type 0
LocalKept b c q j =
    part (page_in c q) (cell_in b q j).start (cell_in b q j).local ≡ part (page_in b q) (cell_in b q j).start (cell_in b q j).local

-- a cell of b says the same in c, wherever it stands there, with the same local bytes
pub record CellKept (b c : List ℕ) (q j : ℕ) : Type 0 where
  pub child : (cell_in c q j).child ≡ (cell_in b q j).child
  pub row : (cell_in c q j).row ≡ (cell_in b q j).row
  pub payload : (cell_in c q j).payload ≡ (cell_in b q j).payload
  pub local : (cell_in c q j).local ≡ (cell_in b q j).local
  pub first : (cell_in c q j).first ≡ (cell_in b q j).first
  pub long : (cell_in c q j).long ≡ (cell_in b q j).long
  pub bytes : part (page_in c q) (cell_in c q j).start (cell_in b q j).local ≡ part (page_in b q) (cell_in b q j).start (cell_in b q j).local

-- a cell whose payload is another in c, of any length: on a table page, in no schema row, with the same child, row number and chain, and it still reads
pub record Changed (b c : List ℕ) (d : Dealing) (q j : ℕ) : Type 0 where
  pub table : is_table (file_of b) q ≡ true
  pub no_row : LeafCell (file_of b) d 1 q j → ⊥
  pub child : (cell_in c q j).child ≡ (cell_in b q j).child
  pub row : (cell_in c q j).row ≡ (cell_in b q j).row
  pub links : cell_links (usable_of b) (cell_in c q j) ≡ cell_links (usable_of b) (cell_in b q j)
  pub first : (cell_in c q j).first ≡ (cell_in b q j).first
  pub reads : reads_of (payload_of c q j) ≡ reads_of (payload_of b q j)

-- what a good dealing of b has read is the same in c, but for the payloads of changed cells: tree pages by what they say
pub record KeepsPages (b c : List ℕ) (d : Dealing) : Type 0 where
  pub long : length c ≡ length b
  pub header : (i : ℕ) → i < 100 → byte_at c i ≡ byte_at b i
  pub page : (q : ℕ) → Page (file_of b) q → TreePage d q → PageKept b c q
  pub cell : (q j : ℕ) → Page (file_of b) q → TreePage d q → j < (file_of b).count q → CellKept b c q j ⊎ Changed b c d q j
  pub overflow : (p i : ℕ) → Page (file_of b) p → (d.kind p ≡ first_kind) ⊎ (d.kind p ≡ later_kind) → i < usable_of b → Same-at b c p i
  pub trunk : (p i : ℕ) → Page (file_of b) p → d.kind p ≡ trunk_kind → i < usable_of b → i < 8 + 4 * trunk_count_in b p → Same-at b c p i
  pub map : (p i : ℕ) → Page (file_of b) p → d.kind p ≡ 7 → i < usable_of b → Same-at b c p i

-- two images of one length with the same header, whose files agree where a good dealing of b looks: all answers but the bytes of payloads follow from this
pub record Agrees (b c : List ℕ) (d : Dealing) : Type 0 where
  pub long : length c ≡ length b
  pub header : (i : ℕ) → i < 100 → byte_at c i ≡ byte_at b i
  pub files : Same (file_of b) (file_of c) d

-- parts of two lists that agree there
pub part_same : (l m : List ℕ) (at n : ℕ) → at + n ≤ length l → at + n ≤ length m → ((i : ℕ) → i < n → byte_at l (at + i) ≡ byte_at m (at + i))
    → part l at n ≡ part m at n
part_same l m at n h k e =
    let x = part_length l at n h in
    let y = part_length m at n k in
    entries-same (part l at n) (part m at n) (x ∙ sym y)
    (λ i w. part_at l at n i (omega arith) ∙ e i (omega arith) ∙ sym (part_at m at n i (omega arith)))

-- a cell of a table interior page has no payload
pub key-none : (p : List ℕ) (u at : ℕ) → (cell_at p u table_interior at).payload ≡ 0
unfolding cell_at
key-none p u at = outer (ltb u (at + 4))
  where
    inner : (y : Bool) (x : D.Cell) → x.payload ≡ 0 → (cond y (refused_cell 23) x).payload ≡ 0
    inner true x e = refl
    inner false x e = e

    outer : (y : Bool) → (cond y (refused_cell 23) (key_cell p u at)).payload ≡ 0
    outer true = refl
    outer false = inner (eqb (varint_length p (at + 4) u) 0) _ refl

-- a page that has cells without a payload is a table interior page
pub has-or-not : (t : ℕ) → (payload (leaf_type t) (table_type t) ≡ true) ⊎ (t ≡ table_interior)
has-or-not t = go (eqb t 10) (eqb t 13) (eqb t 5) refl
  where
    go : (a k m : Bool) → eqb t 5 ≡ m → (payload (cond a true k) (cond m true k) ≡ true) ⊎ (t ≡ table_interior)
    go true k m e = inl refl
    go false true m e = inl refl
    go false false true e = inr (eqb-true t 5 e)
    go false false false e = inl refl

pub no_payload : (b : List ℕ) (q j : ℕ) → page_type (page_in b q) (head_of q) ≡ table_interior → (cell_in b q j).payload ≡ 0
unfolding cell_in
no_payload b q j e =
    subst (λ t. (cell_at (page_in b q) (usable_of b) t (pointer (page_in b q) (head_of q) j)).payload ≡ 0) (sym e)
    (key-none (page_in b q) (usable_of b) (pointer (page_in b q) (head_of q) j))

-- a cell as a file has it, by its numbers and the bytes of its payload: a further field of a cell that is read off these bytes stands here too
abbrev cell_over : (child row P links first long : ℕ) (s : List ℕ) → Cell
cell_over child row P links first long s =
    record { child = child; row = row; length = P; links = links; first = first; long = long; reads = reads_of s; key = list_of (values_of s) }

-- the same of a changed cell: its record is looked at only for whether it reads
abbrev bare_over : (child row links first : ℕ) (reads : Bool) → Cell
bare_over child row links first r = record { child = child; row = row; length = 0; links = links; first = first; long = 0; reads = r; key = [] }

-- a cell that is the same, place and all, with the same local bytes
pub cell-of-same : (b c : List ℕ) (q j : ℕ) → cell_in c q j ≡ cell_in b q j → LocalKept b c q j → CellKept b c q j
cell-of-same b c q j e k =
    record {
      child = ap (λ (x : D.Cell). x.child) e;
      row = ap (λ (x : D.Cell). x.row) e;
      payload = ap (λ (x : D.Cell). x.payload) e;
      local = ap (λ (x : D.Cell). x.local) e;
      first = ap (λ (x : D.Cell). x.first) e;
      long = ap (λ (x : D.Cell). x.long) e;
      bytes = ap (λ (x : D.Cell). part (page_in c q) x.start (cell_in b q j).local) e ∙ k;
    }

module _ (b c : List ℕ) (d : Dealing) (g : GoodDealing b d) (long : length c ≡ length b)
    (header : (i : ℕ) → i < 100 → byte_at c i ≡ byte_at b i) where
  form : Shape b (header_of b)
  form = shape (opened-image b g.passes)

  pub used : 480 ≤ usable_of b
  used = omega (arith, form.used, form.usable_is)

  pub inside : usable_of b ≤ size_of b
  inside = omega (arith, form.inside, form.usable_is, form.size_is)

  pub size_same : size_of c ≡ size_of b
  size_same = H.size-kept b c long header

  pub usable_same : usable_of c ≡ usable_of b
  usable_same = H.usable-kept b c long header

  -- ---- pages
  page-at : (p : ℕ) → Page (file_of b) p → PageAt b (header_of b) p
  page-at p h = record { opened = opened-image b g.passes; low = h.0; high = omega (arith, form.N-is, h.1) }

  pub length-b : (p : ℕ) → Page (file_of b) p → length (page_in b p) ≡ size_of b
  length-b p h =
      let e = form.size_is in subst (λ s. length (page_of b s p) ≡ s) e (page-length b (header_of b).size p (at-within (page-at p h)))

  pub length-c : (p : ℕ) → Page (file_of b) p → length (page_in c p) ≡ size_of b
  length-c p h =
      let w = at-within (page-at p h) in
      let e = form.size_is in
      subst (λ s. length (page_of c s p) ≡ size_of b) (sym size_same)
      (page-length c (size_of b) p
      (record { low = h.0; inside = let i = w.inside in let l = long in subst (λ s. p * s ≤ length c) e (omega arith) }))

  pub byte-b : (p i : ℕ) → i < size_of b → byte_at (page_in b p) i ≡ byte_at b (place_of b p i)
  unfolding page_of
  byte-b p i h = part_at b ((p - 1) * size_of b) (size_of b) i h

  pub byte-c : (p i : ℕ) → i < size_of b → byte_at (page_in c p) i ≡ byte_at c (place_of b p i)
  unfolding page_of
  byte-c p i h =
      subst (λ s. byte_at (page_of c s p) i ≡ byte_at c (place_of b p i)) (sym size_same) (unfold page_of in
      part_at c ((p - 1) * size_of b) (size_of b) i h)

  pub agree : (p i : ℕ) → i < usable_of b → Same-at b c p i → byte_at (page_in b p) i ≡ byte_at (page_in c p) i
  agree p i h e = byte-b p i (omega (arith, inside)) ∙ sym e ∙ sym (byte-c p i (omega (arith, inside)))

  -- the number in so many bytes of a page
  pub be-agree : (k p at : ℕ) → at + k ≤ usable_of b → ((i : ℕ) → at ≤ i → i < at + k → Same-at b c p i) → be k (page_in c p) at ≡ be k (page_in b p) at
  be-agree k p at h e =
      be-same k (page_in c p) (page_in b p) at at (λ i l. sym (agree p (at + i) (omega arith) (e (at + i) (omega arith) (omega arith))))

  -- ---- a tree page of b
  module _ (q : ℕ) (h : Page (file_of b) q) (t : TreePage d q) where
    pub sound : sound_fault (page_in b q) (usable_of b) (head_of q) ≡ 0
    sound = sym (F.broken-field b q) ∙ g.good.rule_23_26 q h t

    pub near : head_of q ≤ 100
    near = by_cond (λ n. n ≤ 100) (eqb q 1) 100 0 (λ _. omega arith) (λ _. omega arith)

    pub long-b : usable_of b ≤ length (page_in b q)
    long-b = omega (arith, length-b q h, inside)

    pub long-c : usable_of b ≤ length (page_in c q)
    long-c = omega (arith, length-c q h, inside)

    module _ (j : ℕ) (l : j < (file_of b).count q) where
      pub index : j < cell_count (page_in b q) (head_of q)
      index = omega (arith, F.count-field b q)

      pub read : CellRead (page_in b q) (usable_of b) (page_type (page_in b q) (head_of q)) (pointer (page_in b q) (head_of q) j) (cell_in b q j)
      unfolding cell_in
      read = (sound-checks (page_in b q) (usable_of b) (head_of q) used sound).read j index

      pub starts : content_start (page_in b q) (head_of q) ≤ pointer (page_in b q) (head_of q) j
      starts = ((sound-checks (page_in b q) (usable_of b) (head_of q) used sound).cell j index).low

      -- local bytes that agree, one by one
      pub local-kept : ((i : ℕ) → (cell_in b q j).start ≤ i → i < (cell_in b q j).start + (cell_in b q j).local
          → byte_at (page_in b q) i ≡ byte_at (page_in c q) i) → LocalKept b c q j
      local-kept w =
          let e = read.ends in
          let x = read.within in
          part_same (page_in c q) (page_in b q) (cell_in b q j).start (cell_in b q j).local (omega (arith, long-c)) (omega (arith, long-b))
          (λ i k. sym (w ((cell_in b q j).start + i) (omega arith) (omega arith)))

    -- a page that agrees outside its gap
    module _ (outside-gap : (i : ℕ) → i < usable_of b → (i < array_end (page_in b q) (head_of q)) ⊎ (content_start (page_in b q) (head_of q) ≤ i)
        → byte_at (page_in b q) i ≡ byte_at (page_in c q) i) where
      pub page-same : PageKept b c q
      page-same =
          let a = page-alike (page_in b q) (page_in c q) (usable_of b) (head_of q) long-b long-c used near sound outside-gap in
          record {
            type = a.type;
            count = a.count;
            sound = page-kept (page_in b q) (page_in c q) (usable_of b) (head_of q) long-b long-c used near sound outside-gap;
            right = right_kept (page_in b q) (page_in c q) (usable_of b) (head_of q) long-b long-c used near sound outside-gap;
          }

      pub local_same : (j : ℕ) → j < (file_of b).count q → LocalKept b c q j
      local_same j l =
          let e = (read j l).ends in
          let x = (read j l).within in
          local-kept j l (λ i a k. outside-gap i (omega arith) (inr (omega (arith, starts j l, (read j l).begins (omega arith)))))

      pub cell-in-same : (j : ℕ) → j < (file_of b).count q → cell_in c q j ≡ cell_in b q j
      unfolding cell_in
      cell-in-same j l =
          ap (λ u. cell_of (page_in c q) u (head_of q) j) usable_same
          ∙ cell-kept (page_in b q) (page_in c q) (usable_of b) (head_of q) long-b long-c used near sound outside-gap j (index j l)

      pub cell-same-there : (j : ℕ) → j < (file_of b).count q → CellKept b c q j
      cell-same-there j l = cell-of-same b c q j (cell-in-same j l) (local_same j l)

-- bytes that are kept give pages that are kept
module _ (b c : List ℕ) (d : Dealing) (g : GoodDealing b d) (K : Keeps b c d) where
  pub outside : (q : ℕ) → Page (file_of b) q → TreePage d q → (i : ℕ) → i < usable_of b
      → (i < array_end (page_in b q) (head_of q)) ⊎ (content_start (page_in b q) (head_of q) ≤ i) → byte_at (page_in b q) i ≡ byte_at (page_in c q) i
  outside q h t i l o = agree b c d g K.long K.header q i l (K.tree q i h t l o)

  pub cell-all : (q j : ℕ) → Page (file_of b) q → TreePage d q → j < (file_of b).count q → CellKept b c q j
  cell-all q j h t l = cell-same-there b c d g K.long K.header q h t (outside q h t) j l

  pub keeps-pages : KeepsPages b c d
  keeps-pages =
      record {
        long = K.long;
        header = K.header;
        page = λ q h t. page-same b c d g K.long K.header q h t (outside q h t);
        cell = λ q j h t l. inl (cell-all q j h t l);
        overflow = K.overflow;
        trunk = K.trunk;
        map = K.map;
      }

module _ (b c : List ℕ) (d : Dealing) (g : GoodDealing b d) (K : KeepsPages b c d) where
  abbrev f : File
  f = file_of b

  abbrev u : ℕ
  u = usable_of b

  used-now : 480 ≤ u
  used-now = used b c d g K.long K.header

  inside-now : u ≤ size_of b
  inside-now = inside b c d g K.long K.header

  size-now : size_of c ≡ size_of b
  size-now = H.size-kept b c K.long K.header

  usable-now : usable_of c ≡ u
  usable-now = H.usable-kept b c K.long K.header

  pages-now : pages_of c ≡ pages_of b
  pages-now = H.pages-kept b c K.long K.header

  same_at : (p i : ℕ) → i < u → Same-at b c p i → byte_at (page_in b p) i ≡ byte_at (page_in c p) i
  same_at = agree b c d g K.long K.header

  be-at : (k p at : ℕ) → at + k ≤ u → ((i : ℕ) → at ≤ i → i < at + k → Same-at b c p i) → be k (page_in c p) at ≡ be k (page_in b p) at
  be-at = be-agree b c d g K.long K.header

  long-b-at : (p : ℕ) → Page f p → length (page_in b p) ≡ size_of b
  long-b-at = length-b b c d g K.long K.header

  long-c-at : (p : ℕ) → Page f p → length (page_in c p) ≡ size_of b
  long-c-at = length-c b c d g K.long K.header

  -- ---- tree pages
  module _ (q : ℕ) (h : Page f q) (t : TreePage d q) where
    type-same : (file_of c).type q ≡ f.type q
    type-same = F.type-field c q ∙ (K.page q h t).type ∙ sym (F.type-field b q)

    count_same : (file_of c).count q ≡ f.count q
    count_same = F.count-field c q ∙ (K.page q h t).count ∙ sym (F.count-field b q)

    broken-same : (file_of c).broken q ≡ f.broken q
    broken-same =
        F.broken-field c q ∙ ap (λ u. sound_fault (page_in c q) u (head_of q)) usable-now ∙ (K.page q h t).sound ∙ sym (g.good.rule_23_26 q h t)

    right-same : (file_of c).right q ≡ f.right q
    right-same = F.right-field c q ∙ (K.page q h t).right ∙ sym (F.right-field b q)

  -- ---- overflow pages and chains
  abbrev Overflow : ℕ → Type 0
  Overflow t = (d.kind t ≡ first_kind) ⊎ (d.kind t ≡ later_kind)

  next-same : (t : ℕ) → Page f t → Overflow t → next_in c t ≡ next_in b t
  next-same t h o = be-at 4 t 0 (omega (arith, used-now)) (λ i a l. K.overflow t i h o (omega (arith, used-now)))

  chunk-same : (t : ℕ) → Page f t → Overflow t → chunk_in c t ≡ chunk_in b t
  chunk-same t h o =
      ap (λ u. part (page_in c t) 4 (u - 4)) usable-now
      ∙ part_same (page_in c t) (page_in b t) 4 (u - 4) (omega (arith, long-c-at t h, inside-now, used-now)) (omega (arith, long-b-at t h, inside-now, used-now))
      (λ i l. sym (same_at t (4 + i) (omega arith) (K.overflow t (4 + i) h o (omega arith))))

  chain_same : (n rest t holder k : ℕ) → (k ≡ first_kind) ⊎ (k ≡ later_kind) → Linked f d holder k (chain_pages f n t)
      → chain_bytes c n rest t ≡ chain_bytes b n rest t
  unfolding chain_bytes chain_pages
  chain_same zero rest t holder k o w = refl
  chain_same (suc n) rest t holder k o w =
      let l : Nameable f t = w.0 in
      let h : Page f t = omega arith in
      let x : Overflow t = ⊎_elim (λ e. inl (w.1 ∙ e)) (λ e. inr (w.1 ∙ e)) o in
      let e = next-same t h x in
      let z : f.next t ≡ next_in b t = F.next_field b t in
      ap₂ ◌++◌ (ap (take rest) (chunk-same t h x))
      (ap (λ u. chain_bytes c n (rest - (u - 4)) (next_in c t)) usable-now
      ∙ ap (chain_bytes c n (rest - (u - 4))) e
      ∙ chain_same n (rest - (u - 4)) (next_in b t) t later_kind (inr refl) (subst (λ m. Linked f d t later_kind (chain_pages f n m)) z w.3))

  -- ---- payloads
  module _ (q : ℕ) (h : Page f q) (t : TreePage d q) (j : ℕ) (l : j < f.count q) where
    abbrev x : D.Cell
    x = cell_in b q j

    rest-same : chain_bytes c (cell_links u x) (x.payload - x.local) x.first ≡ chain_bytes b (cell_links u x) (x.payload - x.local) x.first
    rest-same = ⊎_elim has none (has-or-not (f.type q))
      where
        has : payload (leaf_type (f.type q)) (table_type (f.type q)) ≡ true → chain_bytes c (cell_links u x) (x.payload - x.local)
            x.first ≡ chain_bytes b (cell_links u x) (x.payload - x.local) x.first
        has e =
            let w = payload-linked f d g.good q j h t (unfold is_leaf is_table in e) l in
            chain_same (cell_links u x) (x.payload - x.local) x.first q first_kind (inl refl)
            (subst (λ (y : Cell). Linked f d q first_kind (chain_pages f y.links y.first)) (F.cell_field b q j) w)

        none : f.type q ≡ table_interior → chain_bytes c (cell_links u x) (x.payload - x.local) x.first
            ≡ chain_bytes b (cell_links u x) (x.payload - x.local) x.first
        none e =
            let r = read b c d g K.long K.header q h t j l in
            let p : x.payload ≡ 0 = no_payload b q j (sym (F.type-field b q) ∙ e) in
            let z : cell_links u x ≡ 0 = links-none used-now r (omega (arith, r.part)) in
            rw z (unfold chain_bytes in refl)

    abbrev y : D.Cell
    y = cell_in c q j

    module _ (kept : CellKept b c q j) where
      bytes_same : cell_bytes c q y ≡ cell_bytes b q x
      bytes_same =
          let e : y.payload - y.local ≡ x.payload - x.local = ap₂ ◌-◌ kept.payload kept.local in
          ap₂ ◌++◌ (ap (part (page_in c q) y.start) kept.local ∙ kept.bytes)
          (ap₂ (λ n t. chain_bytes c (chain_length (usable_of c) n) n t) e kept.first
          ∙ ap (λ u. chain_bytes c (cell_links u x) (x.payload - x.local) x.first) usable-now ∙ rest-same)

      pub payload_same : payload_of c q j ≡ payload_of b q j
      unfolding payload_of
      payload_same = bytes_same

      pub cell_same : (file_of c).cell q j ≡ f.cell q j
      cell_same =
          let e : y.payload - y.local ≡ x.payload - x.local = ap₂ ◌-◌ kept.payload kept.local in
          let s = cell_bytes c q y in
          let n = cell_links (usable_of c) y in
          F.cell_field c q j
          ∙ ap₂ (λ child row. cell_over child row y.payload n y.first y.long s) kept.child kept.row
          ∙ ap₂ (λ P links. cell_over x.child x.row P links y.first y.long s) kept.payload (ap₂ chain_length usable-now e)
          ∙ ap₂ (λ first long. cell_over x.child x.row x.payload (cell_links u x) first long s) kept.first kept.long
          ∙ ap (cell_over x.child x.row x.payload (cell_links u x) x.first x.long) bytes_same
          ∙ sym (F.cell_field b q j)

      pub numbers-same : SameNumbers f (file_of c) q j
      numbers-same = record { length = ap (λ (z : Cell). z.length) cell_same; long = ap (λ (z : Cell). z.long) cell_same }

      pub column4-same : (file_of c).column4 q j ≡ f.column4 q j
      column4-same = F.column4-field c q j ∙ ap column4_of payload_same ∙ sym (F.column4-field b q j)

    -- a changed cell is looked at alike
    changed-same : Changed b c d q j → bare true ((file_of c).cell q j) ≡ bare true (f.cell q j)
    unfolding payload_of
    changed-same w =
        let r = reads_of (payload_of c q j) in
        ap (bare true) (F.cell_field c q j)
        ∙ ap₂ (λ child row. bare_over child row (cell_links (usable_of c) y) y.first r) w.child w.row
        ∙ ap₂ (λ links first. bare_over x.child x.row links first r) (ap (λ u. cell_links u y) usable-now ∙ w.links) w.first
        ∙ ap (bare_over x.child x.row (cell_links u x) x.first) w.reads
        ∙ sym (ap (bare true) (F.cell_field b q j))

    looked-same : CellKept b c q j ⊎ Changed b c d q j → bare (is_table f q) ((file_of c).cell q j) ≡ bare (is_table f q) (f.cell q j)
    looked-same (inl k) = ap (bare (is_table f q)) (cell_same k)
    looked-same (inr w) = subst (λ t. bare t ((file_of c).cell q j) ≡ bare t (f.cell q j)) (sym w.table) (changed-same w)

    row_same : CellKept b c q j ⊎ Changed b c d q j → LeafCell f d 1 q j → (file_of c).column4 q j ≡ f.column4 q j
    row_same (inl k) r = column4-same k
    row_same (inr w) r = absurd (w.no_row r)

  -- ---- trunks
  module _ (q : ℕ) (h : Page f q) (k : d.kind q ≡ trunk_kind) where
    roomy : 8 + 4 * trunk_count_in b q ≤ u
    roomy = omega (arith, g.good.rule_29_room q h k, F.trunk-count-field b q, F.room-field b, used-now)

    trunk-be : (at : ℕ) → at + 4 ≤ 8 + 4 * trunk_count_in b q → be 4 (page_in c q) at ≡ be 4 (page_in b q) at
    trunk-be at l = be-at 4 q at (omega (arith, roomy)) (λ i x y. K.trunk q i h k (omega (arith, roomy)) (omega arith))

  -- ---- the entry about a page
  map-agree : (p i : ℕ) → vacuum_in b ≢ 0 → Nameable f p → i < u → Same-at b c (map_of (size_of b) u p) i
  map-agree p i v l k =
      let m = the-map b used-now v p l.0 (sym (F.fixed-field b p) ∙ l.2) in
      let e : f.fixed (map_of (size_of b) u p) ≡ 1 = F.fixed-field b (map_of (size_of b) u p) ∙ m.fixed in
      let w = g.good.placed (map_of (size_of b) u p) (m.low, omega (arith, m.high, l.1), λ z. omega arith) in
      K.map (map_of (size_of b) u p) i (omega (arith, m.low), omega (arith, m.high, l.1)) (omega (arith, w.0)) k

  module _ (p : ℕ) (v : vacuum_in b ≢ 0) (l : Nameable f p) where
    below-u : entry_of (size_of b) u p + 5 ≤ u
    below-u = (the-map b used-now v p l.0 (sym (F.fixed-field b p) ∙ l.2)).entry

    entry-type-same : entry_type_in c p ≡ entry_type_in b p
    entry-type-same =
        ap₂ (λ s u. byte_at (page_in c (map_of s u p)) (entry_of s u p)) size-now usable-now
        ∙ sym (same_at (map_of (size_of b) u p) (entry_of (size_of b) u p) (omega (arith, below-u)) (map-agree p _ v l (omega (arith, below-u))))

    entry-number-same : entry_number_in c p ≡ entry_number_in b p
    entry-number-same =
        ap₂ (λ s u. be 4 (page_in c (map_of s u p)) (entry_of s u p + 1)) size-now usable-now
        ∙ be-at 4 (map_of (size_of b) u p) (entry_of (size_of b) u p + 1) (omega (arith, below-u))
        (λ i x y. map-agree p i v l (omega (arith, below-u)))

  pub files-same : Same f (file_of c) d
  files-same =
      record {
        N = F.N-field c ∙ pages-now ∙ sym (F.N-field b);
        free_head = F.head-field c ∙ H.be-kept b c K.long K.header 4 32 (omega arith) ∙ sym (F.head-field b);
        free_total = F.total-field c ∙ H.be-kept b c K.long K.header 4 36 (omega arith) ∙ sym (F.total-field b);
        trunk_room = F.room-field c ∙ ap (λ u. u / 4 - 2) usable-now ∙ sym (F.room-field b);
        vacuum = F.vacuum-field c ∙ H.vacuum-kept b c K.long K.header ∙ sym (F.vacuum-field b);
        fixed = λ p. F.fixed-field c p ∙ H.fixed_kept b c K.long K.header p ∙ sym (F.fixed-field b p);
        type = λ q h t. type-same q h t;
        broken = λ q h t. broken-same q h t;
        count = λ q h t. count_same q h t;
        right = λ q h t. right-same q h t;
        cell = λ q j h t l. looked-same q h t j l (K.cell q j h t l);
        column4 = λ q j h r. let t = tree-kind f d r.0.0 1 q g.good.kind_1 r.0.1 in
            row_same q h t j r.2 (K.cell q j h t r.2) r;
        next = λ q h o. F.next_field c q ∙ next-same q h o ∙ sym (F.next_field b q);
        trunk_next = λ q h k. F.trunk-next-field c q ∙ trunk-be q h k 0 (omega arith) ∙ sym (F.trunk-next-field b q);
        trunk_count = λ q h k. F.trunk-count-field c q ∙ trunk-be q h k 4 (omega arith) ∙ sym (F.trunk-count-field b q);
        trunk_leaf = λ q j h k l. F.trunk-leaf-field c q j ∙ trunk-be q h k (8 + 4 * j) (omega (arith, F.trunk-count-field b q))
            ∙ sym (F.trunk-leaf-field b q j);
        entry_type = λ v p l. F.entry-type-field c p ∙ entry-type-same p (λ z. v (F.vacuum-field b ∙ z)) l ∙ sym (F.entry-type-field b p);
        entry_number = λ v p l. F.entry-number-field c p ∙ entry-number-same p (λ z. v (F.vacuum-field b ∙ z)) l ∙ sym (F.entry-number-field b p);
      }

  pub images-agree : Agrees b c d
  images-agree = record { long = K.long; header = K.header; files = files-same }
