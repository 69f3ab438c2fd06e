-- A cell is given by the bytes from its place to its end, or to u where it is refused: two pages that agree there have the same cell there.
use Prim.Native.Nat.{ℕ, ◌+◌, ◌-◌, ◌<◌, ◌≤◌}
use mathlib.Core.Path.{◌≡◌, refl, sym, ap, ◌∙◌}
use mathlib.Core.Bool.{Bool, true, false, cond}
use mathlib.Core.List.{List}
use mathlib.Core.Logic.{◌⊎◌, ⊎_elim}
use lib.Dec.{ltb, eqb}
use lib.ListN.{length}
use native.Mathlib.Nat.{pos_of_ne-zero}
use native.Mathlib.Omega.{arith}
use borrow.Author.Tests.{ltb-false, eqb-true, eqb-false, le-ltb}
use Rattle.number.specs.Bytes.{byte_at, be, biased}
use Rattle.number.specs.Varint.{stop_at, varint_at, varint_length, long_of}
use Rattle.number.specs.declared.Word.{Word}
use Rattle.number.proofs.Cases.{lt-or-ge, by_cond}
use Rattle.number.proofs.BeLaws.{be-same}
use Rattle.number.proofs.Laws.{reads-own-bytes, reads_only}
use Rattle.number.proofs.VarintLaws.{varint-whole}
use Rattle.cell.specs.declared.Cell as D
use Rattle.cell.specs.Split.{table_interior, table_leaf, local_size}
use Rattle.cell.specs.Cell.{child_width, child_at, refused_cell, at_least4, local_end, first_at, over_limit, key_cell, body_cell, payload_cell, cell_at}
use Rattle.cell.proofs.CellParts.{width-interior, end-past, end_rest, least-4, least-end}

-- two pages that agree on the varint of the first, or up to the end where that is short
pub varint-local : (b c : List ℕ) (at end : ℕ) → end ≤ length b → end ≤ length c
    → ((i : ℕ) → at ≤ i → i < end → (0 < varint_length b at end → i < at + varint_length b at end) → byte_at b i ≡ byte_at c i)
    → varint_at c at end ≡ varint_at b at end
varint-local b c at end hb hc g =
    ⊎_elim
    (λ (z : varint_length b at end < 1).
    let e : stop_at b end ≡ end = simp (le-ltb _ _ hb) in
    let f : stop_at c end ≡ end = simp (le-ltb _ _ hc) in
    reads_only b c at at end end (omega arith) (λ i l. sym (g (at + i) (omega arith) (omega arith) (λ s. absurd (omega arith)))))
    (λ (s : 1 ≤ varint_length b at end).
    let w = varint-whole b at end (omega arith) in
    reads-own-bytes b c at at end end (omega arith) (λ i l. sym (g (at + i) (omega arith) (omega (arith, w.ends)) (λ k. omega arith)))
    (omega (arith, w.ends)) w.ends)
    (lt-or-ge (varint_length b at end) 1)

-- what a test picks is the same on both pages, if either of its ways is
both : {A : Type 0} (Q : A → Type 0) (t : Bool) (x y x' y' : A)
    → (t ≡ true → Q x → x' ≡ x) → (t ≡ false → Q y → y' ≡ y) → Q (cond t x y) → cond t x' y' ≡ cond t x y
both Q true x y x' y' f g n = f refl n
both Q false x y x' y' f g n = g refl n

-- a cell that was read ends past its parts
body-past : (p : List ℕ) (u type at P row start long : ℕ) → (body_cell p u type at P row start long).fault ≡ 0
    → start ≤ (body_cell p u type at P row start long).end
unfolding body_cell
body-past p u type at P row start long =
    by_cond (λ (c : D.Cell). c.fault ≡ 0 → start ≤ c.end) (ltb u (at_least4 at (local_end start (local_size u type P) P))) _ _
    (λ e z. omega arith)
    (λ e z. omega (arith, end-past start (local_size u type P) P, least-end at (local_end start (local_size u type P) P)))

-- a table leaf's cell from its row number on, by the varint w of that
abbrev row_cell : List ℕ → (u type at P next long : ℕ) → Word → D.Cell
row_cell p u type at P next long w =
    cond (eqb w.length 0) (refused_cell 23) (body_cell p u type at P (biased w.bits) (next + w.length) (long + long_of w))

row-past : (p : List ℕ) (u type at P next long : ℕ) (w : Word) → (row_cell p u type at P next long w).fault ≡ 0
    → (0 < w.length) × (next + w.length ≤ (row_cell p u type at P next long w).end)
row-past p u type at P next long w =
    by_cond (λ (c : D.Cell). c.fault ≡ 0 → (0 < w.length) × (next + w.length ≤ c.end)) (eqb w.length 0) _ _
    (λ e z. absurd (omega arith))
    (λ e z. (pos_of_ne-zero (eqb-false _ _ e), body-past p u type at P (biased w.bits) (next + w.length) (long + long_of w) z))

payload-past : (p : List ℕ) (u type at P next long : ℕ) → (payload_cell p u type at P next long).fault ≡ 0
    → next ≤ (payload_cell p u type at P next long).end
unfolding payload_cell
payload-past p u type at P next long =
    by_cond (λ (c : D.Cell). c.fault ≡ 0 → next ≤ c.end) (over_limit P) _ _ (λ e z. absurd (omega arith))
    (λ e. by_cond (λ (c : D.Cell). c.fault ≡ 0 → next ≤ c.end) (eqb type table_leaf) _ _
    (λ t z. omega (arith, row-past p u type at P next long (varint_at p next u) z))
    (λ t. body-past p u type at P 0 next long))

module _ (p q : List ℕ) (u type at : ℕ) (hp : u ≤ length p) (hq : u ≤ length q) where
  -- the pages agree from `at` to the end of the cell c, or to u where it is refused
  abbrev pub Near : D.Cell → Type 0
  Near c = (i : ℕ) → at ≤ i → i < u → (c.fault ≡ 0 → i < c.end) → byte_at p i ≡ byte_at q i

  four-local : (end to : ℕ) → end ≤ u → at ≤ to → to + 4 ≤ end → ((i : ℕ) → at ≤ i → i < end → byte_at p i ≡ byte_at q i) → be 4 q to ≡ be 4 p to
  four-local end to l b e g = be-same 4 q p to to (λ i k. sym (g (to + i) (omega arith) (omega arith)))

  body-local : (P row start long : ℕ) → at ≤ start → Near (body_cell p u type at P row start long)
      → body_cell q u type at P row start long ≡ body_cell p u type at P row start long
  unfolding body_cell
  body-local P row start long b =
      let local = local_size u type P in
      let end = at_least4 at (local_end start local P) in
      both Near (ltb u end) _ _ _ _ (λ e g. refl)
      (λ e g.
      let l : end ≤ u = ltb-false _ _ e in
      let same : (i : ℕ) → at ≤ i → i < end → byte_at p i ≡ byte_at q i = λ i a k. g i a (omega arith) (λ z. k) in
      let c : child_at q type at ≡ child_at p type at =
      both (λ n. Unit) (eqb (child_width type) 0) _ _ _ _ (λ z n. refl)
      (λ z n. four-local end at l (omega arith) (least-4 at (local_end start local P)) same) tt in
      let f : first_at q start local P ≡ first_at p start local P =
      both (λ n. Unit) (eqb local P) _ _ _ _ (λ z n. refl)
      (λ z n. four-local end (start + local) l (omega arith)
      (omega (arith, end_rest start local P (eqb-false _ _ z), least-end at (local_end start local P))) same) tt in
      rw (c, f))

  row-local : (P next long : ℕ) → at ≤ next → Near (row_cell p u type at P next long (varint_at p next u))
      → row_cell q u type at P next long (varint_at q next u) ≡ row_cell p u type at P next long (varint_at p next u)
  row-local P next long b g =
      let w = varint_at p next u in
      ap (row_cell q u type at P next long)
      (varint-local p q next u hp hq (λ i a l k. g i (omega arith) l (λ z. let r = row-past p u type at P next long w z in omega (arith, k r.0))))
      ∙ both Near (eqb w.length 0) _ _ _ _ (λ e n. refl)
      (λ e n. body-local P (biased w.bits) (next + w.length) (long + long_of w) (omega arith) n) g

  payload-local : (P next long : ℕ) → at ≤ next → Near (payload_cell p u type at P next long)
      → payload_cell q u type at P next long ≡ payload_cell p u type at P next long
  unfolding payload_cell
  payload-local P next long b =
      both Near (over_limit P) _ _ _ _ (λ e g. refl)
      (λ e. both Near (eqb type table_leaf) _ _ _ _ (λ t. row-local P next long b) (λ t. body-local P 0 next long b))

  key-local : at + 4 ≤ u → Near (key_cell p u at) → key_cell q u at ≡ key_cell p u at
  key-local l g =
      let w = varint_at p (at + 4) u in
      ap (keyed q)
      (varint-local p q (at + 4) u hp hq (λ i a k m. g i (omega arith) k (λ z. let r = key-past z in omega (arith, m r.0))))
      ∙ both Near (eqb w.length 0) _ _ _ _ (λ e n. refl)
      (λ e n.
      let c : be 4 q at ≡ be 4 p at =
      be-same 4 q p at at (λ i k. sym (n (at + i) (omega arith) (omega arith) (λ z. omega arith))) in
      rw c) g
    where
      keyed : List ℕ → Word → D.Cell
      keyed b w =
          cond (eqb w.length 0) (refused_cell 23)
          (record {
            fault = 0;
            child = be 4 b at;
            payload = 0;
            row = biased w.bits;
            start = 0;
            local = 0;
            first = 0;
            end = at + 4 + w.length;
            long = long_of w;
          })

      key-past : (key_cell p u at).fault ≡ 0 → (0 < varint_length p (at + 4) u) × (at + 4 + varint_length p (at + 4) u ≤ (key_cell p u at).end)
      key-past =
          by_cond (λ (c : D.Cell). c.fault ≡ 0 → (0 < varint_length p (at + 4) u) × (at + 4 + varint_length p (at + 4) u ≤ c.end))
          (eqb (varint_length p (at + 4) u) 0) _ _ (λ e z. absurd (omega arith)) (λ e z. (pos_of_ne-zero (eqb-false _ _ e), omega arith))

  -- an index page's cell or a table leaf's, by the varint w of its payload's length
  abbrev sized : List ℕ → Word → D.Cell
  sized b w = cond (eqb w.length 0) (refused_cell 23) (payload_cell b u type at w.bits (at + child_width type + w.length) (long_of w))

  sized_past : (w : Word) → (sized p w).fault ≡ 0 → (0 < w.length) × (at + child_width type + w.length ≤ (sized p w).end)
  sized_past w =
      by_cond (λ (c : D.Cell). c.fault ≡ 0 → (0 < w.length) × (at + child_width type + w.length ≤ c.end)) (eqb w.length 0) _ _
      (λ e z. absurd (omega arith))
      (λ e z. (pos_of_ne-zero (eqb-false _ _ e), payload-past p u type at w.bits (at + child_width type + w.length) (long_of w) z))

  sized-local : Near (sized p (varint_at p (at + child_width type) u))
      → sized q (varint_at q (at + child_width type) u) ≡ sized p (varint_at p (at + child_width type) u)
  sized-local g =
      let w = varint_at p (at + child_width type) u in
      ap (sized q)
      (varint-local p q (at + child_width type) u hp hq (λ i a l k. g i (omega arith) l (λ z. let r = sized_past w z in omega (arith, k r.0))))
      ∙ both Near (eqb w.length 0) _ _ _ _ (λ e n. refl)
      (λ e n. payload-local w.bits (at + child_width type + w.length) (long_of w) (omega arith) n) g

  pub cell-local : Near (cell_at p u type at) → cell_at q u type at ≡ cell_at p u type at
  unfolding cell_at
  cell-local =
      both Near (ltb u (at + child_width type)) _ _ _ _ (λ e g. refl)
      (λ e. both Near (eqb type table_interior) _ _ _ _
      (λ t. key-local (omega (arith, width-interior type (eqb-true _ _ t), ltb-false u (at + child_width type) e)))
      (λ t. sized-local))

  -- bytes at or past u are never read
  pub cell_below : ((i : ℕ) → i < u → byte_at p i ≡ byte_at q i) → cell_at q u type at ≡ cell_at p u type at
  cell_below g = cell-local (λ i a l k. g i l)

  -- nor is any byte outside a cell that was read
  pub cell-within : (cell_at p u type at).fault ≡ 0 → ((i : ℕ) → at ≤ i → i < (cell_at p u type at).end → byte_at p i ≡ byte_at q i)
      → cell_at q u type at ≡ cell_at p u type at
  cell-within z g = cell-local (λ i a l k. g i a (k z))
