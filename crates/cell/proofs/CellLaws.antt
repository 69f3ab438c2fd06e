-- Laws of every cell read, for callers: it is refused with 23 or 26, or all of this holds of it.
use Prim.Native.Nat.{ℕ, ◌+◌, ◌-◌, ◌*◌, ◌^◌, ◌<◌, ◌≤◌}
use mathlib.Core.Path.{◌≡◌, refl, sym, ap, ◌∙◌}
use mathlib.Core.List.{List}
use mathlib.Core.Logic.{◌⊎◌, inl, inr, ⊎_elim}
use lib.Dec.{ltb, eqb}
use native.Mathlib.Nat.{mod-lt, pos_of_ne-zero}
use native.Mathlib.Omega.{arith}
use borrow.Author.Tests.{ltb-false, eqb-true, eqb-false}
use Rattle.number.specs.Bytes.{byte_at, be, biased}
use Rattle.number.specs.Varint.{varint_at, varint_length, varint_bits, long_of}
use Rattle.number.proofs.BeLaws.{be-bound}
use Rattle.number.proofs.Cases.{by_cond}
use Rattle.number.proofs.VarintLaws.{varint-whole, long-one}
use Rattle.cell.specs.declared.Cell as D
use Rattle.cell.specs.Split.{table_interior, table_leaf, payload_limit, local_size}
use Rattle.cell.specs.Cell.{child_width, child_at, refused_cell, at_least4, local_end, first_at, over_limit, key_cell, body_cell, payload_cell}
use Rattle.cell.specs.Cell.{cell_at, cell_links}
use Rattle.cell.proofs.SplitLaws.{local-all, local-le, chain-bound, chain-none, chain-some, chain-holds, chain-needed}
use Rattle.cell.proofs.CellParts.{end-past, end_rest, least-4, least-end}

-- a cell c that was read at `at`
pub record CellRead (p : List ℕ) (u type at : ℕ) (c : D.Cell) : Type 0 where
  pub no-fault : c.fault ≡ 0
  -- it takes at least 4 bytes, all below u
  pub least : at + 4 ≤ c.end
  pub within : c.end ≤ u
  pub child-is : c.child ≡ child_at p type at
  pub limit : c.payload ≤ payload_limit
  pub local-is : c.local ≡ local_size u type c.payload
  pub part : c.local ≤ c.payload
  -- the local bytes lie in it, and so does the number of the chain's first page
  pub begins : 0 < c.local → at ≤ c.start
  pub ends : c.start + c.local ≤ c.end
  pub link-ends : c.local < c.payload → c.start + c.local + 4 ≤ c.end
  pub first-is : c.first ≡ first_at p c.start c.local c.payload
  pub row-bound : c.row < 2 ^ 64
  pub long-bound : c.long ≤ 2

abbrev pub Outcome : List ℕ → (u type at : ℕ) → D.Cell → Type 0
Outcome p u type at c = (c ≡ refused_cell 23) ⊎ ((c ≡ refused_cell 26) ⊎ CellRead p u type at c)

biased-bound : (bits : ℕ) → biased bits < 2 ^ 64
biased-bound bits = mod-lt (bits + 2 ^ 63) (omega arith)

child-bound : (p : List ℕ) (type at : ℕ) → ((i : ℕ) → byte_at p i < 256) → child_at p type at < 2 ^ 32
child-bound p type at bytes =
    by_cond (λ n. n < 2 ^ 32) (eqb (child_width type) 0) 0 (be 4 p at) (λ z. omega arith) (λ z. be-bound 4 p at bytes)

first-bound : (p : List ℕ) (start local P : ℕ) → ((i : ℕ) → byte_at p i < 256) → first_at p start local P < 2 ^ 32
first-bound p start local P bytes =
    by_cond (λ n. n < 2 ^ 32) (eqb local P) 0 (be 4 p (start + local)) (λ z. omega arith) (λ z. be-bound 4 p (start + local) bytes)

module _ (p : List ℕ) (u type at : ℕ) (h : 480 ≤ u) where
  body-cases : (P row start long : ℕ) → at ≤ start → P ≤ payload_limit → row < 2 ^ 64 → long ≤ 2
      → Outcome p u type at (body_cell p u type at P row start long)
  unfolding body_cell
  body-cases P row start long b l r m =
      by_cond (Outcome p u type at) (ltb u (at_least4 at (local_end start (local_size u type P) P))) _ _
      (λ e. inl refl)
      (λ e. inr (inr (record {
        no-fault = refl;
        least = least-4 at (local_end start (local_size u type P) P);
        within = ltb-false _ _ e;
        child-is = refl;
        limit = l;
        local-is = refl;
        part = local-le u type P h;
        begins = λ k. b;
        ends = omega (arith, end-past start (local_size u type P) P, least-end at (local_end start (local_size u type P) P));
        link-ends = λ k.
            omega (arith, end_rest start (local_size u type P) P (λ f. omega arith), least-end at (local_end start (local_size u type P) P));
        first-is = refl;
        row-bound = r;
        long-bound = m;
      })))

  payload-cases : (P next long : ℕ) → at ≤ next → long ≤ 1 → Outcome p u type at (payload_cell p u type at P next long)
  unfolding payload_cell
  payload-cases P next long b m =
      by_cond (Outcome p u type at) (over_limit P) _ _ (λ e. inr (inl refl))
      (λ e. by_cond (Outcome p u type at) (eqb type table_leaf) _ _
      (λ t. by_cond (Outcome p u type at) (eqb (varint_length p next u) 0) _ _ (λ n. inl refl)
      (λ n. body-cases P (biased (varint_bits p next u)) (next + varint_length p next u) (long + long_of (varint_at p next u)) (omega arith)
      (ltb-false _ _ e) (biased-bound (varint_bits p next u))
      (omega (arith, long-one (varint_at p next u)))))
      (λ t. body-cases P 0 next long b (ltb-false _ _ e) (omega arith) (omega arith)))

  key-cases : type ≡ table_interior → Outcome p u type at (key_cell p u at)
  key-cases t =
      by_cond (Outcome p u type at) (eqb (varint_length p (at + 4) u) 0) _ _ (λ n. inl refl)
      (λ n.
      let w = varint-whole p (at + 4) u (pos_of_ne-zero (eqb-false _ _ n)) in
      inr (inr (record {
        no-fault = refl;
        least = omega arith;
        within = w.ends;
        child-is = rw t;
        limit = omega arith;
        local-is = local-all u type 0 (omega arith);
        part = omega arith;
        begins = λ k. omega arith;
        ends = omega arith;
        link-ends = λ k. omega arith;
        first-is = refl;
        row-bound = biased-bound (varint_bits p (at + 4) u);
        long-bound = omega (arith, long-one (varint_at p (at + 4) u));
      })))

  pub cell-cases : Outcome p u type at (cell_at p u type at)
  unfolding cell_at
  cell-cases =
      by_cond (Outcome p u type at) (ltb u (at + child_width type)) _ _ (λ e. inl refl)
      (λ e. by_cond (Outcome p u type at) (eqb type table_interior) _ _ (λ t. key-cases (eqb-true _ _ t))
      (λ t. by_cond (Outcome p u type at) (eqb (varint_length p (at + child_width type) u) 0) _ _ (λ n. inl refl)
      (λ n. payload-cases (varint_bits p (at + child_width type) u) (at + child_width type + varint_length p (at + child_width type) u)
      (long_of (varint_at p (at + child_width type) u)) (omega arith) (long-one (varint_at p (at + child_width type) u)))))

  -- no fault: it was read
  pub cell-read : (cell_at p u type at).fault ≡ 0 → CellRead p u type at (cell_at p u type at)
  cell-read z =
      ⊎_elim (λ e. absurd (omega (arith, ap (λ (c : D.Cell). c.fault) e)))
      (⊎_elim (λ e. absurd (omega (arith, ap (λ (c : D.Cell). c.fault) e))) (λ r. r)) cell-cases

  -- a fault is 23 or 26, and leaves the other fields 0
  pub cell-fault : ((cell_at p u type at).fault ≡ 0) ⊎ (((cell_at p u type at).fault ≡ 23) ⊎ ((cell_at p u type at).fault ≡ 26))
  cell-fault =
      ⊎_elim (λ e. inr (inl (ap (λ (c : D.Cell). c.fault) e)))
      (⊎_elim (λ e. inr (inr (ap (λ (c : D.Cell). c.fault) e))) (λ r. inl r.no-fault)) cell-cases

  pub cell-refused : ((cell_at p u type at).fault ≡ 0 → ⊥) → cell_at p u type at ≡ refused_cell (cell_at p u type at).fault
  cell-refused z =
      ⊎_elim (λ e. e ∙ ap refused_cell (sym (ap (λ (c : D.Cell). c.fault) e)))
      (⊎_elim (λ e. e ∙ ap refused_cell (sym (ap (λ (c : D.Cell). c.fault) e))) (λ r. absurd (z r.no-fault))) cell-cases

  -- a cell counts twice at most, and one that is refused not at all
  pub cell-long : (cell_at p u type at).long ≤ 2
  cell-long =
      ⊎_elim (λ e. omega (arith, ap (λ (c : D.Cell). c.long) e))
      (⊎_elim (λ e. omega (arith, ap (λ (c : D.Cell). c.long) e)) (λ r. r.long-bound)) cell-cases

  -- page numbers of bytes are below 2^32
  pub cell-child-bound : ((i : ℕ) → byte_at p i < 256) → (cell_at p u type at).child < 2 ^ 32
  cell-child-bound bytes =
      ⊎_elim (λ e. omega (arith, ap (λ (c : D.Cell). c.child) e))
      (⊎_elim (λ e. omega (arith, ap (λ (c : D.Cell). c.child) e)) (λ r. omega (arith, r.child-is, child-bound p type at bytes))) cell-cases

  pub cell-first-bound : ((i : ℕ) → byte_at p i < 256) → (cell_at p u type at).first < 2 ^ 32
  cell-first-bound bytes =
      let c = cell_at p u type at in
      ⊎_elim (λ e. omega (arith, ap (λ (c : D.Cell). c.first) e))
      (⊎_elim (λ e. omega (arith, ap (λ (c : D.Cell). c.first) e))
      (λ r. omega (arith, r.first-is, first-bound p c.start c.local c.payload bytes))) cell-cases

-- the overflow pages of a cell that was read: at most 138, none where all is local, and together they hold just the rest
module _ {p : List ℕ} {u type at : ℕ} {c : D.Cell} (h : 480 ≤ u) (r : CellRead p u type at c) where
  pub links-bound : cell_links u c ≤ 138
  links-bound = chain-bound u (c.payload - c.local) h (omega (arith, r.limit))

  pub links-none : c.local ≡ c.payload → cell_links u c ≡ 0
  links-none e = let z : c.payload - c.local ≡ 0 = omega arith in rw z (chain-none u h)

  pub links-some : c.local < c.payload → 0 < cell_links u c
  links-some l = chain-some u (c.payload - c.local) h (omega arith)

  pub links-hold : c.payload ≤ c.local + cell_links u c * (u - 4)
  links-hold = omega (arith, chain-holds u (c.payload - c.local) h)

  pub links-needed : c.local < c.payload → c.local + (cell_links u c - 1) * (u - 4) < c.payload
  links-needed l = omega (arith, chain-needed u (c.payload - c.local) h (omega arith))
