-- The numbers of a cell that was read: which varints they are, and how few bytes show that none is spelled long.
use Prim.Native.Nat.{ℕ, suc, ◌+◌, ◌-◌, ◌<◌, ◌≤◌}
use mathlib.Core.Path.{◌≡◌, refl, sym, ap, ◌∙◌}
use mathlib.Core.List.{List}
use mathlib.Core.Logic.{⊎_elim}
use lib.Dec.{ltb, eqb}
use native.Mathlib.Nat.{pos_of_ne-zero}
use native.Mathlib.Omega.{arith}
use borrow.Author.Tests.{eqb-true, eqb-false, ltb-false}
use Rattle.number.specs.Bytes.{byte_at, biased}
use Rattle.number.specs.Varint.{varint_at, varint_length, varint_bits, long_of}
use Rattle.number.proofs.Cases.{by_cond}
use Rattle.number.proofs.VarintLaws.{varint-whole}
use Rattle.number.proofs.Laws.{first-not-long, one_byte, two_bytes}
use Rattle.cell.specs.declared.Cell as D
use Rattle.cell.specs.Split.{table_interior, table_leaf, local_size}
use Rattle.cell.specs.Cell.{child_width, refused_cell, at_least4, local_end, over_limit, key_cell, body_cell, payload_cell, cell_at}

module _ (p : List ℕ) (u type at : ℕ) where
  -- the first number: the payload's length, or a key
  abbrev pub lead : ℕ
  lead = at + child_width type

  -- a table leaf's row number stands behind it
  abbrev pub second : ℕ
  second = lead + varint_length p lead u

  -- the numbers of a cell c that was read
  pub record Numbers (c : D.Cell) : Type 0 where
    pub some : 0 < varint_length p lead u
    pub row : type ≡ table_leaf → 0 < varint_length p second u
    pub leaf : type ≡ table_leaf → c.long ≡ long_of (varint_at p lead u) + long_of (varint_at p second u)
    pub other : (type ≡ table_leaf → ⊥) → c.long ≡ long_of (varint_at p lead u)

  abbrev Told : D.Cell → Type 0
  Told c = c.fault ≡ 0 → Numbers c

  body-long : (P row start long : ℕ) → (body_cell p u type at P row start long).fault ≡ 0 → (body_cell p u type at P row start long).long ≡ long
  unfolding body_cell
  body-long P row start long =
      by_cond (λ (c : D.Cell). c.fault ≡ 0 → c.long ≡ long) (ltb u (at_least4 at (local_end start (local_size u type P) P))) _ _
      (λ e z. absurd (omega arith)) (λ e z. refl)

  payload-told : 0 < varint_length p lead u → (P : ℕ) → Told (payload_cell p u type at P second (long_of (varint_at p lead u)))
  unfolding payload_cell
  payload-told g P =
      by_cond Told (over_limit P) _ _ (λ e z. absurd (omega arith))
      (λ e. by_cond Told (eqb type table_leaf) _ _
      (λ t. by_cond Told (eqb (varint_length p second u) 0) _ _ (λ n z. absurd (omega arith))
      (λ n z. record {
        some = g;
        row = λ k. pos_of_ne-zero (eqb-false _ _ n);
        leaf = λ k. body-long P (biased (varint_bits p second u)) (second + varint_length p second u)
            (long_of (varint_at p lead u) + long_of (varint_at p second u)) z;
        other = λ k. absurd (k (eqb-true _ _ t));
      }))
      (λ t z. record {
        some = g;
        row = λ k. absurd (eqb-false _ _ t k);
        leaf = λ k. absurd (eqb-false _ _ t k);
        other = λ k. body-long P 0 second (long_of (varint_at p lead u)) z;
      }))

  key-told : type ≡ table_interior → Told (key_cell p u at)
  key-told t =
      by_cond Told (eqb (varint_length p (at + 4) u) 0) _ _ (λ n z. absurd (omega arith))
      (λ n z. record {
        some = rw t (pos_of_ne-zero (eqb-false _ _ n));
        row = λ k. absurd (omega arith);
        leaf = λ k. absurd (omega arith);
        other = λ k. rw t refl;
      })

  pub cell-numbers : (cell_at p u type at).fault ≡ 0 → Numbers (cell_at p u type at)
  unfolding cell_at
  cell-numbers =
      by_cond Told (ltb u (at + child_width type)) _ _ (λ e z. absurd (omega arith))
      (λ e. by_cond Told (eqb type table_interior) _ _ (λ t. key-told (eqb-true _ _ t))
      (λ t. by_cond Told (eqb (varint_length p lead u) 0) _ _ (λ n z. absurd (omega arith))
      (λ n. payload-told (pos_of_ne-zero (eqb-false _ _ n)) (varint_bits p lead u))))

  -- none is spelled long where none begins with 80; the first number of a table leaf's cell is looked at where it has one or two bytes
  module _ (z : (cell_at p u type at).fault ≡ 0) where
    pub lead-inside : lead < u
    lead-inside = let n = cell-numbers z in omega (arith, n.some, (varint-whole p lead u n.some).ends)

    pub quick-other : (type ≡ table_leaf → ⊥) → (byte_at p lead ≡ 128 → ⊥) → (cell_at p u type at).long ≡ 0
    quick-other t h = let n = cell-numbers z in n.other t ∙ first-not-long p lead u n.some h

    row-short : type ≡ table_leaf → (k : ℕ) → varint_length p at u ≡ k → (byte_at p at ≡ 128 → ⊥) → (byte_at p (at + k) ≡ 128 → ⊥)
        → (cell_at p u type at).long ≡ 0
    row-short t k e h l =
        let n = cell-numbers z in
        let a : lead ≡ at = rw t (omega arith) in
        let b : second ≡ at + k = omega (arith, a, e, ap (λ (i : ℕ). varint_length p i u) a) in
        let x = first-not-long p lead u n.some (λ f. h (ap (byte_at p) (sym a) ∙ f)) in
        let y = first-not-long p second u (n.row t) (λ f. l (ap (byte_at p) (sym b) ∙ f)) in
        omega (arith, n.leaf t, x, y)

    at_some : type ≡ table_leaf → 0 < varint_length p at u
    at_some t = let n = cell-numbers z in let a : lead ≡ at = rw t (omega arith) in omega (arith, n.some, ap (λ (i : ℕ). varint_length p i u) a)

    pub quick-one : type ≡ table_leaf → byte_at p at < 128 → (byte_at p (at + 1) ≡ 128 → ⊥) → (cell_at p u type at).long ≡ 0
    quick-one t h l = row-short t 1 (one_byte p at u (at_some t) h) (λ e. omega (arith, e)) l

    pub quick-two : type ≡ table_leaf → 128 < byte_at p at → byte_at p (at + 1) < 128 → (byte_at p (at + 2) ≡ 128 → ⊥) → (cell_at p u type at).long ≡ 0
    quick-two t h k l = row-short t 2 (two_bytes p at u (at_some t) (omega arith) k) (λ e. omega (arith, e)) l
