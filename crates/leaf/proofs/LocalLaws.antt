-- A cell whose payload lies on its page, from what its parts gave.
use Prim.Native.Nat.{ℕ, ◌+◌, ◌-◌, ◌<◌, ◌≤◌}
use mathlib.Core.Path.{◌≡◌, refl, sym, ap, ◌∙◌}
use mathlib.Core.List.{List}
use mathlib.Core.Logic.{⊎_elim}
use lib.Dec.{eqb, ltb}
use native.Mathlib.Nat.{pos_of_ne-zero}
use native.Mathlib.Omega.{arith}
use borrow.Author.Tests.{le-ltb, eq-eqb, ltb-true, eqb-true, eqb-false}
use Rattle.number.specs.Bytes.{biased}
use Rattle.number.specs.Varint.{varint_at, varint_length, varint_bits, long_of}
use Rattle.number.specs.declared.Word.{Word}
use Rattle.number.proofs.Cases.{by_cond, true-or-false}
use Rattle.number.proofs.VarintLaws.{varint-whole}
use Rattle.cell.specs.declared.Cell as D
use Rattle.cell.specs.Split.{table_interior, index_leaf, table_leaf, max_local, local_size, payload_limit}
use Rattle.cell.specs.Cell.{child_width, at_least4, local_end, over_limit, body_cell, payload_cell, cell_at}
use Rattle.cell.proofs.SplitLaws.{local-all}
use Rattle.leaf.specs.Whole.{LeafType, LocalAt}
use Rattle.leaf.specs.Parts.{RowAt, Begins}

-- the longest local payload is within the limit
pub most-bound : (u type : ℕ) → u ≤ 65536 → max_local u type ≤ payload_limit
most-bound u type h = by_cond (λ n. n ≤ payload_limit) (eqb type table_leaf) (u - 35) _ (λ e. omega arith) (λ e. omega arith)

-- a varint that is not short ends at or before the end
pub word-ends : (p : List ℕ) (at end : ℕ) (w : Word) → w ≡ varint_at p at end → (w.length ≡ 0 → ⊥) → at + w.length ≤ end
word-ends p at end w e h = rw e (varint-whole p at end (rw e at (pos_of_ne-zero h))).ends

pub begun-row : (p : List ℕ) (u type from row : ℕ) (w : Word) → type ≡ table_leaf → (w.length ≡ 0 → ⊥) → w ≡ varint_at p from u → long_of w ≡ 0
    → row ≡ biased w.bits → Begins p u type from (from + w.length) row
begun-row p u type from row w t some e short number = record {
  after = omega arith;
  within = word-ends p from u w e some;
  table = λ t. record { some = rw e at some; short = rw e at short; ends = ap (λ (w : Word). from + w.length) e; number = rw e at number };
  index = λ n. absurd (n t);
}

begun-width : {p : List ℕ} {u type from start row : ℕ} → Begins p u type from start row → (child_width type ≡ 0) × (type ≡ table_interior → ⊥)
begun-width {type = type} b =
    ⊎_elim
    (λ e. let t : type ≡ table_leaf = eqb-true _ _ e in (rw t, λ z. omega arith))
    (λ e. let t : type ≡ index_leaf = (b.index (eqb-false _ _ e)).0 in (rw t, λ z. omega arith))
    (true-or-false (eqb type table_leaf))

-- the payload's length is w, and all of the payload lies on the page
module _ (p : List ℕ) (u type at : ℕ) (small : u ≤ 65536) (w : Word) (some : w.length ≡ 0 → ⊥) (is-w : w ≡ varint_at p at u) (short : long_of w ≡ 0)
    (local : w.bits ≤ max_local u type) (start row : ℕ) (b : Begins p u type (at + w.length) start row)
    (within : start + w.bits ≤ u) (least : at + 4 ≤ start + w.bits) where
  abbrev Good : D.Cell → Type 0
  Good c =
      (c.fault ≡ 0) × (c.long ≡ 0) × (c.end ≡ at + (start + w.bits - at)) × (c.row ≡ row)
      × (c.local ≡ c.payload) × (c.start ≡ start) × (c.payload ≡ w.bits)

  all : local_size u type w.bits ≡ w.bits
  all = sym (local-all u type w.bits local)

  ends : at_least4 at (local_end start (local_size u type w.bits) w.bits) ≡ start + w.bits
  ends = rw all (simp (eq-eqb w.bits w.bits refl, le-ltb (start + w.bits) (at + 4) least))

  body-good : Good (body_cell p u type at w.bits row start 0)
  unfolding body_cell
  body-good =
      by_cond Good (ltb u (at_least4 at (local_end start (local_size u type w.bits) w.bits))) _ _
      (λ e. absurd (omega (arith, ltb-true u _ e, ends)))
      (λ e. (refl, refl, omega (arith, ends, least), refl, all, refl, refl))

  body_is : (row' start' long : ℕ) → row ≡ row' → start ≡ start' → 0 ≡ long → Good (body_cell p u type at w.bits row' start' long)
  body_is row' start' long e f g = rw (← e, ← f, ← g) body-good

  payload-good : Good (payload_cell p u type at w.bits (at + w.length) 0)
  unfolding payload_cell
  payload-good =
      by_cond Good (over_limit w.bits) _ _ (λ e. absurd (omega (arith, ltb-true payload_limit w.bits e, most-bound u type small)))
      (λ e. by_cond Good (eqb type table_leaf) _ _
      (λ t.
      let r = b.table (eqb-true _ _ t) in
      by_cond Good (eqb (varint_length p (at + w.length) u) 0) _ _ (λ z. absurd (r.some (eqb-true _ _ z)))
      (λ z. body_is _ _ _ r.number r.ends (let k : 0 ≡ 0 + long_of (varint_at p (at + w.length) u) = omega (arith, r.short) in k)))
      (λ t. let r = b.index (eqb-false _ _ t) in body_is _ _ _ r.2 r.1 refl))

  lead : at ≡ at + child_width type
  lead = omega (arith, (begun-width b).0)

  lead_is : w ≡ varint_at p (at + child_width type) u
  lead_is = is-w ∙ ap (λ i. varint_at p i u) lead

  payload-is : (v : Word) (long : ℕ) → w ≡ v → 0 ≡ long → Good (payload_cell p u type at v.bits (at + child_width type + v.length) long)
  payload-is v long e f = rw (← e, ← f, ← lead) payload-good

  cell-good : Good (cell_at p u type at)
  unfolding cell_at
  cell-good =
      by_cond Good (ltb u (at + child_width type)) _ _ (λ e. absurd (omega (arith, ltb-true u (at + child_width type) e, lead)))
      (λ e. by_cond Good (eqb type table_interior) _ _ (λ t. absurd ((begun-width b).1 (eqb-true _ _ t)))
      (λ t. by_cond Good (eqb (varint_length p (at + child_width type) u) 0) _ _
      (λ z. absurd (some (ap (λ (w : Word). w.length) lead_is ∙ eqb-true _ _ z)))
      (λ z. payload-is (varint_at p (at + child_width type) u) (long_of (varint_at p (at + child_width type) u)) lead_is (sym short ∙ ap long_of lead_is))))

  pub local-is : LocalAt p u type at (start + w.bits - at) row start w.bits
  local-is =
      let g = cell-good in
      record { taken = record { fault = g.0; short = g.1; end = g.2; number = g.3 }; local = g.4; begins = g.5; payload = g.6 }
