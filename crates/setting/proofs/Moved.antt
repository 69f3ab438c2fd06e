-- A table leaf's cell that was read says the same wherever its bytes stand.
--     Formed, formed    the varints of a cell that was read, and the cell by them
--     cell-moved        the same bytes at another place of another page: the same cell there, moved
use Prim.Native.Nat.{ℕ, ◌+◌, ◌-◌, ◌<◌, ◌≤◌}
use mathlib.Core.Path.{◌≡◌, refl, sym, ap, subst, ◌∙◌}
use mathlib.Core.Bool.{Bool, true, false, cond}
use mathlib.Core.Logic.{◌≢◌}
use mathlib.Core.List.{List}
use lib.Dec.{ltb, eqb}
use lib.ListN.{length}
use native.Mathlib.Nat.{add-zero, pos_of_ne-zero}
use native.Mathlib.Omega.{arith}
use borrow.Author.Tests.{ltb-true, ltb-false, eqb-false, le-ltb, ne_eqb}
use Rattle.number.specs.Bytes.{byte_at, be, biased}
use Rattle.number.specs.Varint.{varint_at, varint_length, long_of}
use Rattle.number.specs.declared.Word.{Word}
use Rattle.number.proofs.BeLaws.{be-same}
use Rattle.number.proofs.Laws.{reads-own-bytes}
use Rattle.cell.specs.declared.Cell as D
use Rattle.cell.specs.Split.{table_leaf, payload_limit, local_size}
use Rattle.cell.specs.Cell.{refused_cell, at_least4, local_end, first_at, over_limit, body_cell, payload_cell, cell_at}
use Rattle.cell.proofs.CellParts.{end-past, end_rest, least-end}

-- ---- a table leaf's cell, step by step
abbrev body_end : (u at P start : ℕ) → ℕ
body_end u at P start = at_least4 at (local_end start (local_size u table_leaf P) P)

abbrev body_is : List ℕ → (u at P row start long : ℕ) → D.Cell
body_is p u at P row start long =
    record {
      fault = 0;
      child = 0;
      payload = P;
      row = row;
      start = start;
      local = local_size u table_leaf P;
      first = first_at p start (local_size u table_leaf P) P;
      end = body_end u at P start;
      long = long;
    }

body-form : (p : List ℕ) (u at P row start long : ℕ)
    → body_cell p u table_leaf at P row start long ≡ cond (ltb u (body_end u at P start)) (refused_cell 23) (body_is p u at P row start long)
unfolding body_cell
body-form p u at P row start long = refl

abbrev rowed : List ℕ → (u at P next long : ℕ) → Word → D.Cell
rowed p u at P next long w =
    cond (eqb w.length 0) (refused_cell 23) (body_cell p u table_leaf at P (biased w.bits) (next + w.length) (long + long_of w))

payload-form : (p : List ℕ) (u at P next long : ℕ)
    → payload_cell p u table_leaf at P next long ≡ cond (over_limit P) (refused_cell 26) (rowed p u at P next long (varint_at p next u))
unfolding payload_cell
payload-form p u at P next long = refl

abbrev sized : List ℕ → (u at : ℕ) → Word → D.Cell
sized p u at v = cond (eqb v.length 0) (refused_cell 23) (payload_cell p u table_leaf at v.bits (at + v.length) (long_of v))

leaf-form : (p : List ℕ) (u at : ℕ) → cell_at p u table_leaf at ≡ cond (ltb u at) (refused_cell 23) (sized p u at (varint_at p at u))
unfolding cell_at
leaf-form p u at = rw (add-zero at) refl

-- a test that would have refused did not
passed : (t : Bool) (n : ℕ) (c : D.Cell) → n ≢ 0 → (cond t (refused_cell n) c).fault ≡ 0 → (t ≡ false) × (cond t (refused_cell n) c ≡ c)
passed true n c z e = absurd (z e)
passed false n c z e = (refl, refl)

fault-of : (x y : D.Cell) → x ≡ y → x.fault ≡ 0 → y.fault ≡ 0
fault-of x y e z = subst (λ (c : D.Cell). c.fault ≡ 0) e z

-- the cell at `at` by its two varints
abbrev pub cell_by : List ℕ → (u at : ℕ) (v w : Word) → D.Cell
cell_by p u at v w = body_is p u at v.bits (biased w.bits) (at + v.length + w.length) (long_of v + long_of w)

pub record Formed (p : List ℕ) (u at : ℕ) (v w : Word) : Type 0 where
  pub length_is : varint_at p at u ≡ v
  pub row_is : varint_at p (at + v.length) u ≡ w
  pub low : at ≤ u
  pub some : v.length ≢ 0
  pub limit : v.bits ≤ payload_limit
  pub more : w.length ≢ 0
  pub ends : body_end u at v.bits (at + v.length + w.length) ≤ u

-- such varints make the cell
pub formed-cell : (p : List ℕ) (u at : ℕ) (v w : Word) → Formed p u at v w → cell_at p u table_leaf at ≡ cell_by p u at v w
formed-cell p u at v w f =
    let P = v.bits in
    let next = at + v.length in
    leaf-form p u at
    ∙ ap (λ (t : Bool). cond t (refused_cell 23) (sized p u at (varint_at p at u))) (le-ltb u at f.low)
    ∙ ap (sized p u at) f.length_is
    ∙ ap (λ (t : Bool). cond t (refused_cell 23) (payload_cell p u table_leaf at P next (long_of v))) (ne_eqb v.length 0 f.some)
    ∙ payload-form p u at P next (long_of v)
    ∙ ap (λ (t : Bool). cond t (refused_cell 26) (rowed p u at P next (long_of v) (varint_at p next u))) (le-ltb payload_limit P f.limit)
    ∙ ap (rowed p u at P next (long_of v)) f.row_is
    ∙ ap (λ (t : Bool). cond t (refused_cell 23) (body_cell p u table_leaf at P (biased w.bits) (next + w.length) (long_of v + long_of w)))
    (ne_eqb w.length 0 f.more)
    ∙ body-form p u at P (biased w.bits) (next + w.length) (long_of v + long_of w)
    ∙ ap (λ (t : Bool). cond t (refused_cell 23) (cell_by p u at v w)) (le-ltb u (body_end u at P (next + w.length)) f.ends)

-- and a cell that was read has such
pub formed : (p : List ℕ) (u at : ℕ) → (cell_at p u table_leaf at).fault ≡ 0
    → Formed p u at (varint_at p at u) (varint_at p (at + varint_length p at u) u)
formed p u at z =
    let v = varint_at p at u in
    let next = at + v.length in
    let w = varint_at p next u in
    let a = passed (ltb u at) 23 (sized p u at v) (λ e. omega arith) (fault-of _ _ (leaf-form p u at) z) in
    let za : (sized p u at v).fault ≡ 0 = fault-of _ _ (leaf-form p u at ∙ a.1) z in
    let pay = payload_cell p u table_leaf at v.bits next (long_of v) in
    let b = passed (eqb v.length 0) 23 pay (λ e. omega arith) za in
    let zb : pay.fault ≡ 0 = fault-of _ _ b.1 za in
    let row = rowed p u at v.bits next (long_of v) w in
    let zc : (cond (over_limit v.bits) (refused_cell 26) row).fault ≡ 0 = fault-of _ _ (payload-form p u at v.bits next (long_of v)) zb in
    let c = passed (over_limit v.bits) 26 row (λ e. omega arith) zc in
    let zd : row.fault ≡ 0 = fault-of _ _ c.1 zc in
    let body = body_cell p u table_leaf at v.bits (biased w.bits) (next + w.length) (long_of v + long_of w) in
    let e = passed (eqb w.length 0) 23 body (λ e. omega arith) zd in
    let ze : body.fault ≡ 0 = fault-of _ _ e.1 zd in
    let zf = fault-of _ _ (body-form p u at v.bits (biased w.bits) (next + w.length) (long_of v + long_of w)) ze in
    let h = passed (ltb u (body_end u at v.bits (next + w.length))) 23 (cell_by p u at v w) (λ e. omega arith) zf in
    record {
      length_is = refl;
      row_is = refl;
      low = ltb-false _ _ a.0;
      some = eqb-false _ _ b.0;
      limit = ltb-false _ _ c.0;
      more = eqb-false _ _ e.0;
      ends = ltb-false _ _ h.0;
    }

-- ---- moved
-- y is x, moved from `at` to `to`
pub record MovedCell (x y : D.Cell) (at to : ℕ) : Type 0 where
  pub fault : y.fault ≡ x.fault
  pub child : y.child ≡ x.child
  pub payload : y.payload ≡ x.payload
  pub row : y.row ≡ x.row
  pub local : y.local ≡ x.local
  pub first : y.first ≡ x.first
  pub long : y.long ≡ x.long
  pub start : y.start + at ≡ x.start + to
  pub end : y.end + at ≡ x.end + to

end_moved : (at to start local P : ℕ) → at ≤ start
    → at_least4 to (local_end (to + (start - at)) local P) + at ≡ at_least4 at (local_end start local P) + to
end_moved at to start local P h = go (eqb local P)
  where
    least : (e e' : ℕ) → e' + at ≡ e + to → at_least4 to e' + at ≡ at_least4 at e + to
    least e e' k = by (ltb e' (to + 4)) refl (ltb e (at + 4)) refl
      where
        by : (x : Bool) → ltb e' (to + 4) ≡ x → (y : Bool) → ltb e (at + 4) ≡ y → cond x (to + 4) e' + at ≡ cond y (at + 4) e + to
        by true a true b = omega arith
        by false a false b = k
        by true a false b = omega (arith, ltb-true e' (to + 4) a, ltb-false e (at + 4) b)
        by false a true b = omega (arith, ltb-false e' (to + 4) a, ltb-true e (at + 4) b)

    go : (t : Bool) → at_least4 to (cond t (to + (start - at) + local) (to + (start - at) + local + 4)) + at
        ≡ at_least4 at (cond t (start + local) (start + local + 4)) + to
    go true = least (start + local) (to + (start - at) + local) (omega arith)
    go false = least (start + local + 4) (to + (start - at) + local + 4) (omega arith)

module _ (p q : List ℕ) (u at to : ℕ) (hq : u ≤ length q) (z : (cell_at p u table_leaf at).fault ≡ 0)
    (room : to + ((cell_at p u table_leaf at).end - at) ≤ u)
    (same : (i : ℕ) → i < (cell_at p u table_leaf at).end - at → byte_at q (to + i) ≡ byte_at p (at + i)) where
  abbrev v : Word
  v = varint_at p at u

  abbrev w : Word
  w = varint_at p (at + v.length) u

  f : Formed p u at v w
  f = formed p u at z

  abbrev P : ℕ
  P = v.bits

  abbrev start : ℕ
  start = at + v.length + w.length

  abbrev local : ℕ
  local = local_size u table_leaf P

  cell_is : cell_at p u table_leaf at ≡ cell_by p u at v w
  cell_is = formed-cell p u at v w f

  end_is : (cell_at p u table_leaf at).end ≡ body_end u at P start
  end_is = ap (λ (c : D.Cell). c.end) cell_is

  ends-past : start + local ≤ body_end u at P start
  ends-past = omega (arith, end-past start local P, least-end at (local_end start local P))

  length-there : varint_at q to u ≡ v
  length-there =
      reads-own-bytes p q at to u u (pos_of_ne-zero f.some) (λ i l. same i (omega (arith, end_is, ends-past)))
      (omega (arith, end_is, ends-past)) (omega (arith, end_is, ends-past))

  row-there : varint_at q (to + v.length) u ≡ w
  row-there =
      reads-own-bytes p q (at + v.length) (to + v.length) u u (pos_of_ne-zero f.more)
      (λ i l. let e : to + v.length + i ≡ to + (v.length + i) = omega arith in let e' : at + (v.length + i) ≡ at + v.length + i = omega arith in
      ap (byte_at q) e ∙ same (v.length + i) (omega (arith, end_is, ends-past)) ∙ ap (byte_at p) e')
      (omega (arith, end_is, ends-past)) (omega (arith, end_is, ends-past))

  end-there : body_end u to P (to + v.length + w.length) + at ≡ body_end u at P start + to
  end-there =
      let e : to + (start - at) ≡ to + v.length + w.length = omega arith in
      subst (λ k. at_least4 to (local_end k local P) + at ≡ body_end u at P start + to) e (end_moved at to start local P (omega arith))

  there : Formed q u to v w
  there =
      record {
        length_is = length-there;
        row_is = row-there;
        low = omega arith;
        some = f.some;
        limit = f.limit;
        more = f.more;
        ends = omega (arith, end-there, end_is);
      }

  pub moved-is : cell_at q u table_leaf to ≡ cell_by q u to v w
  moved-is = formed-cell q u to v w there

  first-there : first_at q (to + v.length + w.length) local P ≡ first_at p start local P
  first-there = go (eqb local P) refl
    where
      go : (t : Bool) → eqb local P ≡ t → cond t 0 (be 4 q (to + v.length + w.length + local)) ≡ cond t 0 (be 4 p (start + local))
      go true e = refl
      go false e =
          let r = end_rest start local P (eqb-false _ _ e) in
          let n = least-end at (local_end start local P) in
          be-same 4 q p (to + v.length + w.length + local) (start + local)
          (λ i l. let x : to + v.length + w.length + local + i ≡ to + (v.length + w.length + local + i) = omega arith in
          let y : at + (v.length + w.length + local + i) ≡ start + local + i = omega arith in
          ap (byte_at q) x ∙ same (v.length + w.length + local + i) (omega (arith, end_is, r, n)) ∙ ap (byte_at p) y)

  pub cell-moved : MovedCell (cell_at p u table_leaf at) (cell_at q u table_leaf to) at to
  cell-moved =
      subst (λ (c : D.Cell). MovedCell c (cell_at q u table_leaf to) at to) (sym cell_is)
      (subst (λ (c : D.Cell). MovedCell (cell_by p u at v w) c at to) (sym moved-is)
      (record {
        fault = refl;
        child = refl;
        payload = refl;
        row = refl;
        local = refl;
        first = first-there;
        long = refl;
        start = omega arith;
        end = end-there;
      }))

-- the payload begins at the cell's place or past it
pub start-low : (p : List ℕ) (u at : ℕ) → (cell_at p u table_leaf at).fault ≡ 0 → at ≤ (cell_at p u table_leaf at).start
start-low p u at z =
    let v = varint_at p at u in
    let w = varint_at p (at + v.length) u in
    let e : (cell_at p u table_leaf at).start ≡ at + v.length + w.length =
    ap (λ (c : D.Cell). c.start) (formed-cell p u at v w (formed p u at z)) in
    omega arith
