-- The ith cell's refusal, test by test.
-- Assumes nothing.
use mathlib.Core.Path.{◌≡◌, refl, sym, ap, ◌∙◌}
use mathlib.Core.List.{List}
use Prim.Native.Nat.{ℕ, ◌+◌, ◌*◌, ◌≤◌, ◌<◌}
use native.Mathlib.Omega.{arith}
use borrow.Author.Tests.{lt-ltb, le-ltb, le-leb, lt-leb, eq-eqb, ne_eqb}
use mathlib.Core.Logic.{⊎_elim}
use lib.ListN.{length}
use Rattle.number.specs.Bytes.{byte_at, be}
use Rattle.number.specs.declared.Word.{Word}
use Rattle.number.specs.Varint.{varint_at, varint_length}
use Rattle.number.proofs.Cases.{lt-or-ge}
use Rattle.number.proofs.VarintSteps.{word-last}
use Rattle.number.proofs.VarintLaws.{varint-past}
use Rattle.cell.specs.declared.Cell.{Cell}
use Rattle.cell.specs.Split.{table_interior}
use Rattle.cell.specs.Cell.{cell_at, key_cell, refused_cell}
use Rattle.cell.proofs.CellLaws.{cell-read, cell-fault}
use Rattle.page.specs.Header.{content_start, pointer_place, pointer, cell_of}
use Rattle.page.specs.Fault.{cell_fault}
use Rattle.page.specs.Steps.{Opened, Extends, KeyExtends}

-- a cell of a table interior page: a child, then a key
module _ (p : List ℕ) (u at : ℕ) where
  key-refused : cell_at p u table_interior at ≡ refused_cell 23 → KeyExtends p u at 23 at 0
  key-refused e = record {
    fault = ap (λ (c : Cell). c.fault) (sym e);
    place = refl;
    end = ap (λ (c : Cell). c.end) (sym e);
  }

  is_key : at + 4 ≤ u → cell_at p u table_interior at ≡ key_cell p u at
  unfolding cell_at
  is_key h = rw (le-ltb u (at + 4) h)

  key-none : at + 4 ≤ u → varint_length p (at + 4) u ≡ 0 → KeyExtends p u at 23 at 0
  key-none h z = key-refused (is_key h ∙ rw (eq-eqb (varint_length p (at + 4) u) 0 z))

  pub key-past : u ≤ at + 4 → KeyExtends p u at 23 at 0
  unfolding cell_at
  key-past h =
      ⊎_elim (λ (l : u < at + 4). key-refused (rw (lt-ltb u (at + 4) l)))
      (λ (l : at + 4 ≤ u). key-none l (ap (λ (w : Word). w.length) (varint-past p (at + 4) u h)))
      (lt-or-ge u (at + 4))

  module _ (inside : at + 4 < u) where
    module _ (n : ℕ) (is : n ≡ varint_length p (at + 4) u) where
      pub key-short : n ≡ 0 → KeyExtends p u at 23 at 0
      key-short z = key-none (omega arith) (sym is ∙ z)

      pub key-ends : (n ≡ 0 → ⊥) → KeyExtends p u at 0 at (at + 4 + n)
      key-ends some =
          let read = is_key (omega arith) in
          let full = ne_eqb (varint_length p (at + 4) u) 0 (λ z. some (is ∙ z)) in
          let no-fault : 0 ≡ (key_cell p u at).fault = rw full in
          let stop : at + 4 + varint_length p (at + 4) u ≡ (key_cell p u at).end = rw full in
          record {
            fault = no-fault ∙ ap (λ (c : Cell). c.fault) (sym read);
            place = refl;
            end = ap (λ k. at + 4 + k) is ∙ stop ∙ ap (λ (c : Cell). c.end) (sym read);
          }

    -- a key of one byte
    pub key-byte : u ≤ length p → (x : ℕ) → x ≡ byte_at p (at + 4) → x < 128 → KeyExtends p u at 0 at (at + 4 + 1)
    unfolding varint_at
    key-byte whole x e l =
        let s = le-ltb (length p) u whole in
        let one : 1 ≡ varint_length p (at + 4) u = rw (varint_length, s) (ap (λ (w : Word). w.length) (word-last 7 p u (at + 4) 0 0 inside (omega arith))) in
        key-ends 1 one (λ z. omega arith)

module _ (p : List ℕ) (u head i : ℕ) where
  -- a refusal says nothing of the cell's place
  extends-refused : 23 ≡ cell_fault p u head i → Extends p u head i 23 0 0
  extends-refused e =
      record {
        fault = e;
        from = λ z. absurd (omega arith);
        end = λ z. absurd (omega arith);
        low = λ z. absurd (omega arith);
        least = λ z. absurd (omega arith);
        high = λ z. absurd (omega arith);
      }

  module _ (kind start first : ℕ) (o : Opened p u head kind start first) where
    place_is : first + 2 * i ≡ pointer_place p head i
    place_is = omega (arith, o.array)

    pub extends-past : u < first + 2 * i + 2 → Extends p u head i 23 0 0
    unfolding cell_fault
    extends-past h = extends-refused (rw (lt-ltb u (pointer_place p head i + 2) (omega (arith, place_is))))

    module _ (inside : first + 2 * i + 2 ≤ u) (at : ℕ) (read : at ≡ be 2 p (first + 2 * i)) where
      pub at-is : at ≡ pointer p head i
      at-is = read ∙ ap (be 2 p) place_is

      pub extends-low : at < start → Extends p u head i 23 0 0
      unfolding cell_fault
      extends-low h =
          extends-refused
          (rw (le-ltb u (pointer_place p head i + 2) (omega (arith, place_is)), lt-ltb (pointer p head i) (content_start p head) (rw (at-is, o.content) at h)))

      module _ (low : start ≤ at) where
        from_start : content_start p head ≤ pointer p head i
        from_start = rw (at-is, o.content) at low

        pub extends-high : u ≤ at → Extends p u head i 23 0 0
        unfolding cell_fault
        extends-high h =
            extends-refused
            (rw (le-ltb u (pointer_place p head i + 2) (omega (arith, place_is)), le-ltb (pointer p head i) (content_start p head) from_start)
            (rw (le-leb u (pointer p head i) (rw at-is at h)) refl))

        module _ (below : at < u) (c : Cell) (e : c ≡ cell_at p u kind at) where
          cell_is : c ≡ cell_of p u head i
          cell_is = rw (← at-is, ← o.type) e

          pub fault_is : c.fault ≡ cell_fault p u head i
          unfolding cell_fault
          fault_is =
              rw (le-ltb u (pointer_place p head i + 2) (omega (arith, place_is)), le-ltb (pointer p head i) (content_start p head) from_start)
              (rw (lt-leb u (pointer p head i) (rw at-is at below)) (ap (λ (d : Cell). d.fault) cell_is))

          pub extends-cell : Extends p u head i c.fault at c.end
          extends-cell =
              record {
                fault = fault_is;
                from = λ z. at-is;
                end = λ z. ap (λ (d : Cell). d.end) cell_is;
                low = λ z. rw o.content at low;
                least = λ z. rw e (cell-read p u kind at o.least (rw e at z)).least;
                high = λ z. rw e (cell-read p u kind at o.least (rw e at z)).within;
              }

          -- neither read nor over the limit
          pub other-fault : (c.fault ≡ 0 → ⊥) → (c.fault ≡ 26 → ⊥) → 23 ≡ cell_fault p u head i
          other-fault some other =
              let f = rw (← e) at (cell-fault p u kind at o.least) in
              ⊎_elim (λ z. absurd (some z)) (⊎_elim (λ (z : c.fault ≡ 23). sym z ∙ fault_is) (λ z. absurd (other z))) f

        -- on a table interior page
        pub key-fault : at < u → kind ≡ table_interior → (cell_at p u table_interior at).fault ≡ cell_fault p u head i
        key-fault below t = fault_is below (cell_at p u table_interior at) (ap (λ n. cell_at p u n at) (sym t))

        pub extends-key : at < u → kind ≡ table_interior → (f from stop : ℕ) → KeyExtends p u at f from stop → Extends p u head i f from stop
        extends-key below t f from stop k =
            rw (k.fault, k.place, k.end) (extends-cell below (cell_at p u table_interior at) (ap (λ n. cell_at p u n at) (sym t)))
