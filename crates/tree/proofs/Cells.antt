-- A cell that was read, as the file has it.
use Prim.Native.Nat.{ℕ, ◌-◌, ◌≤◌, ◌<◌}
use mathlib.Core.Path.{◌≡◌, sym, ap, ◌∙◌}
use mathlib.Core.Bool.{true}
use mathlib.Core.List.{List}
use native.Mathlib.Omega.{arith}
use Rattle.header.specs.declared.Header.{Header}
use Rattle.header.specs.Header.{usable_of}
use Rattle.cell.specs.declared.Cell.{Cell}
use Rattle.cell.proofs.CellLaws.{CellRead}
use Rattle.page.specs.Header.{pointer}
use Rattle.dealing.specs.File as F
use Rattle.dealing.specs.File.{table_type, leaf_type, is_table, is_leaf}
use Rattle.dealing.specs.Walk.{payload_events, State, run, went}
use Rattle.dealing.proofs.Passed.{payload-whole, payload-read}
use Rattle.record.specs.Record.{reads_of}
use Rattle.compare.specs.Values.{values_of, list_of}
use Rattle.std.proofs.Common.{Option, Result}
use Rattle.refusal.specs.declared.Rule.{Rule}
use Rattle.schema.specs.Row.{row_is}
use Rattle.dealing.specs.Lookup.{whole, follow_cell}
use Rattle.cell.specs.Cell.{cell_links}
use Rattle.image.specs.Pages.{page_in, head_of, cell_in}
use Rattle.image.specs.Schema.{column4_of}
use Rattle.image.specs.Payload.{cell_bytes}
use Rattle.image.specs.Image.{file_of, file_cell}
use Rattle.image.specs.Ready.{Opened}
use Rattle.image.proofs.Shape.{shape}
use Rattle.image.proofs.Fields.{cell_field, column4-field}
use Rattle.image.proofs.Tree.{checks, cell-reads}
use Rattle.payload.specs.Copy.{Fetchable}
use Rattle.payload.proofs.CopyLaws.{payload-is}
use Rattle.cells.specs.Cells.{CellAt}
use Rattle.tree.specs.Spots.{SoundAt, room_for}
use Rattle.tree.specs.declared.Mode as M

pub table_is : (f : F.File) (p kind : ℕ) → kind ≡ f.type p → table_type kind ≡ is_table f p
unfolding is_table
table_is f p kind e = ap table_type e

-- scratch is enough for a page's marks, and where keys are compared for two payloads
pub room-marks : {b : List ℕ} {h : Header} → Opened b h → (mode : M.Mode) (n : ℕ) → room_for h mode ≤ n → h.usable ≤ n
unfolding room_for
room-marks o M.TheVariants.Schema n r = r
room-marks o M.TheVariants.Plain n r = r
room-marks o M.TheVariants.Ordered n r = let s = shape o in omega (arith, s.inside, s.most)

pub room-two : (h : Header) (mode : M.Mode) (n : ℕ) → mode ≡ M.TheVariants.Ordered → room_for h mode ≤ n → 131072 ≤ n
unfolding room_for
room-two h mode n e r = rw e at r

pub leaf-is : (f : F.File) (p kind : ℕ) → kind ≡ f.type p → leaf_type kind ≡ is_leaf f p
unfolding is_leaf
leaf-is f p kind e = ap leaf_type e

-- a sound page has room for few cells
pub count-few : {b : List ℕ} {h : Header} {p kind : ℕ} → SoundAt b h p kind → (file_of b).count p ≤ 32768
unfolding file_of
count-few {b} {h} {p} {kind} g = let s = shape g.at.opened in let c = (checks g.at g.sound).array in omega arith

module _ {b : List ℕ} {h : Header} {p kind i : ℕ} {c : Cell} (g : SoundAt b h p kind) (l : i < (file_of b).count p) (e : c ≡ cell_in b p i) where
  pub cell_row : c.row ≡ ((file_of b).cell p i).row
  cell_row = ap (λ (x : Cell). x.row) e ∙ sym (ap (λ (x : F.Cell). x.row) (cell_field b p i))

  cell-first : c.first ≡ ((file_of b).cell p i).first
  cell-first = ap (λ (x : Cell). x.first) e ∙ sym (ap (λ (x : F.Cell). x.first) (cell_field b p i))

  cell-links : cell_links h.usable c ≡ ((file_of b).cell p i).links
  cell-links = ap (cell_links h.usable) e ∙ ap (λ u. cell_links u (cell_in b p i)) (shape g.at.opened).usable_is ∙ sym (ap (λ (x : F.Cell). x.links) (cell_field b p i))

  reads : CellRead (page_in b p) (usable_of b) ((file_of b).type p) (pointer (page_in b p) (head_of p) i) (cell_in b p i)
  reads = cell-reads g.at g.sound i l

  pub cell-at : CellAt b h p c
  cell-at = record {
    at = g.at;
    split = rw e reads.part;
    within = rw (e, (shape g.at.opened).usable_is) (let x = reads.ends in let y = reads.within in omega arith);
    limit = rw e reads.limit;
  }

  -- its payload can be copied once its chain was found whole
  pub cell-fetchable : (room : ℕ) → 65536 ≤ room → follow_cell (file_of b) p ((file_of b).cell p i).links ((file_of b).cell p i).first ≡ whole → Fetchable b h p c room
  cell-fetchable room r w = record {
    at = g.at;
    split = cell-at.split;
    within = cell-at.within;
    chain = ap (λ n. follow_cell (file_of b) p n c.first) (ap (λ u. cell_links u c) (sym (shape g.at.opened).usable_is) ∙ cell-links)
        ∙ ap (follow_cell (file_of b) p ((file_of b).cell p i).links) cell-first
        ∙ w;
    fits = let x = cell-at.limit in omega arith;
  }

  pub cell-column4 : column4_of (cell_bytes b p c) ≡ (file_of b).column4 p i
  cell-column4 = ap (λ x. column4_of (cell_bytes b p x)) e ∙ ap column4_of (sym (payload-is b p i)) ∙ sym (column4-field b p i)

  -- the payload that the code walks, and the row that it reads, are the file's
  pub cell_is : (file_of b).cell p i ≡ file_cell b p c
  cell_is = cell_field b p i ∙ ap (file_cell b p) (sym e)

  pub cell-payload : payload_events (file_of b) p ((file_of b).cell p i) ≡ payload_events (file_of b) p (file_cell b p c)
  cell-payload = ap (payload_events (file_of b) p) cell_is

  -- its record
  cell-read : ((file_of b).cell p i).reads ≡ true → reads_of (cell_bytes b p c) ≡ true
  cell-read r = ap (λ x. reads_of (cell_bytes b p x)) e ∙ sym (ap (λ (x : F.Cell). x.reads) (cell_field b p i)) ∙ r

  -- its payload was walked through: it can be copied, and its record reads
  pub cell-walked : (s s₁ : State) → run (file_of b).N s (payload_events (file_of b) p ((file_of b).cell p i)) ≡ went s₁
      → Fetchable b h p c 65536 × (reads_of (cell_bytes b p c) ≡ true)
  cell-walked s s₁ w =
      let x = (file_of b).cell p i in
      (cell-fetchable 65536 (omega arith) (payload-whole (file_of b) p x s s₁ w), cell-read (payload-read (file_of b) p x s s₁ w))

  pub cell-key : ((file_of b).cell p i).key ≡ list_of (values_of (cell_bytes b p c))
  cell-key = ap (λ (x : F.Cell). x.key) (cell_field b p i) ∙ ap (λ x. list_of (values_of (cell_bytes b p x))) (sym e)

  pub row_told : (r : Result (Option ℕ) Rule) → r ≡ row_is h.pages (column4_of (cell_bytes b p c)) → r ≡ row_is (file_of b).N ((file_of b).column4 p i)
  row_told r k = k ∙ ap (λ n. row_is n (column4_of (cell_bytes b p c))) (sym (shape g.at.opened).N-is) ∙ ap (row_is (file_of b).N) cell-column4
