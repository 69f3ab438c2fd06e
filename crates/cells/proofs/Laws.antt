-- The payload of a cell: where its bytes are read, and what the walk makes of them.
use Prim.Native.Nat.{ℕ, ◌+◌, ◌-◌}
use mathlib.Core.Path.{◌≡◌, refl, sym, ap, ◌∙◌}
use mathlib.Core.Bool.{true, false}
use mathlib.Core.List.{List, ◌++◌, append-nil, []}
use lib.ListN.{length, take, drop}
use lib.Seq.{take_at}
use native.Mathlib.Omega.{arith}
use Rattle.number.specs.Bytes.{part}
use Rattle.header.specs.declared.Header.{Header}
use Rattle.header.specs.Header.{usable_of, page_of}
use Rattle.cell.specs.declared.Cell.{Cell}
use Rattle.cell.specs.Cell.{cell_links}
use Rattle.record.specs.Record.{reads_of}
use Rattle.dealing.specs.Walk.{chain_of, payload_events, State, went, refused, run}
use Rattle.dealing.specs.Lookup.{follow_cell}
use Rattle.dealing.proofs.RunLaws.{then-went, then-refused, run_none, run-fail}
use Rattle.dealing.proofs.Passed.{cell-whole}
use Rattle.image.specs.Payload.{cell_bytes}
use Rattle.image.specs.Image.{file_cell, file_of}
use Rattle.image.proofs.Shape.{shape}
use Rattle.image.proofs.Tree.{page_is}
use Rattle.payload.specs.Copy.{rest_bytes, Fetchable}
use Rattle.payload.proofs.CopyLaws.{cell-length}
use Rattle.cells.specs.Reading.{Told}
use Rattle.cells.specs.declared.Reading.{Reading}
use Rattle.cells.specs.declared.Reading.TheVariants.{Yes, No, More}
use Rattle.cells.specs.Cells.{CellAt}

module _ {b : List ℕ} {h : Header} {p : ℕ} {c : Cell} {room : ℕ} (g : Fetchable b h p c room) where
  -- its bytes on the page are the first
  module _ (page : List ℕ) (e : page ≡ page_of b h.size p) where
    rest : List ℕ
    rest = rest_bytes b (c.payload - c.local) c.first

    joined : part page c.start (c.start + c.local - c.start) ++ rest ≡ cell_bytes b p c
    unfolding rest
    joined =
        let k : c.start + c.local - c.start ≡ c.local = omega arith in
        ap (λ n. part page c.start n ++ rest) k ∙ ap (λ x. part x c.start c.local ++ rest) (page_is p page g.at.opened e)

    long : length (part page c.start (c.start + c.local - c.start) ++ rest) ≡ c.payload
    long = ap length joined ∙ cell-length b h p c room g

    module _ (r : Reading) (told : Told (part page c.start (c.start + c.local - c.start)) c.payload r) where
      pub local-reads : r ≡ Yes → true ≡ reads_of (cell_bytes b p c)
      local-reads y = sym (told.yes y rest long) ∙ ap reads_of joined

      pub local-unread : r ≡ No → false ≡ reads_of (cell_bytes b p c)
      local-unread y = sym (told.no y rest long) ∙ ap reads_of joined

  -- copied: the first bytes of the scratch
  pub copied-bytes : (w w' : List ℕ) → w' ≡ cell_bytes b p c ++ drop c.payload w → take c.payload w' ≡ cell_bytes b p c
  copied-bytes w w' e = rw e (take_at (cell_bytes b p c) (drop c.payload w) c.payload (cell-length b h p c room g))

  -- and then all is told
  module _ (bytes : List ℕ) (e : bytes ≡ cell_bytes b p c) (r : Reading) (told : Told bytes c.payload r) where
    all : length (bytes ++ []) ≡ c.payload
    all = ap length (append-nil bytes ∙ e) ∙ cell-length b h p c room g

    pub copied-reads : r ≡ Yes → true ≡ reads_of (cell_bytes b p c)
    copied-reads y = sym (told.yes y [] all) ∙ ap reads_of (append-nil bytes ∙ e)

    pub copied-not : (r ≡ Yes → ⊥) → false ≡ reads_of (cell_bytes b p c)
    copied-not n = go r told n
      where
        go : (r : Reading) → Told bytes c.payload r → (r ≡ Yes → ⊥) → false ≡ reads_of (cell_bytes b p c)
        go Yes t n = absurd (n refl)
        go No t n = sym (t.no refl [] all) ∙ ap reads_of (append-nil bytes ∙ e)
        go More t n = absurd (omega (arith, t.more refl, ap length e, cell-length b h p c room g))

module _ {b : List ℕ} {h : Header} {p : ℕ} {c : Cell} (g : CellAt b h p c) (n : ℕ) (e : n ≡ cell_links h.usable c) (s : State) where
  links-is : cell_links (usable_of b) c ≡ n
  links-is = ap (λ u. cell_links u c) (sym (shape g.at.opened).usable_is) ∙ sym e

  chain-is : chain_of (file_of b) p (cell_links (usable_of b) c) c.first ≡ chain_of (file_of b) p n c.first
  chain-is = ap (λ k. chain_of (file_of b) p k c.first) links-is

  pub payload-stops : (x q : ℕ) → run (file_of b).N s (chain_of (file_of b) p n c.first) ≡ refused x q
      → run (file_of b).N s (payload_events (file_of b) p (file_cell b p c)) ≡ refused x q
  unfolding payload_events
  payload-stops x q k =
      then-refused (file_of b).N s x q (chain_of (file_of b) p (cell_links (usable_of b) c) c.first) _ (ap (run (file_of b).N s) chain-is ∙ k)

  module _ (s' : State) (k : run (file_of b).N s (chain_of (file_of b) p n c.first) ≡ went s') where
    pub payload-fetchable : Fetchable b h p c 65536
    payload-fetchable = record {
      at = g.at;
      split = g.split;
      within = g.within;
      chain = ap (λ x. follow_cell (file_of b) p x c.first) links-is ∙ cell-whole (file_of b) p n c.first s s' k;
      fits = g.limit;
    }

    pub payload-reads : true ≡ reads_of (cell_bytes b p c) → run (file_of b).N s (payload_events (file_of b) p (file_cell b p c)) ≡ went s'
    unfolding payload_events
    payload-reads r =
        then-went (file_of b).N s s' (chain_of (file_of b) p (cell_links (usable_of b) c) c.first) _ (ap (run (file_of b).N s) chain-is ∙ k)
        ∙ rw (sym r) (run_none (file_of b).N s')

    pub payload-unread : false ≡ reads_of (cell_bytes b p c) → run (file_of b).N s (payload_events (file_of b) p (file_cell b p c)) ≡ refused 28 p
    unfolding payload_events
    payload-unread r =
        then-went (file_of b).N s s' (chain_of (file_of b) p (cell_links (usable_of b) c) c.first) _ (ap (run (file_of b).N s) chain-is ∙ k)
        ∙ rw (sym r) (run-fail (file_of b).N s' [] 28 p)
