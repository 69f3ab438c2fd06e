-- The header length H, and what the pass from there on finds of the whole record.
use Prim.Native.Nat.{ℕ}
use mathlib.Core.Path.{◌≡◌, sym, ap, ◌∙◌}
use mathlib.Core.List.{List}
use lib.ListN.{length}
use borrow.Author.Tests.{eq-eqb, ne_eqb}
use Rattle.number.specs.Varint.{varint_at}
use Rattle.number.specs.declared.Word.{Word}
use Rattle.record.specs.Record.{types_at, filling, header_of, own_of, types_of}
use Rattle.record.specs.Scan.{summary, scan_of}
use Rattle.record.specs.declared.Scanned.{Scanned}
use Rattle.std.specs.Prelude.{Option, None}

module _ (b : List ℕ) (i : ℕ) where
  -- H is spelled short
  pub scan-none : own_of b ≡ 0 → None ≡ scan_of b i
  unfolding scan_of types_of
  scan-none e = simp (eq-eqb (own_of b) 0 e)

  module _ (some : own_of b ≡ 0 → ⊥) where
    pub scan-is : summary i (header_of b) (filling b (header_of b) (types_at b (header_of b) (own_of b))) ≡ scan_of b i
    unfolding scan_of types_of
    scan-is = sym (simp (ne_eqb (own_of b) 0 some))

  -- the same of the word that was read
  module _ (w : Word) (v : w ≡ varint_at b 0 (length b)) where
    len : own_of b ≡ w.length
    len = ap (λ (x : Word). x.length) (sym v)

    bits : header_of b ≡ w.bits
    bits = ap (λ (x : Word). x.bits) (sym v)

    pub head-none : w.length ≡ 0 → None ≡ scan_of b i
    head-none e = scan-none (len ∙ e)

    module _ (some : w.length ≡ 0 → ⊥) where
      pub head-is : (r : Option Scanned) → r ≡ summary i w.bits (filling b w.bits (types_at b w.bits w.length)) → r ≡ scan_of b i
      head-is r e =
          e
          ∙ ap (λ (x : Word). summary i x.bits (filling b x.bits (types_at b x.bits x.length))) v
          ∙ scan-is (λ e. some (sym len ∙ e))
