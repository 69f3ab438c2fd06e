-- What is built is the fresh file that writing's theorems are about.
-- Assumes nothing.
use Prim.Native.Nat.{ℕ, ◌*◌}
use mathlib.Core.Path.{◌≡◌, sym, ap, ◌∙◌}
use mathlib.Core.List.{List}
use lib.IntN.{ℤ}
use Rattle.writing.specs.Given.{rows_given}
use Rattle.writing.proofs.FreshGood.{fresh-good, fresh-root, fresh-row, fresh-only, fresh-place, fresh-short, fresh-length, fresh-schema}
use Rattle.builder.specs.Built.{Built}
use Rattle.builder.specs.Build.{AllFit, refusal_of, built_of, out_at}
use Rattle.builder.specs.Fresh.{FreshFile}
use Rattle.builder.proofs.Clear.{clear, clear-fits, clear-rises, clear-read, clear-pages}

module _ (schema : List ℕ) (ns : List ℤ) (ls ps : List ℕ) (room : ℕ) where
  fresh-file : AllFit ns → refusal_of schema ns ls ps room ≡ 0 → FreshFile schema (rows_given ns ls ps)
  fresh-file fit e =
      let c = clear schema ns ls ps room e in
      let rows = rows_given ns ls ps in
      let fits = clear-fits schema ns ls ps room fit c in
      let rises = clear-rises schema ns ls ps room fit c in
      let read_all = clear-read schema ns ls ps room fit c in
      let two = c.given.two in
      record {
        good = fresh-good schema rows fits rises read_all two;
        schema_row_is = fresh-schema schema rows fits rises read_all two;
        root = fresh-root schema rows fits rises read_all two;
        row = λ x l. fresh-row schema rows fits rises read_all two x l;
        place = λ page cell c. fresh-place schema rows fits rises read_all two page cell c;
        only = λ row page cell c. fresh-only schema rows fits rises read_all two row page cell c;
        short = fresh-short schema rows fits rises read_all two;
        whole = fresh-length schema rows fits rises read_all two ∙ ap (λ n. n * 1024) (clear-pages schema ns ls ps room fit c);
      }

  refusal_is : (r : Built) → r ≡ built_of schema ns ls ps room → r.refusal ≡ refusal_of schema ns ls ps room
  unfolding built_of
  refusal_is r e = ap (λ (x : Built). x.refusal) e

  pub is-fresh : (r : Built) → r ≡ built_of schema ns ls ps room → AllFit ns → r.refusal ≡ 0 → FreshFile schema (rows_given ns ls ps)
  is-fresh r e fit z = fresh-file fit (sym (refusal_is r e) ∙ z)

  pub with-good : (r : Built) (out out' : List ℕ) → (r.refusal ≡ 0 → AllFit ns)
      → (r ≡ built_of schema ns ls ps room) × (out' ≡ out_at schema ns ls ps out)
      → (r ≡ built_of schema ns ls ps room) × ((out' ≡ out_at schema ns ls ps out) × (r.refusal ≡ 0 → FreshFile schema (rows_given ns ls ps)))
  with-good r out out' fit w = (w.0, (w.1, λ (e : r.refusal ≡ 0). fresh-file (fit e) (sym (refusal_is r w.0) ∙ e)))
