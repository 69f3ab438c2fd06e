-- Each way out of the functions that say why the scan stopped.
use Prim.Native.Nat.{ℕ}
use mathlib.Core.Path.{◌≡◌}
use mathlib.Core.List.{List}
use lib.ListN.{length}
use borrow.Author.Tests.{eq-eqb}
use Rattle.log_summary.specs.Summary.{stop_at}

module _ (size : ℕ) (log : List ℕ) (at : ℕ) where
  pub stop-end : length log ≡ at → 0 ≡ stop_at size log at
  unfolding stop_at
  stop-end e = simp (eq-eqb (length log) at e)
