-- What a log's magic decides: the word order in which its frames are read.
use Prim.Native.Nat.{ℕ, ◌≤◌}
use mathlib.Core.Path.{◌≡◌, refl, sym, ◌∙◌}
use mathlib.Core.Bool.{Bool, true, false, cond}
use mathlib.Core.List.{List}
use lib.ListN.{length}
use borrow.Author.Tests.{le-ltb}
use Rattle.std.specs.Prelude.{Option, Some, None}
use Rattle.std.proofs.lemmas.Option.{none-some, same_Some}
use Rattle.number.specs.Bytes.{be}
use Rattle.wal.specs.declared.Order.{Order}
use Rattle.wal.specs.declared.Order.TheVariants.{Little, Big}
use Rattle.wal.specs.Sums.{is_big}
use Rattle.wal.specs.State.{nothing, state_in, state_of}
use Rattle.wal.specs.Told.{order_of}

-- what is told in either order, and z where the magic is neither
pub in_order : {A : Type 0} (f : Bool → A) (z : A) (a b : Bool) (order : Order) → cond a (Some Little) (cond b (Some Big) None) ≡ Some order
    → f (is_big order) ≡ cond a (f false) (cond b (f true) z)
in_order f z true b order e = rw (← same_Some _ _ e) refl
in_order f z false true order e = rw (← same_Some _ _ e) refl
in_order f z false false order e = absurd (none-some _ e)

pub no_order : {A : Type 0} (f : Bool → A) (z : A) (a b : Bool) → cond a (Some Little) (cond b (Some Big) None) ≡ None → z ≡ cond a (f false) (cond b (f true) z)
no_order f z true b e = absurd (none-some _ (sym e))
no_order f z false true e = absurd (none-some _ (sym e))
no_order f z false false e = refl

module _ (log : List ℕ) (long : 32 ≤ length log) (o : Option Order) (magic : ℕ) (is-magic : magic ≡ be 4 log 0) (is-o : o ≡ order_of magic) where
  pub ordered : (order : Order) → o ≡ Some order → state_in (is_big order) log ≡ state_of log
  unfolding order_of state_of
  ordered order e =
      simp (le-ltb (length log) 32 long, ← is-magic)
      (in_order (λ (b : Bool). state_in b log) nothing _ _ order (sym is-o ∙ e))

  pub unordered : o ≡ None → nothing ≡ state_of log
  unfolding order_of state_of
  unordered e =
      simp (le-ltb (length log) 32 long, ← is-magic)
      (no_order (λ (b : Bool). state_in b log) nothing _ _ (sym is-o ∙ e))
