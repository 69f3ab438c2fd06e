use Rattle.std.proofs.lemmas.Result.{err_from_is_err_and}
use mathlib.Core.Path.{◌≡◌, sym, ap, ◌∙◌}
use mathlib.Core.Bool.{Bool}
use mathlib.Core.List.{List}
use Prim.Native.Nat.{ℕ, ◌≤◌, ◌-◌}
use native.Mathlib.Omega.{arith}
use native.Mathlib.Nat.{pos_of_ne-zero}
use borrow.Author.Rules.{rules}
use Rattle.header.specs.declared.Header.{Header}
use Rattle.dealing.specs.File.{Place, is_leaf, leaf_type}
use Rattle.dealing.specs.Walk.{run, root_events, leaf_roots, schema_roots}
use Rattle.dealing.proofs.WalkLaws.{rest_all, roots-leaf, roots-inner, children-end, children-stop, children-go}
use Rattle.image.specs.Image.{file_of}
use Rattle.image.specs.Ready.{PageAt}
use Rattle.ledger.specs.Ledger.{state_of}
use Rattle.tree.specs.Found.{Found}
use Rattle.refusal.proofs.Laws.{number-some}
use Rattle.tree.specs.Spots.{Tests}
use Rattle.roots.specs.Again.{Walked}
use Rattle.roots.proofs.RootLaws.{scratch-marks, some-levels, no-fault, sound-again, cells-again, right-again, leaf-again, rows-again, child-again, last-again, cell-child}
use Rattle.roots.proofs.+walk_roots.Goals as goal

-- a page that was walked through, and is read again
module _ {b : List ℕ} {h : Header} {levels : ℕ} {place : Place} {p : ℕ} (at : PageAt b h p) (w : Walked (file_of b) levels place p)
    {r : Found} (k : Tests (file_of b) place p r) where
  leafy : (t : Bool) → t ≡ leaf_type r.kind → is_leaf (file_of b) p ≡ t
  leafy t e = sym (leaf-again at w k) ∙ sym e

  levels-left : 1 ≤ levels
  levels-left = pos_of_ne-zero (some-levels at w k)

pub check-requires : goal.check-requires
check-requires t c = let P = c.requires in (P.0, scratch-marks P.0.opened c.args.ordered.now _ P.3)

pub walk_rows-requires : goal.walk_rows-requires
walk_rows-requires t c =
    let P = c.requires in let k = c.in_ok-page.ensures.found in (
      sound-again P.0 P.1 k,
      rows-again P.0 P.1 k (leafy P.0 P.1 k _ c.if-is_leaf.ensures),
      cells-again P.0 P.1 k,
      P.2,
      omega (arith, P.3),
      P.4,
    )

pub returns-then-is_leaf : goal.returns-then-is_leaf
returns-then-is_leaf t c =
    let a = c.args in let f = file_of a.image.now in let P = c.requires in let k = c.in_ok-page.ensures.found in (
      roots-leaf _ _ _ _ _ (some-levels P.0 P.1 k) (leafy P.0 P.1 k _ c.if-is_leaf.ensures)
          ∙ ap (λ l. run f.N (state_of a.image.now a.kinds.now a.namers.now a.t) (root_events a.ordered.now f (leaf_roots f a.p 0 l))) (sym (rest_all f a.p))
          ∙ c.walk_rows.ensures.0,
      c.walk_rows.ensures.1,
    )

pub loop-i-init : goal.loop-i-init
loop-i-init t c =
    let P = c.requires in let k = c.in_ok-page.ensures.found in record {
      walked = roots-inner _ _ _ _ _ (some-levels P.0 P.1 k) (leafy P.0 P.1 k _ c.if-is_leaf.ensures);
      short = P.4;
    }

pub tree_cell-c-requires : goal.tree_cell-c-requires
tree_cell-c-requires t c =
    let P = c.requires in let k = c.in_ok-page.ensures.found in let g = sound-again P.0 P.1 k in
    (g.at, g.kind_is, g.sound, omega (arith, cells-again P.0 P.1 k))

pub overflow_sub-levels : goal.overflow_sub-levels
overflow_sub-levels t c = let P = c.requires in omega (arith, levels-left P.0 P.1 c.in_ok-page.ensures.found)

pub walk_roots-requires : goal.walk_roots-requires
walk_roots-requires t c =
    let P = c.requires in let k = c.in_ok-page.ensures.found in
    let g = child-again P.0 P.1 k c.child_spot-below.result c.loop-i.i _ c.child_spot-below.ensures
    (leafy P.0 P.1 k _ c.if-is_leaf.ensures) (omega (arith, cells-again P.0 P.1 k)) (cell-child _ _ _ _ c.tree_cell-c.ensures) in
    (omega (arith, levels-left P.0 P.1 k), (g.0, g.1, search rules, omega (arith, P.3), c.loop-i.invariant.short))

pub returns-in_err-page : goal.returns-in_err-page
returns-in_err-page t c = let P = c.requires in absurd (number-some _ (no-fault P.0 P.1 c.in_err-page.ensures.found))

pub returns-in_err-last : goal.returns-in_err-last
returns-in_err-last t c =
    let a = c.args in let b = a.image.now in let f = file_of b in let l = c.loop-i in let P = c.requires in
    let q = err_from_is_err_and c.from_residual-in_err-last.result c.from_residual-in_err-last.ensures.1 in (
      rw (q.1, q.2) (l.invariant.walked
          ∙ children-stop _ _ _ _ _ _ (omega (arith, cells-again P.0 P.1 c.in_ok-page.ensures.found)) _ _
          (ap (λ q. run f.N (state_of b l.kinds l.namers l.last) (root_events a.ordered.now f (schema_roots f (a.levels - 1) q)))
          (sym (cell-child _ _ _ _ c.tree_cell-c.ensures))
          ∙ c.in_err-last.ensures.0)),
      c.walk_roots.ensures.1,
    )

pub loop-i-preserved : goal.loop-i-preserved
loop-i-preserved t c =
    let a = c.args in let b = a.image.now in let f = file_of b in let l = c.loop-i in let P = c.requires in record {
      walked = l.invariant.walked
          ∙ children-go _ _ _ _ _ _ (omega (arith, cells-again P.0 P.1 c.in_ok-page.ensures.found)) _
          (ap (λ q. run f.N (state_of b l.kinds l.namers l.last) (root_events a.ordered.now f (schema_roots f (a.levels - 1) q)))
          (sym (cell-child _ _ _ _ c.tree_cell-c.ensures))
          ∙ c.in_ok-last.ensures.0);
      short = c.walk_roots.ensures.1;
    }

pub overflow_sub-levels-2 : goal.overflow_sub-levels-2
overflow_sub-levels-2 t c = let P = c.requires in omega (arith, levels-left P.0 P.1 c.in_ok-page.ensures.found)

pub walk_roots-requires-2 : goal.walk_roots-requires-2
walk_roots-requires-2 t c =
    let P = c.requires in let k = c.in_ok-page.ensures.found in
    let g = last-again P.0 P.1 k c.child_spot-below.result _ c.child_spot-below.ensures (leafy P.0 P.1 k _ c.if-is_leaf.ensures) (right-again P.0 P.1 k) in
    (omega (arith, levels-left P.0 P.1 k), (g.0, g.1, search rules, omega (arith, P.3), c.loop-i.invariant.short))

pub returns : goal.returns
returns t c =
    let a = c.args in let b = a.image.now in let f = file_of b in let l = c.loop-i in let P = c.requires in let k = c.in_ok-page.ensures.found in (
      l.invariant.walked
          ∙ children-end _ _ _ _ _ _ (omega (arith, cells-again P.0 P.1 k))
          ∙ ap (λ q. run f.N (state_of b l.kinds l.namers l.last) (root_events a.ordered.now f (schema_roots f (a.levels - 1) q))) (sym (right-again P.0 P.1 k))
          ∙ c.walk_roots-2.ensures.0,
      c.walk_roots-2.ensures.1,
    )
