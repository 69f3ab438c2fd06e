use Rattle.std.proofs.lemmas.Result.{err_from_is_err_and}
use mathlib.Core.Path.{refl, sym, ap, ◌∙◌}
use mathlib.Core.Option.{none}
use borrow.Author.Rules.{rules}
use Rattle.dealing.specs.File.{any_root}
use Rattle.dealing.specs.Walk.{page_events, run, state}
use Rattle.dealing.proofs.WalkLaws.{root-stops, root-goes}
use Rattle.image.specs.Image.{file_of}
use Rattle.ledger.specs.Ledger.{state_of}
use Rattle.ledger.proofs.Ways.{at-n, entered}
use Rattle.roots.proofs.RootLaws.{scratch-for}
use Rattle.roots.proofs.walk_tree.Goals as goal

pub returns-in_err-enter : goal.returns-in_err-enter
returns-in_err-enter c =
    let a = c.args in
    let q = err_from_is_err_and c.from_residual.result c.from_residual.ensures.1 in
    (rw (q.1, q.2) (λ t. root-stops _ _ _ _ _ _ _ (at-n (state_of a.image.now a.kinds.now a.namers.now t) _ c.requires.0 (c.in_err-enter.ensures _ _))), c.requires.3)

pub walk_page-requires : goal.walk_page-requires
walk_page-requires c =
    let a = c.args in let P = c.requires in (
      entered _ (state a.kinds.now a.namers.now none 0) _ a.holder a.root 1 P.0 refl (c.in_ok-enter.ensures none 0),
      search rules,
      scratch-for P.0 _ a.ordered.now a.root _ c.mode_for-mode.ensures P.2,
      P.3,
    )

pub returns : goal.returns
returns c =
    let a = c.args in let b = a.image.now in let f = file_of b in let k = c.enter.new in (
      λ t.
          root-goes _ _ _ _ _ _ (at-n (state_of b a.kinds.now a.namers.now t) _ c.requires.0 (c.in_ok-enter.ensures _ _))
          ∙ ap (λ m. run f.N (state k.kinds k.namers none 0) (page_events f m 20 any_root a.root)) (sym c.mode_for-mode.ensures)
          ∙ c.walk_page.ensures.0,
      c.walk_page.ensures.1,
    )
