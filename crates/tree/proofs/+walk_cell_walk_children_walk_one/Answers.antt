use Rattle.std.proofs.lemmas.Result.{err_from_is_err_and}
use Prim.Native.Nat.{ℕ, suc, ◌+◌, ◌-◌, ◌≤◌, ◌<◌}
use mathlib.Core.Path.{◌≡◌, refl, sym, ap, ◌∙◌, subst}
use mathlib.Core.Bool.{Bool, false}
use mathlib.Core.List.{List, ◌∷◌}
use native.Mathlib.Omega.{arith}
use borrow.Author.Rules.{rules}
use Rattle.header.specs.declared.Header.{Header}
use Rattle.dealing.specs.File.{File, is_table, is_leaf, table_type, leaf_type, child_place}
use Rattle.dealing.specs.Walk.{Mode, Event, run, refused, leaf, leaf_events, page_events, fault_in}
use Rattle.dealing.proofs.WalkLaws.{rest_all, page-deep, page-fault, page-leaf, page-inner}
use Rattle.image.specs.Image.{file_of}
use Rattle.image.specs.Ready.{PageAt}
use Rattle.image.proofs.Shape.{shape}
use Rattle.ledger.specs.Ledger.{state_of}
use Rattle.ledger.proofs.Ways.{at-n}
use Rattle.tree.specs.declared.Spot.{Spot}
use Rattle.tree.specs.Found.{Found}
use Rattle.refusal.proofs.Laws.{number-some}
use Rattle.tree.specs.Spots.{spot_of, mode_of, Tests, SoundAt, Above}
use Rattle.tree.specs.Turns.{name_of, turns}
use Rattle.tree.proofs.Tests.{fault-none}
use Rattle.tree.proofs.Cells.{table_is, leaf-is, count-few, room-marks}
use Rattle.tree.proofs.Calm.{not_calm, calm-page, calm-events, calm-short}
use Rattle.tree.proofs.Turns.{above-few, above-page, child-page, turn-name-stops, turn-child-stops, turn-child-goes, turns-stop, turns_go, turns-end, turns-inner}
use Rattle.tree.proofs.+walk_cell_walk_children_walk_one.Goals as goal

-- a turn before the last is a cell's of a page
page : {b : List ℕ} {h : Header} {p kind : ℕ} {spot : Spot} {cells right : ℕ} {root : Bool} (i : ℕ) → Above b h p kind spot cells right root → i < cells
    → SoundAt b h p kind × (cells ≡ (file_of b).count p)
page i a l = let w = a.page (above-page a i l) in (w.0, w.1)

pub walk_cell-look_ahead-requires : goal.walk_cell-look_ahead-requires
walk_cell-look_ahead-requires t c =
    let P = c.requires in let o = P.0.opened in (
      λ l. let w = page _ P.0 l in (w.0.at, w.0.kind_is, w.0.sound, w.1),
      omega (arith, room-marks o c.args.mode _ P.2, (shape o).used),
      P.1.kinds_n,
      P.1.namers_n,
      P.4.entries,
    )

pub walk_cell-returns-in_err-name_child : goal.walk_cell-returns-in_err-name_child
walk_cell-returns-in_err-name_child t c =
    let a = c.args in let P = c.requires in
    let q = err_from_is_err_and c.from_residual.result c.from_residual.ensures.1 in (
      rw (q.1, q.2) (turn-name-stops _ _ _ _ _ _ _ _ _ _ _ (at-n _ _ P.0.opened
          (ap (λ x. run a.h.pages (state_of a.image.now a.kinds.now a.namers.now a.t) (name_of a.root a.p x)) (sym c.child_at-child.ensures)
          ∙ c.in_err-name_child.ensures _ _))),
      P.4,
    )

pub walk_cell-walk_one-requires : goal.walk_cell-walk_one-requires
walk_cell-walk_one-requires t c =
    let a = c.args in let P = c.requires in (
      omega arith,
      (
        subst (PageAt a.image.now a.h) (sym c.child_at-child.ensures)
            (child-page P.0 _ _ _
            (ap (λ x. run a.h.pages (state_of a.image.now a.kinds.now a.namers.now a.t) (name_of a.root a.p x)) (sym c.child_at-child.ensures)
            ∙ c.in_ok-name_child.ensures _ _)),
        search rules,
        omega (arith, P.2),
        P.4,
      ),
    )

pub walk_cell-returns-in_err-next : goal.walk_cell-returns-in_err-next
walk_cell-returns-in_err-next t c =
    let a = c.args in let b = a.image.now in let f = file_of b in let k = c.name_child.new in
    let q = err_from_is_err_and c.from_residual-in_err-next.result c.from_residual-in_err-next.ensures.1 in (
      rw (q.1, q.2) (turn-child-stops _ _ _ _ _ _ _ _ _ _ (at-n _ _ c.requires.0.opened
          (ap (λ x. run a.h.pages (state_of b a.kinds.now a.namers.now a.t) (name_of a.root a.p x)) (sym c.child_at-child.ensures)
          ∙ c.in_ok-name_child.ensures _ _)) _ _
          (ap (λ x. run f.N (state_of b k.kinds k.namers a.t) (page_events f (mode_of a.mode) a.levels (spot_of a.spot) x)) (sym c.child_at-child.ensures)
          ∙ c.in_err-next.ensures.0)),
      c.walk_one.ensures.1,
    )

pub walk_cell-returns : goal.walk_cell-returns
walk_cell-returns t c =
    let a = c.args in let b = a.image.now in let f = file_of b in let k = c.name_child.new in (
      turn-child-goes _ _ _ _ _ _ _ _ _ _ (at-n _ _ c.requires.0.opened
          (ap (λ x. run a.h.pages (state_of b a.kinds.now a.namers.now a.t) (name_of a.root a.p x)) (sym c.child_at-child.ensures)
          ∙ c.in_ok-name_child.ensures _ _)) _
          (ap (λ x. run f.N (state_of b k.kinds k.namers a.t) (page_events f (mode_of a.mode) a.levels (spot_of a.spot) x)) (sym c.child_at-child.ensures)
          ∙ c.in_ok-next.ensures.0)
          ∙ c.after_child.ensures,
      c.walk_one.ensures.1,
    )

-- the turns that are left: the one that comes, and those after it
module _ (f : File) (mode : Mode) (below : ℕ → List Event) (root : Bool) (p cells right left : ℕ) (some : 0 < left) (within : left ≤ cells + 1) where
  next : turns f mode below root p cells right (cells + 1 - left) left ≡ turns f mode below root p cells right (cells - (left - 1)) (suc (left - 1))
  next =
      let i : cells + 1 - left ≡ cells - (left - 1) = omega arith in let k : left ≡ suc (left - 1) = omega arith in
      ap (λ x. turns f mode below root p cells right x left) i ∙ ap (turns f mode below root p cells right (cells - (left - 1))) k

  after : turns f mode below root p cells right (cells - (left - 1) + 1) (left - 1) ≡ turns f mode below root p cells right (cells + 1 - (left - 1)) (left - 1)
  after = let i : cells - (left - 1) + 1 ≡ cells + 1 - (left - 1) = omega arith in ap (λ x. turns f mode below root p cells right x (left - 1)) i

pub walk_children-overflow_step-left : goal.walk_children-overflow_step-left
walk_children-overflow_step-left t c = omega (arith, above-few c.requires.0)

pub walk_children-returns-in_err-last : goal.walk_children-returns-in_err-last
walk_children-returns-in_err-last t c =
    let a = c.args in let b = a.image.now in let f = file_of b in let l = c.loop-left in
    let q = err_from_is_err_and c.from_residual.result c.from_residual.ensures.1 in (
      rw (q.1, q.2) (l.invariant.walked
          ∙ ap (run f.N (state_of b l.kinds l.namers l.last)) (next f _ _ a.root a.p a.cells a.right l.left (omega arith) l.invariant.within)
          ∙ turns-stop _ _ _ _ _ _ _ _ _ _ _ _ c.in_err-last.ensures.0),
      c.walk_cell.ensures.1,
    )

pub walk_children-loop-left-preserved : goal.walk_children-loop-left-preserved
walk_children-loop-left-preserved t c =
    let a = c.args in let b = a.image.now in let f = file_of b in let l = c.loop-left in let w = c.walk_cell.new in record {
      within = omega arith;
      walked = l.invariant.walked
          ∙ ap (run f.N (state_of b l.kinds l.namers l.last)) (next f _ _ a.root a.p a.cells a.right l.left (omega arith) l.invariant.within)
          ∙ turns_go _ _ _ _ _ _ _ _ _ _ _ c.in_ok-last.ensures.0
          ∙ ap (run f.N _) (after f _ _ a.root a.p a.cells a.right l.left (omega arith) l.invariant.within);
      short = c.walk_cell.ensures.1;
    }

pub walk_children-returns : goal.walk_children-returns
walk_children-returns t c =
    let a = c.args in let b = a.image.now in let f = file_of b in let l = c.loop-left in let z : l.left ≡ 0 = omega arith in (
      l.invariant.walked
          ∙ ap (λ x. run f.N (state_of b l.kinds l.namers l.last)
          (turns f (mode_of a.mode) (page_events f (mode_of a.mode) a.levels (spot_of a.spot)) a.root a.p a.cells a.right (a.cells + 1 - l.left) x)) z
          ∙ turns-end _ _ _ _ _ _ _ _ _,
      l.invariant.short,
    )

pub walk_one-returns-then-levels-eq0 : goal.walk_one-returns-then-levels-eq0
walk_one-returns-then-levels-eq0 t c = (page-deep _ _ _ _ _ _ c.if-levels-eq0.true, c.requires.3)

pub walk_one-leaf_page-requires : goal.walk_one-leaf_page-requires
walk_one-leaf_page-requires t c = let P = c.requires in (P.0, room-marks P.0.opened c.args.mode _ P.2)

pub walk_one-walk_calm-requires : goal.walk_one-walk_calm-requires
walk_one-walk_calm-requires t c =
    let k = calm-page c.requires.0 c.place_of-place.result _ c.place_of-place.ensures _ _ c.in-Some.ensures in
    (k.sound, c.requires.1, k.count_is, k.calm, c.least_row-least.ensures)

pub walk_one-returns-in-Some : goal.walk_one-returns-in-Some
walk_one-returns-in-Some t c =
    let k = calm-page c.requires.0 c.place_of-place.result _ c.place_of-place.ensures _ _ c.in-Some.ensures in (
      calm-events k _ _ _ c.if-levels-eq0.false (c.is_plain.ensures c.if-is_plain.true) ∙ c.walk_calm.ensures,
      c.note.ensures _ c.requires.3 (calm-short _ _ _ _ _ _ k.calm),
    )

pub walk_one-check-requires : goal.walk_one-check-requires
walk_one-check-requires t c = let P = c.requires in (P.0, omega (arith, room-marks P.0.opened c.args.mode _ P.2))

pub walk_one-returns-in_err-page : goal.walk_one-returns-in_err-page
walk_one-returns-in_err-page t c =
    let k = c.in_err-page.ensures in
    let q = err_from_is_err_and c.from_residual.result c.from_residual.ensures.1 in (
      rw (q.1, q.2, k.reported) (page-fault _ _ _ _ _ _ c.if-levels-eq0.false (λ z. number-some _ (k.found.fault_is ∙ z)) ∙ ap (λ x. refused x c.args.p) (sym k.found.fault_is)),
      c.requires.3,
    )

-- the page was found sound
module _ {b : List ℕ} {h : Header} {p : ℕ} (at : PageAt b h p) (spot : Spot) (r : Found) (k : Tests (file_of b) (spot_of spot) p r) (z : r.fault ≡ 0) where
  no-fault : fault_in (file_of b) (spot_of spot) p ≡ 0
  no-fault = sym k.fault_is ∙ z

  sound : SoundAt b h p r.kind
  sound = record { at = at; kind_is = k.kind_is z; sound = fault-none _ _ _ no-fault }

  leafy : (t : Bool) → t ≡ leaf_type r.kind → is_leaf (file_of b) p ≡ t
  leafy t e = sym (leaf-is _ _ _ (k.kind_is z)) ∙ sym e

  -- an interior page's children stand at the spot that was told
  stand : (s : Spot) → spot_of s ≡ child_place (table_type r.kind) → spot_of s ≡ child_place (is_table (file_of b) p)
  stand s e = e ∙ ap child_place (table_is _ _ _ (k.kind_is z))

pub walk_one-walk_leaf-requires : goal.walk_one-walk_leaf-requires
walk_one-walk_leaf-requires t c =
    let P = c.requires in let k = c.in_ok-page.ensures.found in let z : ◌≡◌ {A = ℕ} 0 0 = refl in
    (sound P.0 _ _ k z, P.1, omega (arith, P.2), k.cells_is z)

pub walk_one-returns-then-is_leaf : goal.walk_one-returns-then-is_leaf
walk_one-returns-then-is_leaf t c =
    let a = c.args in let b = a.image.now in let f = file_of b in let k = c.in_ok-page.ensures.found in let z : ◌≡◌ {A = ℕ} 0 0 = refl in (
      page-leaf _ _ _ _ _ _ c.if-levels-eq0.false (no-fault c.requires.0 _ _ k z) (leafy c.requires.0 _ _ k z _ c.if-is_leaf.ensures)
          ∙ ap (λ x. run f.N (state_of b a.kinds.now a.namers.now a.t) (leaf a.p a.levels ∷ leaf_events f (mode_of a.mode) a.p 0 x)) (sym (rest_all f a.p))
          ∙ c.walk_leaf.ensures,
      c.requires.3,
    )

pub walk_one-walk_children-requires : goal.walk_one-walk_children-requires
walk_one-walk_children-requires t c =
    let P = c.requires in let k = c.in_ok-page.ensures.found in let z : ◌≡◌ {A = ℕ} 0 0 = refl in let g = sound P.0 _ _ k z in (
      omega (arith, count-few g, k.cells_is z),
      (
        record {
          opened = P.0.opened;
          page = λ _. (g, k.cells_is z, k.right_is z, stand P.0 _ _ k z _ c.child_spot-below.ensures);
          alone = λ e. absurd (not_calm e);
        },
        P.1,
        omega (arith, P.2),
        P.3,
      ),
    )

pub walk_one-returns : goal.walk_one-returns
walk_one-returns t c =
    let a = c.args in let b = a.image.now in let f = file_of b in let k = c.in_ok-page.ensures.found in let z : ◌≡◌ {A = ℕ} 0 0 = refl in
    let r = c.in_ok-page.page in let m = mode_of a.mode in let s = state_of b a.kinds.now a.namers.now a.t in (
      page-inner _ _ _ _ _ _ c.if-levels-eq0.false (no-fault c.requires.0 _ _ k z) (leafy c.requires.0 _ _ k z _ c.if-is_leaf.ensures)
          ∙ ap (run f.N s) (turns-inner f m _ a.p _ _ (k.cells_is z) (k.right_is z))
          ∙ ap (λ x. run f.N s (turns f m (page_events f m (a.levels - 1) x) false a.p r.cells r.right 0 (r.cells + 1)))
          (sym (stand c.requires.0 _ _ k z _ c.child_spot-below.ensures))
          ∙ c.walk_children.ensures.0,
      c.walk_children.ensures.1,
    )
