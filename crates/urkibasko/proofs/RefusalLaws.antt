-- No refusal has number 0, so that refusal 0 is acceptance.
use Prim.Native.Nat.{ℕ, zero, suc, ◌-◌, ◌≤◌}
use mathlib.Core.Path.{◌≡◌, refl, sym, ap, ◌∙◌, subst}
use mathlib.Core.Bool.{Bool, true, false}
use mathlib.Core.List.{List, [], ◌∷◌, ◌++◌}
use mathlib.Core.Logic.{◌↔◌}
use native.Mathlib.Omega.{arith}
use lib.Dec.{eqb, leb, ltb}
use mathlib.Core.Option.{some}
use lib.ListN.{get_or}
use borrow.Author.Tests.{eqb-false}
use Rattle.number.proofs.Cases.{by_cond}
use Rattle.header.specs.Header.{header_refusal, pages_of}
use Rattle.dealing.specs.File.{Cell, Column4, File, is_leaf, is_table, cells_of, Place, schema_root, any_root, child_place, level_limit, first_kind}
use Rattle.dealing.specs.File.{later_kind}
use Rattle.dealing.specs.Good.{a_row, a_key, a_record}
use Rattle.dealing.specs.Walk as W
use Rattle.dealing.specs.Walk.{fault_in}
use Rattle.image.specs.Image.{file_of}
use Rattle.image.proofs.Fields.{N-field}
use Rattle.names.specs.Names.{bad34}
use Rattle.verdict.specs.Verdict.{verdict_is, answer_of, too_small, refused}
use Rattle.verdict.specs.Means.{Accepts}
use Rattle.verdict.specs.Answer as D
use Rattle.urkibasko.specs.Image.{verdict_c, AcceptsC}
use Rattle.urkibasko.specs.declared.answers.UrkVerdict.{UrkVerdict}

-- an event that fails has a number
abbrev Told : W.Event → Type 0
Told W.start = Unit {0}
Told (W.name h t k) = Unit {0}
Told (W.fail n p) = 1 ≤ n
Told (W.row p n) = Unit {0}
Told (W.key p n) = Unit {0}
Told (W.leaf p l) = Unit {0}
Told (W.entry p v) = Unit {0}

abbrev AllTold : List W.Event → Type 0
AllTold [] = Unit {0}
AllTold (e ∷ es) = Told e × AllTold es

joined : (a b : List W.Event) → AllTold a → AllTold b → AllTold (a ++ b)
joined [] b x y = y
joined (e ∷ a) b x y = (x.0, joined a b x.1 y)

check-told : (t : Bool) (n p : ℕ) → 1 ≤ n → AllTold (W.check t n p)
check-told true n p h = tt
check-told false n p h = (h, tt)

faults-told : (x p : ℕ) → AllTold (W.faults x p)
faults-told zero p = tt
faults-told (suc x) p = (omega arith, tt)

chain-told : (f : File) (holder kind n t : ℕ) → AllTold (W.chain_events f holder kind n t)
unfolding W.chain_events
chain-told f holder kind zero t = check-told (eqb t 0) 27 holder (omega arith)
chain-told f holder kind (suc n) t =
    joined (W.check (W.not0 t) 27 holder) _ (check-told (W.not0 t) 27 holder (omega arith)) (tt, chain-told f t later_kind n (f.next t))

chain-of-told : (f : File) (p links first : ℕ) → AllTold (W.chain_of f p links first)
unfolding W.chain_of
chain-of-told f p zero first = tt
chain-of-told f p (suc n) first = chain-told f p first_kind (suc n) first

payload-told : (f : File) (p : ℕ) (c : Cell) → AllTold (W.payload_events f p c)
unfolding W.payload_events
payload-told f p c =
    joined (W.chain_of f p c.links c.first) _ (chain-of-told f p c.links c.first) (check-told c.reads 28 p (omega arith))

row_told : (t : Bool) (p r : ℕ) → AllTold (W.row_of t p r)
row_told true p r = (tt, tt)
row_told false p r = tt

schema-told : (n : ℕ) (schema : Bool) (v : Column4) (p : ℕ) → AllTold (W.schema_row n schema v p)
schema-told n true v p = check-told (W.fit n v) 28 p (omega arith)
schema-told n false v p = tt

entry-told : (asked t : Bool) (p : ℕ) (c : Cell) → AllTold (W.entry_of asked t p c)
entry-told asked true p c = tt
entry-told true false p c = (tt, tt)
entry-told false false p c = tt

leaf-cell-told : (f : File) (mode : W.Mode) (p i : ℕ) (c : Cell) → AllTold (W.leaf_cell f mode p i c)
unfolding W.leaf_cell
leaf-cell-told f mode p i c =
    joined (W.row_of (is_table f p) p c.row) _ (row_told (is_table f p) p c.row)
    (joined (W.payload_events f p c) _ (payload-told f p c)
    (joined (W.entry_of (W.is_ordered mode) (is_table f p) p c) _ (entry-told (W.is_ordered mode) (is_table f p) p c)
    (schema-told f.N (W.is_schema mode) (f.column4 p i) p)))

leaf-told : (f : File) (mode : W.Mode) (p i : ℕ) (cs : List Cell) → AllTold (W.leaf_events f mode p i cs)
unfolding W.leaf_events
leaf-told f mode p i [] = tt
leaf-told f mode p i (c ∷ cs) = joined (W.leaf_cell f mode p i c) _ (leaf-cell-told f mode p i c) (leaf-told f mode p (suc i) cs)

key-told : (f : File) (mode : W.Mode) (t : Bool) (p : ℕ) (c : Cell) → AllTold (W.key_or_chain f mode t p c)
key-told f mode true p c = (tt, tt)
key-told f mode false p c = joined (W.payload_events f p c) _ (payload-told f p c) (entry-told (W.is_ordered mode) false p c)

module _ (f : File) (mode : W.Mode) (below : ℕ → List W.Event) (told : (t : ℕ) → AllTold (below t)) (p : ℕ) where
  inner-cell-told : (c : Cell) → AllTold (W.inner_cell f mode below p c)
  unfolding W.inner_cell
  inner-cell-told c = joined (W.child_events below p c.child) _ (tt, told c.child) (key-told f mode (is_table f p) p c)

  inner-told : (cs : List Cell) → AllTold (W.inner_events f mode below p cs)
  unfolding W.inner_events
  inner-told [] = (tt, told (f.right p))
  inner-told (c ∷ cs) = joined (W.inner_cell f mode below p c) _ (inner-cell-told c) (inner-told cs)

page-told : (f : File) (mode : W.Mode) (levels : ℕ) (place : Place) (p : ℕ) → AllTold (W.page_events f mode levels place p)
unfolding W.page_events
page-told f mode zero place p = (omega arith, tt)
page-told f mode (suc l) place p =
    joined (W.faults (fault_in f place p) p) _ (faults-told (fault_in f place p) p)
    (by_cond AllTold (is_leaf f p) _ _
    (λ t. (tt, leaf-told f mode p 0 (cells_of f p)))
    (λ t. inner-told f mode (W.page_events f mode l (child_place (is_table f p))) (page-told f mode l (child_place (is_table f p))) p (cells_of f p)))

roots-told : (ordered : List ℕ) (f : File) (rs : List (ℕ × ℕ)) → AllTold (W.root_events ordered f rs)
unfolding W.root_events
roots-told ordered f [] = tt
roots-told ordered f (x ∷ xs) =
    joined (W.tree_events ordered f x.0 x.1) _ (tt, (tt, page-told f (W.mode_for ordered x.1) level_limit any_root x.1))
    (roots-told ordered f xs)

leaves-told : (f : File) (trunk k j : ℕ) → AllTold (W.trunk_leaves f trunk k j)
unfolding W.trunk_leaves
leaves-told f p zero j = tt
leaves-told f p (suc k) j = (tt, leaves-told f p k (suc j))

trunks-told : (f : File) (fuel holder t : ℕ) → AllTold (W.trunk_events f fuel holder t)
unfolding W.trunk_events
trunks-told f zero holder t = tt
trunks-told f (suc n) holder zero = tt
trunks-told f (suc n) holder (suc t) = (
  tt,
  joined (W.check (leb (f.trunk_count (suc t)) f.trunk_room) 29 (suc t)) _
      (check-told (leb (f.trunk_count (suc t)) f.trunk_room) 29 (suc t) (omega arith))
      (joined (W.trunk_leaves f (suc t) (f.trunk_count (suc t)) 0) _ (leaves-told f (suc t) (f.trunk_count (suc t)) 0)
      (trunks-told f n (suc t) (f.trunk_next (suc t)))),
)

events-told : (ordered : List ℕ) (f : File) → AllTold (W.events ordered f)
unfolding W.events W.free_events
events-told ordered f =
    joined (W.start ∷ W.page_events f W.schema_tree level_limit schema_root 1) _ (tt, page-told f W.schema_tree level_limit schema_root 1)
    (joined (W.free_events f) _
    (joined (W.trunk_events f (suc f.N) 1 f.free_head) _ (trunks-told f (suc f.N) 1 f.free_head)
    (check-told (eqb (W.free_count f (suc f.N) f.free_head) f.free_total) 29 1 (omega arith)))
    (roots-told ordered f (W.schema_roots f level_limit 1)))

-- an outcome that is refused has a number
abbrev Numbered : W.Outcome → Type 0
Numbered (W.went s) = Unit {0}
Numbered (W.refused n p) = 1 ≤ n

step-numbered : (N : ℕ) (s : W.State) (e : W.Event) → Told e → Numbered (W.step N s e)
unfolding W.step
step-numbered N s W.start h = tt
step-numbered N s (W.name a t k) h =
    by_cond Numbered (W.in_range N t) _ (W.refused 20 a) (λ r. by_cond Numbered (eqb (get_or s.kinds (t - 1) 0) 0)
    (W.went (W.enter s a t k)) (W.refused 21 t) (λ z. tt) (λ z. omega arith)) (λ r. omega arith)
step-numbered N s (W.fail n p) h = h
step-numbered N s (W.row p r) h =
    by_cond Numbered (W.follows s.last (a_row r)) (W.went (W.order s (some (a_row r)))) (W.refused 25 p) (λ z. tt) (λ z. omega arith)
step-numbered N s (W.key p k) h =
    by_cond Numbered (W.follows s.last (a_key k)) (W.went (W.order s (some (a_key k)))) (W.refused 25 p) (λ z. tt) (λ z. omega arith)
step-numbered N s (W.leaf p l) h = by_cond Numbered (W.even s.leaf_at l) (W.went (W.at_leaf s l)) (W.refused 24 p) (λ z. tt) (λ z. omega arith)
step-numbered N s (W.entry p v) h =
    by_cond Numbered (W.follows s.last (a_record v)) (W.went (W.order s (some (a_record v)))) (W.refused 33 p) (λ z. tt) (λ z. omega arith)

then-numbered : (o : W.Outcome) (k : W.State → W.Outcome) → Numbered o → ((s : W.State) → Numbered (k s)) → Numbered (W.and_then o k)
unfolding W.and_then
then-numbered (W.went s) k h g = g s
then-numbered (W.refused n p) k h g = h

run-numbered : (N : ℕ) (s : W.State) (es : List W.Event) → AllTold es → Numbered (W.run N s es)
unfolding W.run
run-numbered N s [] h = tt
run-numbered N s (e ∷ es) h = then-numbered (W.step N s e) _ (step-numbered N s e h.0) (λ s'. run-numbered N s' es h.1)

-- a verdict, and an answer, that refuses has a number
abbrev NumberedV : W.Verdict → Type 0
NumberedV (W.accepted ks ns) = Unit {0}
NumberedV (W.refusal n p) = 1 ≤ n

settle-numbered : (es : List W.Event) (ks ns : List ℕ) → AllTold es → NumberedV (W.settle es ks ns)
unfolding W.settle
settle-numbered [] ks ns h = tt
settle-numbered (W.start ∷ es) ks ns h = settle-numbered es ks ns h.1
settle-numbered (W.name a t k ∷ es) ks ns h = settle-numbered es ks ns h.1
settle-numbered (W.fail n p ∷ es) ks ns h = h.0
settle-numbered (W.row p r ∷ es) ks ns h = settle-numbered es ks ns h.1
settle-numbered (W.key p k ∷ es) ks ns h = settle-numbered es ks ns h.1
settle-numbered (W.leaf p l ∷ es) ks ns h = settle-numbered es ks ns h.1
settle-numbered (W.entry p v ∷ es) ks ns h = settle-numbered es ks ns h.1

entries-told : (f : File) (ks ns : List ℕ) (n : ℕ) → AllTold (W.entry_checks f ks ns n)
unfolding W.entry_checks
entries-told f ks ns zero = tt
entries-told f ks ns (suc n) =
    joined (W.entry_checks f ks ns n) _ (entries-told f ks ns n)
    (check-told (W.agrees f (suc n) (get_or ks (suc n - 1) 0) (get_or ns (suc n - 1) 0)) 31 (suc n) (omega arith))

final-told : (f : File) (ks ns : List ℕ) → AllTold (W.final f ks ns)
unfolding W.final
final-told f ks ns =
    by_cond AllTold (eqb f.vacuum 0) [] _ (λ z. tt)
    (λ z. joined (W.entry_checks f ks ns f.N) _ (entries-told f ks ns f.N)
    (check-told (eqb f.vacuum (W.largest_root ks f.N)) 32 1 (omega arith)))

names-told : (f : File) (ks ordered : List ℕ) → AllTold (W.name_checks f ks ordered)
unfolding W.name_checks
names-told f ks [] = tt
names-told f ks (r ∷ rs) = joined (W.check (W.is_index_root f ks r) 35 r) _ (check-told (W.is_index_root f ks r) 35 r (omega arith)) (names-told f ks rs)

finish-numbered : (ordered : List ℕ) (f : File) (o : W.Outcome) → Numbered o → NumberedV (W.finish ordered f o)
unfolding W.finish
finish-numbered ordered f (W.went s) h =
    by_cond NumberedV (ltb (W.first_zero s.kinds) f.N) (W.refusal 30 (suc (W.first_zero s.kinds))) _ (λ z. omega arith)
    (λ z. settle-numbered (W.final f s.kinds s.namers ++ W.name_checks f s.kinds ordered) s.kinds s.namers
    (joined (W.final f s.kinds s.namers) _ (final-told f s.kinds s.namers) (names-told f s.kinds ordered)))
finish-numbered ordered f (W.refused n p) h = h

verdict-numbered : (ordered : List ℕ) (f : File) → NumberedV (W.verdict_for ordered f)
unfolding W.verdict_for
verdict-numbered ordered f = finish-numbered ordered f _ (run-numbered f.N (W.blank f) (W.events ordered f) (events-told ordered f))

abbrev NumberedA : (N : ℕ) → D.Answer → Type 0
NumberedA N (D.Accepted n k) = n ≡ N
NumberedA N (D.Refused number page) = 1 ≤ number

answer-numbered : (f : File) (v : W.Verdict) → NumberedV v → NumberedA f.N (answer_of f v)
answer-numbered f (W.accepted ks ns) h = refl
answer-numbered f (W.refusal n p) h = h

pub is-numbered : (b ordered : List ℕ) (k n s : ℕ) → NumberedA (pages_of b) (verdict_is b ordered k n s)
unfolding verdict_is
is-numbered b ordered k n s =
    by_cond (NumberedA (pages_of b)) (eqb (header_refusal b) 0) _ (refused (header_refusal b) 0)
    (λ t. by_cond (NumberedA (pages_of b)) (bad34 ordered b) (refused 34 0) _ (λ y. omega arith)
    (λ x. by_cond (NumberedA (pages_of b)) (too_small (pages_of b) k n s) (refused 12 0) _ (λ y. omega arith)
    (λ y. subst (λ (N : ℕ). NumberedA N (answer_of f (W.verdict_for ordered f))) (N-field b)
    (answer-numbered f (W.verdict_for ordered f) (verdict-numbered ordered f)))))
    (λ t. let z = eqb-false (header_refusal b) 0 t in omega arith)
  where
    f : File
    f = file_of b

-- the answer accepts, for C as for the library
pub accepts-same : (N : ℕ) (a : D.Answer) → NumberedA N a → {y : UrkVerdict} → y ≡ verdict_c a → (n k : ℕ) → Accepts a n k ↔ AcceptsC y n k
accepts-same N (D.Accepted m l) h e n k = (
  λ w.
      let i : m ≡ n = cc in
      let j : l ≡ k = cc in
      (ap (λ (u : UrkVerdict). u.refusal) e, ap (λ (u : UrkVerdict). u.pages) e ∙ i, ap (λ (u : UrkVerdict). u.long_spellings) e ∙ j),
  λ w.
      let i : m ≡ n = sym (ap (λ (u : UrkVerdict). u.pages) e) ∙ w.1 in
      let j : l ≡ k = sym (ap (λ (u : UrkVerdict). u.long_spellings) e) ∙ w.2 in
      ap (λ (x : ℕ). D.Accepted x l) i ∙ ap (D.Accepted n) j,
)
accepts-same N (D.Refused number page) h e n k = (
  λ w. absurd (let z : ◌≡◌ {A = ℕ} 0 1 = cc in omega arith),
  λ w. absurd (let z = ap (λ (u : UrkVerdict). u.refusal) e in omega (arith, w.0)),
)
