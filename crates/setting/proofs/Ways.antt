-- The ways out of the code: whether a leaf may be written, its room, building it, judging a cell that was found, the plan, and the whole.
use Prim.Native.Nat.{ℕ, ◌+◌, ◌-◌, ◌*◌, ◌≤◌, ◌<◌}
use mathlib.Core.Path.{◌≡◌, refl, sym, ap, ap₂, subst, ◌∙◌}
use mathlib.Core.Bool.{Bool, true, false, cond, true≢false}
use mathlib.Core.Logic.{◌≢◌, ◌⊎◌, inl, inr, ⊎_elim}
use mathlib.Core.List.{List}
use lib.Dec.{eqb, leb, ltb}
use lib.IntN.{ℤ}
use lib.ListN.{length, get_or, take, drop}
use lib.Seq.{take_at}
use native.Mathlib.Omega.{arith}
use borrow.Author.Rules.{rules}
use mir.Syntax.{w64}
use mir.Val.{SFits}
use borrow.Author.Tests.{eq-eqb, ne_eqb, eqb-true, eqb-false, le-ltb, le-leb, lt-leb, leb-true, ltb-false}
use Rattle.number.proofs.Cases.{true-or-false}
use Rattle.number.proofs.SpellingLaws.{varint-size}
use Rattle.number.specs.Bytes as B
use Rattle.paging.specs.Pages.{over}
use Rattle.paging.proofs.PagesLaws.{page-fits}
use Rattle.header.specs.declared.Header.{Header}
use Rattle.header.specs.Header.{size_of, usable_of, page_of, header_in, header_of, header_refusal, Within}
use Rattle.std.specs.Prelude.{Result, Ok, Err, IsOk}
use Rattle.header.specs.Told.{told}
use Rattle.header.proofs.Laws.{told-number, told-is}
use Rattle.refusal.specs.declared.Rule.{Rule}
use Rattle.refusal.proofs.Laws.{number-some}
use Rattle.header.proofs.Laws.{page-length}
use Rattle.record.specs.Record.{reads_of}
use Rattle.cell.specs.declared.Cell as D
use Rattle.cell.specs.Split.{table_leaf, max_local}
use Rattle.cell.specs.Cell.{cell_links}
use Rattle.page.specs.Header.{page_type, cell_count}
use Rattle.page.specs.Fault.{sound_fault}
use Rattle.dealing.specs.File.{Cell, Page, is_leaf, is_table, table_page, suits}
use Rattle.dealing.specs.Good.{Dealing}
use Rattle.dealing.specs.Walk.{fault_in, in_range}
use Rattle.dealing.specs.Lookup as K
use Rattle.dealing.proofs.Passed.{range-in, in-range}
use Rattle.image.specs.Pages.{page_in, head_of, cell_in}
use Rattle.image.specs.Image.{file_of}
use Rattle.image.specs.Good.{GoodDealing, TableRoot}
use Rattle.image.specs.Ready.{Opened, PageAt}
use Rattle.image.proofs.Fields as F
use Rattle.image.proofs.Shape.{Shape, shape, at-within}
use Rattle.lookup.specs.Answers.{lookup_of}
use Rattle.lookup.specs.Ready.{CellOn}
use Rattle.lookup.specs.Found as Fo
use Rattle.lookup.proofs.Ways.{readable}
use Rattle.lookup.proofs.Theorems.{opened-image, finds}
use Rattle.lookup.proofs.Shown.{shown-cell}
use Rattle.setting.specs.declared.Plan as Pl
use Rattle.setting.specs.declared.Room as Ro
use Rattle.setting.specs.declared.Outcome as Se
use Rattle.setting.specs.Relaid.{stacked, leaf_room, leaf_page, cells_for, relaid, Settable}
use Rattle.setting.specs.Laying.{SoundLeaf, sizes_with, new_cell, cells_anew}
use Rattle.setting.specs.Answers.{may_write, fit_for, refusal_for, refused_of, settled, answer_for, image_for, set_of, image_after, Own, Means, FoundAt}
use Rattle.setting.specs.Answers.{start_for, Ready, idle, Judged, Planned}
use Rattle.setting.proofs.Keeps.{leaf-type}
use Rattle.setting.proofs.LeafLaid.{leaf-length}
use Rattle.setting.proofs.LeafRelaid.{cells-length}
use Rattle.setting.proofs.LayLaws.{new-length, sizes-are}
use Rattle.setting.proofs.Theorems.{relaid_good}

-- ---- whether it may be written
module _ (ks : List ℕ) (root page : ℕ) where
  pub may-told : 2 ≤ root → page ≢ 1 → eqb (get_or ks (root - 1) 0) 1 ≡ may_write ks root page
  may-told a n = rw (le-ltb root 2 a, ne_eqb page 1 n) refl

  -- what it says
  pub may-says : may_write ks root page ≡ true → (2 ≤ root) × (page ≢ 1) × (get_or ks (root - 1) 0 ≡ 1)
  may-says e = go (ltb root 2) refl (eqb page 1) refl (eqb (get_or ks (root - 1) 0) 1) refl e
    where
      go : (x : Bool) → ltb root 2 ≡ x → (y : Bool) → eqb page 1 ≡ y → (z : Bool) → eqb (get_or ks (root - 1) 0) 1 ≡ z
          → cond x false (cond y false z) ≡ true → (2 ≤ root) × (page ≢ 1) × (get_or ks (root - 1) 0 ≡ 1)
      go true a y b z c e = absurd (true≢false (sym e))
      go false a true b z c e = absurd (true≢false (sym e))
      go false a false b false c e = absurd (true≢false (sym e))
      go false a false b true c e = (ltb-false root 2 a, eqb-false page 1 b, eqb-true _ _ c)

-- ---- its room
pub new-bound : (u : ℕ) (row : ℤ) (s : List ℕ) → 480 ≤ u → u ≤ 65536 → length s ≤ u - 35 → length (new_cell u row s) ≤ 65536
new-bound u row s h m l = omega (arith, new-length u row s h l, varint-size (length s), varint-size (B.word_of row))

pub small-new : (u : ℕ) (row : ℤ) (s : List ℕ) (n : ℕ) → n ≡ length (new_cell u row s) → 480 ≤ u → u ≤ 65536 → length s ≤ u - 35 → n ≤ 65536
small-new u row s n e h m l = omega (arith, new-bound u row s h m l)

module _ (p : List ℕ) (u cell : ℕ) (row row' : ℤ) (s : List ℕ) (count n total : ℕ) (same : row' ≡ row) (c : count ≡ cell_count p 0)
    (e : n ≡ length (new_cell u row' s)) (t : total ≡ sizes_with p u cell n 0 count) where
  all-sizes : length (stacked (cells_anew p u cell row s)) ≡ total
  all-sizes =
      sizes-are p u cell (new_cell u row s) 0 (cell_count p 0)
      ∙ ap₂ (λ m k. sizes_with p u cell m 0 k) (sym (e ∙ ap (λ r. length (new_cell u r s)) same)) (sym c) ∙ sym t

  all_room : leaf_room (cells_anew p u cell row s) ≡ 8 + 2 * count + total
  all_room = omega (arith, all-sizes, cells-length p u cell (new_cell u row s) 0 (cell_count p 0), c)

  pub no_room : u < 8 + 2 * count + total → (count ≡ cell_count p 0) × (0 ≡ start_for u (cells_anew p u cell row s))
  no_room l = (c, sym (ap (λ (x : Bool). cond x (u - length (stacked (cells_anew p u cell row s))) 0) (lt-leb (leaf_room (cells_anew p u cell row s)) u (omega (arith, all_room)))))

  pub has_room : 8 + 2 * count + total ≤ u → (count ≡ cell_count p 0) × (u - total ≡ start_for u (cells_anew p u cell row s))
  has_room l = (
    c,
    ap (λ k. u - k) (sym all-sizes)
        ∙ sym (ap (λ (x : Bool). cond x (u - length (stacked (cells_anew p u cell row s))) 0) (le-leb (leaf_room (cells_anew p u cell row s)) u (omega (arith, all_room)))),
  )

-- ---- building it
module _ (b o o₁ : List ℕ) (page cell : ℕ) (row row' : ℤ) (s : List ℕ) (size u count start : ℕ) (same : row' ≡ row)
    (w : Ready b page cell row s size u count start) (e : o₁ ≡ over o 0 (leaf_page u (cells_anew (page_in b page) u cell row' s))) where
  abbrev L : List ℕ
  L = leaf_page u (cells_anew (page_in b page) u cell row s)

  L-long : length L ≡ u
  L-long = leaf-length u (cells_anew (page_in b page) u cell row s) w.may.fits

  pub laid-front : take u o₁ ≡ L
  laid-front = ap (take u) (e ∙ ap (λ z. over o 0 (leaf_page u (cells_anew (page_in b page) u cell z s))) same) ∙ take_at L (drop (0 + length L) o) u L-long

  pub laid-whole : (at : ℕ) → at ≡ (page - 1) * size → (c : List ℕ) → c ≡ over b at (take u o₁) → c ≡ relaid b page cell row s
  laid-whole at f c g =
      g ∙ ap₂ (over b) (f ∙ ap (λ z. (page - 1) * z) w.size_is) laid-front
      ∙ ap (λ z. over b ((page - 1) * size_of b) (leaf_page z (cells_anew (page_in b page) z cell row s))) w.usable_is

pub set-done : (b b' i : List ℕ) (page cell : ℕ) (row row' : ℤ) (s : List ℕ) → row' ≡ row → b' ≡ relaid b page cell row' s → i ≡ relaid b page cell row s → b' ≡ i
set-done b b' i page cell row row' s same e f = e ∙ ap (λ z. relaid b page cell z s) same ∙ sym f

-- ---- a cell that lookup shows
fit_parts : (x : Bool) (n : ℕ) → cond x n 22 ≡ 0 → (x ≡ true) × (n ≡ 0)
fit_parts true n e = (refl, e)
fit_parts false n e = absurd (omega arith)

pub found_at : (b : List ℕ) (root : ℕ) (row : ℤ) (page cell n : ℕ) → Fo.At page cell n ≡ lookup_of b root row → FoundAt b page cell
unfolding fault_in suits is_leaf
found_at b root row page cell n e =
    let w = shown-cell b root row page cell n (sym e) in
    let c = w.1 in
    let p = fit_parts (suits table_page ((file_of b).type page)) ((file_of b).broken page) c.fit in
    record {
      passes = w.0;
      in_file = c.page;
      type = leaf-type ((file_of b).type page) c.leaf p.0;
      sound = p.1;
      index = c.index;
    }

-- the payload has no chain, and the record needs none
pub record Slim (b : List ℕ) (page cell u : ℕ) (s : List ℕ) : Type 0 where
  pub whole : ((file_of b).cell page cell).links ≡ 0
  pub short : length s ≤ u - 35

-- what the header's check answers where it passes
pub header-ok : (b : List ℕ) → header_refusal b ≡ 0 → (r : Result Header Rule) → told r ≡ header_in b → IsOk r
header-ok b z (Ok h) e = search rules
header-ok b z (Err rule) e = absurd (number-some rule (told-number b rule e ∙ z))

pub header-is : (b : List ℕ) (r : Result Header Rule) (h : Header) → told r ≡ header_in b → r ≡ Ok h → h ≡ header_of b
header-is b r h e k = told-is b h (sym (ap told k) ∙ e)

module _ (b : List ℕ) (page cell : ℕ) (w : FoundAt b page cell) (h : Header) (is : h ≡ header_of b) where
  opened : Opened b h
  opened = subst (Opened b) (sym is) (opened-image b w.passes)

  pub form : Shape b h
  form = shape opened

  pub page-at : PageAt b h page
  page-at = record { opened = opened; low = w.in_file.0; high = omega (arith, form.N-is, w.in_file.1) }

  pub within : Within b h.size page
  within = at-within page-at

  pub bounds : (480 ≤ h.usable) × (h.usable ≤ 65536)
  bounds = (form.used, omega (arith, form.inside, form.most))

  -- a page but the first has its header at byte 0
  pub leaf : page ≢ 1 → SoundLeaf (page_in b page) h.usable
  leaf n =
      let head : head_of page ≡ 0 = ap (λ (t : Bool). cond t 100 0) (ne_eqb page 1 n) in
      let long : length (page_in b page) ≡ size_of b =
      subst (λ z. length (page_of b z page) ≡ z) form.size_is (page-length b h.size page within) in
      record {
        least = form.used;
        most = omega (arith, form.inside, form.most);
        whole = omega (arith, long, form.inside, form.size_is);
        type = ap (page_type (page_in b page)) (sym head) ∙ sym (F.type-field b page) ∙ w.type;
        sound = ap₂ (sound_fault (page_in b page)) form.usable_is (sym head) ∙ sym (F.broken-field b page) ∙ w.sound;
      }

  module _ (c : D.Cell) (here : c ≡ cell_in b page cell) where
    pub cell-on : CellOn b h page cell c
    cell-on = readable page-at w.sound w.index here

    links-are : ((file_of b).cell page cell).links ≡ cell_links h.usable c
    links-are =
        ap (λ (x : Cell). x.links) (F.cell_field b page cell) ∙ ap (λ u. cell_links u (cell_in b page cell)) (sym form.usable_is)
        ∙ ap (cell_links h.usable) (sym here)

  fits_in : (page - 1) * h.size + h.usable ≤ length b
  fits_in =
      let f = page-fits page h.pages h.size w.in_file.0 (omega (arith, form.N-is, w.in_file.1)) in
      omega (arith, f, form.within, form.inside)

  -- ---- 54, or it fits
  module _ (row : ℤ) (s : List ℕ) where
    no : fit_for b page cell row s ≡ 54 → (r : Pl.Plan) → r ≡ idle 54 page → Judged b (fit_for b page cell row s) page cell row s r
    no e r i =
        subst (Judged b (fit_for b page cell row s) page cell row s) (sym i)
        (record { answer = rw e refl; ready = λ x. absurd (true≢false (sym x)); rest = λ x y. omega (arith, e) })

    module _ (c : D.Cell) (here : c ≡ cell_in b page cell) (links : ℕ) (k : links ≡ cell_links h.usable c) where
      linked : ((file_of b).cell page cell).links ≡ links
      linked = links-are c here ∙ sym k

      pub chained : links ≢ 0 → (r : Pl.Plan) → r ≡ idle 54 page → Judged b (fit_for b page cell row s) page cell row s r
      unfolding fit_for
      chained z = no (rw (ne_eqb ((file_of b).cell page cell).links 0 (λ e. z (sym linked ∙ e))) refl)

      module _ (none : links ≡ 0) (most : ℕ) (m : most ≡ max_local h.usable table_leaf) where
        free : eqb ((file_of b).cell page cell).links 0 ≡ true
        free = eq-eqb _ 0 (linked ∙ none)

        at_most : most ≡ max_local (usable_of b) table_leaf
        at_most = m ∙ ap (λ u. max_local u table_leaf) form.usable_is

        pub too_long : most < length s → (r : Pl.Plan) → r ≡ idle 54 page → Judged b (fit_for b page cell row s) page cell row s r
        unfolding fit_for
        too_long l = no (rw (free, lt-leb (length s) (max_local (usable_of b) table_leaf) (omega (arith, at_most))) refl)

        pub slim : length s ≤ most → Slim b page cell h.usable s
        slim l = record { whole = linked ∙ none; short = omega (arith, m) }

    -- all of it local before and after
    module _ (S : Slim b page cell h.usable s) where
      free-is : eqb ((file_of b).cell page cell).links 0 ≡ true
      free-is = eq-eqb _ 0 S.whole

      short : leb (length s) (max_local (usable_of b) table_leaf) ≡ true
      short = le-leb (length s) (max_local (usable_of b) table_leaf) (let e : max_local (usable_of b) table_leaf ≡ h.usable - 35 = ap (λ u. u - 35) (sym form.usable_is) in omega (arith, S.short))

      module _ (apart : page ≢ 1) (row' : ℤ) (same : row' ≡ row) (r : Ro.Room)
          (e : (r.count ≡ cell_count (page_in b page) 0) × (r.start ≡ start_for h.usable (cells_anew (page_in b page) h.usable cell row' s))) where
        abbrev cs : List (List ℕ)
        cs = cells_anew (page_in b page) h.usable cell row s

        start_is : r.start ≡ start_for h.usable cs
        start_is = e.1 ∙ ap (λ z. start_for h.usable (cells_anew (page_in b page) h.usable cell z s)) same

        here-same : (n : ℕ) → leb (leaf_room (cells_for b page cell row s)) (usable_of b) ≡ leb (leaf_room cs) h.usable
        here-same n = ap (λ u. leb (leaf_room (cells_anew (page_in b page) u cell row s)) u) (sym form.usable_is)

        by-start : (x : Bool) → leb (leaf_room cs) h.usable ≡ x → r.start ≡ cond x (h.usable - length (stacked cs)) 0
        by-start x z = start_is ∙ ap (λ (t : Bool). cond t (h.usable - length (stacked cs)) 0) z

        pub full : r.start ≡ 0 → (p : Pl.Plan) → p ≡ idle 54 page → Judged b (fit_for b page cell row s) page cell row s p
        unfolding fit_for
        full z = no (rw (free-is, short, here-same 0) (go (leb (leaf_room cs) h.usable) refl))
          where
            go : (x : Bool) → leb (leaf_room cs) h.usable ≡ x → ◌≡◌ {A = ℕ} (cond x 0 54) 54
            go true y = absurd (omega (arith, by-start true y, leb-true (leaf_room cs) h.usable y))
            go false y = refl

        roomy : r.start ≢ 0 → leb (leaf_room cs) h.usable ≡ true
        roomy z = go (leb (leaf_room cs) h.usable) refl
          where
            go : (x : Bool) → leb (leaf_room cs) h.usable ≡ x → x ≡ true
            go true y = refl
            go false y = absurd (z (by-start false y))

        zero-for : r.start ≢ 0 → fit_for b page cell row s ≡ 0
        unfolding fit_for
        zero-for z = rw (free-is, short, here-same 0, roomy z) refl

        pub may : (n : r.start ≢ 0) → Judged b (fit_for b page cell row s) page cell row s
            (record {
              ready = true;
              size = h.size;
              usable = h.usable;
              count = r.count;
              start = r.start;
              answer = record { refusal = 0; found = true; page = page; cell = cell; length = length s };
            })
        may n =
            let z = zero-for n in
            record {
              answer = rw z refl;
              ready = λ _. (
                z,
                record {
                  size_is = form.size_is;
                  usable_is = form.usable_is;
                  within = within;
                  few = omega (arith, form.few, form.N-is, w.in_file.1);
                  small = form.most;
                  fits = fits_in;
                  may = record {
                    leaf = leaf apart;
                    short = S.short;
                    fits = leb-true (leaf_room cs) h.usable (roomy n);
                    buffer = omega (arith, form.inside, form.most);
                  };
                  count_is = e.0;
                  start_is = by-start true (roomy n);
                },
              );
              rest = λ x. absurd (true≢false x);
            }

-- ---- 53, 28
module _ (b ks : List ℕ) (root page cell : ℕ) (row : ℤ) (s : List ℕ) where
  refused-by : (k : ℕ) → refusal_for b ks root page cell row s ≡ k → k ≢ 0 → (p : ℕ) → cond (eqb k 28) 0 page ≡ p → (r : Pl.Plan) → r ≡ idle k p
      → Judged b (refusal_for b ks root page cell row s) page cell row s r
  refused-by k e z p f r i =
      subst (Judged b (refusal_for b ks root page cell row s) page cell row s) (sym i)
      (record {
        answer = sym (ap (λ m. settled m page cell (length s)) e
            ∙ ap (λ (t : Bool). cond t (record { refusal = 0; found = true; page = page; cell = cell; length = length s })
            (refused_of k (cond (eqb k 28) 0 page))) (ne_eqb k 0 z) ∙ ap (refused_of k) f);
        ready = λ x. absurd (true≢false (sym x));
        rest = λ x y. z (sym e ∙ y);
      })

  pub not_there : false ≡ may_write ks root page → (r : Pl.Plan) → r ≡ idle 53 page → Judged b (refusal_for b ks root page cell row s) page cell row s r
  unfolding refusal_for
  not_there e = refused-by 53 (rw (sym e) refl) (λ z. omega arith) page refl

  module _ (may : true ≡ may_write ks root page) where
    pub unread : false ≡ reads_of s → (r : Pl.Plan) → r ≡ idle 28 0 → Judged b (refusal_for b ks root page cell row s) page cell row s r
    unfolding refusal_for
    unread e = refused-by 28 (rw (sym may, sym e) refl) (λ z. omega arith) 0 refl

    pub fitted : true ≡ reads_of s → (row' : ℤ) → row' ≡ row → (r : Pl.Plan) → Judged b (fit_for b page cell row' s) page cell row' s r
        → Judged b (refusal_for b ks root page cell row s) page cell row s r
    unfolding refusal_for
    fitted e row' same r j =
        let z : fit_for b page cell row s ≡ refusal_for b ks root page cell row s = unfold refusal_for in rw (sym may, sym e) refl in
        subst (λ k. Judged b k page cell row s r) z (subst (λ m. Judged b (fit_for b page cell m s) page cell m s r) same j)

-- ---- the plan, by what lookup answers
module _ (b ks : List ℕ) (root : ℕ) (row : ℤ) (s : List ℕ) where
  pub plan-none : Fo.Nothing ≡ lookup_of b root row → (r : Pl.Plan) → r ≡ idle 0 0 → Planned b ks root row s r
  unfolding set_of image_after
  plan-none e r i =
      subst (Planned b ks root row s) (sym i)
      (record { answer = ap (answer_for b ks root row s) e; ready = λ x. absurd (true≢false (sym x)); rest = λ _. sym (ap (image_for b ks root row s) e) })

  pub plan-refused : (number page : ℕ) → Fo.Refused number page ≡ lookup_of b root row → (r : Pl.Plan) → r ≡ idle number page
      → Planned b ks root row s r
  unfolding set_of image_after
  plan-refused number page e r i =
      subst (Planned b ks root row s) (sym i)
      (record { answer = ap (answer_for b ks root row s) e; ready = λ x. absurd (true≢false (sym x)); rest = λ _. sym (ap (image_for b ks root row s) e) })

  pub plan-at : (page cell n : ℕ) → Fo.At page cell n ≡ lookup_of b root row → (row' : ℤ) → row' ≡ row → (r : Pl.Plan)
      → Judged b (refusal_for b ks root page cell row' s) page cell row' s r → Planned b ks root row s r
  unfolding set_of image_after
  plan-at page cell n e row' same r j' =
      let j = subst (λ m. Judged b (refusal_for b ks root page cell m s) page cell m s r) same j' in
      let k = refusal_for b ks root page cell row s in
      record {
        answer = j.answer ∙ ap (answer_for b ks root row s) e;
        ready = λ x.
            let y = j.ready x in
            let a : r.answer ≡ record { refusal = 0; found = true; page = page; cell = cell; length = length s } =
            j.answer ∙ ap (λ m. settled m page cell (length s)) y.0 in
            let p : page ≡ r.answer.page = sym (ap (λ (z : Se.Outcome). z.page) a) in
            let q : cell ≡ r.answer.cell = sym (ap (λ (z : Se.Outcome). z.cell) a) in (
              sym (ap (image_for b ks root row s) e) ∙ ap (λ (t : Bool). cond t (relaid b page cell row s) b) (eq-eqb k 0 y.0)
                  ∙ ap₂ (λ p q. relaid b p q row s) p q,
              subst (λ p. Ready b p r.answer.cell row s r.size r.usable r.count r.start) p
                  (subst (λ q. Ready b page q row s r.size r.usable r.count r.start) q y.1),
            );
        rest = λ x. sym (ap (image_for b ks root row s) e) ∙ ap (λ (t : Bool). cond t (relaid b page cell row s) b) (ne_eqb k 0 (j.rest x));
      }

-- ---- what the answer means
-- no refusal: all tests passed
pub record Passes (b ks : List ℕ) (root page cell : ℕ) (row : ℤ) (s : List ℕ) : Type 0 where
  pub may : may_write ks root page ≡ true
  pub reads : reads_of s ≡ true
  pub whole : ((file_of b).cell page cell).links ≡ 0
  pub short : length s ≤ max_local (usable_of b) table_leaf
  pub room : leaf_room (cells_for b page cell row s) ≤ usable_of b

passes : (b ks : List ℕ) (root page cell : ℕ) (row : ℤ) (s : List ℕ) → refusal_for b ks root page cell row s ≡ 0 → Passes b ks root page cell row s
unfolding refusal_for fit_for
passes b ks root page cell row s e =
    go (may_write ks root page) refl (reads_of s) refl (eqb ((file_of b).cell page cell).links 0) refl (leb (length s) (max_local (usable_of b) table_leaf)) refl
    (leb (leaf_room (cells_for b page cell row s)) (usable_of b)) refl e
  where
    go : (x : Bool) → may_write ks root page ≡ x → (y : Bool) → reads_of s ≡ y → (z : Bool) → eqb ((file_of b).cell page cell).links 0 ≡ z → (v : Bool)
        → leb (length s) (max_local (usable_of b) table_leaf) ≡ v → (w : Bool) → leb (leaf_room (cells_for b page cell row s)) (usable_of b) ≡ w
        → ◌≡◌ {A = ℕ} (cond x (cond y (cond z (cond v (cond w 0 54) 54) 54) 28) 53) 0 → Passes b ks root page cell row s
    go false i y j z k v l w m e = absurd (omega arith)
    go true i false j z k v l w m e = absurd (omega arith)
    go true i true j false k v l w m e = absurd (omega arith)
    go true i true j true k false l w m e = absurd (omega arith)
    go true i true j true k true l false m e = absurd (omega arith)
    go true i true j true k true l true m e =
        record { may = i; reads = j; whole = eqb-true _ _ k; short = leb-true _ _ l; room = leb-true _ _ m }

-- a root under which lookup finds a row is a page, and a table's
module _ (b : List ℕ) (root : ℕ) (row : ℤ) (page cell n : ℕ) (e : Fo.At page cell n ≡ lookup_of b root row) (z : header_refusal b ≡ 0) where
  in_b : Page (file_of b) root
  unfolding lookup_of K.lookup
  in_b = go (in_range (file_of b).N root) refl
    where
      go : (x : Bool) → in_range (file_of b).N root ≡ x → Page (file_of b) root
      go true y = in-range (file_of b).N root y
      go false y = absurd (let q : Fo.At page cell n ≡ Fo.Refused 20 0 = e ∙ (unfold lookup_of K.lookup in rw (eq-eqb (header_refusal b) 0 z, y) refl) in
          let o : ◌≡◌ {A = ℕ} 0 1 = cc in omega arith)

  unfit : is_table (file_of b) root ≡ false → fault_in (file_of b) table_page root ≡ 22
  unfolding fault_in suits is_table
  unfit t = rw t refl

  refused : is_table (file_of b) root ≡ false → lookup_of b root row ≡ Fo.Refused 22 root
  unfolding lookup_of K.lookup K.lookup_page
  refused t = rw (eq-eqb (header_refusal b) 0 z, range-in (file_of b).N root in_b.0 in_b.1, unfit t) refl

  table-b : is_table (file_of b) root ≡ true
  table-b =
      ⊎_elim (λ t. t)
      (λ t. absurd (let q : Fo.At page cell n ≡ Fo.Refused 22 root = e ∙ refused t in let o : ◌≡◌ {A = ℕ} 0 1 = cc in omega arith))
      (true-or-false (is_table (file_of b) root))

-- a row that lookup finds and no test refuses may be set
pub settable-at : (b ks : List ℕ) (root : ℕ) (row : ℤ) (s : List ℕ) (page cell n : ℕ) → Fo.At page cell n ≡ lookup_of b root row
    → refusal_for b ks root page cell row s ≡ 0 → SFits w64 row → (d : Dealing) → GoodDealing b d → Own b d ks root → Settable b d root page cell row s
settable-at b ks root row s page cell n e x number d g own =
    let p = passes b ks root page cell row s x in
    let m = may-says ks root page p.may in
    let h = in_b b root row page cell n e g.passes in
    let t : TableRoot b d root =
    record { page = h; kind = sym (own h) ∙ m.2; table = table-b b root row page cell n e g.passes } in
    record {
      table = t;
      other = λ z. omega (arith, m.0);
      carries = (((finds g t row (Fo.At page cell n) e).shows page cell n).0 refl).0;
      number = number;
      whole = p.whole;
      reads = p.reads;
      short = p.short;
      room = p.room;
    }

module _ (b ks : List ℕ) (root : ℕ) (row : ℤ) (s : List ℕ) (number : SFits w64 row) (d : Dealing) (g : GoodDealing b d) (own : Own b d ks root) where
  by-lookup : (a : Fo.Found) → a ≡ lookup_of b root row → Means b (image_for b ks root row s a) d root row s (answer_for b ks root row s a)
  by-lookup Fo.Nothing e =
      record {
        done = λ y. absurd (true≢false (sym y));
        none = λ _ _ t. (finds g t row Fo.Nothing e).nothing.0 refl;
        kept = λ _. refl;
      }
  by-lookup (Fo.Refused number page) e =
      record {
        done = λ y. absurd (true≢false (sym y));
        none = λ _ _ t. absurd ((finds g t row (Fo.Refused number page) e).passes (number, page, refl));
        kept = λ _. refl;
      }
  by-lookup (Fo.At page cell n) e = go (true-or-false (eqb k 0))
    where
      k : ℕ
      k = refusal_for b ks root page cell row s

      image-is : (t : Bool) → eqb k 0 ≡ t → image_for b ks root row s (Fo.At page cell n) ≡ cond t (relaid b page cell row s) b
      image-is t x = ap (λ (t : Bool). cond t (relaid b page cell row s) b) x

      answer-is : (t : Bool) → eqb k 0 ≡ t → answer_for b ks root row s (Fo.At page cell n)
          ≡ cond t (record { refusal = 0; found = true; page = page; cell = cell; length = length s }) (refused_of k (cond (eqb k 28) 0 page))
      answer-is t x =
          ap (λ (t : Bool). cond t (record { refusal = 0; found = true; page = page; cell = cell; length = length s }) (refused_of k (cond (eqb k 28) 0 page))) x

      go : (eqb k 0 ≡ true) ⊎ (eqb k 0 ≡ false) → Means b (image_for b ks root row s (Fo.At page cell n)) d root row s
          (answer_for b ks root row s (Fo.At page cell n))
      go (inl x) =
          let R = settable-at b ks root row s page cell n e (eqb-true _ _ x) number d g own in
          subst (λ r. Means b (image_for b ks root row s (Fo.At page cell n)) d root row s r) (sym (answer-is true x))
          (subst (λ i. Means b i d root row s (record { refusal = 0; found = true; page = page; cell = cell; length = length s })) (sym (image-is true x))
          (record { done = λ _. (R.table, R.carries, relaid_good b d g root page cell row s R); none = λ _ y. absurd (true≢false y); kept = λ y. absurd (true≢false y) }))
      go (inr x) =
          subst (λ r. Means b (image_for b ks root row s (Fo.At page cell n)) d root row s r) (sym (answer-is false x))
          (record {
            done = λ y. absurd (true≢false (sym y));
            none = λ y. absurd (eqb-false _ _ x y);
            kept = λ _. image-is false x;
          })

  pub means : Means b (image_after b ks root row s) d root row s (set_of b ks root row s)
  unfolding image_after set_of
  means = by-lookup (lookup_of b root row) refl

-- an answer and an image as they are defined: what they mean
pub meant : (b b' ks : List ℕ) (root : ℕ) (row : ℤ) (s : List ℕ) (r : Se.Outcome) → SFits w64 row → r ≡ set_of b ks root row s → b' ≡ image_after b ks root row s
    → (d : Dealing) → GoodDealing b d → Own b d ks root → Means b b' d root row s r
meant b b' ks root row s r number e i d g own =
    subst (λ r. Means b b' d root row s r) (sym e)
    (subst (λ m. Means b m d root row s (set_of b ks root row s)) (sym i) (means b ks root row s number d g own))

-- where nothing was set the image is the old one
pub untouched : (b b' ks : List ℕ) (root : ℕ) (row : ℤ) (s : List ℕ) (r : Se.Outcome) → r ≡ set_of b ks root row s → b' ≡ image_after b ks root row s
    → r.found ≡ false → b' ≡ b
unfolding set_of image_after
untouched b b' ks root row s r e i no = i ∙ go (lookup_of b root row) (sym (ap (λ (z : Se.Outcome). z.found) e) ∙ no)
  where
    one : (x : Bool) (y z : Se.Outcome) (c : List ℕ) → y.found ≡ true → (cond x y z).found ≡ false → cond x c b ≡ b
    one true y z c f h = absurd (true≢false (sym f ∙ h))
    one false y z c f h = refl

    go : (a : Fo.Found) → (answer_for b ks root row s a).found ≡ false → image_for b ks root row s a ≡ b
    go Fo.Nothing h = refl
    go (Fo.Refused number page) h = refl
    go (Fo.At page cell n) h = one (eqb (refusal_for b ks root page cell row s) 0) _ _ (relaid b page cell row s) refl h
