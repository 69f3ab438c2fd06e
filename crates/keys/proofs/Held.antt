-- The record that is held: when it can be had, and how it compares.
use Prim.Native.Nat.{ℕ, ◌+◌, ◌-◌, ◌≤◌, ◌<◌}
use mathlib.Core.Path.{◌≡◌, refl, sym, ap, ◌∙◌}
use mathlib.Core.Bool.{Bool, true, false, cond}
use mathlib.Core.Option.{some}
use mathlib.Core.List.{List, ◌∷◌, ◌++◌, append_assoc, []}
use lib.Dec.{eqb, ltb, leb}
use mathlib.Core.Logic.{⊎_elim}
use Rattle.number.proofs.Cases.{lt-or-ge}
use lib.ListN.{length, take, drop, length-append}
use lib.Seq.{take_at, take-append-le, take-take, take_all, drop_at, length-take-le}
use native.Mathlib.Omega.{arith}
use borrow.Author.Tests.{eqb-false, ltb-false, ne_eqb, le-ltb, lt-ltb, lt-leb, le-leb}
use Rattle.number.specs.Bytes.{part}
use Rattle.header.specs.declared.Header.{Header}
use Rattle.header.specs.Header.{usable_of}
use Rattle.cell.specs.declared.Cell.{Cell}
use Rattle.cell.specs.Cell.{cell_links}
use Rattle.std.proofs.Common.{Result, Ok, Err}
use Rattle.std.specs.Result.{is_ok}
use Rattle.refusal.specs.declared.Refusal.{Refusal}
use Rattle.lookup.specs.Answers.{followed_of}
use Rattle.record.specs.Record.{Types, broken, types, types_of, reads, reads_of}
use Rattle.order.specs.Order.{Value, Order, less, same, more, is_less, of_lists, of_records}
use Rattle.compare.specs.Values.{Values, unread, values, values_by, values_of, list_of, told, answered, order_by, order_of}
use Rattle.dealing.specs.Good.{a_record}
use Rattle.dealing.specs.Walk.{entry, follows, state, run, went, refused}
use Rattle.dealing.specs.Lookup.{Followed, whole, stops, follow_cell}
use Rattle.dealing.proofs.RunLaws.{run_none, run-entry, run-entry-bad}
use Rattle.paging.specs.Pages.{over}
use Rattle.image.specs.Payload.{cell_bytes}
use Rattle.image.specs.Image.{file_of}
use Rattle.image.specs.Ready.{Opened}
use Rattle.image.proofs.Shape.{shape}
use Rattle.payload.specs.Copy.{Fetchable}
use Rattle.ledger.specs.Ledger.{on_page, is_whole, copies, holding, cell_from, held_in, held_mark, mark_of, state_of}
use Rattle.ledger.specs.declared.Held.{Held}
use Rattle.ledger.specs.declared.Last.TheVariants.{Nothing, Row, Key, Entry}
use Rattle.ledger.specs.declared.Tree as T
use Rattle.keys.specs.Keys.{less_in}

-- a test that passed
passed : (b x : Bool) → cond b false x ≡ true → (b ≡ false) × (x ≡ true)
passed true x e = absurd (let z : ◌≡◌ {A = ℕ} 0 1 = cc in omega arith)
passed false x e = (refl, e)

both : (b x : Bool) → cond b x false ≡ true → (b ≡ true) × (x ≡ true)
both true x e = (refl, e)
both false x e = absurd (let z : ◌≡◌ {A = ℕ} 0 1 = cc in omega arith)

is-whole : (f : Followed) → is_whole f ≡ true → f ≡ whole
is-whole whole e = refl
is-whole (stops n p) e = absurd (let z : ◌≡◌ {A = ℕ} 0 1 = cc in omega arith)

pub record OnPage (n u p : ℕ) (c : Cell) : Type 0 where
  pub low : 1 ≤ p
  pub high : p ≤ n
  pub split : c.local ≤ c.payload
  pub limit : c.payload ≤ 65536
  pub within : c.start + c.local ≤ u

pub on-page : (n u p : ℕ) (c : Cell) → on_page n u p c ≡ true → OnPage n u p c
unfolding on_page
on-page n u p c e =
    let a = passed (eqb p 0) _ e in
    let m = passed (ltb n p) _ a.1 in
    let l = passed (ltb c.payload c.local) _ m.1 in
    let k = passed (ltb 65536 c.payload) _ l.1 in
    let f = passed (ltb u c.start) _ k.1 in
    let t = passed (ltb (u - c.start) c.local) _ f.1 in
    let some = eqb-false p 0 a.0 in
    let from = ltb-false u c.start f.0 in
    let to = ltb-false (u - c.start) c.local t.0 in
    record {
      low = omega arith;
      high = ltb-false n p m.0;
      split = ltb-false c.payload c.local l.0;
      limit = ltb-false 65536 c.payload k.0;
      within = omega arith;
    }

page-on : (n u p : ℕ) (c : Cell) → OnPage n u p c → on_page n u p c ≡ true
unfolding on_page
page-on n u p c g =
    rw (
      ne_eqb p 0 (λ e. omega (arith, g.low)),
      le-ltb n p g.high,
      le-ltb c.payload c.local g.split,
      le-ltb 65536 c.payload g.limit,
      le-ltb u c.start (omega (arith, g.within)),
      le-ltb (u - c.start) c.local (omega (arith, g.within)),
    )

not-over : (x y : ℕ) → leb y x ≡ cond (ltb x y) false true
not-over x y = ⊎_elim (λ (l : x < y). rw (lt-ltb x y l, lt-leb y x l) refl) (λ (l : y ≤ x). rw (le-ltb x y l, le-leb y x l) refl) (lt-or-ge x y)

-- all tests but the last passed
pub on-last : (n u p : ℕ) (c : Cell) → (p ≡ 0 → ⊥) → p ≤ n → c.local ≤ c.payload → c.payload ≤ 65536 → c.start ≤ u → leb c.local (u - c.start) ≡ on_page n u p c
unfolding on_page
on-last n u p c a b l k s =
    rw (ne_eqb p 0 a, le-ltb n p b, le-ltb c.payload c.local l, le-ltb 65536 c.payload k, le-ltb u c.start s) (not-over (u - c.start) c.local)

module _ (b : List ℕ) (h : Header) (p : ℕ) (c : Cell) where
  on_pages : Opened b h → on_page h.pages h.usable p c ≡ on_page (file_of b).N (usable_of b) p c
  on_pages o = ap (λ n. on_page n h.usable p c) (sym (shape o).N-is) ∙ ap (λ u. on_page (file_of b).N u p c) (shape o).usable_is

  -- the ways out of the test whether a payload can be copied
  pub copies-off : Opened b h → false ≡ on_page h.pages h.usable p c → false ≡ copies b p c
  unfolding copies
  copies-off o e = rw (sym (e ∙ on_pages o))

  pub copies-by : (x : Bool) (links : ℕ) (f : Followed) → Opened b h → true ≡ on_page h.pages h.usable p c
      → links ≡ cell_links h.usable c → follow_cell (file_of b) p links c.first ≡ f → x ≡ is_whole f → x ≡ copies b p c
  unfolding copies
  copies-by x links f o e l g k =
      k ∙ ap is_whole (sym g) ∙ ap (λ n. is_whole (follow_cell (file_of b) p n c.first)) (l ∙ ap (λ u. cell_links u c) (shape o).usable_is)
      ∙ sym (rw (sym (e ∙ on_pages o)) refl)

  pub copies-fetchable : Opened b h → copies b p c ≡ true → Fetchable b h p c 65536
  unfolding copies
  copies-fetchable o e =
      let s = shape o in
      let a = both (on_page (file_of b).N (usable_of b) p c) _ e in
      let g = on-page (file_of b).N (usable_of b) p c a.0 in
      record {
        at = record { opened = o; low = g.low; high = omega (arith, g.high, s.N-is) };
        split = g.split;
        within = omega (arith, g.within, s.usable_is);
        chain = is-whole (follow_cell (file_of b) p (cell_links (usable_of b) c) c.first) a.1;
        fits = g.limit;
      }

  pub fetchable-copies : Fetchable b h p c 65536 → copies b p c ≡ true
  unfolding copies
  fetchable-copies g =
      let s = shape g.at.opened in
      let o : OnPage (file_of b).N (usable_of b) p c = record {
        low = g.at.low;
        high = omega (arith, g.at.high, s.N-is);
        split = g.split;
        limit = g.fits;
        within = omega (arith, g.within, s.usable_is);
      } in
      rw (page-on (file_of b).N (usable_of b) p c o) (ap is_whole g.chain)

  pub held-is : Fetchable b h p c 65536 → held_in b p c ≡ values_of (cell_bytes b p c)
  unfolding held_in
  held-is g = rw (fetchable-copies g)

  pub held_none : copies b p c ≡ false → held_in b p c ≡ unread
  unfolding held_in
  held_none e = rw e

-- what is held of a cell is enough
held_small : (b : List ℕ) (p : ℕ) (c : Cell) → held_in b p (cell_from (holding p c)) ≡ held_in b p c
unfolding held_in copies on_page
held_small b p c = refl

-- the values of a record that reads
pub values-read : (x : List ℕ) → reads_of x ≡ true → values_of x ≡ values (list_of (values_of x))
unfolding reads_of values_of
values-read x e = go (types_of x) e
  where
    go : (t : Types) → reads t ≡ true → values_by x t ≡ values (list_of (values_by x t))
    go broken e = absurd (let z : ◌≡◌ {A = ℕ} 0 1 = cc in omega arith)
    go (types ts) e = refl

-- nothing is less than a record of no columns
none-less : (v : List Value) → is_less (of_records v []) ≡ false
unfolding of_lists
none-less [] = refl
none-less (x ∷ v) = refl

told-less : (o : Order) → less_in (answered (told o)) ≡ is_less o
told-less less = refl
told-less same = refl
told-less more = refl

by_values : (v w : Values) → less_in (order_by v w) ≡ follows (some (held_mark v)) (a_record (list_of w))
by_values unread w = refl
by_values (values v) unread = sym (none-less v)
by_values (values v) (values w) = told-less (of_records v w)

-- a chain that was followed to its end
pub ok-whole : (r : Result Unit Refusal) → is_ok r ≡ is_whole (followed_of r)
ok-whole (Ok x) = refl
ok-whole (Err e) = refl

-- the comparison of the held record with the next is what the run tests
pub order-follows : (x y : List ℕ) → less_in (order_of x y) ≡ follows (some (held_mark (values_of x))) (a_record (list_of (values_of y)))
unfolding order_of
order-follows x y = by_values (values_of x) (values_of y)

-- two payloads copied side by side: the first from 0 on, the second from `half` on
module _ (half : ℕ) (w w₁ w₂ x y : List ℕ) (m n : ℕ) (room : half ≤ length w₁) (mx : length x ≡ m) (ny : length y ≡ n) (lm : m ≤ half)
    (e₁ : w₁ ≡ over w 0 x) (e₂ : w₂ ≡ over w₁ half y) where
  abbrev front : List ℕ
  front = take half w₁

  front_long : length front ≡ half
  front_long = length-take-le half w₁ room

  joined : take (half + n) w₂ ≡ front ++ y
  joined =
      let d = drop (half + length y) w₁ in
      ap (take (half + n)) (e₂ ∙ sym (append_assoc front y d)) ∙ take_at (front ++ y) d (half + n) (length-append front y ∙ omega (arith, front_long, ny))

  first-half : take m (front ++ y) ≡ x
  first-half =
      take-append-le m front y (omega (arith, front_long, lm))
      ∙ take-take m half w₁ lm
      ∙ ap (take m) e₁
      ∙ take_at x (drop (0 + length x) w) m mx

  second-half : part (front ++ y) half (length (front ++ y) - half) ≡ y
  second-half =
      ap (take (length (front ++ y) - half)) (drop_at front y half front_long)
      ∙ take_all (length (front ++ y) - half) y (omega (arith, length-append front y, front_long))

  pub halves : less_in (order_of (take m (take (half + n) w₂)) (part (take (half + n) w₂) half (length (take (half + n) w₂) - half))) ≡ less_in (order_of x y)
  halves =
      ap (λ z. less_in (order_of (take m z) (part z half (length z - half)))) joined
      ∙ ap (λ z. less_in (order_of z (part (front ++ y) half (length (front ++ y) - half)))) first-half
      ∙ ap (λ z. less_in (order_of x z)) second-half

-- what the walk hands on behind a cell
abbrev pub handed_on : Held → (leaf_at : ℕ) → T.Tree
handed_on e l = record { last = Entry e; leaf_at = l }

-- what comes of the test of the held record
module _ (b : List ℕ) (h : Header) (q p : ℕ) (d c : Cell) where
  abbrev pub follows-held : Bool
  follows-held = follows (some (held_mark (held_in b q d))) (a_record (list_of (values_of (cell_bytes b p c))))

  pub held-lost : false ≡ copies b q d → false ≡ follows-held
  held-lost k = sym (ap (λ v. follows (some (held_mark v)) (a_record (list_of (values_of (cell_bytes b p c))))) (held_none b h q d (sym k)))

  pub held-compared : (x : Bool) → Fetchable b h q d 65536 → x ≡ less_in (order_of (cell_bytes b q d) (cell_bytes b p c)) → x ≡ follows-held
  held-compared x f k =
      k ∙ order-follows (cell_bytes b q d) (cell_bytes b p c)
      ∙ sym (ap (λ v. follows (some (held_mark v)) (a_record (list_of (values_of (cell_bytes b p c))))) (held-is b h q d f))

-- the run's test of the next record
module _ (b : List ℕ) (h : Header) (p : ℕ) (c : Cell) (g : Fetchable b h p c 65536) (r : reads_of (cell_bytes b p c) ≡ true) (N : ℕ) (ks ns : List ℕ)
    (t : T.Tree) where
  abbrev key : List Value
  key = list_of (values_of (cell_bytes b p c))

  abbrev next : T.Tree
  next = handed_on (holding p c) t.leaf_at

  held : some (a_record key) ≡ mark_of b (Entry (holding p c))
  held = sym (ap (λ v. some (held_mark v)) (held_small b p c ∙ held-is b h p c g ∙ values-read (cell_bytes b p c) r))

  goes : (x : T.Tree) → x ≡ next → follows (mark_of b t.last) (a_record key) ≡ true → run N (state_of b ks ns t) (entry p key ∷ []) ≡ went (state_of b ks ns x)
  goes x n e =
      run-entry N (state_of b ks ns t) [] p key e ∙ run_none N _ ∙ ap (λ m. went (state ks ns m t.leaf_at)) held
      ∙ ap (λ y. went (state_of b ks ns y)) (sym n)

  refuses : follows (mark_of b t.last) (a_record key) ≡ false → run N (state_of b ks ns t) (entry p key ∷ []) ≡ refused 33 p
  refuses e = run-entry-bad N (state_of b ks ns t) [] p key e

  pub entry_first : (x : T.Tree) → x ≡ next → t.last ≡ Nothing → run N (state_of b ks ns t) (entry p key ∷ []) ≡ went (state_of b ks ns x)
  entry_first x n e = goes x n (ap (λ m. follows (mark_of b m) (a_record key)) e)

  pub entry_row : (x : ℕ) → t.last ≡ Row x → run N (state_of b ks ns t) (entry p key ∷ []) ≡ refused 33 p
  entry_row x e = refuses (ap (λ m. follows (mark_of b m) (a_record key)) e)

  pub entry_key : (x : ℕ) → t.last ≡ Key x → run N (state_of b ks ns t) (entry p key ∷ []) ≡ refused 33 p
  entry_key x e = refuses (ap (λ m. follows (mark_of b m) (a_record key)) e)

  module _ (x : Held) (e : t.last ≡ Entry x) where
    pub entry_more : true ≡ follows (some (held_mark (held_in b x.page (cell_from x)))) (a_record key) → (y : T.Tree) → y ≡ next
        → run N (state_of b ks ns t) (entry p key ∷ []) ≡ went (state_of b ks ns y)
    entry_more k y n = goes y n (ap (λ m. follows (mark_of b m) (a_record key)) e ∙ sym k)

    pub entry-not : false ≡ follows (some (held_mark (held_in b x.page (cell_from x)))) (a_record key)
        → run N (state_of b ks ns t) (entry p key ∷ []) ≡ refused 33 p
    entry-not k = refuses (ap (λ m. follows (mark_of b m) (a_record key)) e ∙ sym k)
