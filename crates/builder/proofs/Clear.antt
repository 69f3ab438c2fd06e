-- Where nothing is refused, the rows and the schema are such as the layout is proved for: the image is good, and has just the rows.
--     Clear, clear      what it means that nothing is refused
--     clear-fits ..     so the premises of writing's theorems hold
-- Assumes nothing.
use Prim.Native.Nat.{ℕ, zero, suc, ◌+◌, ◌-◌, ◌*◌, ◌^◌, ◌<◌, ◌≤◌}
use mathlib.Core.Path.{◌≡◌, refl, ap}
use mathlib.Core.Bool.{Bool, true, false, cond, not, true≢false, false≢true}
use mathlib.Core.List.{List}
use native.Mathlib.Omega.{arith}
use lib.Dec.{eqb, ltb}
use lib.IntN.{ℤ, pos, negsuc}
use lib.ListN.{length, get_or}
use borrow.Author.Tests.{ltb-true, ltb-false, eqb-true, ne_eqb}
use Rattle.number.specs.Bytes.{part, bias_of}
use Rattle.record.specs.Record.{reads_of}
use Rattle.cell.specs.Split.{payload_limit}
use Rattle.dealing.specs.File.{Column4, unfit, null, integer}
use Rattle.image.specs.Schema.{column4_of}
use Rattle.writing.specs.Rows.{Row, AllRows, links_of}
use Rattle.writing.specs.Layout.{size, links_all, later_pages}
use Rattle.writing.specs.Given.{rows_from, rows_given, Held}
use Rattle.writing.proofs.LayoutLaws.{links-more}
use Rattle.writing.proofs.LeafLaws.{part_length}
use Rattle.writing.proofs.Built.{Fits, pages-count}
use Rattle.writing.proofs.Order.{Rises}
use Rattle.writing.proofs.FreshGood.{AllRead}
use Rattle.filling.specs.Fill.{total, sum_from}
use Rattle.builder.specs.Build.{AllFit, rows_most, pages_most, rises_from, over_from, unread_from, bad_lists, is_two, bad_schema, pages_for}
use Rattle.builder.specs.Build.{given_refusal, refusal_of}

-- ---- nothing is refused

-- of the inputs alone
pub record Given (schema : List ℕ) (ns : List ℤ) (ls ps : List ℕ) : Type 0 where
  pub same : length ls ≡ length ns
  pub few : length ns ≤ rows_most
  pub adds : sum_from ls (length ns) 0 ≡ length ps
  pub rising : rises_from ns (length ns - 1) 0 ≡ true
  pub limits : over_from ls (length ls) 0 ≡ false
  pub read : unread_from ls ps (length ls) 0 0 ≡ false
  pub short : length schema ≤ 911
  pub two : column4_of schema ≡ integer (pos 2)

-- and of the layout
pub record Clear (schema : List ℕ) (ns : List ℤ) (ls ps : List ℕ) (room : ℕ) : Type 0 where
  pub given : Given schema ns ls ps
  pub pages : pages_for (rows_given ns ls ps) ≤ pages_most
  pub has_room : pages_for (rows_given ns ls ps) * size ≤ room

-- a test that would refuse does not hold
passed : (b : Bool) (n m : ℕ) → (n ≡ 0 → ⊥) → cond b n m ≡ 0 → (b ≡ false) × (m ≡ 0)
passed true n m h e = absurd (h e)
passed false n m h e = (refl, e)

given-passed : (n m : ℕ) → cond (eqb n 0) m n ≡ 0 → (n ≡ 0) × (m ≡ 0)
given-passed zero m e = (refl, e)
given-passed (suc n) m e = let h : suc n ≡ 0 = rw (ne_eqb (suc n) 0 (λ (z : suc n ≡ 0). omega arith)) at e in absurd (omega arith)

pub not-false : (b : Bool) → not b ≡ false → b ≡ true
not-false true e = refl
not-false false e = absurd (true≢false e)

pub both : (a b : Bool) → cond a b true ≡ false → (a ≡ true) × (b ≡ false)
both true b e = (refl, e)
both false b e = absurd (true≢false e)

pub either : (a b : Bool) → cond a true b ≡ false → (a ≡ false) × (b ≡ false)
either true b e = absurd (true≢false e)
either false b e = (refl, e)

two_is : (c : Column4) → is_two c ≡ true → c ≡ integer (pos 2)
two_is unfit e = absurd (false≢true e)
two_is null e = absurd (false≢true e)
two_is (integer (pos n)) e = ap (λ k. integer (pos k)) (eqb-true n 2 e)
two_is (integer (negsuc n)) e = absurd (false≢true e)

module _ (schema : List ℕ) (ns : List ℤ) (ls ps : List ℕ) where
  pub given-clear : given_refusal schema ns ls ps ≡ 0 → Given schema ns ls ps
  unfolding given_refusal
  given-clear e =
      let a = passed (bad_lists ns ls ps) 48 _ (λ z. omega arith) e in
      let b = passed (over_from ls (length ls) 0) 26 _ (λ z. omega arith) a.1 in
      let c = passed (unread_from ls ps (length ls) 0 0) 28 _ (λ z. omega arith) b.1 in
      let d = passed (bad_schema schema) 28 _ (λ z. omega arith) c.1 in
      let lists = both (eqb (length ls) (length ns)) _ a.0 in
      let many = either (ltb rows_most (length ns)) _ lists.1 in
      let sum = both (eqb (sum_from ls (length ns) 0) (length ps)) _ many.1 in
      let named = either (ltb 911 (length schema)) _ d.0 in
      record {
        same = eqb-true (length ls) (length ns) lists.0;
        few = ltb-false rows_most (length ns) many.0;
        adds = eqb-true (sum_from ls (length ns) 0) (length ps) sum.0;
        rising = not-false (rises_from ns (length ns - 1) 0) sum.1;
        limits = b.0;
        read = c.0;
        short = ltb-false 911 (length schema) named.0;
        two = two_is (column4_of schema) (not-false (is_two (column4_of schema)) named.1);
      }

  pub clear : (room : ℕ) → refusal_of schema ns ls ps room ≡ 0 → Clear schema ns ls ps room
  unfolding refusal_of
  clear room e =
      let w = given-passed (given_refusal schema ns ls ps) _ e in
      let f = passed (ltb pages_most (pages_for (rows_given ns ls ps))) 5 _ (λ z. omega arith) w.1 in
      let g = passed (ltb room (pages_for (rows_given ns ls ps) * size)) 44 _ (λ z. omega arith) f.1 in
      record {
        given = given-clear w.0;
        pages = ltb-false pages_most (pages_for (rows_given ns ls ps)) f.0;
        has_room = ltb-false room (pages_for (rows_given ns ls ps) * size) g.0;
      }

-- ---- so the rows are as the layout wants them

pub held-from : (ls ps : List ℕ) (k i off : ℕ) → over_from ls k i ≡ false → off + sum_from ls k i ≤ length ps → Held ls ps k i off
unfolding over_from total
held-from ls ps zero i off e h = tt
held-from ls ps (suc k) i off e h =
    let p = either (ltb payload_limit (get_or ls i 0)) _ e in
    (ltb-false payload_limit (get_or ls i 0) p.0, omega arith, held-from ls ps k (i + 1) (off + get_or ls i 0) p.1 (omega arith))

fit-from : (ns : List ℤ) (ls ps : List ℕ) (k i off t : ℕ) → AllFit ns → Held ls ps k i off
    → t + links_all (rows_from ns ls ps k i off t) < 2 ^ 32 → AllRows (rows_from ns ls ps k i off t)
unfolding rows_from
fit-from ns ls ps zero i off t f h l = tt
fit-from ns ls ps (suc k) i off t f h l =
    let p = part ps off (get_or ls i 0) in
    let rest = rows_from ns ls ps k (i + 1) (off + get_or ls i 0) (t + links_of size p) in
    let m = links-more (record { number = get_or ns i (pos 0); payload = p; first = t }) rest in (
      record { number = f.each i; limit = omega (arith, part_length ps off (get_or ls i 0) h.1, h.0); link = omega arith },
      fit-from ns ls ps k (i + 1) (off + get_or ls i 0) (t + links_of size p) f h.2 (omega arith),
    )

read-from : (ns : List ℤ) (ls ps : List ℕ) (k i off t : ℕ) → unread_from ls ps k i off ≡ false → AllRead (rows_from ns ls ps k i off t)
unfolding rows_from unread_from
read-from ns ls ps zero i off t e = tt
read-from ns ls ps (suc k) i off t e =
    let b = both (reads_of (part ps off (get_or ls i 0))) _ e in
    (b.0, read-from ns ls ps k (i + 1) (off + get_or ls i 0) (t + links_of size (part ps off (get_or ls i 0))) b.1)

-- k + 1 numbers from the ith on that rise, the first not below lo
rise-from : (ns : List ℤ) (ls ps : List ℕ) (k i off t lo : ℕ) → rises_from ns k i ≡ true → lo ≤ bias_of (get_or ns i (pos 0))
    → Rises lo (rows_from ns ls ps (suc k) i off t)
unfolding rows_from rises_from
rise-from ns ls ps zero i off t lo e h = (h, tt)
rise-from ns ls ps (suc k) i off t lo e h =
    let b = all_of (ltb (bias_of (get_or ns i (pos 0))) (bias_of (get_or ns (i + 1) (pos 0)))) _ e in (
      h,
      rise-from ns ls ps k (i + 1) (off + get_or ls i 0) (t + links_of size (part ps off (get_or ls i 0))) (suc (bias_of (get_or ns i (pos 0))))
          b.1 (omega (arith, ltb-true (bias_of (get_or ns i (pos 0))) (bias_of (get_or ns (i + 1) (pos 0))) b.0)),
    )
  where
    all_of : (a b : Bool) → cond a b false ≡ true → (a ≡ true) × (b ≡ true)
    all_of true b e = (refl, e)
    all_of false b e = absurd (false≢true e)

module _ (schema : List ℕ) (ns : List ℤ) (ls ps : List ℕ) (room : ℕ) (fit : AllFit ns) (c : Clear schema ns ls ps room) where
  abbrev rows : List Row
  rows = rows_given ns ls ps

  held : Held ls ps (length ns) 0 0
  held = held-from ls ps (length ns) 0 0 (rw c.given.same at c.given.limits) (omega (arith, c.given.adds))

  pub clear-fits : Fits schema rows
  clear-fits =
      record {
        short = c.given.short;
        all = fit-from ns ls ps (length ns) 0 0 0 fit held (omega (arith, c.pages));
        pages = omega (arith, c.pages, pages-count rows);
      }

  pub clear-rises : Rises 0 rows
  unfolding rows_from
  clear-rises = go (length ns) c.given.rising
    where
      go : (n : ℕ) → rises_from ns (n - 1) 0 ≡ true → Rises 0 (rows_from ns ls ps n 0 0 0)
      go zero e = tt
      go (suc n) e = let z : suc n - 1 ≡ n = omega arith in rise-from ns ls ps n 0 0 0 0 (rw z at e) (omega arith)

  pub clear-read : AllRead rows
  clear-read = read-from ns ls ps (length ns) 0 0 0 (rw c.given.same at c.given.read)

  pub clear-pages : 1 + length (later_pages rows) ≡ pages_for rows
  clear-pages = omega (arith, pages-count rows)
