-- The refusals as the code finds them, by what is left of the lists.
-- Assumes nothing.
use Prim.Native.Nat.{ℕ, zero, suc, ◌+◌, ◌-◌, ◌^◌, ◌<◌, ◌≤◌}
use mathlib.Core.Path.{◌≡◌, refl, sym, ap, ◌∙◌, subst}
use mathlib.Core.Bool.{Bool, true, false, cond, not, false≢true}
use mathlib.Core.List.{List}
use native.Mathlib.Omega.{arith}
use lib.Dec.{leb}
use lib.IntN.{ℤ, pos, negsuc}
use lib.ListN.{length, get_or, get_or-eq_default}
use mathlib.Core.Logic.{⊎_elim}
use mir.Syntax.{w64}
use mir.Val.{SFits}
use Rattle.number.proofs.SignedLaws.{signed-fits}
use borrow.Author.Tests.{lt-ltb, le-ltb, lt-leb, ne_eqb}
use Rattle.number.specs.Bytes.{part, bias_of}
use Rattle.number.proofs.Cases.{lt-or-ge}
use Rattle.record.specs.Record.{reads_of}
use Rattle.dealing.specs.File.{Column4, unfit, null, integer}
use Rattle.image.specs.Schema.{column4_of}
use Rattle.schema.specs.Row.{row_is}
use Rattle.refusal.specs.declared.Rule.{Rule}
use Rattle.std.specs.Prelude.{Option, Some, None, Result, Ok, Err}
use Rattle.filling.specs.Fill.{total, sum_from}
use Rattle.builder.specs.Build.{AllFit, rises_from, over_from, unread_from, is_two, bad_schema, bad_lists, given_refusal}

-- ---- the numbers rise
rises-more : (ns : List ℤ) (k i : ℕ) → bias_of (get_or ns i (pos 0)) < bias_of (get_or ns (i + 1) (pos 0)) → rises_from ns (suc k) i ≡ rises_from ns k (i + 1)
unfolding rises_from
rises-more ns k i h = rw (lt-ltb (bias_of (get_or ns i (pos 0))) (bias_of (get_or ns (i + 1) (pos 0))) h)

rises-not : (ns : List ℤ) (k i : ℕ) → bias_of (get_or ns (i + 1) (pos 0)) ≤ bias_of (get_or ns i (pos 0)) → rises_from ns (suc k) i ≡ false
unfolding rises_from
rises-not ns k i h = rw (le-ltb (bias_of (get_or ns i (pos 0))) (bias_of (get_or ns (i + 1) (pos 0))) h)

rises-none : (ns : List ℤ) (i : ℕ) → rises_from ns 0 i ≡ true
unfolding rises_from
rises-none ns i = refl

pub record Rising (ns : List ℤ) (most i last : ℕ) : Type 0 where
  pub order : i ≤ most
  pub last-is : last ≡ bias_of (get_or ns i (pos 0))
  pub is : rises_from ns most 0 ≡ rises_from ns (most - i) i
  pub fit : (j : ℕ) → j ≤ i → SFits w64 (get_or ns j (pos 0))

fits_next : (ns : List ℤ) (i : ℕ) → ((j : ℕ) → j ≤ i → SFits w64 (get_or ns j (pos 0))) → SFits w64 (get_or ns (i + 1) (pos 0)) → (j : ℕ)
    → j ≤ i + 1 → SFits w64 (get_or ns j (pos 0))
fits_next ns i h f j l =
    ⊎_elim (λ (z : j < i + 1). h j (omega arith)) (λ (z : i + 1 ≤ j). let e : i + 1 ≡ j = omega arith in
    subst (λ x. SFits w64 (get_or ns x (pos 0))) e f) (lt-or-ge j (i + 1))

zero-fits : SFits w64 (pos 0)
zero-fits = signed-fits (2 ^ 63) 0 (omega arith) (omega arith)

pub fits_all : (ns : List ℤ) (i : ℕ) → length ns ≤ i + 1 → ((j : ℕ) → j ≤ i → SFits w64 (get_or ns j (pos 0))) → AllFit ns
fits_all ns i h f =
    record {
      each = λ j. ⊎_elim (λ (z : j < length ns). f j (omega arith))
          (λ (z : length ns ≤ j). subst (SFits w64) (sym (get_or-eq_default ns (pos 0) {n = j} z)) zero-fits) (lt-or-ge j (length ns));
    }

pub fits-none : (ns : List ℤ) → length ns < 1 → AllFit ns
fits-none ns h = record {
  each = λ j. let z : length ns ≤ j = omega arith in
      subst (SFits w64) (sym (get_or-eq_default ns (pos 0) {n = j} z)) zero-fits;
}

module _ (ns : List ℤ) (most : ℕ) where
  pub rising-on : (i last next : ℕ) → i < most → next ≡ bias_of (get_or ns (i + 1) (pos 0)) → last < next → SFits w64 (get_or ns (i + 1) (pos 0))
      → Rising ns most i last → Rising ns most (i + 1) next
  rising-on i last next less e h f r =
      let k : most - i ≡ suc (most - (i + 1)) = omega arith in
      record {
        order = omega arith;
        last-is = e;
        is = r.is ∙ ap (λ x. rises_from ns x i) k
            ∙ rises-more ns (most - (i + 1)) i (omega (arith, r.last-is));
        fit = fits_next ns i r.fit f;
      }

  pub rising-not : (i last next : ℕ) → i < most → next ≡ bias_of (get_or ns (i + 1) (pos 0)) → next ≤ last → Rising ns most i last
      → false ≡ rises_from ns most 0
  rising-not i last next less e h r =
      let f : most - i ≡ suc (most - (i + 1)) = omega arith in
      sym (r.is ∙ ap (λ x. rises_from ns x i) f ∙ rises-not ns (most - (i + 1)) i (omega (arith, r.last-is)))

  pub rising-end : (i last : ℕ) → most ≤ i → Rising ns most i last → true ≡ rises_from ns most 0
  rising-end i last h r =
      let f : most - i ≡ 0 = omega arith in
      sym (r.is ∙ ap (λ x. rises_from ns x i) f ∙ rises-none ns i)

pub rising-few : (ns : List ℤ) → length ns < 1 → true ≡ rises_from ns (length ns - 1) 0
rising-few ns h = let f : length ns - 1 ≡ 0 = omega arith in sym (ap (λ x. rises_from ns x 0) f ∙ rises-none ns 0)

-- ---- a payload over the limit
over-more : (ls : List ℕ) (k i : ℕ) → get_or ls i 0 ≤ 65536 → over_from ls (suc k) i ≡ over_from ls k (i + 1)
unfolding over_from
over-more ls k i h = rw (le-ltb 65536 (get_or ls i 0) h)

over-here : (ls : List ℕ) (k i : ℕ) → 65536 < get_or ls i 0 → over_from ls (suc k) i ≡ true
unfolding over_from
over-here ls k i h = rw (lt-ltb 65536 (get_or ls i 0) h)

over_none : (ls : List ℕ) (i : ℕ) → over_from ls 0 i ≡ false
unfolding over_from
over_none ls i = refl

pub record OverLeft (ls : List ℕ) (i : ℕ) : Type 0 where
  pub order : i ≤ length ls
  pub is : over_from ls (length ls) 0 ≡ over_from ls (length ls - i) i

module _ (ls : List ℕ) where
  pub over-on : (i : ℕ) → i < length ls → get_or ls i 0 ≤ 65536 → OverLeft ls i → OverLeft ls (i + 1)
  over-on i less h o =
      let f : length ls - i ≡ suc (length ls - (i + 1)) = omega arith in
      record { order = omega arith; is = o.is ∙ ap (λ x. over_from ls x i) f ∙ over-more ls (length ls - (i + 1)) i h }

  pub over-found : (i : ℕ) → i < length ls → 65536 < get_or ls i 0 → OverLeft ls i → true ≡ over_from ls (length ls) 0
  over-found i less h o =
      let f : length ls - i ≡ suc (length ls - (i + 1)) = omega arith in
      sym (o.is ∙ ap (λ x. over_from ls x i) f ∙ over-here ls (length ls - (i + 1)) i h)

  pub over-end : (i : ℕ) → length ls ≤ i → OverLeft ls i → false ≡ over_from ls (length ls) 0
  over-end i h o =
      let f : length ls - i ≡ 0 = omega arith in
      sym (o.is ∙ ap (λ x. over_from ls x i) f ∙ over_none ls i)

-- ---- a payload that does not read
unread-more : (ls ps : List ℕ) (k i off : ℕ) → reads_of (part ps off (get_or ls i 0)) ≡ true
    → unread_from ls ps (suc k) i off ≡ unread_from ls ps k (i + 1) (off + get_or ls i 0)
unfolding unread_from
unread-more ls ps k i off h = rw h

unread-here : (ls ps : List ℕ) (k i off : ℕ) → reads_of (part ps off (get_or ls i 0)) ≡ false → unread_from ls ps (suc k) i off ≡ true
unfolding unread_from
unread-here ls ps k i off h = rw h

unread-none : (ls ps : List ℕ) (i off : ℕ) → unread_from ls ps 0 i off ≡ false
unfolding unread_from
unread-none ls ps i off = refl

sum_more : (ls : List ℕ) (k i : ℕ) → sum_from ls (suc k) i ≡ get_or ls i 0 + sum_from ls k (i + 1)
unfolding total
sum_more ls k i = refl

pub record UnreadLeft (ls ps : List ℕ) (i off : ℕ) : Type 0 where
  pub order : i ≤ length ls
  pub ends : off + sum_from ls (length ls - i) i ≡ length ps
  pub is : unread_from ls ps (length ls) 0 0 ≡ unread_from ls ps (length ls - i) i off

module _ (ls ps : List ℕ) where
  module _ (i off : ℕ) (less : i < length ls) (u : UnreadLeft ls ps i off) where
    left_is : length ls - i ≡ suc (length ls - (i + 1))
    left_is = omega arith

    sum_is : sum_from ls (length ls - i) i ≡ get_or ls i 0 + sum_from ls (length ls - (i + 1)) (i + 1)
    sum_is = ap (λ x. sum_from ls x i) left_is ∙ sum_more ls (length ls - (i + 1)) i

    pub unread-turn : off + get_or ls i 0 ≤ length ps
    unread-turn = omega (arith, u.ends, sum_is)

    same-part : (n : ℕ) (b : Bool) → n ≡ get_or ls i 0 → b ≡ reads_of (part ps off n) → b ≡ reads_of (part ps off (get_or ls i 0))
    same-part n b e f = f ∙ ap (λ x. reads_of (part ps off x)) e

    pub unread-on : (n : ℕ) (b : Bool) → n ≡ get_or ls i 0 → b ≡ reads_of (part ps off n) → b ≡ true → UnreadLeft ls ps (i + 1) (off + get_or ls i 0)
    unread-on n b e f t =
        record {
          order = omega arith;
          ends = omega (arith, u.ends, sum_is);
          is = u.is ∙ ap (λ x. unread_from ls ps x i off) left_is
              ∙ unread-more ls ps (length ls - (i + 1)) i off (sym (same-part n b e f) ∙ t);
        }

    pub unread-found : (n : ℕ) (b : Bool) → n ≡ get_or ls i 0 → b ≡ reads_of (part ps off n) → b ≡ false → true ≡ unread_from ls ps (length ls) 0 0
    unread-found n b e f t =
        sym (u.is ∙ ap (λ x. unread_from ls ps x i off) left_is
        ∙ unread-here ls ps (length ls - (i + 1)) i off (sym (same-part n b e f) ∙ t))

  pub unread-end : (i off : ℕ) → length ls ≤ i → UnreadLeft ls ps i off → false ≡ unread_from ls ps (length ls) 0 0
  unread-end i off h u =
      let f : length ls - i ≡ 0 = omega arith in
      sym (u.is ∙ ap (λ x. unread_from ls ps x i off) f ∙ unread-none ls ps i off)

-- ---- the schema record
root-two : (v : Column4) (r : ℕ) → row_is 2 v ≡ Ok (Some r) → is_two v ≡ true
unfolding row_is
root-two unfit r e = let z : ◌≡◌ {A = ℕ} 0 1 = cc in absurd (omega arith)
root-two null r e = let z : ◌≡◌ {A = ℕ} 0 1 = cc in absurd (omega arith)
root-two (integer (pos zero)) r e = let z : ◌≡◌ {A = ℕ} 0 1 = cc in absurd (omega arith)
root-two (integer (pos (suc zero))) r e = let z : ◌≡◌ {A = ℕ} 0 1 = cc in absurd (omega arith)
root-two (integer (pos (suc (suc zero)))) r e = refl
root-two (integer (pos (suc (suc (suc n))))) r e =
    let h : leb (suc (suc (suc n))) 2 ≡ false = lt-leb (suc (suc (suc n))) 2 (omega arith) in
    let z : ◌≡◌ {A = ℕ} 0 1 = cc in absurd (omega arith)
root-two (integer (negsuc n)) r e = let z : ◌≡◌ {A = ℕ} 0 1 = cc in absurd (omega arith)

two-root : (v : Column4) → is_two v ≡ true → row_is 2 v ≡ Ok (Some 2)
unfolding row_is
two-root unfit e = absurd (false≢true e)
two-root null e = absurd (false≢true e)
two-root (integer (pos zero)) e = absurd (false≢true e)
two-root (integer (pos (suc zero))) e = absurd (false≢true e)
two-root (integer (pos (suc (suc zero)))) e = refl
two-root (integer (pos (suc (suc (suc n))))) e =
    absurd (false≢true (sym (ne_eqb (suc (suc (suc n))) 2 (λ (z : suc (suc (suc n)) ≡ 2). omega arith)) ∙ e))
two-root (integer (negsuc n)) e = absurd (false≢true e)

pub schema-root : (schema : List ℕ) (r : ℕ) → length schema ≤ 911 → Ok (Some r) ≡ row_is 2 (column4_of schema) → false ≡ bad_schema schema
schema-root schema r h e =
    sym (ap (λ b. cond b true (not (is_two (column4_of schema)))) (le-ltb 911 (length schema) h) ∙ ap not (root-two (column4_of schema) r (sym e)))

pub schema-other : (schema : List ℕ) (x : Result (Option ℕ) Rule) → length schema ≤ 911 → x ≡ row_is 2 (column4_of schema) → (x ≡ Ok (Some 2) → ⊥)
    → true ≡ bad_schema schema
schema-other schema x h e n =
    sym (ap (λ b. cond b true (not (is_two (column4_of schema)))) (le-ltb 911 (length schema) h) ∙ go (is_two (column4_of schema)) refl)
  where
    go : (b : Bool) → is_two (column4_of schema) ≡ b → not b ≡ true
    go true f = absurd (n (e ∙ two-root (column4_of schema) f))
    go false f = refl

pub schema-err : (schema : List ℕ) (x : Result (Option ℕ) Rule) (r : Rule) → length schema ≤ 911 → x ≡ row_is 2 (column4_of schema) → x ≡ Err r
    → true ≡ bad_schema schema
schema-err schema x r h e u = schema-other schema x h e (λ (k : x ≡ Ok (Some 2)). let z : ◌≡◌ {A = ℕ} 0 1 = cc in omega arith)

pub schema-none : (schema : List ℕ) (x : Result (Option ℕ) Rule) (o : Option ℕ) → length schema ≤ 911 → x ≡ row_is 2 (column4_of schema) → x ≡ Ok o
    → o ≡ None → true ≡ bad_schema schema
schema-none schema x o h e u n = schema-other schema x h e (λ (k : x ≡ Ok (Some 2)). let z : ◌≡◌ {A = ℕ} 0 1 = cc in omega arith)

-- ---- in their order
module _ (ns : List ℤ) (ls ps : List ℕ) where
  module _ (schema : List ℕ) where
    pub given-48 : bad_lists ns ls ps ≡ true → 48 ≡ given_refusal schema ns ls ps
    unfolding given_refusal
    given-48 a = rw a

    pub given-26 : bad_lists ns ls ps ≡ false → over_from ls (length ls) 0 ≡ true → 26 ≡ given_refusal schema ns ls ps
    unfolding given_refusal
    given-26 a b = rw (a, b)

    pub given-28-row : bad_lists ns ls ps ≡ false → over_from ls (length ls) 0 ≡ false → unread_from ls ps (length ls) 0 0 ≡ true
        → 28 ≡ given_refusal schema ns ls ps
    unfolding given_refusal
    given-28-row a b c = rw (a, b, c)

    pub given-28 : bad_lists ns ls ps ≡ false → over_from ls (length ls) 0 ≡ false → unread_from ls ps (length ls) 0 0 ≡ false
        → bad_schema schema ≡ true → 28 ≡ given_refusal schema ns ls ps
    unfolding given_refusal
    given-28 a b c d = rw (a, b, c, d)

    pub given-none : bad_lists ns ls ps ≡ false → over_from ls (length ls) 0 ≡ false → unread_from ls ps (length ls) 0 0 ≡ false
        → bad_schema schema ≡ false → 0 ≡ given_refusal schema ns ls ps
    unfolding given_refusal
    given-none a b c d = rw (a, b, c, d)
