-- The loops of `count_up`, by what is left: what was counted and what is still to be counted are all of the journal's.
use Prim.Native.Nat.{ℕ, suc, ◌+◌, ◌-◌, ◌%◌, ◌<◌, ◌≤◌, ◌^◌}
use mathlib.Core.Path.{◌≡◌, refl, sym, ap, ◌∙◌}
use mathlib.Core.Bool.{Bool, true, false}
use mathlib.Core.List.{List}
use native.Mathlib.Omega.{arith}
use lib.ListN.{length}
use Rattle.number.specs.Bytes.{be}
use Rattle.journal.specs.Header.{nonce_at, most_at, pages_in, sector_of, headed}
use Rattle.journal.specs.Records.{after, ends, sector_from}
use Rattle.journal.specs.Fields.{Fields}
use Rattle.journal.proofs.RecordLaws.{going_on}
use Rattle.journal_summary.specs.Summary.{header_stop, record_stop, layable, tally_is, plus, tally_from, tally_of}
use Rattle.journal_summary.proofs.TallyLaws.{plus-plus, headed-fits, tally-none, tally-ends, tally_rest, rest-header, rest-record}

pub record Going (j : List ℕ) (size sector n s nonce left at segments counting laid : ℕ) : Type 0 where
  pub fields : Fields j size sector n
  pub short : length j < 2 ^ 63
  pub head : s + 28 ≤ length j
  pub is-nonce : nonce ≡ nonce_at j s
  pub low-nonce : nonce < 2 ^ 32
  pub low-left : left < 2 ^ 64
  pub on : 1 ≤ at
  pub near : at ≤ length j + 65536
  pub few-segments : segments ≤ at
  pub few-counting : counting ≤ at
  pub few-laid : laid ≤ at
  pub same : plus segments counting laid (tally_from (suc (length j)) j s left at) ≡ tally_of j

pub going_start : (j : List ℕ) (size sector n nonce left : ℕ) → Fields j size sector n → length j < 2 ^ 63 → 28 ≤ length j
    → nonce < 2 ^ 32 → left < 2 ^ 64
    → nonce ≡ nonce_at j 0 → left ≡ most_at j 0 → Going j size sector n 0 nonce left sector 1 0 0
unfolding tally_of
going_start j size sector n nonce left f short long low-n low-l is-nonce is-left =
    let z = f.sizes in
    record {
      fields = f;
      short = short;
      head = omega arith;
      is-nonce = is-nonce;
      low-nonce = low-n;
      low-left = low-l;
      on = omega (arith, z.sector_least);
      near = omega (arith, z.sector_most);
      few-segments = omega (arith, z.sector_least);
      few-counting = omega arith;
      few-laid = omega arith;
      same = rw (is-left, z.is_sector) refl;
    }

module _ (j : List ℕ) (size sector n s nonce left at segments counting laid : ℕ)
    (g : Going j size sector n s nonce left at segments counting laid) where
  has-sector : 1 ≤ sector_of j
  has-sector = omega (arith, g.fields.sizes.is_sector, g.fields.sizes.sector_least)

  stands_at : at + (size + 8) ≡ after j at
  stands_at = ap (λ (x : ℕ). at + (x + 8)) g.fields.sizes.is_size

  -- nothing is left
  ended : (stop : ℕ) → tally_from (suc (length j)) j s left at ≡ tally_is 0 0 0 stop → tally_is segments counting laid stop ≡ tally_of j
  ended stop e =
      let p : segments ≡ segments + 0 = omega arith in
      let q : counting ≡ counting + 0 = omega arith in
      let r : laid ≡ laid + 0 = omega arith in
      (λ i. tally_is (p i) (q i) (r i) stop) ∙ sym (ap (plus segments counting laid) e) ∙ g.same

  module _ (some : left ≡ 0 → ⊥) (b : Bool) (is_b : b ≡ ends j nonce at) where
    ends-here : b ≡ ends j (nonce_at j s) at
    ends-here = is_b ∙ ap (λ (x : ℕ). ends j x at) g.is-nonce

    pub going-ends : (stop : ℕ) → b ≡ true → stop ≡ record_stop j s at → tally_is segments counting laid stop ≡ tally_of j
    going-ends stop h e = rw e (ended (record_stop j s at) (tally-ends j (length j) s left at some (sym ends-here ∙ h)))

    module _ (h : b ≡ false) where
      pub here-whole : at + (size + 8) ≤ length j
      here-whole = omega (arith, (going_on j nonce at (sym is_b ∙ h)).0, stands_at)

      pub going-record : (p l : ℕ) → p ≡ be 4 j at → l ≡ layable n p → l ≤ 1
          → Going j size sector n s nonce (left - 1) (at + (size + 8)) segments (counting + 1) (laid + l)
      going-record p l is-p is-l one =
          let w = here-whole in
          let is : l ≡ layable (pages_in j) (be 4 j at) = is-l ∙ ap (layable n) is-p ∙ ap (λ (x : ℕ). layable x (be 4 j at)) g.fields.is_pages in
          let a : segments ≡ segments + 0 = omega arith in
          record {
            fields = g.fields;
            short = g.short;
            head = g.head;
            is-nonce = g.is-nonce;
            low-nonce = g.low-nonce;
            low-left = omega (arith, g.low-left);
            on = omega (arith, g.on);
            near = omega arith;
            few-segments = omega (arith, g.few-segments);
            few-counting = omega (arith, g.few-counting);
            few-laid = omega (arith, g.few-laid);
            same =
                rw (stands_at, a, is)
                (sym (plus-plus segments counting laid 0 1 (layable (pages_in j) (be 4 j at)) (tally_rest j has-sector s (left - 1) (after j at)))
                ∙ sym (ap (plus segments counting laid) (rest-record j has-sector s left at g.on some (sym ends-here ∙ h)))
                ∙ g.same);
          }

  module _ (none : left ≡ 0) (gap : ℕ) (is-gap : gap ≡ (sector - at % sector) % sector) (b : Bool) (is_b : b ≡ headed j (at + gap)) where
    is-from : at + gap ≡ sector_from j at
    is-from = rw (is-gap, g.fields.sizes.is_sector) refl

    headed-here : b ≡ headed j (sector_from j at)
    headed-here = is_b ∙ ap (headed j) is-from

    pub going-none : (stop : ℕ) → b ≡ false → stop ≡ header_stop j (at + gap) → tally_is segments counting laid stop ≡ tally_of j
    going-none stop h e =
        rw (e, is-from) (ended (header_stop j (sector_from j at)) (tally-none j (length j) s left at none (sym headed-here ∙ h)))

    module _ (h : b ≡ true) where
      pub header-whole : at + gap + 28 ≤ length j
      header-whole = headed-fits j (at + gap) (sym is_b ∙ h)

      pub going-header : (left' nonce' : ℕ) → left' ≡ most_at j (at + gap) → nonce' ≡ nonce_at j (at + gap) → left' < 2 ^ 64 → nonce' < 2 ^ 32
          → Going j size sector n (at + gap) nonce' left' (at + gap + sector) (segments + 1) counting laid
      going-header left' nonce' is-left is-nonce low-l low-n =
          let w = header-whole in
          let z = g.fields.sizes in
          let a : counting ≡ counting + 0 = omega arith in
          let c : laid ≡ laid + 0 = omega arith in
          record {
            fields = g.fields;
            short = g.short;
            head = w;
            is-nonce = is-nonce;
            low-nonce = low-n;
            low-left = low-l;
            on = omega (arith, g.on);
            near = omega (arith, z.sector_most);
            few-segments = omega (arith, g.few-segments, z.sector_least);
            few-counting = omega (arith, g.few-counting);
            few-laid = omega (arith, g.few-laid);
            same =
                rw (is-left, z.is_sector, is-from, a, c)
                (sym (plus-plus segments counting laid 1 0 0
                (tally_rest j has-sector (sector_from j at) (most_at j (sector_from j at)) (sector_from j at + sector_of j)))
                ∙ sym (ap (plus segments counting laid) (rest-header j has-sector s left at g.on none (sym headed-here ∙ h)))
                ∙ g.same);
          }
