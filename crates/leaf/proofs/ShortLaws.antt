-- A varint of one byte to four, read in a straight line: a law for each length.
use Prim.Native.Nat.{ℕ, ◌+◌, ◌*◌, ◌%◌, ◌<◌, ◌≤◌}
use mathlib.Core.Path.{◌≡◌, refl, sym, ap, ◌∙◌}
use mathlib.Core.List.{List}
use lib.ListN.{length}
use native.Mathlib.Omega.{arith}
use borrow.Author.Tests.{le-ltb}
use Rattle.number.specs.Bytes.{byte_at}
use Rattle.number.specs.Varint.{word_is, stop_at, varint_at, long_of}
use Rattle.number.specs.declared.Word.{Word}
use Rattle.number.proofs.VarintSteps.{Reading, reading-starts, reads-last, reads_on}
use Rattle.number.proofs.Laws.{first-not-long}

-- bytes that are there are all read
pub stop-here : (b : List ℕ) (end : ℕ) → end ≤ length b → end ≡ stop_at b end
stop-here b end h = rw (le-ltb (length b) end h)

-- w is the varint at `at`, not spelled long
abbrev pub Plain : List ℕ → (at u : ℕ) → Word → Type 0
Plain p at u w = (w ≡ varint_at p at u) × (long_of w ≡ 0)

-- one that does not begin with zeros
pub plain_by : (p : List ℕ) (at u a : ℕ) → a ≡ byte_at p at → (a ≡ 128 → ⊥) → (w : Word) → 0 < w.length → w ≡ varint_at p at u → Plain p at u w
plain_by p at u a is-a n w g e = (e, ap long_of e ∙ first-not-long p at u (omega (arith, ap (λ (w : Word). w.length) e)) (λ z. n (is-a ∙ z)))

module _ (p : List ℕ) (at u a : ℕ) (room : at + 4 ≤ u) (inside : u ≤ length p) (is-a : a ≡ byte_at p at) where
  none : Reading (varint_at p at u) p at u 0 0
  none = reading-starts p at u u (stop-here p u inside)

  here : a ≡ byte_at p (at + 0)
  here = let z : at ≡ at + 0 = omega arith in is-a ∙ ap (byte_at p) z

  pub short-one : a < 128 → Plain p at u (word_is 1 a)
  short-one l =
      let z : a ≡ 0 * 128 + a = omega arith in
      plain_by p at u a is-a (λ e. omega arith) (word_is 1 a) (omega arith) (ap (word_is 1) z ∙ reads-last none a (omega arith) (omega arith) here l)

  module _ (byte-a : a < 256) (on-a : 128 ≤ a) (lead : a ≡ 128 → ⊥) where
    one : Reading (varint_at p at u) p at u 1 (0 * 128 + a % 128)
    one = reads_on none a (omega arith) (omega arith) here byte-a on-a

    module _ (b : ℕ) (is_b : b ≡ byte_at p (at + 1)) where
      pub short-two : b < 128 → Plain p at u (word_is 2 (a % 128 * 128 + b))
      short-two l =
          let z : a % 128 * 128 + b ≡ (0 * 128 + a % 128) * 128 + b = omega arith in
          plain_by p at u a is-a lead (word_is 2 (a % 128 * 128 + b)) (omega arith) (ap (word_is 2) z ∙ reads-last one b (omega arith) (omega arith) is_b l)

      module _ (byte-b : b < 256) (on-b : 128 ≤ b) where
        two : Reading (varint_at p at u) p at u 2 ((0 * 128 + a % 128) * 128 + b % 128)
        two = reads_on one b (omega arith) (omega arith) is_b byte-b on-b

        module _ (c : ℕ) (is_c : c ≡ byte_at p (at + 2)) where
          pub short-three : c < 128 → Plain p at u (word_is 3 ((a % 128 * 128 + b % 128) * 128 + c))
          short-three l =
              let z : (a % 128 * 128 + b % 128) * 128 + c ≡ ((0 * 128 + a % 128) * 128 + b % 128) * 128 + c = omega arith in
              plain_by p at u a is-a lead (word_is 3 ((a % 128 * 128 + b % 128) * 128 + c)) (omega arith)
              (ap (word_is 3) z ∙ reads-last two c (omega arith) (omega arith) is_c l)

          module _ (byte-c : c < 256) (on-c : 128 ≤ c) where
            three : Reading (varint_at p at u) p at u 3 (((0 * 128 + a % 128) * 128 + b % 128) * 128 + c % 128)
            three = reads_on two c (omega arith) (omega arith) is_c byte-c on-c

            pub short-four : (d : ℕ) → d ≡ byte_at p (at + 3) → d < 128
                → Plain p at u (word_is 4 (((a % 128 * 128 + b % 128) * 128 + c % 128) * 128 + d))
            short-four d is-d l =
                let z : ((a % 128 * 128 + b % 128) * 128 + c % 128) * 128 + d
                ≡ (((0 * 128 + a % 128) * 128 + b % 128) * 128 + c % 128) * 128 + d = omega arith in
                plain_by p at u a is-a lead (word_is 4 (((a % 128 * 128 + b % 128) * 128 + c % 128) * 128 + d)) (omega arith)
                (ap (word_is 4) z ∙ reads-last three d (omega arith) (omega arith) is-d l)
