-- A record's first bytes: what is read within them is the same in the whole.
use Prim.Native.Nat.{ℕ, zero, suc, ◌+◌, ◌-◌, ◌*◌, ◌<◌, ◌≤◌}
use mathlib.Core.Path.{◌≡◌, refl, sym, ap, ◌∙◌, subst}
use mathlib.Core.Bool.{cond}
use mathlib.Core.Logic.{◌⊎◌, inl, inr, ⊎_elim}
use mathlib.Core.List.{List, ◌++◌, []}
use lib.Dec.{eqb}
use lib.ListN.{length, length-append, get_or-append}
use native.Mathlib.Omega.{arith}
use borrow.Author.Tests.{le-ltb}
use Rattle.number.specs.Bytes.{byte_at}
use Rattle.number.specs.Varint.{word_is, stop_at, word_from, varint_at, varint_length}
use Rattle.number.specs.declared.Word.{Word}
use Rattle.number.proofs.Cases.{lt-or-ge}
use Rattle.number.proofs.VarintSteps.{word-short, word-ninth, word-last, word_on}
use Rattle.record.specs.Serial.{refused}
use Rattle.record.specs.Record.{Types, broken, types, first, types_from, own_of}

module _ (a r : List ℕ) where
  byte-kept : (at : ℕ) → at < length a → byte_at (a ++ r) at ≡ byte_at a at
  byte-kept at h = get_or-append a r 0 at h

  -- the bytes of a varint up to the same place, or to any further one where it is whole
  abbrev Ends : (left stop stop' at n bits : ℕ) → Type 0
  Ends left stop stop' at n bits = (stop ≡ stop') ⊎ (0 < (word_from left a stop at n bits).length)

  abbrev Kept : (left stop stop' at n bits : ℕ) → Type 0
  Kept left stop stop' at n bits = word_from left (a ++ r) stop' at n bits ≡ word_from left a stop at n bits

  -- at the end; a ninth byte; a byte, and what comes after it
  short-kept : (left stop stop' at n bits : ℕ) → stop ≤ at → Ends left stop stop' at n bits → Kept left stop stop' at n bits
  short-kept left stop stop' at n bits l (inl e) = sym (word-short left (a ++ r) stop' at n bits (omega arith)) ∙ word-short left a stop at n bits l
  short-kept left stop stop' at n bits l (inr e) = absurd (omega (arith, ap (λ (w : Word). w.length) (word-short left a stop at n bits l)))

  module _ (stop stop' at n bits : ℕ) (inside : stop ≤ length a) (k : stop ≤ stop') (l : at < stop) where
    kept : byte_at (a ++ r) at ≡ byte_at a at
    kept = byte-kept at (omega arith)

    ninth-kept : Kept 1 stop stop' at n bits
    ninth-kept = sym (word-ninth (a ++ r) stop' at n bits (omega arith)) ∙ ap (λ x. word_is (n + 1) (bits * 256 + x)) kept ∙ word-ninth a stop at n bits l

    module _ (m : ℕ) where
      last-kept : byte_at a at < 128 → Kept (suc (suc m)) stop stop' at n bits
      last-kept x =
          sym (word-last m (a ++ r) stop' at n bits (omega arith) (omega (arith, kept)))
          ∙ ap (λ x. word_is (n + 1) (bits * 128 + x)) kept
          ∙ word-last m a stop at n bits l x

      ends_on : Ends (suc (suc m)) stop stop' at n bits → 128 ≤ byte_at a at → Ends (suc m) stop stop' (at + 1) (n + 1) (bits * 128 + (byte_at a at - 128))
      ends_on (inl e) x = inl e
      ends_on (inr e) x = inr (omega (arith, e, ap (λ (w : Word). w.length) (word_on m a stop at n bits l x)))

      on-kept : 128 ≤ byte_at a at → Kept (suc m) stop stop' (at + 1) (n + 1) (bits * 128 + (byte_at a at - 128)) → Kept (suc (suc m)) stop stop' at n bits
      on-kept x rest =
          sym (word_on m (a ++ r) stop' at n bits (omega arith) (omega (arith, kept)))
          ∙ ap (λ x. word_from (suc m) (a ++ r) stop' (at + 1) (n + 1) (bits * 128 + (x - 128))) kept
          ∙ rest ∙ word_on m a stop at n bits l x

  word_kept : (left stop stop' at n bits : ℕ) → stop ≤ length a → stop ≤ stop' → Ends left stop stop' at n bits → Kept left stop stop' at n bits
  unfolding word_from
  word_kept zero stop stop' at n bits h k e = refl
  word_kept (suc zero) stop stop' at n bits h k e =
      ⊎_elim (λ (l : at < stop). ninth-kept stop stop' at n bits h k l) (λ (l : stop ≤ at). short-kept 1 stop stop' at n bits l e) (lt-or-ge at stop)
  word_kept (suc (suc m)) stop stop' at n bits h k e =
      ⊎_elim
      (λ (l : at < stop).
      ⊎_elim
      (λ (x : byte_at a at < 128). last-kept stop stop' at n bits h k l m x)
      (λ (x : 128 ≤ byte_at a at).
      on-kept stop stop' at n bits h k l m x
      (word_kept (suc m) stop stop' (at + 1) (n + 1) (bits * 128 + (byte_at a at - 128)) h k (ends_on stop stop' at n bits h k l m e x)))
      (lt-or-ge (byte_at a at) 128))
      (λ (l : stop ≤ at). short-kept (suc (suc m)) stop stop' at n bits l e)
      (lt-or-ge at stop)

  longer : length a ≤ length (a ++ r)
  longer = omega (arith, length-append a r)

  -- a varint of the header
  pub varint-kept : (at h : ℕ) → h ≤ length a → varint_at (a ++ r) at h ≡ varint_at a at h
  unfolding varint_at
  varint-kept at h l =
      rw (le-ltb (length a) h l, le-ltb (length (a ++ r)) h (let k = longer in omega arith))
      (word_kept 9 h h at 0 0 l (omega arith) (inl refl))

  -- the header's length
  pub head-kept : 0 < own_of a → varint_at (a ++ r) 0 (length (a ++ r)) ≡ varint_at a 0 (length a)
  unfolding varint_at
  head-kept g =
      let stop : stop_at a (length a) ≡ length a = rw (le-ltb (length a) (length a) (omega arith)) in
      let g : 0 < (word_from 9 a (length a) 0 0 0).length = subst (λ s. 0 < (word_from 9 a s 0 0 0).length) stop g in
      rw (le-ltb (length a) (length a) (omega arith), le-ltb (length (a ++ r)) (length (a ++ r)) (omega arith))
      (word_kept 9 (length a) (length (a ++ r)) 0 0 0 (omega arith) longer (inr g))

  abbrev onto : (h at : ℕ) → Word → Types → Types
  onto h at w ts = cond (eqb at h) (types []) (cond (eqb w.length 0) broken (cond (refused w.bits) broken (first w.bits ts)))

  pub types-kept : (left h at : ℕ) → h ≤ length a → types_from left (a ++ r) h at ≡ types_from left a h at
  unfolding types_from
  types-kept zero h at l = refl
  types-kept (suc left) h at l =
      let e = varint-kept at h l in
      let rest = ap (λ (w : Word). types_from left (a ++ r) h (at + w.length)) e ∙ types-kept left h (at + varint_length a at h) l in
      ap (λ (w : Word). onto h at w (types_from left (a ++ r) h (at + varint_length (a ++ r) at h))) e ∙ ap (onto h at (varint_at a at h)) rest
