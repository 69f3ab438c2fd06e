use borrow.Author.Rules.{rules}
use lib.Dec.{T}
use lib.Ieee.{binary64, fits, to_bits}
use mir.Syntax.{w64}
use mir.Val.{to_z, of_z}
use Rattle.order.specs.Order.{integer_units, real_units}
use Rattle.compare.proofs.NumberLaws.{bits_small, by-keys, by-integers, by-reverse}
use mathlib.Core.Path.{ap}
use Rattle.compare.specs.Values.{worth}
use Rattle.compare.proofs.ColumnLaws.{worth-integer, numbers-are, texts-are, blobs-are, integer-other, real-other, text-other, blob-other, null-other, ranks-decide}
use Rattle.compare.proofs.columns.Goals.{in_default-via-in-Int+in_default, in_default-via-in-Real+in_default, in_default-via-in-Text+in_default, in_default-via-in-Blob+in_default, in_default-via-in_default}
use Rattle.compare.proofs.columns.Goals as goal

pub returns-in-Int-Int : goal.returns-in-Int-Int
returns-in-Int-Int c =
    let x = c.in-Int-Int in
    numbers-are _ _ _ _ _ (worth-integer _ _ x.n (search rules) x.is-0) (worth-integer _ _ x.m (search rules) x.is-1)
    (by-integers _ _ _ c.cmp.ensures)

pub returns-in-Int-Real : goal.returns-in-Int-Real
returns-in-Int-Real c =
    let x = c.in-Int-Real in
    numbers-are _ _ _ _ _ (worth-integer _ _ x.n (search rules) x.is-0) (ap (worth c.args.b.now) x.is-1) c.integer_real.ensures

pub returns-in-Real-Int : goal.returns-in-Real-Int
returns-in-Real-Int c =
    let x = c.in-Real-Int in
    numbers-are _ _ _ _ _ (ap (worth c.args.a.now) x.is-0) (worth-integer _ _ x.m (search rules) x.is-1)
    (by-reverse (integer_units (to_z w64 (of_z w64 x.m))) (real_units (to_bits binary64 x.x)) _ _ c.reverse.ensures c.integer_real-in-Real-Int.ensures)

pub returns-in-Real-Real : goal.returns-in-Real-Real
returns-in-Real-Real c =
    let x = c.in-Real-Real in
    let f : T (fits binary64 x.x) = search rules in
    let g : T (fits binary64 x.y) = search rules in
    numbers-are _ _ _ _ _ (ap (worth c.args.a.now) x.is-0) (ap (worth c.args.b.now) x.is-1)
    (by-keys _ _ _ _ _ (bits_small x.x f) (bits_small x.y g) c.key.ensures c.key-in-Real-Real.ensures c.cmp-in-Real-Real.ensures)

pub returns-in-Text-Text : goal.returns-in-Text-Text
returns-in-Text-Text c = let x = c.in-Text-Text in texts-are _ _ _ _ _ (ap (worth c.args.a.now) x.is-0) (ap (worth c.args.b.now) x.is-1) c.bytes.ensures

pub returns-in-Blob-Blob : goal.returns-in-Blob-Blob
returns-in-Blob-Blob c = let x = c.in-Blob-Blob in blobs-are _ _ _ _ _ (ap (worth c.args.a.now) x.is-0) (ap (worth c.args.b.now) x.is-1) c.bytes-in-Blob-Blob.ensures

pub returns-in_default : goal.returns-in_default
returns-in_default c =
    ranks-decide c.args.a.now c.args.b.now c.args.v c.args.w _ _ _ c.cmp-in_default.ensures (c.rank_of.ensures c.args.a.now) (c.rank_of-in_default.ensures c.args.b.now)
    (elim c.in_default.branch [
      | in_default-via-in-Int+in_default w ↦ let x = w.in_default in integer-other _ _ _ _ _ x.is-0 x.not-Int-1 x.not-Real-1
      | in_default-via-in-Real+in_default w ↦ let x = w.in_default in real-other _ _ _ _ _ x.is-0 x.not-Int-1 x.not-Real-1
      | in_default-via-in-Text+in_default w ↦ let x = w.in_default in text-other _ _ _ _ _ _ x.is-0 x.not-Text-1
      | in_default-via-in-Blob+in_default w ↦ let x = w.in_default in blob-other _ _ _ _ _ _ x.is-0 x.not-Blob-1
      | in_default-via-in_default w ↦ null-other _ _ _ _ w.in_default.is-0
    ])
