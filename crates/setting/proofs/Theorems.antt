-- A row set to a record of any length that fits: the image is good by the same dealing, and every answer is what it was but for that row's record, its
-- length, and the spellings of its cell.
use Prim.Native.Nat.{ℕ, ◌+◌, ◌-◌, ◌<◌}
use mathlib.Core.Path.{◌≡◌, ap, ◌∙◌}
use mathlib.Core.List.{List}
use lib.IntN.{ℤ}
use native.Mathlib.Omega.{arith}
use Rattle.cell.specs.declared.Cell as D
use Rattle.dealing.specs.File.{Cell, Page}
use Rattle.dealing.specs.Good.{Dealing, TreePage}
use Rattle.dealing.specs.Spelling.{long_in}
use Rattle.image.specs.Image.{file_of}
use Rattle.image.specs.Good.{GoodDealing}
use Rattle.image.proofs.Fields as F
use Rattle.image.proofs.Shape.{shape}
use Rattle.lookup.proofs.Theorems.{opened-image}
use Rattle.verdict.specs.Verdict.{verdict_is}
use Rattle.verdict.specs.Answer.{Accepted}
use Rattle.altered.specs.Answers.{recounted}
use Rattle.altered.proofs.Same.{SameNumbers}
use Rattle.altered.proofs.SameReads.{long-but}
use Rattle.altered.proofs.Kept.{KeepsPages, CellKept, Agrees, images-agree, payload_same, numbers-same}
use Rattle.altered.proofs.Answers.{places-like, bytes_same}
use Rattle.setting.specs.Relaid.{relaid, Settable, Sets}
use Rattle.setting.proofs.Keeps as S

module _ (b : List ℕ) (d : Dealing) (g : GoodDealing b d) (root page cell : ℕ) (row : ℤ) (s : List ℕ) (R : Settable b d root page cell row s) where
  abbrev c : List ℕ
  c = relaid b page cell row s

  keeps : KeepsPages b c d
  keeps = S.keeps b d g root page cell row s R

  agrees : Agrees b c d
  agrees = images-agree b c d g keeps

  kept : (q j : ℕ) → Page (file_of b) q → TreePage d q → j < (file_of b).count q → ((q ≡ page) × (j ≡ cell) → ⊥) → CellKept b c q j
  kept = S.cell-kept b d g root page cell row s R

  numbers : (q j : ℕ) → Page (file_of b) q → TreePage d q → j < (file_of b).count q → ((q ≡ page) × (j ≡ cell) → ⊥) → SameNumbers (file_of b) (file_of c) q j
  numbers q j h t l n = numbers-same b c d g keeps q h t j l (kept q j h t l n)

  -- no number of the cell is spelled long now
  short : ((file_of c).cell page cell).long ≡ 0
  short = ap (λ (x : Cell). x.long) (F.cell_field c page cell) ∙ ap (λ (x : D.Cell). x.long) (S.cell_is b d g root page cell row s R)

  count : long_in (file_of c) d + ((file_of b).cell page cell).long ≡ long_in (file_of b) d
  count =
      let form = shape (opened-image b g.passes) in
      let w = S.w b d g root page cell row s R in
      omega (
        arith,
        short,
        long-but (file_of b) (file_of c) d (omega (arith, form.some, form.N-is)) agrees.files g.good page cell
            (w.in_file, w.tree) w.index (λ q j h t l n. (numbers q j h t l n).long),
      )

  pub relaid_good : Sets b c d page cell s
  relaid_good =
      record {
        places = places-like b c d g agrees;
        here = S.here b d g root page cell row s R;
        long = ap (λ (x : Cell). x.length) (F.cell_field c page cell) ∙ ap (λ (x : D.Cell). x.payload) (S.cell_is b d g root page cell row s R);
        there = λ q j v n. let m = numbers q j v.in_file v.tree v.index n in (
          bytes_same b c d g agrees q j v m.length
              (payload_same b c d g keeps q v.in_file v.tree j v.index (kept q j v.in_file v.tree v.index n)),
          m.length,
        );
        spelled = count;
        size = S.long b d g root page cell row s R;
        rest = S.rest b d g root page cell row s R;
      }

  -- an image that was accepted is accepted with as many pages, and a count that is lower by what the cell had
  pub verdict-again : (ordered : List ℕ) (kinds namers steps N m : ℕ) → verdict_is b ordered kinds namers steps ≡ Accepted N m → m ≡ long_in (file_of b) d
      → verdict_is c ordered kinds namers steps ≡ Accepted N (m - ((file_of b).cell page cell).long)
  verdict-again ordered kinds namers steps N m e n =
      let z : long_in (file_of c) d ≡ m - ((file_of b).cell page cell).long = omega (arith, count, n) in
      relaid_good.places.verdict ordered kinds namers steps ∙ ap (recounted (long_in (file_of c) d)) e ∙ ap (Accepted N) z
