-- What the row held before is nowhere in the image: two images that differ in the row's cell, freeblocks, fragments or the gap alone are the same once the
-- row was set in both, whatever else they held there.
use Prim.Native.Nat.{ℕ, ◌+◌, ◌*◌}
use mathlib.Core.Path.{◌≡◌, refl, sym, ap, ap₂, ◌∙◌}
use mathlib.Core.Bool.{Bool, true, false, cond, true≢false}
use mathlib.Core.List.{List}
use lib.Dec.{eqb}
use lib.IntN.{ℤ}
use lib.ListN.{length}
use native.Mathlib.Omega.{arith}
use mir.Syntax.{w64}
use mir.Val.{SFits}
use borrow.Author.Tests.{eqb-true}
use Rattle.number.specs.Bytes.{be}
use Rattle.number.proofs.BeLaws.{be-same}
use Rattle.cell.specs.Cell.{child_width}
use Rattle.page.specs.Header.{page_type, pointer_place}
use Rattle.dealing.specs.Good.{Dealing}
use Rattle.image.specs.Pages.{page_in}
use Rattle.image.specs.Good.{GoodDealing}
use Rattle.lookup.specs.Answers.{lookup_of}
use Rattle.lookup.specs.Found as Fo
use Rattle.setting.specs.declared.Outcome as Se
use Rattle.setting.specs.Relaid.{relaid, Settable, AlikeBut, DifferInside}
use Rattle.setting.specs.Answers.{refusal_for, refused_of, answer_for, image_for, set_of, image_after, Own}
use Rattle.setting.proofs.Ways.{settable-at}
use Rattle.setting.proofs.Gone.{gone}

-- bytes that differ inside alone
pub inside-alike : (b b' : List ℕ) (page cell : ℕ) → DifferInside b b' page cell → AlikeBut b b' page cell
inside-alike b b' page cell D =
    record {
      long = D.long;
      outside = D.outside;
      type = type;
      count = be-same 2 q p 3 3 (λ i l. D.array (3 + i) (omega arith));
      places = λ j l _. ap (be 2 q) (place j) ∙ be-same 2 q p (pointer_place p 0 j) (pointer_place p 0 j) (λ i m. D.array (pointer_place p 0 j + i) (omega arith));
      cells = D.cells;
    }
  where
    p : List ℕ
    p = page_in b page

    q : List ℕ
    q = page_in b' page

    type : page_type q 0 ≡ page_type p 0
    type = D.array 0 (omega arith)

    place : (j : ℕ) → pointer_place q 0 j ≡ pointer_place p 0 j
    place j = ap (λ t. 0 + 8 + child_width t + 2 * j) type

-- a row that was set: the image, and that it might be
module _ (b ks : List ℕ) (root : ℕ) (row : ℤ) (s : List ℕ) where
  -- what an answer says of the image i: where it says that the row was set, i is b with that leaf laid anew, and that might be done
  pub record Was (i : List ℕ) (r : Se.Outcome) : Type 0 where
    pub image : r.found ≡ true → i ≡ relaid b r.page r.cell row s
    pub settable : r.found ≡ true → SFits w64 row → (d : Dealing) → GoodDealing b d → Own b d ks root → Settable b d root r.page r.cell row s

  was-for : (a : Fo.Found) → a ≡ lookup_of b root row → Was (image_for b ks root row s a) (answer_for b ks root row s a)
  was-for Fo.Nothing e = record { image = λ z. absurd (true≢false (sym z)); settable = λ z. absurd (true≢false (sym z)) }
  was-for (Fo.Refused number page) e = record { image = λ z. absurd (true≢false (sym z)); settable = λ z. absurd (true≢false (sym z)) }
  was-for (Fo.At page cell n) e = go (eqb (refusal_for b ks root page cell row s) 0) refl
    where
      go : (x : Bool) → eqb (refusal_for b ks root page cell row s) 0 ≡ x
          → Was (cond x (relaid b page cell row s) b) (cond x (record { refusal = 0; found = true; page = page; cell = cell; length = length s })
          (refused_of (refusal_for b ks root page cell row s) (cond (eqb (refusal_for b ks root page cell row s) 28) 0 page)))
      go true z =
          record { image = λ _. refl; settable = λ _ fits d g own. settable-at b ks root row s page cell n e (eqb-true _ _ z) fits d g own }
      go false z = record { image = λ y. absurd (true≢false (sym y)); settable = λ y. absurd (true≢false (sym y)) }

  pub was : Was (image_after b ks root row s) (set_of b ks root row s)
  unfolding image_after set_of
  was = was-for (lookup_of b root row) refl

-- the row set in both, at the same place: one image
pub wiped : (b b' ks ks' : List ℕ) (root : ℕ) (row : ℤ) (s : List ℕ) → SFits w64 row → (d : Dealing) → GoodDealing b d → Own b d ks root
    → (set_of b ks root row s).found ≡ true → (set_of b' ks' root row s).found ≡ true
    → (set_of b' ks' root row s).page ≡ (set_of b ks root row s).page → (set_of b' ks' root row s).cell ≡ (set_of b ks root row s).cell
    → AlikeBut b b' (set_of b ks root row s).page (set_of b ks root row s).cell
    → image_after b' ks' root row s ≡ image_after b ks root row s
wiped b b' ks ks' root row s fits d g own f f' p c A =
    let r = set_of b ks root row s in
    (was b' ks' root row s).image f' ∙ ap₂ (λ p c. relaid b' p c row s) p c
    ∙ gone b b' d g root r.page r.cell row s ((was b ks root row s).settable f fits d g own) A
    ∙ sym ((was b ks root row s).image f)
