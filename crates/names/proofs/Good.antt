-- Good images for the names that a caller gives, beside the good ones.
use mathlib.Core.List.Memᴰ.{head as here}
use Prim.Native.Nat.{ℕ}
use mathlib.Core.Path.{◌≡◌, refl}
use mathlib.Core.Bool.{false}
use mathlib.Core.Logic.{◌↔◌}
use mathlib.Core.List.{List, ◌∷◌, [], Memᴰ as Mem}
use mathlib.Core.List.Memᴰ
use borrow.Author.Tests.{eqb-true, eq-eqb, not-false}
use Rattle.number.specs.Bytes.{be}
use Rattle.dealing.specs.Good.{Dealing}
use Rattle.dealing.proofs.Theorems.{none_named}
use Rattle.image.specs.Good.{GoodDealing, GoodImage}
use Rattle.image.specs.Image.{file_of}
use Rattle.names.specs.Names.{bad34}
use Rattle.names.specs.Good.{GoodDealingFor, GoodImageFor}

-- good for some names is good
pub good_for : (ordered b : List ℕ) (d : Dealing) → GoodDealingFor ordered b d → GoodDealing b d
good_for ordered b d g = record { passes = g.passes; good = g.good.good }

-- with no root named all is as it was
pub good_none : (b : List ℕ) (d : Dealing) → GoodDealing b d → GoodDealingFor [] b d
good_none b d g =
    record { passes = g.passes; text = λ r m. absurd (Memᴰ.not-nil m); good = none_named (file_of b) d g.good }

pub none-good : (b : List ℕ) → GoodImageFor [] b ↔ GoodImage b
none-good b = (λ g. (g.0, good_for [] b g.0 g.1), λ g. (g.0, good_none b g.0 g.1))

-- 34 says what is asked of the text encoding
pub text-told : (ordered b : List ℕ) → bad34 ordered b ≡ false → (r : ℕ) → Mem r ordered → be 4 b 56 ≡ 1
unfolding bad34
text-told [] b e r m = absurd (Memᴰ.not-nil m)
text-told (x ∷ xs) b e r m = eqb-true (be 4 b 56) 1 (not-false _ e)

pub told_text : (ordered b : List ℕ) → ((r : ℕ) → Mem r ordered → be 4 b 56 ≡ 1) → bad34 ordered b ≡ false
unfolding bad34
told_text [] b h = refl
told_text (x ∷ xs) b h = rw (eq-eqb (be 4 b 56) 1 (h x (here refl)))
