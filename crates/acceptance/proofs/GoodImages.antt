-- By the theorems: the good cases of Images are good images, and the bad ones are not.
use Prim.Native.Nat.{ℕ}
use mathlib.Core.Path.{◌≡◌, refl, sym, ap, ◌∙◌}
use mathlib.Core.List.{List, [], ◌∷◌, map}
use native.Mathlib.Omega.{arith}
use Rattle.header.specs.Header.{pages_of}
use Rattle.dealing.specs.Good.{GoodFile}
use Rattle.dealing.proofs.Theorems.{accepts}
use Rattle.image.specs.Image.{file_of}
use Rattle.image.specs.Good.{GoodImage}
use Rattle.verdict.specs.Answer.{Accepted}
use Rattle.acceptance.proofs.Theorems.{accepted-exactly, refused-not-good}
use Rattle.acceptance.proofs.Images.{GoodCase, seen, told, BadCase, answer, refusal, good_tables, good_tables-accepted, good_others}
use Rattle.acceptance.proofs.Images.{good_others-accepted}
use Rattle.acceptance.proofs.Images.{good_small, good_small-accepted, good_counts, good_counts-accepted, alone, alone-refused, no_magic}
use Rattle.acceptance.proofs.Images.{no-magic-pages, no-magic-walked, no-magic-refused}
use Rattle.acceptance.proofs.Images.{good_tower, good_tower-accepted, good_levels, good_levels-accepted, good_maps, good_maps-accepted}
use Rattle.acceptance.proofs.Images.{mapped, mapped-refused, named, named-refused, tree_pages, tree_pages-refused, others}
use Rattle.acceptance.proofs.Images.{others-refused}

-- P holds of each of a list
abbrev pub Every : {A : Type 0} → (A → Type 0) → List A → Type 0
Every P [] = Unit {0}
Every P (x ∷ xs) = P x × Every P xs

-- lists that are equal are so one by one
abbrev head_or : {A : Type 0} → A → List A → A
head_or d [] = d
head_or d (x ∷ xs) = x

abbrev tail_of : {A : Type 0} → List A → List A
tail_of [] = []
tail_of (x ∷ xs) = xs

each : {A B : Type 0} (f g : A → B) (xs : List A) → map f xs ≡ map g xs → Every (λ x. f x ≡ g x) xs
each f g [] e = tt
each f g (x ∷ xs) e = (ap (head_or (f x)) e, each f g xs (ap tail_of e))

is-good : (c : GoodCase) → seen c ≡ told c → GoodImage c.image
is-good c e =
    let n : pages_of c.image ≡ c.pages = ap (λ s. s.1) e in
    (accepted-exactly c.image (pages_of c.image) (pages_of c.image) (pages_of c.image) (omega arith) (omega arith) (omega arith)).0
    (c.long, ap (λ s. s.0) e ∙ ap (λ (m : ℕ). Accepted m c.long) (sym n))

is-bad : (c : BadCase) → answer c ≡ refusal c → GoodImage c.image → ⊥
is-bad c e =
    refused-not-good c.image (pages_of c.image) (pages_of c.image) (pages_of c.image) c.number c.page (omega arith)
    (omega arith) (omega arith) e

all-good : (cs : List GoodCase) → Every (λ c. seen c ≡ told c) cs → Every (λ (c : GoodCase). GoodImage c.image) cs
all-good [] e = tt
all-good (c ∷ cs) e = (is-good c e.0, all-good cs e.1)

all-bad : (cs : List BadCase) → Every (λ c. answer c ≡ refusal c) cs → Every (λ (c : BadCase). GoodImage c.image → ⊥) cs
all-bad [] e = tt
all-bad (c ∷ cs) e = (is-bad c e.0, all-bad cs e.1)

abbrev pub AreGood : List GoodCase → Type 0
AreGood = Every (λ c. GoodImage c.image)

abbrev pub AreNotGood : List BadCase → Type 0
AreNotGood = Every (λ c. GoodImage c.image → ⊥)

pub good-images : AreGood good_tables × AreGood good_others × AreGood good_small × AreGood good_counts × AreGood good_tower
    × AreGood good_levels × AreGood good_maps
good-images = (
  all-good good_tables (each seen told good_tables good_tables-accepted),
  all-good good_others (each seen told good_others good_others-accepted),
  all-good good_small (each seen told good_small good_small-accepted),
  all-good good_counts (each seen told good_counts good_counts-accepted),
  all-good good_tower (each seen told good_tower good_tower-accepted),
  all-good good_levels (each seen told good_levels good_levels-accepted),
  all-good good_maps (each seen told good_maps good_maps-accepted),
)

pub bad-images : AreNotGood named × AreNotGood tree_pages × AreNotGood others × AreNotGood alone × AreNotGood mapped
bad-images = (
  all-bad named (each answer refusal named named-refused),
  all-bad tree_pages (each answer refusal tree_pages tree_pages-refused),
  all-bad others (each answer refusal others others-refused),
  all-bad alone (each answer refusal alone alone-refused),
  all-bad mapped (each answer refusal mapped mapped-refused),
)

-- without refusals 1 to 11 the verdict would not accept exactly the good images: a good dealing alone does not make an image good
pub no-magic : GoodFile (file_of no_magic) × (GoodImage no_magic → ⊥)
no-magic = (
  let g = (accepts [] (file_of no_magic) (let n = no-magic-pages in omega arith)).0 (_, _, no-magic-walked) in (g.0, g.1.good),
  refused-not-good no_magic (pages_of no_magic) (pages_of no_magic) (pages_of no_magic) 2 0 (omega arith) (omega arith) (omega arith) no-magic-refused,
)
