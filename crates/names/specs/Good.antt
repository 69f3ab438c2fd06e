-- Good images for a caller who names roots as plain ascending. With none named they are the good images (image/specs/Good.antt; proofs/Good.antt says so).
-- Definitions only; dealing/specs/File.antt says how to read them.
use Rattle.std.specs.Prelude.{ℕ, ◌≡◌}
use mathlib.Core.List.{List, Memᴰ as Mem}
use Rattle.number.specs.Bytes.{be}
use Rattle.header.specs.Header.{header_refusal}
use Rattle.dealing.specs.Good.{Dealing, GoodFor}
use Rattle.image.specs.Image.{file_of}

-- the image passes refusals 1 to 11, and d is a good dealing, for these names, of the file that its bytes say
pub record GoodDealingFor (ordered b : List ℕ) (d : Dealing) : Type 0 where
  pub passes : header_refusal b ≡ 0
  -- 34: where any root is named, the text encoding is 1
  pub text : (r : ℕ) → Mem r ordered → be 4 b 56 ≡ 1
  -- 20 to 33 and 35
  pub good : GoodFor ordered (file_of b) d

-- an image is good for these names when it has such a dealing
abbrev pub GoodImageFor : (ordered b : List ℕ) → Type 0
GoodImageFor ordered b = (d : Dealing) × GoodDealingFor ordered b d
