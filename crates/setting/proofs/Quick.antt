-- Quick reading after a row was set: find shows the same places with the lengths of the new image; the row's payload is found with its new length.
use Prim.Native.Nat.{ℕ}
use mathlib.Core.Path.{◌≡◌, sym, ap, ◌∙◌}
use mathlib.Core.List.{List}
use lib.IntN.{ℤ}
use Rattle.dealing.specs.Good.{Dealing}
use Rattle.image.specs.Image.{file_of}
use Rattle.image.specs.Good.{GoodDealing, TableRoot}
use Rattle.image.proofs.Shape.{shape}
use Rattle.lookup.proofs.Theorems.{opened-image}
use mathlib.Core.Logic.{inl}
use native.Mathlib.Omega.{arith}
use Prim.Native.Nat.{◌≤◌}
use Rattle.quick.specs.Answers.{find_of}
use Rattle.quick.proofs.Same.{same-find}
use Rattle.altered.specs.Answers.{found_in, LikePlaces}
use Rattle.altered.proofs.Same.{page-to, table_same}
use Rattle.altered.proofs.Kept.{Agrees, images-agree}
use Rattle.altered.proofs.Answers.{places-like}
use Rattle.setting.specs.Relaid.{relaid, Settable}
use Rattle.setting.proofs.Keeps.{keeps}

module _ (b c : List ℕ) (d : Dealing) (g : GoodDealing b d) (a : Agrees b c d) where
  like : LikePlaces b c d
  like = places-like b c d g a

  some : 1 ≤ (file_of b).N
  some = let form = shape (opened-image b g.passes) in omega (arith, form.some, form.N-is)

  pub root-there : (root : ℕ) → TableRoot b d root → TableRoot c d root
  root-there root t =
      record {
        page = page-to (file_of b) (file_of c) d some a.files g.good root t.page;
        kind = t.kind;
        table = table_same (file_of b) (file_of c) d some a.files g.good root t.page (inl t.kind) ∙ t.table;
      }

  pub agrees-find : (root : ℕ) → TableRoot b d root → (row : ℤ) → find_of c root row ≡ found_in c (find_of b root row)
  agrees-find root t row =
      same-find like.good (root-there root t) row ∙ like.lookup root (t.page, t.kind) row ∙ ap (found_in c) (sym (same-find g t row))

module _ (b : List ℕ) (d : Dealing) (g : GoodDealing b d) (root page cell : ℕ) (row : ℤ) (s : List ℕ) (R : Settable b d root page cell row s) where
  pub quick-find : (root' : ℕ) → TableRoot b d root' → (row' : ℤ) → find_of (relaid b page cell row s) root' row' ≡ found_in (relaid b page cell row s) (find_of b root' row')
  quick-find = agrees-find b (relaid b page cell row s) d g (images-agree b (relaid b page cell row s) d g (keeps b d g root page cell row s R))
