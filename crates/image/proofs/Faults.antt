-- What a tree page breaks by itself: as its check says it, and as the file does.
use Prim.Native.Nat.{ℕ, ◌<◌}
use mathlib.Core.Path.{◌≡◌, refl}
use mathlib.Core.Bool.{Bool, true, false, cond, ◌||◌}
use mathlib.Core.Logic.{◌↔◌}
use mathlib.Core.List.{List}
use lib.Dec.{eqb}
use Rattle.header.specs.Header.{usable_of}
use Rattle.page.specs.declared.Place as P
use Rattle.page.specs.Place.{allowed}
use Rattle.page.specs.Header.{page_type}
use Rattle.page.specs.Fault.{page_fault}
use Rattle.page.specs.Sound.{Sound}
use Rattle.page.proofs.PageLaws.{CellLies, sound_none}
use Rattle.dealing.specs.File.{File, Place, schema_root, any_root, table_page, index_page, suits, table_type, index_type}
use Rattle.dealing.specs.Walk.{fault_in}
use Rattle.image.specs.Pages.{page_in, head_of}
use Rattle.image.specs.Image.{file_of}

-- neither 23 nor 26: each cell can be read where its pointer says, and the page is sound
pub broken-none : (b : List ℕ) (p : ℕ)
    → ((file_of b).broken p ≡ 0)
    ↔ (((i : ℕ) → i < (file_of b).count p → CellLies (page_in b p) (usable_of b) (head_of p) i) × Sound (page_in b p) (usable_of b) (head_of p))
unfolding file_of
broken-none b p = sound_none (page_in b p) (usable_of b) (head_of p)

-- a place, as the check of a page has it
abbrev pub place_for : Place → P.Place
place_for schema_root = P.TheVariants.SchemaRoot
place_for any_root = P.TheVariants.AnyRoot
place_for table_page = P.TheVariants.TablePage
place_for index_page = P.TheVariants.IndexPage

either : (a b : Bool) → (a || b) ≡ cond a true b
either true b = refl
either false b = refl

pub suits-same : (place : Place) (t : ℕ) → allowed (place_for place) t ≡ suits place t
unfolding allowed suits
suits-same schema_root t = either (eqb t 5) (eqb t 13)
suits-same any_root t = rw (either (eqb t 5) (eqb t 13), either (eqb t 2) (eqb t 10)) (either (table_type t) (index_type t))
suits-same table_page t = either (eqb t 5) (eqb t 13)
suits-same index_page t = either (eqb t 2) (eqb t 10)

-- 22, 23 and 26
pub fault-same : (b : List ℕ) (p : ℕ) (x : P.Place) (place : Place) → ((t : ℕ) → allowed x t ≡ suits place t)
    → page_fault x (page_in b p) (usable_of b) (head_of p) ≡ fault_in (file_of b) place p
unfolding page_fault fault_in file_of
fault-same b p x place e = rw (e (page_type (page_in b p) (head_of p)))
