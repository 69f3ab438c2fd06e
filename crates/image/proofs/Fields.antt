-- The fields of the file, by the readers that specs/ names; what these read of real images is in Examples.
use Prim.Native.Nat.{ℕ}
use mathlib.Core.Path.{◌≡◌, refl}
use mathlib.Core.List.{List}
use Rattle.header.specs.Header.{usable_of, pages_of}
use Rattle.page.specs.Header.{page_type, cell_count}
use Rattle.page.specs.Fault.{sound_fault}
use Rattle.dealing.specs.File as F
use Rattle.image.specs.Pages.{page_in, head_of, cell_in, right_in, free_head_in, free_total_in, trunk_next_in, trunk_count_in, trunk_leaf_in, trunk_room_in}
use Rattle.image.specs.Payload.{next_in, payload_of}
use Rattle.image.specs.Schema.{column4_of}
use Rattle.image.specs.Maps.{vacuum_in, fixed_in, entry_type_in, entry_number_in}
use Rattle.image.specs.Image.{file_cell, file_of}

module _ (b : List ℕ) where
  pub N-field : (file_of b).N ≡ pages_of b
  unfolding file_of
  N-field = refl

  pub head-field : (file_of b).free_head ≡ free_head_in b
  unfolding file_of
  head-field = refl

  pub total-field : (file_of b).free_total ≡ free_total_in b
  unfolding file_of
  total-field = refl

  pub room-field : (file_of b).trunk_room ≡ trunk_room_in b
  unfolding file_of
  room-field = refl

  pub vacuum-field : (file_of b).vacuum ≡ vacuum_in b
  unfolding file_of
  vacuum-field = refl

  module _ (p : ℕ) where
    pub type-field : (file_of b).type p ≡ page_type (page_in b p) (head_of p)
    unfolding file_of
    type-field = refl

    pub broken-field : (file_of b).broken p ≡ sound_fault (page_in b p) (usable_of b) (head_of p)
    unfolding file_of
    broken-field = refl

    pub count-field : (file_of b).count p ≡ cell_count (page_in b p) (head_of p)
    unfolding file_of
    count-field = refl

    pub right-field : (file_of b).right p ≡ right_in b p
    unfolding file_of
    right-field = refl

    pub next_field : (file_of b).next p ≡ next_in b p
    unfolding file_of
    next_field = refl

    pub trunk-next-field : (file_of b).trunk_next p ≡ trunk_next_in b p
    unfolding file_of
    trunk-next-field = refl

    pub trunk-count-field : (file_of b).trunk_count p ≡ trunk_count_in b p
    unfolding file_of
    trunk-count-field = refl

    pub trunk-leaf-field : (j : ℕ) → (file_of b).trunk_leaf p j ≡ trunk_leaf_in b p j
    unfolding file_of
    trunk-leaf-field j = refl

    pub fixed-field : (file_of b).fixed p ≡ fixed_in b p
    unfolding file_of
    fixed-field = refl

    pub entry-type-field : (file_of b).entry_type p ≡ entry_type_in b p
    unfolding file_of
    entry-type-field = refl

    pub entry-number-field : (file_of b).entry_number p ≡ entry_number_in b p
    unfolding file_of
    entry-number-field = refl

    pub cell_field : (i : ℕ) → (file_of b).cell p i ≡ file_cell b p (cell_in b p i)
    unfolding file_of
    cell_field i = refl

    pub column4-field : (i : ℕ) → (file_of b).column4 p i ≡ column4_of (payload_of b p i)
    unfolding file_of
    column4-field i = refl
