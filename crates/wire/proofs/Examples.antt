-- The example of the request: a file of two pages, a schema with one root.
use mathlib.Core.Path.{◌≡◌, refl}
use mathlib.Core.List.{[], ◌∷◌}
use Rattle.paging.specs.Pages.{join_pages}
use Rattle.wire.specs.Wire.{four, frame, entry, spelled, proposal_of}

pub two-pages : proposal_of 2 (1 ∷ 1 ∷ []) (0 ∷ 1 ∷ []) (0 ∷ 1 ∷ [])
    ≡ 0 ∷ 0 ∷ 0 ∷ 19 ∷ 1 ∷ 1 ∷ 0 ∷ 0 ∷ 0 ∷ 0 ∷ 0 ∷ 0 ∷ 0 ∷ 0 ∷ 1 ∷ 0 ∷ 0 ∷ 0 ∷ 1 ∷ 0 ∷ 0 ∷ 0 ∷ 1 ∷ []
unfolding spelled frame entry four join_pages
two-pages = refl
