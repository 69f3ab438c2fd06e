-- Rows set in images made by sqlite3, computed: what is done, each refusal, and the count of long spellings.
use Prim.Native.Nat.{ℕ}
use mathlib.Core.Path.{◌≡◌, refl}
use mathlib.Core.Bool.{true}
use mathlib.Core.List.{List, [], ◌∷◌}
use lib.IntN.{pos}
use lib.ListN.{replicate}
use Rattle.number.specs.Varint.{spelling, groups}
use Rattle.image.specs.Payload.{payload_of}
use Rattle.image.proofs.RealImages.{tables, indexes, schemas}
use Rattle.verdict.specs.Verdict.{verdict_is}
use Rattle.verdict.specs.Answer.{Accepted}
use Rattle.lookup.specs.Answers.{lookup_of}
use Rattle.lookup.specs.Found as Fo
use Rattle.writing.specs.Cells.{be_bytes, leaf_fields, leaf_cell}
use Rattle.writing.specs.Pages.{header_bytes}
use Rattle.altered.proofs.Computing as compute
use Rattle.setting.specs.declared.Outcome.{Outcome}
use Rattle.setting.specs.Relaid.{cells_with, stacked, stack_pointers, leaf_page}
use Rattle.setting.specs.Answers.{fit_for, refusal_for, refused_of, set_of, image_after}

-- laying a leaf
unfoldable pub laying : ℕ
unfolding cells_with stacked stack_pointers leaf_page header_bytes be_bytes leaf_fields leaf_cell spelling groups fit_for refusal_for set_of image_after
laying = 0

abbrev done_at : (page cell n : ℕ) → Outcome
done_at page cell n = record { refusal = 0; found = true; page = page; cell = cell; length = n }

-- for the text `four` of row 4 under root 3: the number 5, a text of 20
abbrev number : List ℕ
number = 2 ∷ 1 ∷ 5 ∷ []

abbrev longer : List ℕ
longer = 2 ∷ 53 ∷ replicate 20 97

abbrev ks : List ℕ
ks = 1 ∷ 1 ∷ 1 ∷ []

pub shorter-done : (set_of tables ks 3 (pos 4) number ≡ done_at 3 1 3) × (payload_of (image_after tables ks 3 (pos 4) number) 3 1 ≡ number)
    × (payload_of (image_after tables ks 3 (pos 4) number) 3 2 ≡ payload_of tables 3 2)
    × (lookup_of (image_after tables ks 3 (pos 4) number) 3 (pos 4) ≡ Fo.At 3 1 3)
unfolding tables laying compute.lookups compute.payloads compute.records
shorter-done = (refl, refl, refl, refl)

pub longer-done : (set_of tables ks 3 (pos 4) longer ≡ done_at 3 1 22) × (payload_of (image_after tables ks 3 (pos 4) longer) 3 1 ≡ longer)
    × (lookup_of (image_after tables ks 3 (pos 4) longer) 3 (pos 4) ≡ Fo.At 3 1 22)
unfolding tables laying compute.lookups compute.payloads compute.records
longer-done = (refl, refl, refl)

pub judged : (verdict_is tables [] 12 12 12 ≡ Accepted 12 0) × (verdict_is (image_after tables ks 3 (pos 4) longer) [] 12 12 12 ≡ Accepted 12 0)
unfolding tables laying compute.lookups compute.verdicts
judged = (refl, refl)

-- the refusals: the schema's root, a root that the ledger does not have, no record, a chain before, a chain after; then nothing found, and lookup's
pub refusals : (set_of tables ks 1 (pos 1) number ≡ refused_of 53 1) × (set_of tables (1 ∷ 1 ∷ []) 3 (pos 4) number ≡ refused_of 53 3)
    × (set_of tables ks 3 (pos 4) (9 ∷ 9 ∷ []) ≡ refused_of 28 0) × (set_of tables ks 3 (pos 1) number ≡ refused_of 54 3)
    × (set_of tables ks 3 (pos 9) number ≡ refused_of 0 0) × (set_of tables ks 99 (pos 9) number ≡ refused_of 20 0)
    × (set_of indexes ks 2 (pos 9) number ≡ refused_of 22 2)
unfolding tables indexes laying compute.lookups compute.payloads compute.records
refusals = (refl, refl, refl, refl, refl, refl, refl)

-- page 4 of `schemas` holds rows of the schema and is no root: its kind is 6
pub no-root : set_of schemas (1 ∷ 1 ∷ 1 ∷ 6 ∷ 1 ∷ 1 ∷ []) 4 (pos 1) number ≡ refused_of 53 4
unfolding schemas laying compute.lookups compute.records
no-root = refl
