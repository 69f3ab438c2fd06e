-- A life of a disk: one deed after the other, each completed or cut by the power, the next one from what is there. A number that is read from the file, and who uses it.
use Rattle.std.specs.Prelude.{ℕ, zero, suc, ◌<◌, ◌≤◌, ◌≡◌, ◌⊎◌, Bool, true, false, cond, List, [], ◌∷◌, length, get_or}
use Rattle.storage.specs.Disk.{Disk, shown}
use Rattle.storage.specs.Deeds.{Deed, commit, checkpoint, restart, renew, May, completed, Leaves}

-- a deed, whether it was completed, and the disk after it; and whether a user then uses the number that it had read before
pub record Event : Type 0 where
  pub deed : Deed
  pub done : Bool
  pub after : Disk
  pub used : Bool

abbrev pub Ends : (done : Bool) → Deed → (before after : Disk) → Type 0
Ends true deed d e = e ≡ completed deed d
Ends false deed d e = Leaves deed d e

-- from disk d on
unfoldable pub Life : Disk → List Event → Type 0
Life d [] = Unit {0}
Life d (e ∷ rest) = May e.deed d × Ends e.done e.deed d e.after × Life e.after rest

-- the disk after the first k events
unfoldable pub disk_at : Disk → List Event → (k : ℕ) → Disk
disk_at d events zero = d
disk_at d [] (suc k) = d
disk_at d (e ∷ rest) (suc k) = disk_at e.after rest k

-- ---- the files that may be shown
-- x is one of them
unfoldable pub Among : (x : List ℕ) → List (List ℕ) → Type 0
Among x [] = ⊥
Among x (y ∷ ys) = (x ≡ y) ⊎ Among x ys

-- after a deed on disk d, where these might be shown before: of a commit that was completed its file alone, of one that was cut its file too
abbrev pub files_after : (done : Bool) → Deed → Disk → List (List ℕ) → List (List ℕ)
files_after true (commit n numbers pages) d files = shown (completed (commit n numbers pages) d) ∷ []
files_after false (commit n numbers pages) d files = shown (completed (commit n numbers pages) d) ∷ files
files_after done checkpoint d files = files
files_after done (restart sequence salt1 salt2) d files = files
files_after done (renew sequence salt1 salt2) d files = files

-- after the first k events
unfoldable pub files_at : List (List ℕ) → Disk → List Event → (k : ℕ) → List (List ℕ)
files_at files d events zero = files
files_at files d [] (suc k) = files
files_at files d (e ∷ rest) (suc k) = files_at (files_after e.done e.deed d files) e.after rest k

-- ---- a number, read from the bytes of the file in whatever way
-- a commit does not lower it; no other deed is asked anything
abbrev pub Holds : (number : List ℕ → ℕ) → Deed → Disk → Type 0
Holds number (commit n numbers pages) d = number (shown d) ≤ number (shown (completed (commit n numbers pages) d))
Holds number checkpoint d = Unit {0}
Holds number (restart sequence salt1 salt2) d = Unit {0}
Holds number (renew sequence salt1 salt2) d = Unit {0}

-- no commit of the life lowers it, completed or not
unfoldable pub NeverLowers : (number : List ℕ → ℕ) → Disk → List Event → Type 0
NeverLowers number d [] = Unit {0}
NeverLowers number d (e ∷ rest) = Holds number e.deed d × NeverLowers number e.after rest

-- ---- a user: it reads the number, lets a greater one be committed, and once that is completed it may use the one that it read
unfoldable pub Careful : (number : List ℕ → ℕ) → Disk → List Event → Type 0
Careful number d [] = Unit {0}
Careful number d (e ∷ rest) =
    (e.used ≡ true → (e.done ≡ true) × (number (shown d) < number (shown (completed e.deed d)))) × Careful number e.after rest

-- the numbers used, in their order
unfoldable pub used_numbers : (number : List ℕ → ℕ) → Disk → List Event → List ℕ
used_numbers number d [] = []
used_numbers number d (e ∷ rest) = cond e.used (number (shown d) ∷ used_numbers number e.after rest) (used_numbers number e.after rest)

-- each greater than those before it
abbrev pub Rising : List ℕ → Type 0
Rising l = (i j : ℕ) → i < j → j < length l → get_or l i 0 < get_or l j 0
