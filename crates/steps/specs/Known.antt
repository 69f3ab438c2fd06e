-- A ledger of steps while it is filled: 0 stands for a step that is not known yet, or is 0.
use Rattle.std.specs.Prelude.{◌≡◌, ◌⊎◌, List, ℕ, ◌-◌, ◌≤◌, ◌<◌, length, get_or}
use Rattle.dealing.specs.Steps.{step_by, Rooted}

-- a page's entry, and that it is right
abbrev pub entry : (steps : List ℕ) (p : ℕ) → ℕ
entry ss p = get_or ss (p - 1) 0

abbrev pub Right : (namers : List ℕ) (n : ℕ) (steps : List ℕ) (p : ℕ) → Type 0
Right ns n ss p = entry ss p ≡ step_by ns n p

-- each entry is 0 or right
pub record Some (ns : List ℕ) (n : ℕ) (ss : List ℕ) : Type 0 where
  pub long : length ss ≡ n
  pub each : (p : ℕ) → 1 ≤ p → p ≤ n → (entry ss p ≡ 0) ⊎ Right ns n ss p

-- each entry is what it was, or right
pub record After (ns : List ℕ) (n : ℕ) (ss ss' : List ℕ) : Type 0 where
  pub long : length ss' ≡ length ss
  pub each : (p : ℕ) → 1 ≤ p → p ≤ n → (entry ss' p ≡ entry ss p) ⊎ Right ns n ss' p

-- page p is one of n pages whose namers lead up to one that has none, and their ledger of steps is being filled
pub record Entering (ns : List ℕ) (n : ℕ) (ss : List ℕ) (p : ℕ) : Type 0 where
  pub rooted : Rooted ns n
  pub few : n < 4294967296
  pub some : Some ns n ss
  pub low : 1 ≤ p
  pub high : p ≤ n
