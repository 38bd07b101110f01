-- What is known of all commits of a log together (own).
use Rattle.std.specs.Prelude.{◌≡◌, ◌↔◌, ℕ, ◌-◌, ◌<◌, ◌≤◌, List, length, get_or}
use Rattle.history.specs.Known.{IsGone}

-- by page, from 1: at which commits it is gone, those before this one; 0 where at none
pub record AreUntil (size : ℕ) (w : List ℕ) (front : ℕ) (file list : List ℕ) : Type 0 where
  pub each : (m p : ℕ) → m < front → 1 ≤ p → p ≤ length list → IsGone size w front file m p ↔ (m < get_or list (p - 1) 0)

-- by place, from 0: the greatest number of the other list up to there
pub record AreGreatest (list greatest : List ℕ) : Type 0 where
  pub long : length greatest ≡ length list
  pub least : (i j : ℕ) → i ≤ j → j < length list → get_or list i 0 ≤ get_or greatest j 0
  pub one : (j : ℕ) → j < length list → (i : ℕ) × (i ≤ j) × (get_or greatest j 0 ≡ get_or list i 0)

-- none of pages 1 to n is gone at commit m
abbrev pub AreThere : (list : List ℕ) (m n : ℕ) → Type 0
AreThere list m n = (p : ℕ) → 1 ≤ p → p ≤ n → get_or list (p - 1) 0 ≤ m

-- the first of them that is
pub record IsFirstGone (list : List ℕ) (m n p : ℕ) : Type 0 where
  pub first : 1 ≤ p
  pub within : p ≤ n
  pub gone : m < get_or list (p - 1) 0
  pub before : (q : ℕ) → 1 ≤ q → q < p → get_or list (q - 1) 0 ≤ m
