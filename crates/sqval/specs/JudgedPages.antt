-- What the judging of a commit's pages answers (own).
use Rattle.std.specs.Prelude.{◌≡◌, ℕ, List, map, Option, Some, None, Result, Ok, Err}
use Rattle.std.specs.Borrow.{Bor}
use Rattle.sqval.specs.Database.{Pages}
use Rattle.sqval.specs.declared.commit.CommitFault.{CommitFault}
use Rattle.sqval.specs.declared.commit.CommitFault.TheVariants.{EmptyCommit, SizeZero, PageZero, PageAboveSize, PageTwice, HoleInGrowth, BadLength, TooLarge}

-- the number of the condition
abbrev pub fault_number : CommitFault → ℕ
fault_number EmptyCommit = 2
fault_number SizeZero = 3
fault_number PageZero = 4
fault_number PageAboveSize = 5
fault_number PageTwice = 6
fault_number HoleInGrowth = 7
fault_number BadLength = 8
fault_number TooLarge = 9

-- pages as they are lent to a call
abbrev pub lent : List (ℕ × Bor (List ℕ)) → Pages
lent pages = map (λ p. (p.0, p.1.now)) pages

-- refused by the number of what was found, if anything was
abbrev pub Judged : {T E : Type 0} → (number_of : E → ℕ) → (found : Option ℕ) → Result T E → Type 0
Judged number_of found (Ok _) = found ≡ None
Judged number_of found (Err error) = found ≡ Some (number_of error)
