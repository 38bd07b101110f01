-- What is known to be durable at a mark (own).
use Rattle.std.specs.Prelude.{◌≡◌, ◌≢◌, ◌⊎◌, ℕ, ◌+◌, ◌-◌, ◌<◌, ◌≤◌, List, length, get_or, codes}
use Rattle.sqcrash.specs.declared.promise.Promise.{Promise}
use Rattle.sqcrash.specs.declared.promise.Promise.TheVariants.{Full, Last, Ordered}
use Rattle.sqcrash.specs.declared.promise.Mark.{Mark}
use Rattle.sqcrash.specs.declared.promise.Mark.TheVariants.{Commit, Settled, Other}

-- what a line says
abbrev pub IsMark : List ℕ → Mark → Type 0
IsMark line Commit = line ≡ codes "commit"
IsMark line Settled = (line ≡ codes "checkpoint") ⊎ (line ≡ codes "closed")
IsMark line Other = (line ≢ codes "commit") × (line ≢ codes "checkpoint") × (line ≢ codes "closed")

-- the number of the last commit that is promised to be durable at a mark, where that of the marking thread's last
-- commit is `last`
abbrev pub promised : Promise → Mark → (last : ℕ) → ℕ
promised Full Commit last = last
promised Full Settled last = last
promised Last Commit last = last - 1
promised Last Settled last = last - 1
promised Ordered Settled last = last
promised _ _ last = 0

-- of threads, each of which made the commit of its number, this one made none from number `from` on
abbrev pub MadeNoneFrom : (makers : List ℕ) (thread from : ℕ) → Type 0
MadeNoneFrom makers thread from = (j : ℕ) → from ≤ j → j < length makers → get_or makers j 0 ≢ thread

-- the commit that a thread's mark speaks of: the last one that it made, or where it made none the last of all
abbrev pub IsSpokenOf : (makers : List ℕ) (thread k : ℕ) → Type 0
IsSpokenOf makers thread k =
    ((k < length makers) × (get_or makers k 0 ≡ thread) × MadeNoneFrom makers thread (k + 1))
    ⊎ (MadeNoneFrom makers thread 0 × (k ≡ length makers - 1))
