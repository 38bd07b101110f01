-- What a mark claims that the files show then (own).
use Rattle.std.specs.Prelude.{◌≡◌, ◌⊎◌, ℕ, ◌<◌, true, List, ◌++◌, codes, length, take, slice_get, Option, Some, None}
use Rattle.std.specs.String.{string_bytes}
use Rattle.rig_store.specs.Calls.{bytes_of}
use Rattle.rig_store.specs.declared.call.Action.TheVariants as actions
use Rattle.rig_store.specs.declared.call.Call.{Call}
use Rattle.sqcrash_store.specs.Surveys.{Judging}
use Rattle.sqcrash_store.specs.Verdicts.{NoneNamed}
use Rattle.sqcrash_store.specs.declared.verdict.Answer.{Answer}

-- a state is sound, and no state before it has its name
pub record IsNew (before : List Answer) (state : Answer) : Type 0 where
  pub sound : state.is_sound ≡ true
  pub new : NoneNamed before (string_bytes state.line)

-- a state is sound and has this name
pub record HasName (name : List ℕ) (state : Answer) : Type 0 where
  pub sound : state.is_sound ≡ true
  pub same : string_bytes state.line ≡ name

-- A mark with this line claims a commit: with "commit" alone a state that is new, with a name after it the state of that name.
abbrev pub IsClaim : (line : List ℕ) → Type 0
IsClaim line = (line ≡ codes "commit") ⊎ ((name : List ℕ) × (line ≡ codes "commit " ++ name))

-- and a state doesn't show it
abbrev pub IsUnwritten : (line : List ℕ) → (before : List Answer) → (state : Answer) → Type 0
IsUnwritten line before state =
    ((line ≡ codes "commit") × ¬ IsNew before state) ⊎ ((name : List ℕ) × (line ≡ codes "commit " ++ name) × ¬ HasName name state)

-- A record is mark number `mark` of those at which the command named a state, what it says is promised, and it claims a commit.
pub record ClaimsCommit (j : Judging) (c : Call) (mark : ℕ) : Type 0 where
  pub marked : c.action ≡ actions.Mark
  pub promised : j.plan.is_promised ≡ true
  pub there : mark < length j.states
  pub claims : IsClaim (bytes_of j.trace c)

-- The files don't show that commit: they show a state of this name.
pub record ClaimsFalsely (j : Judging) (c : Call) (mark : ℕ) (shown : List ℕ) : Type 0 where
  pub claims : ClaimsCommit j c mark
  pub state : Answer
  pub there : slice_get j.states mark ≡ Some state
  pub shows : shown ≡ string_bytes state.line
  pub unwritten : IsUnwritten (bytes_of j.trace c) (take mark j.states) state

-- what is found of a record's claim: there is none; there is one, and the files show it; or they show a state of this name
abbrev pub IsClaimOf : Judging → Call → (mark : ℕ) → (found : Option (Option (List ℕ))) → Type 0
IsClaimOf j c mark None = ¬ ClaimsCommit j c mark
IsClaimOf j c mark (Some None) = ClaimsCommit j c mark × ((shown : List ℕ) → ¬ ClaimsFalsely j c mark shown)
IsClaimOf j c mark (Some (Some shown)) = ClaimsFalsely j c mark shown
