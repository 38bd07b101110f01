-- The states that a run had at the beginning and at its marks, as a command named them (own).
use Rattle.std.specs.Prelude.{◌≡◌, ℕ, Bool, true, false, List, [], ◌∷◌, ◌++◌, map, Option}
use Rattle.std.specs.List.{filter}
use Rattle.rig_store.specs.Calls.{bytes_of}
use Rattle.rig_store.specs.Left.{IsPresent}
use Rattle.rig_store.specs.Stores.{StoreState, no_store, Goes}
use Rattle.rig_store.specs.declared.call.Action.{Action}
use Rattle.rig_store.specs.declared.call.Action.TheVariants as actions
use Rattle.rig_store.specs.declared.call.Call.{Call}
use Rattle.sqcrash_store.specs.declared.plan.Plan.{Plan}
use Rattle.sqcrash_store.specs.declared.verdict.Answer.{Answer}

-- the command is asked of the files as they are now, and its answer is one state more
pub record SaysNow (Says : List (Option (List ℕ)) → Answer → Type 0) (s : StoreState) (old new : List Answer) : Type 0 where
  pub image : List (Option (List ℕ))
  pub present : IsPresent s image
  pub answer : Answer
  pub says : Says image answer
  pub added : new ≡ old ++ answer ∷ []

-- the same, if so
abbrev pub SaysWhere : (Says : List (Option (List ℕ)) → Answer → Type 0) → (asked : Bool) → StoreState → (old new : List Answer) → Type 0
SaysWhere Says false s old new = new ≡ old
SaysWhere Says true s old new = SaysNow Says s old new

-- a record is neither of a file that was there when recording began, nor of a name
abbrev pub is_call : Action → Bool
is_call actions.Base = false
is_call actions.Name = false
is_call _ = true

-- and it is the first such one: no state was named yet
abbrev pub is_first : List Answer → Action → Bool
is_first [] a = is_call a
is_first (x ∷ states) a = false

-- the names that records tell, in their order
abbrev pub tells_name : Action → Bool
tells_name actions.Name = true
tells_name _ = false

abbrev pub names_told : List ℕ → List Call → List (List ℕ)
names_told b calls = map (λ c. bytes_of b c) (filter (λ c. tells_name c.action) calls)

abbrev pub is_mark : Action → Bool
is_mark actions.Mark = true
is_mark _ = false

-- what a crash may leave of a run so far, and its states
pub record TakeState : Type 0 where
  pub store : StoreState
  pub states : List Answer

-- one record is played; the command is asked before the first call, and behind a mark
pub record Takes (Says : List (Option (List ℕ)) → Answer → Type 0) (b : List ℕ) (c : Call) (old new : TakeState) : Type 0 where
  pub begun : List Answer
  pub begins : SaysWhere Says (is_first old.states c.action) old.store old.states begun
  pub goes : Goes b c old.store new.store
  pub marks : SaysWhere Says (is_mark c.action) new.store begun new.states

-- records, one after the other
abbrev pub TakesAll : (Says : List (Option (List ℕ)) → Answer → Type 0) → List ℕ → List Call → (old new : TakeState) → Type 0
TakesAll Says b [] old new = new ≡ old
TakesAll Says b (c ∷ calls) old new = (mid : TakeState) × Takes Says b c old mid × TakesAll Says b calls mid new

-- nothing was played yet
abbrev pub none_taken : Plan → TakeState
none_taken plan = record { store = no_store plan.sector plan.tears plan.meta; states = [] }

-- The states of a run: what the command may say of its files before the first call, and at each mark.
abbrev pub AreStates : (Says : List (Option (List ℕ)) → Answer → Type 0) → Plan → List ℕ → List Call → List Answer → Type 0
AreStates Says plan b calls states = (last : TakeState) × TakesAll Says b calls (none_taken plan) last × (last.states ≡ states)
