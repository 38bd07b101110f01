-- What the steps of a recovery leave, where they are carried out one after another (own).
use Rattle.std.specs.Prelude.{◌≡◌, ◌⊎◌, ℕ, ◌+◌, ◌-◌, ◌*◌, ◌≤◌, max, nat_lt, cond, List, [], ◌∷◌, ◌++◌, length, map, get_or, take, drop, replicate}
use Rattle.std.specs.List.{range_with_len, All}
use Rattle.sqval.specs.Held.{IsJust}
use Rattle.crashdisk.specs.Call.{Change, write, set_len}
use Rattle.crashdisk.specs.declared.file.File.TheVariants.{Db, Log}
use Rattle.walcore.specs.Changes.{MayFoldWithin}
use Rattle.rollcore.specs.Changes.{MayReplayWithin}
use Rattle.sqview.specs.Laid.{laid}
use Rattle.sqplan.specs.Plans.{call_of, steps_left}
use Rattle.sqplan.specs.declared.plan.Plan.{Plan}
use Rattle.sqplan.specs.declared.plan.Recovery.TheVariants.{Fold, Empty, RollBack}

-- a file once these bytes were written at a place, with zeros between its end and them
abbrev pub with_bytes : (file : List ℕ) (at : ℕ) (bytes : List ℕ) → List ℕ
with_bytes file at bytes = map (λ i. cond (nat_lt i at) (get_or file i 0) (get_or bytes (i - at) (get_or file i 0))) (range_with_len 0 (max (length file) (at + length bytes)))

-- a file of another length
abbrev pub with_length : (file : List ℕ) (n : ℕ) → List ℕ
with_length file n = map (λ i. get_or file i 0) (range_with_len 0 n)

-- one call, of the database file and of the log
abbrev pub db_after : Change → List ℕ → List ℕ
db_after (write Db at bytes) file = with_bytes file at bytes
db_after (set_len Db n) file = with_length file n
db_after _ file = file

abbrev pub log_after : Change → List ℕ → List ℕ
log_after (write Log at bytes) file = with_bytes file at bytes
log_after (set_len Log n) file = with_length file n
log_after _ file = file

-- calls one after another
abbrev pub after_all : (one : Change → List ℕ → List ℕ) → List Change → List ℕ → List ℕ
after_all one [] file = file
after_all one (call ∷ calls) file = after_all one calls (one call file)

-- all calls of a plan, of a file and a log
abbrev pub calls_of : Plan → (file log : List ℕ) → List Change
calls_of plan file log = map (call_of plan.page_size plan.pages file log plan.places.now) (steps_left plan 0)

-- A fold and a replay leave a file that is just the pages of the view, and an emptied log leaves the file.
abbrev pub LeavesDatabase : Type 0
LeavesDatabase = (plan : Plan) (file log : List ℕ) → 1 ≤ plan.page_size
    → ((plan.recovery ≡ Fold) ⊎ (plan.recovery ≡ RollBack)
    → IsJust plan.page_size (laid plan.page_size plan.pages file log plan.places.now) (after_all db_after (calls_of plan file log) file))
    × (plan.recovery ≡ Empty → plan.places.now ≡ [] → after_all db_after (calls_of plan file log) file ≡ file)

-- Of a write-ahead log nothing is left, and of a journal all but the header.
abbrev pub LeavesLog : Type 0
LeavesLog = (plan : Plan) (file log : List ℕ)
    → ((plan.recovery ≡ Fold) ⊎ (plan.recovery ≡ Empty) → after_all log_after (calls_of plan file log) log ≡ [])
    × (plan.recovery ≡ RollBack → 28 ≤ length log → after_all log_after (calls_of plan file log) log ≡ replicate 28 0 ++ drop 28 log)

-- They are calls that the fold of a log may ask for, or the replay of a journal.
abbrev pub AsksAsRecovery : Type 0
AsksAsRecovery = (most : ℕ) (plan : Plan) (file log : List ℕ) → 1 ≤ plan.page_size → plan.pages * plan.page_size ≤ most
    → ((plan.recovery ≡ Fold) ⊎ (plan.recovery ≡ Empty) → All (MayFoldWithin most plan.page_size) (calls_of plan file log))
    × (plan.recovery ≡ RollBack → All (MayReplayWithin most plan.page_size) (calls_of plan file log))

-- Over the log as it was, the file shows the same pages after any number of the calls.
abbrev pub ShowsMeanwhile : Type 0
ShowsMeanwhile = (plan : Plan) (file log : List ℕ) (k : ℕ) → laid plan.page_size plan.pages file log plan.places.now
    ≡ laid plan.page_size plan.pages (after_all db_after (take k (calls_of plan file log)) file) log plan.places.now
