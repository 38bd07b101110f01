-- A file as it was when recording ended (own, docs/TRACE.md).
use Rattle.std.specs.Prelude.{◌≡◌, ◌≢◌, ◌⊎◌, ℕ, ◌+◌, ◌*◌, ◌%◌, ◌^◌, true, false, List, length, fold}
use Rattle.rig_play.specs.Names.{NameState, file_now, ArePresentOf}
use Rattle.rig_play.specs.declared.trace.Record.{Record}

-- The sum of bytes: that of those before the last, times 1,099,511,628,211, and the last, modulo 2 ^ 64. That of none is 0.
abbrev pub sum_of : List ℕ → ℕ
sum_of bytes = fold (λ sum b. (sum * 1099511628211 % 2 ^ 64 + b) % 2 ^ 64) 0 bytes

-- the present bytes of a name are as many as a record says, and have its sum
abbrev pub HasSum : Record → List ℕ → Type 0
HasSum r bytes = (r.length ≡ length bytes) × (r.answer ≡ sum_of bytes)

-- a name is as a record of the end says: no file has it, or one with that length and that sum
abbrev pub IsAsNoted : Record → NameState → Type 0
IsAsNoted r s =
    ((r.place ≡ 0) × (s.gone ≡ true))
    ⊎ ((r.place ≢ 0) × (s.gone ≡ false) × ((bytes : List ℕ) × ArePresentOf (file_now s) bytes × HasSum r bytes))

-- it isn't
abbrev pub IsUnlikeNoted : Record → NameState → Type 0
IsUnlikeNoted r s =
    ((r.place ≡ 0) × (s.gone ≡ false))
    ⊎ (((r.place ≢ 0) × (s.gone ≡ true))
    ⊎ ((s.gone ≡ false) × ((bytes : List ℕ) × ArePresentOf (file_now s) bytes × ¬ HasSum r bytes)))
