-- What a crash may leave under a name (own).
use Rattle.std.specs.Prelude.{◌≡◌, ◌⊎◌, ℕ, ◌+◌, ◌-◌, ◌<◌, ◌≤◌, min, nat_lt, Bool, true, false, cond, ◌||◌, List, [], ◌∷◌, ◌++◌, length, take, drop, get_or, map, Option, Some, None, slice_get}
use Rattle.crashdisk.specs.Call.{DiskState, IsNew, ArePresent}
use Rattle.crashdisk.specs.Ending.{EndsDb}
use Rattle.crashdisk.specs.Model.{state_of}
use Rattle.rig_play.specs.Files.{IsWritten, IsCut, IsSynced}
use Rattle.rig_play.specs.declared.meta.Meta.{Meta}
use Rattle.rig_play.specs.declared.meta.Meta.TheVariants.{Parts}
use Rattle.rig_play.specs.declared.name.Name.{Name}

-- The files that a crash may leave under a name, each the database of a disk: those that were made under it since the
-- folder was last synced, or stood there then, the oldest first, and behind each those that whole truncations left of
-- it; the place in that list of the file that was made last, as it was before the first of its truncations that may not
-- be durable; the least length that one of these gave it; whether a crash may leave none; and whether the name is gone
-- now. The present file is the last.
pub record NameState : Type 0 where
  pub files : List DiskState
  pub made : ℕ
  pub below : ℕ
  pub maybe_none : Bool
  pub gone : Bool

abbrev pub name_of : Name → NameState
name_of n = record { files = map (λ d. state_of d) n.files.items; made = n.made; below = n.below; maybe_none = n.maybe_none; gone = n.gone }

-- nothing is there, and that is durable
abbrev pub no_file : NameState
no_file = record { files = []; made = 0; below = 0; maybe_none = true; gone = true }

-- the file that was made last goes over so; where there is none nothing does
abbrev pub LastGoes : (DiskState → DiskState → Type 0) → (old new : NameState) → Type 0
LastGoes P old new = ((old.files ≡ []) × (new ≡ old))
    ⊎ ((front : List DiskState) × (was : DiskState) × (now : DiskState) × (old.files ≡ front ++ was ∷ []) × P was now × (new ≡ record old { files = front ++ now ∷ [] }))

-- file k is one that a truncation left which may not be durable
abbrev pub IsUncut : NameState → (k : ℕ) → Type 0
IsUncut s k = (s.made ≤ k) × (k + 1 < length s.files)

-- the files that truncations left go over so, and nothing else does
pub record UncutGo (P : DiskState → DiskState → Type 0) (old new : NameState) : Type 0 where
  pub count : length new.files ≡ length old.files
  pub each : (k : ℕ) (d : DiskState) → IsUncut old k → P (get_or old.files k d) (get_or new.files k d)
  pub others : (k : ℕ) (d : DiskState) → k < length old.files → ¬ IsUncut old k → get_or new.files k d ≡ get_or old.files k d
  pub rest : new ≡ record old { files = new.files }

-- a file takes those of the bytes that are written below a length
abbrev pub TakesBelow : (n at : ℕ) (bytes : List ℕ) (fails : Bool) → (old new : DiskState) → Type 0
TakesBelow n at bytes fails old new = ((at < n) × IsWritten at (take (n - at) bytes) fails old new) ⊎ ((n ≤ at) × (new ≡ old))

-- A write into the present file. What it writes below each truncation that may not be durable the files before these
-- take, too.
abbrev pub Writes : (at : ℕ) (bytes : List ℕ) (fails : Bool) → (old new : NameState) → Type 0
Writes at bytes fails old new = (mid : NameState) × UncutGo (TakesBelow old.below at bytes fails) old mid × LastGoes (IsWritten at bytes fails) mid new

-- the file that has a name now: the one that was made last, or none where the name is gone
abbrev pub file_now : NameState → Option DiskState
file_now s = cond s.gone None (slice_get s.files (length s.files - 1))

-- the present bytes of a file; none where there is no file
abbrev pub ArePresentOf : Option DiskState → List ℕ → Type 0
ArePresentOf None bytes = bytes ≡ []
ArePresentOf (Some f) bytes = ArePresent f.db bytes

-- the length of the present file changed since it was last synced: it was written longer, or cut
abbrev pub has_lengths : Option DiskState → Bool
has_lengths None = false
has_lengths (Some f) = nat_lt f.db.least f.db.greatest

abbrev pub is_resized : NameState → Bool
is_resized s = nat_lt s.made (length s.files - 1) || has_lengths (slice_get s.files (length s.files - 1))

-- a file with these bytes alone, which is durable
abbrev pub IsBase : (sector : ℕ) (tears : Bool) (bytes : List ℕ) → NameState → Type 0
IsBase sector tears bytes s = (d : DiskState) × IsNew sector tears bytes d × (s ≡ record { files = d ∷ []; made = 0; below = 0; maybe_none = false; gone = false })

-- a new file without bytes, beside those that were there
abbrev pub Makes : (sector : ℕ) (tears : Bool) (old new : NameState) → Type 0
Makes sector tears old new =
    (d : DiskState) × IsNew sector tears [] d × (new ≡ record old { files = old.files ++ d ∷ []; made = length old.files; gone = false })

-- the present file is longer than this
abbrev pub IsLonger : (n : ℕ) → NameState → Type 0
IsLonger n s = (front : List DiskState) × (last : DiskState) × (s.files ≡ front ++ last ∷ []) × (n < last.db.len)

-- the least length that a truncation to n and those before it that may not be durable gave
abbrev pub least_cut : (n : ℕ) → NameState → ℕ
least_cut n s = cond (nat_lt s.made (length s.files - 1)) (min s.below n) n

-- A whole truncation: the present file stays among those that a crash may leave, and the present one is the same, ended
-- at n. One that failed does nothing.
abbrev pub CutsWhole : (n : ℕ) (fails : Bool) → (old new : NameState) → Type 0
CutsWhole n true old new = new ≡ old
CutsWhole n false old new =
    (front : List DiskState) × (was : DiskState) × (now : DiskState) × (old.files ≡ front ++ was ∷ []) × EndsDb n was now × (new ≡ record old { files = old.files ++ now ∷ []; below = least_cut n old })

-- Another length. In parts it changes the present file; otherwise one that shortens it does so as a whole.
abbrev pub Cuts : Meta → (n : ℕ) (fails : Bool) → (old new : NameState) → Type 0
Cuts Parts n fails old new = LastGoes (IsCut n fails) old new
Cuts _ n fails old new = (IsLonger n old × CutsWhole n fails old new) ⊎ (¬ IsLonger n old × LastGoes (IsCut n fails) old new)

-- the truncations of the present file are durable: of what was made last it alone is left
abbrev pub without_uncut : NameState → NameState
without_uncut s = record s { files = take (min s.made (length s.files - 1)) s.files ++ drop (length s.files - 1) s.files }

-- a sync; where truncations become durable as a whole, one that succeeded makes them so
abbrev pub Syncs : Meta → (fails : Bool) → (old new : NameState) → Type 0
Syncs Parts fails old new = LastGoes (IsSynced fails) old new
Syncs _ fails old new = (mid : NameState) × LastGoes (IsSynced fails) old mid × (new ≡ cond fails mid (without_uncut mid))

-- of what was made the last alone is left, with what whole truncations left of it
abbrev pub last_made : NameState → NameState
last_made s = record s { files = drop (min s.made (length s.files - 1)) s.files }

-- after a sync of the folder: what is there now, or none
abbrev pub only_now : NameState → NameState
only_now s = record { files = cond s.gone [] (last_made s).files; made = 0; below = s.below; maybe_none = s.gone; gone = s.gone }
