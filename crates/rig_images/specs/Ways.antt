-- In how many ways a crash may leave what is under a name, and what each leaves (own).
use Rattle.std.specs.Prelude.{ℕ, ◌+◌, ◌-◌, ◌||◌, Bool, cond, nat_eq, nat_lt, List, [], ◌∷◌, length, take, drop}
use Rattle.crashdisk.specs.Call.{DiskState}
use Rattle.crashdisk.specs.Choice.{image_of}
use Rattle.crashdisk.specs.Count.{choice_count, naming_at}
use Rattle.rig_play.specs.Names.{NameState}
use Rattle.rig_play.specs.declared.meta.Holds.{Holds}
use Rattle.rig_play.specs.declared.meta.Holds.TheVariants.{Any, Nothing, File}

-- how many choices there are of the file of a disk, and the bytes that the choice of a number leaves
abbrev pub file_ways : DiskState → ℕ
file_ways f = choice_count f.sector f.db

abbrev pub file_way : DiskState → (n : ℕ) → List ℕ
file_way f n = image_of f.sector f.tears f.db (naming_at f.sector f.db n)

-- the same of one of several files: the choices of the first one come first, and behind those of the last one no bytes are left
abbrev pub files_ways : List DiskState → ℕ
files_ways [] = 0
files_ways (f ∷ files) = file_ways f + files_ways files

abbrev pub files_way : List DiskState → (n : ℕ) → List ℕ
files_way [] n = []
files_way (f ∷ files) n = cond (nat_lt n (file_ways f)) (file_way f n) (files_way files (n - file_ways f))

-- the files of a name that a crash may leave where it holds this: all of them, none, or one
abbrev pub held_files : NameState → Holds → List DiskState
held_files s Any = s.files
held_files s Nothing = []
held_files s (File i) = take 1 (drop i s.files)

-- a crash may leave nothing under a name: it may be gone, or no file is left
abbrev pub may_be_none : NameState → Holds → Bool
may_be_none s Any = s.maybe_none || nat_eq (length s.files) 0
may_be_none s holds = nat_eq (length (held_files s holds)) 0

-- in how many ways: one or none
abbrev pub none_ways : NameState → Holds → ℕ
none_ways s holds = cond (may_be_none s holds) 1 0

-- in how many ways a crash may leave what is under a name
abbrev pub name_ways : NameState → Holds → ℕ
name_ways s holds = none_ways s holds + files_ways (held_files s holds)
