-- The record behind which a crash came, as it is told (own).
use Rattle.std.specs.Prelude.{ℕ, List, [], ◌++◌, codes, get_or}
use Rattle.std.specs.Fmt.{decimal}
use Rattle.rig_store.specs.declared.call.Action.{Action}
use Rattle.rig_store.specs.declared.call.Action.TheVariants as actions
use Rattle.rig_store.specs.declared.call.Call.{Call}

-- the text of a name, by its number
abbrev pub name_of : (names : List (List ℕ)) → (k : ℕ) → List ℕ
name_of names k = get_or names k []

-- what a record is of
abbrev pub action_text : Action → List ℕ
action_text actions.Base = codes "begin"
action_text actions.Make = codes "create"
action_text actions.Write = codes "write"
action_text actions.Cut = codes "truncate"
action_text actions.Sync = codes "sync"
action_text actions.Unlink = codes "unlink"
action_text actions.Rename = codes "rename"
action_text actions.FolderSync = codes "sync folder"
action_text actions.Mark = codes "mark"
action_text actions.NotHeld = codes "call"
action_text actions.End = codes "end"
action_text actions.Name = codes "name"

-- what it speaks of: a file by its number, a name by its text; of a write the place and how many bytes, of a truncation the length, of
-- a renaming the new name too
abbrev pub subject_text : Action → (name other : List ℕ) → Call → List ℕ
subject_text actions.Base name other c = codes " file " ++ (decimal c.file ++ (codes ", " ++ name))
subject_text actions.Make name other c = codes " file " ++ (decimal c.file ++ (codes ", " ++ name))
subject_text actions.Write name other c = codes " file " ++ (decimal c.file ++ (codes " " ++ (decimal c.place ++ (codes "+" ++ decimal c.length))))
subject_text actions.Cut name other c = codes " file " ++ (decimal c.file ++ (codes " to " ++ decimal c.place))
subject_text actions.Sync name other c = codes " file " ++ decimal c.file
subject_text actions.Unlink name other c = codes " " ++ name
subject_text actions.Rename name other c = codes " " ++ (name ++ (codes " to " ++ other))
subject_text _ name other c = []

abbrev pub call_text_by : (name other : List ℕ) → Call → List ℕ
call_text_by name other c = action_text c.action ++ subject_text c.action name other c

abbrev pub call_text : (names : List (List ℕ)) → Call → List ℕ
call_text names c = call_text_by (name_of names c.name) (name_of names c.place) c
