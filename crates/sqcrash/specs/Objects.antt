-- The members of the objects that are printed of what is wrong with images (own).
use Rattle.std.specs.Prelude.{ℕ, List, [], ◌∷◌, ◌++◌, codes}
use Rattle.std.specs.List.{flat_map}
use Rattle.std.specs.Fmt.{decimal}
use Rattle.sqpage.specs.Faults.{number_of, name_of}
use Rattle.sqpage.specs.declared.fault.Fault.{Fault}
use Rattle.sqview.specs.declared.view_error.ViewError.{ViewError}
use Rattle.sqview.specs.declared.view_error.ViewError.TheVariants as refusals
use Rattle.rig_judge.specs.declared.judgment.Judgment.{Judgment}
use Rattle.rig_judge.specs.declared.judgment.Judgment.TheVariants as judgments
use Rattle.rig_play.specs.declared.trace.Kind.{Kind}
use Rattle.rig_play.specs.declared.trace.Kind.TheVariants as kinds
use Rattle.rig_play.specs.declared.trace.Subject.{Subject}
use Rattle.rig_play.specs.declared.trace.Subject.TheVariants as subjects

-- a fault of a page
abbrev pub fault_members : (page : ℕ) → Fault → List ℕ
fault_members page fault = codes "\"page\":" ++ (decimal page ++ (codes ",\"fault\":" ++ (decimal (number_of fault) ++ (codes ",\"name\":\"" ++ (name_of fault ++ codes "\"")))))

-- what refuses files that show no database
abbrev pub refusal_members : ViewError → List ℕ
refusal_members refusals.TwoLogs = codes "\"refused\":\"two logs\""
refusal_members refusals.TooLarge = codes "\"refused\":\"too large\""
refusal_members (refusals.Header fault) = fault_members 1 fault
refusal_members refusals.Unread = codes "\"refused\":\"file failed\""
refusal_members refusals.NoMemory = codes "\"refused\":\"no memory\""
refusal_members refusals.NoSuchCommit = codes "\"refused\":\"no such commit\""

-- what is wrong, where a commit is known to be durable
abbrev pub wrong_members : (known : ℕ) → Judgment → List ℕ
wrong_members known (judgments.Kept k) = codes "\"verdict\":\"kept\",\"shown\":" ++ decimal k
wrong_members known (judgments.Lost k) = codes "\"verdict\":\"lost\",\"shown\":" ++ (decimal k ++ (codes ",\"known\":" ++ decimal known))
wrong_members known judgments.Mixed = codes "\"verdict\":\"mixed\""
wrong_members known (judgments.Fault e) = codes "\"verdict\":\"fault\"," ++ fault_members e.page e.fault
wrong_members known (judgments.Refused e) = codes "\"verdict\":\"fault\"," ++ refusal_members e

-- what a record is of
abbrev pub subject_text : Subject → List ℕ
subject_text subjects.Db = codes "db"
subject_text subjects.Wal = codes "wal"
subject_text subjects.Journal = codes "journal"
subject_text subjects.Folder = codes "folder"
subject_text subjects.Marks = codes "marks"
subject_text subjects.Other = codes "other"

-- a call's name and what it is of
abbrev pub named_members : (name : List ℕ) → Subject → List ℕ
named_members name s = codes "\"call\":\"" ++ (name ++ (codes "\",\"file\":\"" ++ (subject_text s ++ codes "\"")))

-- a call: of a write the place and the bytes, of a truncation the length
abbrev pub call_members : Kind → Subject → (place count : ℕ) → List ℕ
call_members kinds.Base s place count = named_members (codes "begin") s
call_members kinds.Open s place count = named_members (codes "create") s
call_members kinds.Close s place count = named_members (codes "close") s
call_members kinds.Write s place count = named_members (codes "write") s ++ (codes ",\"place\":" ++ (decimal place ++ (codes ",\"bytes\":" ++ decimal count)))
call_members kinds.Cut s place count = named_members (codes "truncate") s ++ (codes ",\"length\":" ++ decimal place)
call_members kinds.Sync s place count = named_members (codes "sync") s
call_members kinds.Unlink s place count = named_members (codes "unlink") s
call_members kinds.Rename s place count = named_members (codes "rename") s
call_members kinds.FolderSync s place count = named_members (codes "sync") s
call_members kinds.Mark s place count = codes "\"call\":\"mark\""
call_members kinds.NotHeld s place count = named_members (codes "call") s
call_members kinds.End s place count = named_members (codes "end") s

-- sectors from a first to a last one
abbrev pub pair_text : (first last : ℕ) → List ℕ
pair_text first last = codes "[" ++ (decimal first ++ (codes "," ++ (decimal last ++ codes "]")))

-- the same behind a comma
abbrev pub next_pair : ℕ × ℕ → List ℕ
next_pair r = codes "," ++ pair_text r.0 r.1

-- ranges of sectors, with a comma between two
abbrev pub pairs_text : List (ℕ × ℕ) → List ℕ
pairs_text [] = []
pairs_text (r ∷ ranges) = pair_text r.0 r.1 ++ flat_map next_pair ranges
