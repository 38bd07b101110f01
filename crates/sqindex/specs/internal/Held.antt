-- Entries that lie in memory (own). No public contract cites these words.
use Rattle.std.specs.Prelude.{ℕ, List, [], map, take, drop, None, nat_le, if◌then◌else◌}
use Rattle.sqindex.specs.declared.entries.Held.{Held}
use Rattle.sqindex.specs.declared.entries.Entries.{Entries}
use Rattle.sqindex.specs.declared.walk.Found.{Found}
use Rattle.sqindex.specs.Stored.{Stored}
use Rattle.sqindex.specs.internal.Bodies.{start_in, size_in}

-- the payload of an entry: one of at most 16 bytes lies in it, others in these bytes
abbrev pub payload_in : List ℕ → Held → List ℕ
payload_in bytes held = (if nat_le held.size 16 then take held.size held.body else take (size_in held.body) (drop (start_in held.body) bytes))

-- an entry whose payload lies there
abbrev pub held_in : List ℕ → Held → Stored
held_in bytes held = record { page = held.page; cell = held.cell; rowid = None; bytes = payload_in bytes held }

-- one of these
abbrev pub entry_in : Entries → Held → Stored
entry_in entries held = held_in entries.bytes.items held

-- all of them
abbrev pub held_by : Entries → List Stored
held_by entries = map (held_in entries.bytes.items) entries.list.items

-- the entry in a cell that was found
abbrev pub plain : Found → List ℕ → Stored
plain found bytes = record { page = found.page; cell = found.cell; rowid = None; bytes = bytes }

-- what stands for an entry that isn't there
abbrev pub nothing : Stored
nothing = record { page = 0; cell = 0; rowid = None; bytes = [] }
