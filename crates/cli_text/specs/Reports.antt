-- The facts of a report, as JSON (own).
use Rattle.std.specs.Prelude.{ℕ, ◌+◌, ◌-◌, ◌/◌, ◌%◌, ◌==◌, max, Bool, if◌then◌else◌, List, [], ◌++◌, Option, None, Some, length, map, codes}
use Rattle.std.specs.Fmt.{decimal}
use Rattle.std.specs.Option.{option_map_or}
use denote.Ref.{Bor}
use Rattle.hex.specs.Hex.{encode_lower}
use Rattle.sqwal.specs.declared.header.WalHeader.{WalHeader}
use Rattle.sqwal.specs.declared.scan.Entry.{Entry}
use Rattle.sqjournal.specs.declared.header.JournalHeader.{JournalHeader}
use Rattle.sqpage.specs.Faults.{number_of, name_of}
use Rattle.sqpage.specs.declared.fault.Fault.{Fault}
use Rattle.sqpage.specs.declared.kind.Kind.{Kind}
use Rattle.sqpage.specs.declared.kind.Kind.TheVariants.{TableLeaf, TableInterior, IndexLeaf, IndexInterior}
use Rattle.sqcheck.specs.declared.role.Role.{Role}
use Rattle.sqcheck.specs.declared.role.Role.TheVariants.{Btree, Overflow, FreeTrunk, FreeLeaf, LockByte, PointerMap, Unused}
use Rattle.cli_text.specs.declared.report.Tree.{Tree}
use Rattle.cli_text.specs.Facts.{joined, separator}
use Rattle.cli_text.specs.Logs.{Journal, Log, size_at, spans}
use Rattle.cli_text.specs.Words.{of_page, record_stop_word, stop_word}

-- what stands between two elements of a list
abbrev pub comma : List ℕ
comma = codes ","

-- what stands between two that stand on a line each
abbrev pub line_comma : List ℕ
line_comma = codes ",\n"

-- a name, of which there may be none, in hex
abbrev pub hex_name : Option (Bor (List ℕ)) → List ℕ
hex_name None = []
hex_name (Some name) = encode_lower name.now

-- the kind of a tree
abbrev pub tree_kind : (is_index : Bool) → List ℕ
tree_kind is_index = if is_index then codes "index" else codes "table"

-- the front of a tree's object
abbrev pub tree_start : Tree → List ℕ
tree_start tree =
    codes "{\"root\":" ++ (decimal tree.root ++ (codes ",\"kind\":\"" ++ (tree_kind tree.is_index ++ codes "\",\"named\":\"")))

-- a tree, the first one of a list or one behind others, with its name in hex
abbrev pub tree_text : (is_first : Bool) → Tree → (name : List ℕ) → List ℕ
tree_text is_first tree name =
    separator line_comma is_first ++ (tree_start tree ++ (name ++ (codes "\",\"pages\":" ++ (decimal tree.pages ++ codes "}"))))

-- the number of a kind of b-tree page
abbrev pub number_of_kind : Kind → ℕ
number_of_kind TableLeaf = 0
number_of_kind TableInterior = 1
number_of_kind IndexLeaf = 2
number_of_kind IndexInterior = 3

-- the number of what a page is used for
abbrev pub number_of_use : Role → ℕ
number_of_use (Btree kind root) = number_of_kind kind
number_of_use (Overflow owner) = 4
number_of_use FreeTrunk = 5
number_of_use FreeLeaf = 6
number_of_use Unused = 7
number_of_use PointerMap = 8
number_of_use LockByte = 9

-- the page that it is of, 0 for none
abbrev pub page_of_use : Role → ℕ
page_of_use role = option_map_or (λ page. page) (of_page role) 0

-- the end of a run: the fault of its pages, if there is one
abbrev pub run_end : Option Fault → List ℕ
run_end None = codes "]"
run_end (Some fault) = codes ",\"" ++ (decimal (number_of fault) ++ (codes " " ++ (name_of fault ++ codes "\"]")))

-- so many pages of one use, from this one on, in a list that begins with page 1
abbrev pub run_text : (first count : ℕ) → Role → Option Fault → List ℕ
run_text first count role fault = separator line_comma (first == 1) ++ (codes "[" ++ (decimal first ++ (comma ++ (decimal count
    ++ (comma ++ (decimal (number_of_use role) ++ (comma ++ (decimal (page_of_use role) ++ run_end fault))))))))

-- a commit: its last frame, how many frames it has behind the frame before it, and the database's size there
abbrev pub span_text : List Entry → (before frame : ℕ) → List ℕ
span_text entries before frame =
    codes "[" ++ (decimal frame ++ (comma ++ (decimal (frame - before) ++ (comma ++ (decimal (size_at entries frame) ++ codes "]")))))

-- the commits of a log
abbrev pub commits_entries : List Entry → (commits : List ℕ) → List ℕ
commits_entries entries commits = joined comma (map (λ s. span_text entries s.0 s.1) (spans commits))

-- so many whole frames of this header, and the bytes over
abbrev pub slots_of : WalHeader → (bytes : ℕ) → ℕ × ℕ
slots_of h bytes = (bytes / (h.page_size + 24), bytes % (h.page_size + 24))

-- the whole frames behind a log's front, and the bytes over; with no header all bytes are
abbrev pub slots_behind : Log → (length : ℕ) → ℕ × ℕ
slots_behind log length = option_map_or (λ h. slots_of h (length - max log.front.end 32)) log.header (0, length)

-- the front of a write-ahead log's object
abbrev pub wal_start : Log → List ℕ
wal_start log =
    codes "{\"log\":\"wal\",\"front\":" ++ (decimal log.front.frames ++ (codes ",\"size\":" ++ (decimal log.front.size
    ++ (codes ",\"stop\":\"" ++ (stop_word log.stop.why ++ (codes "\",\"at\":" ++ (decimal log.stop.frame ++ codes ",\"commits\":[")))))))

-- a write-ahead log with these commits, of this length in bytes
abbrev pub wal_object : Log → (commits : List ℕ) → (length : ℕ) → List ℕ
wal_object log commits length =
    wal_start log ++ (commits_entries log.entries commits ++ (codes "],\"behind frames\":" ++ (decimal (slots_behind log length).0
    ++ (codes ",\"bytes over\":" ++ (decimal (slots_behind log length).1 ++ codes "}")))))

-- the size of the database before the transaction, 0 where no journal is hot
abbrev pub first_pages : Option JournalHeader → ℕ
first_pages first = option_map_or (λ h. h.first_size) first 0

-- a journal
abbrev pub journal_object : Journal → List ℕ
journal_object j =
    codes "{\"log\":\"journal\",\"records\":" ++ (decimal (length j.records) ++ (codes ",\"first\":" ++ (decimal (first_pages j.first)
    ++ (codes ",\"stop\":\"" ++ (record_stop_word j.stop.why ++ (codes "\",\"at\":" ++ (decimal j.stop.at ++ codes "}")))))))
