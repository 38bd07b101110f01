-- What kinds, uses and stops are called.
use Rattle.std.specs.Prelude.{ℕ, List, Option, Some, None, codes}
use Rattle.sqpage.specs.declared.kind.Kind.{Kind}
use Rattle.sqpage.specs.declared.kind.Kind.TheVariants.{TableLeaf, TableInterior, IndexLeaf, IndexInterior}
use Rattle.sqcheck.specs.declared.role.Role.{Role}
use Rattle.sqcheck.specs.declared.role.Role.TheVariants.{Btree, Overflow, FreeTrunk, FreeLeaf, LockByte, PointerMap, Unused}
use Rattle.sqwal.specs.declared.scan.Why.{Why as FrameStop}
use Rattle.sqwal.specs.declared.scan.Why.TheVariants as frames
use Rattle.sqjournal.specs.declared.reading.Why.{Why as RecordStop}
use Rattle.sqjournal.specs.declared.reading.Why.TheVariants as records

-- a kind of b-tree page (fileformat2, 1.6)
abbrev pub kind_word : Kind → List ℕ
kind_word TableLeaf = codes "table leaf"
kind_word TableInterior = codes "table interior"
kind_word IndexLeaf = codes "index leaf"
kind_word IndexInterior = codes "index interior"

-- what a page is used for
abbrev pub use_word : Role → List ℕ
use_word (Btree kind root) = kind_word kind
use_word (Overflow owner) = codes "overflow"
use_word FreeTrunk = codes "free trunk"
use_word FreeLeaf = codes "free leaf"
use_word LockByte = codes "lock byte"
use_word PointerMap = codes "pointer map"
use_word Unused = codes "unused"

-- the page that a use is of: the root of its tree, or the page with the cell of its overflow chain
abbrev pub of_page : Role → Option ℕ
of_page (Btree kind root) = Some root
of_page (Overflow owner) = Some owner
of_page FreeTrunk = None
of_page FreeLeaf = None
of_page LockByte = None
of_page PointerMap = None
of_page Unused = None

-- why a write-ahead log's frames stop
abbrev pub stop_word : FrameStop → List ℕ
stop_word frames.End = codes "End"
stop_word frames.Cut = codes "Cut"
stop_word frames.Salt = codes "Salt"
stop_word frames.PageZero = codes "PageZero"
stop_word frames.Sum = codes "Sum"

-- why a journal's records stop
abbrev pub record_stop_word : RecordStop → List ℕ
record_stop_word records.End = codes "End"
record_stop_word records.Header = codes "Header"
record_stop_word records.Short = codes "Short"
record_stop_word records.PageZero = codes "PageZero"
record_stop_word records.Sum = codes "Sum"
