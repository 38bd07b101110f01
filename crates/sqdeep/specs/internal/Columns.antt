-- The columns of a record, as they are read from its front (fileformat2, 2.1).
use Rattle.std.specs.Prelude.{List, [], ℕ}
use Rattle.sqval.specs.Datum.{Datum}
use Rattle.sqval.specs.Record.{Lead, Hold}
use Rattle.sqpage.specs.Lists.{Every}
use Rattle.sqdeep.specs.declared.text.Encoding.{Encoding}
use Rattle.sqdeep.specs.Records.{IsFormed}

-- A header goes on with the types of the bodies behind it, and each text of these is formed.
abbrev pub AreFormedColumns : Encoding → (types bodies : List ℕ) → Type 0
AreFormedColumns encoding types bodies =
    (serials : List ℕ) × (values : List Datum) × Lead serials types [] × Hold serials values bodies × Every (IsFormed encoding) values
