-- The objects of a database and their columns, with their texts in UTF-8 and the database's encoding (own).
use Rattle.std.specs.Prelude.{◌≡◌, ℕ, List, [], ◌∷◌, map, Option, Some, None, option_map}
use Rattle.sqval.specs.Database.{Database}
use Rattle.sqval.specs.Datum.{Datum, text}
use Rattle.sqdefaults.specs.Literals.{datum_in}
use Rattle.sqdeep.specs.declared.text.Encoding.{Encoding}
use Rattle.sqdeep.specs.Records.{encoding_of}
use Rattle.sqtables.specs.declared.columns.Columns.{Columns}
use Rattle.sqtables.specs.declared.list.Object.{Object}
use Rattle.sqtables.specs.Named.{AreColumns}
use Rattle.sqtables.specs.Objects.{HasObjects}
use Rattle.sqtext.specs.Texts.{IsReadAs, IsStoredAs}

-- An object is the one that is stored, its texts in UTF-8.
pub record IsObjectRead (encoding : Encoding) (stored o : Object) : Type 0 where
  pub kind : IsReadAs encoding stored.kind.items o.kind.items
  pub name : IsReadAs encoding stored.name.items o.name.items
  pub root : o.root ≡ stored.root
  pub sql : IsReadAs encoding stored.sql.items o.sql.items

-- So is each of these, in their order.
abbrev pub AreObjectsRead : Encoding → (stored objects : List Object) → Type 0
AreObjectsRead encoding [] objects = objects ≡ []
AreObjectsRead encoding (s ∷ stored) objects =
    (o : Object) × (more : List Object) × IsObjectRead encoding s o × AreObjectsRead encoding stored more × (objects ≡ o ∷ more)

-- The objects of a database: those of the rows of its schema, their texts in UTF-8.
abbrev pub HasObjectsRead : Database → List Object → Type 0
HasObjectsRead d objects = (stored : List Object) × HasObjects d stored × AreObjectsRead (encoding_of d) stored objects

-- A default that a text of SQL names is stored as this one: a text in the encoding, and any other value as it is.
abbrev pub IsDefaultIn : Encoding → (named stored : Option Datum) → Type 0
IsDefaultIn encoding (Some (text t)) stored = (bytes : List ℕ) × IsStoredAs encoding t bytes × (stored ≡ Some (text bytes))
IsDefaultIn encoding named stored = stored ≡ named

abbrev pub AreDefaultsIn : Encoding → (named stored : List (Option Datum)) → Type 0
AreDefaultsIn encoding [] stored = stored ≡ []
AreDefaultsIn encoding (n ∷ named) stored =
    (s : Option Datum) × (more : List (Option Datum)) × IsDefaultIn encoding n s × AreDefaultsIn encoding named more × (stored ≡ s ∷ more)

-- Columns are these, but for their defaults, which are stored in the encoding.
pub record AreStoredIn (encoding : Encoding) (named columns : Columns) : Type 0 where
  pub same : columns ≡ record named { defaults = columns.defaults }
  pub defaults : AreDefaultsIn encoding (map (option_map datum_in) named.defaults.items) (map (option_map datum_in) columns.defaults.items)

-- The columns that the text of a table names, in a database of this encoding.
abbrev pub AreColumnsIn : Encoding → (sql : List ℕ) → Columns → Type 0
AreColumnsIn encoding sql columns = (named : Columns) × AreColumns sql named × AreStoredIn encoding named columns
