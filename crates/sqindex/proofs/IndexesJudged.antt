-- What is found of an index as a whole.
use Rattle.std.proofs.Common.{◌≡◌, ℕ, List, slice_get, Some}
use Rattle.sqval.specs.Database.{Database}
use Rattle.sqkeys.specs.declared.key.IndexKey.{IndexKey}
use Rattle.sqindex.specs.declared.fault.IndexFault.{IndexFault}
use Rattle.sqindex.specs.declared.fault.IndexFault.TheVariants as faults
use Rattle.sqindex.specs.Stored.{Stored}
use Rattle.sqindex.specs.Rules.{HasKeyedRows, HasEntries}
use Rattle.sqindex.specs.Indexes.{EntryRefused, StandsInIndex}
use Rattle.sqindex.specs.internal.Joining.{BothRefused}

module _ (d : Database) (table index : ℕ) (key : IndexKey) (limit : ℕ) where
  pub stands : (xs : List Stored) (i : ℕ) (x : Stored) (fault : IndexFault) (page cell : ℕ) → HasEntries d index xs → slice_get xs i ≡ Some x → x.page ≡ page → x.cell ≡ cell → EntryRefused key xs i x fault
      → StandsInIndex d table index key fault page cell
  stands xs i x faults.EntryForm page cell has at p c h = (xs, i, x, has, at, p, c, h)
  stands xs i x faults.EntryOrder page cell has at p c h = (xs, i, x, has, at, p, c, h)
  stands xs i x faults.KeyTwice page cell has at p c h = (xs, i, x, has, at, p, c, h)
  stands xs i x faults.RowTwice page cell has at p c h = (xs, i, x, has, at, p, c, h)
  stands xs i x faults.EntryOfNoRow page cell has at p c h = absurd h
  stands xs i x faults.RowWithoutEntry page cell has at p c h = absurd h

  pub both : (xs rows : List Stored) (fault : IndexFault) (page cell : ℕ) → HasEntries d index xs → HasKeyedRows d table rows → BothRefused key xs rows fault page cell → StandsInIndex d table index key fault page cell
  both xs rows faults.EntryOfNoRow page cell has keyed h = (rows, xs, h.0, h.1, keyed, has, h.2, h.3.0, h.3.1, h.4)
  both xs rows faults.RowWithoutEntry page cell has keyed h = (rows, xs, h.0, h.1, keyed, has, h.2, h.3.0, h.3.1, h.4)
  both xs rows faults.EntryForm page cell has keyed h = absurd h
  both xs rows faults.EntryOrder page cell has keyed h = absurd h
  both xs rows faults.KeyTwice page cell has keyed h = absurd h
  both xs rows faults.RowTwice page cell has keyed h = absurd h
