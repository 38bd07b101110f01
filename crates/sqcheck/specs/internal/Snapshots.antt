-- The pages that a source has as a check begins (own). No public contract cites these words.
use Rattle.std.specs.Prelude.{◌≡◌}
use Rattle.sqval.specs.PageSize.{IsPageSize}
use Rattle.sqpage.specs.declared.source.PageSource as sources
use Rattle.sqcheck.specs.declared.snapshot.Snapshot as snapshots

-- The source is one of the snapshot: it has its pages, and reads them right and gives them if that is so of these.
abbrev pub IsSourceOf : {V S : Type 0} → snapshots.Ghosts V → sources.Ghosts S → S → Type 0
IsSourceOf v s source = (s.pages source ≡ v.pages) × (s.size source ≡ v.size) × (v.right → s.reads_right source) × (v.given → s.gives_pages source)

-- The source has the pages of the snapshot still, and reads them right and gives them if it did.
pub record Keeps {V S : Type 0} (v : snapshots.Ghosts V) (s : sources.Ghosts S) (source : S) : Type 0 where
  pub sized : IsPageSize v.size
  pub same_pages : s.pages source ≡ v.pages
  pub same_size : s.size source ≡ v.size
  pub still_right : v.right → s.reads_right source
  pub still_given : v.given → s.gives_pages source
