-- Which of SQLite's locks the system tells of (own).
use Rattle.std.specs.Prelude.{◌≡◌, ◌⊎◌, List, ℕ, Option, Some, None}
use Rattle.sqlocks.specs.Index.{IsIndex, low_word}
use Rattle.sqlocks.specs.Told.{Tells, TellsAll}
use Rattle.sqlocks.specs.declared.plan.Want.{Want}
use Rattle.sqlocks.specs.declared.plan.Want.TheVariants.{Read, Recover}
use Rattle.sqlocks.specs.declared.plan.Lock.TheVariants.{Alone as NoJournal, Writers}
use Rattle.sqlocks.specs.declared.told.FileId.{FileId}
use Rattle.cli_held.specs.declared.fdinfo.Held.{Held}
use Rattle.cli_held.specs.declared.fdinfo.Held.TheVariants.{Nothing, File, Alone, Front, Log, Everything}

-- Something is held only where the text tells of all locks that the plan goes on with: of a reader's on FILE alone where
-- there is no FILE-shm, with the one that says that no journal is current, or without it; and else on both, with or without
-- the one that keeps writers off the log; of a recovery's.
abbrev pub HeldBy : (text : List ℕ) → Want → (file : FileId) → (index : Option FileId) → Held → Type 0
HeldBy text want file index Nothing = ¬ TellsAll text want file index
HeldBy text want file index File = TellsAll text want file index × (want ≡ Read) × (index ≡ None) × (¬ Tells text NoJournal file)
HeldBy text want file index Alone = TellsAll text want file index × (want ≡ Read) × (index ≡ None) × Tells text NoJournal file
HeldBy text want file (Some index) Front = TellsAll text want file (Some index) × (want ≡ Read) × (¬ Tells text Writers index)
HeldBy text want file (Some index) Log = TellsAll text want file (Some index) × (want ≡ Read) × Tells text Writers index
HeldBy text want file None Front = ⊥
HeldBy text want file None Log = ⊥
HeldBy text want file index Everything = TellsAll text want file index × (want ≡ Recover)

-- nothing is held, or a text tells so of FILE, and of FILE-shm where that is
pub record TellsSo (want : Want) (held : Held) : Type 0 where
  pub text : List ℕ
  pub file : FileId
  pub index : Option FileId
  pub so : HeldBy text want file index held

abbrev pub IsTold : Want → Held → Type 0
IsTold want held = (held ≡ Nothing) ⊎ TellsSo want held

-- mxFrame of a valid header; none where there is no valid one
abbrev pub FramesNamed : (index : List ℕ) → Option ℕ → Type 0
FramesNamed index None = ¬ IsIndex index
FramesNamed index (Some frames) = IsIndex index × (frames ≡ low_word index 16)
