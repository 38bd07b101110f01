-- What is shown of files, and why it isn't.
use Rattle.std.proofs.Common.{◌≡◌, ℕ, List, [], ◌∷◌, length, arith, inl, inr}
use Rattle.std.specs.Prelude.{Err}
use Rattle.sqval.specs.Limits.{Bounds}
use Rattle.sqval.specs.Database.{Database, page}
use Rattle.sqpage.specs.Header.{IsHeader, HeaderRefused}
use Rattle.sqpage.specs.declared.fault.Fault.{Fault}
use Rattle.sqpage.specs.declared.fault.Fault.TheVariants as faults
use Rattle.sqpage.specs.declared.header.DbHeader.{DbHeader}
use Rattle.sqjournal.specs.Journal.{IsHot}
use Rattle.cli_facts.specs.declared.outcome.Refusal.{Refusal}
use Rattle.cli_facts.specs.declared.outcome.Refusal.TheVariants.{TooLarge, FileFailed, NotADatabase, NoSuchPage, NoMemory}
use Rattle.cli_words.specs.Commits.{commit_named}
use Rattle.cli_words.specs.declared.requests.Options.{Options}
use Rattle.cli_show.specs.Errors.{IfRefused}
use Rattle.cli_show.specs.Logs.{ReplayFound, IsUnreadLog}
use Rattle.cli_show.specs.Shown.{IsPageUnread, HasHeader, IsHeaderUnshown, IsPageUnshown}
use Rattle.cli_show.specs.internal.Shown.{IsHeaderUnread}
use Rattle.cli_show.specs.Views.{WholeShows}
use Rattle.cli_show.specs.declared.error.ShowError.{ShowError}
use Rattle.cli_show.specs.declared.error.ShowError.TheVariants.{Refused, Unwritten}

pub refused_weaker : (P Q : Refusal → Type 0) (error : ShowError) → ((refusal : Refusal) → P refusal → Q refusal) → IfRefused P error → IfRefused Q error
refused_weaker P Q (Refused refusal) weaker holds = weaker refusal holds
refused_weaker P Q Unwritten weaker holds = tt

-- a hot journal begins with a header
pub hot_unread : (limits : Bounds) (wal journal : List ℕ) (refusal : Refusal) → IsHot journal → ReplayFound journal (Err refusal) → IsUnreadLog limits wal journal refusal
hot_unread limits wal journal TooLarge hot long = inl (hot, long)
hot_unread limits wal journal FileFailed hot none = absurd (none.1 hot.first)
hot_unread limits wal journal NoMemory hot memory = tt
hot_unread limits wal journal _ hot never = absurd never

pub no_header : (d : Database) → length d ≡ 0 → ¬ HasHeader d
unfolding page
no_header [] none has = let magic = has.1.magic in cc
no_header (p ∷ d) none has = omega (arith, none)

pub header_refused : (fault : Fault) (header : DbHeader) (b : List ℕ) → HeaderRefused fault b → IsHeader header b → ⊥
header_refused faults.Magic header b refused is = refused is.magic
header_refused faults.PageSize header b refused is = refused.1 is.sized
header_refused faults.Fraction header b refused is = refused.2 is.fractions
header_refused faults.Reserved header b refused is = refused.3 is.room
header_refused _ header b refused is = refused

module _ (options : Options) (db wal journal : List ℕ) (size : ℕ) (d : Database) (shows : WholeShows (commit_named options) size db wal journal d) where
  pub header_unshown : (refusal : Refusal) → IsHeaderUnread d refusal → IsHeaderUnshown options db wal journal refusal
  header_unshown NotADatabase unread = inr (size, d, shows, unread)
  header_unshown NoMemory unread = tt
  header_unshown _ unread = absurd unread

  pub page_unshown : (number : ℕ) (refusal : Refusal) → IsPageUnread d number refusal → IsPageUnshown options number db wal journal refusal
  page_unshown number NoSuchPage unread = (size, d, shows, unread)
  page_unshown number NoMemory unread = tt
  page_unshown number _ unread = absurd unread
