use Rattle.sqview.specs.LogView.{pages_of}
use Rattle.cli_words.specs.Commits.{commit_named}
use Rattle.cli_show.specs.Limits.{limits_named}
use Rattle.cli_show.specs.Shown.{IsPageUnread, IsPageUnshown}
use Rattle.cli_show.proofs.AskedFronts.{front_whole, shows_whole}
use Rattle.cli_show.proofs.ShownFiles.{page_unshown, refused_weaker}
use Rattle.cli_show.proofs.cells.show_page.Goals as goal

pub returns-in-Ok-clause-front : goal.returns-in-Ok-clause-front
returns-in-Ok-clause-front g c = λ given.
    let bytes = g.F.FileBytes.bytes in
    front_whole (limits_named c.args.options.large) bytes (bytes c.args.files.db) (bytes c.args.files.wal) (bytes c.args.files.journal) c.in_ok-view.view (commit_named c.args.options) c.of_view-front.result
    (c.in_ok-view.ensures.answer given) c.of_view-front.ensures

pub returns-in-Ok-clause-shown : goal.returns-in-Ok-clause-shown
returns-in-Ok-clause-shown g c = λ given.
    let bytes = g.F.FileBytes.bytes in
    let v = c.in_ok-view.view in
    let shows = shows_whole (limits_named c.args.options.large) bytes (bytes c.args.files.db) (bytes c.args.files.wal) (bytes c.args.files.journal) v (commit_named c.args.options) (c.in_ok-view.ensures.answer given) in
    (v.page_size, pages_of bytes v, shows, c.in-Ok.ensures (c.in_ok-view.ensures.still_gives given))

pub returns-clause-refused : goal.returns-clause-refused
returns-clause-refused g c = λ given.
    let bytes = g.F.FileBytes.bytes in
    let db = bytes c.args.files.db in
    let wal = bytes c.args.files.wal in
    let journal = bytes c.args.files.journal in
    let v = c.in_ok-view.view in
    let shows = shows_whole (limits_named c.args.options.large) bytes db wal journal v (commit_named c.args.options) (c.in_ok-view.ensures.answer given) in
    refused_weaker (IsPageUnread (pages_of bytes v) c.args.number) (IsPageUnshown c.args.options c.args.number db wal journal) c.in-Err.error
    (page_unshown c.args.options db wal journal v.page_size (pages_of bytes v) shows c.args.number) (c.in-Err.ensures (c.in_ok-view.ensures.still_gives given))
