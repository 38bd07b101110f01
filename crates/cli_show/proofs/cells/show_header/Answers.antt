use Rattle.std.proofs.Common.{ℕ, length, refl, subst}
use Rattle.std.specs.Io.KnownBytes.{Appends}
use Rattle.sqview.specs.LogView.{pages_of}
use Rattle.cli_text.specs.Headers.{header_text}
use Rattle.cli_words.specs.Commits.{commit_named}
use Rattle.cli_show.specs.Limits.{limits_named}
use Rattle.cli_show.proofs.AskedFronts.{front_whole, shows_whole}
use Rattle.cli_show.proofs.ShownFiles.{header_unshown}
use Rattle.cli_show.proofs.cells.show_header.Goals as goal

pub returns-in-Ok-clause-front : goal.returns-in-Ok-clause-front
returns-in-Ok-clause-front g c = λ given.
    let bytes = g.F.FileBytes.bytes in
    front_whole (limits_named c.args.options.large) bytes (bytes c.args.files.db) (bytes c.args.files.wal) (bytes c.args.files.journal) c.in_ok-view.view (commit_named c.args.options) c.of_view-front.result
    (c.in_ok-view.ensures.answer given) c.of_view-front.ensures

pub returns-in-Ok-clause-shown : goal.returns-in-Ok-clause-shown
returns-in-Ok-clause-shown g c = λ given.
    let bytes = g.F.FileBytes.bytes in
    let v = c.in_ok-view.view in
    let shows = shows_whole (limits_named c.args.options.large) bytes (bytes c.args.files.db) (bytes c.args.files.wal) (bytes c.args.files.journal) v (commit_named c.args.options) (c.in_ok-view.ensures.answer given) in
    (v.page_size, pages_of bytes v, shows, (c.in-Ok.header, c.in-Ok.ensures (c.in_ok-view.ensures.still_gives given)))

pub returns-in-Ok-clause-text : goal.returns-in-Ok-clause-text
returns-in-Ok-clause-text g c = λ given.
    let bytes = g.F.FileBytes.bytes in
    let v = c.in_ok-view.view in
    let d = pages_of bytes v in
    let shows = shows_whole (limits_named c.args.options.large) bytes (bytes c.args.files.db) (bytes c.args.files.wal) (bytes c.args.files.journal) v (commit_named c.args.options) (c.in_ok-view.ensures.answer given) in
    let old = g.W.Write.contents c.args.out.now in
    let new = g.W.Write.contents c.write_header.new.out in
    let written = subst (λ (n : ℕ). Appends old new (header_text c.args.options.style c.in-Ok.header n)) c.count-count.ensures c.in_ok-write_header-in-Ok.ensures in
    (header_text c.args.options.style c.in-Ok.header (length d), (v.page_size, d, c.in-Ok.header, shows, c.in-Ok.ensures (c.in_ok-view.ensures.still_gives given), refl), written)

pub returns-clause-refused : goal.returns-clause-refused
returns-clause-refused g c = λ given.
    let bytes = g.F.FileBytes.bytes in
    let v = c.in_ok-view.view in
    let shows = shows_whole (limits_named c.args.options.large) bytes (bytes c.args.files.db) (bytes c.args.files.wal) (bytes c.args.files.journal) v (commit_named c.args.options) (c.in_ok-view.ensures.answer given) in
    header_unshown c.args.options (bytes c.args.files.db) (bytes c.args.files.wal) (bytes c.args.files.journal) v.page_size (pages_of bytes v) shows c.in-Err.refusal
    (c.in-Err.ensures (c.in_ok-view.ensures.still_gives given))
