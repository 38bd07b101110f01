use Rattle.std.proofs.Common.{◌≡◌, ◌<◌, ◌-◌, length, get_or, ◌∙◌, ap, arith}
use Rattle.rig_images.specs.declared.image.Image.{Image}
use Rattle.sqcrash.proofs.WaitingCommits.{last_of, some_listed, showing_of}
use Rattle.sqcrash.proofs.run.Run.shows_next.Goals as goal

pub returns-then-count-eq0 : goal.returns-then-count-eq0
returns-then-count-eq0 c = λ next rest e.
    let items = c.args.self.now.waiting.items in
    let some : 0 < length items = some_listed items rest next e in
    absurd (omega (arith, some, c.len-count.ensures, c.args.self.now.waiting.ok.0))

pub returns : goal.returns
returns c = λ next rest e.
    let items = c.args.self.now.waiting.items in
    let image = c.args.self.now.watched.present in
    let seen = c.present-files.ensures in
    let shown = c.index.result.now in
    let all : c.len-count.result - 1 ≡ length items - 1 = omega (arith, c.len-count.ensures, c.args.self.now.waiting.ok.0) in
    let same : shown ≡ next = c.index.ensures ∙ ap (λ k. get_or items k shown) all ∙ last_of items rest next shown e in
    showing_of shown next _ _ _ image.db.items image.wal.items image.journal.items c.in_ok-files_show.field-0 same (c.deref.ensures.value ∙ ap (λ (i : Image). i.db.items) seen) (c.deref-2.ensures.value ∙ ap (λ (i : Image). i.wal.items) seen)
    (c.deref-3.ensures.value ∙ ap (λ (i : Image). i.journal.items) seen) c.in_ok-files_show.ensures.shows
