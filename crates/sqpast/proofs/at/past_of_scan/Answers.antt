use Rattle.std.proofs.Common.{◌≡◌, ◌<◌, ◌/◌, ℕ, List, sym, ◌∙◌, ap, subst, arith}
use Rattle.std.specs.Prelude.{Ok, Err}
use Rattle.sqwal.specs.Header.{named_size}
use Rattle.sqwal.specs.Took.{TookWithin}
use Rattle.sqwal.proofs.feed.ScanAnswers.{few_frames}
use Rattle.history.specs.Table.{AreThere, IsFirstGone}
use Rattle.sqview.specs.At.{AtAnswerWithin}
use Rattle.sqpast.proofs.known.KnownViews.{front_is, shown_at_front, lost_answer, known_answer, count_fits, gone_none, gone_some}
use Rattle.sqpast.proofs.known.OpenedFiles.{refused_as, refused_answer, read_after, above_refused, above_by_div}
use Rattle.sqpast.proofs.at.past_of_scan.Goals as goal
use Rattle.sqpast.proofs.at.past_of_scan.Goals.{then-count-len-via-then-count-len, then-count-len-via-else-count-len+then-is_some}

pub returns-in_err-of_scan_within-clause-right : goal.returns-in_err-of_scan_within-clause-right
returns-in_err-of_scan_within-clause-right g c = λ rights ok took one journal cold.
    let bytes = g.F.FileBytes.bytes in
    let e = c.in_err-of_scan_within.field-0.0 in
    refused_answer c.args.limits bytes c.args.frame (bytes c.args.db) (bytes c.args.log) journal c.from_residual.result e c.from_residual.ensures
    (refused_as c.args.limits c.args.frame (bytes c.args.db) (bytes c.args.log) journal e (c.in_err-of_scan_within.ensures.answer took one journal cold))

pub returns-in_err-of_scan_within-clause-read : goal.returns-in_err-of_scan_within-clause-read
returns-in_err-of_scan_within-clause-read g c = λ gives. read_after c.from_residual.result c.in_err-of_scan_within.field-0.0 c.from_residual.ensures c.in_err-of_scan_within.ensures.read

pub returns-then-frame-committed-clause-right : goal.returns-then-frame-committed-clause-right
returns-then-frame-committed-clause-right g c = λ rights ok took one journal cold.
    let bytes = g.F.FileBytes.bytes in
    let w = bytes c.args.log in
    shown_at_front c.args.limits bytes c.committed.result.frames c.args.frame (bytes c.args.db) w journal cold one (c.committed.ensures c.args.limits.frames w took).front c.in_ok-of_scan_within.field-0
    (c.in_ok-of_scan_within.ensures.answer took one journal cold) c.if-frame-committed.true

pub returns-in_default-clause-right : goal.returns-in_default-clause-right
returns-in_default-clause-right g c = λ rights ok took one journal cold.
    let w = g.F.FileBytes.bytes c.args.log in
    let committed = (c.committed.ensures c.args.limits.frames w took).front in
    let valid = (front_is (named_size w) w c.committed.result.frames (omega (arith, c.if-frame-committed.false)) committed).0 in
    absurd (c.in_default.ensures c.args.limits.frames w took (record { first = one; each = λ j low high. valid.each j low (omega (arith, c.if-frame-committed.false)) }))

pub returns-then-from-bytes-clause-right : goal.returns-then-from-bytes-clause-right
returns-then-from-bytes-clause-right g c = λ rights ok took one journal cold.
    let bytes = g.F.FileBytes.bytes in
    let w = bytes c.args.log in
    let entry = c.in-Some.ensures c.args.limits.frames w took in
    let low : c.args.limits.bytes / 512 < c.in-Some.commit.size = omega (arith, ap (λ b. b / 512) c.bytes.ensures.value, c.from.ensures, c.if-from-bytes.true) in
    let more = above_by_div 512 c.in-Some.commit.size c.args.limits.bytes (omega arith) low in
    above_refused c.args.limits c.args.frame (bytes c.args.db) w journal cold entry.0 (few_frames w c.args.scan.now took) c.in-Some.commit.size entry.2 more

pub returns-in_err-view-clause-right : goal.returns-in_err-view-clause-right
returns-in_err-view-clause-right g c = λ rights ok took one journal cold.
    let bytes = g.F.FileBytes.bytes in
    let same = c.read_table.ensures.same_bytes in
    let took' = subst (λ (l : List ℕ). TookWithin c.args.limits.frames l c.args.scan.now) (sym same.1) took in
    let e = c.in_err-view.field-0.0 in
    refused_answer c.args.limits bytes c.args.frame (bytes c.args.db) (bytes c.args.log) journal c.from_residual-in_err-view.result e c.from_residual-in_err-view.ensures
    (refused_as c.args.limits c.args.frame (bytes c.args.db) (bytes c.args.log) journal e
    (subst (λ (f : List ℕ). AtAnswerWithin c.args.limits bytes c.args.frame f (bytes c.args.log) journal (Err e)) same.0
    (subst (λ (l : List ℕ). AtAnswerWithin c.args.limits bytes c.args.frame (bytes c.read_table.new.db) l journal (Err e)) same.1 (c.in_err-view.ensures.answer took' one journal cold))))

pub returns-then-count-len-clause-right : goal.returns-then-count-len-clause-right
returns-then-count-len-clause-right g c = λ rights ok took one journal cold.
    let bytes = g.F.FileBytes.bytes in
    let db = bytes c.args.db in
    let w = bytes c.args.log in
    let limits = c.args.limits in
    let m = c.args.frame in
    let front = c.committed.result.frames in
    let is = (c.committed.ensures limits.frames w took).front in
    let view = c.in_ok-view.view in
    let before : m < front = omega (arith, c.if-frame-committed.false) in
    let same = c.read_table.ensures.same_bytes in
    let took' = subst (λ (l : List ℕ). TookWithin limits.frames l c.args.scan.now) (sym same.1) took in
    let shown = subst (λ (f : List ℕ). AtAnswerWithin limits bytes m f w journal (Ok view)) same.0
    (subst (λ (l : List ℕ). AtAnswerWithin limits bytes m (bytes c.read_table.new.db) l journal (Ok view)) same.1 (c.in_ok-view.ensures.answer took' one journal cold)) in
    let right = c.read_table.ensures.still_right rights in
    let view_right = c.in_ok-view.ensures.still_right right.0 right.1 in
    let reads : (bytes view.db ≡ db) × (bytes view.log ≡ w) = (c.in_ok-view.ensures.reads.0 ∙ same.0, c.in_ok-view.ensures.reads.1 ∙ same.1) in
    let count_is = c.in_ok-count.ensures.right view_right in
    let le = c.in_ok-count.ensures.within in
    let table = c.in_ok-table.ensures.right rights limits.frames front took is (omega arith) in
    let size_is = (c.in-Some.ensures limits.frames w took).2 in
    let fits = count_fits limits bytes front m db w journal cold one is view shown c.in_ok-count.count le reads count_is front c.in-Some.commit.size c.in_ok-table.table table (omega (arith, size_is)) in
    elim c.then-count-len.branch [
      | then-count-len-via-then-count-len x ↦ absurd (omega (arith, x.if-count-len.true, c.len.ensures, fits))
      | then-count-len-via-else-count-len+then-is_some x ↦
          let gone = gone_some x.first_gone.result (AreThere table.until m c.in_ok-count.count) (IsFirstGone table.until m c.in_ok-count.count)
          (sym x.is_some.ensures ∙ x.if-is_some.true) (x.first_gone.ensures table.until table.greatest) in
          lost_answer limits bytes front m db w journal cold one is view shown c.in_ok-count.count le reads count_is before c.in_ok-table.table c.in-Some.commit.size table fits gone.0 gone.1
    ]

pub returns-clause-right : goal.returns-clause-right
returns-clause-right g c = λ rights ok took one journal cold.
    let bytes = g.F.FileBytes.bytes in
    let db = bytes c.args.db in
    let w = bytes c.args.log in
    let limits = c.args.limits in
    let m = c.args.frame in
    let front = c.committed.result.frames in
    let is = (c.committed.ensures limits.frames w took).front in
    let view = c.in_ok-view.view in
    let before : m < front = omega (arith, c.if-frame-committed.false) in
    let same = c.read_table.ensures.same_bytes in
    let took' = subst (λ (l : List ℕ). TookWithin limits.frames l c.args.scan.now) (sym same.1) took in
    let shown = subst (λ (f : List ℕ). AtAnswerWithin limits bytes m f w journal (Ok view)) same.0
    (subst (λ (l : List ℕ). AtAnswerWithin limits bytes m (bytes c.read_table.new.db) l journal (Ok view)) same.1 (c.in_ok-view.ensures.answer took' one journal cold)) in
    let right = c.read_table.ensures.still_right rights in
    let view_right = c.in_ok-view.ensures.still_right right.0 right.1 in
    let reads : (bytes view.db ≡ db) × (bytes view.log ≡ w) = (c.in_ok-view.ensures.reads.0 ∙ same.0, c.in_ok-view.ensures.reads.1 ∙ same.1) in
    let count_is = c.in_ok-count.ensures.right view_right in
    let le = c.in_ok-count.ensures.within in
    let table = c.in_ok-table.ensures.right rights limits.frames front took is (omega arith) in
    let size_is = (c.in-Some.ensures limits.frames w took).2 in
    let fits = count_fits limits bytes front m db w journal cold one is view shown c.in_ok-count.count le reads count_is front c.in-Some.commit.size c.in_ok-table.table table (omega (arith, size_is)) in
    let all = gone_none c.first_gone.result (AreThere table.until m c.in_ok-count.count) (IsFirstGone table.until m c.in_ok-count.count)
    (sym c.is_some.ensures ∙ c.if-is_some.false) (c.first_gone.ensures table.until table.greatest) in
    known_answer limits bytes front m db w journal cold one is view shown c.in_ok-count.count le reads count_is before c.in_ok-table.table c.in-Some.commit.size table fits
    c.used_pages.new.view c.shorten.new.self c.used_pages.ensures.same c.shorten.ensures.count c.shorten.ensures.sizes c.shorten.ensures.places c.shorten.ensures.files all
