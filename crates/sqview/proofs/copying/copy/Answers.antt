use Rattle.std.proofs.Common.{◌≡◌, ℕ, ◌+◌, List, ◌++◌, length, take, drop, true, false, sym, ◌∙◌, ap, subst, arith}
use Rattle.std.specs.Prelude.{Result, IsOk}
use Rattle.std.specs.List.{concat}
use Rattle.std.specs.Io.KnownBytes.{Appends, append_known}
use Rattle.std.proofs.KnownBytes.{Appends-trans}
use Rattle.std.proofs.lemmas.List.{take_at}
use Rattle.sqval.specs.Database.{Database, page}
use Rattle.sqpage.specs.declared.source.SourceError.{SourceError}
use Rattle.sqview.specs.LogView.{pages_of}
use Rattle.sqview.specs.Shapes.{Shape}
use Rattle.sqview.proofs.file.RunsOfWrittenPages.{concat-page}
use Rattle.sqview.proofs.openings.PagesOfView.{same_pages}
use Rattle.sqview.proofs.copying.copy.Goals as goal

pub loop-before-preserved : goal.loop-before-preserved
loop-before-preserved g c =
    let bytes_of = g.F.FileBytes.bytes in
    let pages = pages_of bytes_of c.args.view.now in
    let contents = g.W.Write.contents in
    let n = c.loop-before.before in
    let was = c.loop-before.invariant in
    let out = c.read.new.out in
    let items = c.loop-before.page.items in
    let long : length out ≡ length items = omega (arith, ap length c.deref_mut.ensures.value) in
    let whole : length out ≡ c.loop-before.page.len = omega (arith, long, c.loop-before.page.ok.0) in
    let kept : take c.loop-before.page.len (out ++ drop (length out) items) ≡ out = take_at out (drop (length out) items) c.loop-before.page.len whole in
    record {
      same = c.read.ensures.same ∙ was.same;
      right = λ right. c.read.ensures.still_right (was.right right);
      gives = λ gives. c.read.ensures.still_gives (was.gives gives);
      long = ap length kept ∙ long ∙ was.long;
      written = λ right.
          let bytes : c.deref.result.now ≡ page pages (n + 1) = c.deref.ensures.value ∙ kept ∙ c.in_ok-read.ensures.read (was.right right) ∙ ap (λ (d : Database). page d (n + 1)) (same_pages bytes_of c.loop-before.view c.args.view.now was.same) in
          let more : concat (take n pages) ++ c.deref.result.now ≡ concat (take (n + 1) pages) = ap (λ (l : List ℕ). concat (take n pages) ++ l) bytes ∙ sym (concat-page pages n (omega (arith, c.loop-before-test.true, c.count-before-end.ensures))) in
          subst (λ (l : List ℕ). Appends (contents c.args.out.now) (append_known (contents c.add.new.out) c.add.new.run.items) l) more
          (Appends-trans (contents c.args.out.now) (append_known (contents c.loop-before.out) c.loop-before.run.items) (append_known (contents c.add.new.out) c.add.new.run.items) (concat (take n pages)) c.deref.result.now (was.written right) c.in_ok-add.ensures.added);
    }

pub read-requires : goal.read-requires
read-requires g c =
    let bytes_of = g.F.FileBytes.bytes in
    let now : length (pages_of bytes_of c.loop-before.view) ≡ length (pages_of bytes_of c.args.view.now) = ap (λ (d : Database). length d) (same_pages bytes_of c.loop-before.view c.args.view.now c.loop-before.invariant.same) in
    let size : c.loop-before.view.page_size ≡ c.args.view.now.page_size = ap (λ (s : Shape). s.page_size) c.loop-before.invariant.same in
    ((omega arith, omega (arith, now, c.loop-before-test.true, c.count-before-end.ensures)), omega (arith, ap (λ (l : List ℕ). length l) c.deref_mut.ensures.value, c.loop-before.invariant.long, size))

pub returns-in_err-read-clause-unread : goal.returns-in_err-read-clause-unread
returns-in_err-read-clause-unread g c = λ gives.
    let bad : false ≡ true = subst (λ (r : Result (Unit {0}) SourceError). IsOk r) c.in_err-read.was (c.read.ensures.never_fails (c.loop-before.invariant.gives gives)) in cc

pub returns-in_err-read-clause-still_right : goal.returns-in_err-read-clause-still_right
returns-in_err-read-clause-still_right g c = λ right. c.read.ensures.still_right (c.loop-before.invariant.right right)

pub returns-in_err-read-clause-still_gives : goal.returns-in_err-read-clause-still_gives
returns-in_err-read-clause-still_gives g c = λ gives. c.read.ensures.still_gives (c.loop-before.invariant.gives gives)

pub returns-in_err-read-clause-same : goal.returns-in_err-read-clause-same
returns-in_err-read-clause-same g c = c.read.ensures.same ∙ c.loop-before.invariant.same

pub returns-in_err-add-clause-still_right : goal.returns-in_err-add-clause-still_right
returns-in_err-add-clause-still_right g c = λ right. c.read.ensures.still_right (c.loop-before.invariant.right right)

pub returns-in_err-add-clause-still_gives : goal.returns-in_err-add-clause-still_gives
returns-in_err-add-clause-still_gives g c = λ gives. c.read.ensures.still_gives (c.loop-before.invariant.gives gives)

pub returns-in_err-add-clause-same : goal.returns-in_err-add-clause-same
returns-in_err-add-clause-same g c = c.read.ensures.same ∙ c.loop-before.invariant.same
