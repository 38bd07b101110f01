use Rattle.std.proofs.Common.{◌≡◌, ◌+◌, ◌≤◌, Bool, false, List, [], ◌∷◌, ℕ, length, get_or, sym, ◌∙◌, ap, subst, arith, ⊎_elim, length-append}
use Rattle.std.specs.Prelude.{◌↔◌, IsTrue}
use Rattle.std.proofs.lemmas.Bool.{cases_eq}
use Rattle.std.proofs.lemmas.List.{get_or_append_left, get_or_push}
use Rattle.sqval.specs.Database.{file_page}
use Rattle.sqval.specs.PageSize.{IsPageSize}
use Rattle.sqwal.specs.Header.{named_size}
use Rattle.sqwal.specs.Frames.{frame_at, size_of}
use Rattle.sqwal.proofs.log.UniquenessOfView.{front_unique}
use Rattle.history.specs.Past.{valid_count}
use Rattle.sqview.specs.Laid.{part_or_zeros}
use Rattle.sqpast.specs.Commits.{AreKnown}
use Rattle.sqpast.specs.internal.Commits.{IsKnownBy}
use Rattle.sqpast.proofs.known.KnownViews.{front_is}
use Rattle.sqpast.proofs.known.BeforeCommits.{head_count, front_header}
use Rattle.sqpast.proofs.known.KnownCommits.{known_none, known_more, known_all, known_empty, known_at_frame, first_none, first_after}
use Rattle.sqpast.proofs.commits.known_commits.Goals as goal
use Rattle.sqpast.proofs.commits.known_commits.Goals.{else-loop-before-test, then-loop-before-test+in_default-entry}

pub loop-before-init : goal.loop-before-init
loop-before-init g c = record {
  right = λ r. (c.read_table.ensures.still_right r).1;
  gives = λ r. (c.read_table.ensures.still_gives r).1;
  same_log = c.read_table.ensures.same_bytes.1;
  long = ap length c.new-known.ensures.items;
  done = λ r most took.
      let w = g.F.FileBytes.bytes c.args.log.now in
      let file = g.F.FileBytes.bytes c.args.db.now in
      let size = named_size w in
      let header = (c.in-Some.ensures most w took).1.valid in
      let sized : IsPageSize size = subst IsPageSize (sym header.named) header.is_size in
      let first : c.in_ok-first.first ≡ valid_count (file_page size file 1) = c.in_ok-first.ensures.read (c.read_table.ensures.still_right r).0
      ∙ ap (λ f. valid_count (part_or_zeros 100 0 f)) c.read_table.ensures.same_bytes.0 ∙ head_count size file sized in
      (first_none size w file c.in_ok-first.first first, known_none size w c.committed-front.result.frames file c.new-known.result.items);
}

pub loop-before-preserved : goal.loop-before-preserved
loop-before-preserved g c =
    let inv = c.loop-before.invariant in
    let b = c.is_known.result in
    let old = c.loop-before.known.items in
    let now = c.push.new.self.items in
    let pushed = c.in_ok-push.ensures.items in
    record {
      right = λ r. c.count_after.ensures.still_right (inv.right r);
      gives = λ r. c.count_after.ensures.still_gives (inv.gives r);
      same_log = c.count_after.ensures.same_bytes ∙ inv.same_log;
      long = omega (arith, ap length pushed ∙ length-append old (b ∷ []), inv.long);
      done = λ r most took.
          let w = g.F.FileBytes.bytes c.args.log.now in
          let file = g.F.FileBytes.bytes c.args.db.now in
          let size = named_size w in
          let k = c.loop-before.before in
          let frames = c.committed-front.result.frames in
          let header = (c.in-Some.ensures most w took).1.valid in
          let sized : IsPageSize size = subst IsPageSize (sym header.named) header.is_size in
          let entry = c.in-Some-entry.ensures most w took in
          let was = inv.done r most took in
          let at : c.place.result ≡ frame_at size (k + 1) + 24 = c.place.ensures.place ∙ ap (λ n. frame_at n (k + 1) + 24) (sym header.named) in
          let first = first_after size w file k sized (entry.0.each (k + 1) (omega arith) (omega arith)).whole c.place.result at c.in-Some-entry.entry.page entry.1 c.loop-before.first c.in_ok-first-2.first
          (g.F.FileBytes.bytes c.loop-before.log) inv.same_log (c.in_ok-first-2.ensures.read (inv.right r)) was.0 in
          let committed = (c.committed-front.ensures most w took).front in
          let some : 1 ≤ frames = omega (arith, c.if-front-eq0.false) in
          let valid = (front_is size w frames some committed).0 in
          let table = c.in_ok-table.ensures.right r most frames took committed some in
          let found = subst (λ (n : ℕ). IsTrue b ↔ IsKnownBy table.until (k + 1) frames n c.in_ok-first-2.first) entry.2 (c.is_known.ensures table.until table.greatest) in
          let most_is : size_of size w (k + 1) ≤ c.largest.result = c.largest.ensures most w took (k + 1) (omega arith) (omega (arith, c.loop-before-test.true)) valid in
          let here = known_at_frame size w frames file (k + 1) (omega arith) (omega (arith, c.loop-before-test.true)) c.in_ok-first-2.first first sized table.until table.are
          (omega (arith, most_is, table.long, table.greatest.long)) table.bytes b found in (
            first,
            known_more size w frames file k old now b was.1 here
                (λ i lt. ap (λ (l : List Bool). get_or l i false) pushed ∙ get_or_append_left old (b ∷ []) false i (omega (arith, inv.long)))
                (ap (λ (l : List Bool). get_or l k false) pushed ∙ get_or_push old b false k inv.long),
          );
    }

pub returns-clause-right : goal.returns-clause-right
returns-clause-right g c = λ r most front took is.
    let w = g.F.FileBytes.bytes c.args.log.now in
    let file = g.F.FileBytes.bytes c.args.db.now in
    let size = named_size w in
    let k = c.loop-before.before in
    let frames = c.committed-front.result.frames in
    let items = c.loop-before.known.items in
    let committed = (c.committed-front.ensures most w took).front in
    let same : frames ≡ front = front_unique size w frames front committed is in
    let some : 1 ≤ frames = omega (arith, c.if-front-eq0.false) in
    let valid = (front_is size w frames some committed).0 in
    let inv = c.loop-before.invariant in
    elim c.loop-before-test.branch [
      | else-loop-before-test x ↦ subst (λ (n : ℕ). AreKnown size w n file items) same
          (known_all size w frames file k items inv.long (omega (arith, x.loop-before-test.false, c.loop-before.auto.before-end)) (inv.done r most took).1)
      | then-loop-before-test+in_default-entry x ↦ absurd (x.in_default-entry.ensures most w took (record { first = omega arith; each = λ j a b. valid.each j a (omega (arith, x.loop-before-test.true)) }))
    ]

pub returns-in_default-clause-right : goal.returns-in_default-clause-right
returns-in_default-clause-right g c = λ r most front took is.
    let w = g.F.FileBytes.bytes c.args.log.now in
    let file = g.F.FileBytes.bytes c.args.db.now in
    ⊎_elim
    (λ none. known_empty (named_size w) w front file c.new-known.result.items none c.new-known.ensures.items)
    (λ ne. absurd (omega (arith, (front_header w front (omega (arith, ne)) is).whole, c.in_default.ensures most w took)))
    (cases_eq front 0)

pub returns-then-front-eq0-clause-right : goal.returns-then-front-eq0-clause-right
returns-then-front-eq0-clause-right g c = λ r most front took is.
    let w = g.F.FileBytes.bytes c.args.log.now in
    let file = g.F.FileBytes.bytes c.args.db.now in
    let same : c.committed-front.result.frames ≡ front = front_unique (named_size w) w c.committed-front.result.frames front (c.committed-front.ensures most w took).front is in
    known_empty (named_size w) w front file c.new-known.result.items (sym same ∙ c.if-front-eq0.true) c.new-known.ensures.items
