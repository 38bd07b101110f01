use Rattle.rollcore.proofs.Facts.{Asks, Change, Err, List, MayCommit, Ok, Result, RollError, SegmentsAnswer, ap, apply, arith, asks_as, asks_err, asks_same, asks_then, during, enough, harmless_after, kept_same, kept_then, length, length-map, lent, pages_of, part_back, part_forth, parts_all, parts_begin, parts_end, passed, places_few, ready_kept, refl, rules, segments_of, subst, sym, ℕ, ◌<◌, ◌∙◌, ◌≡◌}
use Rattle.rollcore.proofs.parts.put_segments.Goals as goal

pub loop-k-init : goal.loop-k-init
loop-k-init g c = record {
  word = search rules;
  asks = λ word wide. asks_same _ _ (g.met.D.Disk.sound c.args.disk.now word);
  place = omega arith;
  keeps = kept_same c.args.core.now;
  changes = refl;
  going = λ word n d ready at same.
      (parts_begin c.args.core.now.page_size c.args.sector d (apply d (lent c.args.pages.now) n) (pages_of c.args.core.now.changes.items) c.args.nonces.now (g.D.Disk.state c.args.disk.now) at.suits at.held (sym same) at.rests, omega arith);
}

pub put_part-requires-clause-part : goal.put_part-requires-clause-part
put_part-requires-clause-part g c =
    let below : c.loop-k.k < segments_of (length c.args.core.now.changes.items) = omega (arith, c.loop-k-test.true, c.count_segments-k-end.ensures, c.len.ensures, c.loop-k.auto.k-end) in
    let few = places_few c.args.pages.now c.requires.ready.0 (length c.args.nonces.now) c.args.core.now c.requires.ready.1 c.args.core.now.sized c.loop-k.k below in
    (subst (λ (v : List Change). c.loop-k.k < segments_of (length v)) (sym (ap (λ v. v.items) c.loop-k.invariant.changes)) below, omega (arith, few, c.loop-k.invariant.place))

pub loop-k-preserved : goal.loop-k-preserved
loop-k-preserved g c = record {
  word = search rules;
  asks = λ word wide.
      asks_then {U = Unit {0}} (Ok tt) (Ok tt) tt _ _ _ refl (c.loop-k.invariant.asks word wide) (asks_as (Ok tt) c.put_part.result _ _ _ c.in_ok-place.was
      (subst (λ (n : ℕ). Asks (MayCommit n c.args.sector) c.put_part.result (g.D.Disk.state c.loop-k.disk) (g.D.Disk.state c.put_part.new.disk)) c.loop-k.invariant.keeps.page_size
      ((c.put_part.ensures.disk.holds (c.loop-k.invariant.word.0 word)).asks (c.loop-k.invariant.keeps.header_room ∙ wide))));
  place = omega (arith, c.in_ok-place.ensures.answer, c.loop-k.invariant.place);
  keeps = kept_then c.args.core.now c.loop-k.core c.put_part.new.core c.loop-k.invariant.keeps c.put_part.ensures.core.keeps;
  changes = c.put_part.ensures.core.changes ∙ c.loop-k.invariant.changes;
  going = λ word n d ready at same.
      let was = c.loop-k.invariant.going word n d ready at same in
      let kept = c.loop-k.invariant.keeps in
      let changes = c.loop-k.invariant.changes in
      let pages = lent c.args.pages.now in
      let b = g.D.Disk.state c.loop-k.disk in
      let done = part_back pages n c.args.sector c.args.nonces.now c.loop-k.k d c.args.core.now c.loop-k.core.page_size c.loop-k.core.changes.items (Ok c.in_ok-place.place) b (g.D.Disk.state c.put_part.new.disk) kept.page_size (ap (λ v. v.items) changes)
      ((c.in_ok-place.ensures.disk.holds (c.loop-k.invariant.word.0 word)).segment n (length c.args.nonces.now) d c.args.nonces.now (ready_kept c.args.pages.now n (length c.args.nonces.now) c.args.core.now c.loop-k.core kept changes ready) (at.size ∙ sym kept.size) (kept.header_room ∙ at.header_room ∙ sym same) (omega (arith, enough c.args.pages.now n (length c.args.nonces.now) c.args.core.now ready, c.loop-k-test.true, c.count_segments-k-end.ensures, c.len.ensures, c.loop-k.auto.k-end)) refl
      (part_forth pages n c.args.sector c.args.nonces.now c.loop-k.k c.loop-k.place d c.args.core.now c.loop-k.core b kept changes was.0)) in
      (done.0, omega (arith, was.1, done.1));
}

pub returns-in_err-place-clause-disk : goal.returns-in_err-place-clause-disk
returns-in_err-place-clause-disk g c = during (search rules) (λ word.
    record {
      asks = λ wide.
          asks_then {U = Unit {0}} _ (Ok tt) tt _ _ _ refl (c.loop-k.invariant.asks word wide) (asks_err c.from_residual.result c.put_part.result _ _ _ c.in_err-place.was (passed c.from_residual.result _ c.from_residual.ensures.1)
          (subst (λ (n : ℕ). Asks (MayCommit n c.args.sector) c.put_part.result (g.D.Disk.state c.loop-k.disk) (g.D.Disk.state c.put_part.new.disk)) c.loop-k.invariant.keeps.page_size
          ((c.put_part.ensures.disk.holds (c.loop-k.invariant.word.0 word)).asks (c.loop-k.invariant.keeps.header_room ∙ wide))));
      segments = λ n d ready at same.
          let was = c.loop-k.invariant.going word n d ready at same in
          let kept = c.loop-k.invariant.keeps in
          let changes = c.loop-k.invariant.changes in
          let pages = lent c.args.pages.now in
          let a = g.D.Disk.state c.args.disk.now in
          let b = g.D.Disk.state c.loop-k.disk in
          let new = g.D.Disk.state c.put_part.new.disk in
          subst (λ (x : Result (Unit {0}) RollError). SegmentsAnswer c.args.core.now.page_size c.args.sector d (apply d pages n) (pages_of c.args.core.now.changes.items) c.args.nonces.now x a new)
          (sym (passed c.from_residual.result _ c.from_residual.ensures.1))
          (harmless_after c.args.core.now.page_size d _ a b new was.1
          (part_back pages n c.args.sector c.args.nonces.now c.loop-k.k d c.args.core.now c.loop-k.core.page_size c.loop-k.core.changes.items (Err c.in_err-place.field-0.0) b new kept.page_size (ap (λ v. v.items) changes)
          ((c.in_err-place.ensures.disk.holds (c.loop-k.invariant.word.0 word)).segment n (length c.args.nonces.now) d c.args.nonces.now (ready_kept c.args.pages.now n (length c.args.nonces.now) c.args.core.now c.loop-k.core kept changes ready) (at.size ∙ sym kept.size) (kept.header_room ∙ at.header_room ∙ sym same) (omega (arith, enough c.args.pages.now n (length c.args.nonces.now) c.args.core.now ready, c.loop-k-test.true, c.count_segments-k-end.ensures, c.len.ensures, c.loop-k.auto.k-end)) refl
          (part_forth pages n c.args.sector c.args.nonces.now c.loop-k.k c.loop-k.place d c.args.core.now c.loop-k.core b kept changes was.0))));
    })

pub returns-clause-disk : goal.returns-clause-disk
returns-clause-disk g c = during (search rules) (λ word.
    record {
      asks = λ wide. asks_as {U = Unit {0}} _ (Ok tt) tt _ _ refl (c.loop-k.invariant.asks word wide);
      segments = λ n d ready at same.
          let was = c.loop-k.invariant.going word n d ready at same in
          let all = parts_all c.loop-k.k (length c.args.core.now.changes.items) (omega (arith, c.loop-k-test.false, c.count_segments-k-end.ensures, c.len.ensures, c.loop-k.auto.k-end)) in
          let whole : c.loop-k.k ≡ segments_of (length c.args.core.now.changes.items) = omega (arith, c.loop-k-test.false, c.count_segments-k-end.ensures, c.len.ensures, c.loop-k.auto.k-end) in
          parts_end c.args.core.now.page_size c.args.sector d (apply d (lent c.args.pages.now) n) (pages_of c.args.core.now.changes.items) c.args.nonces.now {T = Unit {0}} tt c.loop-k.k c.loop-k.place (g.D.Disk.state c.args.disk.now) (g.D.Disk.state c.loop-k.disk)
          (omega (arith, all.0, length-map c.args.core.now.changes.items (λ (c : Change). c.page))) all.1
          (whole ∙ sym (ap segments_of (length-map c.args.core.now.changes.items (λ (c : Change). c.page)))) was.0 was.1;
    })
