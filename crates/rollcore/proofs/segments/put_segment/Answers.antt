use Rattle.rollcore.proofs.Facts.{ArePut, Change, FileState, HasParts, Journaled, Result, RollError, SegmentAnswer, [], arith, asks_as, asks_err, asks_then, asks_wider, during, harmless_after, length, length-map, next_of, next_place, old_pages, pages_of, passed, replay_may, rules, size_bounds, sizes, subst, sym, ℕ, ◌++◌, ◌-◌, ◌<◌, ◌∙◌, ◌∷◌, ◌≡◌, ◌≤◌}
use Rattle.rollcore.proofs.segments.put_segment.Goals as goal

pub returns-in_err-next-clause-disk : goal.returns-in_err-next-clause-disk
returns-in_err-next-clause-disk g c = during (search rules) (λ word.
    record {
      asks = λ wide placed within. asks_err c.from_residual.result c.prepare_segment.result _ _ _ c.in_err-next.was (passed c.from_residual.result _ c.from_residual.ensures.1) (c.prepare_segment.ensures.disk.holds word).asks;
      segment = λ d e named w before is fresh more wide head turned somes put.
          subst (λ (x : Result ℕ RollError). SegmentAnswer (length c.args.buffer.now - 8) c.args.head.now.header.sector d e named before c.args.head.now.place w (pages_of c.args.changes.now) c.args.head.now.header.nonce x (g.D.Disk.state c.args.disk.now) (g.D.Disk.state c.prepare_segment.new.disk))
          (sym (passed c.from_residual.result _ c.from_residual.ensures.1))
          ((c.in_err-next.ensures.disk.holds word).prepared d named w is fresh more);
    })

pub returns-in_err-write_header-clause-disk : goal.returns-in_err-write_header-clause-disk
returns-in_err-write_header-clause-disk g c = during (search rules) (λ word.
    record {
      asks = λ wide placed within.
          asks_then _ c.prepare_segment.result _ _ _ _ c.in_ok-next.was (c.prepare_segment.ensures.disk.holds word).asks
          (asks_err c.from_residual-in_err-write_header.result c.write_header.result _ _ _ c.in_err-write_header.was (passed c.from_residual-in_err-write_header.result _ c.from_residual-in_err-write_header.ensures.1)
          ((c.write_header.ensures.disk.holds (c.prepare_segment.ensures.disk.word.0 word)).asks wide (length c.args.buffer.now - 8)));
      segment = λ d e named w before is fresh more wide head turned somes put.
          let n : ℕ = length c.args.buffer.now - 8 in
          let numbers = pages_of c.args.changes.now in
          let ready = (c.in_ok-next.ensures.disk.holds word).prepared d named w is fresh more in
          let few : length numbers ≤ 64 = omega (arith, c.requires.changes.few, length-map c.args.changes.now (λ (c : Change). c.page)) in
          subst (λ (x : Result ℕ RollError). SegmentAnswer n c.args.head.now.header.sector d e named before c.args.head.now.place w numbers c.args.head.now.header.nonce x (g.D.Disk.state c.args.disk.now) (g.D.Disk.state c.write_header.new.disk))
          (sym (passed c.from_residual-in_err-write_header.result _ c.from_residual-in_err-write_header.ensures.1))
          (harmless_after n d _ _ _ _ ready.2 ((c.in_err-write_header.ensures.disk.holds (c.prepare_segment.ensures.disk.word.0 word)).header n c.args.head.now.header.sector d named numbers ready.1.0 c.args.head.now.header.nonce ready.1.1 wide few head));
    })

pub returns-in_err-put_pages-clause-disk : goal.returns-in_err-put_pages-clause-disk
returns-in_err-put_pages-clause-disk g c = during (search rules) (λ word.
    record {
      asks = λ wide placed within.
          asks_then _ c.prepare_segment.result _ _ _ _ c.in_ok-next.was (c.prepare_segment.ensures.disk.holds word).asks
          (asks_then _ c.write_header.result _ _ _ _ c.in_ok-write_header.was ((c.write_header.ensures.disk.holds (c.prepare_segment.ensures.disk.word.0 word)).asks wide (length c.args.buffer.now - 8))
          (asks_err c.from_residual-in_err-put_pages.result c.put_pages.result _ _ _ c.in_err-put_pages.was (passed c.from_residual-in_err-put_pages.result _ c.from_residual-in_err-put_pages.ensures.1)
          (asks_wider c.put_pages.result _ _ (replay_may _ c.args.head.now.header.sector) ((c.put_pages.ensures.disk.holds (c.write_header.ensures.disk.word.0 (c.prepare_segment.ensures.disk.word.0 word))).asks (length c.args.buffer.now - 8) placed within))));
      segment = λ d e named w before is fresh more wide head turned somes put.
          let n : ℕ = length c.args.buffer.now - 8 in
          let numbers = pages_of c.args.changes.now in
          let sector = c.args.head.now.header.sector in
          let ready = (c.in_ok-next.ensures.disk.holds word).prepared d named w is fresh more in
          let few : length numbers ≤ 64 = omega (arith, c.requires.changes.few, length-map c.args.changes.now (λ (c : Change). c.page)) in
          let durable = (c.in_ok-write_header.ensures.disk.holds (c.prepare_segment.ensures.disk.word.0 word)).header n sector d named numbers ready.1.0 c.args.head.now.header.nonce ready.1.1 wide few head in
          let range = size_bounds sector c.requires.place.1 in
          let above = next_of (sizes sector n) c.args.head.now.place (old_pages d numbers) (omega (arith, range.0)) in
          let begun = (let z : 0 < next_place (sizes sector n) c.args.head.now.place (old_pages d numbers) = omega (arith, above, range.0) in z) in
          let same_file : (g.D.Disk.state c.write_header.new.disk).db ≡ (g.D.Disk.state c.args.disk.now).db = durable.2 ∙ ready.3 in
          subst (λ (x : Result ℕ RollError). SegmentAnswer n sector d e named before c.args.head.now.place w numbers c.args.head.now.header.nonce x (g.D.Disk.state c.args.disk.now) (g.D.Disk.state c.put_pages.new.disk))
          (sym (passed c.from_residual-in_err-put_pages.result _ c.from_residual-in_err-put_pages.ensures.1))
          (harmless_after n d _ (g.D.Disk.state c.args.disk.now) (g.D.Disk.state c.write_header.new.disk) _ (omega (arith, ready.2, durable.1))
          ((c.in_err-put_pages.ensures.disk.holds (c.write_header.ensures.disk.word.0 (c.prepare_segment.ensures.disk.word.0 word))).put n sector d e (named ++ numbers) _ durable.0.0 before durable.0.1 begun turned somes (subst (λ (s : FileState). ArePut n e before s) (sym same_file) put)));
    })

pub returns-clause-disk : goal.returns-clause-disk
returns-clause-disk g c = during (search rules) (λ word.
    record {
      asks = λ wide placed within.
          asks_then _ c.prepare_segment.result _ _ _ _ c.in_ok-next.was (c.prepare_segment.ensures.disk.holds word).asks
          (asks_then _ c.write_header.result _ _ _ _ c.in_ok-write_header.was ((c.write_header.ensures.disk.holds (c.prepare_segment.ensures.disk.word.0 word)).asks wide (length c.args.buffer.now - 8))
          (asks_as _ c.put_pages.result _ _ _ c.in_ok-put_pages.was
          (asks_wider c.put_pages.result _ _ (replay_may _ c.args.head.now.header.sector) ((c.put_pages.ensures.disk.holds (c.write_header.ensures.disk.word.0 (c.prepare_segment.ensures.disk.word.0 word))).asks (length c.args.buffer.now - 8) placed within))));
      segment = λ d e named w before is fresh more wide head turned somes put.
          let n : ℕ = length c.args.buffer.now - 8 in
          let numbers = pages_of c.args.changes.now in
          let sector = c.args.head.now.header.sector in
          let ready = (c.in_ok-next.ensures.disk.holds word).prepared d named w is fresh more in
          let few : length numbers ≤ 64 = omega (arith, c.requires.changes.few, length-map c.args.changes.now (λ (c : Change). c.page)) in
          let durable = (c.in_ok-write_header.ensures.disk.holds (c.prepare_segment.ensures.disk.word.0 word)).header n sector d named numbers ready.1.0 c.args.head.now.header.nonce ready.1.1 wide few head in
          let range = size_bounds sector c.requires.place.1 in
          let above = next_of (sizes sector n) c.args.head.now.place (old_pages d numbers) (omega (arith, range.0)) in
          let begun = (let z : 0 < next_place (sizes sector n) c.args.head.now.place (old_pages d numbers) = omega (arith, above, range.0) in z) in
          let same_file : (g.D.Disk.state c.write_header.new.disk).db ≡ (g.D.Disk.state c.args.disk.now).db = durable.2 ∙ ready.3 in
          let all = (c.in_ok-put_pages.ensures.disk.holds (c.write_header.ensures.disk.word.0 (c.prepare_segment.ensures.disk.word.0 word))).put n sector d e (named ++ numbers) _ durable.0.0 before durable.0.1 begun turned somes (subst (λ (s : FileState). ArePut n e before s) (sym same_file) put) in (
            ready.0,
            (
              durable.0.0,
              subst (λ (k : ℕ). Journaled n sector d (named ++ numbers) k durable.0.0 (g.D.Disk.state c.put_pages.new.disk)) (sym ready.0) all.0,
              λ parts has. subst (λ (k : ℕ). HasParts (sizes sector n) durable.0.0 k (parts ++ (c.args.head.now.header.nonce, old_pages d numbers) ∷ [])) (sym ready.0) (durable.0.2 parts (ready.1.2 parts has)),
            ),
            all.1,
            omega (arith, ready.2, durable.1, all.2),
          );
    })
