use Rattle.std.proofs.Common.{◌∙◌, ap, map, refl, sym, inl, inr, true, false}
use Rattle.std.specs.Prelude.{Some}
use Rattle.std.specs.Cmp.Lexicographic.{bytes_decides}
use Rattle.cli_words.proofs.CommandLineArguments.{agree, differ, told}
use Rattle.cli_words.proofs.OptionsOfCommand.{others, check_asks, diff_asks, report_asks, rows_asks, salvage_asks, show_amiss, at_named, at_none, asks_to, no_to, some_to}
use Rattle.cli_words.proofs.words.asked.Goals as goal
use Rattle.cli_words.proofs.words.asked.Goals.{then-ne-via-then-ne, then-ne-via-else-ne+then-not-are_known}
use Rattle.cli_words.proofs.words.asked.Goals.{else-is_none-via-then-is_none+else-is_some, else-is_none-via-else-is_none}

pub returns-in_err-part : goal.returns-in_err-part
returns-in_err-part c =
    let options = map (λ w. w.now) c.options_of-given.result.now in
    rw c.from_residual-in_err-part.ensures (λ _ _. (
      options,
      c.options_of-given.ensures,
      inr (show_amiss c.args.command.now options c.in_ok-options.options.at ((bytes_decides _ _).0 (sym c.if-eq.ensures))
          c.in_ok-options.ensures.at_commit (rw c.in_err-part.was at c.part_at.ensures)),
    ))

pub returns-in_err-options : goal.returns-in_err-options
returns-in_err-options c =
    let options = map (λ w. w.now) c.options_of-given.result.now in
    rw c.from_residual.ensures (λ _ _. (options, c.options_of-given.ensures, inl (rw c.in_err-options.was at c.besides.ensures)))

pub returns-then-eq-2 : goal.returns-then-eq-2
returns-then-eq-2 c = report_asks (map (λ w. w.now) c.args.words.now) c.args.command.now _ (map (λ w. w.now) c.options_of-given.result.now) _ _
    ((bytes_decides _ _).0 (sym c.if-eq-2.ensures))
    (c.if-not-is_asked.ensures.second refl)
    (c.if-not-is_asked.ensures.file refl)
    c.options_of-given.ensures
    c.in_ok-options.ensures
    c.report_asked.ensures

pub returns-then-eq-3 : goal.returns-then-eq-3
returns-then-eq-3 c = rows_asks (map (λ w. w.now) c.args.words.now) c.args.command.now _ (map (λ w. w.now) c.options_of-given.result.now) _ _
    ((bytes_decides _ _).0 (sym c.if-eq-3.ensures))
    (c.if-not-is_asked.ensures.second refl)
    (c.if-not-is_asked.ensures.file refl)
    c.options_of-given.ensures
    c.in_ok-options.ensures
    c.rows_asked.ensures

pub returns-then-eq-4 : goal.returns-then-eq-4
returns-then-eq-4 c = diff_asks (map (λ w. w.now) c.args.words.now) c.args.command.now _ (map (λ w. w.now) c.options_of-given.result.now) _ _
    ((bytes_decides _ _).0 (sym c.if-eq-4.ensures))
    (c.if-not-is_asked.ensures.second refl)
    (c.if-not-is_asked.ensures.file refl)
    c.options_of-given.ensures
    c.in_ok-options.ensures
    c.diff_asked.ensures

pub returns-then-eq-6 : goal.returns-then-eq-6
returns-then-eq-6 c = salvage_asks (map (λ w. w.now) c.args.words.now) c.args.command.now _ (map (λ w. w.now) c.options_of-given.result.now) _ _
    ((bytes_decides _ _).0 (sym c.if-eq-6.ensures))
    (c.if-not-is_asked.ensures.second refl)
    (c.if-not-is_asked.ensures.file refl)
    c.options_of-given.ensures
    c.in_ok-options.ensures
    c.salvage_asked.ensures

pub returns-then-eq-5 : goal.returns-then-eq-5
returns-then-eq-5 c = check_asks (map (λ w. w.now) c.args.words.now) c.args.command.now _ (map (λ w. w.now) c.options_of-given.result.now) _ _
    ((bytes_decides _ _).0 (sym c.if-eq-5.ensures))
    (c.if-not-is_asked.ensures.second refl)
    (c.if-not-is_asked.ensures.file refl)
    c.options_of-given.ensures
    c.in_ok-options.ensures
    c.check_asked.ensures

pub returns-then-ne : goal.returns-then-ne
returns-then-ne c = λ _ _.
    let options = map (λ w. w.now) c.options_of-given.result.now in (
      options,
      c.options_of-given.ensures,
      inr (
        (λ is. absurd (others _ _ c.if-eq-5.ensures is)),
        (λ is. elim c.then-ne.branch [
          | then-ne-via-then-ne w ↦ absurd (differ _ _ true w.if-ne.ensures refl is)
          | then-ne-via-else-ne+then-not-are_known w ↦ inl (w.if-not-are_known.ensures.not refl)
        ]),
        (λ is. absurd (others _ _ c.if-eq-2.ensures is)),
        (λ is. absurd (others _ _ c.if-eq-3.ensures is)),
        (λ is. absurd (others _ _ c.if-eq-4.ensures is)),
        (λ is. absurd (others _ _ c.if-eq-6.ensures is)),
        (λ is. absurd (others _ _ c.if-eq.ensures is)),
      ),
    )

pub returns-then-is_some : goal.returns-then-is_some
returns-then-is_some c = λ _ _.
    let options = map (λ w. w.now) c.options_of-given.result.now in (
      options,
      c.options_of-given.ensures,
      inr (
        (λ is. absurd (others _ _ c.if-eq-5.ensures is)),
        (λ _. inr (
          at_named options c.in_ok-options.options.at c.if-is_some.ensures c.in_ok-options.ensures.at_commit,
          no_to options c.text_of-to.result c.if-is_none.ensures (asks_to options c.text_of-to.result c.text_of-to.ensures),
        )),
        (λ is. absurd (others _ _ c.if-eq-2.ensures is)),
        (λ is. absurd (others _ _ c.if-eq-3.ensures is)),
        (λ is. absurd (others _ _ c.if-eq-4.ensures is)),
        (λ is. absurd (others _ _ c.if-eq-6.ensures is)),
        (λ is. absurd (others _ _ c.if-eq.ensures is)),
      ),
    )

pub returns : goal.returns
returns c =
    let options = map (λ w. w.now) c.options_of-given.result.now in (
      c.if-not-is_asked.ensures.second refl ∙ ap Some (agree _ _ false c.if-ne.ensures refl),
      c.if-not-is_asked.ensures.file refl,
      (
        options,
        c.options_of-given.ensures,
        c.if-not-are_known.ensures.yes refl,
        c.in_ok-options.ensures,
        (c.stands_in-force.ensures.yes, told _ _ c.stands_in-force.ensures.not),
        asks_to options c.text_of-to.result c.text_of-to.ensures,
        (λ none. elim c.else-is_none.branch [
          | else-is_none-via-then-is_none+else-is_some w ↦ at_none c.in_ok-options.options.at w.if-is_some.ensures
          | else-is_none-via-else-is_none w ↦ absurd (some_to c.text_of-to.result w.if-is_none.ensures none)
        ]),
      ),
    )
