-- The clause that is pushed is the next one.
use Rattle.std.proofs.Common.{◌+◌, ◌<◌, ◌≤◌, length, sym, refl, arith}
use Rattle.std.proofs.lemmas.Grind.{common_steps}
use Rattle.schema_text.specs.Clauses.{IsClauseAt}
use Rattle.schema_text.specs.declared.clauses.Place.TheVariants.{First}
use Rattle.schema_text.proofs.Chain.{one_more}
use Rattle.schema_text.proofs.clauses.clauses_from.Goals as goal

pub loop-found-preserved : goal.loop-found-preserved
loop-found-preserved c =
    let text = c.args.text.now in
    let ts = c.args.tokens.now in
    let at = c.loop-found.at in
    let found = c.in-Some.found in
    let fits = c.in-Some.ensures.within in
    let reach : at + found.length ≤ length ts = grind (arith, common_steps, fits, c.later.ensures, c.loop-found.invariant.within) in
    let next : at < at + found.length = omega (arith, fits.0) in
    let is_clause : IsClauseAt text ts c.loop-found.place at (record { rule = found.rule; from = at; to = at + found.length }) =
    record { begins = refl; length = found.length; ends = refl; is_found = rw (sym c.later.ensures) (sym c.in-Some.ensures.value) } in
    record {
      within = reach;
      shallow = omega (arith, c.after_rule-place.ensures.shallow, c.loop-found.invariant.shallow, fits.0);
      so_far = rw (c.in_ok-push.ensures.items, c.after_rule-place.ensures.value) (one_more text ts First c.args.from c.loop-found.clauses.items at c.loop-found.place (record { rule = found.rule; from = at; to = at + found.length }) c.loop-found.invariant.so_far next is_clause);
    }
