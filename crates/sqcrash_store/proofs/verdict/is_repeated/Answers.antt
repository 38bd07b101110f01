use Rattle.std.proofs.Common.{◌≡◌, List, ℕ, sym, subst, rules}
use Rattle.std.specs.String.{string_bytes}
use Rattle.sqcrash_store.specs.Verdicts.{IsNamed, NoOther}
use Rattle.sqcrash_store.proofs.verdict.is_repeated.Goals as goal

pub returns-in-Some : goal.returns-in-Some
returns-in-Some c =
    let before = c.args.before.now in
    let name = string_bytes c.args.last.now.line in
    let same : c.as_str.result.now ≡ name = c.as_str.ensures.value in
    let again : c.as_str-in-Some.result.now ≡ name = c.as_str-in-Some.ensures.value in (
      λ so. record {
        sound = search (rules, c.if-not-last.false);
        other = c.in-Some.field-0;
        same = subst (λ (l : List ℕ). IsNamed before l c.in-Some.field-0) same c.in-Some.ensures.named;
        none = subst (λ (l : List ℕ). NoOther before l) again (c.have_no_other.ensures.0 so);
      },
      λ is. c.have_no_other.ensures.1 (subst (λ (l : List ℕ). NoOther before l) (sym again) is.none),
    )
