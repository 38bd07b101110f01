use Rattle.std.proofs.Common.{◌≡◌, ◌≢◌, ℕ, ℤ, Option, Some, None, is_some, true, false, refl, sym, subst, ◌∙◌, length, arith, rules, FitsSigned, w64, to_z, of_z}
use Rattle.std.proofs.lemmas.Int.{to_z-of_z}
use Rattle.std.proofs.lemmas.Grind.{common_steps}
use Rattle.sqlite_record.specs.Record.{decode}
use Rattle.sqindex.specs.Keys.{IsKeyed}
use Rattle.sqindex.proofs.part.rowid_of.Goals as goal

none_of : (o : Option ℤ) → is_some o ≡ false → o ≡ None
none_of None e = refl
none_of (Some r) e = absurd (cc)

some_of : (o : Option ℤ) → is_some o ≡ true → o ≢ None
some_of None e is = cc
some_of (Some r) e is = cc

pub returns-then-is_some-clause-err : goal.returns-then-is_some-clause-err
returns-then-is_some-clause-err c = some_of c.args.found.rowid (sym c.is_some.ensures ∙ c.if-is_some.true)

pub returns-in-None-clause-err : goal.returns-in-None-clause-err
returns-in-None-clause-err c =
    let same : c.len.result ≡ length c.args.key.now.columns.items = grind (arith, common_steps) in
    (refl, refl, refl, λ rowid. subst (λ (n : ℕ). ¬ IsKeyed n rowid (decode c.args.entry.now)) same (c.in-None.ensures rowid))

pub returns-in-Some-clause-ok : goal.returns-in-Some-clause-ok
returns-in-Some-clause-ok c =
    let same : c.len.result ≡ length c.args.key.now.columns.items = grind (arith, common_steps) in
    let fits : FitsSigned w64 c.in-Some.ends.rowid = search rules in
    let number : to_z w64 (of_z w64 c.in-Some.ends.rowid) ≡ c.in-Some.ends.rowid = to_z-of_z w64 c.in-Some.ends.rowid fits in
    let keyed = subst (λ (n : ℕ). IsKeyed n c.in-Some.ends.rowid (decode c.args.entry.now)) same c.in-Some.ensures.keyed in (
      none_of c.args.found.rowid (sym c.is_some.ensures ∙ c.if-is_some.false),
      subst (λ (r : ℤ). IsKeyed (length c.args.key.now.columns.items) r (decode c.args.entry.now)) (sym number) keyed,
    )
