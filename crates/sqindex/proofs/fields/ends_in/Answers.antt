use Rattle.std.proofs.Common.{◌≡◌, ◌<◌, ℕ, ⊎_elim, Some, None, drop, slice_get, sym, ap, subst, ◌∙◌, ℤ, rules, FitsSigned, w64, to_z, of_z, arith}
use Rattle.std.proofs.lemmas.Int.{to_z-of_z}
use Rattle.sqlite_record.specs.Record.{decode}
use Rattle.sqlite_record.specs.Fields.{fields_left}
use Rattle.sqlite_value.specs.Value.{owned}
use Rattle.sqlite_value.specs.declared.value.Value.{Value}
use Rattle.sqlite_value.specs.declared.value.Value.TheVariants.{Int}
use Rattle.sqindex.specs.Keys.{IsKeyed}
use Rattle.sqindex.proofs.FieldsLeft.{front_of, rest_of, too_short, too_long, just_long, keyed_by}
use Rattle.sqindex.proofs.fields.ends_in.Goals as goal

pub fields-preserved : goal.fields-preserved
fields-preserved c =
    let xs = decode c.args.entry.now in
    let i = c.fields.i in
    let v = owned c.in-Some.value in
    let left = c.fields.invariant.left ∙ c.in-Some.ensures.steps in
    record {
      left = rest_of xs i v (fields_left c.next.new.self) left;
      led = λ n is. ⊎_elim
          (λ (new : (i ≡ 0) × (v ≡ Int n)). (omega arith, subst (λ (k : ℕ). slice_get xs k ≡ Some v) new.0 (front_of xs i v (fields_left c.next.new.self) left) ∙ ap (λ (z : Value). Some z) new.1))
          (λ (old : (0 < i) × (c.fields.first ≡ Some n)). (omega arith, (c.fields.invariant.led n old.1).1))
          (c.first_in-first.ensures n is);
    }

pub returns-in_default : goal.returns-in_default
returns-in_default c = λ rowid keyed.
    let less = c.fields-test.true in
    too_short (decode c.args.entry.now) c.fields.i c.args.columns rowid (c.fields.invariant.left ∙ c.in_default.ensures.steps.0) (omega (arith, less)) keyed

pub returns-in_default-next : goal.returns-in_default-next
returns-in_default-next c = λ rowid keyed.
    let few = c.fields.auto.i-end in
    too_short (decode c.args.entry.now) c.fields.i c.args.columns rowid (c.fields.invariant.left ∙ c.in_default-next.ensures.steps.0) few keyed

pub returns-then-is_some : goal.returns-then-is_some
returns-then-is_some c = λ rowid keyed.
    let xs = decode c.args.entry.now in
    let a = c.fields-test.false in
    let b = c.fields.auto.i-end in
    let same : c.fields.i ≡ c.args.columns = omega (arith, a, b) in
    let left = subst (λ (n : ℕ). drop n xs ≡ fields_left c.fields.fields) same c.fields.invariant.left ∙ c.in-Some-next.ensures.steps in
    too_long c.next-2.new.self c.next-3.new.self c.next-3.result xs c.args.columns rowid (rest_of xs c.args.columns (owned c.in-Some-next.last) (fields_left c.next-2.new.self) left)
    c.next-3.ensures.steps (sym c.is_some.ensures ∙ c.if-is_some.true) keyed

pub returns-in-None : goal.returns-in-None
returns-in-None c =
    let xs = decode c.args.entry.now in
    let a = c.fields-test.false in
    let b = c.fields.auto.i-end in
    let same : c.fields.i ≡ c.args.columns = omega (arith, a, b) in
    let left = subst (λ (n : ℕ). drop n xs ≡ fields_left c.fields.fields) same c.fields.invariant.left ∙ c.in-Some-next.ensures.steps in
    let v = owned c.in-Some-next.last in
    keyed_by xs c.args.columns v None (front_of xs c.args.columns v (fields_left c.next-2.new.self) left)
    (just_long c.next-2.new.self c.next-3.new.self c.next-3.result xs c.args.columns (rest_of xs c.args.columns v (fields_left c.next-2.new.self) left) c.next-3.ensures.steps (sym c.is_some.ensures ∙ c.if-is_some.false))
    c.in-None.ensures

pub returns-in-Some-integer : goal.returns-in-Some-integer
returns-in-Some-integer c =
    let xs = decode c.args.entry.now in
    let a = c.fields-test.false in
    let b = c.fields.auto.i-end in
    let same : c.fields.i ≡ c.args.columns = omega (arith, a, b) in
    let left = subst (λ (n : ℕ). drop n xs ≡ fields_left c.fields.fields) same c.fields.invariant.left ∙ c.in-Some-next.ensures.steps in
    let v = owned c.in-Some-next.last in
    let keyed = keyed_by xs c.args.columns v (Some c.in-Some-integer.rowid) (front_of xs c.args.columns v (fields_left c.next-2.new.self) left)
    (just_long c.next-2.new.self c.next-3.new.self c.next-3.result xs c.args.columns (rest_of xs c.args.columns v (fields_left c.next-2.new.self) left) c.next-3.ensures.steps (sym c.is_some.ensures ∙ c.if-is_some.false))
    c.in-Some-integer.ensures in
    let fits : FitsSigned w64 c.in-Some-integer.rowid = search rules in
    let number : to_z w64 (of_z w64 c.in-Some-integer.rowid) ≡ c.in-Some-integer.rowid = to_z-of_z w64 c.in-Some-integer.rowid fits in
    record { keyed = subst (λ (r : ℤ). IsKeyed c.args.columns r xs) (sym number) keyed; led = λ n is. subst (λ (k : ℕ). (0 < k) × (slice_get xs 0 ≡ Some (Int n))) same (c.fields.invariant.led n is) }
