use Rattle.std.proofs.Common.{◌≡◌, ◌-◌, ◌<◌, ℕ, arith, drop, length, refl, subst, suc, sym, true}
use Rattle.cli_schema_text.specs.Names.{are_distinct}
use Rattle.cli_schema_text.proofs.NamesSeen.{none_seen, seen_step, seen_twice}
use Rattle.cli_schema_text.proofs.names.are_distinct.Goals as goal

pub names-init : goal.names-init
names-init c =
    let none = none_seen c.no_names-seen.result c.args.names.now (length c.args.names.now) refl c.no_names-seen.ensures in
    record { within = omega arith; has = none.0; distinct = none.1 }

pub names-preserved : goal.names-preserved
names-preserved c =
    let names = c.args.names.now in
    let left = c.names.left in
    let n = c.index-names-i.result in
    let so_far = c.names.invariant in
    let within : left - 1 < length names = omega (arith, c.names-test.true, so_far.within) in
    let back : suc (left - 1) ≡ left = omega (arith, c.names-test.true) in
    let step = seen_step names (left - 1) left n c.as_slice.result.now c.names.seen c.add_name.new.seen c.in_ok-add_name.field-0 back within c.index-names-i.is c.as_slice.ensures.value
    so_far.has c.in_ok-add_name.ensures.fresh c.if-not-branch.false so_far.distinct c.in_ok-add_name.ensures.held in
    record { within = omega (arith, so_far.within); has = step.0; distinct = step.1 }

pub returns-then-not-branch : goal.returns-then-not-branch
returns-then-not-branch c =
    let names = c.args.names.now in
    let left = c.names.left in
    let n = c.index-names-i.result in
    let so_far = c.names.invariant in
    let within : left - 1 < length names = omega (arith, c.names-test.true, so_far.within) in
    let back : suc (left - 1) ≡ left = omega (arith, c.names-test.true) in
    sym (seen_twice names (left - 1) left n c.as_slice.result.now c.names.seen c.add_name.new.seen c.in_ok-add_name.field-0 back within c.index-names-i.is c.as_slice.ensures.value
    so_far.has c.in_ok-add_name.ensures.fresh c.if-not-branch.true)

pub returns : goal.returns
returns c =
    let none : c.names.left ≡ 0 = omega (arith, c.names-test.false) in
    sym (subst (λ (k : ℕ). are_distinct (drop k c.args.names.now) ≡ true) none c.names.invariant.distinct)
