use Rattle.std.proofs.Common.{◌≡◌, ◌≢◌, ◌⊎◌, inl, inr, sym, ap, subst, refl, arith, ℕ, ◌+◌, ◌<◌, ◌≤◌, List, [], length, drop, sum_by, false, true, length-drop, length-take}
use Rattle.std.specs.Prelude.{◌==◌}
use Rattle.std.proofs.lemmas.Bool.{eqb-false, eqb-true}
use Rattle.std.proofs.lemmas.List.{nil_from_length}
use Rattle.sqval.specs.Varint.{Begins}
use Rattle.sqval.specs.Serial.{IsInternal, body_size}
use Rattle.sqval.specs.Shortest.{varint_size}
use Rattle.sqval.proofs.payload.UniquenessOfReading.{leads_once}
use Rattle.sqval.specs.Record.{Lead}
use Rattle.sqdeleted.proofs.BeginsOfRecords.{measured_next, none_ends, none_lead, cut_ends, internal_ends, some_lead, nothing_leads, too_large, too_long}
use Rattle.sqdeleted.proofs.header.are_types.Goals as goal

not_empty : (rest : List ℕ) → false ≡ (length rest == 0) → rest ≢ []
not_empty rest e none = eqb-false (length rest) 0 (sym e) (ap length none)

empty : (rest : List ℕ) → true ≡ (length rest == 0) → rest ≡ []
empty rest e = nil_from_length rest (eqb-true (length rest) 0 (sym e))

internal : (serial : ℕ) → (serial ≡ 10) ⊎ ((serial ≡ 10 → ⊥) × (serial ≡ 11)) → IsInternal serial
internal serial e = elim e [ inl ten ↦ inl ten | inr eleven ↦ inr eleven.1 ]

outer : (serial : ℕ) → IsInternal serial → (serial ≡ 10 → ⊥) → (serial ≡ 11 → ⊥) → ⊥
outer serial inner ten eleven = elim inner [ inl e ↦ ten e | inr e ↦ eleven e ]

shorter : (rest next : List ℕ) (serial taken : ℕ) → Begins serial taken rest → next ≡ drop taken rest → length next < length rest
shorter rest next serial taken begins e =
    omega (arith, begins.front.at_least_one, begins.within, length-take taken rest, length-drop taken rest, ap length e)

pub serials-init : goal.serials-init
serials-init c = record { serials = []; lead = refl; sized = omega arith; least = omega arith }

pub returns-then-is_empty-clause-not : goal.returns-then-is_empty-clause-not
returns-then-is_empty-clause-not c = λ e serials some lead.
    absurd (nothing_leads serials some (subst (λ (b : List ℕ). Lead serials b []) (empty c.args.types.now c.if-is_empty.ensures) lead))

pub returns-in_default-clause-not : goal.returns-in_default-clause-not
returns-in_default-clause-not c = λ e serials some lead.
    absurd (none_lead c.serials.invariant.serials serials c.args.types.now c.serials.rest.now c.serials.invariant.lead
    (cut_ends c.serials.rest.now (c.in_default.ensures.none.0 refl)) (not_empty c.serials.rest.now c.serials-test.ensures) lead)

pub returns-then-serial-eq10-clause-not : goal.returns-then-serial-eq10-clause-not
returns-then-serial-eq10-clause-not c = λ e serials some lead.
    absurd (none_lead c.serials.invariant.serials serials c.args.types.now c.serials.rest.now c.serials.invariant.lead
    (internal_ends c.serials.rest.now c.in-Some.serial c.in-Some.taken ((c.in-Some.ensures.found _ _).0 refl) (internal c.in-Some.serial c.then-serial-eq10.either))
    (not_empty c.serials.rest.now c.serials-test.ensures) lead)

pub returns-then-left-body-clause-not : goal.returns-then-left-body-clause-not
returns-then-left-body-clause-not c = λ e serials some lead sized.
    let begins : Begins c.in-Some.serial c.in-Some.taken c.serials.rest.now = (c.in-Some.ensures.found _ _).0 refl in
    let large : c.serials.left < body_size c.in-Some.serial = rw (← c.body_size_of-body.ensures) c.if-left-body.true in
    absurd (too_large c.args.types.now c.serials.rest.now serials c.args.size c.serials.left c.in-Some.serial c.in-Some.taken c.serials.invariant begins lead large sized)

pub returns-then-least-taken-clause-not : goal.returns-then-least-taken-clause-not
returns-then-least-taken-clause-not c = λ e serials some lead sized.
    let begins : Begins c.in-Some.serial c.in-Some.taken c.serials.rest.now = (c.in-Some.ensures.found _ _).0 refl in
    let long : varint_size c.in-Some.serial < c.in-Some.taken = rw (← c.least_size-least.ensures) c.if-least-taken.true in
    too_long c.args.types.now c.serials.rest.now serials c.args.size c.serials.left c.in-Some.serial c.in-Some.taken c.serials.invariant begins lead long

pub split_at-requires : goal.split_at-requires
split_at-requires c = ((c.in-Some.ensures.found _ _).0 refl).within

pub serials-smaller : goal.serials-smaller
serials-smaller c =
    let begins : Begins c.in-Some.serial c.in-Some.taken c.serials.rest.now = (c.in-Some.ensures.found _ _).0 refl in
    shorter c.serials.rest.now c.split_at.result.1.now c.in-Some.serial c.in-Some.taken begins c.split_at.ensures.back

pub serials-preserved : goal.serials-preserved
serials-preserved c =
    let begins : Begins c.in-Some.serial c.in-Some.taken c.serials.rest.now = (c.in-Some.ensures.found _ _).0 refl in
    let fits : body_size c.in-Some.serial ≤ c.serials.left = rw (← c.body_size_of-body.ensures) c.if-left-body.false in
    let short : c.in-Some.taken ≤ varint_size c.in-Some.serial = rw (← c.least_size-least.ensures) c.if-least-taken.false in
    rw (c.split_at.ensures.back, c.body_size_of-body.ensures)
    (measured_next c.args.types.now c.serials.rest.now c.args.size c.serials.left c.in-Some.serial c.in-Some.taken c.serials.invariant begins
    (λ inner. outer c.in-Some.serial inner c.if-serial-eq10.false c.if-serial-eq11.false) fits short)

pub returns-clause-yes : goal.returns-clause-yes
returns-clause-yes c = λ e.
    let m = c.serials.invariant in
    let end : c.serials.rest.now ≡ [] = empty c.serials.rest.now c.serials-test.ensures in
    let lead : Lead m.serials c.args.types.now [] = subst (λ (b : List ℕ). Lead m.serials c.args.types.now b) end m.lead in
    let none : c.serials.left ≡ 0 = eqb-true c.serials.left 0 e in
    let sized : sum_by body_size m.serials + c.serials.left ≡ c.args.size = m.sized in
    let least : sum_by varint_size m.serials + length c.serials.rest.now ≡ length c.args.types.now = m.least in
    (m.serials, some_lead m.serials c.args.types.now (not_empty c.args.types.now c.if-is_empty.ensures) lead, lead, omega (arith, sized, none), omega (arith, least, ap length end))

pub returns-clause-not : goal.returns-clause-not
returns-clause-not c = λ e serials some lead sized.
    let m = c.serials.invariant in
    let end : c.serials.rest.now ≡ [] = empty c.serials.rest.now c.serials-test.ensures in
    let own : Lead m.serials c.args.types.now [] = subst (λ (b : List ℕ). Lead m.serials c.args.types.now b) end m.lead in
    let same : m.serials ≡ serials = (leads_once m.serials serials c.args.types.now [] [] own lead none_ends none_ends).0 in
    let sum : sum_by body_size m.serials ≡ sum_by body_size serials = ap (λ (l : List ℕ). sum_by body_size l) same in
    let whole : sum_by body_size m.serials + c.serials.left ≡ c.args.size = m.sized in
    absurd (eqb-false c.serials.left 0 e (omega (arith, whole, sum, sized)))
