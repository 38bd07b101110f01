use Rattle.std.proofs.Common.{◌≡◌, ◌≢◌, ◌⊎◌, inl, inr, sym, ap, refl, arith, ℕ, ◌+◌, ◌-◌, ◌^◌, ◌<◌, ◌≤◌, List, [], ◌∷◌, ◌++◌, length, drop, min, false, length-drop, length-take}
use Rattle.std.specs.Prelude.{◌==◌}
use Rattle.std.proofs.lemmas.List.{length_push}
use Rattle.std.proofs.lemmas.List.Sums.{sum_by_push}
use Rattle.std.proofs.lemmas.Bool.{eqb-false}
use Rattle.sqval.specs.Varint.{Begins}
use Rattle.sqval.specs.Serial.{body_size, IsInternal}
use Rattle.sqval.proofs.payload.UniquenessOfReading.{lead_next}
use Rattle.sqval.proofs.record.measure.Invariants.{Measured}
use Rattle.sqval.proofs.record.measure.Goals as goal

not_empty : (rest : List ℕ) → false ≡ (length rest == 0) → rest ≢ []
not_empty rest e none = eqb-false (length rest) 0 (sym e) (ap length none)

measured_next : (types rest : List ℕ) (count size serial taken : ℕ) → Measured types rest count size → Begins serial taken rest → ¬ IsInternal serial
    → Measured types (drop taken rest) (count + 1) (min (size + body_size serial) (2 ^ 64 - 1))
measured_next types rest count size serial taken m begins outer =
    let some : 1 ≤ taken = omega (arith, begins.front.at_least_one, length-take taken rest) in
    record {
      serials = m.serials ++ serial ∷ [];
      lead = lead_next m.serials types rest serial taken m.lead begins outer;
      counted = omega (arith, m.counted, length_push m.serials serial);
      few = omega (arith, m.few, begins.within, length-drop taken rest);
      sized = omega (arith, m.sized, sum_by_push body_size m.serials serial);
    }

internal : (serial : ℕ) → (serial ≡ 10) ⊎ ((serial ≡ 10 → ⊥) × (serial ≡ 11)) → IsInternal serial
internal serial e = elim e [ inl ten ↦ inl ten | inr eleven ↦ inr eleven.1 ]

outer : (serial : ℕ) → IsInternal serial → (serial ≡ 10 → ⊥) → (serial ≡ 11 → ⊥) → ⊥
outer serial inner ten eleven = elim inner [ inl e ↦ ten e | inr e ↦ eleven e ]

shorter : (rest next : List ℕ) (serial taken : ℕ) → Begins serial taken rest → next ≡ drop taken rest → length next < length rest
shorter rest next serial taken begins e =
    omega (arith, begins.front.at_least_one, begins.within, length-take taken rest, length-drop taken rest, ap length e)

pub returns-in_default-clause-err : goal.returns-in_default-clause-err
returns-in_default-clause-err c = (
  c.loop-rest.invariant.serials,
  c.loop-rest.rest.now,
  c.loop-rest.invariant.lead,
  λ bodies. (not_empty c.loop-rest.rest.now c.loop-rest-test.ensures, c.in_default.ensures.none.0 refl),
)

pub returns-then-serial-eq10-clause-err : goal.returns-then-serial-eq10-clause-err
returns-then-serial-eq10-clause-err c = (
  c.loop-rest.invariant.serials,
  c.loop-rest.rest.now,
  c.loop-rest.invariant.lead,
  λ bodies. (c.in-Some.serial, c.in-Some.taken, (c.in-Some.ensures.found _ _).0 refl, internal c.in-Some.serial c.then-serial-eq10.either),
)

pub split_at-requires : goal.split_at-requires
split_at-requires c = ((c.in-Some.ensures.found _ _).0 refl).within

pub loop-rest-smaller : goal.loop-rest-smaller
loop-rest-smaller c =
    let begins : Begins c.in-Some.serial c.in-Some.taken c.loop-rest.rest.now = (c.in-Some.ensures.found _ _).0 refl in
    shorter c.loop-rest.rest.now c.split_at.result.1.now c.in-Some.serial c.in-Some.taken begins c.split_at.ensures.back

pub loop-rest-preserved : goal.loop-rest-preserved
loop-rest-preserved c =
    let begins : Begins c.in-Some.serial c.in-Some.taken c.loop-rest.rest.now = (c.in-Some.ensures.found _ _).0 refl in
    rw (c.split_at.ensures.back, c.saturating_add-size.ensures, c.body_size_of.ensures)
    (measured_next c.args.types.now c.loop-rest.rest.now c.loop-rest.count c.loop-rest.size c.in-Some.serial c.in-Some.taken c.loop-rest.invariant begins
    (λ inner. outer c.in-Some.serial inner c.if-serial-eq10.false c.if-serial-eq11.false))
