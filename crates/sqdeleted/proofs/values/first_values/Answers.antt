use Rattle.std.proofs.Common.{◌≡◌, ◌∙◌, ℕ, ◌<◌, ◌≤◌, List, [], ◌∷◌, ◌++◌, length, take, drop, ap, refl, sym, subst, arith, length-drop, length-take}
use Rattle.std.proofs.lemmas.List.{map-append}
use Rattle.sqval.specs.Varint.{Begins}
use Rattle.sqval.specs.Datum.{Datum, datum_of, row_of}
use Rattle.sqval.specs.Serial.{body_size, held}
use Rattle.sqval.specs.declared.value.Value.{Value}
use Rattle.sqdeleted.proofs.FirstValues.{Standing, standing_none, standing_next, first_all, first_cut}
use Rattle.sqdeleted.proofs.values.first_values.Goals as goal

pub columns-init : goal.columns-init
columns-init c = λ serials lead.
    subst (λ (l : List Value). Standing c.args.types.now c.args.bodies.now c.args.types.now c.args.bodies.now (row_of l)) (sym c.new-values.ensures.items)
    (standing_none c.args.types.now c.args.bodies.now serials lead)

pub returns-then-size-left : goal.returns-then-size-left
returns-then-size-left c = λ serials lead.
    let begins : Begins c.in-Some.serial c.in-Some.taken c.columns.rest.now = (c.in-Some.ensures.found _ _).0 refl in
    let cut : length c.columns.left.now < body_size c.in-Some.serial = rw (← c.body_size_of-size.ensures) c.if-size-left.true in
    first_cut c.args.types.now c.args.bodies.now c.columns.rest.now c.columns.left.now (row_of c.columns.values.items) c.in-Some.serial c.in-Some.taken (c.columns.invariant serials lead) begins cut

pub split_at-requires-in-Some : goal.split_at-requires-in-Some
split_at-requires-in-Some c = ((c.in-Some.ensures.found _ _).0 refl).within

shorter : (rest next : List ℕ) (serial taken : ℕ) → Begins serial taken rest → next ≡ drop taken rest → length next < length rest
shorter rest next serial taken begins e =
    omega (arith, begins.front.at_least_one, begins.within, length-take taken rest, length-drop taken rest, ap length e)

pub columns-smaller : goal.columns-smaller
columns-smaller c =
    let begins : Begins c.in-Some.serial c.in-Some.taken c.columns.rest.now = (c.in-Some.ensures.found _ _).0 refl in
    shorter c.columns.rest.now c.split_at-in-Some.result.1.now c.in-Some.serial c.in-Some.taken begins c.split_at-in-Some.ensures.back

-- the row with one value more
row_more : (values : List Value) (value : Value) (serial : ℕ) (body front : List ℕ) → datum_of value ≡ held serial body → body ≡ front
    → row_of (values ++ value ∷ []) ≡ row_of values ++ held serial front ∷ []
row_more values value serial body front is same =
    map-append datum_of values (value ∷ []) ∙ ap (λ (d : Datum). row_of values ++ d ∷ []) (is ∙ ap (λ (b : List ℕ). held serial b) same)

pub columns-preserved : goal.columns-preserved
columns-preserved c = λ serials lead.
    let types = c.args.types.now in
    let bodies = c.args.bodies.now in
    let values = c.columns.values.items in
    let serial = c.in-Some.serial in
    let rest = c.columns.rest.now in
    let left = c.columns.left.now in
    let begins : Begins serial c.in-Some.taken rest = (c.in-Some.ensures.found _ _).0 refl in
    let size : c.body_size_of-size.result ≡ body_size serial = c.body_size_of-size.ensures in
    let fits : body_size serial ≤ length left = rw (← size) c.if-size-left.false in
    let next = standing_next types bodies rest left (row_of values) serial c.in-Some.taken (c.columns.invariant serials lead) begins fits in
    let front : c.split_at.result.0.now ≡ take (body_size serial) left = rw (← size) c.split_at.ensures.front in
    let back : c.split_at.result.1.now ≡ drop (body_size serial) left = rw (← size) c.split_at.ensures.back in
    let row = row_more values c.value_of.result serial c.split_at.result.0.now (take (body_size serial) left) c.value_of.ensures front in
    let pushed : c.push.new.self.items ≡ values ++ c.value_of.result ∷ [] = c.in_ok-push.ensures.items in
    let items : row_of c.push.new.self.items ≡ row_of values ++ held serial (take (body_size serial) left) ∷ [] = ap (λ (l : List Value). row_of l) pushed ∙ row in
    rw (items, back, c.split_at-in-Some.ensures.back) next

pub returns : goal.returns
returns c = λ serials lead.
    first_all c.args.types.now c.args.bodies.now c.columns.rest.now c.columns.left.now (row_of c.columns.values.items) (c.columns.invariant serials lead) (c.in_default.ensures.none.0 refl)
