use Rattle.std.proofs.Common.{arith, ℕ, ◌≤◌, List, length}
use Rattle.std.proofs.lemmas.Result.{err_from_is_err_and}
use Rattle.sqval.specs.Datum.{Datum}
use Rattle.sqval.specs.Record.{Refused, IsRecord, most_bytes}
use Rattle.sqval.specs.declared.error.RecordError.{RecordError}
use Rattle.sqval.specs.declared.error.RecordError.TheVariants.{HeaderSize, BodyCut, TrailingBytes}
use Rattle.sqval.proofs.payload.UniquenessOfReading.{refused_exactly, refused_not, reads_of, behind_refused, body_cut, trailing, whole, whole_only, whole_not}
use Rattle.sqval.proofs.record.Record.new.Goals as goal

-- nothing is read where the bytes are refused
not_read : (error : RecordError) (bytes : List ℕ) → Refused error bytes → (values : List Datum)
    → (⊥ → (length bytes ≤ most_bytes) × IsRecord values bytes) × ((length bytes ≤ most_bytes) × IsRecord values bytes → ⊥)
not_read error bytes refused values = ((λ none. absurd none), λ r. refused_not error values bytes refused r.0 r.1)

no_header : (c : goal.In_default) → Refused HeaderSize c.args.bytes.now
no_header c = (c.if-bytes-gt-MOST_BYTES.false, c.in_default.ensures)

pub returns-in_default-clause-read : goal.returns-in_default-clause-read
returns-in_default-clause-read c = not_read HeaderSize c.args.bytes.now (no_header c)

pub returns-in_default-clause-refused : goal.returns-in_default-clause-refused
returns-in_default-clause-refused c = refused_exactly HeaderSize c.args.bytes.now (no_header c)

bad_types : (c : goal.After-from_residual) → Refused c.in_err-count.field-0.0 c.args.bytes.now
bad_types c =
    let fails = c.in_err-count.ensures.err in
    behind_refused c.in_err-count.field-0.0 c.args.bytes.now c.if-bytes-gt-MOST_BYTES.false
    (fails.0, fails.1, c.in-Some.bodies.now, reads_of fails.0 fails.1 c.in-Some.types.now c.in-Some.bodies.now c.args.bytes.now c.in-Some.ensures fails.2, fails.3 c.in-Some.bodies.now)

pub returns-in_err-count-clause-read : goal.returns-in_err-count-clause-read
returns-in_err-count-clause-read c =
    let p = err_from_is_err_and c.from_residual.result c.from_residual.ensures.1 in
    rw p.1 (not_read p.0 c.args.bytes.now (rw p.2 (bad_types c)))

pub returns-in_err-count-clause-refused : goal.returns-in_err-count-clause-refused
returns-in_err-count-clause-refused c =
    let p = err_from_is_err_and c.from_residual.result c.from_residual.ensures.1 in
    rw p.1 (refused_exactly p.0 c.args.bytes.now (rw p.2 (bad_types c)))

pub returns-then-size-bodies-clause-read : goal.returns-then-size-bodies-clause-read
returns-then-size-bodies-clause-read c =
    not_read BodyCut c.args.bytes.now (body_cut _ _ _ _ _ c.in-Some.ensures c.in_ok-count.ensures.ok c.if-bytes-gt-MOST_BYTES.false c.if-size-bodies.true)

pub returns-then-size-bodies-clause-refused : goal.returns-then-size-bodies-clause-refused
returns-then-size-bodies-clause-refused c =
    refused_exactly BodyCut c.args.bytes.now (body_cut _ _ _ _ _ c.in-Some.ensures c.in_ok-count.ensures.ok c.if-bytes-gt-MOST_BYTES.false c.if-size-bodies.true)

pub returns-then-size-bodies-2-clause-read : goal.returns-then-size-bodies-2-clause-read
returns-then-size-bodies-2-clause-read c =
    not_read TrailingBytes c.args.bytes.now (trailing _ _ _ _ _ c.in-Some.ensures c.in_ok-count.ensures.ok c.if-bytes-gt-MOST_BYTES.false c.if-size-bodies-2.true)

pub returns-then-size-bodies-2-clause-refused : goal.returns-then-size-bodies-2-clause-refused
returns-then-size-bodies-2-clause-refused c =
    refused_exactly TrailingBytes c.args.bytes.now (trailing _ _ _ _ _ c.in-Some.ensures c.in_ok-count.ensures.ok c.if-bytes-gt-MOST_BYTES.false c.if-size-bodies-2.true)

pub invariant_of-result : goal.invariant_of-result
invariant_of-result c =
    let w = whole c.in-Some.types.now c.in-Some.bodies.now c.args.bytes.now c.in_ok-count.count c.in_ok-count.size c.in-Some.ensures c.in_ok-count.ensures.ok c.if-bytes-gt-MOST_BYTES.false (omega arith) in
    (w.counted, omega (arith, w.sized))

pub returns-clause-read : goal.returns-clause-read
returns-clause-read c =
    whole_only c.in-Some.types.now c.in-Some.bodies.now c.args.bytes.now c.in_ok-count.count
    (whole _ _ _ _ c.in_ok-count.size c.in-Some.ensures c.in_ok-count.ensures.ok c.if-bytes-gt-MOST_BYTES.false (omega arith))
    c.if-bytes-gt-MOST_BYTES.false

pub returns-clause-refused : goal.returns-clause-refused
returns-clause-refused c =
    let w = whole c.in-Some.types.now c.in-Some.bodies.now c.args.bytes.now c.in_ok-count.count c.in_ok-count.size c.in-Some.ensures c.in_ok-count.ensures.ok c.if-bytes-gt-MOST_BYTES.false (omega arith) in
    λ error. ((λ e. (cc)), λ refused. absurd (whole_not error _ _ _ _ w c.if-bytes-gt-MOST_BYTES.false refused))
