use Rattle.std.proofs.Common.{◌∙◌, ap, ◌++◌, append_assoc}
use Rattle.std.specs.Prelude.{map}
use Rattle.sqval.specs.Datum.{datum_of}
use Rattle.sqval.proofs.payload.ShortestRecord.{begins_still, whole_record}
use Rattle.sqval.proofs.encoding.append.Goals as goal

pub returns-in_err-push_types-clause-begins : goal.returns-in_err-push_types-clause-begins
returns-in_err-push_types-clause-begins c =
    let head = c.in_ok-push_varint.ensures.appended in
    begins_still c.args.out.now.items head.0 c.push_varint.new.out.items c.push_types.new.out.items head.3 c.push_types.ensures.begins

pub returns-clause-appended : goal.returns-clause-appended
returns-clause-appended c =
    let head = c.in_ok-push_varint.ensures.appended in
    let front = c.in_ok-push_types.ensures.appended in
    let size = c.requires.size in
    whole_record c.push_bodies.result (map datum_of c.args.values.now) c.args.header size.0 head.0 front.0 c.args.out.now.items c.push_varint.new.out.items
    c.push_types.new.out.items c.push_bodies.new.out.items size.1 size.2 head.1 head.2 head.3 front.1 front.2 front.3 c.push_bodies.ensures.appended

pub returns-clause-begins : goal.returns-clause-begins
returns-clause-begins c =
    let head = c.in_ok-push_varint.ensures.appended in
    let front = c.in_ok-push_types.ensures.appended in
    let whole = front.3 ∙ ap (λ xs. xs ++ front.0) head.3 ∙ append_assoc c.args.out.now.items head.0 front.0 in
    begins_still c.args.out.now.items (head.0 ++ front.0) c.push_types.new.out.items c.push_bodies.new.out.items whole c.push_bodies.ensures.begins
