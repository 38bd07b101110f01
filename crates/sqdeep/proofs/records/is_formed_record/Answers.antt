use Rattle.std.proofs.Common.{◌≡◌, ◌-◌, ℕ, List, length, take, drop, subst, refl, arith, length-drop}
use Rattle.std.proofs.lemmas.List.{take_all}
use Rattle.sqval.specs.Record.{HasHeader}
use Rattle.sqdeep.specs.internal.Columns.{AreFormedColumns}
use Rattle.sqdeep.proofs.FormedColumns.{formed_record}
use Rattle.sqdeep.proofs.records.is_formed_record.Goals as goal

pub returns : goal.returns
returns c = λ is.
    let bytes = c.args.bytes.now in
    let header : ℕ = c.in-Some.header in
    let size : ℕ = c.in-Some.size in
    let a = c.if-header-size.false in
    let b = c.if-header-bytes.false in
    let has : HasHeader header size bytes = record { begins = (c.in-Some.ensures.found _ _).0 refl; counts_itself = omega (arith, a); within = omega (arith, b) } in
    let head : List ℕ = c.split_at.result.0.now in
    let behind : List ℕ = c.split_at.result.1.now in
    let whole : take (length head - size) (drop size head) ≡ drop size head = take_all (length head - size) (drop size head) (omega (arith, length-drop size head)) in
    let formed : AreFormedColumns c.args.encoding (drop size head) behind = subst (λ (l : List ℕ). AreFormedColumns c.args.encoding l behind) whole (c.are_formed.ensures is) in
    formed_record c.args.encoding bytes header size has
    (subst (λ (l : List ℕ). AreFormedColumns c.args.encoding (drop size l) (drop header bytes)) c.split_at.ensures.front
    (subst (λ (l : List ℕ). AreFormedColumns c.args.encoding (drop size head) l) c.split_at.ensures.back formed))
