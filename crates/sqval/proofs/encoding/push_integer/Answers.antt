use Rattle.std.proofs.Common.{◌≡◌, ◌∙◌, ap, arith, ℕ, ◌-◌, ◌≤◌, ◌++◌, take, drop, of_z, to_z, w64, SFits, to_z-of_z}
use Rattle.std.specs.Prelude.{is_ok, if◌then◌else◌}
use Rattle.std.specs.Int.{bytes_high_first}
use Rattle.byteorder.proofs.Bytes.{between-bytes_high_first}
use Rattle.sqval.specs.Datum.{integer}
use Rattle.sqval.specs.Shortest.{integer_serial}
use Rattle.sqval.specs.internal.Shortest.{IsShortestBody}
use Rattle.sqval.specs.Serial.{body_size}
use Rattle.sqval.proofs.payload.TwosComplementIntegers.{integer_body, integer_narrow}
use Rattle.sqval.proofs.payload.ShortestRecord.{appended}
use Rattle.sqval.proofs.encoding.push_integer.Goals as goal

pub returns-clause-appended : goal.returns-clause-appended
returns-clause-appended c =
    let size : ℕ = c.body_size_of-size.result in
    let fits : SFits w64 c.args.number = c.ranges.number in
    let same : to_z w64 (of_z w64 c.args.number) ≡ c.args.number = to_z-of_z fits in
    let is : size ≡ body_size (integer_serial c.args.number) =
    c.body_size_of-size.ensures ∙ ap body_size (c.serial_of_integer.ensures ∙ ap integer_serial same) in
    let few : size ≤ 8 = omega (arith, integer_narrow c.args.number) in
    let part = between-bytes_high_first 8 size (of_z w64 c.args.number) few in
    let whole : c.to_be_bytes.result ≡ bytes_high_first 8 (of_z w64 c.args.number) =
    c.to_be_bytes.ensures ∙ ap (λ z. bytes_high_first 8 (of_z w64 z)) same in
    let more = ap (λ xs. take (8 - (8 - size)) (drop (8 - size) xs)) whole ∙ part ∙ ap (λ k. bytes_high_first k (of_z w64 c.args.number)) is in
    appended c.extend_from_slice.result c.args.out.now.items c.extend_from_slice.new.self.items _ (IsShortestBody (integer c.args.number))
    (c.extend_from_slice.ensures.items ∙ ap (λ m. if is_ok c.extend_from_slice.result then c.args.out.now.items ++ m else c.args.out.now.items) more)
    (integer_body c.args.number c.ranges.number)
