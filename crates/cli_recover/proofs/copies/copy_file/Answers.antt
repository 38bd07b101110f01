use Rattle.std.proofs.Common.{◌≡◌, ℕ, ◌+◌, ◌≤◌, List, ◌++◌, length, take, drop, refl, sym, ◌∙◌, ap, subst, arith}
use Rattle.std.proofs.lemmas.List.{take_all, take_at}
use Rattle.std.proofs.Math.Seq.{take-add}
use Rattle.std.proofs.KnownBytes.{Appends-nil, Appends-trans}
use Rattle.std.specs.Io.KnownBytes.{Appends}
use Rattle.sqview.specs.Laid.{part_or_zeros}
use Rattle.sqview.proofs.file.FileHeads.{part_is}
use Rattle.cli_recover.proofs.copies.copy_file.Goals as goal

pub loop-at-init : goal.loop-at-init
loop-at-init g c = record {
  room = omega (arith, c.in_ok-piece.ensures.len, c.in_ok-piece.piece.ok.0);
  within = omega arith;
  all = c.len-end.ensures.count;
  right = λ right. right;
  same = refl;
  written = λ right. Appends-nil (g.W.Write.contents c.args.out.now);
}

pub copy_part-requires : goal.copy_part-requires
copy_part-requires g c = omega (arith, c.min-count.ensures, ap length c.deref_mut.ensures.value, c.loop-at.invariant.room)

pub loop-at-preserved : goal.loop-at-preserved
loop-at-preserved g c =
    let contents = g.W.Write.contents in
    let bytes_of = g.F.FileBytes.bytes in
    let bytes = bytes_of c.args.file.now in
    let was = c.loop-at.invariant in
    let at = c.loop-at.at in
    let count = c.min-count.result in
    let items = c.loop-at.piece.items in
    let out = c.copy_part.new.room in
    let long : length out ≡ length items = omega (arith, ap length c.deref_mut.ensures.value) in
    let held : length out ≡ c.loop-at.piece.len = omega (arith, long, c.loop-at.piece.ok.0) in
    let kept : take c.loop-at.piece.len (out ++ drop (length out) items) ≡ out = take_at out (drop (length out) items) c.loop-at.piece.len held in
    record {
      room = ap length kept ∙ long ∙ was.room;
      within = omega (arith, c.min-count.ensures, was.within, c.loop-at-test.true);
      all = was.all;
      right = λ right. c.copy_part.ensures.still_right (was.right right);
      same = c.copy_part.ensures.same ∙ was.same;
      written = λ right.
          let within : at + count ≤ length bytes = omega (arith, c.min-count.ensures, was.within, c.loop-at-test.true, was.all right) in
          let is : part_or_zeros count at (bytes_of c.loop-at.file) ≡ take count (drop at bytes) =
          ap (λ (l : List ℕ). part_or_zeros count at l) was.same ∙ part_is count at bytes within in
          let more : take at bytes ++ part_or_zeros count at (bytes_of c.loop-at.file) ≡ take (at + count) bytes =
          ap (λ (l : List ℕ). take at bytes ++ l) is ∙ sym (take-add at count bytes) in
          subst (λ (l : List ℕ). Appends (contents c.args.out.now) (contents c.copy_part.new.out) l) more
          (Appends-trans (contents c.args.out.now) (contents c.loop-at.out) (contents c.copy_part.new.out) (take at bytes) (part_or_zeros count at (bytes_of c.loop-at.file))
          (was.written right) (c.in_ok-copy_part.ensures.copied (was.right right)));
    }

pub returns : goal.returns
returns g c = λ right.
    let bytes = g.F.FileBytes.bytes c.args.file.now in
    let end : c.loop-at.at ≡ length bytes = omega (arith, c.loop-at.invariant.within, c.loop-at-test.false, c.loop-at.invariant.all right) in
    subst (λ (l : List ℕ). Appends (g.W.Write.contents c.args.out.now) (g.W.Write.contents c.loop-at.out) l) (take_all c.loop-at.at bytes (omega (arith, end))) (c.loop-at.invariant.written right)
