use Rattle.std.proofs.Common.{◌≡◌, inl, ℕ, ◌-◌, ◌<◌, List, length, take, map, ◌∙◌, ap, subst, arith}
use Rattle.std.proofs.lemmas.List.{length-map}
use Rattle.crashdisk.specs.Call.{DiskState}
use Rattle.crashdisk.specs.Model.{state_of}
use Rattle.crashdisk.specs.declared.model.ModelDisk.{ModelDisk}
use Rattle.rig_play.specs.Files.{IsWritten}
use Rattle.rig_play.specs.Names.{name_of, IsUncut, TakesBelow}
use Rattle.rig_play.proofs.UncutFiles.{uncut_more, take_least}
use Rattle.rig_play.proofs.name.Name.write_uncut.Goals as goal

pub loop-k-preserved : goal.loop-k-preserved
loop-k-preserved c =
    let f : ModelDisk → DiskState = λ d. state_of d in
    let name = c.args.self.now in
    let at = c.args.at in
    let bytes = c.args.bytes.now in
    let now = c.loop-k.self in
    let k = c.loop-k.k in
    let all : length (map f name.files.items) ≡ length name.files.items = length-map name.files.items f in
    let still : length (map f now.files.items) ≡ length now.files.items = length-map now.files.items f in
    let uncut : IsUncut (name_of name) k =
    (omega (arith, c.loop-k.auto.k), omega (arith, all, name.files.ok, c.loop-k-test.true, c.saturating_sub-k-end.ensures, c.len.ensures)) in
    let below : at < name.below = omega (arith, c.if-at-self.false) in
    let slice : take c.min-count.result bytes ≡ take (name.below - at) bytes = ap (λ (n : ℕ). take n bytes) c.min-count.ensures ∙ take_least (name.below - at) bytes in
    let goes = subst (λ (l : List ℕ). IsWritten at l c.args.fails (state_of c.index_mut.result.now) (state_of c.write_file.new.disk)) slice c.in_ok-write_file.ensures.does in
    uncut_more (TakesBelow name.below at bytes c.args.fails) (name_of name) now.files.items now.made now.below now.maybe_none now.gone k c.index_mut.result.now c.write_file.new.disk
    c.loop-k.invariant uncut (omega (arith, uncut.1, all, still, c.loop-k.invariant.count)) c.index_mut.ensures.value (inl (below, goes))
