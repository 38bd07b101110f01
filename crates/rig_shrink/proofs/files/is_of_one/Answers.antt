use Rattle.std.proofs.Common.{◌≡◌, map, true, false, refl, sym, ◌∙◌, arith}
use Rattle.crashdisk.specs.Call.{DiskState}
use Rattle.crashdisk.specs.Model.{state_of}
use Rattle.crashdisk.specs.State.{IsImage}
use Rattle.crashdisk.specs.declared.model.ModelDisk.{ModelDisk}
use Rattle.rig_shrink.proofs.Searches.{none_more, none_of, none_mapped, mapped}
use Rattle.rig_shrink.proofs.files.is_of_one.Goals as goal

pub loop-i-init : goal.loop-i-init
loop-i-init c = λ m x less within at. absurd (omega arith)

pub returns-then-found : goal.returns-then-found
returns-then-found c =
    let files = c.args.files.now in
    let d = c.index-files-i.result in
    let state : ModelDisk → DiskState = λ x. state_of x in
    (λ yes. (state d, mapped state files (map state files) c.loop-i.i d refl c.loop-i-test.true (sym c.index-files-i.is), c.in_ok-found.ensures.0 c.if-found.true), λ has. refl)

pub loop-i-preserved : goal.loop-i-preserved
loop-i-preserved c =
    let bytes = c.args.bytes.now in
    none_more (λ (d : ModelDisk). IsImage (state_of d).sector (state_of d).tears (state_of d).db bytes) c.args.files.now c.loop-i.i c.index-files-i.result (sym c.index-files-i.is) c.loop-i.invariant
    (λ is. let no : true ≡ false = sym (c.in_ok-found.ensures.1 is) ∙ c.if-found.false in absurd (cc no))

pub returns : goal.returns
returns c =
    let files = c.args.files.now in
    let bytes = c.args.bytes.now in
    let state : ModelDisk → DiskState = λ x. state_of x in
    let none = none_of (λ (d : ModelDisk). IsImage (state_of d).sector (state_of d).tears (state_of d).db bytes) files c.loop-i.i c.loop-i-test.false c.loop-i.invariant in (
      λ no. absurd (cc no),
      λ is. absurd (none_mapped state (λ (f : DiskState). IsImage f.sector f.tears f.db bytes) files (map state files) refl none is.0 is.1 is.2),
    )
