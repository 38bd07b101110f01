use Rattle.std.proofs.Common.{◌≡◌, inl, ℕ, ◌<◌, ◌++◌, List, length, get_or, map, sym, ◌∙◌, ap, subst, arith}
use Rattle.std.proofs.lemmas.List.{get_or-map, length-map}
use Rattle.std.proofs.lemmas.Result.{MatchResult-weaker}
use Rattle.std.specs.List.{Contains}
use Rattle.crashdisk.specs.Call.{DiskState}
use Rattle.crashdisk.specs.Model.{state_of}
use Rattle.crashdisk.specs.State.{IsImage}
use Rattle.crashdisk.specs.declared.model.ModelDisk.{ModelDisk}
use Rattle.rig_play.specs.Names.{name_of}
use Rattle.rig_images.specs.Ways.{held_files}
use Rattle.rig_images.proofs.draws.put_draw.Goals as goal

-- a disk of a list is one of the states of its disks
contains_state : (xs : List ModelDisk) (files : List DiskState) (i : ℕ) (x : ModelDisk) → map (λ d. state_of d) xs ≡ files → i < length xs → x ≡ get_or xs i x → Contains files (state_of x)
contains_state xs files i x same less is =
    let f : ModelDisk → DiskState = λ d. state_of d in
    let at : get_or (map f xs) i (state_of x) ≡ state_of x = get_or-map f xs i x (state_of x) less ∙ ap f (sym is) in
    subst (λ (l : List DiskState). Contains l (state_of x)) same (i, omega (arith, length-map xs f), at)

pub returns-in_ok-choice-in-Some : goal.returns-in_ok-choice-in-Some
returns-in_ok-choice-in-Some g c =
    let at = c.in-Some.ensures.lookup in
    let x = c.in-Some.disk.now in
    let s = state_of x in
    let has = contains_state c.held_files-files.result.now (held_files (name_of c.args.name.now) c.args.holds) c.below.result x c.held_files-files.ensures at.3.0 at.1 in
    MatchResult-weaker c.append_image.result c.append_image.ensures (λ done h.
    let is : c.append_image.new.out.items ≡ h.0 = h.1 ∙ ap (λ (l : List ℕ). l ++ h.0) c.clear.ensures.items in
    inl (s, has, subst (λ (bytes : List ℕ). IsImage s.sector s.tears s.db bytes) (sym is) h.2.left)) (λ e no. no)
