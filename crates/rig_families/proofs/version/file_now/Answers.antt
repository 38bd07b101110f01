use Rattle.std.proofs.Common.{◌≡◌, ℕ, ◌-◌, Bool, false, cond, List, [], length, map, Option, Some, None, sym, ◌∙◌, ap}
use Rattle.std.specs.Prelude.{slice_get}
use Rattle.std.specs.Option.{option_map}
use Rattle.std.proofs.lemmas.List.{length-map}
use Rattle.std.proofs.lemmas.Option.{slice_get-map}
use Rattle.crashdisk.specs.Call.{DiskState}
use Rattle.crashdisk.specs.Model.{state_of}
use Rattle.crashdisk.specs.declared.model.ModelDisk.{ModelDisk}
use Rattle.rig_play.specs.Names.{NameState, name_of}
use Rattle.rig_families.specs.Versions.{FileNamed, file_version, name_version, numbers_of}
use Rattle.rig_families.proofs.version.file_now.Goals as goal

-- the file that has the name now
last_file : (s : NameState) (xs : List ModelDisk) (o : Option ModelDisk) → map (λ d. state_of d) xs ≡ s.files → s.gone ≡ false → o ≡ slice_get xs (length xs - 1)
    → file_version (length xs - 1) (option_map (λ d. state_of d) o) ≡ name_version s
last_file s xs o same there last =
    let f : ModelDisk → DiskState = λ d. state_of d in
    let long : length s.files ≡ length xs = ap (λ (l : List DiskState). length l) (sym same) ∙ length-map xs f in
    let found : option_map f o ≡ slice_get s.files (length s.files - 1) =
    ap (λ (x : Option ModelDisk). option_map f x) last ∙ sym (slice_get-map f xs (length xs - 1)) ∙ ap (λ (l : List DiskState). slice_get l (length xs - 1)) same
    ∙ ap (λ (n : ℕ). slice_get s.files (n - 1)) (sym long) in
    ap (λ (x : Option DiskState). file_version (length xs - 1) x) found ∙ ap (λ (n : ℕ). file_version (n - 1) (slice_get s.files (length s.files - 1))) (sym long)
    ∙ ap (λ (b : Bool). file_version (length s.files - 1) (cond b None (slice_get s.files (length s.files - 1)))) (sym there)

pub returns-then-is_gone : goal.returns-then-is_gone
returns-then-is_gone c =
    let s = name_of c.args.name.now in
    ap (λ (b : Bool). file_version (length s.files - 1) (cond b None (slice_get s.files (length s.files - 1)))) c.if-is_gone.ensures

pub returns-in_default : goal.returns-in_default
returns-in_default c = last_file (name_of c.args.name.now) c.files-files.result.now None c.files-files.ensures (sym c.if-is_gone.ensures) c.in_default.ensures.value

pub returns : goal.returns
returns c =
    let disk = c.in-Some.disk.now in
    let f = state_of disk in
    let xs = c.files-files.result.now in
    let is = last_file (name_of c.args.name.now) xs (Some disk) c.files-files.ensures (sym c.if-is_gone.ensures) c.in-Some.ensures.value in
    let Of : List ℕ → List (ℕ × List ℕ) → ℕ → Option FileNamed = λ pick torn len.
    Some (record { file = length xs - 1; naming = record { pick = pick; torn = torn; newest = false; len = Some len } }) in
    ap (λ (p : List ℕ). Of p (map (λ entry. (entry.0, entry.1.items)) c.new.result.items) c.present_len.result) c.in_ok-pick.ensures
    ∙ ap (λ (l : List (ℕ × List ℕ)). Of (numbers_of f) l c.present_len.result) (ap (λ l. map (λ entry. (entry.0, entry.1.items)) l) c.new.ensures.items)
    ∙ ap (λ (n : ℕ). Of (numbers_of f) [] n) c.present_len.ensures ∙ is
