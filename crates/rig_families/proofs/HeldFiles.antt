-- A file that a name may hold.
use Rattle.std.proofs.Common.{◌≡◌, ℕ, ◌+◌, get_or, drop, ◌∙◌, ap, arith}
use Rattle.std.proofs.lemmas.List.{length-take, length-drop, get_or-take, get_or-drop}
use Rattle.std.specs.List.{Contains}
use Rattle.crashdisk.specs.Call.{DiskState}
use Rattle.rig_play.specs.Names.{NameState}
use Rattle.rig_play.specs.declared.meta.Holds.{Holds}
use Rattle.rig_play.specs.declared.meta.Holds.TheVariants.{Any, Nothing, File}
use Rattle.rig_images.specs.Ways.{held_files}
use Rattle.rig_families.specs.Versions.{IsFileOf}

pub file_held : (s : NameState) (holds : Holds) (n : ℕ) (f : DiskState) → IsFileOf s holds n f → Contains (held_files s holds) f
file_held s Any n f is = (n, is.within, is.is)
file_held s Nothing n f is = absurd is.holds_it
file_held s (File i) n f is =
    let same : i + 0 ≡ n = omega (arith, is.holds_it) in
    let at = get_or-take 1 (drop i s.files) 0 f (omega arith) ∙ get_or-drop i s.files 0 f ∙ ap (λ (k : ℕ). get_or s.files k f) same ∙ is.is in
    (0, omega (arith, length-take 1 (drop i s.files), length-drop i s.files, is.within, is.holds_it), at)
