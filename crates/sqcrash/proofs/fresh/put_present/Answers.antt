use Rattle.std.proofs.Common.{◌≡◌, ◌++◌, List, ℕ, sym, ◌∙◌, ap, subst}
use Rattle.rig_play.specs.Names.{name_of, file_now, ArePresentOf}
use Rattle.sqcrash.proofs.WatchedFiles.{looked_of}
use Rattle.sqcrash.proofs.fresh.put_present.Goals as goal

pub returns : goal.returns
returns c =
    let is = c.in_ok-append_present.ensures in
    let name = name_of c.args.name.now in
    let same : c.append_present.new.out.items ≡ is.0 = is.1 ∙ ap (λ (l : List ℕ). l ++ is.0) c.clear.ensures.items in
    looked_of name c.append_present.new.out.items (subst (λ (l : List ℕ). ArePresentOf (file_now name) l) (sym same) is.2)
