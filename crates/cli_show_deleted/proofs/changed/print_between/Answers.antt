use Rattle.std.proofs.Common.{◌≡◌, ◌∙◌, ℕ, List, [], refl, rules, sym, subst}
use Rattle.std.proofs.KnownBytes.{Appends-nil}
use Rattle.std.proofs.lemmas.Result.{on_ok_weaker}
use Rattle.std.specs.Cmp.Lexicographic.{bytes_decides}
use Rattle.sqcheck.specs.declared.role.Role.{Role}
use Rattle.cli_show_deleted.specs.Changes.{AreChangesOf}
use Rattle.cli_show_deleted.specs.declared.candidate.Candidate.{Candidate}
use Rattle.cli_show_deleted.specs.internal.Candidates.{AreCandidatesOf, AreChangesAmong, AreSound}
use Rattle.cli_show_deleted.proofs.CellsCollected.{changes_of, none_changed, sound}
use Rattle.cli_show_deleted.proofs.changed.print_between.Goals as goal

pub returns-then-eq-2-clause-ok : goal.returns-then-eq-2-clause-ok
returns-then-eq-2-clause-ok g c =
    let was = c.args.was.now in
    let is = c.args.is.now in
    let role : was.role ≡ is.role = search rules in
    let used : was.used.items ≡ is.used.items = sym c.as_slice.ensures.value ∙ (bytes_decides _ _).0 (sym c.if-eq-2.ensures) ∙ c.as_slice-then-eq.ensures.value in
    let same = subst (λ (u : List ℕ). AreChangesOf (record { role = was.role; used = was.used.items }) (record { role = was.role; used = u }) c.args.number []) used
    (none_changed (record { role = was.role; used = was.used.items }) c.args.number) in
    ([], [], subst (λ (r : Role). AreChangesOf (record { role = was.role; used = was.used.items }) (record { role = r; used = is.used.items }) c.args.number []) role same, refl, Appends-nil (g.W.Write.contents c.args.out.now))

pub returns-in-Ok-candidates_in-clause-ok : goal.returns-in-Ok-candidates_in-clause-ok
returns-in-Ok-candidates_in-clause-ok g c =
    let was = c.args.was.now in
    let is = c.args.is.now in
    let number = c.args.number in
    let xs = c.in-Ok.cells.items in
    let ys = c.in-Ok-candidates_in.new.items in
    let old : AreCandidatesOf was.role was.used.items number xs = subst (λ (u : List ℕ). AreCandidatesOf was.role u number xs) c.deref.ensures.value c.in-Ok.ensures.ok in
    let new : AreCandidatesOf is.role is.used.items number ys = subst (λ (u : List ℕ). AreCandidatesOf is.role u number ys) c.deref-2.ensures.value c.in-Ok-candidates_in.ensures.ok in
    let first = c.deref-in-Ok-candidates_in.ensures.value in
    let second = c.deref-in-Ok-candidates_in-2.ensures.value in
    on_ok_weaker c.print_turns.result
    (λ w. (
      w.0,
      w.1,
      changes_of was.role was.used.items is.role is.used.items number xs ys w.0 old new
          (subst (λ (l : List Candidate). AreChangesAmong xs l w.0) second
          (subst (λ (l : List Candidate). AreChangesAmong l c.deref-in-Ok-candidates_in-2.result.now w.0) first w.2)),
      w.3,
      w.4,
    ))
    (c.print_turns.ensures.ok (subst AreSound (sym first) (sound was.role was.used.items number xs old)) (subst AreSound (sym second) (sound is.role is.used.items number ys new)))
