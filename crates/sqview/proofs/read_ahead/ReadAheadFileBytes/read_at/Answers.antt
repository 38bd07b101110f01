use Rattle.std.proofs.Common.{◌≡◌, ℕ, ◌+◌, ◌-◌, List, length, take, drop, sym, ◌∙◌, ap, subst, refl, arith}
use Rattle.sqview.specs.Laid.{part_or_zeros}
use Rattle.sqview.specs.internal.Laid.{HoldsPart}
use Rattle.sqview.specs.declared.read_ahead.ReadAhead.{ReadAhead}
use Rattle.sqview.proofs.file.HeldPartOfFile.{held_part}
use Rattle.sqview.proofs.read_ahead.ReadAheadFileBytes.read_at.Goals as goal
use Rattle.sqview.proofs.read_ahead.ReadAheadFileBytes.read_at.Goals.{then-follows+then-out-len+then-is_none, else-follows}

-- what is held is of the same file
abbrev Holds : {F : Type 0} → (bytes : F → List ℕ) → (old now : ReadAhead F) → Type 0
Holds bytes old now = HoldsPart (bytes now.file) now.from now.held now.piece.items × (bytes now.file ≡ bytes old.file)

at_now : {F : Type 0} (bytes : F → List ℕ) (old s t : ReadAhead F) → s ≡ t → Holds bytes old t → Holds bytes old s
at_now {F = F} bytes old s t e holds = subst (λ (x : ReadAhead F). Holds bytes old x) (sym e) holds

pub returns-in-Some-clause-read : goal.returns-in-Some-clause-read
returns-in-Some-clause-read g c = λ right.
    let bytes = g.F.FileBytes.bytes in
    let old = c.args.self.now in
    let s = c.if-follows.self in
    let now = elim c.if-follows.branch as (λ _. Holds bytes old s) [
      | then-follows+then-out-len+then-is_none w ↦ at_now bytes old s _ w.self-is (w.fill.ensures.holds right.0, w.fill.ensures.same)
      | else-follows w ↦ at_now bytes old s _ w.self-is (right.1, refl)
    ] in
    c.copy_from_slice.ensures.after ∙ ap (λ (l : List ℕ). take (c.in-Some.place + length c.args.out.now - c.in-Some.place) (drop c.in-Some.place l)) c.deref.ensures.value
    ∙ held_part (bytes s.file) s.piece.items s.from s.held c.in-Some.place (length c.args.out.now) c.args.at (c.in-Some.place + length c.args.out.now - c.in-Some.place) now.0 c.in-Some.ensures.0 c.in-Some.ensures.1 s.within (omega arith)
    ∙ ap (λ (l : List ℕ). part_or_zeros (length c.args.out.now) c.args.at l) now.1
