use Rattle.std.proofs.Common.{◌≡◌, ℤ, refl, sym, subst, w64, to_z, of_z}
use Rattle.std.specs.Prelude.{Result, Ok, Err, OnOk, IfErr}
use Rattle.std.proofs.lemmas.Int.{to_z-of_z}
use Rattle.sqlite_record.specs.Record.{decode}
use Rattle.sqkeys.specs.declared.key.IndexKey.{IndexKey}
use Rattle.sqindex.specs.declared.error.IndexError.{IndexError}
use Rattle.sqindex.specs.declared.span.Span.{Span}
use Rattle.sqindex.specs.Keys.{IsKeyed}
use Rattle.sqindex.specs.Rules.{width}
use Rattle.sqindex.specs.internal.Parts.{CutRefused}
use Rattle.sqindex.specs.internal.Spans.{GoesOn}
use Rattle.sqindex.proofs.part.gather.Goals as goal

on_ok : {A B : Type 0} (r : Result (Unit {0}) IndexError) → OnOk r A → (A → B) → OnOk r B
on_ok (Ok x) h f = f h
on_ok (Err e) h f = tt

if_err : {P Q : IndexError → Type 0} (r : Result (Unit {0}) IndexError) → IfErr r P → ((e : IndexError) → P e → Q e) → IfErr r Q
if_err (Ok x) h f = tt
if_err (Err e) h f = f e h

pub returns-clause-ok : goal.returns-clause-ok
returns-clause-ok c =
    let number : to_z w64 (of_z w64 c.args.rowid) ≡ c.args.rowid = to_z-of_z w64 c.args.rowid c.ranges.rowid in
    let cuts = c.in_ok-make_room.ensures.ok in
    on_ok c.take_in.result c.take_in.ensures.ok (λ takes. (
      subst (λ (s : Span). GoesOn c.args.part.now.span s) (sym takes.0) cuts.0,
      λ (key : IndexKey) seen keyed w. takes.1 key seen (subst (λ (r : ℤ). IsKeyed (width key) r (decode c.args.entry.now)) (sym number) keyed) (cuts.1 key seen w),
    ))

pub returns-clause-err : goal.returns-clause-err
returns-clause-err c =
    if_err c.take_in.result c.take_in.ensures.err (λ e is. subst (CutRefused c.args.part.now) (sym is) (λ key each. refl))
