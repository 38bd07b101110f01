-- Changes that are told one by one.
use Rattle.std.proofs.Common.{◌≡◌, ◌↔◌, ℕ, true, false, List, [], ◌∷◌, ◌++◌, Option, Bor, refl, sym, ap, ◌∙◌, subst, append_assoc, append-nil}
use Rattle.std.specs.Io.KnownBytes.{Appends}
use Rattle.std.proofs.KnownBytes.{Appends-nil, Appends-trans}
use Rattle.sqval.specs.Database.{Database}
use Rattle.cli_show_rows.specs.declared.stop.Stop.{Stop}
use Rattle.cli_show_rows.specs.declared.stop.Stop.TheVariants.{Fault, Record, TooLong, NotUnderstood, Default, Behind, Encoding, NotNamed, LeftOut, NoSuchTable, NoMemory, Write}
use Rattle.cli_show_rows.specs.Stops.{WrittenUntil}
use Rattle.sqdiff.specs.Changes.{Change}
use Rattle.cli_show_diff.specs.Sorted.{HasChangesBy}
use Rattle.cli_show_diff.specs.internal.TableDiffs.{ChangesLeft}
use Rattle.cli_show_diff.specs.declared.table_diff.TableDiff.{TableDiff}
use Rattle.cli_change_text.specs.declared.style.Style.{Style}
use Rattle.cli_change_text.specs.Changes.{IsChangeText}
use Rattle.cli_change_text.specs.Refusals.{IsKept}
use Rattle.cli_show_diff.specs.Told.{AreChangeTexts, AreBothTold, start_of}
use Rattle.cli_show_diff.specs.Stops.{AreBothToldUntil}
use Rattle.cli_show_diff.specs.internal.Walks.{AreWritten, NextRefused, TellsNext, before_next}

pub texts_snoc : (style : Style) (cs : List Change) (c : Change) (t own : List ℕ) → AreChangeTexts style cs t
    → IsChangeText style.encoding style.writing style.head.now style.columns.now style.leads style.key c own → AreChangeTexts style (cs ++ c ∷ []) (t ++ own)
texts_snoc style [] c t own are is = (own, [], is, refl, ap (λ z. z ++ own) are ∙ sym (append-nil own))
texts_snoc style (x ∷ cs) c t own are is =
    (are.0, are.1 ++ own, are.2, texts_snoc style cs c are.1 own are.3 is, ap (λ z. z ++ own) are.4 ∙ append_assoc are.0 are.1 own)

-- what stands before the first one is written once
pub start_more : (style : Style) (b : List ℕ) (cs : List Change) (c : Change) (t own : List ℕ) → AreChangeTexts style cs t
    → start_of b (cs ++ c ∷ []) ++ (t ++ own) ≡ (start_of b cs ++ t) ++ (before_next b cs ++ own)
start_more style b [] c t own are = ap (λ z. b ++ (z ++ own)) are ∙ sym (ap (λ z. z ++ (b ++ own)) are)
start_more style b (x ∷ cs) c t own are = sym (append_assoc b t own)

pub next_none : (b : List ℕ) (cs : List Change) (c : Change) → before_next b (cs ++ c ∷ []) ≡ []
next_none b [] c = refl
next_none b (x ∷ cs) c = refl

pub written_until : (stop : Stop) (before mid after : Option (List ℕ)) (t : List ℕ) → Appends before mid t → IsKept stop mid after → WrittenUntil stop before after t
written_until (Fault e) before mid after t appended kept = subst (λ o. Appends before o t) kept appended
written_until (Record e) before mid after t appended kept = subst (λ o. Appends before o t) kept appended
written_until TooLong before mid after t appended kept = subst (λ o. Appends before o t) kept appended
written_until NotUnderstood before mid after t appended kept = subst (λ o. Appends before o t) kept appended
written_until Default before mid after t appended kept = subst (λ o. Appends before o t) kept appended
written_until Behind before mid after t appended kept = subst (λ o. Appends before o t) kept appended
written_until Encoding before mid after t appended kept = subst (λ o. Appends before o t) kept appended
written_until NoSuchTable before mid after t appended kept = subst (λ o. Appends before o t) kept appended
written_until NotNamed before mid after t appended kept = subst (λ o. Appends before o t) kept appended
written_until (LeftOut n) before mid after t appended kept = subst (λ o. Appends before o t) kept appended
written_until NoMemory before mid after t appended kept = subst (λ o. Appends before o t) kept appended
written_until (Write e) before mid after t appended kept = tt

pub kept_same : (stop : Stop) (out : Option (List ℕ)) → IsKept stop out out
kept_same (Fault e) out = refl
kept_same (Record e) out = refl
kept_same TooLong out = refl
kept_same NotUnderstood out = refl
kept_same Default out = refl
kept_same Behind out = refl
kept_same Encoding out = refl
kept_same NoSuchTable out = refl
kept_same NotNamed out = refl
kept_same (LeftOut n) out = refl
kept_same NoMemory out = refl
kept_same (Write e) out = tt

module _ (d : Database) (old_root : ℕ) (e : Database) (new_root : ℕ) (style : Style) where
  pub none_written : (diff : TableDiff) (out : Option (List ℕ)) → ((cs : List Change) → HasChangesBy style.key d old_root e new_root cs ↔ ChangesLeft d e diff cs)
      → AreWritten d old_root e new_root style style.before.now diff out out
  none_written diff out all = record {
    cs = [];
    texts = [];
    told = refl;
    nexts = refl;
    appended = Appends-nil out;
    all_of = λ rest left. (all rest).1 left;
    first_of = λ cs has. (cs, refl, (all cs).0 has);
  }

  pub one_written : (b : Bor (List ℕ)) (old new : TableDiff) (before mid after : Option (List ℕ))
      → AreWritten d old_root e new_root style b.now old before mid
      → TellsNext d e true (record style { before = b }) old new mid after
      → AreWritten d old_root e new_root style [] new before after
  one_written b old new before mid after w next =
      let c = next.0 in
      let own = next.2.0 in
      let text : next.1 ≡ before_next style.before.now w.cs ++ own = next.2.2 ∙ ap (λ z. z ++ own) w.nexts in
      let more = subst (Appends mid after) text next.3 in
      let all = Appends-trans before mid after (start_of style.before.now w.cs ++ w.texts) (before_next style.before.now w.cs ++ own) w.appended more in
      record {
        cs = w.cs ++ c ∷ [];
        texts = w.texts ++ own;
        told = texts_snoc style w.cs c w.texts own w.told next.2.1;
        nexts = sym (next_none style.before.now w.cs c);
        appended = subst (Appends before after) (sym (start_more style style.before.now w.cs c w.texts own w.told)) all;
        all_of = λ rest left. subst (HasChangesBy style.key d old_root e new_root) (sym (append_assoc w.cs (c ∷ []) rest)) (w.all_of (c ∷ rest) (next.4 rest left));
        first_of = λ cs has.
            let a = w.first_of cs has in
            let n = next.5 a.0 a.2 in
            (n.0, a.1 ∙ ap (λ z. w.cs ++ z) n.1 ∙ sym (append_assoc w.cs (c ∷ []) n.0), n.2);
      }

  pub all_written : (next : List ℕ) (b : Bor (List ℕ)) (old new : TableDiff) (before mid after : Option (List ℕ))
      → AreWritten d old_root e new_root style next old before mid → TellsNext d e false (record style { before = b }) old new mid after
      → (t : List ℕ) × AreBothTold d old_root e new_root style t × Appends before after t
  all_written next b old new before mid after w ended = (
    start_of style.before.now w.cs ++ w.texts,
    (w.cs, subst (HasChangesBy style.key d old_root e new_root) (append-nil w.cs) (w.all_of [] ended.0), (w.texts, w.told, refl)),
    subst (λ o. Appends before o (start_of style.before.now w.cs ++ w.texts)) ended.1 w.appended,
  )

  pub told_until : (next : List ℕ) (diff : TableDiff) (stop : Stop) (before mid after : Option (List ℕ))
      → AreWritten d old_root e new_root style next diff before mid → NextRefused d e style.writing style.key style.columns.now diff stop → IsKept stop mid after
      → AreBothToldUntil d old_root e new_root style stop before after
  told_until next diff stop before mid after w refused kept = (
    w.cs,
    start_of style.before.now w.cs ++ w.texts,
    (w.texts, w.told, refl),
    written_until stop before mid after (start_of style.before.now w.cs ++ w.texts) w.appended kept,
    λ all has. let a = w.first_of all has in (a.0, a.1, refused a.0 a.2),
  )
