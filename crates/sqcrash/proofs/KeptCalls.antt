-- Records that are played, and whose calls are kept.
use Rattle.std.proofs.Common.{◌≡◌, ℕ, ◌+◌, Option, Some, None, List, length, sym, ◌∙◌, ap, subst}
use Rattle.rig_play.specs.Plays.{Files, Step}
use Rattle.rig_play.specs.Trace.{bytes_of}
use Rattle.rig_play.specs.declared.trace.Record.{Record}
use Rattle.rig_images.specs.Left.{IsPresent}
use Rattle.rig_images.specs.declared.image.Image.{Image}
use Rattle.rig_missing.specs.Changes.{ChangeAnswer}
use Rattle.rig_missing.specs.Missing.{file_in}
use Rattle.rig_missing.specs.declared.change.Change.{Change}
use Rattle.rig_missing.specs.declared.playing.Playing.{Playing}
use Rattle.sqcrash.specs.Runs.{RunState, with_change, KeepsBy, Goes}
use Rattle.sqcrash.specs.Goings.{GoesKept, GoesPlain}

-- a call is kept
pub goes_kept : (sector : ℕ) (b : List ℕ) (r : Record) (s t u v : RunState) (n : ℕ) (playing : Playing) (was now : Image) (change : Option Change) → n ≡ s.played + 1 → t ≡ s
    → Step b r t.files u.files → u ≡ record t { files = u.files } → v ≡ record u { kept = with_change u.kept change } → playing.number ≡ n → playing.count ≡ length (bytes_of b r) → IsPresent s.files was
    → playing.was ≡ length (file_in r.subject was) → IsPresent u.files now → ChangeAnswer sector r playing (file_in r.subject now) change → GoesKept sector b r s (record v { played = n })
goes_kept sector b r s t u v n playing was now change number same step moved kept is_number is_count was_present was_long now_present is_change =
    let all = with_change u.kept change in
    let Make : Files → ℕ → List Change → RunState = λ f m l. record s { files = f; played = m; kept = l } in
    let u_is : u ≡ record s { files = u.files } = moved ∙ ap (λ (x : RunState). record x { files = u.files }) same in
    let v_is : v ≡ record s { files = u.files; kept = all } = kept ∙ ap (λ (x : RunState). record x { kept = all }) u_is in
    let whole : record v { played = n } ≡ Make u.files n all = ap (λ (x : RunState). record x { played = n }) v_is in
    let files : v.files ≡ u.files = ap (λ (x : RunState). x.files) v_is in
    let list : v.kept ≡ all = ap (λ (x : RunState). x.kept) v_is in
    let before : u.kept ≡ s.kept = ap (λ (x : RunState). x.kept) u_is in
    record {
      step = subst (λ (f : Files). Step b r s.files f) (sym files) (subst (λ (x : RunState). Step b r x.files u.files) same step);
      keeps = record {
        playing = playing;
        number = is_number ∙ number;
        count = is_count;
        was = was;
        was_present = was_present;
        was_long = was_long;
        now = now;
        is_present = subst (λ (f : Files). IsPresent f now) (sym files) now_present;
        change = change;
        is_change = is_change;
        kept = list ∙ ap (λ (l : List Change). with_change l change) before;
      };
      rest = whole
          ∙ ap (λ (f : Files). Make f n all) (sym files)
          ∙ ap (λ (m : ℕ). Make v.files m all) number
          ∙ ap (λ (l : List Change). Make v.files (s.played + 1) l) (sym list);
    }

-- none is
pub goes_plain : (b : List ℕ) (r : Record) (s u : RunState) (n : ℕ) → n ≡ s.played + 1 → Step b r s.files u.files → u ≡ record s { files = u.files } → GoesPlain b r s (record u { played = n })
goes_plain b r s u n number step moved = record {
  step = step;
  rest = ap (λ (x : RunState). record x { played = n }) moved ∙ ap (λ (m : ℕ). record s { files = u.files; played = m }) number;
}

-- by whether it is to be told which calls aren't down
pub goes_why : (sector : ℕ) (b : List ℕ) (r : Record) (s t : RunState) → s.why ≡ Some sector → GoesKept sector b r s t → Goes b r s t
goes_why sector b r s t why goes = record {
  step = goes.step;
  keeps = subst (λ (o : Option ℕ). KeepsBy o (s.played + 1) b r s.files t.files s.kept t.kept) (sym why) goes.keeps;
  rest = goes.rest;
}

pub goes_no_why : (b : List ℕ) (r : Record) (s t : RunState) → s.why ≡ None → GoesPlain b r s t → Goes b r s t
goes_no_why b r s t why goes =
    let same : t.kept ≡ s.kept = ap (λ (x : RunState). x.kept) goes.rest in
    record {
      step = goes.step;
      keeps = subst (λ (o : Option ℕ). KeepsBy o (s.played + 1) b r s.files t.files s.kept t.kept) (sym why) same;
      rest = goes.rest ∙ ap (λ (l : List Change). record s { files = t.files; played = s.played + 1; kept = l }) (sym same);
    }
