use Rattle.sqcheck.proofs.Facts.{AreToldFound, Begins, Chart, Database, HasNoFree, HasSoundHeader, IsHeaderNamed, IsPageSize, IsSurveyed, List, Role, TellsFound, ap, arith, byte, first_sized, least_page_size, length, none_used, page, refl, subst, sym, told_more, with_items_is, word, ℕ, ◌-◌, ◌∙◌, ◌≡◌}
use Rattle.sqcheck.proofs.visit.SurveyedPages.{surveyed}
use Rattle.sqcheck.proofs.survey.survey_snapshot.Goals as goal

pub returns-then-count-eq0-clause-not : goal.returns-then-count-eq0-clause-not
returns-then-count-eq0-clause-not g c = λ right is.
    none_used g.V.Snapshot.pages (sym (ap (λ (q : Database). length q) c.requires.same.0) ∙ sym c.count-count.ensures ∙ c.if-count-eq0.true)

pub start_in-requires-clause-large : goal.start_in-requires-clause-large
start_in-requires-clause-large g c =
    let least = least_page_size c.page_size-size.result (subst IsPageSize c.get.ensures.value c.get.ensures.valid) in
    omega (arith, least, c.deref.ensures.len, c.in-Ok.ensures.len, c.get.ensures.value, c.read_page.auto.out, c.deref_mut.ensures.len)

pub survey_header-requires-clause-large : goal.survey_header-requires-clause-large
survey_header-requires-clause-large g c = least_page_size c.page_size-size.result (subst IsPageSize c.get.ensures.value c.get.ensures.valid)

pub returns-clause-found : goal.returns-clause-found
returns-clause-found g c = λ right long none is.
    let d = g.V.Snapshot.pages in
    let maps = g.V.Snapshot.maps in
    let size = g.V.Snapshot.size in
    let begun : Chart = c.survey_header.new.chart in
    let all : Chart = c.survey_all.new.chart in
    let new : Chart = c.tell_unused.new.self in
    let walker = c.in-Ok-new_walker.walker in
    let read = c.in_ok-read_page.ensures.read right in
    let first : c.deref.result.now ≡ page d 1 = c.deref.ensures.value ∙ with_items_is c.in-Ok.bytes c.read_page.new.out (c.read_page.auto.out ∙ c.deref_mut.ensures.len) ∙ read.0 in
    let second : c.deref-2.result.now ≡ page d 1 = c.deref-2.ensures.value ∙ with_items_is c.in-Ok.bytes c.read_page.new.out (c.read_page.auto.out ∙ c.deref_mut.ensures.len) ∙ read.0 in
    let sized : c.page_size-size.result ≡ size = c.page_size-size.ensures ∙ c.requires.same.1 in
    let tells : TellsFound maps d size c.args.chart.now.faults.items begun.faults.items =
    subst (λ m. TellsFound m d size c.args.chart.now.faults.items begun.faults.items) (sym c.requires.maps) (subst (λ n. TellsFound c.args.options.pointer_maps d n c.args.chart.now.faults.items begun.faults.items) sized (c.in_ok-survey_header.ensures.tells d second)) in
    let header : (¬ HasSoundHeader maps d size) → IsHeaderNamed begun.faults.items =
    subst (λ m. (¬ HasSoundHeader m d size) → IsHeaderNamed begun.faults.items) (sym c.requires.maps) (subst (λ n. (¬ HasSoundHeader c.args.options.pointer_maps d n) → IsHeaderNamed begun.faults.items) sized (c.in_ok-survey_header.ensures.header d second)) in
    let told = told_more maps d size c.args.chart.now.faults.items begun.faults.items tells (subst (AreToldFound maps d size) (sym c.requires.none) tt) in
    let same : begun.roles.items ≡ c.args.chart.now.roles.items = c.survey_header.ensures.same in
    let begins : Begins maps d size walker.uses walker.walk begun = record {
      sized = walker.marks;
      barred = c.in-Ok-new_walker.ensures.barred right;
      long = ap (λ (l : List Role). length l) same ∙ long;
      rows = c.in-Ok-new_walker.ensures.rows;
      counts = c.in-Ok-new_walker.ensures.none;
      told = told;
    } in
    let start = c.in-Some.ensures.first in
    let walked = c.in_ok-survey_all.ensures.found right (start.0 ∙ ap (λ (l : List ℕ). word l 32) first) (start.1 ∙ ap (λ (l : List ℕ). word l 36) first) (c.in-Some.ensures.maps.1 ∙ ap (λ (l : List ℕ). word l 52) first) begins in
    let none_begun : HasNoFree d begun.roles.items = subst (HasNoFree d) (sym same) none in
    let done = surveyed maps d size begun walker.uses.marks.items walked.visited c.survey_all.new.self.uses c.survey_all.new.self.walk.rows.items all.roles.items walked.told all.faults.items new.faults.items walked.mapped walked.largest none_begun c.in_ok-tell_unused.ensures.down header in
    subst (λ l. IsSurveyed maps d size l new.roles.items new.faults.items) same (subst (λ l. IsSurveyed maps d size begun.roles.items l new.faults.items) (sym c.tell_unused.ensures.same) done)

pub new-requires-clause-known : goal.new-requires-clause-known
new-requires-clause-known g c = λ right.
    let d = g.V.Snapshot.pages in
    let read = c.in_ok-read_page.ensures.read right in
    let first : c.deref.result.now ≡ page d 1 = c.deref.ensures.value ∙ with_items_is c.in-Ok.bytes c.read_page.new.out (c.read_page.auto.out ∙ c.deref_mut.ensures.len) ∙ read.0 in
    let sized : c.page_size-size.result ≡ g.V.Snapshot.size = c.page_size-size.ensures ∙ c.requires.same.1 in
    let long : length (page d 1) ≡ g.V.Snapshot.size = first_sized d g.V.Snapshot.size c.count-count.result (c.count-count.ensures ∙ ap (λ (q : Database). length q) c.requires.same.0) c.if-count-eq0.false read.1 in
    let reserved = c.in-Some.ensures.maps.0 ∙ ap (λ (l : List ℕ). byte l 20) first in
    record {
      long = long ∙ sym sized;
      usable = ap (λ n. n - byte (page d 1) 20) (long ∙ sym sized) ∙ ap (λ n. c.page_size-size.result - n) (sym reserved);
      auto = λ used none. (c.has_maps-used.ensures.only used).1 (c.in-Some.ensures.maps.1 ∙ ap (λ (l : List ℕ). word l 52) first ∙ none);
      plain = λ was unused. absurd (c.requires.unjudged was);
    }

pub new-requires-clause-asked : goal.new-requires-clause-asked
new-requires-clause-asked g c = λ used. c.requires.maps ∙ (c.has_maps-used.ensures.only used).0

pub new-requires-clause-all : goal.new-requires-clause-all
new-requires-clause-all g c = λ right asked auto.
    let read = c.in_ok-read_page.ensures.read right in
    let first : c.deref.result.now ≡ page g.V.Snapshot.pages 1 = c.deref.ensures.value ∙ with_items_is c.in-Ok.bytes c.read_page.new.out (c.read_page.auto.out ∙ c.deref_mut.ensures.len) ∙ read.0 in
    let largest = c.in-Some.ensures.maps.1 ∙ ap (λ (l : List ℕ). word l 52) first in
    c.has_maps-used.ensures.all (sym c.requires.maps ∙ asked) (λ zero'. auto (sym largest ∙ zero'))
