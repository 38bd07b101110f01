-- What is shown before a recovery is shown after it.
use Rattle.std.proofs.Common.{◌≡◌, ◌≢◌, inl, inr, ⊎_elim, ℕ, zero, suc, ◌+◌, ◌-◌, ◌*◌, ◌<◌, ◌≤◌, true, false, List, [], ◌∷◌, ◌++◌, length, get_or, refl, sym, ◌∙◌, ap, subst, arith, eq-eqb, ne_eqb, length-append}
use Rattle.std.specs.Prelude.{Ok, ◌==◌}
use Rattle.std.specs.List.{flat_map}
use Rattle.std.proofs.lemmas.Bool.{cases_eq}
use Rattle.std.proofs.lemmas.List.{ext_get_or, get_or_append_left, get_or-append_right, nil_from_length}
use Rattle.sqval.specs.Bytes.{word}
use Rattle.sqval.specs.Database.{Database, page, file_pages}
use Rattle.sqval.specs.Held.{IsJust}
use Rattle.sqval.specs.Limits.{Bounds, usual}
use Rattle.sqval.specs.PageSize.{IsPageSize}
use Rattle.sqval.proofs.page.FilePages.{size_some, length-file_page, get_or-file_page, page_by_bytes, file_count}
use Rattle.sqwal.specs.Frames.{IsFront}
use Rattle.sqwal.specs.Header.{IsHeader, named_size}
use Rattle.sqwal.specs.View.{IsView}
use Rattle.sqwal.proofs.log.UniquenessOfView.{front_unique, view_unique}
use Rattle.sqjournal.specs.Journal.{IsHot}
use Rattle.sqjournal.specs.Restored.{IsRolledBack}
use Rattle.sqjournal.proofs.journal.UniquenessOfRestoredDatabase.{one_rolled_back}
use Rattle.sqpage.specs.Header.{size_named}
use Rattle.crashdisk.specs.Call.{DiskState, ArePresent}
use Rattle.crashdisk.specs.State.{FileState}
use Rattle.crashdisk.proofs.sync.BytesOfSyncedLog.{same_present, settled_present}
use Rattle.walcore.specs.Folding.{FoldAnswerWithin}
use Rattle.walcore.specs.declared.folding.Folded.{Folded}
use Rattle.rollcore.specs.Replaying.{ReplayAnswer}
use Rattle.rollcore.specs.declared.replaying.Replayed.{Replayed}
use Rattle.rollcore.proofs.replays.LastRecordOfPage.{made_length}
use Rattle.sqview.specs.LogView.{head_of, own_pages, IsOwn, IsLogged, IsAlone, Views}
use Rattle.sqview.proofs.openings.ShownOrRefusedView.{alone_bare}
use Rattle.cli_recover.specs.Recovered.{NamesItself}

-- ---- A file that is just a database which names itself.

head_byte : (file : List ℕ) (i : ℕ) → i < 100 → get_or (head_of file) i 0 ≡ get_or file i 0
unfolding head_of
head_byte file i lt = get_or-file_page 100 file 1 i lt ∙ ap (λ (n : ℕ). get_or file n 0) (let e : (1 - 1) * 100 + i ≡ i = omega arith in e)

head_long : (file : List ℕ) → length (head_of file) ≡ 100
unfolding head_of
head_long file = length-file_page 100 file 1

module _ (size : ℕ) (is : IsPageSize size) (d : Database) (after : List ℕ) (just : IsJust size d after) where
  first_byte : 1 ≤ length d → (i : ℕ) → i < 100 → get_or (page d 1) i 0 ≡ get_or after i 0
  first_byte some i lt =
      let below : i < size = omega (arith, size_some size is) in
      ap (λ (l : List ℕ). get_or l i 0) (just.each 1 (omega arith) some) ∙ get_or-file_page size after 1 i below
      ∙ ap (λ (n : ℕ). get_or after n 0) (let e : (1 - 1) * size + i ≡ i = omega arith in e)

  first_none : length d ≡ 0 → (i : ℕ) → get_or (page d 1) i 0 ≡ get_or after i 0
  unfolding page
  first_none none i =
      let bare : after ≡ [] = nil_from_length after (let long : length after ≡ 0 * size = just.long ∙ ap (λ (n : ℕ). n * size) none in omega (arith, long)) in
      ap (λ (e : Database). get_or (get_or e (1 - 1) []) i 0) (nil_from_length d none) ∙ ap (λ (l : List ℕ). get_or l i 0) (sym bare)

  same_head : head_of (page d 1) ≡ head_of after
  same_head = ext_get_or 0 (head_of (page d 1)) (head_of after) (head_long (page d 1) ∙ sym (head_long after))
      (λ i lt. let below : i < 100 = omega (arith, head_long (page d 1)) in
      head_byte (page d 1) i below
      ∙ ⊎_elim (λ none. first_none none i) (λ ne. first_byte (omega (arith, ne)) i below) (cases_eq (length d) 0)
      ∙ sym (head_byte after i below))

  as_many : length d ≡ file_pages size after
  as_many = file_count size after (length d) (omega (arith, size_some size is)) just.long

  own_count : (head : List ℕ) → head ≡ head_of after → (word head 28 ≢ 0 → word head 24 ≡ word head 92 → word head 28 ≡ length d) → length d ≡ own_pages size after
  unfolding own_pages
  own_count head e counted = ⊎_elim
      (λ none. let a : (word (head_of after) 28 == 0) ≡ true = eq-eqb (word (head_of after) 28) 0 (ap (λ (h : List ℕ). word h 28) (sym e) ∙ none) in as_many ∙ rw a refl)
      (λ ne. let a : (word (head_of after) 28 == 0) ≡ false = ne_eqb (word (head_of after) 28) 0 (λ z. ne (ap (λ (h : List ℕ). word h 28) e ∙ z)) in ⊎_elim
      (λ same. let b : (word (head_of after) 24 == word (head_of after) 92) ≡ true = eq-eqb (word (head_of after) 24) (word (head_of after) 92) (ap (λ (h : List ℕ). word h 24) (sym e) ∙ same ∙ ap (λ (h : List ℕ). word h 92) e) in
      sym (counted ne same) ∙ ap (λ (h : List ℕ). word h 28) e ∙ rw (a, b) refl)
      (λ other. let b : (word (head_of after) 24 == word (head_of after) 92) ≡ false = ne_eqb (word (head_of after) 24) (word (head_of after) 92) (λ z. other (ap (λ (h : List ℕ). word h 24) e ∙ z ∙ ap (λ (h : List ℕ). word h 92) (sym e))) in
      as_many ∙ rw (a, b) refl)
      (cases_eq (word head 24) (word head 92)))
      (cases_eq (word head 28) 0)

  just_own : NamesItself size d → IsOwn size after d
  just_own names = record {
    size_is = is;
    named = sym names.sized ∙ ap size_named same_head;
    count = own_count (head_of (page d 1)) same_head names.counted;
    each = just.each;
  }

-- ---- A log that was folded.

no_header : ¬ IsHeader (named_size []) []
no_header header = let nothing : List ℕ = [] in omega (arith, header.whole, ap (λ (l : List ℕ). length l) (let e : nothing ≡ [] = refl in e))

alone_now : (journal : List ℕ) → (¬ IsHot journal) → IsAlone [] journal
alone_now journal cold = (alone_bare usual [] [] journal cold no_header).1

front_zero : (wal journal : List ℕ) (m : ℕ) → IsAlone wal journal → IsFront (named_size wal) wal m → m ≡ 0
front_zero wal journal m alone front = front_unique (named_size wal) wal m 0 front alone.none

module _ (limits : Bounds) (size : ℕ) (db wal journal after : List ℕ) (folded : Folded) (old new : DiskState) (d : Database) where
  folded_some : FoldAnswerWithin limits size db wal (Ok folded) old new → ArePresent new.db after → (¬ IsHot journal) → NamesItself size d
      → (front : ℕ) → IsLogged wal journal front → IsView (named_size wal) db wal front d → Views size after [] journal d
  folded_some answer present cold names front logged view =
      let same : folded.frames ≡ front = front_unique (named_size wal) wal folded.frames front answer.3.front logged.is in
      let one : 1 ≤ folded.frames = omega (arith, same, logged.some) in
      let did = answer.3.some one in
      let left = did.2 in
      let viewed : IsView size db wal folded.frames d = subst (λ (n : ℕ). IsView n db wal folded.frames d) did.1 (subst (λ (n : ℕ). IsView (named_size wal) db wal n d) (sym same) view) in
      let database : left.0 ≡ d = view_unique size db wal folded.frames left.0 d left.1 viewed in
      let bytes : left.2.0 ≡ after = same_present new.db left.2.0 after (settled_present new.db left.2.0 left.2.1) present in
      let just : IsJust size d after = subst (λ (e : Database). IsJust size e after) database (subst (λ (l : List ℕ). IsJust size left.0 l) bytes left.2.2) in
      let valid = ⊎_elim (λ (none : front ≡ 0). absurd (omega (arith, none, logged.some))) (λ v. v) logged.is.is in
      let is : IsPageSize size = subst IsPageSize did.1 (valid.0.each front valid.0.first (omega arith)).header.is_size in
      inr (inr (alone_now journal cold, just_own size is d after just names))

  pub fold_keeps : FoldAnswerWithin limits size db wal (Ok folded) old new → ArePresent new.db after → (¬ IsHot journal)
      → (1 ≤ folded.frames → NamesItself size d) → Views size db wal journal d → Views size after [] journal d
  fold_keeps answer present cold names views = ⊎_elim
      (λ hot. absurd (cold hot.0))
      (⊎_elim
      (λ logged.
      let same : folded.frames ≡ logged.0 = front_unique (named_size wal) wal folded.frames logged.0 answer.3.front logged.1.is in
      let one : 1 ≤ folded.frames = omega (arith, same, logged.1.some) in
      folded_some answer present cold (names one) logged.0 logged.1 (subst (λ (n : ℕ). IsView n db wal logged.0 d) logged.2 logged.3))
      (λ own.
      let none : folded.frames ≡ 0 = front_zero wal journal folded.frames own.0 answer.3.front in
      let bytes : db ≡ after = same_present new.db db after (answer.3.none none).1 present in
      inr (inr (alone_now journal cold, subst (λ (l : List ℕ). IsOwn size l d) bytes own.1))))
      views

-- ---- A journal that was replayed.

-- pages of one size, one behind the other
flat_long : (size : ℕ) (d : Database) → ((k : ℕ) → k < length d → length (get_or d k []) ≡ size) → length (flat_map (λ content. content) d) ≡ length d * size
flat_long size [] sized = let e : 0 ≡ 0 * size = omega arith in e
flat_long size (x ∷ d) sized =
    length-append x (flat_map (λ content. content) d) ∙ (let first : length x ≡ size = sized 0 (omega arith) in
    let rest : length (flat_map (λ content. content) d) ≡ length d * size = flat_long size d (λ k lt. sized (suc k) (omega arith)) in
    let split : suc (length d) * size ≡ size + length d * size = omega arith in
    omega (arith, first, rest, split))

flat_byte : (size : ℕ) (d : Database) → ((k : ℕ) → k < length d → length (get_or d k []) ≡ size)
    → (k j : ℕ) → k < length d → j < size → get_or (flat_map (λ content. content) d) (k * size + j) 0 ≡ get_or (get_or d k []) j 0
flat_byte size [] sized k j lt below = absurd (omega (arith, lt))
flat_byte size (x ∷ d) sized zero j lt below =
    let first : length x ≡ size = sized 0 (omega arith) in
    ap (λ (n : ℕ). get_or (x ++ flat_map (λ content. content) d) n 0) (let e : 0 * size + j ≡ j = omega arith in e)
    ∙ get_or_append_left x (flat_map (λ content. content) d) 0 j (omega (arith, first))
flat_byte size (x ∷ d) sized (suc k) j lt below =
    let first : length x ≡ size = sized 0 (omega arith) in
    let split : suc k * size + j ≡ size + (k * size + j) = omega arith in
    get_or-append_right x (flat_map (λ content. content) d) size (suc k * size + j) 0 first (omega (arith, split))
    ∙ ap (λ (n : ℕ). get_or (flat_map (λ content. content) d) n 0) (let e : suc k * size + j - size ≡ k * size + j = omega (arith, split) in e)
    ∙ flat_byte size d (λ i l. sized (suc i) (omega arith)) k j (omega arith) below

flat_just : (size : ℕ) (d : Database) → ((p : ℕ) → 1 ≤ p → p ≤ length d → length (page d p) ≡ size) → IsJust size d (flat_map (λ content. content) d)
unfolding page
flat_just size d full = record {
  long = flat_long size d (sized full);
  each = λ p one most. page_by_bytes size (flat_map (λ content. content) d) p (page d p) (full p one most)
      (λ j lt. flat_byte size d (sized full) (p - 1) j (omega arith) lt);
}
  where
    sized : ((p : ℕ) → 1 ≤ p → p ≤ length d → length (page d p) ≡ size) → (k : ℕ) → k < length d → length (get_or d k []) ≡ size
    sized full k lt = ap (λ (n : ℕ). length (get_or d n [])) (let e : k ≡ suc k - 1 = omega arith in e) ∙ full (suc k) (omega arith) (omega arith)

bare_of : (wal : List ℕ) → ((wal ≢ []) → ⊥) → wal ≡ []
bare_of [] not = refl
bare_of (x ∷ xs) not = absurd (not (λ e. let bad : suc (length xs) ≡ 0 = ap (λ (l : List ℕ). length l) e in omega arith))

-- beside a journal that isn't hot another such counts as little
cold_views : (size : ℕ) (db wal journal left : List ℕ) (d : Database) → (¬ IsHot journal) → (¬ IsHot left) → Views size db wal journal d → Views size db wal left d
cold_views size db wal journal left d was cold views = ⊎_elim
    (λ hot. absurd (was hot.0))
    (⊎_elim
    (λ logged. inr (inl (logged.0, record { cold = cold; some = logged.1.some; is = logged.1.is }, logged.2, logged.3)))
    (λ own. inr (inr (record { cold = cold; none = own.0.none }, own.1))))
    views

module _ (most size : ℕ) (db wal journal after left : List ℕ) (replayed : Replayed) (old new : DiskState) (d : Database) where
  rolled_own : ReplayAnswer most db journal (Ok replayed) old new → ArePresent new.db after → (hot : IsHot journal) → NamesItself size d
      → size ≡ word journal 24 → IsRolledBack db journal d → IsOwn size after d
  rolled_own answer present hot names size_is back =
      let file = (answer.2.rolled hot).file in
      let restored = file.1.hot hot in
      let bytes : file.0 ≡ after = same_present new.db file.0 after (settled_present new.db file.0 file.2) present in
      let database : restored.0 ≡ d = one_rolled_back db journal restored.0 d restored.1 back in
      let flat : flat_map (λ (content : List ℕ). content) d ≡ after = ap (λ (e : Database). flat_map (λ (content : List ℕ). content) e) (sym database) ∙ sym restored.2 ∙ bytes in
      let full : (p : ℕ) → 1 ≤ p → p ≤ length d → length (page d p) ≡ size = λ p one le. made_length journal db back.segments back.at back.why back.is hot d back p one le ∙ sym size_is in
      let just : IsJust size d after = subst (λ (l : List ℕ). IsJust size d l) flat (flat_just size d full) in
      just_own size (subst IsPageSize (sym size_is) hot.first.size) d after just names

  unmoved : ReplayAnswer most db journal (Ok replayed) old new → ArePresent old.db db → ArePresent new.db after → (¬ IsHot journal) → db ≡ after
  unmoved answer before present cold =
      let same : new.db ≡ old.db = (answer.2.idle cold).bytes.db in
      same_present new.db db after (subst (λ (s : FileState). ArePresent s db) (sym same) before) present

  pub replay_keeps : ReplayAnswer most db journal (Ok replayed) old new → ArePresent old.db db → ArePresent new.db after → ArePresent new.log left
      → (IsHot journal → NamesItself size d) → Views size db wal journal d → Views size after wal left d
  replay_keeps answer before present leaves names views =
      let cold : ¬ IsHot left = answer.2.cold left leaves in
      ⊎_elim
      (λ hot.
      let bare : wal ≡ [] = bare_of wal (λ ne. hot.3 (hot.0, ne)) in
      inr (inr (subst (λ (l : List ℕ). IsAlone l left) (sym bare) (alone_now left cold), rolled_own answer present hot.0 (names hot.0) hot.1 hot.2)))
      (⊎_elim
      (λ logged. subst (λ (l : List ℕ). Views size l wal left d) (unmoved answer before present logged.1.cold) (cold_views size db wal journal left d logged.1.cold cold (inr (inl logged))))
      (λ own. subst (λ (l : List ℕ). Views size l wal left d) (unmoved answer before present own.0.cold) (cold_views size db wal journal left d own.0.cold cold (inr (inr own)))))
      views
