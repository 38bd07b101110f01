-- What a fold answers, of its parts.
use Rattle.walcore.proofs.Below.{ArePages, ArePresent, Bounds, CopyAnswer, Database, Device, DiskError, DiskState, EndAnswer, Err, Filling, FoldAnswerWithin, Folded, FoldedAnswer, FrameTable, IsCopy, IsFitWithin, IsFront, IsHeader, IsJust, IsLast, IsLogDurable, IsPlan, IsSettled, IsSoundDisk, IsView, KeepsBytes, KeepsLog, List, Log, LogRefused, Looks, NoMemory, Ok, PageSize, Plan, PlanAnswer, ReadAnswer, Result, SectorAbovePage, Still, Syncs, TearsPages, TooLarge, Unnamed, WalError, Writing, [], ap, arith, byte, cases_eq, cases_lt, content_of, down_by, file_page, fit_none, front_zero, get_or-map-range_with_len, had_refusal, inl, inr, length, length-map-range_with_len, map, named_or_not, named_size, page, page_by_bytes, page_within, present_in, present_list, range_with_len, refl, refusal_after, settled_present, settled_sync, size_of, still_bytes, subst, sym, synced_down, table, ℕ, ⊎_elim, ◌*◌, ◌+◌, ◌-◌, ◌<◌, ◌∙◌, ◌∷◌, ◌≡◌, ◌≤◌}
use Rattle.walcore.proofs.folds.PhasesOfFold.{view_long, writing_keeps}

-- ---- A file with its log has a view at each frame.

last_unique : (size : ℕ) (w : List ℕ) (m p i j : ℕ) → IsLast size w m p i → IsLast size w m p j → i ≡ j
last_unique size w m p i j a b = ⊎_elim (λ lt. absurd (a.last j lt b.within b.names)) (λ le. ⊎_elim (λ e. e) (λ ne. absurd (b.last i (omega arith) a.within a.names)) (cases_eq i j)) (cases_lt i j)

module _ (size : ℕ) (db w : List ℕ) (m : ℕ) where
  view_page : ℕ → List ℕ
  view_page p = ⊎_elim (λ un. file_page size db p) (λ is. content_of size w is.0) (named_or_not size w m p)

  logged : (p i : ℕ) → IsLast size w m p i → view_page p ≡ content_of size w i
  unfolding view_page
  logged p i last = elim (named_or_not size w m p) as (λ x. ⊎_elim (λ un. file_page size db p) (λ is. content_of size w is.0) x ≡ content_of size w i) [
    | inl un ↦ absurd (un i last.first last.within last.names)
    | inr is ↦ ap (content_of size w) (last_unique size w m p is.0 i is.1 last)
  ]

  other : (p : ℕ) → Unnamed size w m p → view_page p ≡ file_page size db p
  unfolding view_page
  other p un = elim (named_or_not size w m p) as (λ x. ⊎_elim (λ un. file_page size db p) (λ is. content_of size w is.0) x ≡ file_page size db p) [
    | inl _ ↦ refl
    | inr is ↦ absurd (un is.0 is.1.first is.1.within is.1.names)
  ]

  pages : Database
  pages = map view_page (range_with_len 1 (size_of size w m))

  at_page : (p : ℕ) → 1 ≤ p → p ≤ size_of size w m → page pages p ≡ view_page p
  unfolding page pages
  at_page p one le = get_or-map-range_with_len view_page 1 (size_of size w m) (p - 1) p [] (omega arith) (omega arith)

  count : length pages ≡ size_of size w m
  unfolding pages
  count = length-map-range_with_len view_page 1 (size_of size w m)

  pub view_exists : 1 ≤ m → (d : Database) × IsView size db w m d
  view_exists some = (
    pages,
    record {
      none = λ z. absurd (omega arith);
      some = λ one. count;
      over = record {
        logged = λ p i one le last. at_page p one (omega (arith, count)) ∙ logged p i last;
        other = λ p one le un. at_page p one (omega (arith, count)) ∙ other p un;
      };
    },
  )

-- ---- The planned fold.

module _ {most : ℕ} (size : ℕ) (db w : List ℕ) (plan : Plan) (is : IsPlan most size w plan) (a : DiskState) where
  pub planned_none : {T : Type 0} (v : T) (r : Result T WalError) (f : Folded) (b : DiskState) → plan.frames ≡ 0 → f.frames ≡ 0 → f.size ≡ 0 → ArePresent a.db db → r ≡ Ok v → EndAnswer r a b → FoldedAnswer size db w (Ok f) a b
  unfolding EndAnswer FoldedAnswer
  planned_none {T = T} v r f b zero frames none are was answer =
      let end = subst (λ (x : Result T WalError). EndAnswer x a b) was answer in
      let settled : IsSettled b.db db = end.0 db are in
      record {
        front = subst (λ (n : ℕ). IsFront (named_size w) w n) (zero ∙ sym frames) is.front;
        none = λ z. (none, settled_present b.db db settled, λ ne. settled);
        some = λ one. absurd (omega arith);
        log = end.1;
      }

  module _ (some : 1 ≤ plan.frames) (d : Database) (view : IsView size db w plan.frames d) (b : DiskState) (here : ArePages size d b.db) where
    just : (bytes : List ℕ) → ArePresent b.db bytes → IsJust size d bytes
    just bytes are = record {
      long = are.len ∙ here.len;
      each = λ p one le. page_by_bytes size bytes p (page d p) (view_long size w plan.frames d db (is.some some).copy.valid view p one le)
          (λ i lt. are.each ((p - 1) * size + i) (omega (arith, here.len, page_within size p (length d) i one le lt)) ∙ here.each p one le i lt);
    }

    pub planned_some : {T : Type 0} (v : T) (r : Result T WalError) (f : Folded) (c : DiskState) → f.frames ≡ plan.frames → f.size ≡ plan.size → r ≡ Ok v → EndAnswer r b c → FoldedAnswer size db w (Ok f) a c
    unfolding EndAnswer FoldedAnswer
    planned_some {T = T} v r f c frames sizes was answer =
        let end = subst (λ (x : Result T WalError). EndAnswer x b c) was answer in
        let ready = is.some some in
        let bytes : List ℕ = table b.db.len (byte b.db) in
        let are : ArePresent b.db bytes = present_list b.db in
        record {
          front = subst (λ (n : ℕ). IsFront (named_size w) w n) (sym frames) is.front;
          none = λ z. absurd (omega arith);
          some = λ one. (sizes ∙ ready.copy.size_is ∙ ap (size_of size w) (sym frames), ready.named, (d, subst (λ (n : ℕ). IsView size db w n d) (sym frames) view, (bytes, end.0 bytes are, just bytes are)));
          log = end.1;
        }

pub planned_refused : {T : Type 0} (size : ℕ) (db w : List ℕ) (r : Result T WalError) (q : Result Folded WalError) (e : WalError) (a b c : DiskState) → a.refused ≤ b.refused → r ≡ Err e → q ≡ Err e → EndAnswer r b c → FoldedAnswer size db w q a c
unfolding EndAnswer FoldedAnswer
planned_refused {T = T} size db w r q e a b c le was is answer =
    let end = subst (λ (x : Result T WalError). EndAnswer x b c) was answer in
    subst (λ (x : Result Folded WalError). FoldedAnswer size db w x a c) (sym is) (end.0, refusal_after a b c le end.1)

pub planned_uncopied : {T : Type 0} (size : ℕ) (db w : List ℕ) (d : Database) (r : Result T WalError) (q : Result Folded WalError) (e : WalError) (a b : DiskState) → r ≡ Err e → q ≡ Err e → CopyAnswer Device size d r a b → FoldedAnswer size db w q a b
unfolding CopyAnswer FoldedAnswer
planned_uncopied {T = T} size db w d r q e a b was is answer =
    let got = subst (λ (x : Result T WalError). CopyAnswer Device size d x a b) was answer in
    subst (λ (x : Result Folded WalError). FoldedAnswer size db w x a b) (sym is) got

-- ---- The whole.

module _ (limits : Bounds) (size : ℕ) (db w : List ℕ) (a b : DiskState) (fits : TearsPages size a → ⊥) (is : Still a b) where
  pub read_folds : (r : Result Plan WalError) (q : Result Folded WalError) (e : WalError) → r ≡ Err e → q ≡ Err e → ReadAnswer limits size w r a b → FoldAnswerWithin limits size db w q a b
  unfolding ReadAnswer PlanAnswer LogRefused
  read_folds r q e was same answer =
      subst (λ (x : Result Folded WalError). FoldAnswerWithin limits size db w x a b) (sym same) (by e (let got = subst (λ (x : Result Plan WalError). ReadAnswer limits size w x a b) was answer in got))
    where
      by : (e : WalError) → ReadAnswer limits size w (Err e) a b → FoldAnswerWithin limits size db w (Err e) a b
      by TooLarge x = (fits, x, still_bytes a b is)
      by PageSize x = (fits, x.0, x.1, still_bytes a b is)
      by NoMemory x = (fits, still_bytes a b is)
      by Device x = (fits, x)
      by _ x = absurd x

  pub plan_folds : (r : Result Plan WalError) (plan : Plan) (q : Result Folded WalError) (c : DiskState) → IsFitWithin limits size w → FoldedAnswer size db w q b c → FoldAnswerWithin limits size db w q a c
  unfolding FoldedAnswer
  plan_folds r plan (Ok f) c fit answer = (fits, fit.small, fit.same, answer)
  plan_folds r plan (Err e) c fit answer = subst (λ (x : WalError). FoldAnswerWithin limits size db w (Err x) a c) (sym answer.0) (fits, refusal_after a b c is.refused answer.1)

pub read_plans : (limits : Bounds) (size : ℕ) (w : List ℕ) (r : Result Plan WalError) (plan : Plan) (a b : DiskState) → r ≡ Ok plan → ReadAnswer limits size w r a b → IsFitWithin limits size w × IsPlan limits.bytes size w plan
unfolding ReadAnswer PlanAnswer
read_plans limits size w r plan a b was answer = let got = subst (λ (x : Result Plan WalError). ReadAnswer limits size w x a b) was answer in got

-- a refused call before anything else
pub look_refused : {T : Type 0} (limits : Bounds) (size : ℕ) (db w : List ℕ) (called : Result T DiskError) (e : DiskError) (q : Result Folded WalError) (a b : DiskState) → IsSoundDisk a → (TearsPages size a → ⊥)
    → called ≡ Err e → q ≡ Err Device → Looks 0 called a b → FoldAnswerWithin limits size db w q a b
look_refused limits size db w called e q a b sound fits was is looked =
    subst (λ (x : Result Folded WalError). FoldAnswerWithin limits size db w x a b) (sym is) (fits, had_refusal called e 0 a b sound.refused was looked.within (omega arith) looked.refused)

-- there is no log
pub fold_empty : (limits : Bounds) (size : ℕ) (db w : List ℕ) (f : Folded) (a b : DiskState) → (TearsPages size a → ⊥) → Still a b → ArePresent a.db db → ArePresent a.log w → a.log.len ≡ 0 → IsLogDurable a [] → f.frames ≡ 0 → f.size ≡ 0
    → FoldAnswerWithin limits size db w (Ok f) a b
fold_empty limits size db w f a b fits is are_db are zero settled frames sizes =
    let bad : IsHeader (named_size w) w → ⊥ = λ header. omega (arith, header.whole, are.len) in
    let fit = fit_none size w bad limits in (
      fits,
      fit.small,
      fit.same,
      record {
        front = subst (λ (n : ℕ). IsFront (named_size w) w n) (sym frames) (front_zero size w bad);
        none = λ z. (sizes, present_in a.db b.db db is.db are_db, λ ne. absurd (ne (empty w (are.len ∙ zero))));
        some = λ one. absurd (omega arith);
        log = down_by [] a b settled is.log is.tears is.kept is.handed;
      },
    )
  where
    empty : (x : List ℕ) → length x ≡ 0 → x ≡ []
    empty [] e = refl
    empty (y ∷ ys) e = absurd (omega (arith, e))

-- no byte changed first
module _ (size : ℕ) (db w : List ℕ) (a b c : DiskState) (fits : TearsPages size a → ⊥) (fits_then : TearsPages size b → ⊥) (le : a.refused ≤ b.refused) (first : KeepsBytes a b) where
  pub bytes_then : KeepsBytes b c → KeepsBytes a c
  bytes_then keeps = record { db = keeps.db ∙ first.db; log = λ bytes are. keeps.log bytes (first.log bytes are) }

  pub fold_then : (limits : Bounds) (q : Result Folded WalError) → FoldAnswerWithin limits size db w q b c → FoldAnswerWithin limits size db w q a c
  fold_then limits (Ok f) x = (fits, x.1, x.2, x.3)
  fold_then limits (Err SectorAbovePage) x = absurd (fits_then x.0)
  fold_then limits (Err TooLarge) x = (fits, x.1, bytes_then x.2)
  fold_then limits (Err PageSize) x = (fits, x.1, x.2, bytes_then x.3)
  fold_then limits (Err NoMemory) x = (fits, bytes_then x.1)
  fold_then limits (Err Device) x = (fits, refusal_after a b c le x.1)
  fold_then limits (Err _) x = absurd x

-- the log was synced first
module _ {T : Type 0} {u : T} (size : ℕ) (db w : List ℕ) (a b c : DiskState) (sound : IsSoundDisk a) (fits : TearsPages size a → ⊥) (synced : Syncs Log (Ok u) a b) where
  pub synced_bytes : KeepsBytes a b
  synced_bytes = record { db = synced.elsewhere.other; log = λ bytes are. settled_present b.log bytes (settled_sync Log a b bytes sound.log synced are) }

  pub synced_later : a.refused ≤ b.refused
  synced_later = omega (arith, synced.elsewhere.refused)

  pub synced_fits : TearsPages size b → ⊥
  synced_fits torn = fits (sym synced.elsewhere.tears ∙ torn.0, subst (λ (n : ℕ). size < n) synced.elsewhere.sector torn.1)

  pub fold_after : (limits : Bounds) (q : Result Folded WalError) → ArePresent a.db db → ArePresent a.log w → (ArePresent b.db db → ArePresent b.log w → FoldAnswerWithin limits size db w q b c) → FoldAnswerWithin limits size db w q a c
  fold_after limits q are_db are rest = fold_then size db w a b c fits synced_fits synced_later synced_bytes limits q (rest (present_in a.db b.db db synced_bytes.db are_db) (synced_bytes.log w are))

  pub empty_down : (b.log.len ≡ 0) → IsLogDurable b []
  empty_down zero =
      let none : ArePresent a.log [] = record { len = sym (sym synced.file.len ∙ zero); each = λ i lt. absurd (omega (arith, synced.file.len)) } in
      synced_down [] a b sound none synced

-- ---- The buffer's length is the page size.

module _ (n size count : ℕ) (w : List ℕ) (m : ℕ) (t : FrameTable) (d : Database) (a b : DiskState) (e : n ≡ size) (copy : IsCopy size count w m t) where
  pub copies_at : {T : Type 0} (db : List ℕ) (r : Result T WalError) → (IsCopy n count w m t → length d ≡ count → IsView n db w m d → CopyAnswer Device n d r a b) → IsView size db w m d → CopyAnswer Device size d r a b
  copies_at db r f view = subst (λ (x : ℕ). IsCopy x count w m t → length d ≡ count → IsView x db w m d → CopyAnswer Device x d r a b) e f copy (view.some copy.valid.first ∙ sym copy.size_is) view

  pub writing_at : KeepsLog a b → (IsCopy n count w m t → length d ≡ count → Filling n d (Unnamed n w m) a → Filling n d (Unnamed n w m) b) → Writing size w m d a → Writing size w m d b
  writing_at keeps f is = writing_keeps size w m d a b is keeps (subst (λ (x : ℕ). IsCopy x count w m t → length d ≡ count → Filling x d (Unnamed x w m) a → Filling x d (Unnamed x w m) b) e f copy (is.count ∙ sym copy.size_is) is.pages.file)

-- a look came first
module _ (size : ℕ) (db w : List ℕ) (a b c : DiskState) (fits : TearsPages size a → ⊥) (is : Still a b) where
  pub looked_bytes : KeepsBytes a b
  looked_bytes = record { db = is.db; log = λ bytes are. present_in a.log b.log bytes is.log are }

  pub fits_still : TearsPages size b → ⊥
  fits_still torn = fits (sym is.tears ∙ torn.0, subst (λ (n : ℕ). size < n) is.sector torn.1)

  pub fold_looked : (limits : Bounds) (q : Result Folded WalError) → FoldAnswerWithin limits size db w q b c → FoldAnswerWithin limits size db w q a c
  fold_looked limits q x = fold_then size db w a b c fits fits_still is.refused looked_bytes limits q x
