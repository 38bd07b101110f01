-- The copying of records.
use Rattle.rollcore.proofs.Below.{Database, Db, HasEntry, IsHot, IsJournal, IsLeft, IsMade, IsReplay, IsRolledBack, List, Log, MayFill, MayReplayWithin, None, Pages, Record, Records, Segment, Some, Why, all_records, ap, arith, content_at, count_is, entries_of, entry_is, entry_named, entry_within, file_page, last_content, length, made, made_all, made_apart, made_other, made_run, one_journal, page, part, record_plan, records_are, records_of, set_len, sizes_of, slice_get, subst, sym, sync, take, take-map, take_all, unwrap_or, word, write, ℕ, ◌*◌, ◌+◌, ◌-◌, ◌<◌, ◌∙◌, ◌≡◌, ◌≤◌, ◌⊎◌}
use Rattle.crashdisk.specs.Call.{Change}

-- what is asked for where pages are copied
pub replay_may : (most size : ℕ) (change : Change) → MayFill most size change → MayReplayWithin most size change
replay_may most size (write Db at bytes) is = is
replay_may most size (set_len Db n) is = is
replay_may most size (sync Db) is = absurd is
replay_may most size (write Log at bytes) is = absurd is
replay_may most size (set_len Log n) is = absurd is
replay_may most size (sync Log) is = absurd is

-- an entry's page lies in the journal
pub has_within : (w : List ℕ) (size i : ℕ) (r : Record) → 1 ≤ i → size ≡ word w 24 → HasEntry w i (Some r) → r.at + size ≤ length w
has_within w size i r one same has =
    let at : HasEntry w (i - 1 + 1) (Some r) = subst (λ (n : ℕ). HasEntry w n (Some r)) (let e : i ≡ i - 1 + 1 = omega arith in e) has in
    subst (λ (n : ℕ). r.at + n ≤ length w) (sym same) (entry_within w has.segments has.stop.at has.stop.why has.is (i - 1) r (entry_is w has.segments has.stop.at has.stop.why has.is (i - 1) r at))

-- ---- Record after record.

module _ (w : List ℕ) (segments : List Segment) (end : ℕ) (why : Why) (is : IsJournal w segments end why) (hot : IsHot w) where
  abbrev es : List Record
  es = entries_of w segments

  records_upto : (steps : ℕ) → take steps (all_records segments) ≡ records_of w (take steps es)
  records_upto steps = ap (λ (l : Pages). take steps l) (records_are w segments end why is hot) ∙ take-map (content_at (sizes_of w) w) steps es

  -- what is left of a page, by entries
  pub left_made : (db : List ℕ) (steps p : ℕ) (content : List ℕ) → IsLeft db w steps p content → content ≡ made w db (take steps es) p
  unfolding made
  left_made db steps p content left =
      let same : left.segments ≡ segments = (one_journal w left.segments segments left.at end left.why why left.is is).0 in
      left.last ∙ ap (λ (l : List Segment). unwrap_or (last_content (take steps (all_records l)) p) (file_page (word w 24) db p)) same
      ∙ ap (λ (l : Pages). unwrap_or (last_content l p) (file_page (word w 24) db p)) (records_upto steps)

  pub made_left : (db : List ℕ) (steps p : ℕ) (content : List ℕ) → content ≡ made w db (take steps es) p → IsLeft db w steps p content
  unfolding made
  made_left db steps p content made_so = record {
    segments = segments;
    at = end;
    why = why;
    is = is;
    last = made_so ∙ sym (ap (λ (l : Pages). unwrap_or (last_content l p) (file_page (word w 24) db p)) (records_upto steps));
  }

  -- a record of no page of the database
  pub left_skips : (db : List ℕ) (done p : ℕ) (content : List ℕ) (r : Record) → slice_get es done ≡ Some r → (r.page ≡ p → ⊥) → IsLeft db w (done + 1) p content → IsLeft db w done p content
  left_skips db done p content r at out left = made_left db done p content (left_made db (done + 1) p content left ∙ made_other w db es done r at p out)

  -- a run of n
  module _ (done n size : ℕ) (first : Record) (same : size ≡ word w 24) (are : (j : ℕ) → j < n → slice_get es (done + j) ≡ Some (record { page = first.page + j; at = first.at + j * (size + 8) })) where
    pub left_put : (db : List ℕ) (j : ℕ) (content : List ℕ) → j < n → IsLeft db w (done + n) (first.page + j) content → content ≡ part w (first.at + j * (size + 8)) size
    left_put db j content lt left = left_made db (done + n) (first.page + j) content left ∙ made_run w db es done first.page first.at (size + 8) n j are lt
        ∙ ap (λ (z : ℕ). part w (first.at + j * (size + 8)) z) (sym same)

    pub left_apart : (db : List ℕ) (p : ℕ) (content : List ℕ) → (p < first.page) ⊎ (first.page + n ≤ p) → IsLeft db w (done + n) p content → IsLeft db w done p content
    left_apart db p content out left = made_left db done p content (left_made db (done + n) p content left ∙ made_apart w db es done first.page first.at (size + 8) n p are out)

    pub run_named : (j : ℕ) → j < n → last_content (all_records segments) (first.page + j) ≡ None → ⊥
    run_named j lt un = entry_named w es (done + j) (record { page = first.page + j; at = first.at + j * (size + 8) }) (are j lt)
        (ap (λ (l : Pages). last_content l (first.page + j)) (sym (records_are w segments end why is hot)) ∙ un)

-- the pages that a journal restores are made
pub rolled_made : (plan : Records) (size count : ℕ) (db w : List ℕ) (d : Database) → IsReplay plan size w → count ≡ word w 16 → IsRolledBack db w d → IsMade record_plan plan size count db w d
rolled_made plan size count db w d of first rolled = record {
  begins = λ p content one left. left.last ∙ ap (λ (z : ℕ). file_page z db p) (sym of.same);
  long = rolled.count ∙ sym first;
  each = λ steps p takes one le.
      let n : steps ≡ length (entries_of w rolled.segments) = count_is w rolled.segments rolled.at rolled.why rolled.is steps (takes w of.read) in
      made_left w rolled.segments rolled.at rolled.why rolled.is of.hot db steps p (page d p)
      (made_all w db rolled.segments rolled.at rolled.why rolled.is of.hot d rolled p one (omega (arith, rolled.count, first, le)) ∙ ap (λ (l : List Record). made w db l p) (sym (take_all steps (entries_of w rolled.segments) (omega (arith, n)))));
}
