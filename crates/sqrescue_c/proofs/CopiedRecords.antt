-- The records of a replay in a caller's array.
use Rattle.std.proofs.Common.{◌≡◌, ◌≢◌, ⊎_elim, ℕ, suc, ◌+◌, ◌-◌, ◌<◌, List, length, get_or, refl, sym, ◌∙◌, ap, subst, arith}
use Rattle.std.specs.Prelude.{Option, Some, None, slice_get, unwrap_or}
use Rattle.std.proofs.Math.ListN.{set}
use Rattle.std.proofs.lemmas.List.{get_or-set_other}
use Rattle.std.proofs.lemmas.Grind.{get_or-set_at}
use Rattle.std.proofs.lemmas.Bool.{cases_lt}
use Rattle.std.proofs.lemmas.Option.{get_or_from_slice_get, unwrap_or-slice_get}
use Rattle.sqjournal.specs.Journal.{Segment, IsJournal, entries, entry_of, sizes_of}
use Rattle.sqjournal.specs.Took.{Says, StopsSo, HasEntry, HasCount}
use Rattle.sqjournal.specs.declared.reading.Record.{Record as Entry}
use Rattle.sqjournal.specs.declared.reading.Why.{Why}
use Rattle.sqjournal.specs.declared.replay.Stop.{Stop}
use Rattle.sqjournal.proofs.read.BytesTakenByReplay.{entry_some}
use Rattle.sqjournal.proofs.read.UniquenessOfReading.{one_journal}
use Rattle.sqrescue_c.specs.Journals.{no_entry, IsRecordOf, AreRecordsOf}
use Rattle.sqrescue_c.specs.declared.journal.Record.{Record}

pub says_so : (b : List ℕ) (stop : Stop) → (so : StopsSo b stop) → Says b (entries (sizes_of b) 0 so.segments) stop
says_so b stop so = record { segments = so.segments; is = so.is; records = refl }

module _ (b : List ℕ) (es : List Entry) (stop : Stop) (says : Says b es stop) where
  same_entries : (segments : List Segment) (at : ℕ) (why : Why) → IsJournal b segments at why → entries (sizes_of b) 0 segments ≡ es
  same_entries segments at why is =
      ap (entries (sizes_of b) 0) (one_journal b segments says.segments at stop.at why stop.why is says.is).0 ∙ says.records

  pub count_is : (n : ℕ) → HasCount b n → n ≡ length es
  count_is n has = has.value ∙ ap length (same_entries has.segments has.stop.at has.stop.why has.is)

  found : (i n : ℕ) (entry : Option Entry) → HasEntry b i entry → i ≡ suc n → slice_get es n ≡ entry
  found i n entry has is =
      let before : i - 1 ≡ n = omega arith in
      sym (has.value ∙ ap (λ l. entry_of l i) (same_entries has.segments has.stop.at has.stop.why has.is)
      ∙ entry_some es i (λ z. omega arith) ∙ ap (slice_get es) before)

  pub at_some : (i n : ℕ) (entry : Entry) → HasEntry b i (Some entry) → i ≡ suc n → entry ≡ get_or es n no_entry
  at_some i n entry has is = sym (get_or_from_slice_get es n entry no_entry (found i n (Some entry) has is))

  pub at_none : (i n : ℕ) → HasEntry b i None → i ≡ suc n → no_entry ≡ get_or es n no_entry
  at_none i n has is = sym (ap (λ o. unwrap_or o no_entry) (found i n None has is)) ∙ unwrap_or-slice_get es n no_entry

pub one_record : (es : List Entry) (records : List Record) (i : ℕ) (v : Record) → i < length records → IsRecordOf (get_or es i no_entry) v
    → AreRecordsOf es i records → AreRecordsOf es (i + 1) (set records i v)
one_record es records i v within is before k d lt = ⊎_elim
    (λ below.
    let other : k ≢ i = omega arith in
    subst (λ (r : Record). IsRecordOf (get_or es k no_entry) r) (sym (get_or-set_other records i k v d other)) (before k d below))
    (λ above.
    let same : k ≡ i = omega arith in
    subst (λ (r : Record). IsRecordOf (get_or es k no_entry) r) (sym (get_or-set_at records i k v d same within))
    (subst (λ (n : ℕ). IsRecordOf (get_or es n no_entry) v) (sym same) is))
    (cases_lt k i)
