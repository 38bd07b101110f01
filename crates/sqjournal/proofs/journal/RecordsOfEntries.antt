-- What a journal's entries say of its records.
use Rattle.std.proofs.Common.{◌≡◌, ⊎_elim, ℕ, ◌+◌, List, [], ◌∷◌, ◌++◌, map, refl, sym, ◌∙◌, ap, subst}
use Rattle.std.proofs.lemmas.List.{map-append}
use Rattle.sqval.specs.Bytes.{part}
use Rattle.sqval.specs.Database.{Pages}
use Rattle.sqjournal.specs.Header.{next_header}
use Rattle.sqjournal.specs.Journal.{Segment, Sizes, record_len, records_end, IsRecord, AreRecords, AreSegments, placed, entries}
use Rattle.sqjournal.specs.Restored.{all_records}
use Rattle.sqjournal.specs.declared.reading.Record.{Record}
use Rattle.sqjournal.specs.declared.reading.Why.{Why}

-- the page and the content of an entry
abbrev pub content_at : Sizes → List ℕ → Record → ℕ × List ℕ
content_at z b e = (e.page, part b e.at z.page)

pair_of : ℕ → List ℕ → ℕ × List ℕ
pair_of page content = (page, content)

record_is : (z : Sizes) (b : List ℕ) (nonce at : ℕ) (r : ℕ × List ℕ) → IsRecord z b nonce at r → r ≡ content_at z b (record { page = r.0; at = at + 4 })
unfolding pair_of
record_is z b nonce at r is = ap (pair_of r.0) is.content

records_are : (z : Sizes) (b : List ℕ) (nonce at : ℕ) (rs : Pages) → AreRecords z b nonce at rs → rs ≡ map (content_at z b) (placed z at rs)
records_are z b nonce at [] are = refl
records_are z b nonce at (r ∷ rs) are =
    ap (λ x. x ∷ rs) (record_is z b nonce at r are.0) ∙ ap (λ l. content_at z b (record { page = r.0; at = at + 4 }) ∷ l) (records_are z b nonce (at + record_len z) rs are.1)

-- the records of a journal are those that its entries name, in order
pub contents : (z : Sizes) (b : List ℕ) (from : ℕ) (segments : List Segment) (stop : ℕ) (why : Why) → AreSegments z b from segments stop why
    → all_records segments ≡ map (content_at z b) (entries z from segments)
contents z b from [] stop why are = refl
contents z b from (s ∷ ss) stop why are =
    let next = next_header z.sector (records_end z (from + z.sector) s.records) in
    let first : s.records ≡ map (content_at z b) (placed z (from + z.sector) s.records) = records_are z b s.nonce (from + z.sector) s.records are.3 in
    let rest : all_records ss ≡ map (content_at z b) (entries z next ss) = ⊎_elim
    (λ all. contents z b next ss stop why all.1)
    (λ few. subst (λ (l : List Segment). all_records l ≡ map (content_at z b) (entries z next l)) (sym few.1) refl) are.4 in
    ap (λ l. l ++ all_records ss) first ∙ ap (λ l. map (content_at z b) (placed z (from + z.sector) s.records) ++ l) rest
    ∙ sym (map-append (content_at z b) (placed z (from + z.sector) s.records) (entries z next ss))
