-- A file and its journal restore one database.
use Rattle.std.proofs.Common.{◌≡◌, ℕ, ◌+◌, ◌-◌, ◌≤◌, List, [], length, get_or, sym, ◌∙◌, ap, arith}
use Rattle.std.specs.Prelude.{unwrap_or}
use Rattle.std.proofs.lemmas.List.{ext_get_or}
use Rattle.sqval.specs.Bytes.{word}
use Rattle.sqval.specs.Database.{Database, page, file_page}
use Rattle.sqjournal.specs.Restored.{all_records, last_content, IsRolledBack}
use Rattle.sqjournal.proofs.read.UniquenessOfReading.{one_journal}

-- as many pages, each the same
same_pages : (d e : Database) → length d ≡ length e → ((p : ℕ) → 1 ≤ p → p ≤ length d → page d p ≡ page e p) → d ≡ e
unfolding page
same_pages d e len each = ext_get_or [] d e len (λ i h.
    let here : i + 1 - 1 ≡ i = omega arith in
    ap (λ k. get_or d k []) (sym here) ∙ each (i + 1) (omega arith) (omega (arith, h)) ∙ ap (λ k. get_or e k []) here)

pub one_rolled_back : (file journal : List ℕ) (d e : Database) → IsRolledBack file journal d → IsRolledBack file journal e → d ≡ e
one_rolled_back file journal d e p q =
    let len : length d ≡ length e = p.count ∙ sym q.count in
    let segments : p.segments ≡ q.segments = (one_journal journal p.segments q.segments p.at q.at p.why q.why p.is q.is).0 in
    same_pages d e len (λ n least most.
    p.each n least most ∙ ap (λ ss. unwrap_or (last_content (all_records ss) n) (file_page (word journal 24) file n)) segments
    ∙ sym (q.each n least (omega (arith, len, most))))
