use Rattle.std.proofs.Common.{◌≡◌, ℕ, ◌<◌, List, [], ◌∷◌, ◌++◌, length, map, codes, sym, ap, subst, ◌∙◌, arith}
use Rattle.std.specs.List.{flat_map}
use Rattle.std.specs.Io.KnownBytes.{Appends}
use Rattle.std.proofs.KnownBytes.{Appends-trans}
use Rattle.std.proofs.lemmas.List.Folds.{flat_map-map}
use Rattle.std.proofs.lemmas.Simd.{map-map}
use Rattle.sqpage.specs.declared.header.DbHeader.{DbHeader}
use Rattle.cli_words.specs.declared.requests.Style.TheVariants.{Json}
use Rattle.cli_text.specs.declared.header.Field.{Field}
use Rattle.cli_text.specs.Facts.{closing, joined, number_text, opening}
use Rattle.cli_text.specs.Headers.{field_line, header_fields}
use Rattle.cli_text.proofs.JoinedTexts.{joined-last}
use Rattle.cli_text.proofs.NumberFacts.{number_is}
use Rattle.cli_text.proofs.WrittenTexts.{appends_line, on_ok}
use Rattle.cli_text.proofs.header.write_header.Goals as goal

-- a field as its name and what stands in it
view : Field → List ℕ × ℕ
view f = (f.0.now, f.1)

-- a field on a line
line : List ℕ × ℕ → List ℕ
line p = field_line p.0 p.1

-- a field as a member
member : List ℕ × ℕ → List ℕ
member p = number_text Json p.0 p.1

-- there are fields
some_fields : (h : DbHeader) → 0 < length (header_fields h)
unfolding header_fields
some_fields h = omega arith

pub returns-in_ok-write_field_lines-in-Lines : goal.returns-in_ok-write_field_lines-in-Lines
unfolding view line
returns-in_ok-write_field_lines-in-Lines g c =
    let old = g.W.Write.contents c.args.out.now in
    let mid = g.W.Write.contents c.write_field_lines.new.out in
    let new = g.W.Write.contents c.write_field_line.new.out in
    let fields = header_fields c.args.header.now in
    let pages : List ℕ × ℕ = (codes "pages", c.args.pages) in
    let same = sym (flat_map-map line view c.fields_of-fields.result) ∙ ap (λ (l : List (List ℕ × ℕ)). flat_map line l) c.fields_of-fields.ensures in
    let first = subst (λ (l : List ℕ). Appends old mid l) same c.in_ok-write_field_lines-in-Lines.ensures in
    rw c.in-Lines.is (on_ok c.write_field_line.result (Appends mid new (line pages)) (Appends old new (flat_map line (fields ++ pages ∷ [])))
    (λ more. appends_line old mid new line fields pages first more) c.write_field_line.ensures)

pub returns-in_ok-write_fact-in-Json : goal.returns-in_ok-write_fact-in-Json
unfolding view member
returns-in_ok-write_fact-in-Json g c =
    let old = g.W.Write.contents c.args.out.now in
    let begun = g.W.Write.contents c.write_opening.new.out in
    let mid = g.W.Write.contents c.write_members.new.out in
    let late = g.W.Write.contents c.write_fact.new.out in
    let new = g.W.Write.contents c.write_end_of_facts.new.out in
    let fields = header_fields c.args.header.now in
    let mark = codes "," in
    let pages : List ℕ × ℕ = (codes "pages", c.args.pages) in
    let parts = joined mark (map member fields) in
    let same : map (λ (f : Field). number_text Json f.0.now f.1) c.fields_of-fields.result ≡ map member fields =
    sym (map-map member view c.fields_of-fields.result) ∙ ap (map member) c.fields_of-fields.ensures in
    let first = rw c.in-Json.is at c.in_ok-write_opening-in-Json.ensures in
    let members = subst (λ (l : List (List ℕ)). Appends begun mid (joined mark l)) same c.in_ok-write_members-in-Json.ensures in
    let last = rw (number_is _ _ _ c.number.ensures, c.in-Json.is) at c.in_ok-write_fact-in-Json.ensures in
    let both = subst (λ (l : List ℕ). Appends begun late l) (sym (joined-last mark member fields pages (some_fields c.args.header.now)))
    (Appends-trans begun mid late parts (mark ++ member pages) members last) in
    let all = joined mark (map member (fields ++ pages ∷ [])) in
    rw c.in-Json.is (on_ok c.write_end_of_facts.result (Appends late new (closing Json)) (Appends old new (opening Json ++ (all ++ closing Json)))
    (λ end. Appends-trans old begun new (opening Json) (all ++ closing Json) first (Appends-trans begun late new all (closing Json) both end))
    (rw c.in-Json.is at c.write_end_of_facts.ensures))
