-- A payload that lies whole in its cell.
use Rattle.std.proofs.Common.{◌≡◌, ◌+◌, ◌-◌, ◌<◌, ◌≤◌, ◌∙◌, ℕ, List, [], ◌++◌, length, take, refl, sym, ap, arith, append-nil}
use Rattle.std.proofs.lemmas.List.{take_all}
use Rattle.sqval.specs.Database.{Database}
use Rattle.sqpage.specs.declared.cell.Cell.{Cell}
use Rattle.sqpage.specs.Chain.{payload_size, links, IsPayload}
use Rattle.std.proofs.Math.Nat.{div-eq_of_lt}

pub whole_payload : (d : Database) (cell : Cell) (content : List ℕ) → payload_size cell ≡ length cell.local.now → cell.overflow ≡ 0 → 480 ≤ cell.usable → content ≡ cell.local.now → IsPayload d cell content
whole_payload d cell content whole none least is =
    let size = payload_size cell in
    let here = cell.local.now in
    let few : (size - length here) + (cell.usable - 5) < cell.usable - 4 = omega (arith, whole, least) in
    let no_links : links cell ≡ 0 = div-eq_of_lt few in
    let all : take size (here ++ []) ≡ here ++ [] = take_all size (here ++ []) (omega (arith, whole, ap (λ (l : List ℕ). length l) (append-nil here))) in
    record {
      pages = [];
      last = cell.page;
      enough = sym no_links;
      follows = record { linked = (refl, none); distinct = tt };
      content_is = is ∙ sym (all ∙ append-nil here);
    }
