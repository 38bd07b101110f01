-- The same, with all facts that the proofs of functions cite.
pub use Rattle.sqcheck.proofs.Between.{AddsItem, AddsRoots, AllSchemaRows, Apart, AreEachOnce, AreFound, AreFoundFaults, AreFoundRoles, AreFreePages, AreLeaves, AreMarked, ArePutDown, AreRolesFound, AreSchemaRows, AreToldFound, Begins, Bool, Btree, Chart, Charts, CheckError, ComesNext, Database, Every, Fault, Finds, FirstLeaf, FollowRefusedBy, FreeDiffers, FreeLeaf, FreeTrunk, HasFound, HasFreeCount, HasHeaderOf, HasJudgedRole, HasKind, HasManyRoots, HasNoFree, HasSoundHeader, HeaderFault, IfSome, In, InCell, InPageAs, InRow, InRowAs, InRowAt, InRowBelow, InRowsOf, IsAboveOf, IsAutoVacuum, IsBarred, IsBelow, IsDealtWith, IsFaultOf, IsFirst, IsFound, IsFoundFault, IsFreeCount, IsHeaderNamed, IsHome, IsInShortRow, IsItemFound, IsItemOf, IsJudged, IsLargestFault, IsLargestIn, IsLeafFound, IsLeafFrom, IsLevelFound, IsLookedAt, IsLookedThrough, IsNamed, IsNamedFault, IsPage, IsPageSize, IsProper, IsProperRoot, IsPutDown, IsReached, IsReserved, IsRoleIn, IsRoleOf, IsRootAt, IsRootIn, IsRowsPage, IsSchemaLeaf, IsSetAside, IsSound, IsSoundPage, IsSurveyed, IsThrough, IsToldBy, IsWhole, IsWithin, IsWrongAt, Item, Judged, KeepsFound, KeepsWalk, Kind, Leaf, LevelAfter, Link, LinkFits, List, Mapped, Marks, Match, Names, Node, NodeRefused, NodeRefusedBy, None, NotRoot, NotSchema, Off, Option, Overflow, Page, PageOutside, Passes, Place, Pushes, PutsAside, PutsRole, Role, Root, RootsMatch, Some, Spot, StandsAt, StandsBy, StandsIn, StandsInRow, StandsNow, TableLeaf, TellsFound, TellsLargest, Tour, Tree, Trunk, Unused, Uses, Visited, Walk, Walking, [], all_rows, ap, append-nil, append_assoc, arith, both_ok, byte, cases_eq, cell_count, child, code_of, cond, count_by, drop, drop-cons, drop_all, either, every_append, every_from_in, every_in, every_index, every_weaker, exits, exits_as, false, fewer_unmarked, first, first_child, first_root, first_root_spot, first_sized, first_trunk, first_trunk_place, first_trunk_spot, fits_under, free_leads, free_leaf, free_pages, from_map, get_or, head_at, header_sound, home, if_err, if_ok, in_left, in_map, in_right, inl, inr, is_free, is_interior, is_marked, is_of_header, is_root, is_table, kind_once, leaf, leaf_count_in, least_page_size, length, length_marked, link, link_leads, map, match_append, most_faults, most_leaves, next, next_in, no_more, node, node_in, none_used, not_before, now_marked, numbers, on_match, on_ok, overflow, page_as, places, refl, reverse, role_at, role_by, role_of, root, stands_in, subst, suc, sum_by-cons, sym, take, take-append-drop, take_all, take_more, true, trunk, unused_faults, usable_size, visits_more, visits_of, walks_more, with_items_is, word, ℕ, ⊎_elim, ◌++◌, ◌+◌, ◌-◌, ◌<◌, ◌==◌, ◌∙◌, ◌∷◌, ◌≡◌, ◌≢◌, ◌≤◌, ◌⊎◌}
unfoldable pub use Rattle.sqcheck.proofs.Between.{page}
pub use Rattle.sqcheck.proofs.btree.EnteredPage.{Aside, entered_aside, entered_knows, entered_page, entered_pushes, entered_sound}
pub use Rattle.sqcheck.proofs.btree.FaultsOfTreePage.{as_page, keys_refused, kind_read, layout_refused, level_put, page_refused}
pub use Rattle.sqcheck.proofs.checks.PhasesOfCheck.{all_visited, becomes_late, begins_root, begins_trunk, concludes, first_root_at, first_roots, free_count_stands, free_visited, is_long, largest_stands, last_root, mapped_of, none_left, once_of, reported, rows_pages, unused_stands}
pub use Rattle.sqcheck.proofs.checks.RowsOfSurvey.{adds_nothing, chain_adds, none_below, none_of, page_adds, pages_add, row_adds, rows_add}
pub use Rattle.sqcheck.proofs.visit.ChartedPlaces.{judged_by, leaves_kept, leaves_more, mapped_left, mapped_taken, mapped_told, named_too, node_found_so, same_uses, through}
pub use Rattle.sqcheck.proofs.visit.FaultsFound.{entry_found, every_take, header_found, header_kind, level_found, names_down, names_more, put_down_is, refusal_found, refusal_of, root_outside, row_told, taken, tells_both, tells_nothing, tells_one, told_more, told_unused, unnamed, unused_at}
pub use Rattle.sqcheck.proofs.visit.FollowedItem.{knows_at, node_followed, node_passed, other_followed, other_passed, used_read}
pub use Rattle.sqcheck.proofs.visit.FoundPlaces.{along_reserved, cell_found, found_in_row, found_roles, judged_roles, leads, leads_back, never_refused, none_free, page_found, role_in, root_item, whole}
pub use Rattle.sqcheck.proofs.visit.FreelistTrunks.{last_visited, leaf_more, leaf_visited, leaves_none, link_visited, next_none, next_pushed, trunk_visited}
pub use Rattle.sqcheck.proofs.visit.StepsOfWalk.{ends_walk, entry_stands, knows_top, node_stands, nothing_popped, popped_top, proper_top, starts_walk, walk_refused, walks_on}
