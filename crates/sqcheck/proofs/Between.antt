-- The same, with the facts that stand on those.
pub use Rattle.sqcheck.proofs.Below.{AddsItem, AddsRoot, AddsRoots, Agenda, AllSchemaRows, Apart, AreAllRoles, AreCounted, AreEachOnce, AreEntered, AreFound, AreFoundFaults, AreFoundRoles, AreFreePages, AreLeaves, AreMapped, AreMarked, ArePutDown, AreRolesFound, AreSchemaRows, AreSetDown, AreToldFound, Begins, Bool, Btree, Cell, Chart, Charts, CheckError, ComesNext, Counts, Database, Enters, EntryPlace, EntryRefused, EntrySays, Err, Every, Fault, Finds, FindsDamagedWith, FirstLeaf, FollowRefused, FollowRefusedBy, Follows, FourBytes, FreeDiffers, FreeLeaf, FreeTrunk, HasEntry, HasFound, HasFoundLeaf, HasFreeCount, HasHeaderOf, HasJudgedRole, HasKeyOutOfOrder, HasKind, HasManyRoots, HasNoFree, HasSoundHeader, HasSoundRows, HeaderFault, IfErr, IfOk, IfSome, In, InCell, InCellFrom, InLink, InNode, InPageAs, InRow, InRowAs, InRowAt, InRowBelow, InRowsOf, InTrunk, IndexInterior, IndexLeaf, IsAboveOf, IsAside, IsAsideWith, IsAutoVacuum, IsBarred, IsBelow, IsBtreePage, IsCell, IsCellAt, IsCellFound, IsChild, IsDealtWith, IsEnd, IsEntryPlace, IsFaultOf, IsFirst, IsFirstLevel, IsFound, IsFoundFault, IsFreeCount, IsHeaderNamed, IsHome, IsInShortRow, IsItemFound, IsItemOf, IsJudged, IsLargestFault, IsLargestIn, IsLargestRoot, IsLeafFound, IsLeafFrom, IsLevelFound, IsLookedAt, IsLookedThrough, IsMapped, IsNamed, IsNamedFault, IsNextTrunk, IsPage, IsPageFound, IsPageSize, IsPayload, IsPointerMap, IsProper, IsProperRoot, IsPutDown, IsReached, IsReport, IsReportOf, IsReserved, IsRoleIn, IsRoleOf, IsRoleSetAside, IsRootAt, IsRootFound, IsRootIn, IsRow, IsRowsPage, IsSchemaLeaf, IsSchemaRow, IsSetAside, IsSetDown, IsSound, IsSoundAs, IsSoundNode, IsSoundPage, IsSoundWith, IsSurveyed, IsThrough, IsToldBy, IsTrue, IsWhole, IsWithin, IsWrongAt, Item, Judged, KeepsFound, KeepsPages, KeepsWalk, Kind, Knows, KnowsAt, KnowsReserved, LayoutRefused, Leads, LeadsOn, Leaf, LevelAfter, LevelAt, Link, LinkFits, LinksOn, List, LockByte, Mapped, MarkRefused, Marks, MarksAside, Match, Names, Node, NodeRefused, NodeRefusedBy, None, NotRoot, NotSchema, Off, Ok, Opens, Option, Overflow, Page, PageOutside, PageRefused, PageWrong, PageWrongBy, Passes, Place, PointerMap, Pushes, PutsAside, PutsRole, Report, Result, Role, Root, RootsMatch, RowsAre, SaysSo, Some, Spot, Stands, StandsAsked, StandsAt, StandsBy, StandsIn, StandsInRow, StandsNow, StandsWith, Stems, Stood, Survey, SurveyRefusedWith, TableInterior, TableLeaf, Task, TellsFound, TellsLargest, TellsRow, TopLeads, Tour, Tree, Trunk, UnlessUnread, Unused, Uses, Visited, Visits, Walk, Walking, WellFormed, WellFormedWith, [], ap, apart_append, apart_snoc, append-nil, append_assoc, arith, both_ok, byte, bytes_beyond, cases_Bool, cases_eq, cases_lt, cell_count, cell_once, child, code_of, cond, contents, count_by, count_by-le-length, down, drop, drop-cons, drop_all, either, err_of, every_append, every_from_in, every_in, every_map, every_weaker, exits, exits_as, false, fewer_unmarked, first, first_child, first_root, first_root_spot, first_trunk, first_trunk_place, first_trunk_spot, free_leaf, free_pages, from_map, get_or, get_or-set_other, get_or-set_same, has_payload, head_at, here, holder, home, if_both, if_err, if_ok, if_present, in_btree, in_cases, in_freelist, in_left, in_map, in_overflow, in_right, in_trees, inl, inr, is_free, is_interior, is_link, is_marked, is_node, is_of_header, is_root, is_table, keeps_on, kind_code, kind_named, leaf, leaf_count_in, leaf_in, least_page_size, length, length-append, length-take-le, length_marked, length_snoc, link, linked_on, links, local_size, lock_byte_page, map, map_append, most_faults, most_leaves, names_table, nat_lt, next, next_in, no_more, node, node_in, not, numbers, of_ok, ok_of, on_match, on_ok, overflow, page_as, parent_by, passing, payload_size, places, refl, refused_by, reverse, reverse-append, role_at, role_by, role_of, root, root_in, root_of_tree, rules, set, spot, stands_in, stands_in_row, subst, suc, sum_by-append, sum_by-cons, sym, take, take-append-drop, take_all, take_more, true, trunk, unused_fault, unused_faults, unwrap_or, usable_size, used_in, visits_more, visits_of, walks_more, with_items_is, word, zero, ℕ, ℤ, ⊎_elim, ◌++◌, ◌+◌, ◌-◌, ◌/◌, ◌<◌, ◌==◌, ◌∙◌, ◌∷◌, ◌≡◌, ◌≢◌, ◌≤◌, ◌⊎◌}
unfoldable pub use Rattle.sqcheck.proofs.Below.{page}
pub use Rattle.sqcheck.proofs.btree.KeysAndPlaces.{ChildFrom, IsNext, IsNoNode, Rising, chain_more, chain_not, chains_all, chains_none, child_more, children_all, children_none, first_is, free_leads, link_leads, match_append, needs, node_leads, push_both, push_none, push_nothing, push_one, rise_breaks, rise_ends, rise_goes_on, says_no, says_yes}
pub use Rattle.sqcheck.proofs.checks.ChartOfAllPages.{SetTo, all_roles, told_long}
pub use Rattle.sqcheck.proofs.checks.EndsOfCheck.{first_sized, header_sound, header_stands, knows_maps, maps_all, maps_used, memory_now, no_magic, none_used, page_stands, stands_read}
pub use Rattle.sqcheck.proofs.checks.RefutationOfWellFormedness.{code_once, kind_once, none_stands}
pub use Rattle.sqcheck.proofs.checks.RowsOfSchema.{all_rows, every_index, is_no_memory, keep_nothing, no_row_fault, not_before, page_more, roots_append, row_more, row_once, row_stands}
pub use Rattle.sqcheck.proofs.checks.TakenChains.{Taking, chain_taken, taking_more, taking_none}
pub use Rattle.sqcheck.proofs.visit.AgendaOfWalk.{drops, fits_under, follows, fresh_marked, now_marked, tours, twice, under_it}
