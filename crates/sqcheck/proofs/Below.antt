-- The same, with the facts that stand on no others.
pub use Rattle.sqcheck.proofs.Words.{AddsItem, AddsRoot, AddsRoots, Agenda, AllSchemaRows, Apart, AreAllRoles, AreCounted, AreEachOnce, AreEntered, AreFound, AreFoundFaults, AreFoundRoles, AreFreePages, AreFreePlaces, AreLeaves, AreMapped, AreMarked, ArePutDown, AreRoles, AreRolesFound, AreSchemaRows, AreSetDown, AreToldFound, AsBtreePage, Begins, Bool, Btree, Cell, ChainRefused, Chart, Charts, CheckError, ComesNext, Counts, Database, DbHeader, Enters, EntryPlace, EntryRefused, EntrySays, Err, Every, Fault, Finds, FindsDamagedWith, FirstLeaf, FollowRefused, FollowRefusedBy, Follows, FourBytes, FreeDiffers, FreeLeaf, FreeTrunk, Global, HasEntry, HasFound, HasFoundLeaf, HasFreeCount, HasHeaderOf, HasJudgedRole, HasKeyOutOfOrder, HasKind, HasMagic, HasManyRoots, HasNoFree, HasPageSize, HasRole, HasSoundHeader, HasSoundRows, HeaderFault, HeaderRefused, IfErr, IfOk, IfSome, In, InCell, InCellFrom, InLink, InNode, InPageAs, InRow, InRowAs, InRowAt, InRowBelow, InRowsOf, InTrunk, IndexInterior, IndexLeaf, IsAboveOf, IsAside, IsAsideWith, IsAtMost, IsAutoVacuum, IsBarred, IsBefore, IsBelow, IsBtreePage, IsCell, IsCellAt, IsCellFound, IsChild, IsDealtWith, IsEnd, IsEntryPlace, IsFaultOf, IsFirst, IsFirstLevel, IsFound, IsFoundFault, IsFreeCount, IsHeader, IsHeaderNamed, IsHome, IsInOrder, IsInShortRow, IsItemFound, IsItemOf, IsJudged, IsKeyBefore, IsLaidOut, IsLargestFault, IsLargestIn, IsLargestRoot, IsLeafFound, IsLeafFrom, IsLevelFound, IsLookedAt, IsLookedThrough, IsMapped, IsNamed, IsNamedFault, IsNextTrunk, IsPage, IsPageFound, IsPageSize, IsPayload, IsPointerMap, IsProper, IsProperRoot, IsPutDown, IsReached, IsReport, IsReportOf, IsReserved, IsRightChild, IsRoleIn, IsRoleOf, IsRoleSetAside, IsRootAt, IsRootFound, IsRootIn, IsRow, IsRowsPage, IsSchemaLeaf, IsSchemaRow, IsSetAside, IsSetDown, IsSound, IsSoundAs, IsSoundNode, IsSoundPage, IsSoundWith, IsSurveyed, IsThrough, IsToldBy, IsTrue, IsWhole, IsWithin, IsWrongAt, Item, Judged, KeepsFound, KeepsPages, KeepsTaken, KeepsWalk, KeysRise, Kind, Knows, KnowsAt, KnowsMaps, KnowsReserved, LayoutRefused, Leads, LeadsOn, Leaf, LevelAfter, LevelAt, Link, LinkFits, LinksOn, List, LockByte, Mapped, MarkRefused, Marks, MarksAside, MarksOne, Match, MatchResult, Names, Node, NodeRefused, NodeRefusedBy, None, NotRoot, NotSchema, Off, Ok, Opens, Option, Overflow, Page, PageOutside, PageRefused, PageUnused, PageWrong, PageWrongBy, Passes, Place, PointerMap, Pushes, PutsAside, PutsRole, Report, Result, Role, Root, RootsMatch, RowsAre, SameCell, SaysSo, Some, Spot, Stands, StandsAsked, StandsAt, StandsBy, StandsIn, StandsInRow, StandsNow, StandsWith, Stems, Stood, Survey, SurveyRefusedWith, TableInterior, TableLeaf, TakesChain, TakesPage, Task, TellsFound, TellsLargest, TellsRow, Told, TopLeads, Tour, Tree, Trunk, UnlessUnread, Unused, Uses, Vec, Visit, Visited, Visits, Walk, Walking, WellFormed, WellFormedWith, [], ap, apart_snoc, append-nil, append_assoc, arith, below, byte, bytes_beyond, cases_Bool, cases_eq, cases_lt, cell_count, cell_once, child, code_of, cond, contents, count_by, count_by-le-length, div-lt_iff_lt-mul, down, drop, drop-cons, drop_all, eq-eqb, eqb, eqb-true, every_append, every_from_in, every_in, false, fewer_unmarked, first, first_child, first_root, first_root_spot, first_trunk, first_trunk_place, first_trunk_spot, flat_map, free_leaf, free_pages, get_or, get_or-set_other, get_or-set_same, has_payload, head_at, here, holder, home, if_present, in_btree, in_cases, in_freelist, in_left, in_overflow, in_right, in_trees, inl, inr, is_free, is_interior, is_link, is_marked, is_node, is_of_header, is_root, is_table, is_taken, keeps_on, kind_code, kind_named, leaf, leaf_count_in, leaf_in, least_page_size, length, length-append, length-replicate, length-set, length-take-le, length_marked, length_snoc, link, linked_on, links, local_size, lock_byte_page, map, most_faults, most_leaves, names_table, nat_lt, next, next_in, node, node_in, not, not_laid_out, numbers, overflow, page_as, parent_by, payload_size, places, pointer, refl, replicate, reverse, reverse-append, role_at, role_of, root, root_in, root_of_tree, rules, set, size_named, spot, stands_in, stands_in_row, subst, suc, sum_by-append, sum_by-cons, sym, take, take-append-drop, take-append-le, take_all, take_more, true, trunk, unused_fault, unused_faults, unwrap_or, usable_size, used_in, with_items, with_items_is, word, zero, ℕ, ℤ, ⊎_elim, ◌*◌, ◌++◌, ◌+◌, ◌-◌, ◌/◌, ◌<◌, ◌==◌, ◌↔◌, ◌∙◌, ◌∷◌, ◌≡◌, ◌≢◌, ◌≤◌, ◌⊎◌}
unfoldable pub use Rattle.sqcheck.proofs.Words.{page}
pub use Rattle.sqcheck.proofs.checks.FaultsPutDown.{all_told, next_named, next_told}
pub use Rattle.sqcheck.proofs.checks.HeaderInFirstPage.{heading_is, heading_refused, not_incremental, not_plain, size_differs}
pub use Rattle.sqcheck.proofs.checks.ListsByRecursion.{apart_append, either, every_map, every_weaker, from_map, in_map, map_append, no_more, passing}
pub use Rattle.sqcheck.proofs.checks.PointerMapEntries.{entry_by, entry_once, same_entry}
pub use Rattle.sqcheck.proofs.checks.ResultsOfCalls.{both_ok, err_of, exits, exits_as, if_both, if_err, if_ok, of_ok, ok_of, on_match, on_ok}
pub use Rattle.sqcheck.proofs.visit.MarkedPages.{MarkedTo, aside_marked, maps_barred, maps_marked}
pub use Rattle.sqcheck.proofs.visit.RefusedItems.{refused_by}
pub use Rattle.sqcheck.proofs.visit.VisitedPlaces.{role_by, visits_more, visits_of, walks_more}
