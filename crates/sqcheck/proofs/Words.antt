-- What the proofs cite of the definitions and of the library.
pub use Rattle.byteorder.specs.Endian.{big_number}
pub use Rattle.sqcheck.specs.Found.{HasFoundLeaf, HasManyRoots, IsFaultOf, IsFound, IsFoundFault, IsInShortRow, IsRoleIn, IsWhole, IsWrongAt}
pub use Rattle.sqcheck.specs.Places.{HasKind, InCell, InLink, InNode, InPageAs, InRow, InRowAs, InTrunk, IsCellAt, IsFirst, IsKeyBefore, IsRightChild, IsRootOf, IsRow, IsSchemaRow, Node, Place, Spot, StandsIn, StandsInRow, below, child, first, first_root, first_root_spot, first_trunk_place, first_trunk_spot, free_leaf, holder, leaf, link, names_table, next, node, overflow, page_as, root, root_of_tree, spot, stands_in, stands_in_row, trunk, used_in}
pub use Rattle.sqcheck.specs.Roles.{AreRoles, HasRole, IsRoleOf, IsRoleSetAside, Told, Visit}
pub use Rattle.sqcheck.specs.Stands.{AreFreePlaces, AsBtreePage, HasKeyOutOfOrder, IsAsideWith, NodeRefused, NodeRefusedBy, PageWrongBy, Stands, StandsBy, StandsWith, is_of_header}
pub use Rattle.sqcheck.specs.Surveys.{AreAllRoles, AreFoundFaults, AreFoundRoles, AreFreePages, FindsDamagedWith, HasFreeCount, HasJudgedRole, IsLargestIn, IsLookedAt, IsLookedThrough, IsNamed, IsNamedFault, IsRootIn, Names, SurveyRefusedWith, most_faults, role_at}
pub use Rattle.sqcheck.specs.WellFormed.{AreEachOnce, AreMapped, FirstLeaf, HasEntry, HasSoundHeader, HasSoundRows, IsAtMost, IsAutoVacuum, IsBefore, IsInOrder, IsLargestRoot, IsReached, IsReport, IsSetAside, IsSound, IsSoundAs, IsSoundNode, IsSoundPage, IsSoundWith, KeysRise, SaysSo, WellFormed, WellFormedWith, down, first_child, here, is_free, is_link, is_node, is_root, kind_named, numbers, parent_by}
pub use Rattle.sqcheck.specs.declared.chart.Chart.{Chart}
pub use Rattle.sqcheck.specs.declared.item.Item.{Item}
pub use Rattle.sqcheck.specs.declared.item.Task.{Task}
pub use Rattle.sqcheck.specs.declared.item.Task.TheVariants.{Leaf, Link, Trunk}
pub use Rattle.sqcheck.specs.declared.node.Walk.{Walk}
pub use Rattle.sqcheck.specs.declared.report.Report.{Report}
pub use Rattle.sqcheck.specs.declared.role.Role.{Role}
pub use Rattle.sqcheck.specs.declared.role.Role.TheVariants.{Btree, FreeLeaf, FreeTrunk, LockByte, Overflow, PointerMap, Unused}
pub use Rattle.sqcheck.specs.declared.schema.Root.{Root}
pub use Rattle.sqcheck.specs.declared.survey.Survey.{Survey}
pub use Rattle.sqcheck.specs.declared.tree.Tree.{Tree}
pub use Rattle.sqcheck.specs.declared.uses.Counts.{Counts}
pub use Rattle.sqcheck.specs.declared.uses.Uses.{Uses}
pub use Rattle.sqcheck.specs.internal.Agenda.{Agenda, AreCounted, AreEntered, AreMarked, IsAside, IsHome, LinkFits, MarksAside, NotRoot, NotSchema, Off, RowsAre, StandsAsked, StandsNow, Stems, Stood, Tour, Walking, WalksOn, home, places}
pub use Rattle.sqcheck.specs.internal.Chains.{KeepsTaken, TakesChain, TakesPage, is_taken}
pub use Rattle.sqcheck.specs.internal.Charting.{ArePutDown, unused_fault, unused_faults}
pub use Rattle.sqcheck.specs.internal.Checking.{IsReportOf, KnowsMaps, MarksMaps, MarksOne, StandsAt, Visited, VisitsMore, Walks}
pub use Rattle.sqcheck.specs.internal.Counting.{AddsItem, in_btree, in_freelist, in_overflow, in_trees, root_in}
pub use Rattle.sqcheck.specs.internal.Found.{AddsRoot, AddsRoots, AreFound, AreLeaves, AreRolesFound, AreToldFound, Begins, ComesNext, FreeDiffers, HasFound, HasNoFree, IsAboveOf, IsBarred, IsCellFound, IsDealtWith, IsFreeCount, IsHeaderNamed, IsItemFound, IsJudged, IsLargestFault, IsLeafFound, IsLevelFound, IsPageFound, IsProperRoot, IsRootFound, IsSurveyed, IsThrough, IsToldBy, Mapped, PutsRole, TellsFound, TellsLargest, TellsRow}
pub use Rattle.sqcheck.specs.internal.Heading.{HasHeaderOf, HeaderFault}
pub use Rattle.sqcheck.specs.internal.Roles.{TellsOf}
pub use Rattle.sqcheck.specs.internal.Schema.{AllSchemaRows, AreSchemaRows, Finds, InRowAt, InRowBelow, InRowsOf, IsRootAt, IsRowsPage, KeepsFound, RootsMatch}
pub use Rattle.sqcheck.specs.internal.Snapshots.{Keeps}
pub use Rattle.sqcheck.specs.internal.Surveys.{AreSetDown, Charts, IsEnd, IsReserved, IsSetDown, KnowsReserved}
pub use Rattle.sqcheck.specs.internal.Walking.{Enters, EntryRefused, EntrySays, FollowRefused, FollowRefusedBy, Follows, InCellFrom, IsBelow, IsChild, IsEntryOf, IsFirstLevel, IsItemOf, IsLeafFrom, IsMapped, IsNextTrunk, IsProper, IsPutDown, IsSchemaLeaf, Judged, KeepsWalk, Knows, KnowsAt, LeadsOn, LevelAfter, LevelAt, LinksOn, Match, Opens, PageWrong, Passes, Pushes, PutsAside, TopLeads, Visits, node_in, role_of}
pub use Rattle.sqpage.proofs.btree.LayoutOfPage.{not_laid_out}
pub use Rattle.sqpage.proofs.btree.PartsOfCells.{SameCell, cell_once}
pub use Rattle.sqpage.proofs.chain.ListsByRecursion.{apart_snoc, every_append, every_from_in, every_in, in_cases, in_left, in_right}
pub use Rattle.sqpage.proofs.chain.OverflowChains.{length_marked, length_snoc, linked_on}
pub use Rattle.sqpage.proofs.chain.TakenPages.{fewer_unmarked}
pub use Rattle.sqpage.proofs.file.PagesInMemory.{keeps_on, least_page_size}
pub use Rattle.sqpage.proofs.file.PointerMapGroups.{IsIn, map_low, one_group}
pub use Rattle.sqpage.specs.Chain.{ChainRefused, IsPayload, bytes_beyond, contents, links, payload_size}
pub use Rattle.sqpage.specs.Freelist.{IsPage, IsWithin, Leads, first_trunk, free_pages, leaf_count_in, leaf_in, most_leaves, next_in, usable_size}
pub use Rattle.sqpage.specs.Header.{HasFractions, HasMagic, HasPageSize, HasRoom, HeaderRefused, IsHeader, byte, size_named, size_named_by}
pub use Rattle.sqpage.specs.Layout.{IsLaidOut, LayoutRefused}
pub use Rattle.sqpage.specs.Lists.{Apart, Every, In}
pub use Rattle.sqpage.specs.Page.{FourBytes, IsBtreePage, IsCell, Page, PageRefused, cell_count, code_of, has_payload, head_at, if_present, is_interior, is_table, local_size, pointer}
pub use Rattle.sqpage.specs.PointerMaps.{IsEntryPlace, IsPointerMap, group_map, group_start, kind_code, lock_byte_page}
pub use Rattle.sqpage.specs.Source.{KeepsPages, UnlessUnread}
pub use Rattle.sqpage.specs.declared.cell.Cell.{Cell}
pub use Rattle.sqpage.specs.declared.fault.CheckError.{CheckError}
pub use Rattle.sqpage.specs.declared.fault.Fault.{Fault}
pub use Rattle.sqpage.specs.declared.fault.Fault.TheVariants.{PageOutside, PageUnused}
pub use Rattle.sqpage.specs.declared.header.DbHeader.{DbHeader}
pub use Rattle.sqpage.specs.declared.kind.Kind.{Kind}
pub use Rattle.sqpage.specs.declared.kind.Kind.TheVariants.{IndexInterior, IndexLeaf, TableInterior, TableLeaf}
pub use Rattle.sqpage.specs.declared.pointer_map.EntryPlace.{EntryPlace}
pub use Rattle.sqpage.specs.internal.Taking.{MarkRefused, Marks, is_marked}
pub use Rattle.sqval.specs.Bytes.{part, word}
pub use Rattle.sqval.specs.Database.{Database}
unfoldable pub use Rattle.sqval.specs.Database.{page}
pub use Rattle.sqval.specs.PageSize.{IsPageSize}
pub use Rattle.std.proofs.Common.{Bool, Err, Global, IfErr, IfOk, IfSome, IsErrAnd, IsTrue, List, MatchResult, None, Ok, OnOk, Option, Result, Some, Vec, [], add-one, ap, append-nil, append_assoc, arith, cond, count_by, drop, eq-eqb, eqb, false, flat_map, get_or, inl, inr, length, length-append, map, nat_lt, not, refl, replicate, reverse, rules, set, subst, suc, sym, take, true, unwrap_or, vec_len, zero, ℕ, ℤ, ⊎_elim, ◌*◌, ◌++◌, ◌+◌, ◌-◌, ◌/◌, ◌<◌, ◌==◌, ◌^◌, ◌↔◌, ◌∙◌, ◌∷◌, ◌≡◌, ◌≢◌, ◌≤◌, ◌⊎◌}
pub use Rattle.std.proofs.Math.Nat.{div-lt_iff_lt-mul}
pub use Rattle.std.proofs.Math.Seq.{drop-cons, take-append-add, take-suc}
pub use Rattle.std.proofs.lemmas.Bool.{cases_Bool, cases_eq, cases_lt, eqb-true}
pub use Rattle.std.proofs.lemmas.List.{drop_all, get_or-set_other, get_or-set_same, get_or-take, length-replicate, length-set, length-take, length-take-le, reverse-append, take-append-drop, take-append-le, take_all, take_more, with_items_is}
pub use Rattle.std.proofs.lemmas.List.Sums.{count_by-le-length, sum_by-append, sum_by-cons}
pub use Rattle.std.specs.Result.{is_err}
pub use Rattle.std.specs.Vec.{with_items}
