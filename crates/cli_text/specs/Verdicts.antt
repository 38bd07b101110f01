-- How it is printed what a check finds (own).
use Rattle.std.specs.Prelude.{List, ℕ, [], ◌∷◌, ◌++◌, codes}
use Rattle.std.specs.Fmt.{decimal}
use Rattle.sqpage.specs.Faults.{number_of, name_of}
use Rattle.sqpage.specs.declared.fault.CheckError.{CheckError}
use Rattle.sqcheck.specs.declared.report.Report.{Report}
use Rattle.cli_words.specs.declared.requests.Style.{Style}
use Rattle.cli_words.specs.declared.requests.Style.TheVariants.{Lines, Json}
use Rattle.cli_text.specs.Facts.{number_text, object_text, word_text}

-- a well-formed database: its pages by their use
abbrev pub report_text : Style → Report → List ℕ
report_text Lines r =
    codes "clean: " ++ (decimal r.pages ++ (codes " pages, " ++ (decimal r.trees ++ (codes " trees, "
    ++ (decimal r.btree ++ (codes " b-tree, " ++ (decimal r.overflow ++ (codes " overflow, " ++ (decimal r.free ++ codes " free\n")))))))))
report_text Json r = object_text Json (
    word_text Json (codes "check") (codes "clean")
    ∷ number_text Json (codes "pages") r.pages
    ∷ number_text Json (codes "trees") r.trees
    ∷ number_text Json (codes "b-tree") r.btree
    ∷ number_text Json (codes "overflow") r.overflow
    ∷ number_text Json (codes "free") r.free ∷ [])

-- a fault at a page
abbrev pub fault_text : Style → CheckError → List ℕ
fault_text Lines e =
    codes "page " ++ (decimal e.page ++ (codes ": fault " ++ (decimal (number_of e.fault) ++ (codes " " ++ (name_of e.fault ++ codes "\n")))))
fault_text Json e = object_text Json (
    number_text Json (codes "page") e.page
    ∷ number_text Json (codes "fault") (number_of e.fault)
    ∷ word_text Json (codes "name") (name_of e.fault) ∷ [])

-- that nothing of a kind is there
abbrev pub none_text : Style → (what : List ℕ) → List ℕ
none_text Lines what = codes "no " ++ (what ++ codes "\n")
none_text Json what = object_text Json (word_text Json what (codes "none") ∷ [])
