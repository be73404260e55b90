use Rattle.std.proofs.Common.{◌≡◌, ◌≢◌, ◌∙◌, ◌++◌, ℕ, List, [], Option, Some, sym, ap, subst}
use Rattle.std.proofs.lemmas.Result.{err_from_is_err_and}
use Rattle.pe_view.specs.View.{bytes_of}
use Rattle.pe_view.specs.declared.fault.Fault.{Fault}
use Rattle.pe_view.specs.Standing.{Adds, standing}
use Rattle.pe_view.specs.AllStanding.{adds_after, adds_wants, some_before}
use Rattle.pe_head.specs.declared.directory.Directory.{Directory}
use Rattle.pe_layout.specs.Layout.{image_of}
use Rattle.pe_records.specs.LoadConfiguration.{size_at}
use Rattle.pe_records.specs.LoadTests.{load_tests, load_tests_at, load_tests_of, size_tests, tables_tests}
use Rattle.pe_records.specs.Structure.{structure_bytes}
use Rattle.pe_records.proofs.load_finding.find_load_configuration.Goals as goal

pub returns-in_err-find_size : goal.returns-in_err-find_size
returns-in_err-find_size g c =
    let i = image_of c.args.layout.now in
    let d = c.in-Some.directory in
    let size : ℕ = c.in-Some-size_at.size in
    let present : i.directory 10 ≡ Some d = sym c.directory.ensures ∙ c.in-Some.is in
    let sized : size_at i d.rva ≡ Some size = sym c.size_at.ensures ∙ c.in-Some-size_at.is in
    let all : standing (load_tests_of i d.rva (Some size)) ≢ [] =
    some_before (size_tests i d.rva size) (tables_tests i d.rva i.slot_width (structure_bytes i d.rva size)) c.in_err-find_size.ensures in
    let some : standing (load_tests i) ≢ [] =
    λ none. all (ap (λ (o : Option ℕ). standing (load_tests_of i d.rva o)) (sym sized) ∙ ap (λ (o : Option Directory). standing (load_tests_at i o)) (sym present) ∙ none) in
    let p = err_from_is_err_and c.from_residual.result c.from_residual.ensures.1 in
    adds_wants (load_tests i) c.args.findings.now.items c.find_size.new.findings.items c.from_residual.result p.0 p.1 some

pub returns : goal.returns
returns g c =
    let i = image_of c.args.layout.now in
    let d = c.in-Some.directory in
    let size : ℕ = c.in-Some-size_at.size in
    let old = c.args.findings.now.items in
    let middle = c.find_size.new.findings.items in
    let new = c.find_tables.new.findings.items in
    let present : i.directory 10 ≡ Some d = sym c.directory.ensures ∙ c.in-Some.is in
    let sized : size_at i d.rva ≡ Some size = sym c.size_at.ensures ∙ c.in-Some-size_at.is in
    let wide : Adds (tables_tests i d.rva i.slot_width (bytes_of c.of-structure.result.bytes)) middle new c.find_tables.result =
    subst (λ (n : ℕ). Adds (tables_tests i d.rva n (bytes_of c.of-structure.result.bytes)) middle new c.find_tables.result) c.of-structure.ensures.width c.find_tables.ensures in
    let second : Adds (tables_tests i d.rva i.slot_width (structure_bytes i d.rva size)) middle new c.find_tables.result =
    subst (λ (bytes : List ℕ). Adds (tables_tests i d.rva i.slot_width bytes) middle new c.find_tables.result) c.of-structure.ensures.bytes wide in
    let all : Adds (load_tests_of i d.rva (Some size)) old new c.find_tables.result =
    adds_after (size_tests i d.rva size) (tables_tests i d.rva i.slot_width (structure_bytes i d.rva size)) old middle new c.find_tables.result c.in_ok-find_size.ensures second in
    let of_size : Adds (load_tests_of i d.rva (size_at i d.rva)) old new c.find_tables.result =
    subst (λ (o : Option ℕ). Adds (load_tests_of i d.rva o) old new c.find_tables.result) (sym sized) all in
    subst (λ (o : Option Directory). Adds (load_tests_at i o) old new c.find_tables.result) (sym present) of_size
