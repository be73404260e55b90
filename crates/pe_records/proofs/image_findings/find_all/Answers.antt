use Rattle.std.proofs.Common.{◌≡◌, ◌≢◌, ◌++◌, [], List}
use Rattle.std.proofs.lemmas.Result.{err_from_is_err_and}
use Rattle.pe_view.specs.Faults.{Test}
use Rattle.pe_view.specs.View.{bytes_of}
use Rattle.pe_view.specs.Standing.{standing}
use Rattle.pe_view.specs.AllStanding.{adds_after, adds_wants, some_after, some_before}
use Rattle.pe_layout.specs.Layout.{headers_of, image_of}
use Rattle.pe_records.specs.BoundImportTests.{bound_tests}
use Rattle.pe_records.specs.ClrHeader.{clr_tests}
use Rattle.pe_records.specs.Exceptions.{exception_tests}
use Rattle.pe_records.specs.FindingTests.{debug_tests, finding_tests}
use Rattle.pe_records.specs.LoadTests.{load_tests}
use Rattle.pe_records.specs.TlsTests.{tls_tests}
use Rattle.pe_records.proofs.image_findings.find_all.Goals as goal

pub returns-in_err-find_table : goal.returns-in_err-find_table
returns-in_err-find_table g c =
    let i = image_of c.args.layout.now in
    let file = bytes_of c.args.file in
    let machine = (headers_of c.args.layout.now).machine in
    let some : standing (finding_tests machine i file) ≢ [] =
    some_before (debug_tests i file) (exception_tests machine i file ++ (tls_tests i ++ (load_tests i ++ (bound_tests i ++ clr_tests i)))) c.in_err-find_table.ensures in
    let p = err_from_is_err_and c.from_residual.result c.from_residual.ensures.1 in
    adds_wants (finding_tests machine i file) c.args.findings.now.items c.find_table.new.findings.items c.from_residual.result p.0 p.1 some

pub returns-in_err-find_exceptions : goal.returns-in_err-find_exceptions
returns-in_err-find_exceptions g c =
    let i = image_of c.args.layout.now in
    let file = bytes_of c.args.file in
    let machine = (headers_of c.args.layout.now).machine in
    let rest = tls_tests i ++ (load_tests i ++ (bound_tests i ++ clr_tests i)) in
    let some : standing (finding_tests machine i file) ≢ [] =
    some_after (debug_tests i file) (exception_tests machine i file ++ rest) (some_before (exception_tests machine i file) rest c.in_err-find_exceptions.ensures) in
    let p = err_from_is_err_and c.from_residual-in_err-find_exceptions.result c.from_residual-in_err-find_exceptions.ensures.1 in
    adds_wants (finding_tests machine i file) c.args.findings.now.items c.find_exceptions.new.findings.items c.from_residual-in_err-find_exceptions.result p.0 p.1 some

pub returns-in_err-find_tls : goal.returns-in_err-find_tls
returns-in_err-find_tls g c =
    let i = image_of c.args.layout.now in
    let file = bytes_of c.args.file in
    let machine = (headers_of c.args.layout.now).machine in
    let rest = load_tests i ++ (bound_tests i ++ clr_tests i) in
    let some : standing (finding_tests machine i file) ≢ [] =
    some_after (debug_tests i file) (exception_tests machine i file ++ (tls_tests i ++ rest))
    (some_after (exception_tests machine i file) (tls_tests i ++ rest) (some_before (tls_tests i) rest c.in_err-find_tls.ensures)) in
    let p = err_from_is_err_and c.from_residual-in_err-find_tls.result c.from_residual-in_err-find_tls.ensures.1 in
    adds_wants (finding_tests machine i file) c.args.findings.now.items c.find_tls.new.findings.items c.from_residual-in_err-find_tls.result p.0 p.1 some

pub returns-in_err-find_load_configuration : goal.returns-in_err-find_load_configuration
returns-in_err-find_load_configuration g c =
    let i = image_of c.args.layout.now in
    let file = bytes_of c.args.file in
    let machine = (headers_of c.args.layout.now).machine in
    let rest = bound_tests i ++ clr_tests i in
    let some : standing (finding_tests machine i file) ≢ [] =
    some_after (debug_tests i file) (exception_tests machine i file ++ (tls_tests i ++ (load_tests i ++ rest)))
    (some_after (exception_tests machine i file) (tls_tests i ++ (load_tests i ++ rest))
    (some_after (tls_tests i) (load_tests i ++ rest) (some_before (load_tests i) rest c.in_err-find_load_configuration.ensures))) in
    let p = err_from_is_err_and c.from_residual-in_err-find_load_configuration.result c.from_residual-in_err-find_load_configuration.ensures.1 in
    adds_wants (finding_tests machine i file) c.args.findings.now.items c.find_load_configuration.new.findings.items c.from_residual-in_err-find_load_configuration.result p.0 p.1 some

pub returns-in_err-find_bound_imports : goal.returns-in_err-find_bound_imports
returns-in_err-find_bound_imports g c =
    let i = image_of c.args.layout.now in
    let file = bytes_of c.args.file in
    let machine = (headers_of c.args.layout.now).machine in
    let some : standing (finding_tests machine i file) ≢ [] =
    some_after (debug_tests i file) (exception_tests machine i file ++ (tls_tests i ++ (load_tests i ++ (bound_tests i ++ clr_tests i))))
    (some_after (exception_tests machine i file) (tls_tests i ++ (load_tests i ++ (bound_tests i ++ clr_tests i)))
    (some_after (tls_tests i) (load_tests i ++ (bound_tests i ++ clr_tests i))
    (some_after (load_tests i) (bound_tests i ++ clr_tests i) (some_before (bound_tests i) (clr_tests i) c.in_err-find_bound_imports.ensures)))) in
    let p = err_from_is_err_and c.from_residual-in_err-find_bound_imports.result c.from_residual-in_err-find_bound_imports.ensures.1 in
    adds_wants (finding_tests machine i file) c.args.findings.now.items c.find_bound_imports.new.findings.items c.from_residual-in_err-find_bound_imports.result p.0 p.1 some

pub returns : goal.returns
returns g c =
    let i = image_of c.args.layout.now in
    let file = bytes_of c.args.file in
    let machine = (headers_of c.args.layout.now).machine in
    let old = c.args.findings.now.items in
    let a = c.find_table.new.findings.items in
    let b = c.find_exceptions.new.findings.items in
    let d = c.find_tls.new.findings.items in
    let e = c.find_load_configuration.new.findings.items in
    let f = c.find_bound_imports.new.findings.items in
    let new = c.find_clr.new.findings.items in
    adds_after (debug_tests i file) (exception_tests machine i file ++ (tls_tests i ++ (load_tests i ++ (bound_tests i ++ clr_tests i)))) old a new c.find_clr.result c.in_ok-find_table.ensures
    (adds_after (exception_tests machine i file) (tls_tests i ++ (load_tests i ++ (bound_tests i ++ clr_tests i))) a b new c.find_clr.result c.in_ok-find_exceptions.ensures
    (adds_after (tls_tests i) (load_tests i ++ (bound_tests i ++ clr_tests i)) b d new c.find_clr.result c.in_ok-find_tls.ensures
    (adds_after (load_tests i) (bound_tests i ++ clr_tests i) d e new c.find_clr.result c.in_ok-find_load_configuration.ensures
    (adds_after (bound_tests i) (clr_tests i) e f new c.find_clr.result c.in_ok-find_bound_imports.ensures c.find_clr.ensures))))
