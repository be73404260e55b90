use Rattle.std.proofs.Common.{◌≡◌, ◌≢◌, ◌∙◌, ◌++◌, ℕ, List, [], Option, Some, Result, sym, ap, subst}
use Rattle.std.proofs.lemmas.Result.{err_from_is_err_and}
use Rattle.pe_view.specs.View.{bytes_of}
use Rattle.pe_view.specs.declared.fault.Fault.{Fault}
use Rattle.pe_view.specs.Standing.{Adds, standing}
use Rattle.pe_view.specs.AllStanding.{adds_after, adds_wants, some_before}
use Rattle.pe_head.specs.declared.directory.Directory.{Directory}
use Rattle.pe_layout.specs.Layout.{image_of}
use Rattle.pe_records.specs.TlsFields.{structure_tests, tls_at, tls_in}
use Rattle.pe_records.specs.TlsTests.{callbacks_tests, tls_tests, tls_tests_at}
use Rattle.pe_records.specs.declared.tls_directory.TlsDirectory.{TlsDirectory}
use Rattle.pe_records.proofs.tls_finding.find_tls.Goals as goal

pub returns-in_err-find_structure : goal.returns-in_err-find_structure
returns-in_err-find_structure g c =
    let i = image_of c.args.layout.now in
    let d = c.in-Some.directory in
    let present : i.directory 9 ≡ Some d = sym c.directory.ensures ∙ c.in-Some.is in
    let tls : c.fields-tls.result ≡ tls_at i d.rva =
    c.fields-tls.ensures
    ∙ ap (λ (n : ℕ). tls_in n (bytes_of c.of-structure.result.bytes)) c.of-structure.ensures.width
    ∙ ap (λ (bytes : List ℕ). tls_in i.slot_width bytes) c.of-structure.ensures.bytes in
    let same : standing (structure_tests i d.rva c.fields-tls.result) ≡ standing (structure_tests i d.rva (tls_at i d.rva)) =
    ap (λ (t : TlsDirectory). standing (structure_tests i d.rva t)) tls in
    let first : standing (structure_tests i d.rva (tls_at i d.rva)) ≢ [] = λ none. c.in_err-find_structure.ensures (same ∙ none) in
    let all : standing (tls_tests_at i (Some d)) ≢ [] = some_before (structure_tests i d.rva (tls_at i d.rva)) (callbacks_tests i) first in
    let some : standing (tls_tests i) ≢ [] = λ none. all (ap (λ (o : Option Directory). standing (tls_tests_at i o)) (sym present) ∙ none) in
    let p = err_from_is_err_and c.from_residual.result c.from_residual.ensures.1 in
    adds_wants (tls_tests i) c.args.findings.now.items c.find_structure.new.findings.items c.from_residual.result p.0 p.1 some

pub returns : goal.returns
returns g c =
    let i = image_of c.args.layout.now in
    let d = c.in-Some.directory in
    let old = c.args.findings.now.items in
    let present : i.directory 9 ≡ Some d = sym c.directory.ensures ∙ c.in-Some.is in
    let tls : c.fields-tls.result ≡ tls_at i d.rva =
    c.fields-tls.ensures
    ∙ ap (λ (n : ℕ). tls_in n (bytes_of c.of-structure.result.bytes)) c.of-structure.ensures.width
    ∙ ap (λ (bytes : List ℕ). tls_in i.slot_width bytes) c.of-structure.ensures.bytes in
    let first : c.find_structure.new.findings.items ≡ old ++ standing (structure_tests i d.rva (tls_at i d.rva)) =
    c.in_ok-find_structure.ensures
    ∙ ap (λ (t : TlsDirectory). old ++ standing (structure_tests i d.rva t)) tls in
    let all : Adds (tls_tests_at i (Some d)) old c.find_callbacks.new.findings.items c.find_callbacks.result =
    adds_after (structure_tests i d.rva (tls_at i d.rva)) (callbacks_tests i) old c.find_structure.new.findings.items c.find_callbacks.new.findings.items c.find_callbacks.result first c.find_callbacks.ensures in
    subst (λ (o : Option Directory). Adds (tls_tests_at i o) old c.find_callbacks.new.findings.items c.find_callbacks.result) (sym present) all
