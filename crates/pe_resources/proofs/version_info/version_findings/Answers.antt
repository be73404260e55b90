-- The tests are those of the leaf's data.
use Rattle.std.proofs.Common.{◌≡◌, ◌∙◌, ℕ, List, Some, ap, sym, subst}
use Rattle.std.specs.Prelude.{IfOk}
use Rattle.pe_view.specs.Faults.{Test}
use Rattle.pe_view.specs.Standing.{standing}
use Rattle.pe_layout.specs.Layout.{image_of}
use Rattle.pe_version.specs.Findings.{version_tests}
use Rattle.pe_resources.specs.Single.{version_of}
use Rattle.pe_resources.specs.Texts.{data_of}
use Rattle.pe_resources.specs.Version.{image_version_tests, tests_of_data, tests_of_leaf}
use Rattle.pe_resources.proofs.version_info.version_findings.Goals as goal

pub returns : goal.returns
returns g c =
    let i = image_of c.args.layout.now in
    let leaf = c.in-Some.leaf in
    let bytes : List ℕ = c.in-Some-leaf_data.bytes.now in
    let found : version_of i ≡ Some leaf = sym c.version.ensures ∙ c.in-Some.is in
    let held : data_of i leaf ≡ Some bytes = sym c.in-Some-leaf_data.ensures.value in
    let tests : image_version_tests i ≡ version_tests c.image.result leaf.rva bytes =
    ap (tests_of_leaf i) found ∙ ap (tests_of_data i leaf.rva) held ∙ ap (λ (n : ℕ). version_tests n leaf.rva bytes) (sym c.image.ensures) in
    subst (λ (ts : List Test). IfOk c.version_findings.result (λ findings. findings.items ≡ standing ts)) (sym tests) c.version_findings.ensures
