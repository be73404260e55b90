-- The data lies in a run of the file, and so in the image.
use Rattle.std.proofs.Common.{◌≡◌, ◌∙◌, ℕ, List, Some, Result, Ok, Err, Vec, ap, length, arith, rules}
use Rattle.std.specs.Prelude.{IfOk}
use Rattle.pe_view.specs.Standing.{standing}
use Rattle.pe_layout.specs.Layout.{image_of, size_small}
use Rattle.pe_resources.specs.Single.{version_of}
use Rattle.pe_resources.specs.Texts.{data_of}
use Rattle.pe_resources.proofs.Held.{data_ends, data_within}
use Rattle.pe_version.specs.Findings.{version_tests}
use Rattle.pe_view.specs.declared.fault.Fault.{Fault}
use Rattle.c_tables.specs.ResourceFindings.{found_at, found_in}
use Rattle.c_tables.proofs.resource_finding.version_found.Goals as goal

-- what is found is the same as other findings
found_as : {T E : Type 0} (items : T → List Fault) (result : Result T E) (xs ys : List Fault) → xs ≡ ys → IfOk result (λ f. items f ≡ xs) → IfOk result (λ f. items f ≡ ys)
found_as items (Ok f) xs ys same is = is ∙ same
found_as items (Err e) xs ys same is = is

pub returns-clause-all : goal.returns-clause-all
returns-clause-all c =
    let i = image_of c.args.layout.now in
    let leaf = c.in-Some.leaf in
    let bytes = c.in-Some-leaf_data.bytes.now in
    let found : Some leaf ≡ version_of i = c.in-Some.ensures in
    let held : Some bytes ≡ data_of i leaf = c.in-Some-leaf_data.ensures.value in
    found_as (λ (f : Vec Fault _). f.items) _ _ _ (ap (λ (n : ℕ). standing (version_tests n leaf.rva bytes)) c.image.ensures ∙ ap (found_in i leaf) held ∙ ap (found_at i) found) c.version_findings.ensures

pub prove-unreachable-requires : goal.prove-unreachable-requires
prove-unreachable-requires c =
    let within = data_within (image_of c.args.layout.now) c.in-Some.leaf c.in-Some-leaf_data.bytes.now c.in-Some-leaf_data.ensures.value in
    let run = c.raw_bytes.ensures.len in
    let past = c.if-prove.true in
    omega (arith, within, run, past)

pub version_findings-requires : goal.version_findings-requires
version_findings-requires c =
    let within = data_within (image_of c.args.layout.now) c.in-Some.leaf c.in-Some-leaf_data.bytes.now c.in-Some-leaf_data.ensures.value in
    let held = c.if-prove.false in
    data_ends c.in-Some.leaf.rva (length c.in-Some-leaf_data.bytes.now) (length c.raw_bytes.result.now) (image_of c.args.layout.now).size (search rules) held c.raw_bytes.ensures.inside (size_small c.args.layout.now)
