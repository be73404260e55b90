use Rattle.std.proofs.Common.{◌∙◌, sym, ap, List, ℕ, refl, codes}
use Rattle.std.specs.Prelude.{option_map}
use denote.Bor.{Bor}
use Rattle.json.specs.Print.{escape_byte}
use Rattle.pe_json.specs.Listed.{more}
use Rattle.pe_json.specs.ResourceRows.{manifest_if}
use Rattle.pe_json.proofs.Objects.{adds_none, ended, named}
use Rattle.pe_json.proofs.resources.write_manifest.Goals as goal

pub returns : goal.returns
unfolding manifest_if more escape_byte
returns g c =
    let found = sym c.manifest.ensures ∙ c.in-Some.is in
    let held = sym c.leaf_data.ensures.value ∙ ap (option_map (λ (bytes : Bor (List ℕ)). bytes.now)) c.in-Some-leaf_data.is in
    rw found (rw held (ended (rw (named _ (codes ",") (codes "manifest") _ _ _ refl refl) at c.write_name.ensures)))

pub returns-in_default : goal.returns-in_default
unfolding manifest_if more
returns-in_default g c = rw (sym c.manifest.ensures ∙ c.in_default.is) (adds_none c.requires)

pub returns-in_default-leaf_data : goal.returns-in_default-leaf_data
unfolding manifest_if more
returns-in_default-leaf_data g c =
    let found = sym c.manifest.ensures ∙ c.in-Some.is in
    let none = sym c.leaf_data.ensures.value ∙ ap (option_map (λ (bytes : Bor (List ℕ)). bytes.now)) c.in_default-leaf_data.is in
    rw found (rw none (adds_none c.requires))
