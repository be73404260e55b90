use Rattle.std.proofs.Common.{◌∙◌, sym, ap, List, ℕ}
use Rattle.std.specs.Prelude.{option_map}
use denote.Bor.{Bor}
use Rattle.pe_json.specs.Listed.{more}
use Rattle.pe_json.proofs.Objects.{adds_none}
use Rattle.pe_json.proofs.pdb.write_pdb.Goals as goal

pub returns : goal.returns
returns g c =
    let found = sym c.first_code_view.ensures ∙ c.in-Some.is in
    let held = sym c.laid_out_data.ensures ∙ ap (option_map (λ (bytes : Bor (List ℕ)). bytes.now)) c.in-Some-laid_out_data.is in
    rw found (rw held (rw c.code_view.ensures at c.write_code_view.ensures))

pub returns-in_default : goal.returns-in_default
unfolding more
returns-in_default g c = rw (sym c.first_code_view.ensures ∙ c.in_default.is) (adds_none c.requires)

pub returns-in_default-laid_out_data : goal.returns-in_default-laid_out_data
unfolding more
returns-in_default-laid_out_data g c =
    let found = sym c.first_code_view.ensures ∙ c.in-Some.is in
    let none = sym c.laid_out_data.ensures ∙ ap (option_map (λ (bytes : Bor (List ℕ)). bytes.now)) c.in_default-laid_out_data.is in
    rw found (rw none (adds_none c.requires))
