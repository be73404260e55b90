use Rattle.std.proofs.Common.{◌∙◌, sym, ap, List, ℕ}
use Rattle.std.specs.Prelude.{option_map}
use denote.Bor.{Bor}
use Rattle.pe_json.specs.Listed.{more}
use Rattle.pe_json.proofs.Objects.{adds_none}
use Rattle.pe_json.proofs.structure.write_field_at.Goals as goal

pub returns : goal.returns
returns g c =
    let key = sym c.key_of.ensures ∙ ap (option_map (λ (key : Bor (List ℕ)). key.now)) c.in-Some.is in
    rw (key, sym c.field_of.ensures ∙ c.in-Some-field_of.is) c.write_field.ensures

pub returns-in_default : goal.returns-in_default
unfolding more
returns-in_default g c =
    let key = sym c.key_of.ensures ∙ ap (option_map (λ (key : Bor (List ℕ)). key.now)) c.in_default.is in
    rw key (adds_none c.requires)

pub returns-in_default-field_of : goal.returns-in_default-field_of
unfolding more
returns-in_default-field_of g c =
    let key = sym c.key_of.ensures ∙ ap (option_map (λ (key : Bor (List ℕ)). key.now)) c.in-Some.is in
    rw (key, sym c.field_of.ensures ∙ c.in_default-field_of.is) (adds_none c.requires)
