-- The values of a fault.
use Rattle.std.proofs.Common.{◌≡◌, ◌&&◌, ℕ, Bool, true, false, List, [], ◌∷◌, ◌++◌, refl, sym, ◌∙◌, ap}
use Rattle.std.specs.Prelude.{flat_map}
use Rattle.std.specs.List.{list_all}
use Rattle.json.specs.Print.{escape_byte}
use Rattle.pe_json.specs.JsonText.{member, object}
use Rattle.pe_json.specs.Listed.{is_nil, items_text, more}
use Rattle.pe_json.specs.Refused.{values_object}
use Rattle.pe_json.proofs.Objects.{nil_more}
use Rattle.std.proofs.Common.{codes, append-nil}

-- there are none if no part has one
pub none_of : {Part : Type 0} (items : Part → List (List ℕ)) (parts : List Part) → is_nil (flat_map items parts) ≡ list_all (λ part. is_nil (items part)) parts
none_of items [] = refl
none_of items (part ∷ parts) = nil_more (items part) (flat_map items parts) ∙ ap (λ (b : Bool). is_nil (items part) && b) (none_of items parts)

pub no_values : (values : List (List ℕ)) → is_nil values ≡ true → [] ≡ more (values_object values)
unfolding more
no_values [] none = refl
no_values (value ∷ values) none = cc

pub some_values : (values : List (List ℕ)) → is_nil values ≡ false → (codes ",\"values\":{" ++ items_text true values) ++ codes "}" ≡ more (values_object values)
unfolding more object member escape_byte
some_values [] some = cc
some_values (value ∷ values) some = sym (append-nil _)
