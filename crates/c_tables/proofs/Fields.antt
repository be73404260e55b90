-- The fields of a structure that an image has.
use Rattle.std.proofs.Common.{◌≡◌, ◌∙◌, ℕ, List, Option, Some, map, ap}
use Rattle.pe_records.specs.Structure.{field_in}
use Rattle.pe_records.specs.declared.structure.Field.{Field}
use Rattle.c_tables.specs.FieldRows.{values_in}

pub fields_held : (fields : List Field) (address width : ℕ) (bytes : List ℕ) (held : Option (List ℕ)) → Some bytes ≡ held → address ≡ width
    → map (field_in address bytes) fields ≡ values_in fields width held
fields_held fields address width bytes held is same = ap (λ (w : ℕ). map (field_in w bytes) fields) same ∙ ap (values_in fields width) is
