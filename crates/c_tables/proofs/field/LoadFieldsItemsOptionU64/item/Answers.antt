-- The number in the field at the index.
use Rattle.std.proofs.Common.{◌∙◌, Some, ap, sym}
use Rattle.std.proofs.lemmas.Option.{slice_get-map}
use Rattle.std.specs.Prelude.{option_map}
use Rattle.pe_view.specs.View.{bytes_of}
use Rattle.pe_records.specs.LoadFields.{load_fields}
use Rattle.pe_records.specs.Structure.{address_width, field_in}
use Rattle.c_tables.proofs.field.LoadFieldsItemsOptionU64.item.Goals as goal

pub returns-in-Some : goal.returns-in-Some
returns-in-Some c =
    let structure = c.args.self.now.structure in
    let number = field_in (address_width structure.is_plus) (bytes_of structure.bytes) in
    ap Some c.field.ensures ∙ ap (option_map number) c.in-Some.ensures ∙ sym (slice_get-map number load_fields c.args.index)

pub returns-in-None : goal.returns-in-None
returns-in-None c =
    let structure = c.args.self.now.structure in
    let number = field_in (address_width structure.is_plus) (bytes_of structure.bytes) in
    ap (option_map number) c.in-None.ensures ∙ sym (slice_get-map number load_fields c.args.index)
