use Rattle.std.proofs.Common.{◌++◌, codes, append_assoc}
use Rattle.std.specs.Prelude.{decimal}
use Rattle.json.specs.Print.{escape_byte}
use Rattle.pe_json.specs.JsonText.{with_commas, member, object}
use Rattle.pe_json.specs.TableRows.{kind_member, fixup_row}
use Rattle.pe_json.proofs.tables.write_fixup.Goals as goal

pub returns : goal.returns
unfolding fixup_row object with_commas member escape_byte
returns g c = rw (append_assoc (decimal c.args.fixup.now.field) (codes "," ++ kind_member c.args.fixup.now.kind) (codes "}")) c.write_fields.ensures
