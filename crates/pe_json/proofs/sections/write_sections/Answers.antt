use Rattle.std.specs.Prelude.{option_map}
use Rattle.coff_read.specs.ImageNames.{table_of}
use Rattle.pe_json.specs.Sections.{section_row}
use Rattle.pe_text.proofs.Adding.{◌then◌}
use Rattle.pe_json.specs.JsonText.{list}
use Rattle.pe_json.proofs.Objects.{some_numbered, no_numbered}
use Rattle.pe_json.proofs.sections.write_sections.Goals.{in-Some, in_default}
use Rattle.pe_json.proofs.sections.write_sections.Goals as goal

pub returns : goal.returns
unfolding list
returns g c = elim c.match-split_first.branch [
  | in-Some w ↦
      let close = rw w.text-is at c.text-2.ensures in
      let rows = rw (some_numbered (section_row (option_map table_of c.args.strings)) _ _ c.args.sections.now w.in-Some.ensures.cases.0) at (w.write_section.ensures then w.write_rest.ensures) in
      c.text.ensures then rows then close
  | in_default w ↦
      let close = rw w.text-is at c.text-2.ensures in
      rw (← no_numbered (section_row (option_map table_of c.args.strings)) c.args.sections.now w.in_default.ensures.cases) (c.text.ensures then close)
]
