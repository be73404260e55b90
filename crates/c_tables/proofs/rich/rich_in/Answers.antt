-- What is told of the header holds for the file.
use Rattle.std.proofs.Common.{◌∙◌, ◌*◌, ℕ, List, Some, ap}
use Rattle.std.specs.Prelude.{option_map}
use Rattle.pe_view.specs.View.{bytes_of}
use Rattle.pe_trust.specs.Rich.{rich_sum}
use Rattle.pe_trust.specs.RichView.{rich_view}
use Rattle.c_tables.specs.RichRows.{rich_record}
use Rattle.c_tables.specs.declared.rich.RichRecord.{RichRecord}
use Rattle.c_tables.proofs.rich.rich_in.Goals as goal

abbrev told : ℕ → ℕ → ℕ → RichRecord
told offset key computed = record { offset = offset; key = key; computed = computed }

pub returns-in-Some : goal.returns-in-Some
returns-in-Some c =
    let header = c.in-Some.header in
    let sum = c.check_sum.ensures ∙ ap (λ (file : List ℕ). rich_sum file (rich_view header)) c.in-Some.ensures.same in
    ap (λ (n : ℕ). Some (told n c.key.result c.check_sum.result)) c.offset.ensures
    ∙ ap (λ (n : ℕ). Some (told (4 * header.start) n c.check_sum.result)) c.key.ensures
    ∙ ap (λ (n : ℕ). Some (told (4 * header.start) header.key n)) sum
    ∙ ap (option_map (rich_record (bytes_of c.args.file))) c.in-Some.ensures.value
