-- The count of each list is what its fields say; every field is what reading it returns.
use Rattle.std.proofs.Common.{◌≡◌, ◌∙◌, ℕ, map, ap, rules}
use Rattle.std.specs.List.{range_with_len}
use Rattle.pe_view.specs.View.{bytes_of}
use Rattle.pe_head.specs.Head.{coff_field, directory_count, directory_at, section_at}
use Rattle.pe_head.proofs.fields.Fields.headers.Goals as goal

pub returns : goal.returns
returns c =
    let file = bytes_of c.args.self.now.view in
    let count : c.from.result ≡ directory_count file = search rules in
    let few : c.from-2.result ≡ coff_field file 2 2 = c.from-2.ensures ∙ c.coff_u16-number_of_sections.ensures in
    let directories = c.directories.ensures ∙ ap (λ (n : ℕ). map (directory_at file) (range_with_len 0 n)) count in
    let sections = c.sections.ensures ∙ ap (λ (n : ℕ). map (section_at file) (range_with_len 0 n)) few in
    search (rules, directories, sections)
