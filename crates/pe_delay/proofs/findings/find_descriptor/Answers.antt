-- The module's name, and then the first entry that does not import.
use Rattle.std.proofs.Common.{◌≡◌, ◌∙◌, ◌+◌, ◌++◌, ℕ, Bool, [], ◌∷◌, ap, subst}
use Rattle.std.specs.Prelude.{is_none}
use Rattle.pe_view.specs.declared.fault.Place.TheVariants.{Rva}
use Rattle.pe_view.specs.Faults.{test}
use Rattle.pe_view.specs.Standing.{Adds, standing}
use Rattle.pe_view.specs.AllStanding.{adds_after}
use Rattle.pe_layout.specs.Layout.{image_of}
use Rattle.pe_delay.specs.Entries.{entry_at, entry_count}
use Rattle.pe_delay.specs.Findings.{entry_tests}
use Rattle.pe_delay.specs.Tables.{module_of, tables_of}
use Rattle.pe_delay.specs.declared.tables.Tables.{Tables}
use Rattle.pe_delay.proofs.Choices.{none_read}
use Rattle.pe_delay.proofs.findings.find_descriptor.Goals as goal

pub returns-clause-adds : goal.returns-clause-adds
returns-clause-adds g c =
    let i = image_of c.args.layout.now in
    let d = c.args.descriptor.now in
    let read : ℕ = c.args.read in
    let old = c.args.findings.now.items in
    let middle = c.add.new.findings.items in
    let new = c.find_entry.new.findings.items in
    let none : c.is_none.result ≡ is_none (module_of i d) = none_read _ c.module_kept.result (module_of i d) c.is_none.result c.is_none.ensures c.module_kept.ensures.name in
    let first : middle ≡ old ++ standing (test 162 i.number (Rva d.rva) (is_none (module_of i d)) ∷ []) =
    c.in_ok-add.ensures
    ∙ ap (λ (n : ℕ). old ++ standing (test 162 n (Rva d.rva) c.is_none.result ∷ [])) c.image.ensures
    ∙ ap (λ (b : Bool). old ++ standing (test 162 i.number (Rva d.rva) b ∷ [])) none in
    let by_count : Adds (entry_tests i c.args.tables.now (read + entry_count i c.args.tables.now read) (entry_at i c.args.tables.now (entry_count i c.args.tables.now read))) middle new c.find_entry.result =
    subst (λ (n : ℕ). Adds (entry_tests i c.args.tables.now (read + n) (entry_at i c.args.tables.now n)) middle new c.find_entry.result) c.requires.count c.find_entry.ensures.adds in
    let second : Adds (entry_tests i (tables_of i d) (read + entry_count i (tables_of i d) read) (entry_at i (tables_of i d) (entry_count i (tables_of i d) read))) middle new c.find_entry.result =
    subst (λ (t : Tables). Adds (entry_tests i t (read + entry_count i t read) (entry_at i t (entry_count i t read))) middle new c.find_entry.result) c.requires.tables by_count in
    adds_after (test 162 i.number (Rva d.rva) (is_none (module_of i d)) ∷ [])
    (entry_tests i (tables_of i d) (read + entry_count i (tables_of i d) read) (entry_at i (tables_of i d) (entry_count i (tables_of i d) read)))
    old middle new c.find_entry.result first second
