-- No symbol of an accepted file has a fault.
use Rattle.std.proofs.Common.{◌≡◌, ◌-◌, ℕ, None, subst, arith}
use Rattle.std.specs.List.{flat_map}
use Rattle.pe_view.specs.Faults.{first_standing}
use Rattle.coff_read.specs.FormFaults.{symbol_tests}
use Rattle.coff_read.specs.FormReading.{symbols_from}
use Rattle.coff_read.specs.Forms.{Plain}
use Rattle.coff_read.specs.ObjectFile.{file_of}
use Rattle.coff_read.specs.Strings.{record_count}
use Rattle.coff_read.proofs.FormTable.{plain_stands}
use Rattle.coff_read.proofs.file.ObjectFile.each_symbol.Goals as goal

pub invariant_of-result : goal.invariant_of-result
invariant_of-result g c =
    let o = c.args.self.now in
    let file = file_of o in
    let records = o.stand.records in
    let all : record_count file ≡ o.tables.records - 0 = omega (arith, records) in
    record {
      stand = o.stand;
      within = omega arith;
      sound = subst (λ (n : ℕ). first_standing (flat_map (symbol_tests Plain file) (symbols_from Plain file 0 n 0)) ≡ None) all (plain_stands file o.accepted).symbols;
      known = c.new.ensures file;
    }
