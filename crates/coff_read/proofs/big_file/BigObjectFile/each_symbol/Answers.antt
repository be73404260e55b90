-- No symbol of an accepted file has a fault.
use Rattle.std.proofs.Common.{◌≡◌, ◌-◌, ℕ, None, subst, arith}
use Rattle.std.specs.List.{flat_map}
use Rattle.pe_view.specs.Faults.{first_standing}
use Rattle.coff_read.specs.FormFaults.{symbol_tests}
use Rattle.coff_read.specs.FormReading.{symbols_from}
use Rattle.coff_read.specs.Forms.{Big}
use Rattle.coff_read.specs.BigObjectFile.{big_file_of}
use Rattle.coff_read.specs.FormReading.{record_count}
use Rattle.coff_read.proofs.FormTable.{form_stands}
use Rattle.coff_read.proofs.big_file.BigObjectFile.each_symbol.Goals as goal

pub invariant_of-result : goal.invariant_of-result
invariant_of-result g c =
    let o = c.args.self.now in
    let file = big_file_of o in
    let records = o.stand.records in
    let all : record_count Big file ≡ o.tables.records - 0 = omega (arith, records) in
    record {
      stand = o.stand;
      within = omega arith;
      sound = subst (λ (n : ℕ). first_standing (flat_map (symbol_tests Big file) (symbols_from Big file 0 n 0)) ≡ None) all (form_stands Big file o.accepted).symbols;
      known = c.new.ensures file;
    }
