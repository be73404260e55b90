use Rattle.std.proofs.Common.{◌+◌, ap, ℕ, true, refl}
use Rattle.pe_view.specs.declared.fault.Place.TheVariants.{Rva}
use Rattle.pe_layout.specs.Layout.{image_of}
use Rattle.pe_layout.specs.Image.{fault_at}
use Rattle.pe_resources.proofs.Asked.{one_stands}
use Rattle.pe_resources.proofs.found.Found.tell.Goals as goal

pub returns-clause-shows : goal.returns-clause-shows
returns-clause-shows g c = λ w shown.
    let rva : ℕ = c.args.section.start + c.args.offset in
    record {
      leaves = shown.leaves;
      findings = one_stands w.tests (record { number = c.args.number; image = c.image.result; place = Rva rva }) (fault_at c.args.number (image_of c.args.section.layout.now) rva) true c.args.self.now.findings.items c.push.new.self.items shown.findings c.in_ok-push.ensures.items
          (ap (λ (n : ℕ). record { number = c.args.number; image = n; place = Rva rva }) c.image.ensures) refl;
      before = shown.before;
    }
