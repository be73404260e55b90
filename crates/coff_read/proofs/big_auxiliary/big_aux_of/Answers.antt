use Rattle.std.proofs.Common.{◌≡◌, ◌∙◌, Bool, false, refl, sym, ap}
use Rattle.std.specs.Prelude.{◌==◌, if◌then◌else◌}
use Rattle.std.proofs.lemmas.Bool.{ne_eqb}
use Rattle.coff_read.specs.Auxiliary.{aux_of}
use Rattle.coff_read.specs.BigAuxiliary.{big_section_of}
use Rattle.coff_read.specs.BigView.{big_symbol_view}
use Rattle.coff_read.proofs.big_auxiliary.big_aux_of.Goals as goal

pub returns : goal.returns
returns c =
    let s = big_symbol_view c.args.symbol.now in
    let r = c.args.bytes.now in
    let other : (s.class == 3) ≡ false = ne_eqb s.class 3 c.if-symbol-eq-STATIC.false in
    c.aux_of.ensures s refl (sym c.defines_function.ensures) ∙ sym (ap (λ (b : Bool). if b then big_section_of r else aux_of s r) other)
