use Rattle.std.proofs.Common.{sym, subst}
use Rattle.pe_write.specs.Rebased.{IsRebased}
use Rattle.pe_write.proofs.Rebasable.{Laws, sound}
use Rattle.pe_write.proofs.Rebasing.{made}
use Rattle.pe_write.proofs.InWords.{in_words}
use Rattle.pe_write.proofs.laws.rebased_bytes.Goals as goal

pub returns : goal.returns
returns c =
    let laws : Laws = record { behind = c.sections_are_apart.ensures.behind; apart = c.sections_are_apart.ensures.apart; held = c.sections_are_apart.ensures.held; fields = c.fields_are_apart.ensures.apart } in
    λ file base none.
    let n = sound laws file base none in
    subst (IsRebased file base) (sym (made file base n)) (in_words file base n)
