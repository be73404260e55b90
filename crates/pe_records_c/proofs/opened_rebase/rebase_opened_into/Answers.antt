-- The buffer holds the rebased file, or the refusal is reported.
use Rattle.std.proofs.Common.{◌≡◌, ◌∙◌, length, refl, sym, ap}
use Rattle.pe_write.proofs.InWords.{in_words}
use Rattle.pe_write.proofs.Rebasable.{Laws, sound}
use Rattle.pe_write.proofs.Rebasing.{made}
use Rattle.pe_records_c.proofs.Telling.{done_told, refusal_told, told_refuses}
use Rattle.pe_records_c.proofs.opened_rebase.rebase_opened_into.Goals as goal

pub copy_all-requires : goal.copy_all-requires
copy_all-requires c =
    let laws : Laws = record { behind = c.sections_are_apart.ensures.behind; apart = c.sections_are_apart.ensures.apart; held = c.sections_are_apart.ensures.held; fields = c.fields_are_apart.ensures.apart } in
    let file = c.args.image.now in
    let base = c.args.base in
    let exact = c.in-Ok.ensures.exact in
    let n = sound laws file base exact.0 in
    let len : length c.in-Ok.bytes.items ≡ length file = ap length (exact.1 ∙ made file base n) ∙ (in_words file base n).len in
    ap length c.as_slice.ensures.value ∙ len ∙ sym c.requires

pub returns-in-Ok-clause-faults : goal.returns-in-Ok-clause-faults
returns-in-Ok-clause-faults c = done_told _ _ _ c.in-Ok.ensures.exact.0

pub returns-in-Err-clause-faults : goal.returns-in-Err-clause-faults
returns-in-Err-clause-faults c = refusal_told _ _ c.in-Err.refusal _ _ _ c.in-Err.ensures.exact (λ e. c.in-Err.ensures.laid) c.refuse_for.ensures

pub returns-in-Err-clause-accepted : goal.returns-in-Err-clause-accepted
returns-in-Err-clause-accepted c = λ accepted. told_refuses _ _ _ _ c.refuse_for.ensures accepted

pub returns-in-Err-clause-kept : goal.returns-in-Err-clause-kept
returns-in-Err-clause-kept c = λ _. refl
