use Rattle.std.proofs.Common.{◌≡◌, ◌∙◌, List, None, sym, ap, subst}
use Rattle.pe_view.specs.Faults.{first_standing}
use Rattle.pe_set.specs.DelayedErrors.{delayed_error}
use Rattle.pe_set.specs.DelayedImports.{with_delayed}
use Rattle.pe_set.specs.Placement.{move_tests}
use Rattle.pe_set.specs.Set.{Entry, modules_of}
use Rattle.pe_space.specs.Commands.{after_all}
use Rattle.pe_space.specs.Content.{Content, byte_at}
use Rattle.pe_space.specs.SetContent.{content_of, defined_byte}
use Rattle.pe_space.proofs.Bases.{bytes_defined}
use Rattle.pe_space.proofs.Commanded.{delayed_placements, delayed_places, all_serve, served_now}
use Rattle.pe_space.proofs.laws.commands_keep_what_delayed_files_define.Goals as goal

pub returns-clause-accepted : goal.returns-clause-accepted
returns-clause-accepted c = λ policy es commands none.
    let served = all_serve (λ (es : List Entry). with_delayed (modules_of es)) (delayed_error policy) delayed_places (λ es i base none move. c.delayed_sets_stay_accepted.ensures.moved policy es i base none (ap (λ ps. first_standing (move_tests ps i base)) (sym (delayed_placements (modules_of es))) ∙ move)) c.bases_change_no_delayed_binding.ensures.images c.bases_change_no_delayed_binding.ensures.bindings es commands none in
    let now = served_now (λ (es : List Entry). with_delayed (modules_of es)) (delayed_error policy) delayed_places (λ es i base none move. c.delayed_sets_stay_accepted.ensures.moved policy es i base none (ap (λ ps. first_standing (move_tests ps i base)) (sym (delayed_placements (modules_of es))) ∙ move)) c.bases_change_no_delayed_binding.ensures.images c.bases_change_no_delayed_binding.ensures.bindings es (after_all commands (content_of (with_delayed (modules_of es)))) served in
    subst (λ (x : List Entry). delayed_error policy x ≡ None) (sym now) served.accepted

pub returns-clause-content : goal.returns-clause-content
returns-clause-content c = λ policy es commands none.
    let served = all_serve (λ (es : List Entry). with_delayed (modules_of es)) (delayed_error policy) delayed_places (λ es i base none move. c.delayed_sets_stay_accepted.ensures.moved policy es i base none (ap (λ ps. first_standing (move_tests ps i base)) (sym (delayed_placements (modules_of es))) ∙ move)) c.bases_change_no_delayed_binding.ensures.images c.bases_change_no_delayed_binding.ensures.bindings es commands none in
    let now = served_now (λ (es : List Entry). with_delayed (modules_of es)) (delayed_error policy) delayed_places (λ es i base none move. c.delayed_sets_stay_accepted.ensures.moved policy es i base none (ap (λ ps. first_standing (move_tests ps i base)) (sym (delayed_placements (modules_of es))) ∙ move)) c.bases_change_no_delayed_binding.ensures.images c.bases_change_no_delayed_binding.ensures.bindings es (after_all commands (content_of (with_delayed (modules_of es)))) served in
    served.content ∙ ap (λ (x : List Entry). content_of (with_delayed (modules_of x))) (sym now)

pub returns-clause-bytes : goal.returns-clause-bytes
returns-clause-bytes c = λ policy es commands a none.
    let served = all_serve (λ (es : List Entry). with_delayed (modules_of es)) (delayed_error policy) delayed_places (λ es i base none move. c.delayed_sets_stay_accepted.ensures.moved policy es i base none (ap (λ ps. first_standing (move_tests ps i base)) (sym (delayed_placements (modules_of es))) ∙ move)) c.bases_change_no_delayed_binding.ensures.images c.bases_change_no_delayed_binding.ensures.bindings es commands none in
    let now = served_now (λ (es : List Entry). with_delayed (modules_of es)) (delayed_error policy) delayed_places (λ es i base none move. c.delayed_sets_stay_accepted.ensures.moved policy es i base none (ap (λ ps. first_standing (move_tests ps i base)) (sym (delayed_placements (modules_of es))) ∙ move)) c.bases_change_no_delayed_binding.ensures.images c.bases_change_no_delayed_binding.ensures.bindings es (after_all commands (content_of (with_delayed (modules_of es)))) served in
    ap (λ (x : Content). byte_at x a) served.content
    ∙ bytes_defined (with_delayed (modules_of served.now)) a (c.delayed_sets_are_sound.ensures.sound policy served.now served.accepted)
    ∙ ap (λ (x : List Entry). defined_byte (with_delayed (modules_of x)) a) (sym now)
