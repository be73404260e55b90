use Rattle.std.proofs.Common.{◌≡◌, ◌∙◌, List, None, sym, ap, subst}
use Rattle.pe_set.specs.Set.{Entry, modules_of}
use Rattle.pe_set.specs.SetErrors.{set_error}
use Rattle.pe_space.specs.Commands.{after_all}
use Rattle.pe_space.specs.Content.{Content, byte_at}
use Rattle.pe_space.specs.SetContent.{content_of, defined_byte}
use Rattle.pe_space.proofs.Bases.{bytes_defined}
use Rattle.pe_space.proofs.Commanded.{own_places, all_serve, served_now}
use Rattle.pe_space.proofs.laws.commands_keep_what_files_define.Goals as goal

pub returns-clause-accepted : goal.returns-clause-accepted
returns-clause-accepted c = λ policy es commands none.
    let served = all_serve modules_of (set_error policy) own_places (c.moves_keep_acceptance.ensures policy) c.bases_change_no_binding.ensures.images c.bases_change_no_binding.ensures.bindings es commands none in
    let now = served_now modules_of (set_error policy) own_places (c.moves_keep_acceptance.ensures policy) c.bases_change_no_binding.ensures.images c.bases_change_no_binding.ensures.bindings es (after_all commands (content_of (modules_of es))) served in
    subst (λ (x : List Entry). set_error policy x ≡ None) (sym now) served.accepted

pub returns-clause-content : goal.returns-clause-content
returns-clause-content c = λ policy es commands none.
    let served = all_serve modules_of (set_error policy) own_places (c.moves_keep_acceptance.ensures policy) c.bases_change_no_binding.ensures.images c.bases_change_no_binding.ensures.bindings es commands none in
    let now = served_now modules_of (set_error policy) own_places (c.moves_keep_acceptance.ensures policy) c.bases_change_no_binding.ensures.images c.bases_change_no_binding.ensures.bindings es (after_all commands (content_of (modules_of es))) served in
    served.content ∙ ap (λ (x : List Entry). content_of (modules_of x)) (sym now)

pub returns-clause-bytes : goal.returns-clause-bytes
returns-clause-bytes c = λ policy es commands a none.
    let served = all_serve modules_of (set_error policy) own_places (c.moves_keep_acceptance.ensures policy) c.bases_change_no_binding.ensures.images c.bases_change_no_binding.ensures.bindings es commands none in
    let now = served_now modules_of (set_error policy) own_places (c.moves_keep_acceptance.ensures policy) c.bases_change_no_binding.ensures.images c.bases_change_no_binding.ensures.bindings es (after_all commands (content_of (modules_of es))) served in
    ap (λ (x : Content). byte_at x a) served.content
    ∙ bytes_defined (modules_of served.now) a (c.accepted_sets_are_sound.ensures.sound policy served.now served.accepted)
    ∙ ap (λ (x : List Entry). defined_byte (modules_of x) a) (sym now)
