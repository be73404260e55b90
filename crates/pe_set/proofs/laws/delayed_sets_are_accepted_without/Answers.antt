use Rattle.std.proofs.Common.{◌∙◌, ap}
use Rattle.pe_set.specs.Set.{modules_of}
use Rattle.pe_set.specs.SetErrors.{first_error}
use Rattle.pe_set.proofs.WithoutDelayed.{without}
use Rattle.pe_set.proofs.laws.delayed_sets_are_accepted_without.Goals as goal

pub returns : goal.returns
returns c = λ policy es none.
    let sound = c.delayed_sets_are_sound.ensures in
    c.errors_count_class_by_class.ensures.imports policy es (sound.names policy es none) (sound.files policy es none) (sound.places policy es none)
    ∙ ap first_error (without policy (modules_of es) (sound.imports policy es none))
