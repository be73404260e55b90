use Rattle.pe_map_lines.proofs.SameSets.{sets_agree, error_agrees, text_follows}
use Rattle.pe_map_lines.proofs.laws.same_sets_map_alike.Goals as goal

pub returns : goal.returns
returns c = λ policy es fs window same.
    let classes = c.errors_count_class_by_class.ensures in
    text_follows policy es fs window
    (error_agrees c.faults_agree.ensures policy (classes.names policy) (classes.files policy) (classes.places policy) (classes.imports policy) es fs same)
    (sets_agree es fs same)
