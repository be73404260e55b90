use Rattle.pe_set.specs.Set.{modules_of}
use Rattle.pe_space_file.proofs.Defined.{as_many, each_defined}
use Rattle.pe_space_file.proofs.laws.images_have_defined_bytes.Goals as goal

pub returns-clause-size : goal.returns-clause-size
returns-clause-size c = λ policy es number m none at. as_many (modules_of es) number (c.accepted_sets_are_sound.ensures.sound policy es none) m at c.windows_have_each_byte.ensures.count

pub returns-clause-each : goal.returns-clause-each
returns-clause-each c = λ policy es number k m none at lt.
    each_defined (modules_of es) number (c.accepted_sets_are_sound.ensures.sound policy es none) m at c.windows_have_each_byte.ensures.each
    (λ a. c.content_serves_at_all_bases.ensures.bytes policy es a none) k lt
