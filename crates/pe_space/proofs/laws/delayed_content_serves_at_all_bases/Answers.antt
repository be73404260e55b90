use Rattle.std.proofs.Common.{refl}
use Rattle.pe_set.specs.DelayedImports.{with_delayed}
use Rattle.pe_set.specs.Set.{modules_of, at_bases}
use Rattle.pe_space.specs.SetContent.{content_of, laid_out}
use Rattle.pe_space.proofs.Bases.{content_at, bytes_defined}
use Rattle.pe_space.proofs.laws.delayed_content_serves_at_all_bases.Goals as goal

pub returns-clause-content : goal.returns-clause-content
returns-clause-content c = λ bases es.
    content_at bases (with_delayed (modules_of es)) (with_delayed (modules_of (at_bases bases es))) (c.bases_change_no_delayed_binding.ensures.images bases es) (c.bases_change_no_delayed_binding.ensures.bindings bases es)

pub returns-clause-bindings : goal.returns-clause-bindings
unfolding content_of laid_out
returns-clause-bindings c = λ es. refl

pub returns-clause-bytes : goal.returns-clause-bytes
returns-clause-bytes c = λ policy es a none. bytes_defined (with_delayed (modules_of es)) a (c.delayed_sets_are_sound.ensures.sound policy es none)
