use Rattle.std.proofs.Common.{◌≡◌, ◌∙◌, List, ap, subst, sym, inl, inr, arith}
use Rattle.std.proofs.lemmas.Result.{err_from_is_err_and}
use Rattle.pe_set.specs.Bindings.{bindings_of}
use Rattle.pe_set.specs.Set.{Module, modules_of, at_bases}
use Rattle.pe_set.specs.SetView.{entries_of}
use Rattle.pe_set.specs.Sound.{IsSound}
use Rattle.pe_space.specs.Unbound.{set_at}
use Rattle.pe_space.specs.Content.{Content, byte_at}
use Rattle.pe_space.specs.SetContent.{content_of}
use Rattle.pe_space.proofs.Bases.{bytes_at_bases}
use Rattle.pe_space.proofs.Judged.{count_modules, few_entries}
use Rattle.pe_space.proofs.mapping.map.Goals as goal

pub map_accepted-requires-clause-sound : goal.map_accepted-requires-clause-sound
map_accepted-requires-clause-sound g c =
    let es = entries_of c.args.set.now in
    subst IsSound (sym c.in_ok-accepted.ensures.exact.1.modules) (c.accepted_sets_are_sound.ensures.sound c.args.policy es c.in_ok-accepted.ensures.exact.0)

pub map_accepted-requires-clause-bound : goal.map_accepted-requires-clause-bound
map_accepted-requires-clause-bound g c = c.in_ok-accepted.ensures.exact.1.bindings ∙ ap bindings_of (sym c.in_ok-accepted.ensures.exact.1.modules)

pub returns-clause-exact : goal.returns-clause-exact
returns-clause-exact g c =
    let es = entries_of c.args.set.now in
    let content = c.in_ok-map_accepted.ensures.content ∙ ap content_of c.in_ok-accepted.ensures.exact.1.modules in (
      c.in_ok-accepted.ensures.exact.0,
      record {
        content = content;
        bytes = λ bases a none.
            ap (λ (x : Content). byte_at (set_at bases x) a) content
            ∙ bytes_at_bases bases (modules_of es) (modules_of (at_bases bases es)) a (c.bases_change_no_binding.ensures.images bases es) (c.bases_change_no_binding.ensures.bindings bases es)
            (c.accepted_sets_are_sound.ensures.sound c.args.policy (at_bases bases es) none);
      },
    )

pub returns-in_err-map_accepted-clause-no_memory : goal.returns-in_err-map_accepted-clause-no_memory
returns-in_err-map_accepted-clause-no_memory g c = λ e refused.
    let few = few_entries c.args.set.now (c.accepted_sets_are_sound.ensures.sound c.args.policy (entries_of c.args.set.now) c.in_ok-accepted.ensures.exact.0) in
    elim e [
      | inl none ↦
          (let count = count_modules c.args.set.now c.in_ok-accepted.accepted.modules.items c.in_ok-accepted.ensures.exact.1.modules in
          let h = c.in_err-map_accepted.ensures.empty (count ∙ none) in absurd cc)
      | inr many ↦ absurd (omega arith)
    ]

pub returns-in_err-map_accepted-clause-named : goal.returns-in_err-map_accepted-clause-named
returns-in_err-map_accepted-clause-named g c = λ _. c.accepted_sets_have_no_fault.ensures.names c.args.policy (entries_of c.args.set.now) c.in_ok-accepted.ensures.exact.0
