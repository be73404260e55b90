-- One run more, until nothing is left.
use Rattle.std.proofs.Common.{rules, ◌≡◌, ◌∙◌, ◌++◌, ℕ, List, [], sym, ap, append_assoc, subst, arith, length}
use Rattle.std.proofs.lemmas.Grind.{common_steps}
use Rattle.pe_text.specs.TextWriter.{Adds}
use Rattle.pe_text.proofs.Adding.{◌then◌}
use Rattle.pe_json.specs.Shown.{shown}
use Rattle.pe_json.proofs.Objects.{adds_none}
use Rattle.pe_json.proofs.Shown.{none_left}
use Rattle.pe_json.proofs.string.write_runs.Goals as goal

pub loop-rest-init : goal.loop-rest-init
loop-rest-init g c = record { utf8 = search rules; told = ([], adds_none c.requires, search rules) }

pub loop-rest-preserved : goal.loop-rest-preserved
loop-rest-preserved g c =
    let i = c.loop-rest.invariant.told in
    let run = c.write_run-rest.ensures.adds in
    record {
      utf8 = search rules;
      told = (
        i.0 ++ run.0,
        i.1 then run.1,
        append_assoc i.0 run.0 (shown c.write_run-rest.result.now) ∙ ap (λ (rest : List ℕ). i.0 ++ rest) (sym run.2) ∙ i.2,
      );
    }

pub returns : goal.returns
returns g c =
    let i = c.loop-rest.invariant.told in
    let none : length c.loop-rest.rest.now ≡ 0 = grind (arith, common_steps) in
    subst (λ (xs : List ℕ). Adds g.W.Sink.taken g.W.Sink.failures c.args.text.now c.loop-rest.text xs) (none_left i.0 c.loop-rest.rest.now none ∙ i.2) i.1
