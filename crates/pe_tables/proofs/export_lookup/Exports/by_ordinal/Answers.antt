use Rattle.std.proofs.Common.{◌∙◌, ℕ, List, ap}
use Rattle.std.specs.Prelude.{◌==◌, option_map}
use Rattle.std.specs.List.{find}
use Rattle.pe_tables.specs.Key.{target_view}
use Rattle.pe_tables.specs.declared.key.Target.{Target}
use Rattle.pe_tables.proofs.Search.{found_mapped}
use Rattle.pe_tables.proofs.export_lookup.Exports.by_ordinal.Goals as goal

pub returns : goal.returns
returns g c =
    let exports : List (ℕ × Target) = c.args.self.now.ordinals.items in
    ap (option_map target_view)
    (c.target_by_ordinal.ensures
    ∙ ap (λ (n : ℕ). option_map (λ (e : ℕ × Target). e.1) (find (λ (e : ℕ × Target). e.0 == n) c.as_slice.result.now)) c.from.ensures
    ∙ ap (λ (es : List (ℕ × Target)). option_map (λ (e : ℕ × Target). e.1) (find (λ (e : ℕ × Target). e.0 == c.args.ordinal) es)) c.as_slice.ensures.value)
    ∙ found_mapped c.args.ordinal target_view exports
