use Rattle.std.proofs.Common.{◌≡◌, ◌∙◌, ap, Bool, true, ◌&&◌, refl, arith}
use Rattle.std.specs.Prelude.{is_none}
use Rattle.pe_head.specs.Names.{flag_names}
use Rattle.pe_text.proofs.Adding.{◌then◌}
use Rattle.pe_json.specs.Flags.{quoted_if, flag_at, flag_items}
use Rattle.pe_json.specs.JsonText.{with_commas}
use Rattle.pe_json.specs.Listed.{is_nil}
use Rattle.pe_json.proofs.FlagItems.{flags_next, none_nil}
use Rattle.pe_json.proofs.Objects.{items_more, nil_more, adds_none}
use Rattle.pe_json.proofs.flags.write_items.Goals as goal

pub loop-place-preserved : goal.loop-place-preserved
loop-place-preserved g c =
    let i = c.loop-place.invariant in
    let names = (flag_names c.args.kind) in
    let next = flags_next names c.args.flags c.loop-place.place in
    let item = rw (c.flag_at.ensures, i.first) at c.write_item-first.ensures.adds in
    record {
      adds = rw (next, items_more true (flag_items names c.args.flags c.loop-place.place) (quoted_if (flag_at names c.args.flags c.loop-place.place))) (i.adds then item);
      first = rw (next, nil_more) (c.write_item-first.ensures.first ∙ ap (λ (b : Bool). b && is_none c.flag_at.result) i.first ∙ ap (λ (b : Bool). is_nil (flag_items names c.args.flags c.loop-place.place) && b) (rw c.flag_at.ensures at (none_nil (λ name. name.now) c.flag_at.result)));
    }

pub loop-place-init : goal.loop-place-init
unfolding with_commas
loop-place-init g c = record { adds = adds_none c.requires; first = refl }

pub returns : goal.returns
returns g c = let e : c.loop-place.place ≡ 32 = omega arith in rw e at c.loop-place.invariant.adds
