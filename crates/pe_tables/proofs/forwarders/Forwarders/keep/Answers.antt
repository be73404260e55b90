-- The ending is the part after the module's name.
use Rattle.std.proofs.Common.{◌≡◌, ◌∙◌, Some, ap, refl, arith}
use Rattle.pe_tables.specs.Key.{key_view, target_view}
use Rattle.pe_tables.specs.Forwarder.{forwarder_of}
use Rattle.pe_tables.specs.Key as spec
use Rattle.pe_tables.proofs.ForwarderEndings.{parted, module_short, ending_dot, one_more}
use Rattle.pe_tables.proofs.forwarders.Forwarders.keep.Goals as goal

pub overflow_sub-len : goal.overflow_sub-len
overflow_sub-len g c =
    let text = c.args.text.bytes.now in
    let name = c.in-Forward.module.now in
    let key = key_view c.in-Forward.key in
    let is : forwarder_of text ≡ Some (spec.Forward name key) = c.requires ∙ ap (λ t. Some (target_view t)) c.in-Forward.is in
    let lt = module_short text name key (parted text name key is) in
    omega (arith, lt)

pub returns : goal.returns
returns g c = λ file known at.
    let text = c.args.text.bytes.now in
    let name = c.in-Forward.module.now in
    let key = key_view c.in-Forward.key in
    let is : forwarder_of text ≡ Some (spec.Forward name key) = c.requires ∙ ap (λ t. Some (target_view t)) c.in-Forward.is in
    let p = parted text name key is in
    let lt = module_short text name key p in
    let inside = at.inside in
    one_more file c.args.self.now _ c.args.text.end _ known
    (record { back = p.back; inside = omega (arith, inside); dot = ending_dot file c.args.text.end text name key p inside at.bytes; names = p.names })
    refl c.in-Ok.ensures.updates.0
