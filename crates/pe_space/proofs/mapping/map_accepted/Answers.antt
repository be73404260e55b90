use Rattle.std.proofs.Common.{◌≡◌, ◌∙◌, List, map, length, ap, subst, sym, arith}
use Rattle.std.specs.Prelude.{Result, Ok, Err, IfOk}
use Rattle.std.proofs.lemmas.List.{length-map}
use Rattle.pe_set.specs.Bindings.{bindings_of}
use Rattle.pe_set.specs.Set.{Module}
use Rattle.pe_set.specs.SetView.{module_view, modules_view}
use Rattle.pe_set.specs.declared.binding.Binding.{Binding}
use Rattle.pe_space.specs.Content.{Content}
use Rattle.pe_space.specs.Relocated.{relocated_of, FieldsFit}
use Rattle.pe_space.specs.ImagesApart.{ImagesApart}
use Rattle.pe_space.specs.FieldsAndSlots.{Each, FieldsAndSlotsApart}
use Rattle.pe_space.proofs.Judged.{content_is, one_more, all_made, none_to_make, no_bindings}
use Rattle.pe_space.specs.InMemory.{InMemory, memories_of}
use Rattle.pe_space.specs.MappedSpaceView.{mapped_content, SlotsUnbound}
use Rattle.pe_space.specs.SetContent.{laid_out, content_of}
use Rattle.pe_space.specs.Unbound.{unbound}
use Rattle.pe_space.proofs.Accepting.{fit, fields_and_slots, placed, content_fresh, fresh}
use Rattle.pe_space.proofs.Judged.{made_and_left}
use Rattle.pe_space.proofs.mapping.map_accepted.Goals as goal

-- the images that are placed and bound are what the set lays out
kept_is : (hs : List InMemory) (bs : List Binding) (s : List Module) → hs ≡ map relocated_of s → bs ≡ bindings_of s → mapped_content hs bs ≡ laid_out s
kept_is hs bs s placed bound = ap (λ (x : List InMemory). mapped_content x bs) placed ∙ ap (mapped_content (map relocated_of s)) bound ∙ content_fresh s

-- what holds for a value that is there
if_ok : {T E : Type 0} (P Q : T → Type 0) (r : Result T E) → ((x : T) → P x → Q x) → IfOk r P → IfOk r Q
if_ok P Q (Ok x) step own = step x own
if_ok P Q (Err error) step own = tt

pub loop-own-init : goal.loop-own-init
loop-own-init g c =
    let gives = c.into_iter-own-iterator.ensures.into_iter_gives in
    let is = ap modules_view gives.0 in
    let s = modules_view c.args.accepted.modules.items in
    record {
      made = ap (λ (ys : List _). made_and_left relocated_of ys c.into_iter-own-iterator.result.rest.items) c.in_ok-images.ensures.items ∙ ap (map relocated_of) is;
      fit = subst (Each FieldsFit) (sym is) (fit s c.requires.sound);
    }

pub place-requires : goal.place-requires
place-requires g c = (subst (λ ms. Each FieldsFit (modules_view ms)) c.in-Some.ensures.steps.0 c.loop-own.invariant.fit).0

pub loop-own-preserved : goal.loop-own-preserved
loop-own-preserved g c = record {
  made = one_more relocated_of c.loop-own.images.items c.push.new.self.items c.in-Some.own c.loop-own.own-iterator.rest.items c.next.new.self.rest.items c.in_ok-place.field-0 _ c.loop-own.invariant.made c.in-Some.ensures.steps.0 c.in_ok-place.ensures c.in_ok-push.ensures.items;
  fit = (subst (λ ms. Each FieldsFit (modules_view ms)) c.in-Some.ensures.steps.0 c.loop-own.invariant.fit).1;
}

pub new-requires-clause-fields_and_slots : goal.new-requires-clause-fields_and_slots
new-requires-clause-fields_and_slots g c =
    let s = modules_view c.args.accepted.modules.items in
    let sound = c.requires.sound in
    let all = all_made relocated_of c.loop-own.images.items c.loop-own.own-iterator.rest.items c.loop-own.own-iterator.rest.len s c.loop-own.invariant.made (sym c.loop-own.own-iterator.rest.ok.0) c.in-None.ensures.steps.0 in
    let is = kept_is c.loop-own.images.items c.args.accepted.bindings.items s all c.requires.bound in
    subst FieldsAndSlotsApart (sym is) (fields_and_slots s sound)

pub new-requires-clause-placed : goal.new-requires-clause-placed
new-requires-clause-placed g c =
    let s = modules_view c.args.accepted.modules.items in
    let sound = c.requires.sound in
    let all = all_made relocated_of c.loop-own.images.items c.loop-own.own-iterator.rest.items c.loop-own.own-iterator.rest.len s c.loop-own.invariant.made (sym c.loop-own.own-iterator.rest.ok.0) c.in-None.ensures.steps.0 in
    let is = kept_is c.loop-own.images.items c.args.accepted.bindings.items s all c.requires.bound in
    subst ImagesApart (sym is) (placed s sound)

pub new-requires-clause-slots_unbound : goal.new-requires-clause-slots_unbound
new-requires-clause-slots_unbound g c =
    let s = modules_view c.args.accepted.modules.items in
    let sound = c.requires.sound in
    let all = all_made relocated_of c.loop-own.images.items c.loop-own.own-iterator.rest.items c.loop-own.own-iterator.rest.len s c.loop-own.invariant.made (sym c.loop-own.own-iterator.rest.ok.0) c.in-None.ensures.steps.0 in
    let is = kept_is c.loop-own.images.items c.args.accepted.bindings.items s all c.requires.bound in
    subst (λ hs. SlotsUnbound (mapped_content c.loop-own.images.items c.args.accepted.bindings.items) (memories_of hs)) (sym all)
    (subst (λ (x : Content). SlotsUnbound x (memories_of (map relocated_of s))) (content_fresh s ∙ sym is) (fresh s))

pub returns-clause-content : goal.returns-clause-content
returns-clause-content g c =
    let s = modules_view c.args.accepted.modules.items in
    let all = all_made relocated_of c.loop-own.images.items c.loop-own.own-iterator.rest.items c.loop-own.own-iterator.rest.len s c.loop-own.invariant.made (sym c.loop-own.own-iterator.rest.ok.0) c.in-None.ensures.steps.0 in
    let is = kept_is c.loop-own.images.items c.args.accepted.bindings.items s all c.requires.bound in
    if_ok (λ (space : Content). space ≡ unbound (mapped_content c.loop-own.images.items c.args.accepted.bindings.items)) (λ (space : Content). space ≡ content_of s) c.new.result
    (λ space own. own ∙ content_is _ s is) c.new.ensures.content

pub returns-in_err-images-clause-empty : goal.returns-in_err-images-clause-empty
returns-in_err-images-clause-empty g c = λ none.
    let h = c.in_err-images.ensures.succeeds (c.len.ensures ∙ c.args.accepted.modules.ok.0 ∙ none) in absurd cc

pub returns-in_err-place-clause-empty : goal.returns-in_err-place-clause-empty
returns-in_err-place-clause-empty g c = λ none.
    let ms = c.args.accepted.modules.items in
    let left = none_to_make relocated_of (modules_view ms) c.loop-own.images.items c.loop-own.own-iterator.rest.items c.loop-own.invariant.made (length-map ms module_view ∙ none) in
    let one = ap length c.in-Some.ensures.steps.0 in absurd (omega (arith, left, one))

pub returns-in_err-push-clause-empty : goal.returns-in_err-push-clause-empty
returns-in_err-push-clause-empty g c = λ none.
    let ms = c.args.accepted.modules.items in
    let left = none_to_make relocated_of (modules_view ms) c.loop-own.images.items c.loop-own.own-iterator.rest.items c.loop-own.invariant.made (length-map ms module_view ∙ none) in
    let one = ap length c.in-Some.ensures.steps.0 in absurd (omega (arith, left, one))

pub returns-clause-empty : goal.returns-clause-empty
returns-clause-empty g c = λ none.
    let ms = c.args.accepted.modules.items in
    let s = modules_view ms in
    let empty = length-map ms module_view ∙ none in
    let all = all_made relocated_of c.loop-own.images.items c.loop-own.own-iterator.rest.items c.loop-own.own-iterator.rest.len s c.loop-own.invariant.made (sym c.loop-own.own-iterator.rest.ok.0) c.in-None.ensures.steps.0 in
    c.new.ensures.empty (ap length all ∙ length-map s relocated_of ∙ empty) (ap length c.requires.bound ∙ no_bindings s empty)
