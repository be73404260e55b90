-- All names are added, and each keeps its offset.
use Rattle.std.proofs.Common.{◌≡◌, ◌∙◌, List, ℕ, refl, sym, ap}
use Rattle.std.specs.Prelude.{filter, map}
use Rattle.coff_read.specs.Names.{is_long_section_name}
use Rattle.coff_object.specs.NamePlaces.{place_of}
use Rattle.coff_read.specs.ObjectView.{section_view}
use Rattle.coff_read.specs.Records as format
use Rattle.coff_object.specs.StringTableWords.{texts_in}
use Rattle.coff_read.specs.Strings.{with_strings}
use Rattle.coff_object.proofs.NamePlaces.{next_texts, next_place, all_placed, as_viewed}
use Rattle.coff_object.proofs.Sizes.{all_named, section_names}
use Rattle.coff_object.proofs.layout.add_section_names.Goals as goal

pub loop-section-preserved : goal.loop-section-preserved
loop-section-preserved g c = record {
  texts =
      next_texts is_long_section_name (λ s. s.name.now) (texts_in c.loop-section.strings) (texts_in c.add_section_name.new.strings) _ c.args.sections.now c.loop-section.section-index c.section-item.result
      c.loop-section-test.true c.section-item.is c.loop-section.invariant.texts c.in_ok-place.ensures.texts;
  places =
      next_place is_long_section_name (λ s. s.name.now) (texts_in c.args.strings.now) (texts_in c.loop-section.strings) (texts_in c.add_section_name.new.strings) c.args.sections.now c.loop-section.section-index c.section-item.result
      c.loop-section.places.items c.push.new.self.items c.in_ok-place.place
      c.loop-section-test.true c.section-item.is c.loop-section.invariant.texts c.in_ok-place.ensures.texts c.in_ok-place.ensures.place c.in_ok-push.ensures.items c.loop-section.invariant.places;
}

pub returns-clause-texts : goal.returns-clause-texts
returns-clause-texts g c =
    all_named is_long_section_name (λ s. s.name.now) (texts_in c.loop-section.strings) _ c.args.sections.now c.loop-section.section-index c.loop-section-test.false c.loop-section.invariant.texts
    ∙ ap (λ (ns : List (List ℕ)). with_strings (texts_in c.args.strings.now) (filter is_long_section_name ns)) (section_names c.args.sections.now)

pub returns-clause-places : goal.returns-clause-places
returns-clause-places g c =
    let whole : List (List ℕ) = with_strings (texts_in c.args.strings.now) (filter is_long_section_name (map (λ s. s.name.now) c.args.sections.now)) in
    let texts : texts_in c.loop-section.strings ≡ whole = all_named is_long_section_name (λ s. s.name.now) (texts_in c.loop-section.strings) _ c.args.sections.now c.loop-section.section-index c.loop-section-test.false c.loop-section.invariant.texts in
    all_placed (λ s. place_of is_long_section_name whole s.name.now) c.args.sections.now c.loop-section.section-index c.loop-section.places.items c.loop-section-test.false c.loop-section.invariant.places
    ∙ as_viewed section_view (λ s. place_of is_long_section_name whole s.name.now) (λ (s : format.Section). place_of is_long_section_name whole s.name) c.args.sections.now (λ s. refl)
    ∙ ap (λ (ts : List (List ℕ)). map (λ (s : format.Section). place_of is_long_section_name ts s.name) (map section_view c.args.sections.now)) (sym texts)
