-- Each section's name is pushed, and there is room for all.
use Rattle.std.proofs.Common.{◌≡◌, ◌∙◌, ◌+◌, ◌++◌, List, [], ◌∷◌, ℕ, Option, map, take, drop, get_or, length, ap, sym, refl, arith, append-nil}
use Rattle.std.proofs.lemmas.List.{drop_all}
use denote.Bor.{Bor}
use Rattle.coff_read.specs.ImageNames.{image_strings, section_name}
use Rattle.pe_head.specs.declared.section.SectionHeader.{SectionHeader}
use Rattle.pe_reach.specs.Views.{seen_of}
use Rattle.pe_page.specs.Places.{names_of}
use Rattle.pe_page.proofs.Pushed.{left_from, pushed_more}
use Rattle.pe_page.proofs.place.SectionNames.new.Goals as goal

-- a header, as the default of a list of them
abbrev no_header : SectionHeader
no_header = record {
  name = [];
  virtual_size = 0;
  virtual_address = 0;
  size_of_raw_data = 0;
  pointer_to_raw_data = 0;
  pointer_to_relocations = 0;
  pointer_to_linenumbers = 0;
  number_of_relocations = 0;
  number_of_linenumbers = 0;
  characteristics = 0;
}

pub loop-section-init : goal.loop-section-init
loop-section-init c = record { names = rw c.new-names.ensures refl; count = ap length c.new-names.ensures }

pub loop-section-preserved : goal.loop-section-preserved
loop-section-preserved c =
    let strings = image_strings (seen_of c.args.file) c.args.headers.now in
    let items = c.as_slice-section-items.result.now in
    let here : c.section_beginning.result.now ≡ take 41 (section_name strings (get_or items c.loop-section.section-index no_header).name) =
    c.section_beginning.ensures.value ∙ ap (take 41) (c.section_name.ensures ∙ ap (λ (table : Option (List ℕ)). section_name table (get_or items c.loop-section.section-index no_header).name) c.strings-strings.ensures) in
    let left = left_from (λ (s : SectionHeader). take 41 (section_name strings s.name)) items c.loop-section.section-index no_header c.loop-section-test.true in
    let next = left ∙ ap (λ (name : List ℕ). name ∷ names_of strings (drop (c.loop-section.section-index + 1) items)) (sym here) in
    record {
      names = rw c.push.ensures.items (pushed_more (λ (name : Bor (List ℕ)). name.now) c.loop-section.names.items c.section_beginning.result
          (names_of strings (drop c.loop-section.section-index items)) (names_of strings (drop (c.loop-section.section-index + 1) items)) (names_of strings items) next c.loop-section.invariant.names);
      count = omega (arith, c.loop-section.invariant.count, ap length c.push.ensures.items, c.push.ensures.len);
    }

pub push-requires : goal.push-requires
push-requires c = (omega arith, omega (arith, c.loop-section.invariant.count, c.loop-section-test.true, c.as_slice-section-items.ensures.fits))

pub returns : goal.returns
returns c =
    let strings = image_strings (seen_of c.args.file) c.args.headers.now in
    let items = c.as_slice-section-items.result.now in
    let names = map (λ (name : Bor (List ℕ)). name.now) c.loop-section.names.items in
    let none : drop c.loop-section.section-index items ≡ [] = drop_all c.loop-section.section-index items (omega (arith, c.loop-section-test.false)) in
    sym (append-nil names)
    ∙ ap (λ (left : List SectionHeader). names ++ names_of strings left) (sym none)
    ∙ c.loop-section.invariant.names
    ∙ ap (names_of strings) c.as_slice-section-items.ensures.value
