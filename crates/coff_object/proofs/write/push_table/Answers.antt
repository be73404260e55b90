-- One section's header more.
use Rattle.std.proofs.Common.{rules, ◌≡◌, ◌∙◌, ◌+◌, ◌≤◌, ◌++◌, ◌∷◌, [], ℕ, List, false, length, drop, sym, ap, subst, append_assoc, append-nil, length-append, arith}
use Rattle.std.specs.Prelude.{map}
use Rattle.std.specs.Iterator.Adapters.{zip_first, zip_second}
use Rattle.std.specs.List.{flat_map, AllByRecursion}
use Rattle.std.specs.Slice.Iter.{iter_rest}
use Rattle.std.proofs.lemmas.Bool.{ltb-false}
use Rattle.std.proofs.lemmas.List.{length-map}
use Rattle.std.proofs.lemmas.Slice.Zip.{zip_turn, zip_end}
use Rattle.coff_read.specs.Names.{is_long_section_name}
use Rattle.coff_object.specs.NamePlaces.{place_of}
use Rattle.coff_read.specs.ObjectView.{section_view}
use Rattle.coff_read.specs.Records.{Section, SectionFits}
use Rattle.coff_object.specs.StringTableWords.{texts_in}
use Rattle.coff_object.specs.WriteFaults.{is_far, has_many_relocations}
use Rattle.coff_object.specs.Written.{section_body, section_fields, section_header, section_table}
use Rattle.coff_object.proofs.Far.{near_place}
use Rattle.coff_object.proofs.Listed.{items_yielded, none_left, all_left, all_front}
use Rattle.coff_object.proofs.NamePlaces.{place_at, place-some, section_field}
use Rattle.coff_object.proofs.write.push_table.Goals as goal

pub push_section_header-requires-clause-some : goal.push_section_header-requires-clause-some
push_section_header-requires-clause-some g c =
    let first : iter_rest (zip_first c.into_iter-section-iterator.result) ≡ c.args.sections.now = search rules in
    let second : iter_rest (zip_second c.into_iter-section-iterator.result) ≡ c.as_slice.result.now = search rules in
    let turn = zip_turn c.args.sections.now c.as_slice.result.now c.loop-section.yielded c.into_iter-section-iterator.result c.loop-section.section-iterator c.next.new.self c.next.result first second c.loop-section.yielded_by (c.in-Some.section, c.in-Some.place) c.in-Some.is c.next.ensures.steps in
    let step = items_yielded section_view c.args.sections.now c.loop-section.yielded (c.in-Some.section, c.in-Some.place) c.in-Some.section.now turn.0 (turn.2 c.in-Some.section.now) in
    let strings = texts_in c.args.places.now.strings in
    let name = c.in-Some.section.now.name.now in
    let place =
    place_at is_long_section_name section_view (λ (y : Section). y.name) strings c.args.sections.now c.as_slice.result.now (length c.loop-section.yielded) c.in-Some.section.now c.in-Some.place.now
    turn.0 (turn.2 c.in-Some.section.now) (c.as_slice.ensures.value ∙ c.requires.places) (turn.3 c.in-Some.place.now) in
    λ long. (let some = place-some is_long_section_name strings name long in omega arith)

pub push_section_header-requires-clause-near : goal.push_section_header-requires-clause-near
push_section_header-requires-clause-near g c =
    let first : iter_rest (zip_first c.into_iter-section-iterator.result) ≡ c.args.sections.now = search rules in
    let second : iter_rest (zip_second c.into_iter-section-iterator.result) ≡ c.as_slice.result.now = search rules in
    let turn = zip_turn c.args.sections.now c.as_slice.result.now c.loop-section.yielded c.into_iter-section-iterator.result c.loop-section.section-iterator c.next.new.self c.next.result first second c.loop-section.yielded_by (c.in-Some.section, c.in-Some.place) c.in-Some.is c.next.ensures.steps in
    let step = items_yielded section_view c.args.sections.now c.loop-section.yielded (c.in-Some.section, c.in-Some.place) c.in-Some.section.now turn.0 (turn.2 c.in-Some.section.now) in
    let strings = texts_in c.args.places.now.strings in
    let name = c.in-Some.section.now.name.now in
    let place =
    place_at is_long_section_name section_view (λ (y : Section). y.name) strings c.args.sections.now c.as_slice.result.now (length c.loop-section.yielded) c.in-Some.section.now c.in-Some.place.now
    turn.0 (turn.2 c.in-Some.section.now) (c.as_slice.ensures.value ∙ c.requires.places) (turn.3 c.in-Some.place.now) in
    let far = (all_left (λ (s : Section). is_far strings s ≡ false) _ _ _ step c.loop-section.invariant.near).0 in
    let near : c.in-Some.place.now ≤ 9999999 = near_place strings (section_view c.in-Some.section.now) c.in-Some.place.now place far in
    near

pub push_section_header-requires-clause-fits : goal.push_section_header-requires-clause-fits
push_section_header-requires-clause-fits g c =
    let first : iter_rest (zip_first c.into_iter-section-iterator.result) ≡ c.args.sections.now = search rules in
    let second : iter_rest (zip_second c.into_iter-section-iterator.result) ≡ c.as_slice.result.now = search rules in
    let turn = zip_turn c.args.sections.now c.as_slice.result.now c.loop-section.yielded c.into_iter-section-iterator.result c.loop-section.section-iterator c.next.new.self c.next.result first second c.loop-section.yielded_by (c.in-Some.section, c.in-Some.place) c.in-Some.is c.next.ensures.steps in
    let step = items_yielded section_view c.args.sections.now c.loop-section.yielded (c.in-Some.section, c.in-Some.place) c.in-Some.section.now turn.0 (turn.2 c.in-Some.section.now) in
    let more = map section_view (drop (length (c.loop-section.yielded ++ (c.in-Some.section, c.in-Some.place) ∷ [])) c.args.sections.now) in
    let sizes = ap (λ (ss : List Section). length (flat_map section_body ss)) step ∙ length-append (section_body (section_view c.in-Some.section.now)) (flat_map section_body more) in
    let room = c.loop-section.invariant.fits in
    omega arith

pub push_section_header-requires-clause-few : goal.push_section_header-requires-clause-few
push_section_header-requires-clause-few g c =
    let first : iter_rest (zip_first c.into_iter-section-iterator.result) ≡ c.args.sections.now = search rules in
    let second : iter_rest (zip_second c.into_iter-section-iterator.result) ≡ c.as_slice.result.now = search rules in
    let turn = zip_turn c.args.sections.now c.as_slice.result.now c.loop-section.yielded c.into_iter-section-iterator.result c.loop-section.section-iterator c.next.new.self c.next.result first second c.loop-section.yielded_by (c.in-Some.section, c.in-Some.place) c.in-Some.is c.next.ensures.steps in
    let step = items_yielded section_view c.args.sections.now c.loop-section.yielded (c.in-Some.section, c.in-Some.place) c.in-Some.section.now turn.0 (turn.2 c.in-Some.section.now) in
    let few = (all_left (λ (s : Section). has_many_relocations s ≡ false) _ _ _ step c.loop-section.invariant.few).0 in
    let le = ltb-false 65534 _ few in
    omega arith

pub overflow_cast-at : goal.overflow_cast-at
overflow_cast-at g c =
    let first : iter_rest (zip_first c.into_iter-section-iterator.result) ≡ c.args.sections.now = search rules in
    let second : iter_rest (zip_second c.into_iter-section-iterator.result) ≡ c.as_slice.result.now = search rules in
    let turn = zip_turn c.args.sections.now c.as_slice.result.now c.loop-section.yielded c.into_iter-section-iterator.result c.loop-section.section-iterator c.next.new.self c.next.result first second c.loop-section.yielded_by (c.in-Some.section, c.in-Some.place) c.in-Some.is c.next.ensures.steps in
    let step = items_yielded section_view c.args.sections.now c.loop-section.yielded (c.in-Some.section, c.in-Some.place) c.in-Some.section.now turn.0 (turn.2 c.in-Some.section.now) in
    let more = map section_view (drop (length (c.loop-section.yielded ++ (c.in-Some.section, c.in-Some.place) ∷ [])) c.args.sections.now) in
    let sizes = ap (λ (ss : List Section). length (flat_map section_body ss)) step ∙ length-append (section_body (section_view c.in-Some.section.now)) (flat_map section_body more) in
    let room = c.loop-section.invariant.fits in
    let counted_size = c.body_size.ensures in
    omega arith

pub overflow_add-at : goal.overflow_add-at
overflow_add-at g c =
    let first : iter_rest (zip_first c.into_iter-section-iterator.result) ≡ c.args.sections.now = search rules in
    let second : iter_rest (zip_second c.into_iter-section-iterator.result) ≡ c.as_slice.result.now = search rules in
    let turn = zip_turn c.args.sections.now c.as_slice.result.now c.loop-section.yielded c.into_iter-section-iterator.result c.loop-section.section-iterator c.next.new.self c.next.result first second c.loop-section.yielded_by (c.in-Some.section, c.in-Some.place) c.in-Some.is c.next.ensures.steps in
    let step = items_yielded section_view c.args.sections.now c.loop-section.yielded (c.in-Some.section, c.in-Some.place) c.in-Some.section.now turn.0 (turn.2 c.in-Some.section.now) in
    let more = map section_view (drop (length (c.loop-section.yielded ++ (c.in-Some.section, c.in-Some.place) ∷ [])) c.args.sections.now) in
    let sizes = ap (λ (ss : List Section). length (flat_map section_body ss)) step ∙ length-append (section_body (section_view c.in-Some.section.now)) (flat_map section_body more) in
    let room = c.loop-section.invariant.fits in
    let counted_size = c.body_size.ensures in
    omega arith

pub loop-section-preserved : goal.loop-section-preserved
loop-section-preserved g c =
    let first : iter_rest (zip_first c.into_iter-section-iterator.result) ≡ c.args.sections.now = search rules in
    let second : iter_rest (zip_second c.into_iter-section-iterator.result) ≡ c.as_slice.result.now = search rules in
    let turn = zip_turn c.args.sections.now c.as_slice.result.now c.loop-section.yielded c.into_iter-section-iterator.result c.loop-section.section-iterator c.next.new.self c.next.result first second c.loop-section.yielded_by (c.in-Some.section, c.in-Some.place) c.in-Some.is c.next.ensures.steps in
    let step = items_yielded section_view c.args.sections.now c.loop-section.yielded (c.in-Some.section, c.in-Some.place) c.in-Some.section.now turn.0 (turn.2 c.in-Some.section.now) in
    let strings = texts_in c.args.places.now.strings in
    let name = c.in-Some.section.now.name.now in
    let place =
    place_at is_long_section_name section_view (λ (y : Section). y.name) strings c.args.sections.now c.as_slice.result.now (length c.loop-section.yielded) c.in-Some.section.now c.in-Some.place.now
    turn.0 (turn.2 c.in-Some.section.now) (c.as_slice.ensures.value ∙ c.requires.places) (turn.3 c.in-Some.place.now) in
    let far = (all_left (λ (s : Section). is_far strings s ≡ false) _ _ _ step c.loop-section.invariant.near).0 in
    let near : c.in-Some.place.now ≤ 9999999 = near_place strings (section_view c.in-Some.section.now) c.in-Some.place.now place far in
    let more = map section_view (drop (length (c.loop-section.yielded ++ (c.in-Some.section, c.in-Some.place) ∷ [])) c.args.sections.now) in
    let sizes = ap (λ (ss : List Section). length (flat_map section_body ss)) step ∙ length-append (section_body (section_view c.in-Some.section.now)) (flat_map section_body more) in
    let room = c.loop-section.invariant.fits in
    let s = section_view c.in-Some.section.now in
    let left = map section_view (drop (length c.loop-section.yielded) c.args.sections.now) in
    let at : ℕ = c.loop-section.at in
    let size : c.body_size.result ≡ length (section_body s) = (let counted_size = c.body_size.ensures in omega arith) in
    let field = section_field strings name c.in-Some.place.now place near in
    record {
      near = (all_left (λ (y : Section). is_far strings y ≡ false) left more s step c.loop-section.invariant.near).1;
      few = (all_left (λ (y : Section). has_many_relocations y ≡ false) left more s step c.loop-section.invariant.few).1;
      fits = omega arith;
      told = λ later. c.loop-section.invariant.told (all_front SectionFits left more s step c.in_ok-push_section_header.ensures.fits later);
      bytes =
          ap (λ (bs : List ℕ). bs ++ section_table strings (at + c.body_size.result) more)
          (c.in_ok-push_section_header.ensures.bytes ∙ ap (λ (bs : List ℕ). c.loop-section.bytes.items ++ (bs ++ section_fields at s)) field)
          ∙ append_assoc c.loop-section.bytes.items (section_header strings at s) (section_table strings (at + c.body_size.result) more)
          ∙ ap (λ (n : ℕ). c.loop-section.bytes.items ++ (section_header strings at s ++ section_table strings (at + n) more)) size
          ∙ ap (λ (ss : List Section). c.loop-section.bytes.items ++ section_table strings at ss) (sym step) ∙ c.loop-section.invariant.bytes;
    }

pub returns-clause-fits : goal.returns-clause-fits
returns-clause-fits g c =
    let first : iter_rest (zip_first c.into_iter-section-iterator.result) ≡ c.args.sections.now = search rules in
    let second : iter_rest (zip_second c.into_iter-section-iterator.result) ≡ c.as_slice.result.now = search rules in
    let ended = zip_end c.args.sections.now c.as_slice.result.now c.loop-section.yielded c.into_iter-section-iterator.result c.loop-section.section-iterator c.next.new.self c.next.result first second c.loop-section.yielded_by c.in-None.is c.next.ensures.steps in
    let places = ap (λ (ns : List ℕ). length ns) (c.as_slice.ensures.value ∙ c.requires.places) ∙ length-map (map section_view c.args.sections.now) (λ (s : Section). place_of is_long_section_name (texts_in c.args.places.now.strings) s.name) ∙ length-map c.args.sections.now section_view in
    let none = none_left section_view c.args.sections.now (length c.loop-section.yielded) (omega arith) in
    c.loop-section.invariant.told (subst (AllByRecursion SectionFits) (sym none) tt)

pub returns-clause-bytes : goal.returns-clause-bytes
returns-clause-bytes g c =
    let first : iter_rest (zip_first c.into_iter-section-iterator.result) ≡ c.args.sections.now = search rules in
    let second : iter_rest (zip_second c.into_iter-section-iterator.result) ≡ c.as_slice.result.now = search rules in
    let ended = zip_end c.args.sections.now c.as_slice.result.now c.loop-section.yielded c.into_iter-section-iterator.result c.loop-section.section-iterator c.next.new.self c.next.result first second c.loop-section.yielded_by c.in-None.is c.next.ensures.steps in
    let places = ap (λ (ns : List ℕ). length ns) (c.as_slice.ensures.value ∙ c.requires.places) ∙ length-map (map section_view c.args.sections.now) (λ (s : Section). place_of is_long_section_name (texts_in c.args.places.now.strings) s.name) ∙ length-map c.args.sections.now section_view in
    let none = none_left section_view c.args.sections.now (length c.loop-section.yielded) (omega arith) in
    sym (append-nil c.loop-section.bytes.items) ∙ ap (λ (ss : List Section). c.loop-section.bytes.items ++ section_table (texts_in c.args.places.now.strings) c.loop-section.at ss) (sym none) ∙ c.loop-section.invariant.bytes
