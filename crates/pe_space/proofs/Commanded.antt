-- After commands a space of an accepted set is that of the same files at other bases, where these are accepted.
use Rattle.std.proofs.Common.{◌≡◌, ◌∙◌, ◌+◌, ℕ, zero, suc, List, [], ◌∷◌, map, None, Some, refl, sym, ap}
use Rattle.std.specs.Prelude.{Option, slice_set}
use Rattle.std.proofs.lemmas.Simd.{map-map}
use Rattle.pe_view.specs.Faults.{first_standing}
use Rattle.pe_view.specs.declared.fault.Fault.{Fault}
use Rattle.pe_set.specs.Bindings.{bindings_of}
use Rattle.pe_set.specs.DelayedImports.{delayed_in, with_imports, with_delayed}
use Rattle.pe_set.specs.Placement.{Placement, move_tests}
use Rattle.pe_set.specs.Set as sets
use Rattle.pe_set.specs.Set.{Entry, Module, modules_from, modules_of, at_bases, rebased}
use Rattle.pe_set.specs.declared.error.MapError.{MapError}
use Rattle.pe_space.specs.Unbound as kept
use Rattle.pe_space.specs.Commands.{after, after_all, moved_unless}
use Rattle.pe_space.specs.Content.{SpaceImage, Content, nth_image, placement_of}
use Rattle.pe_space.specs.Moves.{move_fault, moved}
use Rattle.pe_space.specs.SetContent.{image_content, laid_out, content_of}
use Rattle.pe_space.specs.declared.reply.Command.{Command}
use Rattle.pe_space.specs.declared.reply.Command.TheVariants.{Byte, Window, Move, Base}
use Rattle.pe_space.proofs.Bases.{content_at}
use Rattle.pe_space.proofs.Defining.{placements_bared}

-- ---- the same files at bases
own_bases : (es : List Entry) → at_bases (sets.bases_of es) es ≡ es
own_bases [] = refl
own_bases (e ∷ es) = ap (λ (rest : List Entry). e ∷ rest) (own_bases es)

-- bases that were changed twice can be set at once
put_twice : (later first : List ℕ) (es : List Entry) → at_bases (sets.bases_of (at_bases later (at_bases first es))) es ≡ at_bases later (at_bases first es)
put_twice [] [] [] = refl
put_twice [] (b ∷ first) [] = refl
put_twice (b ∷ later) [] [] = refl
put_twice (b ∷ later) (d ∷ first) [] = refl
put_twice [] [] (e ∷ es) = own_bases (e ∷ es)
put_twice (b ∷ later) [] (e ∷ es) = ap (λ (rest : List Entry). record e { base = b } ∷ rest) (put_twice later [] es)
put_twice [] (d ∷ first) (e ∷ es) = ap (λ (rest : List Entry). record e { base = d } ∷ rest) (put_twice [] first es)
put_twice (b ∷ later) (d ∷ first) (e ∷ es) = ap (λ (rest : List Entry). record e { base = b } ∷ rest) (put_twice later first es)

-- the second entries have the files of the first, at their own bases
abbrev AreSame : List Entry → List Entry → Type 0
AreSame es now = at_bases (sets.bases_of now) es ≡ now

same_later : (es now later : List Entry) → AreSame es now → AreSame now later → AreSame es later
same_later es now later first second =
    let whole : later ≡ at_bases (sets.bases_of later) (at_bases (sets.bases_of now) es) = sym second ∙ ap (at_bases (sets.bases_of later)) (sym first) in
    ap (λ (x : List Entry). at_bases (sets.bases_of x) es) whole ∙ put_twice (sets.bases_of later) (sets.bases_of now) es ∙ sym whole

-- ---- the places of a content's images
content_places : (s : List Module) → map placement_of (content_of s).images ≡ map sets.placement_of s
unfolding content_of laid_out
content_places s = placements_bared 0 (bindings_of s) (map image_content s) ∙ map-map placement_of image_content s

bases_from : (n : ℕ) (es : List Entry) → map (λ (m : Module). m.base) (modules_from n es) ≡ sets.bases_of es
bases_from n [] = refl
bases_from n (e ∷ es) = ap (λ (rest : List ℕ). e.base ∷ rest) (bases_from (n + 1) es)

pub own_places : (es : List Entry) → map (λ (m : Module). m.base) (modules_of es) ≡ sets.bases_of es
unfolding modules_of
own_places es = bases_from 0 es

-- delay-loaded imports change no place
pub delayed_placements : (s : List Module) → map sets.placement_of (with_delayed s) ≡ map sets.placement_of s
unfolding with_delayed
delayed_placements s = map-map sets.placement_of (λ (m : Module). with_imports (delayed_in s m) m) s

pub delayed_places : (es : List Entry) → map (λ (m : Module). m.base) (with_delayed (modules_of es)) ≡ sets.bases_of es
unfolding with_delayed
delayed_places es = map-map (λ (m : Module). m.base) (λ (m : Module). with_imports (delayed_in (modules_of es) m) m) (modules_of es) ∙ own_places es

content_bases : (s : List Module) (es : List Entry) → map (λ (m : Module). m.base) s ≡ sets.bases_of es → kept.bases_of (content_of s) ≡ sets.bases_of es
content_bases s es is =
    sym (map-map (λ (p : Placement). p.base) placement_of (content_of s).images)
    ∙ ap (map (λ (p : Placement). p.base)) (content_places s)
    ∙ map-map (λ (p : Placement). p.base) sets.placement_of s
    ∙ is

-- ---- a move changes one base
own_images : (images : List SpaceImage) → kept.images_at (map (λ (m : SpaceImage). m.base) images) images ≡ images
own_images [] = refl
own_images (m ∷ images) = ap (λ (rest : List SpaceImage). m ∷ rest) (own_images images)

one_base : (images : List SpaceImage) (i base : ℕ) → slice_set images i (record (nth_image images i) { base = base }) ≡ kept.images_at (slice_set (map (λ (m : SpaceImage). m.base) images) i base) images
one_base [] i base = refl
one_base (m ∷ images) zero base = ap (λ (rest : List SpaceImage). record m { base = base } ∷ rest) (sym (own_images images))
one_base (m ∷ images) (suc i) base = ap (λ (rest : List SpaceImage). m ∷ rest) (one_base images i base)

moved_is : (c : Content) (i base : ℕ) → moved c i base ≡ kept.set_at (slice_set (kept.bases_of c) i base) c
moved_is c i base = ap (λ (images : List SpaceImage). record c { images = images }) (one_base c.images i base)

-- the images of entries, and the error by which these are refused
module _ (of : List Entry → List Module) (error : List Entry → Option MapError) where
  -- an accepted set of the same files whose space has this content
  pub record Serves (es : List Entry) (c : Content) : Type 0 where
    pub now : List Entry
    pub same : AreSame es now
    pub accepted : error now ≡ None
    pub content : c ≡ content_of (of now)

  module _
      (places : (es : List Entry) → map (λ (m : Module). m.base) (of es) ≡ sets.bases_of es)
      (moves : (es : List Entry) (i base : ℕ) → error es ≡ None → first_standing (move_tests (map sets.placement_of (of es)) i base) ≡ None
      → error (at_bases (slice_set (sets.bases_of es) i base) es) ≡ None)
      (images : (bases : List ℕ) (es : List Entry) → of (at_bases bases es) ≡ rebased bases (of es))
      (bindings : (bases : List ℕ) (es : List Entry) → bindings_of (of (at_bases bases es)) ≡ bindings_of (of es)) where
    move_serves : (es : List Entry) (i base : ℕ) (o : Option Fault) → error es ≡ None → move_fault (content_of (of es)) i base ≡ o
        → Serves es (moved_unless (content_of (of es)) i base o)
    move_serves es i base None none fault =
        let c = content_of (of es) in
        let bases = slice_set (sets.bases_of es) i base in
        let asked = ap (λ (ps : List Placement). first_standing (move_tests ps i base)) (sym (content_places (of es))) ∙ fault in
        record {
          now = at_bases bases es;
          same = put_twice bases [] es;
          accepted = moves es i base none asked;
          content = moved_is c i base ∙ ap (λ (bs : List ℕ). kept.set_at (slice_set bs i base) c) (content_bases (of es) es (places es))
              ∙ content_at bases (of es) (of (at_bases bases es)) (images bases es) (bindings bases es);
        }
    move_serves es i base (Some y) none fault = record { now = es; same = own_bases es; accepted = none; content = refl }

    serves : (es : List Entry) (command : Command) → error es ≡ None → Serves es (after command (content_of (of es)))
    serves es (Byte address) none = record { now = es; same = own_bases es; accepted = none; content = refl }
    serves es (Window address count) none = record { now = es; same = own_bases es; accepted = none; content = refl }
    serves es (Move i base) none = move_serves es i base (move_fault (content_of (of es)) i base) none refl
    serves es (Base i) none = record { now = es; same = own_bases es; accepted = none; content = refl }

    pub all_serve : (es : List Entry) (commands : List Command) → error es ≡ None → Serves es (after_all commands (content_of (of es)))
    all_serve es [] none = record { now = es; same = own_bases es; accepted = none; content = refl }
    all_serve es (command ∷ commands) none =
        let one = serves es command none in
        let rest = all_serve one.now commands one.accepted in
        record {
          now = rest.now;
          same = same_later es one.now rest.now one.same rest.same;
          accepted = rest.accepted;
          content = ap (after_all commands) one.content ∙ rest.content;
        }

    -- the files at the bases of the content are these
    pub served_now : (es : List Entry) (c : Content) (served : Serves es c) → at_bases (kept.bases_of c) es ≡ served.now
    served_now es c served =
        ap (λ (x : Content). at_bases (kept.bases_of x) es) served.content
        ∙ ap (λ (bs : List ℕ). at_bases bs es) (content_bases (of served.now) served.now (places served.now))
        ∙ served.same
