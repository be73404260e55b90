-- The fields and bound slots of an accepted set are sound, and so are the places of its images.
use Rattle.std.proofs.Common.{◌≡◌, ◌∙◌, ◌+◌, ◌*◌, ◌%◌, ◌<◌, ◌≤◌, ◌^◌, ℕ, zero, suc, List, [], ◌∷◌, length, None, Some, refl, sym, ap, subst, arith}
use Rattle.std.specs.Prelude.{slice_get, All, AllPairs}
use Rattle.std.proofs.lemmas.Bool.{ltb-false}
use Rattle.std.proofs.lemmas.List.{length-map}
use Rattle.std.proofs.lemmas.List.Elements.{All-map, All-weaker}
use Rattle.std.proofs.lemmas.Nat.{mul-le}
use Rattle.std.proofs.lemmas.Option.{same_Some, option_and_then_some}
use Rattle.pe_view.specs.Faults.{first_standing}
use Rattle.pe_layout.specs.Image.{slot_width_of}
use Rattle.pe_tables.specs.Exports.{target_at}
use Rattle.pe_tables.specs.ImportPlaces.{IsApart}
use Rattle.pe_tables.specs.Imports.{Import}
use Rattle.pe_tables.specs.Key.{Key, Rva}
use Rattle.pe_ranges.specs.Ranges.{AreApart}
use Rattle.pe_set.specs.Bindings.{bound_to, binding_of, bindings_in, bindings_of}
use Rattle.pe_set.specs.DelayedErrors.{delayed_error}
use Rattle.pe_set.specs.DelayedImports.{delayed_in, with_imports, with_delayed}
use Rattle.pe_set.specs.Numbered.{numbered}
use Rattle.pe_set.specs.Placement.{address_limit}
use Rattle.pe_set.specs.Search.{resolve}
use Rattle.pe_set.specs.SearchEnds.{EndsAs}
use Rattle.pe_set.specs.Set.{Entry, Module, modules_of, placement_of}
use Rattle.pe_set.specs.SetFaults.{names_tests, files_tests, places_tests}
use Rattle.pe_set.specs.SetErrors.{set_error}
use Rattle.pe_set.specs.Sound.{IsSoundImage, IsSoundBinding, SlotsApart, IsSound, slot_of}
use Rattle.pe_set.specs.declared.binding.Binding.{Binding}
use Rattle.pe_set.specs.declared.entry.Policy.{Policy}
use Rattle.pe_set.specs.declared.search.Resolution.{Resolution}
use Rattle.pe_set.specs.declared.search.Resolution.TheVariants.{Bound, Missing, Unknown, Endless}
use Rattle.pe_set.proofs.Classes.{modules_count}
use Rattle.pe_set.proofs.Distinct.{few_entries}
use Rattle.pe_set.proofs.Ending.{ends}
use Rattle.pe_set.proofs.DelayedSound.{DelayLaws, all_known}
use Rattle.pe_set.proofs.Faultless.{classes, delayed_classes}
use Rattle.pe_set.proofs.Gathered.{all_got, pairs_got, AllPairs-nil, AllPairs-append, all_given, pairs_given, few_given, all_numbered, few_numbered}
use Rattle.pe_set.proofs.Images.{Laws, IsFreeSlot, IsKnown, known}
use Rattle.pe_set.proofs.NumberedLists.{pairs_mapped}
use Rattle.pe_set.proofs.Places.{aligned_base, stands, none_before, apart_unless}

-- ---- bindings
bound_parts : (i slot : ℕ) (r : Resolution) (b : Binding) → bound_to i slot r ≡ Some b → (j : ℕ) × (u : ℕ) × (r ≡ Bound j u) × (b ≡ record { image = i; slot = slot; exporter = j; rva = u })
bound_parts i slot (Bound j u) b e = (j, u, refl, sym (same_Some (record { image = i; slot = slot; exporter = j; rva = u }) b e))
bound_parts i slot Missing b e = absurd cc
bound_parts i slot Unknown b e = absurd cc
bound_parts i slot (Endless length) b e = absurd cc

-- a search that ends bound ends at an image that exports the RVA
exporter_of : (s : List Module) (name : List ℕ) (key : Key) (j u : ℕ) → resolve s name key ≡ Bound j u
    → (m : Module) × (by : Key) × (slice_get s j ≡ Some m) × (target_at m.exports by ≡ Some (Rva u))
exporter_of s name key j u is =
    let end = subst (EndsAs s (name, key)) is (ends s name key) in
    let by = end.1.0.1 in
    option_and_then_some (λ (m : Module). target_at m.exports by) (slice_get s j) (Rva u) end.1.2.1 (λ m at target. (m, by, at, target))

own_image : (s : List Module) (i : ℕ) (m : Module) → All (λ (b : Binding). b.image ≡ i) (bindings_in s i m)
own_image s i m =
    all_given (λ (x : Import). Unit {0}) (λ (b : Binding). b.image ≡ i) (binding_of s i)
    (λ x b own is. ap (λ (b : Binding). b.image) (bound_parts i x.slot (resolve s x.module_name x.key) b is).3)
    m.imports (λ k d lt. tt)

module _ (s : List Module) (most : ℕ) (each : (j : ℕ) (m : Module) → slice_get s j ≡ Some m → IsKnown most m) where
  slot_bound : (i : ℕ) (m : Module) (x : Import) (b : Binding) → slice_get s i ≡ Some m → IsFreeSlot m x → binding_of s i x ≡ Some b → IsSoundBinding s b
  slot_bound i m x b at own is =
      let parts = bound_parts i x.slot (resolve s x.module_name x.key) b is in
      let end = exporter_of s x.module_name x.key parts.0 parts.1 parts.2 in
      subst (IsSoundBinding s) (sym parts.3) (record {
        importer = m;
        imports = at;
        inside = own.inside;
        off_fields = own.off_fields;
        exporter = end.0;
        exports = end.2;
        target = (each parts.0 end.0 end.2).targets end.1 parts.1 end.3;
      })

  all_bound : All (IsSoundBinding s) (bindings_of s)
  unfolding bindings_of
  all_bound = all_numbered (IsSoundBinding s) (bindings_in s) 0 s
      (λ i m at. let here : 0 + i ≡ i = omega arith in
      subst (λ (k : ℕ). All (IsSoundBinding s) (bindings_in s k m)) (sym here)
      (all_given (IsFreeSlot m) (IsSoundBinding s) (binding_of s i) (λ x b own is. slot_bound i m x b at own is) m.imports (each i m at).slots))

  -- two slots of one image
  pair_apart : (i : ℕ) (m : Module) (x y : Import) (b other : Binding) → slice_get s i ≡ Some m → IsApart (slot_width_of m.magic) x y
      → binding_of s i x ≡ Some b → binding_of s i y ≡ Some other → SlotsApart s b other
  pair_apart i m x y b other at apart is_b is_other =
      let p = bound_parts i x.slot (resolve s x.module_name x.key) b is_b in
      let q = bound_parts i y.slot (resolve s y.module_name y.key) other is_other in
      let made_b : Binding = record { image = i; slot = x.slot; exporter = p.0; rva = p.1 } in
      let made_other : Binding = record { image = i; slot = y.slot; exporter = q.0; rva = q.1 } in
      subst (λ (b : Binding). SlotsApart s b other) (sym p.3)
      (subst (λ (other : Binding). SlotsApart s made_b other) (sym q.3)
      (λ n got same. subst (λ (n : Module). AreApart (slot_of n made_b) (slot_of n made_other)) (same_Some m n (sym at ∙ got)) apart))

  own_apart : (i : ℕ) (m : Module) → slice_get s i ≡ Some m → AllPairs (SlotsApart s) (bindings_in s i m)
  own_apart i m at = pairs_given (IsApart (slot_width_of m.magic)) (SlotsApart s) (binding_of s i) (λ x y b other apart is_b is_other. pair_apart i m x y b other at apart is_b is_other) m.imports (each i m at).slots_apart

  -- those of later images are of other images
  later_images : (n : ℕ) (t : List Module) → All (λ (b : Binding). n ≤ b.image) (numbered (bindings_in s) n t)
  later_images n t = all_numbered (λ (b : Binding). n ≤ b.image) (bindings_in s) n t
      (λ i m at. All-weaker (λ (b : Binding). b.image ≡ n + i) (λ (b : Binding). n ≤ b.image) (λ b is. omega (arith, is)) (bindings_in s (n + i) m) (own_image s (n + i) m))

  pairs_from : (n : ℕ) (t : List Module) → ((i : ℕ) (m : Module) → slice_get t i ≡ Some m → slice_get s (n + i) ≡ Some m) → AllPairs (SlotsApart s) (numbered (bindings_in s) n t)
  pairs_from n [] tail = AllPairs-nil (SlotsApart s)
  pairs_from n (m ∷ t) tail =
      let here : n + zero ≡ n = omega arith in
      let at : slice_get s n ≡ Some m = subst (λ (k : ℕ). slice_get s k ≡ Some m) here (tail zero m refl) in
      let later = numbered (bindings_in s) (n + 1) t in
      AllPairs-append (SlotsApart s) (bindings_in s n m) later (own_apart n m at)
      (pairs_from (n + 1) t (λ i q got. let there : n + suc i ≡ n + 1 + i = omega arith in subst (λ (k : ℕ). slice_get s k ≡ Some q) there (tail (suc i) q got)))
      (All-weaker (λ (b : Binding). b.image ≡ n) (λ (b : Binding). All (SlotsApart s b) later)
      (λ b own. All-weaker (λ (other : Binding). n + 1 ≤ other.image) (SlotsApart s b) (λ other behind q got same. absurd (omega (arith, own, behind, same))) later (later_images (n + 1) t))
      (bindings_in s n m) (own_image s n m))

  all_apart : AllPairs (SlotsApart s) (bindings_of s)
  unfolding bindings_of
  all_apart = pairs_from 0 s (λ i m at. let here : 0 + i ≡ i = omega arith in subst (λ (k : ℕ). slice_get s k ≡ Some m) (sym here) at)

  few_bound : length (bindings_of s) ≤ length s * most
  unfolding bindings_of
  few_bound = few_numbered (bindings_in s) most 0 s (λ i m at.
      let given = few_given (binding_of s (0 + i)) m.imports in
      let few = (each i m at).slots_few in
      omega (arith, given, few))

-- ---- places
module _ (s : List Module) (none : first_standing (places_tests s) ≡ None) where
  whole_bases : All (λ (m : Module). m.base % 65536 ≡ 0) s
  whole_bases = all_got (λ (m : Module). m.base % 65536 ≡ 0) s (λ j m at. aligned_base (placement_of m) (stands s none j m at).fits)

  below_limit : All (λ (m : Module). m.base + m.image.size ≤ address_limit m.magic) s
  below_limit = all_got (λ (m : Module). m.base + m.image.size ≤ address_limit m.magic) s
      (λ j m at. ltb-false (address_limit m.magic) (m.base + m.image.size) (stands s none j m at).fits.room)

  images_apart : AllPairs (λ (m other : Module). AreApart (m.base, m.image.size) (other.base, other.image.size)) s
  images_apart = pairs_got (λ (m other : Module). AreApart (m.base, m.image.size) (other.base, other.image.size)) s
      (λ i j m other lt at_i at_j. apart_unless other.base other.image.size m.base m.image.size
      (none_before (placement_of other) s i j m (stands s none j other at_j).fits.free lt at_i))

-- ---- the set
-- where its images are
pub record ArePlaced (s : List Module) : Type 0 where
  pub aligned : All (λ (m : Module). m.base % 65536 ≡ 0) s
  pub room : All (λ (m : Module). m.base + m.image.size ≤ address_limit m.magic) s
  pub apart : AllPairs (λ (m other : Module). AreApart (m.base, m.image.size) (other.base, other.image.size)) s

placed : (s : List Module) → first_standing (places_tests s) ≡ None → ArePlaced s
placed s none = record { aligned = whole_bases s none; room = below_limit s none; apart = images_apart s none }

-- a set of known images at such places is sound
sound : (s : List Module) (most : ℕ) → ((j : ℕ) (m : Module) → slice_get s j ≡ Some m → IsKnown most m) → most ≤ 2097152 → length s ≤ 256 → ArePlaced s → IsSound s
sound s most each some few at =
    let slots = few_bound s most each in
    record {
      few = few;
      images = all_got IsSoundImage s (λ j m at. (each j m at).image);
      aligned = at.aligned;
      room = at.room;
      apart = at.apart;
      slots = all_bound s most each;
      slots_apart = all_apart s most each;
      few_slots = few_product (length s) most (length (bindings_of s)) slots few some;
    }
  where
    few_product : (n most slots : ℕ) → slots ≤ n * most → n ≤ 256 → most ≤ 2097152 → slots < 2 ^ 32
    few_product n most slots le few some =
        let less = mul-le n most 256 2097152 few some in
        omega (arith, le, less)

pub images_sound : Laws → (es : List Entry) → first_standing (files_tests es) ≡ None → All IsSoundImage (modules_of es)
images_sound laws es none = all_got IsSoundImage (modules_of es) (λ j m at. (known laws es none j m at).image)

few_images : (es : List Entry) → first_standing (names_tests es) ≡ None → length (modules_of es) ≤ 256
few_images es names =
    let count = modules_count es in
    let entries = few_entries es names in
    omega (arith, count, entries)

-- an accepted set is sound
pub accepted_sound : Laws → (policy : Policy) (es : List Entry) → set_error policy es ≡ None → IsSound (modules_of es)
accepted_sound laws policy es none =
    let ok = classes policy es none in
    sound (modules_of es) 1048576 (known laws es ok.files) (omega arith) (few_images es ok.names) (placed (modules_of es) ok.places)

-- it has few bound slots
pub accepted_few : Laws → (policy : Policy) (es : List Entry) → set_error policy es ≡ None → length (bindings_of (modules_of es)) ≤ 256 * 1048576
accepted_few laws policy es none =
    let ok = classes policy es none in
    let few = few_images es ok.names in
    let slots = few_bound (modules_of es) 1048576 (known laws es ok.files) in
    omega (arith, few, slots)

-- with its delay-loaded imports too
pub delayed_sound : Laws → DelayLaws → (policy : Policy) (es : List Entry) → delayed_error policy es ≡ None → IsSound (with_delayed (modules_of es))
unfolding with_delayed
delayed_sound laws delay policy es none =
    let s = modules_of es in
    let ok = delayed_classes policy es none in
    let few = few_images es ok.names in
    let count = length-map s (λ (m : Module). with_imports (delayed_in s m) m) in
    let at = placed s ok.places in
    sound (with_delayed s) 2097152 (all_known delay s (known laws es ok.files)) (omega arith) (omega (arith, few, count)) (record {
      aligned = All-map (λ (m : Module). m.base % 65536 ≡ 0) (λ (m : Module). with_imports (delayed_in s m) m) s at.aligned;
      room = All-map (λ (m : Module). m.base + m.image.size ≤ address_limit m.magic) (λ (m : Module). with_imports (delayed_in s m) m) s at.room;
      apart = pairs_mapped (λ (m other : Module). AreApart (m.base, m.image.size) (other.base, other.image.size)) (λ (m : Module). with_imports (delayed_in s m) m) s at.apart;
    })
