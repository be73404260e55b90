-- The report of a space agrees with the set that it was mapped from.
use Rattle.std.proofs.Common.{◌≡◌, ◌∙◌, ℕ, zero, suc, ◌+◌, ◌<◌, ◌≤◌, ◌^◌, Bool, cond, List, [], ◌∷◌, ◌++◌, length, map, refl, sym, ap, subst, arith, Some, None, Ok, Err}
use Rattle.std.specs.Prelude.{Option, All, unwrap_or, option_map, slice_index_or, Result}
use Rattle.std.proofs.lemmas.List.{length-map}
use Rattle.std.proofs.lemmas.Option.{slice_get-map}
use Rattle.pe_view.specs.declared.fault.Fault.{Fault}
use Rattle.pe_set.specs.Placement.{Placement, address_limit}
use Rattle.pe_set.specs.Set as sets
use Rattle.pe_set.specs.Set.{Module, modules_from, modules_of}
use Rattle.pe_set.specs.SetView.{entry_view, entries_of}
use Rattle.pe_set.specs.Sound.{IsSound, IsSoundBinding}
use Rattle.pe_set.specs.Bindings.{bindings_of}
use Rattle.pe_set.specs.declared.binding.Binding.{Binding}
use Rattle.pe_set.specs.declared.entry.SetEntry.{SetEntry}
use Rattle.pe_space.specs.Content as contents
use Rattle.pe_space.specs.Content.{Content, placement_of, nth_image, holder_from, byte_at, size_in, window_image, window_in, window_at}
use Rattle.pe_space.specs.ImagesApart.{ImagesApart}
use Rattle.pe_space.proofs.Addressing.{Holds, holder_inside, holder_is, window_lies}
use Rattle.pe_space.proofs.Images.{modules_count, all_got}
use Rattle.pe_space.proofs.Asked.{limit_le}
use Rattle.pe_space.proofs.SlotsAndFields.{is_in-true, true-is_in}
use Rattle.pe_space_file.proofs.Placed.{given, not_empty}
use Rattle.pe_map_lines.specs.MapReport.{image_line, told_line, export_address, bytes_from, refusal_of, window_lines}
use Rattle.pe_text.specs.Text.{numbered}

-- ---- their lines
-- an accepted set has at most 256 images
pub few_entries : (set : List SetEntry) → IsSound (modules_of (entries_of set)) → length set ≤ 256
few_entries set sound =
    let few = sound.few in
    let count = modules_count (entries_of set) ∙ length-map set entry_view in
    omega (arith, few, count)

images_from : (ps : List Placement) (n : ℕ) (set : List SetEntry) → ((k : ℕ) → size_in ps (n + k) ≡ size_in (map sets.placement_of (modules_from n (map entry_view set))) k)
    → numbered (λ (number : ℕ) (e : SetEntry). told_line ps number (entry_view e)) n set
    ≡ numbered (λ (number : ℕ) (m : Module). image_line number m.name m.base m.image.size) n (modules_from n (map entry_view set))
images_from ps n [] told = refl
images_from ps n (e ∷ set) told =
    let here : n + 0 ≡ n = omega arith in
    let size = sym (ap (size_in ps) here) ∙ told 0 in
    let rest = images_from ps (n + 1) set (λ k. ap (size_in ps) (let step : n + 1 + k ≡ n + suc k = omega arith in step) ∙ told (suc k)) in
    ap (λ (size : Option ℕ). image_line n e.name.now e.base (unwrap_or size 0) ++ numbered (λ (number : ℕ) (f : SetEntry). told_line ps number (entry_view f)) (n + 1) set) size
    ∙ ap (λ (lines : List ℕ). image_line n e.name.now e.base (sets.module_of n (entry_view e)).image.size ++ lines) rest

pub images_told : (set : List SetEntry) → (let s = modules_of (entries_of set) in numbered (λ (number : ℕ) (e : SetEntry). told_line (map sets.placement_of s) number (entry_view e)) 0 set
    ≡ numbered (λ (number : ℕ) (m : Module). image_line number m.name m.base m.image.size) 0 s)
unfolding modules_of
images_told set = images_from (map sets.placement_of (modules_from 0 (entries_of set))) 0 set (λ k. ap (size_in (map sets.placement_of (modules_from 0 (entries_of set)))) (let e : 0 + k ≡ k = omega arith in e))

-- ---- the bound slots
low : (s : List Module) → IsSound s → (b : Binding) → IsSoundBinding s b → export_address (map sets.placement_of s) b < 2 ^ 64
low s sound b bound =
    let base = slice_get-map sets.placement_of s b.exporter ∙ ap (option_map sets.placement_of) bound.exports in
    let room = all_got (λ (m : Module). m.base + m.image.size ≤ address_limit m.magic) s b.exporter bound.exporter sound.room bound.exports in
    let limit = limit_le bound.exporter.magic in
    let target = bound.target in
    let address : export_address (map sets.placement_of s) b ≡ bound.exporter.base + b.rva = ap (λ (p : Option Placement). unwrap_or (option_map (λ (q : Placement). q.base) p) 0 + b.rva) base in
    omega (arith, room, limit, target, address)

-- the address of an export fits into 64 bits
pub exports_low : (s : List Module) → IsSound s → All (λ (b : Binding). export_address (map sets.placement_of s) b < 2 ^ 64) (bindings_of s)
exports_low s sound = λ k d lt. low s sound (slice_index_or (bindings_of s) k d) (sound.slots k d lt)

-- ---- a window
window_bytes : (c : Content) (a n : ℕ) → contents.bytes_from c a n ≡ bytes_from (byte_at c) a n
window_bytes c a zero = refl
window_bytes c a (suc n) = ap (λ (bytes : List ℕ). unwrap_or (byte_at c a) 0 ∷ bytes) (window_bytes c (a + 1) n)

-- where a window is that is not refused
record LiesIn (c : Content) (a n j : ℕ) : Type 0 where
  held : holder_from 0 c.images a ≡ Some j
  inside : a + n ≤ (nth_image c.images j).base + (nth_image c.images j).size

lies_at : (c : Content) (a n : ℕ) (o : Result ℕ Fault) → window_image (map placement_of c.images) a n ≡ o → refusal_of (window_in c a n o) ≡ None → (j : ℕ) × LiesIn c a n j
lies_at c a n (Err fault) is none = absurd cc
lies_at c a n (Ok j) is none = let lies = window_lies c.images a n j is in (j, record { held = lies.0; inside = lies.1 })

lies_where : (c : Content) (a n : ℕ) → refusal_of (window_at c a (suc n)) ≡ None → (j : ℕ) × LiesIn c a (suc n) j
lies_where c a n none =
    let w = window_image (map placement_of c.images) a (suc n) in
    lies_at c a (suc n) w refl (subst (λ (t : Bool). refusal_of (cond t (Ok []) (window_in c a (suc n) w)) ≡ None) (not_empty n) none)

-- a part of it is a window too
part_of : (c : Content) → ImagesApart c → (a n j : ℕ) → LiesIn c a n j → (k m : ℕ) → k + suc m ≤ n → window_at c (a + k) (suc m) ≡ Ok (bytes_from (byte_at c) (a + k) (suc m))
part_of c all a n j there k m fits =
    let first = holder_inside 0 c.images a j there.held in
    let number : first.0 ≡ j = let e = first.1 in omega (arith, e) in
    let holds : Holds c.images a j = subst (Holds c.images a) number first.2 in
    let range = is_in-true _ _ a holds.1 in
    let low = range.0 in
    let end = there.inside in
    let i = nth_image c.images j in
    let here : Holds c.images (a + k) j = (holds.0, true-is_in i.base i.size (a + k) (omega (arith, low)) (omega (arith, end, fits))) in
    given c (a + k) m j (holder_is c (a + k) j all here) (omega (arith, end, fits))
    ∙ ap (λ (bytes : List ℕ). Ok bytes) (window_bytes c (a + k) (suc m))

pub inside : (c : Content) → ImagesApart c → (a n : ℕ) → refusal_of (window_at c a n) ≡ None → (k m : ℕ) → k + m ≤ n → window_at c (a + k) m ≡ Ok (bytes_from (byte_at c) (a + k) m)
inside c all a n none k zero fits = refl
inside c all a zero none k (suc m) fits = absurd (omega (arith, fits))
inside c all a (suc n) none k (suc m) fits = let there = lies_where c a n none in part_of c all a (suc n) there.0 there.1 k m fits

-- it ends within the address space
pub ends : (c : Content) → ImagesApart c → (a n : ℕ) → refusal_of (window_at c a n) ≡ None → 0 < n → a + n ≤ 2 ^ 64
ends c all a zero none some = absurd (omega (arith, some))
ends c all a (suc n) none some =
    let there = lies_where c a n none in
    let end = there.1.inside in
    let room = all.room there.0 in
    let limit = limit_le (nth_image c.images there.0).magic in
    omega (arith, end, room, limit)

-- lines of bytes that are equal at each address are equal
pub same_lines : (byte other : ℕ → Option ℕ) (window : Option (ℕ × ℕ)) → ((a : ℕ) → byte a ≡ other a) → window_lines byte window ≡ window_lines other window
same_lines byte other window same = ap (λ (b : ℕ → Option ℕ). window_lines b window) (λ i. λ (a : ℕ). same a i)
