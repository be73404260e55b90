use Rattle.std.proofs.Common.{◌≡◌, ◌∙◌, ◌+◌, ◌++◌, ◌∷◌, [], ℕ, suc, List, length, Some, sym, ap, subst, arith}
use Rattle.std.specs.Prelude.{option_map}
use Rattle.std.proofs.lemmas.List.{length-append}
use Rattle.pe_tables.specs.Key.{Key, key_view, target_view}
use Rattle.pe_set.specs.Search.{from_image, resolve_in}
use Rattle.pe_set.specs.Set.{forwarded_name}
use Rattle.pe_set.specs.SetView.{modules_view}
use Rattle.pe_set.specs.NamesView.{names_in}
use Rattle.pe_set.specs.StandView.{Stand, stand_of}
use Rattle.pe_set.specs.PathView.{AreApart, path_view}
use Rattle.pe_set.specs.declared.search.Resolution.TheVariants.{Bound, Missing, Unknown, Endless}
use Rattle.pe_set.proofs.Searching.{resolve_missing, resolve_unknown, resolve_bound, number_within, found_named}
use Rattle.pe_set.proofs.Walking.{walk_begins, walk_on, walk_ends, walk_leads, walk_fits, walk_cycles, cycle_leads}
use Rattle.pe_set.proofs.search.search.Goals as goal

pub loop-image-init : goal.loop-image-init
loop-image-init g c =
    let s = modules_view c.args.modules.now in
    record {
      name = c.args.import.now.«module».now;
      here = c.requires.image;
      placed = c.requires.placed;
      trails = c.requires.trails;
      whole = c.requires.whole;
      walked = rw c.requires.path (walk_begins s c.args.import.now.«module».now (key_view c.args.import.now.key));
    }

pub target_of-requires-clause-number : goal.target_of-requires-clause-number
target_of-requires-clause-number g c = number_within c.args.modules.now c.loop-image.invariant.name c.in-Some.number (sym c.loop-image.invariant.here ∙ c.in-Some.is)

pub overflow_cast-result : goal.overflow_cast-result
overflow_cast-result g c =
    let lt = number_within c.args.modules.now c.loop-image.invariant.name c.in-Some.number (sym c.loop-image.invariant.here ∙ c.in-Some.is) in
    let few = c.requires.few in
    omega (arith, lt, few)

pub returns-in-None-clause-exact : goal.returns-in-None-clause-exact
returns-in-None-clause-exact g c =
    let ms = c.args.modules.now in
    let s = modules_view ms in
    let at = c.loop-image.invariant in
    let key : Key = key_view c.loop-image.key in
    let i : ℕ = c.in-Some.number in
    let here = sym at.here ∙ c.in-Some.is in
    let lacks = sym c.target_of.ensures.exact ∙ ap (option_map target_view) c.in-None.is in
    walk_ends s c.args.import.now.«module».now (key_view c.args.import.now.key) (path_view c.loop-image.path) at.name key at.walked 1 Unknown (resolve_unknown s at.name key 0 i here lacks)

pub returns-in-None-clause-leads : goal.returns-in-None-clause-leads
returns-in-None-clause-leads g c =
    let ms = c.args.modules.now in
    let s = modules_view ms in
    let at = c.loop-image.invariant in
    let key : Key = key_view c.loop-image.key in
    let i : ℕ = c.in-Some.number in
    let here = sym at.here ∙ c.in-Some.is in
    let lacks = sym c.target_of.ensures.exact ∙ ap (option_map target_view) c.in-None.is in
    walk_leads s c.args.import.now.«module».now (key_view c.args.import.now.key) (path_view c.loop-image.path) at.name key at.walked 1 Unknown (resolve_unknown s at.name key 0 i here lacks)

pub returns-in-Some-Rva-clause-exact : goal.returns-in-Some-Rva-clause-exact
returns-in-Some-Rva-clause-exact g c =
    let ms = c.args.modules.now in
    let s = modules_view ms in
    let at = c.loop-image.invariant in
    let key : Key = key_view c.loop-image.key in
    let i : ℕ = c.in-Some.number in
    let here = sym at.here ∙ c.in-Some.is in
    let found = sym c.target_of.ensures.exact ∙ ap (option_map target_view) (c.in-Some-Rva.is ∙ ap (λ t. Some t) c.in-Some-Rva.field-0-is) in
    walk_ends s c.args.import.now.«module».now (key_view c.args.import.now.key) (path_view c.loop-image.path) at.name key at.walked 1 (Bound i c.in-Some-Rva.rva) (resolve_bound s at.name key 0 i here c.in-Some-Rva.rva found)

pub returns-in-Some-Rva-clause-leads : goal.returns-in-Some-Rva-clause-leads
returns-in-Some-Rva-clause-leads g c =
    let ms = c.args.modules.now in
    let s = modules_view ms in
    let at = c.loop-image.invariant in
    let key : Key = key_view c.loop-image.key in
    let i : ℕ = c.in-Some.number in
    let here = sym at.here ∙ c.in-Some.is in
    let found = sym c.target_of.ensures.exact ∙ ap (option_map target_view) (c.in-Some-Rva.is ∙ ap (λ t. Some t) c.in-Some-Rva.field-0-is) in
    walk_leads s c.args.import.now.«module».now (key_view c.args.import.now.key) (path_view c.loop-image.path) at.name key at.walked 1 (Bound i c.in-Some-Rva.rva) (resolve_bound s at.name key 0 i here c.in-Some-Rva.rva found)

pub returns-in-Some-get-clause-exact : goal.returns-in-Some-get-clause-exact
returns-in-Some-get-clause-exact g c =
    let s = modules_view c.args.modules.now in
    let at = c.loop-image.invariant in
    let key : Key = key_view c.loop-image.key in
    let ends = c.in-Some-get.ensures s (c.in-Some.number, key) c.requires.known c.at-at.ensures in
    let is = ap (from_image s (resolve_in ends.0 s) key) (sym at.here ∙ c.in-Some.is) ∙ ends.1 in
    walk_ends s c.args.import.now.«module».now (key_view c.args.import.now.key) (path_view c.loop-image.path) at.name key at.walked (suc ends.0) c.in-Some-get.end is

pub returns-in-Some-get-clause-leads : goal.returns-in-Some-get-clause-leads
returns-in-Some-get-clause-leads g c =
    let s = modules_view c.args.modules.now in
    let at = c.loop-image.invariant in
    let key : Key = key_view c.loop-image.key in
    let ends = c.in-Some-get.ensures s (c.in-Some.number, key) c.requires.known c.at-at.ensures in
    let is = ap (from_image s (resolve_in ends.0 s) key) (sym at.here ∙ c.in-Some.is) ∙ ends.1 in
    walk_leads s c.args.import.now.«module».now (key_view c.args.import.now.key) (path_view c.loop-image.path) at.name key at.walked (suc ends.0) c.in-Some-get.end is

pub add-requires-clause-few : goal.add-requires-clause-few
add-requires-clause-few g c =
    let s = modules_view c.args.modules.now in
    let at = c.loop-image.invariant in
    let fits = walk_fits s c.args.import.now.«module».now (key_view c.args.import.now.key) (path_view c.loop-image.path) at.name (key_view c.loop-image.key) at.walked at.whole.apart in
    let few = c.requires.few_exports in
    omega (arith, fits, few)

pub returns-in-Some-2-clause-exact : goal.returns-in-Some-2-clause-exact
returns-in-Some-2-clause-exact g c =
    let s = modules_view c.args.modules.now in
    let at = c.loop-image.invariant in
    let adds = rw c.in-Some-2.is at c.in_ok-length-in-Some-Forward.ensures.adds in
    ap (λ (n : ℕ). Endless n) adds.3
    ∙ walk_cycles s c.args.import.now.«module».now (key_view c.args.import.now.key) (path_view c.loop-image.path) at.name (key_view c.loop-image.key) at.walked at.whole.apart c.in-Some.number (sym at.here ∙ c.in-Some.is) adds.1
    (adds.2 ∙ ap (λ (p : Stand). Some p) c.at-at.ensures)

pub returns-in-Some-2-clause-leads : goal.returns-in-Some-2-clause-leads
returns-in-Some-2-clause-leads g c =
    let s = modules_view c.args.modules.now in
    let at = c.loop-image.invariant in
    let adds = rw c.in-Some-2.is at c.in_ok-length-in-Some-Forward.ensures.adds in
    rw (adds.0, adds.3)
    (cycle_leads s c.args.import.now.«module».now (key_view c.args.import.now.key) (path_view c.loop-image.path) at.name (key_view c.loop-image.key) at.walked at.whole.apart c.in-Some.number (sym at.here ∙ c.in-Some.is) adds.1
    (adds.2 ∙ ap (λ (p : Stand). Some p) c.at-at.ensures))

pub loop-image-preserved : goal.loop-image-preserved
loop-image-preserved g c =
    let ms = c.args.modules.now in
    let s = modules_view ms in
    let at = c.loop-image.invariant in
    let path : List Stand = path_view c.loop-image.path in
    let key : Key = key_view c.loop-image.key in
    let i : ℕ = c.in-Some.number in
    let here = sym at.here ∙ c.in-Some.is in
    let to = c.in-Some-Forward.«module».now in
    let next : Key = key_view c.in-Some-Forward.next in
    let on = sym c.target_of.ensures.exact ∙ ap (option_map target_view) (c.in-Some-Forward.is ∙ ap (λ t. Some t) c.in-Some-Forward.field-0-is) in
    let adds = rw c.in_default-2.is at c.in_ok-length-in-Some-Forward.ensures.adds in
    let longer = adds.0 ∙ ap (λ (p : Stand). path ++ p ∷ []) c.at-at.ensures in
    record {
      name = forwarded_name to;
      here = c.in_ok-image-in-Some-Forward.ensures ∙ found_named ms (names_in c.args.names.now) (forwarded_name to) c.requires.named;
      placed = tt;
      trails = c.target_of.ensures.trails;
      whole = c.in_ok-length-in-Some-Forward.ensures.whole;
      walked = rw longer (walk_on s c.args.import.now.«module».now (key_view c.args.import.now.key) path at.name key at.walked i here to next on);
    }

pub loop-image-smaller : goal.loop-image-smaller
loop-image-smaller g c =
    let ms = c.args.modules.now in
    let s = modules_view ms in
    let at = c.loop-image.invariant in
    let path : List Stand = path_view c.loop-image.path in
    let key : Key = key_view c.loop-image.key in
    let i : ℕ = c.in-Some.number in
    let here = sym at.here ∙ c.in-Some.is in
    let to = c.in-Some-Forward.«module».now in
    let next : Key = key_view c.in-Some-Forward.next in
    let on = sym c.target_of.ensures.exact ∙ ap (option_map target_view) (c.in-Some-Forward.is ∙ ap (λ t. Some t) c.in-Some-Forward.field-0-is) in
    let adds = rw c.in_default-2.is at c.in_ok-length-in-Some-Forward.ensures.adds in
    let longer = adds.0 ∙ ap (λ (p : Stand). path ++ p ∷ []) c.at-at.ensures in
    let walk = walk_on s c.args.import.now.«module».now (key_view c.args.import.now.key) path at.name key at.walked i here to next on in
    let fits = walk_fits s c.args.import.now.«module».now (key_view c.args.import.now.key) (path ++ stand_of (i, key) ∷ []) (forwarded_name to) next walk (subst AreApart longer c.in_ok-length-in-Some-Forward.ensures.whole.apart) in
    let count : length (path ++ stand_of (i, key) ∷ []) ≡ length path + 1 = length-append path (stand_of (i, key) ∷ []) in
    let new = ap length longer in
    omega (arith, fits, count, new)

pub returns-clause-exact : goal.returns-clause-exact
returns-clause-exact g c =
    let s = modules_view c.args.modules.now in
    let at = c.loop-image.invariant in
    let key : Key = key_view c.loop-image.key in
    walk_ends s c.args.import.now.«module».now (key_view c.args.import.now.key) (path_view c.loop-image.path) at.name key at.walked 1 Missing (resolve_missing s at.name key 0 (sym at.here ∙ c.in_default.is))

pub returns-clause-leads : goal.returns-clause-leads
returns-clause-leads g c =
    let s = modules_view c.args.modules.now in
    let at = c.loop-image.invariant in
    let key : Key = key_view c.loop-image.key in
    walk_leads s c.args.import.now.«module».now (key_view c.args.import.now.key) (path_view c.loop-image.path) at.name key at.walked 1 Missing (resolve_missing s at.name key 0 (sym at.here ∙ c.in_default.is))
