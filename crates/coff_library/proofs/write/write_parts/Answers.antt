-- The parts, in order.
use Rattle.std.proofs.Common.{◌∙◌, List, sym, ap, subst, arith}
use Rattle.std.specs.Prelude.{map}
use Rattle.coff_library.specs.Members.{member_view}
use Rattle.coff_library.specs.SymbolView.{symbol_view}
use Rattle.coff_library.specs.Symbols.{Symbol, symbols_of, IsAscending}
use Rattle.coff_library.proofs.Orders.{count_is, all_below, order_below, second_fits}
use Rattle.coff_library.proofs.Records.{parts_are}
use Rattle.coff_library.proofs.write.write_parts.Goals as goal

pub push_first-requires-clause-members : goal.push_first-requires-clause-members
push_first-requires-clause-members g c =
    let ms = map member_view c.args.members.now in
    all_below ms c.args.offsets.now (map symbol_view c.as_slice.result.now) c.requires.offsets (ap (map symbol_view) c.as_slice.ensures.value ∙ c.requires.symbols)

pub push_second-requires-clause-few : goal.push_second-requires-clause-few
push_second-requires-clause-few g c =
    let count = count_is (map member_view c.args.members.now) c.args.offsets.now c.requires.offsets in
    let few = c.requires.fits.few in
    omega (arith, count, few)

pub push_second-requires-clause-size : goal.push_second-requires-clause-size
push_second-requires-clause-size g c =
    let ms = map member_view c.args.members.now in
    let asc : IsAscending (symbols_of ms) (map symbol_view c.as_slice-2.result.now) =
    subst (λ (xs : List _). IsAscending (symbols_of ms) (map symbol_view xs)) (sym c.as_slice-2.ensures.value) (subst (λ (ss : List Symbol). IsAscending ss (map symbol_view c.sort.new.symbols.items)) c.requires.symbols c.sort.ensures) in
    second_fits ms c.args.offsets.now (map symbol_view c.as_slice-2.result.now) c.requires.offsets asc c.requires.fits.second

pub push_second-requires-clause-members : goal.push_second-requires-clause-members
push_second-requires-clause-members g c =
    let ms = map member_view c.args.members.now in
    let asc : IsAscending (symbols_of ms) (map symbol_view c.as_slice-2.result.now) =
    subst (λ (xs : List _). IsAscending (symbols_of ms) (map symbol_view xs)) (sym c.as_slice-2.ensures.value) (subst (λ (ss : List Symbol). IsAscending ss (map symbol_view c.sort.new.symbols.items)) c.requires.symbols c.sort.ensures) in
    order_below ms c.args.offsets.now (map symbol_view c.as_slice-2.result.now) c.requires.offsets asc

pub returns : goal.returns
returns g c =
    let ms = map member_view c.args.members.now in
    record {
      order = map symbol_view c.as_slice-2.result.now;
      ascending =
          subst (λ (xs : List _). IsAscending (symbols_of ms) (map symbol_view xs)) (sym c.as_slice-2.ensures.value)
          (subst (λ (ss : List Symbol). IsAscending ss (map symbol_view c.sort.new.symbols.items)) c.requires.symbols c.sort.ensures);
      written =
          parts_are ms c.args.offsets.now (map symbol_view c.as_slice.result.now) (map symbol_view c.as_slice-2.result.now) c.in_ok-bytes.bytes.items _ _ _ _ _ c.requires.offsets
          (ap (map symbol_view) c.as_slice.ensures.value ∙ c.requires.symbols) c.in_ok-bytes.ensures.items c.in_ok-extend_from_slice.ensures.items
          c.in_ok-push_first.ensures c.in_ok-push_second.ensures c.in_ok-push_names.ensures c.in_ok-push_members.ensures;
    }
