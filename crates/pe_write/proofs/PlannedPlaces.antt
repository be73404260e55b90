-- The laid-out bytes of a plan, place by place.
use Rattle.std.proofs.Common.{◌≡◌, ℕ, zero, suc, ◌-◌, ◌≤◌, true, false, List, [], ◌∷◌, Some, None, refl, sym, ap, arith, subst}
use Rattle.std.specs.Prelude.{slice_get, nat_lt}
use Rattle.std.proofs.lemmas.Bool.{and_from, and_parts, le-leb, lt-ltb, leb-true, ltb-true, ltb-false, or_parts, false_from_ne_true}
use Rattle.std.proofs.lemmas.Option.{same_Some}
use Rattle.pe_view.specs.Faults.{first_standing}
use Rattle.pe_view.specs.FirstStanding.{none_stands, none-append}
use Rattle.pe_view.specs.Number.{byte_of}
use Rattle.pe_head.specs.declared.section.SectionHeader.{SectionHeader}
use Rattle.pe_layout.specs.Piece.{end_of, holds}
use Rattle.pe_layout.specs.Plain.{IsIn}
use Rattle.pe_write.specs.declared.plan.PlanSection.{PlanSection}
use Rattle.pe_write.specs.PlanFaults.{plan_test, is_misplaced, places_tests}
use Rattle.pe_write.specs.PlanFile.{raw_end, header_from, headers_from, planned_from}

holds_it : (r : ℕ) (h : SectionHeader) → IsIn r h → holds r h ≡ true
holds_it r h is = and_from _ _ (le-leb _ _ is.low) (lt-ltb _ _ is.high)

is_held : (r : ℕ) (h : SectionHeader) → holds r h ≡ true → IsIn r h
is_held r h is = let p = and_parts _ _ is in record { low = leb-true _ _ p.0; high = ltb-true _ _ p.1 }

module _ (image headers : ℕ) where
  -- a section is after the headers and after the previous one
  pub lies_behind : (before : ℕ) (s : SectionHeader) (ss : List SectionHeader) → first_standing (places_tests image headers before (s ∷ ss)) ≡ None
      → ((headers ≤ s.virtual_address) × (before ≤ s.virtual_address)) × (first_standing (places_tests image headers (end_of s) ss) ≡ None)
  unfolding places_tests
  lies_behind before s ss none =
      let parts = none-append (plan_test (is_misplaced image headers before s) ∷ []) (places_tests image headers (end_of s) ss) none in
      let here = or_parts (nat_lt image (end_of s)) _ (none_stands (places_tests image headers before (s ∷ ss)) 0 _ none refl) in
      let behind = or_parts (nat_lt s.virtual_address headers) (nat_lt s.virtual_address before) here.1 in
      ((ltb-false _ _ behind.0, ltb-false _ _ behind.1), parts.1)

  -- and so is each later one
  pub each_behind : (before k : ℕ) (ss : List SectionHeader) (h : SectionHeader) → first_standing (places_tests image headers before ss) ≡ None → slice_get ss k ≡ Some h
      → (headers ≤ h.virtual_address) × (before ≤ h.virtual_address)
  each_behind before k [] h none at = absurd cc
  each_behind before zero (s ∷ ss) h none at =
      let same = same_Some s h at in
      subst (λ (x : SectionHeader). (headers ≤ x.virtual_address) × (before ≤ x.virtual_address)) same (lies_behind before s ss none).0
  each_behind before (suc k) (s ∷ ss) h none at =
      let first = lies_behind before s ss none in
      let later = each_behind (end_of s) k ss h first.1 at in
      let here = first.0.1 in
      let there = later.1 in
      (later.0, omega arith)

  pub planned_at : (a before end k r : ℕ) (ss : List PlanSection) (s : PlanSection) (h : SectionHeader) → first_standing (places_tests image headers before (headers_from a end ss)) ≡ None
      → slice_get ss k ≡ Some s → slice_get (headers_from a end ss) k ≡ Some h → IsIn r h → planned_from a end ss r ≡ byte_of s.raw.now (r - s.virtual_address)
  planned_at a before end k r [] s h none at header is = absurd cc
  planned_at a before end zero r (x ∷ ss) s h none at header is =
      let same = same_Some x s at in
      let held : holds r (header_from a end x) ≡ true = holds_it r (header_from a end x) (subst (IsIn r) (sym (same_Some (header_from a end x) h header)) is) in
      rw held (ap (λ (y : PlanSection). byte_of y.raw.now (r - y.virtual_address)) same)
  planned_at a before end (suc k) r (x ∷ ss) s h none at header is =
      let first = lies_behind before (header_from a end x) (headers_from a (raw_end a end x) ss) none in
      let later = each_behind (end_of (header_from a end x)) k (headers_from a (raw_end a end x) ss) h first.1 header in
      let past = later.1 in
      let low = is.low in
      let not_here : holds r (header_from a end x) ≡ false = false_from_ne_true _ (λ held. let high = (is_held r (header_from a end x) held).high in omega arith) in
      rw not_here (planned_at a (end_of (header_from a end x)) (raw_end a end x) k r ss s h first.1 at header is)

-- outside sections
pub planned_nowhere : (a end r : ℕ) (ss : List PlanSection) → ((k : ℕ) (h : SectionHeader) → slice_get (headers_from a end ss) k ≡ Some h → ¬ (IsIn r h)) → planned_from a end ss r ≡ 0
planned_nowhere a end r [] never = refl
planned_nowhere a end r (x ∷ ss) never =
    let not_here : holds r (header_from a end x) ≡ false = false_from_ne_true _ (λ held. never 0 (header_from a end x) refl (is_held r (header_from a end x) held)) in
    rw not_here (planned_nowhere a (raw_end a end x) r ss (λ k h at. never (suc k) h at))
