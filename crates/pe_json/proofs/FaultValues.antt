-- What a line says of a fault is JSON.
use Rattle.std.proofs.Common.{◌≡◌, ℕ, suc, Bool, true, false, List, [], ◌∷◌, refl, flat_map, Option, None, Some}
use Rattle.std.specs.Prelude.{⊤, ◌==◌, ◌&&◌, if◌then◌else◌}
use Rattle.std.specs.List.{list_all}
use Rattle.std.proofs.lemmas.Bool.{and_parts}
use Rattle.pe_view.specs.declared.fault.Fault.{Fault}
use Rattle.pe_view.specs.declared.fault.Place.{Place}
use Rattle.pe_view.specs.declared.fault.Place.TheVariants as at
use Rattle.pe_head.specs.declared.detail.FaultDetail.TheVariants as head
use Rattle.pe_detail.specs.DetailWords as detail
use Rattle.pe_detail.specs.DetailWords.{detail_words}
use Rattle.pe_detail.specs.declared.detail.Detail.{Detail}
use Rattle.pe_detail.specs.declared.detail.Detail.TheVariants as shown
use Rattle.pe_detail.specs.declared.words.Amount.{Amount}
use Rattle.pe_detail.specs.declared.words.Amount.TheVariants as amount
use Rattle.pe_text.specs.FaultWords.{Words, words_in, rules}
use Rattle.pe_json.specs.Refused.{place_object, place_members, words_members, amount_items, value_items, values_object, values_members, fault_object, fault_members}
use Rattle.pe_json.proofs.Printed.{IsValue, AreMembers, ascii, members_value}
use Rattle.pe_json.proofs.Shown.{are_ascii}
use Rattle.pe_json.proofs.JsonMembers.{is_member, number_member, word_member, address_value, members_then}

-- ---- where it is
place_value : (limit : ℕ) (place : Place) → IsValue (suc limit) (place_object place)
unfolding place_object
place_value limit (at.File offset) = members_value limit _ (number_member _ _ _ refl, tt)
place_value limit (at.Rva rva) = members_value limit _ (number_member _ _ _ refl, tt)
place_value limit (at.Address address) = members_value limit _ (is_member _ _ _ refl (address_value _ address), tt)
place_value limit (at.Item n) = members_value limit _ (number_member _ _ _ refl, tt)

are_place_members : (limit : ℕ) (f : Fault) → AreMembers (suc limit) (place_members f)
unfolding place_members
are_place_members limit f = (number_member _ _ _ refl, (is_member _ _ _ refl (place_value limit f.place), tt))

-- words that a table has are ASCII
abbrev AreUtf8Words : Option Words → Type 0
AreUtf8Words None = ⊤
AreUtf8Words (Some words) = (are_ascii words.0 ≡ true) × (are_ascii words.1 ≡ true)

worded : (rows : List (ℕ × Words)) (number : ℕ) → list_all (λ (row : ℕ × Words). are_ascii row.1.0 && are_ascii row.1.1) rows ≡ true → AreUtf8Words (words_in rows number)
worded [] number h = tt
worded (row ∷ rows) number h = by (number == row.0) (worded rows number (and_parts _ _ h).1)
  where
    by : (b : Bool) → AreUtf8Words (words_in rows number) → AreUtf8Words (if b then Some row.1 else words_in rows number)
    by true others = let own = and_parts _ _ (and_parts _ _ h).0 in (own.0, own.1)
    by false others = others

rules_ascii : list_all (λ (row : ℕ × Words). are_ascii row.1.0 && are_ascii row.1.1) rules ≡ true
unfolding rules
rules_ascii = refl

are_words : (limit : ℕ) (words : Option Words) → AreUtf8Words words → AreMembers limit (words_members words)
unfolding words_members
are_words limit None h = tt
are_words limit (Some words) h = (word_member _ _ words.0 refl h.0, (word_member _ _ words.1 refl h.1, tt))

-- the numbers that its rule compares
detail_ascii : (d : Detail) → list_all (λ (part : detail.Words). are_ascii part.1) (detail_words d) ≡ true
unfolding detail_words
detail_ascii (shown.Head (head.FileSize size)) = refl
detail_ascii (shown.Head head.OverLimit) = refl
detail_ascii (shown.Head (head.Signature offset file_size)) = refl
detail_ascii (shown.Head (head.PastFile size offset file_size)) = refl
detail_ascii (shown.Head (head.NumberOfSections number)) = refl
detail_ascii (shown.Head (head.SizeOfImage size)) = refl
detail_ascii (shown.Head (head.FixedFields size needed)) = refl
detail_ascii (shown.Head (head.Directories size directories needed)) = refl
detail_ascii (shown.Head (head.SectionTable end table_end)) = refl
detail_ascii (shown.Head (head.HeadersEnd end image_end)) = refl
detail_ascii (shown.Head (head.SectionEnd end image_end)) = refl
detail_ascii (shown.Head (head.InHeaders begin headers_end)) = refl
detail_ascii (shown.Head (head.InSection begin section_end)) = refl
detail_ascii (shown.PastImage size rva image_end) = refl
detail_ascii (shown.Outside rva image_end) = refl
detail_ascii (shown.Unended rva end) = refl
detail_ascii (shown.Forwarder rva size) = refl
detail_ascii (shown.Limit count limit) = refl
detail_ascii (shown.Index index count) = refl
detail_ascii (shown.HighBits bits) = refl
detail_ascii (shown.TimeStamp stamp) = refl
detail_ascii (shown.BlockSize size left) = refl
detail_ascii (shown.EntryType kind field) = refl
detail_ascii (shown.FieldBytes size rva) = refl
detail_ascii (shown.ImageSize size) = refl
detail_ascii (shown.ImageBase base) = refl
detail_ascii (shown.TableSize size) = refl
detail_ascii (shown.NameOffset offset size) = refl
detail_ascii (shown.Auxiliary count left) = refl

are_amounts : (limit : ℕ) (name : List ℕ) (n : Amount) → are_ascii name ≡ true → AreMembers limit (amount_items name n)
are_amounts limit name amount.Nothing h = tt
are_amounts limit name (amount.Count n) h = (number_member _ _ _ h, tt)
are_amounts limit name (amount.Place n) h = (number_member _ _ _ h, tt)

are_value_items : (limit : ℕ) (parts : List detail.Words) → list_all (λ (part : detail.Words). are_ascii part.1) parts ≡ true → AreMembers limit (flat_map value_items parts)
are_value_items limit [] h = tt
are_value_items limit (part ∷ parts) h =
    members_then limit (value_items part) (flat_map value_items parts) (are_amounts limit part.1 part.2 (and_parts _ _ h).0) (are_value_items limit parts (and_parts _ _ h).1)

are_values_object : (limit : ℕ) (values : List (List ℕ)) → AreMembers limit values → AreMembers (suc limit) (values_object values)
are_values_object limit [] h = tt
are_values_object limit (value ∷ values) h = (is_member _ _ _ refl (members_value limit (value ∷ values) h), tt)

are_values : (limit : ℕ) (d : Option Detail) → AreMembers (suc limit) (values_members d)
unfolding values_members
are_values limit None = tt
are_values limit (Some d) = are_values_object limit (flat_map value_items (detail_words d)) (are_value_items limit (detail_words d) (detail_ascii d))

pub fault_value : (limit : ℕ) (f : Fault) (d : Option Detail) → IsValue (suc (suc limit)) (fault_object f d)
fault_value limit f d =
    members_value (suc limit) _ (
      number_member _ _ _ refl,
      members_then _ (place_members f) _ (are_place_members limit f)
          (members_then _ (words_members (words_in rules f.number)) (values_members d) (are_words _ (words_in rules f.number) (worded rules f.number rules_ascii)) (are_values limit d)),
    )

pub are_fault_members : (limit : ℕ) (f : Fault) (d : Option Detail) → AreMembers (suc (suc limit)) (fault_members f d)
unfolding fault_members
are_fault_members limit f d = (is_member _ _ _ refl (fault_value limit f d), tt)
