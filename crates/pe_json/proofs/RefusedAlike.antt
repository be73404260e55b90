-- What the lines of refused images have in common if their files look alike.
use Rattle.std.proofs.Common.{◌≡◌, ◌∙◌, ℕ, ◌+◌, Bool, true, false, List, [], ◌∷◌, ◌++◌, length, map, Option, None, Some, refl, sym, ap, ap₂, arith}
use Rattle.std.specs.Prelude.{nat_le, nat_lt, is_none, option_map, if◌then◌else◌}
use Rattle.std.specs.List.{list_all}
use Rattle.std.specs.Option.{option_or}
use Rattle.std.proofs.lemmas.Bool.{and_parts}
use Rattle.std.proofs.lemmas.Option.{same_Some}
use Rattle.coff_read.specs.ImageNames.{section_name, image_strings}
use Rattle.pe_view.specs.Faults.{Test, first_standing}
use Rattle.pe_view.specs.FirstStanding.{first-append}
use Rattle.pe_view.specs.declared.fault.Fault.{Fault}
use Rattle.pe_view.specs.declared.fault.Place.TheVariants.{Rva}
use Rattle.pe_head.specs.Head.{head_of}
use Rattle.pe_head.specs.HeaderFaults.{head_tests}
use Rattle.pe_head.specs.declared.headers.Headers.{Headers}
use Rattle.pe_head.specs.declared.section.SectionHeader.{SectionHeader}
use Rattle.pe_layout.specs.Image.{LaidOut}
use Rattle.pe_layout.specs.Piece.{end_of}
use Rattle.pe_layout.specs.SectionFaults.{sections_tests, placing_tests}
use Rattle.pe_detail.specs.FaultDetail.{fault_detail, detail_at, image_detail}
use Rattle.pe_text.specs.FileKind.{is_object, is_read, kind_name, kind_of}
use Rattle.pe_text.specs.declared.file_beginning.FileKind.{FileKind}
use Rattle.pe_text.specs.declared.file_beginning.FileKind.TheVariants.{Image}
use Rattle.pe_text.specs.declared.outcome.Outcome.TheVariants.{Refused}
use Rattle.pe_reach.specs.Views.{LookAlike}
use Rattle.pe_json.specs.ImageLine.{head_members}
use Rattle.pe_json.specs.Refused.{kind_of_refused, refused_by}
use Rattle.pe_json.specs.declared.beyond.Beyond.{Beyond}
use Rattle.pe_json.specs.FileLine.{whole_tables, laid_out_tables, image_members, refused_beyond, object_file_line, image_file_line, file_line}
use Rattle.pe_json.proofs.SameLines.{same_head}

-- ---- what they are instead
same_kind : (f g : List ℕ) (fault : Fault) → LookAlike f g → kind_of_refused fault f ≡ kind_of_refused fault g
same_kind f g fault look =
    ap (λ (kind : Option FileKind). option_map kind_name (if is_read fault.number kind then None else kind)) (look.kind_f ∙ sym look.kind_g)

-- ---- which have headers without a fault
-- the number of each fault
abbrev numbers : (ℕ → Bool) → List Test → Bool
numbers p = list_all (λ (t : Test). p t.fault.number)

head_numbers : (f : List ℕ) → numbers (λ n. nat_le n 12) (head_tests 0 f) ≡ true
unfolding head_tests
head_numbers f = refl

section_numbers : (h : Headers) (size before i : ℕ) (sections : List SectionHeader) → numbers (nat_lt 12) (sections_tests 0 h size before i sections) ≡ true
unfolding sections_tests
section_numbers h size before i [] = refl
section_numbers h size before i (s ∷ sections) = section_numbers h size (end_of s) (i + 1) sections

first_number : (p : ℕ → Bool) (tests : List Test) (fault : Fault) → numbers p tests ≡ true → first_standing tests ≡ Some fault → p fault.number ≡ true
first_number p [] fault all is = cc
first_number p (t ∷ tests) fault all is = by t.stands (first_number p tests fault (and_parts _ _ all).1) is
  where
    by : (b : Bool) → (first_standing tests ≡ Some fault → p fault.number ≡ true) → (if b then Some t.fault else first_standing tests) ≡ Some fault → p fault.number ≡ true
    by true others is = ap (λ (f : Fault). p f.number) (sym (same_Some t.fault fault is)) ∙ (and_parts _ _ all).0
    by false others is = others is

-- of two lists whose faults have other numbers, whether the first has one is known by the first fault of both
same_none : (front rest front' rest' : Option Fault) → ((fault : Fault) → front ≡ Some fault → rest' ≡ Some fault → ⊥) → ((fault : Fault) → front' ≡ Some fault → rest ≡ Some fault → ⊥)
    → option_or front rest ≡ option_or front' rest' → is_none front ≡ is_none front'
same_none None rest None rest' apart apart' same = refl
same_none (Some fault) rest (Some fault') rest' apart apart' same = refl
same_none (Some fault) rest None rest' apart apart' same = absurd (apart fault refl (sym same))
same_none None rest (Some fault) rest' apart apart' same = absurd (apart' fault refl same)

apart : (f g : List ℕ) (fault : Fault) → first_standing (head_tests 0 f) ≡ Some fault → first_standing (placing_tests 0 (head_of g) (length g)) ≡ Some fault → ⊥
apart f g fault in_head in_sections =
    let low = first_number (λ n. nat_le n 12) (head_tests 0 f) fault (head_numbers f) in_head in
    let high = first_number (nat_lt 12) (placing_tests 0 (head_of g) (length g)) fault (section_numbers (head_of g) (length g) 0 0 (head_of g).sections.items) in_sections in
    grind (arith, low, high)

same_heads : (f g : List ℕ) → LookAlike f g → is_none (first_standing (head_tests 0 f)) ≡ is_none (first_standing (head_tests 0 g))
same_heads f g look =
    same_none (first_standing (head_tests 0 f)) _ (first_standing (head_tests 0 g)) _ (apart f g) (apart g f)
    (sym (first-append (head_tests 0 f) (placing_tests 0 (head_of f) (length f))) ∙ look.answers.first 0 ∙ first-append (head_tests 0 g) (placing_tests 0 (head_of g) (length g)))

-- ---- what of them has no fault
same_head_members : (f g : List ℕ) → LookAlike f g → head_members (image_strings f (head_of f)) (head_of f) ≡ head_members (image_strings g (head_of g)) (head_of g)
same_head_members f g look =
    same_head (image_strings f (head_of f)) (image_strings g (head_of g)) (head_of f)
    (look.names ∙ ap (λ (h : Headers). map (λ (section : SectionHeader). section_name (image_strings g (head_of g)) section.name) h.sections.items) (sym look.answers.headers))
    ∙ ap (head_members (image_strings g (head_of g))) look.answers.headers

same_tables : (f g : List ℕ) → LookAlike f g → laid_out_tables f ≡ laid_out_tables g
same_tables f g look = ap₂ (λ (fault : Option Fault) (i : LaidOut). if is_none fault then whole_tables i else []) (look.answers.first 0) (look.answers.image 0)

same_members : (f g : List ℕ) → LookAlike f g → image_members f ≡ image_members g
same_members f g look =
    ap₂ (λ (b : Bool) (members : List (List ℕ)). if b then members else []) (same_heads f g look)
    (ap₂ (λ (ts us : List (List ℕ)). ts ++ us) (same_head_members f g look) (same_tables f g look))

-- ---- their lines
-- a file that begins with `MZ` has the line of an image
line_of_image : (beyond : Option Beyond) (name : List ℕ) (size : ℕ) (f : List ℕ) (fault : Fault) → kind_of f ≡ Some Image → file_line beyond name size f (Refused fault) ≡ image_file_line beyond name size f (Refused fault)
line_of_image beyond name size f fault is = ap (λ (kind : Option FileKind). if is_object kind then object_file_line name f (Refused fault) else image_file_line beyond name size f (Refused fault)) is

pub same_refused_lines : (beyond : Option Beyond) (name f g : List ℕ) (size : ℕ) (fault : Fault) → LookAlike f g
    → file_line beyond name size f (Refused fault) ≡ refused_by name (kind_of_refused fault g) fault (fault_detail f size fault) (image_members g ++ refused_beyond beyond f)
same_refused_lines beyond name f g size fault look =
    line_of_image beyond name size f fault look.kind_f ∙ ap₂ (λ (kind : Option (List ℕ)) (members : List (List ℕ)). refused_by name kind fault (fault_detail f size fault) (members ++ refused_beyond beyond f)) (same_kind f g fault look) (same_members f g look)

-- the numbers that the rule of a fault at an RVA compares
pub same_values : (f g : List ℕ) (size : ℕ) (fault : Fault) (rva : ℕ) → LookAlike f g → fault.place ≡ Rva rva → fault_detail f size fault ≡ fault_detail g size fault
same_values f g size fault rva look at =
    ap (detail_at f size fault) at
    ∙ ap₂ (λ (first : Option Fault) (i : LaidOut). if is_none first then image_detail i fault.number (Rva rva) else None) (look.answers.first 0) (look.answers.image 0)
    ∙ sym (ap (detail_at g size fault) at)
