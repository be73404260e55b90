-- The names of members, read back.
use Rattle.std.proofs.Common.{◌≡◌, ◌∙◌, ℕ, ◌+◌, ◌-◌, ◌^◌, ◌<◌, Bool, true, false, cond, List, [], ◌∷◌, ◌++◌, length, Option, Some, None, refl, sym, ap, subst, arith, inl, inr, length-append, append_assoc}
use Rattle.std.specs.Prelude.{map, replicate, ◌==◌, ◌||◌, ◌&&◌, not, nat_lt, option_map}
use Rattle.std.specs.Fmt.{decimal}
use Rattle.std.specs.List.{list_any, AllByRecursion}
use Rattle.std.proofs.lemmas.Bool.{cases_Bool, or_parts}
use Rattle.std.proofs.lemmas.List.{drop_at}
use Rattle.bstr.specs.Bytes.{is_in}
use Rattle.pe_view.specs.Number.{byte_of}
use Rattle.coff_archive.specs.Bytes.{before, is_digit}
use Rattle.coff_archive.specs.Members as archive
use Rattle.coff_archive.specs.Members.{is_special}
use Rattle.coff_archive.specs.Names.{is_slash, ends_text, without_slash, long_name, short_name, long_by, place_of, name_at, name_of, contents_behind, contents_of}
use Rattle.coff_library.specs.Members.{Member}
use Rattle.coff_library.specs.WriteFaults.{is_bad_name}
use Rattle.coff_library.specs.Written.{padded, is_long, long_names, name_text, behind_name}
use Rattle.coff_library.proofs.Fields.{decimal_read, first_digit}
use Rattle.coff_library.proofs.Reading.{Part, member_at, written, found_from}

abbrev format_member : Type 0
format_member = archive.Member

-- without a `/`
abbrev pub Plain : List ℕ → Type 0
Plain name = list_any (λ byte. byte == 47) name ≡ false

before_slash : (name rest : List ℕ) → Plain name → before is_slash ((name ++ 47 ∷ []) ++ rest) ≡ Some name
before_slash [] rest none = refl
before_slash (b ∷ name) rest none =
    let parts = or_parts (b == 47) (list_any (λ byte. byte == 47) name) none in
    rw (parts.0, before_slash name rest parts.1) refl

choice : {X : Type 0} (b : Bool) (x y : X) → x ≡ y → cond b x y ≡ y
choice true x y is = is
choice false x y is = refl

third_of : {X : Type 0} (x y : Bool) (p q : X) → cond (x && (y && false)) p q ≡ q
third_of true true p q = refl
third_of true false p q = refl
third_of false y p q = refl

-- a short name stands in its field
place_short : (name : List ℕ) → Plain name → (length name == 0) ≡ false → place_of (padded 16 (name ++ 47 ∷ [])) ≡ long_by None
unfolding padded
place_short [] none some = absurd cc
place_short (a ∷ []) none some =
    let parts = or_parts (a == 47) false none in
    rw parts.0 (choice _ _ _ refl)
place_short (a ∷ b ∷ []) none some =
    let parts = or_parts (a == 47) (list_any (λ byte. byte == 47) (b ∷ [])) none in
    rw parts.0 (choice _ _ _ refl)
place_short (a ∷ b ∷ c ∷ name) none some =
    let parts = or_parts (a == 47) (list_any (λ byte. byte == 47) (b ∷ c ∷ name)) none in
    let more = or_parts (b == 47) (list_any (λ byte. byte == 47) (c ∷ name)) parts.1 in
    let third = (or_parts (c == 47) (list_any (λ byte. byte == 47) name) more.1).0 in
    rw (parts.0, third) (third_of (a == 35) (b == 49) _ _)

first_byte : (name rest : List ℕ) → Plain name → (length name == 0) ≡ false → is_slash (byte_of ((name ++ 47 ∷ []) ++ rest) 0) ≡ false
first_byte [] rest none some = absurd cc
first_byte (a ∷ name) rest none some = (or_parts (a == 47) (list_any (λ byte. byte == 47) name) none).0

short_is : (name : List ℕ) → Plain name → (length name == 0) ≡ false → short_name (padded 16 (name ++ 47 ∷ [])) ≡ name
unfolding padded
short_is name none some =
    let fill : List ℕ = replicate (16 - length (name ++ 47 ∷ [])) 32 in
    rw (first_byte name fill none some, before_slash name fill none) refl

-- `/` and an offset lead to that offset
place_long : (next : ℕ) → next < 2 ^ 32 → place_of (padded 16 (47 ∷ decimal next)) ≡ long_by (Some next)
unfolding padded
place_long next small = ap long_by (decimal_read next (16 - length (47 ∷ decimal next)) small)

-- a text with its zero byte
before_end : (name rest : List ℕ) → list_any (λ byte. byte == 0 || byte == 10) name ≡ false → before ends_text (name ++ 0 ∷ rest) ≡ Some name
unfolding is_in
before_end [] rest none = refl
before_end (b ∷ name) rest none =
    let parts = or_parts (b == 0 || b == 10) (list_any (λ byte. byte == 0 || byte == 10) name) none in
    let both = or_parts (b == 0) (b == 10) parts.0 in
    rw (both.0, both.1, before_end name rest parts.1) refl

-- a long name at its offset
long_is : (name rest done : List ℕ) (next : ℕ) → is_bad_name name ≡ false → next ≡ length done → long_name (done ++ (name ++ 0 ∷ rest)) next ≡ Some name
long_is name rest done next good is =
    let parts = or_parts (length name == 0) (list_any (λ byte. byte == 0 || byte == 10) name || byte_of name (length name - 1) == 47) good in
    let more = or_parts (list_any (λ byte. byte == 0 || byte == 10) name) (byte_of name (length name - 1) == 47) parts.1 in
    let last : without_slash name ≡ name = rw more.1 refl in
    ap (λ (bs : List ℕ). option_map without_slash (before ends_text bs)) (drop_at done (name ++ 0 ∷ rest) next (sym is))
    ∙ ap (option_map without_slash) (before_end name rest more.0) ∙ ap (λ (text : List ℕ). Some text) last

-- a field with a name is none of the archive's own
own_short : (name : List ℕ) → Plain name → (length name == 0) ≡ false → is_special (padded 16 (name ++ 47 ∷ [])) ≡ false
unfolding padded
own_short name none some =
    let fill : List ℕ = replicate (16 - length (name ++ 47 ∷ [])) 32 in
    ap (λ (b : Bool). b && not (is_digit 10 (byte_of ((name ++ 47 ∷ []) ++ fill) 1))) (first_byte name fill none some)

own_long : (next : ℕ) → next < 2 ^ 32 → is_special (padded 16 (47 ∷ decimal next)) ≡ false
unfolding padded
own_long next small = ap (λ (b : Bool). true && not b) (first_digit next (replicate (16 - length (47 ∷ decimal next)) 32) small)

-- the name that a text in a field leads to, and the bytes behind it
abbrev pub IsNamed : List ℕ → List ℕ → ℕ → Member → Type 0
IsNamed names text at m = (name_of names (member_at at (text, m.bytes)) ≡ Some m.name) × (contents_of (member_at at (text, m.bytes)) ≡ m.bytes) × (is_special (padded 16 text) ≡ false)

abbrev pub Named : List ℕ → Member → ℕ → ℕ → Type 0
Named names m next at = IsNamed names (name_text next m.name) at m

named_short : (names : List ℕ) (m : Member) (next at : ℕ) → is_long m.name ≡ false → is_bad_name m.name ≡ false → Named names m next at
named_short names m next at short good =
    let plain = (or_parts (nat_lt 15 (length m.name)) (list_any (λ byte. byte == 47) m.name) short).1 in
    let some = (or_parts (length m.name == 0) _ good).0 in
    let place = place_short m.name plain some in
    let is : name_text next m.name ≡ m.name ++ 47 ∷ [] = ap (λ (b : Bool). cond b (47 ∷ decimal next) (m.name ++ 47 ∷ [])) short in
    let e : format_member = member_at at (m.name ++ 47 ∷ [], m.bytes) in
    subst (λ (text : List ℕ). IsNamed names text at m) (sym is)
    (ap (λ (p : _). name_at names e p) place ∙ ap (λ (name : List ℕ). Some name) (short_is m.name plain some), ap (λ (p : _). contents_behind e p) place, own_short m.name plain some)

named_long : (names : List ℕ) (m : Member) (next at : ℕ) → is_long m.name ≡ true → next < 2 ^ 32 → long_name names next ≡ Some m.name → Named names m next at
named_long names m next at long small found =
    let place = place_long next small in
    let is : name_text next m.name ≡ 47 ∷ decimal next = ap (λ (b : Bool). cond b (47 ∷ decimal next) (m.name ++ 47 ∷ [])) long in
    let e : format_member = member_at at (47 ∷ decimal next, m.bytes) in
    subst (λ (text : List ℕ). IsNamed names text at m) (sym is)
    (ap (λ (p : _). name_at names e p) place ∙ found, ap (λ (p : _). contents_behind e p) place, own_long next small)

-- what is left of the long names
pub left_long : (m : Member) (ms : List Member) → is_long m.name ≡ true → long_names (m ∷ ms) ≡ (m.name ++ 0 ∷ []) ++ long_names ms
left_long m ms long = rw long refl

left_short : (m : Member) (ms : List Member) → is_long m.name ≡ false → long_names (m ∷ ms) ≡ long_names ms
left_short m ms short = rw short refl

-- the parts of members, where the next long name stands at an offset
abbrev pub parts_from : ℕ → List Member → List Part
parts_from next [] = []
parts_from next (m ∷ ms) = (name_text next m.name, m.bytes) ∷ parts_from (behind_name next m.name) ms

-- where the long names of the first members are done, those of the others stand behind them
pub record Stand (names : List ℕ) (next : ℕ) (ms : List Member) : Type 0 where
  pub done : List ℕ
  pub whole : names ≡ done ++ long_names ms
  pub len : next ≡ length done

pub stand_long : (names : List ℕ) (next : ℕ) (m : Member) (ms : List Member) → is_long m.name ≡ true → Stand names next (m ∷ ms) → Stand names (next + length m.name + 1) ms
stand_long names next m ms long s =
    let one = length-append s.done (m.name ++ 0 ∷ []) in
    let two = length-append m.name (0 ∷ []) in
    let len = s.len in
    record {
      done = s.done ++ (m.name ++ 0 ∷ []);
      whole = s.whole ∙ ap (λ (bs : List ℕ). s.done ++ bs) (left_long m ms long) ∙ sym (append_assoc s.done (m.name ++ 0 ∷ []) (long_names ms));
      len = omega (arith, one, two, len);
    }

pub stand_short : (names : List ℕ) (next : ℕ) (m : Member) (ms : List Member) → is_long m.name ≡ false → Stand names next (m ∷ ms) → Stand names next ms
stand_short names next m ms short s = record { done = s.done; whole = s.whole ∙ ap (λ (bs : List ℕ). s.done ++ bs) (left_short m ms short); len = s.len }

long_here : (names : List ℕ) (next : ℕ) (m : Member) (ms : List Member) → is_long m.name ≡ true → is_bad_name m.name ≡ false → Stand names next (m ∷ ms) → long_name names next ≡ Some m.name
long_here names next m ms long good s =
    let whole = s.whole ∙ ap (λ (bs : List ℕ). s.done ++ bs) (left_long m ms long ∙ append_assoc m.name (0 ∷ []) (long_names ms)) in
    ap (λ (bs : List ℕ). long_name bs next) whole ∙ long_is m.name (long_names ms) s.done next good s.len

pub small_here : (names : List ℕ) (next : ℕ) (ms : List Member) → length names < 2 ^ 32 → Stand names next ms → next < 2 ^ 32
small_here names next ms small s =
    let len = s.len in
    let whole = ap length s.whole in
    let both = length-append s.done (long_names ms) in
    omega (arith, len, whole, both, small)

-- one that the archive keeps for itself
abbrev pub special : archive.Member → Bool
special m = is_special m.field

-- the names of all members, and their contents
pub record AreNamed (names : List ℕ) (next at : ℕ) (ms : List Member) : Type 0 where
  pub names_are : map (name_of names) (found_from at (parts_from next ms)) ≡ map (λ (m : Member). Some m.name) ms
  pub contents_are : map contents_of (found_from at (parts_from next ms)) ≡ map (λ (m : Member). m.bytes) ms
  pub none_own : list_any special (found_from at (parts_from next ms)) ≡ false

more : (names : List ℕ) (next at after : ℕ) (m : Member) (ms : List Member) → behind_name next m.name ≡ after → Named names m next at
    → AreNamed names after (at + length (written (name_text next m.name, m.bytes))) ms → AreNamed names next at (m ∷ ms)
more names next at after m ms is here later =
    let e : Part = (name_text next m.name, m.bytes) in
    let place : ℕ = at + length (written e) in
    record {
      names_are =
          ap (λ (n : ℕ). name_of names (member_at at e) ∷ map (name_of names) (found_from place (parts_from n ms))) is
          ∙ ap (λ (o : Option (List ℕ)). o ∷ map (name_of names) (found_from place (parts_from after ms))) here.0 ∙ ap (λ (os : List (Option (List ℕ))). Some m.name ∷ os) later.names_are;
      contents_are =
          ap (λ (n : ℕ). contents_of (member_at at e) ∷ map contents_of (found_from place (parts_from n ms))) is
          ∙ ap (λ (bs : List ℕ). bs ∷ map contents_of (found_from place (parts_from after ms))) here.1 ∙ ap (λ (bss : List (List ℕ)). m.bytes ∷ bss) later.contents_are;
      none_own =
          ap (λ (n : ℕ). special (member_at at e) || list_any special (found_from place (parts_from n ms))) is
          ∙ ap (λ (b : Bool). b || list_any special (found_from place (parts_from after ms))) here.2 ∙ later.none_own;
    }

pub are_named : (names : List ℕ) (next at : ℕ) (ms : List Member) → AllByRecursion (λ (m : Member). is_bad_name m.name ≡ false) ms → length names < 2 ^ 32 → Stand names next ms → AreNamed names next at ms
are_named names next at [] good small s = record { names_are = refl; contents_are = refl; none_own = refl }
are_named names next at (m ∷ ms) good small s = elim (cases_Bool (is_long m.name)) [
  | inl long ↦
      (let behind : behind_name next m.name ≡ next + length m.name + 1 = rw long refl in
      let here = named_long names m next at long (small_here names next (m ∷ ms) small s) (long_here names next m ms long good.0 s) in
      more names next at (next + length m.name + 1) m ms behind here (are_named names (next + length m.name + 1) _ ms good.1 small (stand_long names next m ms long s)))
  | inr short ↦
      (let behind : behind_name next m.name ≡ next = rw short refl in
      more names next at next m ms behind (named_short names m next at short good.0) (are_named names next _ ms good.1 small (stand_short names next m ms short s)))
]
