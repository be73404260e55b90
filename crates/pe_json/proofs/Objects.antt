-- Objects and lists as code adds them, one part after the other.
use Rattle.std.proofs.Common.{◌≡◌, ◌∙◌, ℕ, ◌+◌, ◌<◌, ◌≤◌, Bool, true, false, List, [], ◌∷◌, ◌++◌, codes, decimal, refl, sym, ap, append_assoc, append-nil, ◌&&◌, length, take, drop, get_or, add-one, drop-cons, subst, Option, None, Some, arith}
use Rattle.std.specs.Prelude.{flat_map, map}
use Rattle.std.proofs.lemmas.Grind.{flat_map-append}
use Rattle.std.proofs.lemmas.List.{take-append-drop}
use Rattle.std.proofs.Math.ListN.{drop_of_length-le}
use Rattle.json.specs.Print.{quoted}
use Rattle.pe_text.specs.Text.{hex, hex_at_least, numbered}
use Rattle.pe_json.specs.JsonText.{with_commas, hex_string, member, object, name_as, text_if, number_if, wide_if, numbered_rows}
use Rattle.pe_text.specs.declared.text_writer.TextWriter.{TextWriter}
use Rattle.pe_text.specs.TextWriter.{IsReady, Adds, TakesNoMore}
use Rattle.pe_text.proofs.Adding.{◌then◌}
use Rattle.std.specs.Str.{is_utf8}
use Rattle.pe_json.specs.CertificateRows.{name_if}
use Rattle.pe_json.specs.Listed.{is_nil, items_text, more}
use Rattle.pe_json.specs.Shown.{shown, shown_string}
use Rattle.pe_json.specs.Strings.{name_value, name_value_if, value_if, number_value_if, wide_value_if}

-- The member of a name, where a constant stands for its key, colon and quote, and for what stands before the key.
pub named : (b : Bool) (front key text constant constant_hex : List ℕ) → constant ≡ front ++ quoted key ++ codes ":\"" → constant_hex ≡ front ++ quoted (key ++ codes "_hex") ++ codes ":\""
    → name_value b constant constant_hex text ≡ front ++ name_as b key text
unfolding member hex_string
named true front key text constant constant_hex is is_hex = ap (λ (xs : List ℕ). xs ++ shown text ++ codes "\"") is ∙ simp append_assoc refl
named false front key text constant constant_hex is is_hex = ap (λ (xs : List ℕ). xs ++ flat_map (hex 2) text ++ codes "\"") is_hex ∙ simp append_assoc refl

-- rows after commas
pub next_rows : {Row : Type 0} (row : Row → List ℕ) (r : Row) (rows : List Row) → row r ++ flat_map (λ r. codes "," ++ row r) rows ≡ with_commas (map row (r ∷ rows))
unfolding with_commas
next_rows row r [] = append-nil (row r)
next_rows row r (r2 ∷ rows) = ap (λ (xs : List ℕ). row r ++ (codes "," ++ xs)) (next_rows row r2 rows)

-- a list that has a first row
pub some_rows : {Row : Type 0} (row : Row → List ℕ) (r : Row) (rows all : List Row) → all ≡ r ∷ rows → row r ++ flat_map (λ r. codes "," ++ row r) rows ≡ with_commas (map row all)
some_rows row r rows all is = rw is (next_rows row r rows)

-- and one without
pub no_rows : {Row : Type 0} (row : Row → List ℕ) (all : List Row) → length all ≡ 0 → [] ≡ with_commas (map row all)
unfolding with_commas
no_rows row [] none = refl
no_rows row (r ∷ rows) none = absurd (omega (arith, none))

-- rows of what code holds are rows of what contracts see of it
pub map_views : {Code Row : Type 0} (row : Row → List ℕ) (view : Code → Row) (all : List Code) → map (λ i. row (view i)) all ≡ map row (map view all)
map_views row view [] = refl
map_views row view (i ∷ all) = ap (λ (xs : List (List ℕ)). row (view i) ∷ xs) (map_views row view all)

pub comma_first : (t : List ℕ) (ts : List (List ℕ)) → with_commas (t ∷ ts) ≡ t ++ more ts
unfolding with_commas more
comma_first t [] = sym (append-nil t)
comma_first t (u ∷ ts) = ap (λ (xs : List ℕ). t ++ (codes "," ++ xs)) (comma_first u ts)

-- members after members
pub more_more : (ts us : List (List ℕ)) → more (ts ++ us) ≡ more ts ++ more us
unfolding more
more_more ts us = flat_map-append (λ (t : List ℕ). codes "," ++ t) ts us

-- items after items
pub items_more : (first : Bool) (ts us : List (List ℕ)) → items_text first (ts ++ us) ≡ items_text first ts ++ items_text (first && is_nil ts) us
unfolding with_commas
items_more true [] us = refl
items_more true (t ∷ ts) us = rw (comma_first t (ts ++ us), comma_first t ts, more_more ts us) (sym (append_assoc t (more ts) (more us)))
items_more false ts us = more_more ts us

-- the last of some items
pub ended : {W : Type 0} {taken : W → List ℕ} {failures : W → ℕ} {a b : TextWriter W} {x : List ℕ} → Adds taken failures a b x → Adds taken failures a b (x ++ [])
ended {x = x} p = rw (append-nil x) p

-- no text
pub adds_none : {W : Type 0} {taken : W → List ℕ} {failures : W → ℕ} {a : TextWriter W} → IsReady failures a → Adds taken failures a a []
adds_none ready = record { same = refl; ready = ready; text = λ start t n s. rw (append-nil t) s }

pub items_none : (first : Bool) → items_text first [] ≡ []
unfolding with_commas more
items_none true = refl
items_none false = refl

-- the member of a string, if there is one, where a constant stands for a comma, its key and the colon
pub texted : (constant key : List ℕ) (text : Option (List ℕ)) → constant ≡ codes "," ++ (quoted key ++ codes ":") → value_if constant text ≡ more (text_if key text)
unfolding member text_if more
texted constant key None is = refl
texted constant key (Some text) is = ap (λ (xs : List ℕ). xs ++ shown_string text) is ∙ sym (append-nil (44 ∷ ((quoted key ++ codes ":") ++ shown_string text)))

-- the same of a number
pub number_given : (constant key : List ℕ) (n : Option ℕ) → constant ≡ codes "," ++ (quoted key ++ codes ":") → number_value_if constant n ≡ more (number_if key n)
unfolding member number_if more
number_given constant key None is = refl
number_given constant key (Some n) is = ap (λ (xs : List ℕ). xs ++ decimal n) is ∙ sym (append-nil (44 ∷ ((quoted key ++ codes ":") ++ decimal n)))

-- and of one of 64 bits, where the constant has the beginning of its string too
pub wide_given : (constant key : List ℕ) (n : Option ℕ) → constant ≡ codes "," ++ (quoted key ++ codes ":\"0x") → wide_value_if constant n ≡ more (wide_if key n)
unfolding member wide_if more
wide_given constant key None is = refl
wide_given constant key (Some n) is =
    let digits = hex_at_least 1 n ++ codes "\"" in
    ap (λ (xs : List ℕ). xs ++ digits) is
    ∙ ap (λ (xs : List ℕ). 44 ∷ xs) (append_assoc (quoted key) (codes ":\"0x") digits ∙ sym (append_assoc (quoted key) (codes ":") (codes "\"0x" ++ digits)))
    ∙ sym (append-nil (44 ∷ ((quoted key ++ codes ":") ++ (codes "\"0x" ++ digits))))

-- and of a name
pub name_given : (constant constant_hex key : List ℕ) (text : Option (List ℕ)) → constant ≡ codes "," ++ quoted key ++ codes ":\"" → constant_hex ≡ codes "," ++ quoted (key ++ codes "_hex") ++ codes ":\""
    → name_value_if constant constant_hex text ≡ more (name_if key text)
unfolding name_if more
name_given constant constant_hex key None is is_hex = refl
name_given constant constant_hex key (Some text) is is_hex = named (is_utf8 text) (codes ",") key text constant constant_hex is is_hex ∙ sym (append-nil (44 ∷ name_as (is_utf8 text) key text))

-- rows by their numbers, after commas
pub next_numbered : {Row : Type 0} (row : ℕ → Row → List ℕ) (n : ℕ) (r : Row) (rows : List Row)
    → row n r ++ numbered (λ index r. codes "," ++ row index r) (n + 1) rows ≡ with_commas (numbered_rows row n (r ∷ rows))
unfolding with_commas
next_numbered row n r [] = append-nil (row n r)
next_numbered row n r (r2 ∷ rows) = ap (λ (xs : List ℕ). row n r ++ (codes "," ++ xs)) (next_numbered row (n + 1) r2 rows)

-- a list by numbers that has a first row
pub some_numbered : {Row : Type 0} (row : ℕ → Row → List ℕ) (r : Row) (rows all : List Row) → all ≡ r ∷ rows
    → row 0 r ++ numbered (λ index r. codes "," ++ row index r) 1 rows ≡ with_commas (numbered_rows row 0 all)
some_numbered row r rows all is = rw is (next_numbered row 0 r rows)

-- and one without
pub no_numbered : {Row : Type 0} (row : ℕ → Row → List ℕ) (all : List Row) → length all ≡ 0 → [] ≡ with_commas (numbered_rows row 0 all)
unfolding with_commas
no_numbered row [] none = refl
no_numbered row (r ∷ rows) none = absurd (omega (arith, none))

pub nil_more : (ts us : List (List ℕ)) → is_nil (ts ++ us) ≡ (is_nil ts && is_nil us)
nil_more [] us = refl
nil_more (t ∷ ts) us = refl

-- one more row by its number is written, where the first of all rows has the number n
pub numbered-more : {Row : Type 0} (row : ℕ → Row → List ℕ) (n index : ℕ) (rows : List Row) (r : Row) (written all : List ℕ) → index < length rows
    → written ++ numbered row n (drop index rows) ≡ all
    → (written ++ row n (get_or rows index r)) ++ numbered row (n + 1) (drop (index + 1) rows) ≡ all
numbered-more row n index rows r written all below e =
    let first : drop index rows ≡ get_or rows index r ∷ drop (index + 1) rows = rw add-one (drop-cons rows index r below) in
    rw append_assoc (rw first at e)

-- the items of one more row are added
pub items-next : {Row : Type 0} (items : Row → List (List ℕ)) (index : ℕ) (rows : List Row) (r : Row) (written all : List (List ℕ)) → index < length rows
    → written ++ flat_map items (drop index rows) ≡ all
    → (written ++ items (get_or rows index r)) ++ flat_map items (drop (index + 1) rows) ≡ all
items-next items index rows r written all below e =
    let first : drop index rows ≡ get_or rows index r ∷ drop (index + 1) rows = rw add-one (drop-cons rows index r below) in
    rw append_assoc (rw first at e)

-- no row is left
pub items-end : {Row : Type 0} (items : Row → List (List ℕ)) (index : ℕ) (rows : List Row) (written all : List (List ℕ)) → length rows ≤ index
    → written ++ flat_map items (drop index rows) ≡ all → written ≡ all
items-end {Row = Row} items index rows written all past e = sym (append-nil written) ∙ ap (λ (rest : List Row). written ++ flat_map items rest) (sym (drop_of_length-le rows past)) ∙ e

and_assoc : (a b c : Bool) → ((a && b) && c) ≡ (a && (b && c))
and_assoc true b c = refl
and_assoc false b c = refl

-- whether the next item is still the first
pub first_more : (first : Bool) (ts us : List (List ℕ)) (now next : Bool) → now ≡ (first && is_nil ts) → next ≡ (now && is_nil us) → next ≡ (first && is_nil (ts ++ us))
first_more first ts us now next e f = f ∙ ap (λ (b : Bool). b && is_nil us) e ∙ and_assoc first (is_nil ts) (is_nil us) ∙ ap (λ (b : Bool). first && b) (sym (nil_more ts us))

-- before all items the next is the first
pub nothing_first : (first : Bool) → first ≡ (first && is_nil [])
nothing_first true = refl
nothing_first false = refl

-- the rows up to a place, and the others
pub rows_left : {Row : Type 0} (row : Row → List ℕ) (n : ℕ) (rows : List Row) → flat_map row (take n rows) ++ flat_map row (drop n rows) ≡ flat_map row rows
rows_left row n rows = sym (flat_map-append row (take n rows) (drop n rows)) ∙ ap (flat_map row) (take-append-drop n rows)

module _ {W : Type 0} {taken : W → List ℕ} {failures : W → ℕ} where
  -- members are added, and then more
  pub also : {a b c : TextWriter W} (ts us : List (List ℕ)) → Adds taken failures a b (more ts) → Adds taken failures b c (more us) → Adds taken failures a c (more (ts ++ us))
  also {a = a} {c = c} ts us p q = subst (Adds taken failures a c) (sym (more_more ts us)) (p then q)

  -- and none
  pub also_none : {a b : TextWriter W} (ts : List (List ℕ)) → Adds taken failures a b (more ts) → Adds taken failures a b (more (ts ++ []))
  also_none {a = a} {b = b} ts p = subst (λ (xs : List (List ℕ)). Adds taken failures a b (more xs)) (sym (append-nil ts)) p

  -- members from the first and the others
  pub listed : {a b c : TextWriter W} (t : List ℕ) (ts : List (List ℕ)) → Adds taken failures a b t → Adds taken failures b c (more ts) → Adds taken failures a c (with_commas (t ∷ ts))
  listed {a = a} {c = c} t ts first others = subst (Adds taken failures a c) (sym (comma_first t ts)) (first then others)

  -- an object from its first member, the others and its end
  pub objects : {a b c d : TextWriter W} (t : List ℕ) (ts : List (List ℕ)) → Adds taken failures a b (codes "{" ++ t) → Adds taken failures b c (more ts) → Adds taken failures c d (codes "}")
      → Adds taken failures a d (object (t ∷ ts))
  unfolding object
  objects {a = a} {d = d} t ts first others end =
      subst (Adds taken failures a d) (ap (λ (xs : List ℕ). 123 ∷ (xs ++ codes "}")) (sym (comma_first t ts))) ((first then others) then end)

  -- an object after a text
  pub object_after : {a b c d : TextWriter W} (front t : List ℕ) (ts : List (List ℕ)) → Adds taken failures a b (front ++ (codes "{" ++ t)) → Adds taken failures b c (more ts) → Adds taken failures c d (codes "}")
      → Adds taken failures a d (front ++ object (t ∷ ts))
  unfolding object
  object_after {a = a} {d = d} front t ts first others end =
      subst (Adds taken failures a d)
      (append_assoc (front ++ (123 ∷ t)) (more ts) (codes "}") ∙ append_assoc front (123 ∷ t) (more ts ++ codes "}")
      ∙ ap (λ (xs : List ℕ). front ++ (123 ∷ xs)) (sym (append_assoc t (more ts) (codes "}")) ∙ ap (λ (xs : List ℕ). xs ++ codes "}") (sym (comma_first t ts))))
      ((first then others) then end)

  -- a line from its beginning, the members after that, its end and its line feed
  pub whole_line : {a b c d e : TextWriter W} (t : List ℕ) (ts us : List (List ℕ)) → Adds taken failures a b ((codes "{" ++ t) ++ more ts) → Adds taken failures b c (more us)
      → Adds taken failures c d (codes "}") → Adds taken failures d e (codes "\n") → Adds taken failures a e (object (t ∷ (ts ++ us)) ++ codes "\n")
  unfolding object
  whole_line {a = a} {e = e} t ts us begun others end feed =
      subst (Adds taken failures a e)
      (ap (λ (xs : List ℕ). 123 ∷ ((xs ++ codes "}") ++ codes "\n")) (append_assoc t (more ts) (more us) ∙ ap (λ (xs : List ℕ). t ++ xs) (sym (more_more ts us)) ∙ sym (comma_first t (ts ++ us))))
      (((begun then others) then end) then feed)

  -- the same items
  pub items_are : {a b : TextWriter W} (first : Bool) (ts us : List (List ℕ)) → ts ≡ us → Adds taken failures a b (items_text first ts) → Adds taken failures a b (items_text first us)
  items_are {a = a} {b = b} first ts us e p = subst (λ (xs : List (List ℕ)). Adds taken failures a b (items_text first xs)) e p

  -- items are added after items
  pub also_items : {a b c : TextWriter W} (first : Bool) (ts us : List (List ℕ)) (now : Bool) → now ≡ (first && is_nil ts) → Adds taken failures a b (items_text first ts) → Adds taken failures b c (items_text now us)
      → Adds taken failures a c (items_text first (ts ++ us))
  also_items {a = a} {b = b} {c = c} first ts us now e p q =
      subst (Adds taken failures a c) (sym (items_more first ts us)) (p then (subst (λ (f : Bool). Adds taken failures b c (items_text f us)) e q))

  -- the rest of a text may be left out if the writer takes no more
  pub left-out : (a b : TextWriter W) (written left all : List ℕ) → Adds taken failures a b written → TakesNoMore taken failures b → written ++ left ≡ all → Adds taken failures a b all
  left-out a b written left all adds ends is = subst (Adds taken failures a b) is (adds then ends left)
