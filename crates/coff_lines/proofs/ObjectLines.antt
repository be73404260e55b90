-- The lines of an object's dump.
use Rattle.std.proofs.Common.{◌≡◌, ◌∙◌, ℕ, ◌+◌, ◌*◌, ◌<◌, List, ◌∷◌, ◌++◌, drop, length, map, Some, ap, sym, subst, append_assoc, zero-add}
use Rattle.std.specs.Prelude.{slice_get}
use Rattle.std.specs.List.{range_with_len}
use Rattle.std.proofs.lemmas.Bool.{lt-ltb}
use Rattle.std.proofs.lemmas.List.{at_drop_more}
use Rattle.std.proofs.lemmas.List.FromFn.{get_or-map-range_with_len}
use Rattle.std.proofs.lemmas.Option.{get_or_from_slice_get}
use Rattle.pe_view.specs.Number.{part}
use Rattle.coff_read.specs.Auxiliary.{AuxRecord}
use Rattle.coff_read.specs.FormAuxiliary.{aux_of, aux_record}
use Rattle.coff_read.specs.FormRecords.{aux_records}
use Rattle.coff_read.specs.Forms.{Form, symbol_len}
use Rattle.coff_read.specs.Records.{Section, Symbol}
use Rattle.pe_text.specs.Text.{numbered}
use Rattle.pe_text.specs.TextWriter.{Adds, TakesNoMore}
use Rattle.pe_text.specs.declared.text_writer.TextWriter.{TextWriter}
use Rattle.pe_text.proofs.Adding.{◌then◌}

-- one more section is written, with its relocations
pub section-next : (lines : ℕ → Section → List ℕ) (index : ℕ) (sections : List Section) (section : Section) (written all : List ℕ) → index < length sections → slice_get sections index ≡ Some section
    → written ++ numbered lines (index + 1) (drop index sections) ≡ all
    → (written ++ lines (index + 1) section) ++ numbered lines (index + 1 + 1) (drop (index + 1) sections) ≡ all
section-next lines index sections section written all below is e =
    let first : drop index sections ≡ section ∷ drop (index + 1) sections =
    at_drop_more (λ ys. ys) sections index section below ∙ ap (λ (s : Section). s ∷ drop (index + 1) sections) (get_or_from_slice_get sections index section section is) in
    rw append_assoc (rw first at e)

-- the item at an index of a list that is made from its indexes
pub item_is : {X : Type 0} (item : ℕ → X) (n i : ℕ) (x : X) → i < n → Some x ≡ slice_get (map item (range_with_len 0 n)) i → x ≡ item i
item_is item n i x below is = sym (get_or_from_slice_get (map item (range_with_len 0 n)) i x x (sym is)) ∙ get_or-map-range_with_len item 0 n i i x below (zero-add i)

-- the auxiliary record that is shown
pub record_told : (big : Form) (s : Symbol) (k : ℕ) (aux : AuxRecord) → k < aux_records big s → Some aux ≡ aux_record big s k
    → aux ≡ aux_of big s (part s.aux (symbol_len big * k) (symbol_len big))
record_told big s k aux below is =
    let e : Some aux ≡ Some (aux_of big s (part s.aux (symbol_len big * k) (symbol_len big))) = rw (lt-ltb k (aux_records big s) below) at is in
    cc

-- the rest of a text may be left out if the writer takes no more
pub left-out : {W : Type 0} {taken : W → List ℕ} {failures : W → ℕ} (a b : TextWriter W) (written left all : List ℕ)
    → Adds taken failures a b written → TakesNoMore taken failures b → written ++ left ≡ all → Adds taken failures a b all
left-out {taken = taken} {failures = failures} a b written left all adds ends is = subst (Adds taken failures a b) is (adds then ends left)
