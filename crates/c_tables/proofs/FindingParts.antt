-- Findings that come before a number or after it, one after the other.
use Rattle.std.proofs.Common.{◌≡◌, ◌∙◌, ℕ, ◌+◌, ◌<◌, Bool, cond, true, List, [], ◌∷◌, ◌++◌, length, take, get_or, set, sym, ap, arith}
use Rattle.std.proofs.lemmas.List.{append_assoc, length-append, length-take-le, take_more}
use Rattle.std.proofs.lemmas.List.Elements.{filter_more}
use Rattle.pe_view.specs.declared.fault.Fault.{Fault}
use Rattle.pe_records_c.specs.Faults.{fault_record}
use Rattle.pe_records_c.specs.Rows.{filled}
use Rattle.pe_records_c.specs.declared.fault.FaultRecord.{FaultRecord}
use Rattle.c_tables.specs.AllFindings.{is_of_part, part_of}
use Rattle.c_tables.proofs.FilledRows.{filled_behind}

-- one more
pub part_more : (late : Bool) (found : List Fault) (i : ℕ) (d x : Fault) → i < length found → x ≡ get_or found i d → true ≡ is_of_part late x → part_of late (take (i + 1) found) ≡ part_of late (take i found) ++ x ∷ []
part_more late found i d x under is here =
    let holds : is_of_part late (get_or found i d) ≡ true = ap (is_of_part late) (sym is) ∙ sym here in
    filter_more (is_of_part late) found i d under
    ∙ ap (λ (b : Bool). part_of late (take i found) ++ cond b (get_or found i d ∷ []) []) holds
    ∙ ap (λ (f : Fault). part_of late (take i found) ++ f ∷ []) (sym is)

pub part_counted : (late : Bool) (found : List Fault) (i start count : ℕ) (d x : Fault) → i < length found → x ≡ get_or found i d → true ≡ is_of_part late x → count ≡ start + length (part_of late (take i found))
    → count + 1 ≡ start + length (part_of late (take (i + 1) found))
part_counted late found i start count d x under is here counted =
    let more = ap length (part_more late found i d x under is here) in
    let sum = length-append (part_of late (take i found)) (x ∷ []) in
    omega (arith, more, sum, counted)

-- and its row
pub part_stored : (late : Bool) (found done : List Fault) (i start count : ℕ) (d x : Fault) (initial rows new : List FaultRecord) (r : FaultRecord) → i < length found → x ≡ get_or found i d → true ≡ is_of_part late x
    → length done ≡ start → count ≡ start + length (part_of late (take i found)) → rows ≡ filled fault_record (done ++ part_of late (take i found)) initial → r ≡ fault_record x → new ≡ set rows count r
    → new ≡ filled fault_record (done ++ part_of late (take (i + 1) found)) initial
part_stored late found done i start count d x initial rows new r under is here len counted before row stores =
    let these = part_of late (take i found) in
    let both = length-append done these in
    let place : count ≡ length (done ++ these) = omega (arith, counted, both, len) in
    stores
    ∙ ap (set rows count) row
    ∙ ap (λ (rs : List FaultRecord). set rs count (fault_record x)) before
    ∙ ap (λ (n : ℕ). set (filled fault_record (done ++ these) initial) n (fault_record x)) place
    ∙ filled_behind fault_record (done ++ these) initial x
    ∙ ap (λ (faults : List Fault). filled fault_record faults initial) (append_assoc done these (x ∷ []) ∙ ap (λ (faults : List Fault). done ++ faults) (sym (part_more late found i d x under is here)))

-- the row of one more of all findings
pub all_stored : (found done : List Fault) (i start : ℕ) (d x : Fault) (initial rows new : List FaultRecord) (r : FaultRecord) → i < length found → x ≡ get_or found i d → length done ≡ start
    → rows ≡ filled fault_record (done ++ take i found) initial → r ≡ fault_record x → new ≡ set rows (start + i) r → new ≡ filled fault_record (done ++ take (i + 1) found) initial
all_stored found done i start d x initial rows new r under is len before row stores =
    let these = take i found in
    let both = length-append done these in
    let taken = length-take-le i found (omega (arith, under)) in
    let place : start + i ≡ length (done ++ these) = omega (arith, both, len, taken) in
    let more = take_more found i d under ∙ ap (λ (f : Fault). these ++ f ∷ []) (sym is) in
    stores
    ∙ ap (set rows (start + i)) row
    ∙ ap (λ (rs : List FaultRecord). set rs (start + i) (fault_record x)) before
    ∙ ap (λ (n : ℕ). set (filled fault_record (done ++ these) initial) n (fault_record x)) place
    ∙ filled_behind fault_record (done ++ these) initial x
    ∙ ap (λ (faults : List Fault). filled fault_record faults initial) (append_assoc done these (x ∷ []) ∙ ap (λ (faults : List Fault). done ++ faults) (sym more))
