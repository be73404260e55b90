-- A member is written in three steps.
use Rattle.std.proofs.Common.{◌≡◌, ◌∙◌, ℕ, List, [], ◌∷◌, ◌++◌, length, ap, append_assoc}
use Rattle.coff_archive.specs.Members.{signature}
use Rattle.coff_library.specs.Members.{Member}
use Rattle.coff_library.specs.Symbols.{Symbol, symbols_of}
use Rattle.coff_library.specs.Written.{header, pad, record_of, first_table, second_table, member_offsets, long_names, names_record, records_from, archive_with}

pub record_written : (old one two three name bytes : List ℕ) (size : ℕ) → size ≡ length bytes → one ≡ old ++ header name size → two ≡ one ++ bytes → three ≡ two ++ pad size → three ≡ old ++ record_of name bytes
record_written old one two three name bytes size is first second third =
    third ∙ ap (λ (n : ℕ). two ++ pad n) is ∙ ap (λ (bs : List ℕ). bs ++ pad (length bytes)) second
    ∙ append_assoc one bytes (pad (length bytes)) ∙ ap (λ (bs : List ℕ). bs ++ (bytes ++ pad (length bytes))) (first ∙ ap (λ (n : ℕ). old ++ header name n) is)
    ∙ append_assoc old (header name (length bytes)) (bytes ++ pad (length bytes))

regroup : (a b c d e : List ℕ) → (((a ++ b) ++ c) ++ d) ++ e ≡ a ++ (b ++ (c ++ (d ++ e)))
regroup a b c d e = simp append_assoc

joined : (a b c d e x y z w : List ℕ) → x ≡ a ++ b → y ≡ x ++ c → z ≡ y ++ d → w ≡ z ++ e → w ≡ a ++ (b ++ (c ++ (d ++ e)))
joined a b c d e x y z w one two three four =
    four ∙ ap (λ (bs : List ℕ). bs ++ e) (three ∙ ap (λ (bs : List ℕ). bs ++ d) (two ∙ ap (λ (bs : List ℕ). bs ++ c) one)) ∙ regroup a b c d e

-- the parts of an archive, one behind the other
pub parts_are : (ms : List Member) (offs : List ℕ) (ss order : List Symbol) (start one two three four five : List ℕ) → offs ≡ member_offsets ms → ss ≡ symbols_of ms → start ≡ [] → one ≡ start ++ signature
    → two ≡ one ++ record_of (47 ∷ []) (first_table offs ss) → three ≡ two ++ record_of (47 ∷ []) (second_table offs order) → four ≡ three ++ names_record (long_names ms) → five ≡ four ++ records_from 0 ms
    → five ≡ archive_with ms order
unfolding archive_with
parts_are ms offs ss order start one two three four five places symbols none first second third fourth fifth =
    let begin : one ≡ signature = first ∙ ap (λ (bs : List ℕ). bs ++ signature) none in
    let a = second ∙ ap (λ (bs : List ℕ). bs ++ record_of (47 ∷ []) (first_table offs ss)) begin
    ∙ ap (λ (os : List ℕ). signature ++ record_of (47 ∷ []) (first_table os ss)) places ∙ ap (λ (xs : List Symbol). signature ++ record_of (47 ∷ []) (first_table (member_offsets ms) xs)) symbols in
    let b = third ∙ ap (λ (os : List ℕ). two ++ record_of (47 ∷ []) (second_table os order)) places in
    joined signature (record_of (47 ∷ []) (first_table (member_offsets ms) (symbols_of ms))) (record_of (47 ∷ []) (second_table (member_offsets ms) order)) (names_record (long_names ms)) (records_from 0 ms)
    two three four five a b fourth fifth
