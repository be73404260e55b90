-- The three parts, one after the other.
use Rattle.std.proofs.Common.{◌≡◌, ◌∙◌, ◌+◌, ◌<◌, ◌^◌, ℕ, false, true, List, [], ◌++◌, length, refl, sym, ap, rules, arith}
use Rattle.std.proofs.lemmas.List.{length-append, map-id}
use Rattle.pe_view.specs.View.{bytes_of}
use Rattle.pe_view.specs.declared.fault.Fault.{Fault}
use Rattle.pe_records_c.specs.Faults.{fault_record}
use Rattle.pe_records_c.specs.Rows.{filled}
use Rattle.c_tables.specs.AllFindings.{is_of_part, part_of}
use Rattle.c_tables.specs.TrustFindings.{present, trust_findings_of}
use Rattle.c_tables.proofs.FewRows.{few_filtered}
use Rattle.c_tables.proofs.FilledRows.{filled_none}
use Rattle.c_tables.proofs.PresentFaults.{present_few}
use Rattle.c_tables.proofs.all_findings.tell_all_findings.Goals as goal

pub put_all-middle-requires : goal.put_all-middle-requires
put_all-middle-requires c =
    let few = few_filtered (is_of_part false) c.args.found.now in
    let early = c.put_part-early.ensures.count in
    let short : length c.args.found.now < 2 ^ 62 = search rules in
    let small : length c.args.between.now < 2 ^ 62 = search rules in
    omega (arith, few, early, short, small)

pub put_findings-own-requires : goal.put_findings-own-requires
put_findings-own-requires c =
    let few = few_filtered (is_of_part false) c.args.found.now in
    let early = c.put_part-early.ensures.count in
    let middle = c.put_all-middle.ensures.count in
    let short : length c.args.found.now < 2 ^ 62 = search rules in
    let small : length c.args.between.now < 2 ^ 62 = search rules in
    omega (arith, few, early, middle, short, small)

pub put_part-requires : goal.put_part-requires
put_part-requires c =
    let few = few_filtered (is_of_part false) c.args.found.now in
    let early = c.put_part-early.ensures.count in
    let middle = c.put_all-middle.ensures.count in
    let own = present_few c.findings_in.result in
    let six : length c.findings_in.result ≡ 6 = search rules in
    let told = c.put_findings-own.ensures.count in
    let short : length c.args.found.now < 2 ^ 62 = search rules in
    let small : length c.args.between.now < 2 ^ 62 = search rules in
    omega (arith, few, early, middle, own, six, told, short, small)

pub returns : goal.returns
returns c =
    let found = c.args.found.now in
    let between = c.args.between.now in
    let before = part_of false found in
    let own = trust_findings_of (bytes_of c.args.file) c.args.headers.now in
    let own_is : present c.findings_in.result ≡ own = ap present c.findings_in.ensures in
    let old = c.args.rows.now in
    let early = c.put_part-early.ensures in
    let middle = c.put_all-middle.ensures in
    let told = c.put_findings-own.ensures in
    let late = c.put_part.ensures in
    let start = early.count in
    let early_count : c.put_part-early.result ≡ length before = omega (arith, start) in
    let first : c.put_part-early.new.rows ≡ filled fault_record before old = early.rows [] old refl (sym (filled_none fault_record old)) in
    let second : c.put_all-middle.new.rows ≡ filled fault_record (before ++ between) old = middle.rows before old (sym early_count) first in
    let two : length (before ++ between) ≡ c.put_all-middle.result =
    length-append before between ∙ ap (λ (n : ℕ). n + length between) (sym early_count) ∙ sym middle.count in
    let third : c.put_findings-own.new.rows ≡ filled fault_record ((before ++ between) ++ own) old =
    told.rows (before ++ between) old two second ∙ ap (λ (faults : List Fault). filled fault_record ((before ++ between) ++ faults) old) own_is in
    let three : length ((before ++ between) ++ own) ≡ c.put_findings-own.result =
    length-append (before ++ between) own ∙ ap (λ (n : ℕ). length (before ++ between) + n) (ap length (sym own_is))
    ∙ ap (λ (n : ℕ). n + length (present c.findings_in.result)) two ∙ sym told.count in
    let fourth : c.put_part.new.rows ≡ filled fault_record (((before ++ between) ++ own) ++ part_of true found) old = late.rows ((before ++ between) ++ own) old three third in
    let counted : c.put_part.result ≡ length (((before ++ between) ++ own) ++ part_of true found) =
    late.count ∙ ap (λ (n : ℕ). n + length (part_of true found)) (sym three) ∙ sym (length-append ((before ++ between) ++ own) (part_of true found)) in
    record {
      rows = map-id c.put_part.new.rows ∙ fourth ∙ ap (filled fault_record (((before ++ between) ++ own) ++ part_of true found)) (sym (map-id old));
      count_is = counted;
      status_is = search (rules, counted);
    }
