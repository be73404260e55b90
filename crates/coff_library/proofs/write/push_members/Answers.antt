-- One member more.
use Rattle.std.proofs.Common.{◌∙◌, ◌+◌, ◌<◌, ◌^◌, ◌++◌, List, ℕ, length, get_or, drop, sym, ap, append_assoc, arith}
use Rattle.std.specs.Prelude.{map}
use Rattle.coff_library.specs.Members.{Member, member_view}
use Rattle.coff_library.specs.Written.{record_of, name_text, behind_name, long_names, records_from}
use Rattle.coff_library.proofs.Loops.{view_left, at_item}
use Rattle.coff_library.proofs.LongNames.{no_member, names_step}
use Rattle.coff_library.proofs.write.push_members.Goals as goal

pub push_member-requires-clause-size : goal.push_member-requires-clause-size
push_member-requires-clause-size g c =
    let small = at_item (λ (m : Member). length m.bytes < 2 ^ 32) member_view c.args.members.now c.loop-member.member-index no_member c.requires.sizes c.loop-member-test.true in
    omega (arith, small)

pub loop-member-preserved : goal.loop-member-preserved
loop-member-preserved g c =
    let members = c.args.members.now in
    let i : ℕ = c.loop-member.member-index in
    let m : Member = member_view (get_or members i no_member) in
    let next : ℕ = c.loop-member.next in
    let old : List ℕ = c.loop-member.bytes.items in
    let more : List Member = map member_view (drop (i + 1) members) in
    let step = view_left member_view members i no_member c.loop-member-test.true in
    let behind = c.behind_name-next.ensures in
    record {
      names =
          ap (λ (n : ℕ). n + length (long_names more)) behind ∙ sym (names_step next m more)
          ∙ ap (λ (ms : List Member). next + length (long_names ms)) (sym step) ∙ c.loop-member.invariant.names;
      bytes =
          ap (λ (bs : List ℕ). bs ++ records_from c.behind_name-next.result more) c.in_ok-push_member.ensures
          ∙ ap (λ (n : ℕ). (old ++ record_of (name_text next m.name) m.bytes) ++ records_from n more) behind
          ∙ append_assoc old (record_of (name_text next m.name) m.bytes) (records_from (behind_name next m.name) more)
          ∙ ap (λ (ms : List Member). old ++ records_from next ms) (sym step) ∙ c.loop-member.invariant.bytes;
    }
