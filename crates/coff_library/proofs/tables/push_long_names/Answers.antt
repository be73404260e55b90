-- One long name more, if it is one.
use Rattle.std.proofs.Common.{◌∙◌, ◌+◌, ◌++◌, [], ◌∷◌, List, ℕ, get_or, drop, sym, ap, append_assoc}
use Rattle.std.specs.Prelude.{map, filter}
use Rattle.coff_library.specs.Members.{Member, member_view}
use Rattle.coff_library.specs.Written.{is_long, texts_bytes, long_names}
use Rattle.coff_library.proofs.Loops.{view_left}
use Rattle.coff_library.proofs.LongNames.{long_more, no_member}
use Rattle.coff_library.proofs.tables.push_long_names.Goals as goal

pub loop-member-preserved : goal.loop-member-preserved
loop-member-preserved g c =
    let members = c.args.members.now in
    let i : ℕ = c.loop-member.member-index in
    let m : Member = member_view (get_or members i no_member) in
    let old : List ℕ = c.loop-member.bytes.items in
    let more : List Member = map member_view (drop (i + 1) members) in
    ap (λ (bs : List ℕ). bs ++ long_names more) c.in_ok-push_long_name.ensures ∙ append_assoc old (texts_bytes (filter is_long (m.name ∷ []))) (long_names more)
    ∙ ap (λ (bs : List ℕ). old ++ bs) (sym (long_more m more)) ∙ ap (λ (ms : List Member). old ++ long_names ms) (sym (view_left member_view members i no_member c.loop-member-test.true)) ∙ c.loop-member.invariant
