use Rattle.std.proofs.Common.{arith, append-nil, sym, ◌≡◌, ◌∙◌, ap, true, not, Bool, cond, List, [], ◌∷◌, ◌++◌}
use Rattle.std.proofs.lemmas.List.{drop_all, take_all}
use Rattle.std.specs.Prelude.{is_ok}
use Rattle.pe_space.specs.Commands.{replies_of, after_all}
use Rattle.pe_space.specs.declared.reply.Command.{Command}
use Rattle.pe_space.specs.declared.reply.Command.TheVariants.{Byte}
use Rattle.pe_space.specs.declared.reply.Reply.{Reply}
use Rattle.pe_space.proofs.commands.run.Goals as goal
use Rattle.pe_space.proofs.Running.{told_more, rest_more, so_far_more}

pub loop-done-preserved : goal.loop-done-preserved
loop-done-preserved g c =
    let cs = c.args.commands.now in
    let k = c.loop-done.done in
    let now = g.S.Space.content c.loop-done.space in
    let new = g.S.Space.content c.carry_out.new.space in
    let reply = c.in-Ok.reply in
    let went : is_ok c.push.result ≡ true = c.is_err-in-loop-done.ensures.negation ∙ ap not c.if-is_err-2.false in
    let pushed : c.push.new.self.items ≡ c.loop-done.replies.items ++ reply ∷ [] =
    c.push.ensures.items ∙ ap (λ (t : Bool). cond t (c.reserve.new.self.items ++ reply ∷ []) c.reserve.new.self.items) went ∙ ap (λ (xs : List (Reply _)). xs ++ reply ∷ []) c.reserve.ensures.items in
    record {
      told = told_more cs k (Byte 0) c.loop-done.replies.items c.push.new.self.items reply now new _ c.loop-done-test.true c.in-Ok.ensures.reply c.in-Ok.ensures.content pushed c.loop-done.invariant.told;
      rest = rest_more cs k (Byte 0) now new _ c.loop-done-test.true c.in-Ok.ensures.content c.loop-done.invariant.rest;
      so_far = so_far_more cs k (Byte 0) now new _ c.loop-done-test.true c.in-Ok.ensures.content c.loop-done.invariant.so_far;
    }

pub returns-then-is_err-clause-stopped : goal.returns-then-is_err-clause-stopped
returns-then-is_err-clause-stopped g c = (c.loop-done-test.true, c.loop-done.invariant.so_far)

pub returns-in_default-clause-stopped : goal.returns-in_default-clause-stopped
returns-in_default-clause-stopped g c = (c.loop-done-test.true, c.in_default.ensures.err ∙ c.loop-done.invariant.so_far)

pub returns-then-is_err-clause-none : goal.returns-then-is_err-clause-none
returns-then-is_err-clause-none g c = λ none. absurd (omega (arith, c.loop-done-test.true))

pub returns-in_default-clause-none : goal.returns-in_default-clause-none
returns-in_default-clause-none g c = λ none. absurd (omega (arith, c.loop-done-test.true))

pub returns-clause-replies : goal.returns-clause-replies
returns-clause-replies g c =
    let told = λ (cs : List Command). c.loop-done.replies.items ++ replies_of cs (g.S.Space.content c.loop-done.space) in
    sym (append-nil c.loop-done.replies.items) ∙ ap told (sym (drop_all c.loop-done.done c.args.commands.now c.loop-done-test.false)) ∙ c.loop-done.invariant.told

pub returns-clause-content : goal.returns-clause-content
returns-clause-content g c =
    c.loop-done.invariant.so_far
    ∙ ap (λ (cs : List Command). after_all cs (g.S.Space.content c.args.space.now)) (take_all c.loop-done.done c.args.commands.now c.loop-done-test.false)
