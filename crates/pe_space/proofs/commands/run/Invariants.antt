use Rattle.std.proofs.Common.{◌≡◌, ◌++◌, drop, take}
use Rattle.pe_space.specs.Commands.{replies_of, after_all}
use Rattle.pe_space.proofs.commands.run.Given as goal

abbrev pub invariant-loop-done : goal.invariant-loop-done
invariant-loop-done g l =
    let content = g.S.Space.content in
    record {
      told : l.replies.items ++ replies_of (drop l.done l.commands) (content l.space) ≡ replies_of l.commands (content l.fn.space);
      rest : after_all (drop l.done l.commands) (content l.space) ≡ after_all l.commands (content l.fn.space);
      so_far : content l.space ≡ after_all (take l.done l.commands) (content l.fn.space);
    }
