use Rattle.std.proofs.Common.{append-nil, Some}
use Rattle.pe_map_lines.specs.SpaceReport.{space_text}
use Rattle.pe_text.proofs.Adding.{◌then◌}
use Rattle.pe_map_lines.proofs.Mapped.{inside, ends}
use Rattle.pe_map_lines.proofs.space_report.write_space.Goals as goal
use Rattle.pe_map_lines.proofs.space_report.write_space.Goals.{in-Some, in_default}

pub write_images-requires-clause-few : goal.write_images-requires-clause-few
write_images-requires-clause-few g c = c.requires.tellable.few

pub write_bindings-requires-clause-room : goal.write_bindings-requires-clause-room
write_bindings-requires-clause-room g c = c.requires.tellable.room

pub write_window-requires-clause-room : goal.write_window-requires-clause-room
write_window-requires-clause-room g c =
    ends (g.S.Space.content c.args.space.now) c.requires.tellable.apart c.in-Some.address c.in-Some.count (rw c.in-Some.is at c.requires.window)

pub write_window-requires-clause-inside : goal.write_window-requires-clause-inside
write_window-requires-clause-inside g c =
    inside (g.S.Space.content c.args.space.now) c.requires.tellable.apart c.in-Some.address c.in-Some.count (rw c.in-Some.is at c.requires.window)

pub returns : goal.returns
unfolding space_text
returns g c =
    elim c.match-window.branch [
      | in-Some w ↦
          rw w.in-Some.is (c.write_images.ensures then c.write_bindings.ensures then w.write_window.ensures then (rw w.text-is at c.text.ensures))
      | in_default w ↦ rw (w.in_default.is, append-nil) (c.write_images.ensures then c.write_bindings.ensures then (rw w.text-is at c.text.ensures))
    ]
