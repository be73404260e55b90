-- The end is before the offset, or that from there on.
use Rattle.std.proofs.Common.{◌∙◌, ap, sym}
use Rattle.std.specs.Prelude.{option_map}
use Rattle.coff_archive.proofs.Ends.{end-here, end-later}
use Rattle.coff_archive.proofs.member_names.end_from.Goals as goal

pub returns-in-Some : goal.returns-in-Some
returns-in-Some c =
    let is = sym c.before_end.ensures ∙ ap (option_map (λ text. text.now)) c.in-Some.is in
    end-here c.args.names.now c.args.start c.args.stop c.in-Some.text.now is

pub returns-in-None : goal.returns-in-None
returns-in-None c =
    let is = sym c.before_end.ensures ∙ ap (option_map (λ text. text.now)) c.in-None.is in
    c.requires.next ∙ end-later c.args.names.now c.args.start c.args.stop c.requires.order c.requires.inside is
