-- The name is what stands up to its end.
use Rattle.std.proofs.Common.{◌∙◌, ap, Some}
use Rattle.std.proofs.lemmas.Bool.{lt-leb}
use Rattle.coff_archive.proofs.Ends.{long-name-taken}
use Rattle.coff_archive.proofs.member_names.MemberNames.long_name.Goals as goal

pub returns : goal.returns
returns g c =
    let names = c.args.self.now.archive.names.now in
    let there = c.args.self.now.archive.names_end_is.ends c.args.offset ∙ lt-leb c.args.self.now.archive.names_end c.args.offset c.if-offset-self.false in
    ap Some c.without_slash.ensures ∙ long-name-taken names c.args.offset c.end_of-end.result there c.end_of-end.ensures.value
