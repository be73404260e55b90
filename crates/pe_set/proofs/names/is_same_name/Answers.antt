use Rattle.std.specs.Str.{bytes_eq, str_to_ascii_lowercase}
use Rattle.std.proofs.lemmas.Bool.Decides.{same_from_decides}
use Rattle.std.proofs.lemmas.Slice.Eq.{bytes_eq-Decides}
use Rattle.pe_set.proofs.names.is_same_name.Goals as goal

pub returns : goal.returns
returns c =
    same_from_decides c.eq_ignore_ascii_case.result (bytes_eq (str_to_ascii_lowercase c.args.one.now) (str_to_ascii_lowercase c.args.other.now))
    c.eq_ignore_ascii_case.ensures.test (bytes_eq-Decides (str_to_ascii_lowercase c.args.one.now) (str_to_ascii_lowercase c.args.other.now))
