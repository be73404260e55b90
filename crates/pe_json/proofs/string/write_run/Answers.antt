use Rattle.std.proofs.Common.{◌∙◌, ◌++◌, sym, take}
use Rattle.pe_text.proofs.Adding.{◌then◌}
use Rattle.pe_json.specs.Shown.{shown_character}
use Rattle.pe_json.proofs.Shown.{run_boundary, run_first, run_then}
use Rattle.pe_json.proofs.string.write_run.Goals as goal

pub split_at-requires : goal.split_at-requires
split_at-requires g c =
    let bytes = c.as_bytes.ensures.value in
    run_boundary c.args.string.now c.plain_len.result (rw bytes at c.plain_len.ensures.within) (rw bytes at c.plain_len.ensures.ends)

pub returns-clause-adds : goal.returns-clause-adds
returns-clause-adds g c =
    let s = c.args.string.now in
    let n = c.plain_len.result in
    let bytes = c.as_bytes.ensures.value in
    let boundary = run_boundary s n (rw bytes at c.plain_len.ensures.within) (rw bytes at c.plain_len.ensures.ends) in
    let run = rw (c.as_bytes-2.ensures.value ∙ c.split_at.ensures.front) at c.text.ensures in
    let is = sym c.split_at.ensures.back ∙ sym c.chars-characters.ensures.rest ∙ c.in-Some.ensures.steps.0 in (
      take n s ++ shown_character c.in-Some.character,
      run then c.write_character.ensures,
      rw c.as_str.ensures (run_then s c.next.new.self.rest.now n c.in-Some.character c.utf8.string boundary (rw bytes at c.plain_len.ensures.plain) is),
    )

pub returns-in_default-clause-adds : goal.returns-in_default-clause-adds
returns-in_default-clause-adds g c =
    let s = c.args.string.now in
    let n = c.plain_len.result in
    let bytes = c.as_bytes.ensures.value in
    let boundary = run_boundary s n (rw bytes at c.plain_len.ensures.within) (rw bytes at c.plain_len.ensures.ends) in
    let run = rw (c.as_bytes-2.ensures.value ∙ c.split_at.ensures.front) at c.text.ensures in
    (take n s, run, rw c.split_at.ensures.back (run_first s n c.utf8.string boundary (rw bytes at c.plain_len.ensures.plain)))
