use Rattle.std.proofs.Common.{◌+◌, List, ℕ, ◌∙◌, sym, ap, take}
use Rattle.pe_view.specs.Number.{num, byte_of}
use Rattle.pe_reach.proofs.StringTable.{num_stands}
use Rattle.pe_reach.proofs.part_names.read_size.Goals as goal

pub returns-clause-reads : goal.returns-clause-reads
returns-clause-reads g c =
    let e = c.in_ok-read_range.ensures.reads in
    let all = e.2.1 c.if-not-branch.false in
    let items = c.read_range.new.bytes.items in
    let start = c.len-start.result in
    let read = c.in-Some.ensures in (
      e.0,
      e.1,
      (
        e.2.0,
        (
          c.truncate.ensures.items ∙ ap (λ (n : ℕ). take n items) c.len-start.ensures ∙ all.1,
          λ file has.
              sym (num_stands (byte_of items) (byte_of file) start c.args.offset 4 (λ k lt. ap (λ (n : ℕ). byte_of items (n + k)) c.len-start.ensures ∙ all.2 file has k lt))
              ∙ sym (read.1 ∙ ap (λ (l : List ℕ). num (byte_of l) start 4) (c.new.ensures ∙ c.deref.ensures.value)),
        ),
      ),
    )
