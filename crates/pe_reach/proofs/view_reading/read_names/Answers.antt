use Rattle.std.proofs.Common.{◌≡◌, ◌++◌, ℕ, List, length, [], refl, sym, ◌∙◌, append-nil, ap, subst, arith, inl, inr}
use Rattle.std.proofs.lemmas.Bool.{false≢true}
use Rattle.pe_view.specs.View.{bytes_of}
use Rattle.pe_head.specs.HeaderFaults.{head_tests}
use Rattle.pe_reach.specs.Settled.{IsNamed}
use Rattle.pe_reach.proofs.Looks.{HeadOf, head_read, read_whole, read_part, seen}
use Rattle.pe_reach.proofs.view_reading.read_names.Goals as goal
use Rattle.pe_reach.proofs.view_reading.read_names.Goals.{then-is_whole, else-is_whole}

pub returns-then-limit-len : goal.returns-then-limit-len
returns-then-limit-len g c =
    let kept = c.loop-has_ended.invariant in
    let bytes = c.loop-has_ended.bytes.items in
    let size = c.loop-has_ended.bytes.ok.0 in
    let headers = c.read_headers-headers.result in
    let head = subst (λ (l : List ℕ). HeadOf l headers) (c.new.ensures ∙ c.deref.ensures.value) (head_read (head_tests 0 (bytes_of c.new.result)) (bytes_of c.new.result) headers c.read_headers-headers.ensures) in
    let name = subst (λ (l : List ℕ). IsNamed c.args.len l headers) c.deref-in-loop-has_ended.ensures.value
    (c.names_limit-limit.ensures.named (omega (arith, c.if-limit-len.true, c.len.ensures, size, ap (λ (l : List ℕ). length l) c.deref-in-loop-has_ended.ensures.value))) in (
      kept.reads.0,
      kept.reads.1,
      omega (arith, kept.few, ap (λ (l : List ℕ). length l) kept.reads.2),
      (
        kept.reads.2,
        seen (g.R.Source.ended c.loop-has_ended.reader) c.args.len c.args.read.bytes.items kept.reads.0 bytes headers c.if-is_whole.len kept.reads.2 head (kept.goes_on c.loop-has_ended-test.true) kept.few name
            (elim c.if-is_whole.branch [
              | then-is_whole w ↦ inl (omega (arith, w.if-is_whole.true, c.len-is_whole.ensures, size), omega (arith, w.len-is, w.len-then-is_whole.ensures, size))
              | else-is_whole w ↦ inr (λ all. omega (arith, all, w.if-is_whole.false, c.len-is_whole.ensures, size), w.len-is)
            ]),
        kept.count,
        refl,
      ),
    )

pub loop-has_ended-init : goal.loop-has_ended-init
loop-has_ended-init g c =
    let read = c.args.read in
    let ended = g.R.Source.ended c.args.reader.now in
    record {
      reads = ([], sym (append-nil (g.R.Source.given c.args.reader.now)), sym (append-nil read.bytes.items));
      count = refl;
      few = c.requires.few;
      ends = λ is. absurd (false≢true is);
      goes_on = λ is. read_part read.has_ended ended c.args.len read.bytes.items c.requires.read c.if-read.false;
    }

pub returns-then-read : goal.returns-then-read
returns-then-read g c =
    let read = c.args.read in
    let bytes = read.bytes.items in
    let all : bytes ≡ bytes ++ [] = sym (append-nil bytes) in (
      [],
      sym (append-nil (g.R.Source.given c.args.reader.now)),
      omega (arith, c.requires.few, ap (λ (l : List ℕ). length l) all),
      (
        c.whole.ensures.bytes ∙ all,
        inl (inl (read_whole read.has_ended (g.R.Source.ended c.args.reader.now) c.args.len bytes c.requires.read c.if-read.true), c.whole.ensures.size ∙ ap (λ (l : List ℕ). length l) all),
        refl,
        c.whole.ensures.refused,
      ),
    )
