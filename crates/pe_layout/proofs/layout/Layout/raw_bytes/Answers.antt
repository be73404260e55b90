-- The bytes of a run, by the piece that it is in.
use Rattle.std.proofs.Common.{◌≡◌, ◌∙◌, ◌+◌, ◌-◌, ◌≤◌, List, ap, ap₂, sym, length, length-take, drop, ℕ, arith}
use Rattle.std.proofs.lemmas.List.{length-drop}
use Rattle.pe_view.specs.Number.{part}
use Rattle.pe_head.specs.Section.{rawlen}
use Rattle.pe_layout.specs.Layout.{headers_of, file_of, image_of}
use Rattle.pe_layout.specs.Image.{bytes_at}
use Rattle.pe_layout.proofs.Runs.{header_run, raw_run}
use Rattle.pe_layout.proofs.layout.Layout.raw_bytes.Goals as goal

part_len : (file : List ℕ) (o n : ℕ) → o + n ≤ length file → length (part file o n) ≡ n
part_len file o n le = let rest : length (drop o file) ≡ length file - o = length-drop o file in simp length-take (omega (arith, rest, le))

pub returns-then-rva-header_bytes-clause-bytes : goal.returns-then-rva-header_bytes-clause-bytes
unfolding image_of
returns-then-rva-header_bytes-clause-bytes c =
    let l = c.args.self.now in
    let h = headers_of l in
    let r : ℕ = c.args.rva in
    let n : ℕ = h.size_of_headers - r in
    let header_bytes = c.size_of_headers-header_bytes.ensures in
    let under = c.if-rva-header_bytes.true in
    let count : c.from-then-rva-header_bytes.result ≡ n = omega (arith, c.from-then-rva-header_bytes.ensures, header_bytes) in
    let slice : c.unwrap.result.now ≡ part (file_of l) c.from.result c.from-then-rva-header_bytes.result = rw c.unwrap.ensures at c.slice.ensures.value in
    let bytes : c.unwrap.result.now ≡ part (file_of l) r n = slice ∙ ap₂ (λ (a b : ℕ). part (file_of l) a b) c.from.ensures count in
    let run = header_run h (file_of l) r n l.headers_held l.headers_inside (omega (arith, header_bytes, under)) (omega (arith, header_bytes, under)) in
    let len : length c.unwrap.result.now ≡ n = ap (λ (xs : List ℕ). length xs) bytes ∙ part_len (file_of l) r n run.held in
    bytes ∙ sym run.run.bytes_are ∙ ap (λ (m : ℕ). bytes_at (image_of l) r m) (sym len)

pub returns-else-offset-rawlen-clause-bytes : goal.returns-else-offset-rawlen-clause-bytes
unfolding image_of
returns-else-offset-rawlen-clause-bytes c =
    let l = c.args.self.now in
    let s = c.in-Section.section in
    let r : ℕ = c.args.rva in
    let o : ℕ = r - s.virtual_address in
    let n : ℕ = rawlen s - o in
    let under = c.if-offset-rawlen.false in
    let whole = c.rawlen-rawlen.ensures in
    let header_bytes = c.size_of_headers-header_bytes.ensures in
    let behind = c.if-rva-header_bytes.false in
    let slice : c.unwrap-in-Section.result.now ≡ part (file_of l) (c.from-in-Section.result + c.from-in-Section-2.result) c.from-in-Section-3.result = rw c.unwrap-in-Section.ensures at c.slice-in-Section.ensures.value in
    let start : c.from-in-Section.result + c.from-in-Section-2.result ≡ s.pointer_to_raw_data + o = omega (arith, c.from-in-Section.ensures, c.from-in-Section-2.ensures) in
    let count : c.from-in-Section-3.result ≡ n = omega (arith, c.from-in-Section-3.ensures, whole) in
    let bytes : c.unwrap-in-Section.result.now ≡ part (file_of l) (s.pointer_to_raw_data + o) n = slice ∙ ap₂ (λ (a b : ℕ). part (file_of l) a b) start count in
    let run = raw_run (headers_of l) (file_of l) s r n (omega (arith, header_bytes, behind)) c.in-Section.ensures.found (omega (arith, under, whole)) (omega (arith, under, whole)) in
    let len : length c.unwrap-in-Section.result.now ≡ n = ap (λ (xs : List ℕ). length xs) bytes ∙ part_len (file_of l) (s.pointer_to_raw_data + o) n run.held in
    bytes ∙ sym run.run.bytes_are ∙ ap (λ (m : ℕ). bytes_at (image_of l) r m) (sym len)
