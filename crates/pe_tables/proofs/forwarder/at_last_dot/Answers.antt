use Rattle.std.proofs.Common.{◌≡◌, ◌+◌, ◌-◌, ◌∙◌, ℕ, List, length, take, drop, Some, sym, ap, arith}
use Rattle.std.proofs.lemmas.List.{take_all, length-drop}
use Rattle.pe_tables.proofs.LastDot.{no_dot, last_dot}
use Rattle.pe_tables.proofs.forwarder.at_last_dot.Goals as goal

pub returns-in-None : goal.returns-in-None
returns-in-None c = sym (no_dot c.args.text.now (λ k lt is. c.in-None.ensures k (omega arith) lt is))

pub returns-in-Some : goal.returns-in-Some
returns-in-Some c =
    let text = c.args.text.now in
    let dot : ℕ = c.in-Some.dot in
    let found = c.in-Some.ensures.0 in
    let whole : take (length text - (dot + 1)) (drop (dot + 1) text) ≡ drop (dot + 1) text = take_all _ (drop (dot + 1) text) (omega (arith, length-drop (dot + 1) text)) in
    ap (λ (back : List ℕ). Some (take dot text, back)) whole
    ∙ sym (last_dot text dot found.high c.in-Some.ensures.1 (λ k low high is. found.after k (omega arith) high is))
