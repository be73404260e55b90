-- The next string is the first of those that are left.
use Rattle.std.proofs.Common.{rules, ◌≡◌, ◌∙◌, ℕ, List, length, ap}
use Rattle.pe_view.specs.View.{bytes_of}
use Rattle.pe_version.specs.Block.{key_in, value_in, place_of}
use Rattle.pe_version.specs.Tables.{entry_at}
use Rattle.pe_version.specs.TablesLeft.{entries_left}
use Rattle.pe_version.proofs.ReachingTables.{of_later, to_entry}
use Rattle.pe_version.proofs.tables.TableStringsIterator.next.Goals as goal

pub returns-clause-steps : goal.returns-clause-steps
returns-clause-steps c =
    let s = c.args.self.now in
    let p = c.in_ok-block.ensures in
    let block = c.in_ok-block.block in
    let b : List ℕ = bytes_of s.strings.view in
    let later = c.next.new.self in
    let its : bytes_of block.view ≡ b = ap (λ (v : _). bytes_of v) p.its_view in
    to_entry b s.strings.end s.strings.at c.key.result.now c.value.result.now (entries_left (record { strings = later })) p.there
    (c.key.ensures ∙ ap (λ (x : List ℕ). key_in x (place_of block)) its ∙ ap (key_in b) p.place)
    (c.value.ensures ∙ ap (λ (x : List ℕ). value_in x (place_of block)) its ∙ ap (value_in b) p.place)
    (of_later entry_at b s.strings.end s.strings.at (bytes_of later.view) later.end later.at (ap (λ (v : _). bytes_of v) p.view) p.end p.at)

pub returns-clause-goes : goal.returns-clause-goes
returns-clause-goes c =
    let shorter = ap length (returns-clause-steps c) in
    search rules
