-- The next table is the first of those that are left.
use Rattle.std.proofs.Common.{rules, ◌≡◌, ◌∙◌, ℕ, List, length, ap, sym}
use Rattle.pe_view.specs.View.{bytes_of}
use Rattle.pe_version.specs.Block.{key_in, body_of, place_of}
use Rattle.pe_version.specs.Blocks.{block_end, in_blocks}
use Rattle.pe_version.specs.Steps.{over}
use Rattle.pe_version.specs.Tables.{nothing, Table, entry_at, table_at, file_tables}
use Rattle.pe_version.proofs.ReachingTables.{of_later, of_strings, to_table}
use Rattle.pe_version.proofs.tables.VersionTablesIterator.next.Goals as goal

pub returns-clause-steps : goal.returns-clause-steps
returns-clause-steps c =
    let s = c.loop-self.self in
    let p = c.in_ok-block.ensures in
    let block = c.in_ok-block.block in
    let b : List ℕ = bytes_of s.tables.view in
    let later = c.next.new.self in
    let inner = c.children in
    let place : ℕ × ℕ = (s.tables.at, block_end b s.tables.at) in
    let its : bytes_of block.view ≡ b = ap (λ (v : _). bytes_of v) p.its_view in
    let rest : List Table = over (file_tables (bytes_of s.files.view)) nothing s.files in
    sym c.loop-self.invariant
    ∙ to_table b s.tables.end s.tables.at c.key.result.now (over (entry_at (bytes_of inner.result.view)) nothing inner.result) (in_blocks (table_at (bytes_of later.view)) nothing (bytes_of later.view) later.end later.at) rest p.there
    (c.key.ensures ∙ ap (λ (x : List ℕ). key_in x (place_of block)) its ∙ ap (key_in b) p.place)
    (of_strings b place (bytes_of inner.result.view) inner.result.end inner.result.at (ap (λ (v : _). bytes_of v) inner.ensures.view ∙ its) (inner.ensures.end ∙ ap (λ (x : ℕ × ℕ). x.1) p.place)
    (inner.ensures.start ∙ ap (λ (x : List ℕ). body_of x (place_of block)) its ∙ ap (body_of b) p.place))
    (of_later table_at b s.tables.end s.tables.at (bytes_of later.view) later.end later.at (ap (λ (v : _). bytes_of v) p.view) p.end p.at)

pub returns-clause-goes : goal.returns-clause-goes
returns-clause-goes c =
    let shorter = ap length (returns-clause-steps c) in
    search rules
