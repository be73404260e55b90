-- To the next block of tables, or to the end.
use Rattle.std.proofs.Common.{◌≡◌, ◌∙◌, ◌++◌, ℕ, List, true, false, ap, sym}
use Rattle.pe_view.specs.View.{bytes_of}
use Rattle.pe_version.specs.Block.{body_of, is_string_file_info, place_of}
use Rattle.pe_version.specs.Blocks.{block_end, in_blocks}
use Rattle.pe_version.specs.Tables.{nothing, Table, table_at, file_tables}
use Rattle.pe_version.proofs.ReachingTables.{of_file, of_no_file, of_later, to_file, to_none, nearer}
use Rattle.pe_version.proofs.Stepping.{onward}
use Rattle.pe_version.proofs.tables.VersionTables.go_on.Goals as goal

pub returns-in_default : goal.returns-in_default
returns-in_default c =
    let s = c.args.self.now in
    let none = to_none (bytes_of s.tables.view) s.tables.end s.tables.at (bytes_of s.files.view) s.files.end s.files.at c.requires c.in_default.ensures.0 in
    (none, rw c.in_default.ensures.1 none)

pub returns-then-is_string_file_info : goal.returns-then-is_string_file_info
returns-then-is_string_file_info c =
    let s = c.args.self.now in
    let p = c.in-Some.ensures in
    let f = c.in-Some.file in
    let b : List ℕ = bytes_of s.files.view in
    let at : ℕ = s.files.at in
    let block : ℕ × ℕ = (at, block_end b at) in
    let inner = c.children-self in
    let later = c.next.new.self in
    let its : bytes_of f.view ≡ b = ap (λ (v : _). bytes_of v) p.its_view in
    let holds : is_string_file_info b block ≡ true =
    sym (c.is_string_file_info.ensures ∙ ap (λ (x : List ℕ). is_string_file_info x (place_of f)) its ∙ ap (is_string_file_info b) p.place) ∙ c.if-is_string_file_info.true in
    let has = of_file b block (bytes_of inner.result.view) inner.result.end inner.result.at
    (ap (λ (v : _). bytes_of v) inner.ensures.view ∙ its) (inner.ensures.end ∙ ap (λ (x : ℕ × ℕ). x.1) p.place)
    (inner.ensures.start ∙ ap (λ (x : List ℕ). body_of x (place_of f)) its ∙ ap (body_of b) p.place) holds in
    let new : List Table = in_blocks (table_at (bytes_of inner.result.view)) nothing (bytes_of inner.result.view) inner.result.end inner.result.at in
    let others = of_later file_tables b s.files.end at (bytes_of later.view) later.end later.at (ap (λ (v : _). bytes_of v) p.view) p.end p.at in
    let further = onward b s.files.end at p.there in
    let low = later.near in (
      ap (λ (xs : List Table). new ++ xs) others ∙ to_file (bytes_of s.tables.view) s.tables.end s.tables.at b s.files.end at new c.requires p.there has,
      nearer s.tables.at at inner.result.at later.at (rw p.at further) low,
    )

pub returns-else-is_string_file_info : goal.returns-else-is_string_file_info
returns-else-is_string_file_info c =
    let s = c.args.self.now in
    let p = c.in-Some.ensures in
    let f = c.in-Some.file in
    let b : List ℕ = bytes_of s.files.view in
    let at : ℕ = s.files.at in
    let block : ℕ × ℕ = (at, block_end b at) in
    let later = c.next.new.self in
    let its : bytes_of f.view ≡ b = ap (λ (v : _). bytes_of v) p.its_view in
    let other : is_string_file_info b block ≡ false =
    sym (c.is_string_file_info.ensures ∙ ap (λ (x : List ℕ). is_string_file_info x (place_of f)) its ∙ ap (is_string_file_info b) p.place) ∙ c.if-is_string_file_info.false in
    let has = of_no_file b block (bytes_of s.tables.view) s.tables.end s.tables.at c.requires other in
    let new : List Table = in_blocks (table_at (bytes_of s.tables.view)) nothing (bytes_of s.tables.view) s.tables.end s.tables.at in
    let others = of_later file_tables b s.files.end at (bytes_of later.view) later.end later.at (ap (λ (v : _). bytes_of v) p.view) p.end p.at in
    let further = onward b s.files.end at p.there in
    let low = later.near in (
      ap (λ (xs : List Table). new ++ xs) others ∙ to_file (bytes_of s.tables.view) s.tables.end s.tables.at b s.files.end at new c.requires p.there has,
      nearer s.tables.at at s.tables.at later.at (rw p.at further) low,
    )
