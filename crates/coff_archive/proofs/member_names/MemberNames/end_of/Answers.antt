-- The end lies between the offset and the end of the bytes.
use Rattle.std.proofs.Common.{arith}
use Rattle.coff_archive.proofs.Ends.{end-inside, end-of-all, end-order}
use Rattle.coff_archive.proofs.member_names.MemberNames.end_of.Goals as goal

pub end_from-requires-clause-next : goal.end_from-requires-clause-next
end_from-requires-clause-next g c = end-of-all c.args.self.now.archive.names.now

pub returns-then-stop-names-clause-order : goal.returns-then-stop-names-clause-order
returns-then-stop-names-clause-order g c =
    let order = end-order c.args.self.now.archive.names.now c.args.offset in
    let is = c.end_from.ensures in
    omega (arith, order, is)

pub returns-then-stop-names-clause-inside : goal.returns-then-stop-names-clause-inside
returns-then-stop-names-clause-inside g c =
    let inside = end-inside c.args.self.now.archive.names.now c.args.offset (omega (arith, c.requires)) in
    let is = c.end_from.ensures in
    omega (arith, inside, is)

pub returns-clause-order : goal.returns-clause-order
returns-clause-order g c =
    let order = end-order c.args.self.now.archive.names.now c.args.offset in
    let is = c.end_from-2.ensures in
    omega (arith, order, is)

pub returns-clause-inside : goal.returns-clause-inside
returns-clause-inside g c =
    let inside = end-inside c.args.self.now.archive.names.now c.args.offset (omega (arith, c.requires)) in
    let is = c.end_from-2.ensures in
    omega (arith, inside, is)
