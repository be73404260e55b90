use Rattle.std.proofs.Common.{◌∙◌, sym, arith}
use Rattle.pe_reach.proofs.Early.{refuse_image, refuse_object, is_object_size_fault, view_few, view_object, view_image}
use Rattle.pe_reach.proofs.reach.view_fault.Goals as goal

pub returns-then-begin-lt-KIND_BYTES-clause-exact : goal.returns-then-begin-lt-KIND_BYTES-clause-exact
returns-then-begin-lt-KIND_BYTES-clause-exact c = sym (view_few c.args.begin.now c.args.len (omega (arith, c.if-begin-lt-KIND_BYTES.true)))

pub returns-then-is_object-clause-exact : goal.returns-then-is_object-clause-exact
returns-then-is_object-clause-exact c =
    view_object c.args.begin.now c.args.len c.object_size_fault.result (omega (arith, c.if-begin-lt-KIND_BYTES.false)) (sym c.is_object.ensures ∙ c.if-is_object.true)
    (is_object_size_fault c.args.len c.object_size_fault.result c.object_size_fault.ensures.exact c.object_size_fault.ensures.fault)

pub returns-then-is_object-clause-refuses : goal.returns-then-is_object-clause-refuses
returns-then-is_object-clause-refuses c =
    refuse_object c.args.begin.now c.args.len c.object_size_fault.result (omega (arith, c.if-begin-lt-KIND_BYTES.false)) (sym c.is_object.ensures ∙ c.if-is_object.true) c.object_size_fault.ensures.either

pub returns-clause-exact : goal.returns-clause-exact
returns-clause-exact c =
    view_image c.args.begin.now c.args.len c.early_fault.result (omega (arith, c.if-begin-lt-KIND_BYTES.false)) (sym c.is_object.ensures ∙ c.if-is_object.false) c.early_fault.ensures.exact

pub returns-clause-refuses : goal.returns-clause-refuses
returns-clause-refuses c =
    refuse_image c.args.begin.now c.args.len c.early_fault.result (omega (arith, c.if-begin-lt-KIND_BYTES.false)) (sym c.is_object.ensures ∙ c.if-is_object.false) c.early_fault.ensures.refuses
