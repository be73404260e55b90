-- The machines are distinguished by their numbers.
use Rattle.std.proofs.Common.{◌≡◌, ◌∙◌, ◌⊎◌, ℕ, ap, inl, inr, refl}
use Rattle.pe_head.specs.Names.{Names, name_in}
use Rattle.coff_read.specs.TypeNames.{arm_type_names, relocation_type_names}
use Rattle.coff_read.proofs.type_names.relocation_type_name.Goals as goal

arm : (machine : ℕ) → (machine ≡ 448) ⊎ (machine ≡ 452) → arm_type_names ≡ relocation_type_names machine
arm machine (inl is) = rw is refl
arm machine (inr is) = rw is refl

pub returns-in-34404 : goal.returns-in-34404
returns-in-34404 c = rw c.in-34404.is c.amd64_type_name.ensures

pub returns-in-332 : goal.returns-in-332
returns-in-332 c = rw c.in-332.is c.i386_type_name.ensures

pub returns-in-43620 : goal.returns-in-43620
returns-in-43620 c = rw c.in-43620.is c.arm64_type_name.ensures

pub returns-in-448 : goal.returns-in-448
returns-in-448 c = c.arm_type_name.ensures ∙ ap (λ (names : Names). name_in names c.args.kind) (arm c.args.machine c.in-448.is)
