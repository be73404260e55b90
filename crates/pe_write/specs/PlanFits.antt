-- A plan whose values fit into the fields that they are written to, as those of every plan in memory do.
use Rattle.std.specs.Prelude.{◌≡◌, length}
use Rattle.std.specs.List.{AllByRecursion}
use Rattle.pe_head.specs.declared.section.SectionHeader.{SectionHeader}
use Rattle.pe_numbers.specs.Numbers.{NumberFits}
use Rattle.pe_write.specs.declared.plan.Plan.{Plan}
use Rattle.pe_write.specs.PlanHeaders.{header_numbers, section_numbers, plan_sections}

pub record IsRow (s : SectionHeader) : Type 0 where
  pub name : length s.name ≡ 8
  pub numbers : AllByRecursion NumberFits (section_numbers s)

pub record IsPlan {A : Type 0} (plan : Plan A) : Type 0 where
  pub numbers : AllByRecursion NumberFits (header_numbers plan)
  pub directories : length plan.directories ≡ 16
  pub sections : AllByRecursion IsRow (plan_sections plan)
