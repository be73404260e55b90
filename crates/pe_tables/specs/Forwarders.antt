-- The parts of an image's forwarder strings that are remembered. No contract of a public function cites it.
use Rattle.std.specs.Prelude.{◌≡◌, ℕ, ◌-◌, ◌≤◌, List, [], Some}
use Rattle.std.specs.Ordering.{nat_cmp}
use Rattle.std.specs.BTreeMap.{get}
use Rattle.pe_view.specs.Number.{part}
use Rattle.pe_view.specs.TextEnds.{AreEndsOf}
use Rattle.pe_tables.specs.Key.{key_view}
use Rattle.pe_tables.specs.Forwarder.{key_of, at_last_dot}
use Rattle.pe_tables.specs.declared.forwarders.Ending.{Ending}
use Rattle.pe_tables.specs.declared.forwarders.Forwarders.{Forwarders}

-- the last `len` bytes of a file before an end
abbrev pub part_before : List ℕ → ℕ → ℕ → List ℕ
part_before file end len = part file (end - len) len

-- before an end in a file are a dot and a key's string, which has no dot
pub record IsEndingOf (file : List ℕ) (end : ℕ) (ending : Ending) : Type 0 where
  pub back : List ℕ
  pub inside : ending.len ≤ end
  pub dot : at_last_dot (part_before file end ending.len) ≡ Some ([], back)
  pub names : key_of back ≡ Some (key_view ending.key)

-- the ends of strings and the endings of forwarders that are remembered are those of the file
pub record AreForwardersOf {A : Type 0} (file : List ℕ) (forwarders : Forwarders A) : Type 0 where
  pub ends : AreEndsOf file forwarders.ends
  pub endings : (end : ℕ) (ending : Ending) → get nat_cmp forwarders.endings end ≡ Some ending → IsEndingOf file end ending
