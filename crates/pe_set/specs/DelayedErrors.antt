-- The errors by which sets are refused whose delay-loaded imports are bound too.
use Rattle.std.specs.Prelude.{List, ◌++◌, Option}
use Rattle.pe_set.specs.DelayedImports.{with_delayed}
use Rattle.pe_set.specs.Set.{Entry, modules_of}
use Rattle.pe_set.specs.SetErrors.{faults_in, first_error, imports_errors}
use Rattle.pe_set.specs.SetFaults.{placed_tests}
use Rattle.pe_set.specs.declared.entry.Policy.{Policy}
use Rattle.pe_set.specs.declared.error.MapError.{MapError}

-- all errors of such a set, in order: of its names, its files and its places, and then of its imports, those of an image before its
-- delay-loaded imports
unfoldable pub delayed_errors : Policy → List Entry → List MapError
delayed_errors policy es = faults_in (placed_tests es) ++ imports_errors policy (with_delayed (modules_of es))

-- the first error of such a set
abbrev pub delayed_error : Policy → List Entry → Option MapError
delayed_error policy es = first_error (delayed_errors policy es)
