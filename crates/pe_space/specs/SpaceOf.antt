-- What `map` and `open_space` return, and `map_delayed` and `open_space_delayed`.
use Rattle.std.specs.Prelude.{◌≡◌, ℕ, List, None}
use Rattle.pe_set.specs.DelayedErrors.{delayed_error}
use Rattle.pe_set.specs.DelayedImports.{with_delayed}
use Rattle.pe_set.specs.Set.{Entry, modules_of, at_bases}
use Rattle.pe_set.specs.SetErrors.{set_error}
use Rattle.pe_set.specs.declared.entry.Policy.{Policy}
use Rattle.pe_space.specs.Content.{Content, byte_at}
use Rattle.pe_space.specs.SetContent.{content_of, defined_byte}
use Rattle.pe_space.specs.Unbound.{set_at}

-- a space of these entries: it has the content of their files, and at all bases at which these are accepted each address has the
-- byte that they define there
pub record IsSpaceOf (policy : Policy) (es : List Entry) (space : Content) : Type 0 where
  pub content : space ≡ content_of (modules_of es)
  pub bytes : (bases : List ℕ) (a : ℕ) → set_error policy (at_bases bases es) ≡ None → byte_at (set_at bases space) a ≡ defined_byte (modules_of (at_bases bases es)) a

-- the same of a space whose images have their delay-loaded imports bound too
pub record IsDelayedSpaceOf (policy : Policy) (es : List Entry) (space : Content) : Type 0 where
  pub content : space ≡ content_of (with_delayed (modules_of es))
  pub bytes : (bases : List ℕ) (a : ℕ) → delayed_error policy (at_bases bases es) ≡ None
      → byte_at (set_at bases space) a ≡ defined_byte (with_delayed (modules_of (at_bases bases es))) a
