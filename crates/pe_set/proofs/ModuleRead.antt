-- An image of a set, once its file is read.
use Rattle.std.proofs.Common.{◌≡◌, ℕ, List, ap, refl}
use Rattle.pe_head.specs.declared.headers.Headers.{Headers}
use Rattle.pe_head.specs.declared.optional.Magic.{Magic}
use Rattle.pe_layout.specs.Image.{LaidOut}
use Rattle.pe_tables.specs.Exports.{Exports}
use Rattle.pe_tables.specs.Imports.{Import}
use Rattle.pe_tables.specs.declared.fixups.Fixup.{Fixup}
use Rattle.pe_image.specs.ImageOf.{IsImageOf}
use Rattle.pe_image.specs.declared.image.Image as code_image
use Rattle.pe_set.specs.Set.{Module, module_of}
use Rattle.pe_set.specs.SetView.{entry_view, module_view}
use Rattle.pe_set.specs.declared.entry.SetEntry.{SetEntry}
use Rattle.pe_set.specs.declared.reading.Module as code_module

-- images of a set that are the same in each part are the same
same_module : (name : List ℕ) (base : ℕ) (m m' : Magic) (i i' : LaidOut) (e e' : Exports) (s s' : List Import) (f f' : List Fixup) → m ≡ m' → i ≡ i' → e ≡ e' → s ≡ s' → f ≡ f'
    → (let whole : Magic → LaidOut → Exports → List Import → List Fixup → Module = (λ m i e s f. record { name = name; base = base; magic = m; image = i; exports = e; imports = s; fixups = f }) in whole m i e s f ≡ whole m' i' e' s' f')
same_module name base m m' i i' e e' s s' f f' p q r t u = rw (p, q, r, t, u) refl

pub module_read : {A : Type 0} (e : SetEntry) (n : ℕ) (image : code_image.Image A) → IsImageOf n (entry_view e).file image
    → (let own : code_module.Module A = record { name = e.name; base = e.base; image = image } in module_view own ≡ module_of n (entry_view e))
unfolding module_view
module_read e n image is =
    same_module e.name.now e.base _ _ _ _ _ _ _ _ _ _ (ap (λ (h : Headers). h.magic) is.layout.headers) is.layout.shows is.exports is.imports is.fixups
