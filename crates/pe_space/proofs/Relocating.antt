-- The number in a field, as a layout reads it.
use Rattle.std.proofs.Common.{◌≡◌, ℕ, ◌+◌, ◌≤◌, ap, ◌∙◌, sym, subst, Option, Some}
use Rattle.std.specs.Prelude.{SomeIff, pos, ◌-ℤ◌}
use Rattle.pe_layout.specs.Image as layout
use Rattle.pe_tables.specs.declared.fixups.Fixup.{Fixup}
use Rattle.pe_tables.specs.declared.fixups.FixupKind.{FixupKind}
use Rattle.pe_space.specs.Number.{number_in, shift}
use Rattle.pe_space.specs.Content.{width_of}
use Rattle.pe_space.proofs.Defining.{number_plain}

-- the value that a look-up returned
pub value_of_some : {X : Type 0} (o : Option X) (P : Type 0) (v x : X) → SomeIff o P v → o ≡ Some x → x ≡ v
value_of_some o P v x h e = (subst (λ (t : Option _). SomeIff t P v) e h).1

number_is : (i : layout.LaidOut) (field v : ℕ) (kind k : FixupKind) → kind ≡ k → v ≡ layout.number_at (width_of k) i field → field + width_of kind ≤ i.size
    → v ≡ number_in (layout.bytes_at i 0 i.size) field (width_of kind)
number_is i field v kind k is read inside = read ∙ ap (λ (t : FixupKind). layout.number_at (width_of t) i field) (sym is) ∙ sym (number_plain i field (width_of kind) inside)

-- a field's number, as it is read and relocated by the fixup's kind
pub relocated_is : (i : layout.LaidOut) (f : Fixup) (k : FixupKind) (base from v r : ℕ) → f.kind ≡ k → v ≡ layout.number_at (width_of k) i f.field → f.field + width_of f.kind ≤ i.size
    → from ≡ i.image_base → r ≡ shift k v (pos base -ℤ pos from) → r ≡ shift f.kind (number_in (layout.bytes_at i 0 i.size) f.field (width_of f.kind)) (pos base -ℤ pos i.image_base)
relocated_is i f k base from v r is read inside origin shifted =
    shifted ∙ ap (λ (t : FixupKind). shift t v (pos base -ℤ pos from)) (sym is)
    ∙ ap (λ (b : ℕ). shift f.kind v (pos base -ℤ pos b)) origin
    ∙ ap (λ (n : ℕ). shift f.kind n (pos base -ℤ pos i.image_base)) (number_is i f.field v f.kind k is read inside)
