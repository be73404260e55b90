-- A set in which one image has another file, whose tables read as before.
use Rattle.std.proofs.Common.{◌≡◌, ◌∙◌, ◌+◌, ◌-◌, ℕ, zero, suc, List, [], ◌∷◌, Some, sym, ap, subst, refl, arith}
use Rattle.std.specs.Prelude.{find, slice_get, slice_set}
use Rattle.std.proofs.lemmas.Option.{same_Some}
use Rattle.pe_head.specs.Head.{head_of}
use Rattle.pe_head.specs.declared.headers.Headers.{Headers}
use Rattle.pe_head.specs.declared.optional.Magic.{Magic}
use Rattle.pe_layout.specs.Image.{LaidOut, image_of_file}
use Rattle.pe_tables.specs.Exports.{Exports}
use Rattle.pe_tables.specs.Imports.{Import}
use Rattle.pe_tables.specs.Relocated.{in_field, relocated, relocated_by}
use Rattle.pe_tables.specs.declared.fixups.Fixup.{Fixup}
use Rattle.pe_set.specs.Bindings.{bindings_of}
use Rattle.pe_set.specs.Set.{Entry, Module, module_of, modules_from, modules_of, AreAlike}
use Rattle.pe_space.specs.SetContent.{defined_byte}
use Rattle.pe_write.specs.Rebase.{IsFree, rebased_head}
use Rattle.pe_tool.specs.RebasedSet.{ReadsAlike, IsElsewhere}
use Rattle.pe_tool.proofs.Exchanging.{exchanged, IsAlike, alike_exchanged, defined_exchanged}

same_module : (name : List ℕ) (base : ℕ) (image : LaidOut) (m m' : Magic) (x x' : Exports) (y y' : List Import) (z z' : List Fixup) → m ≡ m' → x ≡ x' → y ≡ y' → z ≡ z'
    → (let a : Module = record { name = name; base = base; magic = m; image = image; exports = x; imports = y; fixups = z } in a)
    ≡ record { name = name; base = base; magic = m'; image = image; exports = x'; imports = y'; fixups = z' }
same_module name base image m m' x x' y y' z z' p q r s = rw (p, q, r, s) refl

-- image k of a set
module_at : (n k j : ℕ) (es : List Entry) (e : Entry) → j ≡ n + k → slice_get es k ≡ Some e → slice_get (modules_from n es) k ≡ Some (module_of j e)
module_at n k j [] e is at = absurd cc
module_at n zero j (x ∷ es) e is at =
    let number : n ≡ j = omega arith in
    ap (λ (i : ℕ). Some (module_of i x)) number ∙ ap (λ (y : Entry). Some (module_of j y)) (same_Some x e at)
module_at n (suc k) j (x ∷ es) e is at = module_at (n + 1) k j es e (omega arith) at

-- the images of a set with one entry replaced
modules_set : (n k j : ℕ) (es : List Entry) (e e' : Entry) (i : LaidOut) → j ≡ n + k → slice_get es k ≡ Some e → module_of j e' ≡ record (module_of j e) { image = i }
    → modules_from n (slice_set es k e') ≡ exchanged k i (modules_from n es)
modules_set n k j [] e e' i is at same = absurd cc
modules_set n zero j (x ∷ es) e e' i is at same =
    let number : n ≡ j = omega arith in
    ap (λ (m : Module). m ∷ modules_from (n + 1) es)
    (ap (λ (l : ℕ). module_of l e') number ∙ same ∙ ap (λ (y : Entry). let m : Module = record (module_of j y) { image = i } in m) (sym (same_Some x e at)) ∙ ap (λ (l : ℕ). let m : Module = record (module_of l x) { image = i } in m) (sym number))
modules_set n (suc k) j (x ∷ es) e e' i is at same = ap (λ (s : List Module). module_of n x ∷ s) (modules_set (n + 1) k j es e e' i (omega arith) at same)

module _ (es : List Entry) (k : ℕ) (e : Entry) (g : List ℕ) (base a : ℕ) (at : slice_get es k ≡ Some e) (head : head_of g ≡ rebased_head (head_of e.file) base) (tables : ReadsAlike (image_of_file k e.file) (image_of_file k g)) where
  abbrev new : Entry
  new = record e { file = g }

  own : module_of k new ≡ record (module_of k e) { image = image_of_file k g }
  own = same_module e.name e.base (image_of_file k g) _ _ _ _ _ _ _ _ (ap (λ (h : Headers). h.magic) head) tables.exports tables.imports tables.fixups

  images : modules_of (slice_set es k new) ≡ exchanged k (image_of_file k g) (modules_of es)
  unfolding modules_of
  images = modules_set 0 k k es e new (image_of_file k g) (omega arith) at own

  alike : ((r : ℕ) → IsFree (head_of e.file) r → relocated (image_of_file k g) e.base r ≡ relocated (image_of_file k e.file) e.base r) → IsElsewhere e a → IsAlike (image_of_file k g) (module_of k e) a
  alike again elsewhere = record {
    size = ap (λ (h : Headers). h.size_of_image) head;
    byte = λ le.
        let r = a - e.base in
        ap (λ (fs : List Fixup). relocated_by (image_of_file k g) e.base r (find (in_field r) fs)) (sym tables.fixups)
        ∙ again r (elsewhere le);
  }

  -- each address outside the two fields has the same byte
  pub mapped_alike : ((s t : List Module) → AreAlike s t → bindings_of s ≡ bindings_of t) → ((r : ℕ) → IsFree (head_of e.file) r → relocated (image_of_file k g) e.base r ≡ relocated (image_of_file k e.file) e.base r) → IsElsewhere e a → defined_byte (modules_of (slice_set es k new)) a ≡ defined_byte (modules_of es) a
  unfolding modules_of
  mapped_alike bound again elsewhere =
      ap (λ (s : List Module). defined_byte s a) images
      ∙ defined_exchanged (image_of_file k g) k (modules_of es) a (bound _ _ (alike_exchanged (image_of_file k g) k (modules_of es))) (λ m is.
      subst (λ (m : Module). IsAlike (image_of_file k g) m a) (same_Some (module_of k e) m (sym (module_at 0 k k es e (omega arith) at) ∙ is)) (alike again elsewhere))
