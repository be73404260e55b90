-- Sets that differ only in an image's bytes: their bindings, and the byte at each address.
use Rattle.std.proofs.Common.{◌≡◌, ◌∙◌, ◌+◌, ◌-◌, ◌≤◌, ℕ, zero, suc, Bool, true, false, List, [], ◌∷◌, cond, Option, None, Some, refl, ap}
use Rattle.std.specs.Prelude.{find, slice_get}
use Rattle.std.specs.Option.{option_map_or}
use Rattle.std.proofs.lemmas.Bool.{and_parts, leb-true}
use Rattle.pe_view.specs.Number.{digit, is_in}
use Rattle.pe_layout.specs.Image.{LaidOut}
use Rattle.pe_tables.specs.Relocated.{in_field, relocated_by}
use Rattle.pe_set.specs.Set.{Module, AreAlike}
use Rattle.pe_set.specs.Bindings.{bindings_of}
use Rattle.pe_set.specs.declared.binding.Binding.{Binding}
use Rattle.pe_space.specs.Content.{in_slot}
use Rattle.pe_space.specs.SetContent.{slot_byte, byte_of_image, byte_in_image, defined_from, defined_byte}

-- the set with another image at number k
abbrev pub exchanged : ℕ → LaidOut → List Module → List Module
exchanged zero i [] = []
exchanged zero i (m ∷ s) = record m { image = i } ∷ s
exchanged (suc k) i [] = []
exchanged (suc k) i (m ∷ s) = m ∷ exchanged k i s

all_alike : (s : List Module) → AreAlike s s
all_alike [] = tt
all_alike (m ∷ s) = (refl, refl, refl, all_alike s)

-- names, exports and imports are unchanged
pub alike_exchanged : (i : LaidOut) (k : ℕ) (s : List Module) → AreAlike (exchanged k i s) s
alike_exchanged i zero [] = tt
alike_exchanged i zero (m ∷ s) = (refl, refl, refl, all_alike s)
alike_exchanged i (suc k) [] = tt
alike_exchanged i (suc k) (m ∷ s) = (refl, refl, refl, alike_exchanged i k s)

-- and so are bases
base_exchanged : (i : LaidOut) (k : ℕ) (s : List Module) (j : ℕ) → option_map_or (λ (m : Module). m.base) (slice_get (exchanged k i s) j) 0 ≡ option_map_or (λ (m : Module). m.base) (slice_get s j) 0
base_exchanged i zero [] j = refl
base_exchanged i zero (m ∷ s) zero = refl
base_exchanged i zero (m ∷ s) (suc j) = refl
base_exchanged i (suc k) [] j = refl
base_exchanged i (suc k) (m ∷ s) zero = refl
base_exchanged i (suc k) (m ∷ s) (suc j) = base_exchanged i k s j

-- ---- the byte at an address
-- the image has the size of the one that it replaces, and the same byte there
pub record IsAlike (i : LaidOut) (m : Module) (a : ℕ) : Type 0 where
  pub size : i.size ≡ m.image.size
  pub byte : m.base ≤ a → relocated_by i m.base (a - m.base) (find (in_field (a - m.base)) m.fixups) ≡ relocated_by m.image m.base (a - m.base) (find (in_field (a - m.base)) m.fixups)

either : {X : Type 0} (b : Bool) (x y u v : X) → (b ≡ true → x ≡ y) → u ≡ v → cond b x u ≡ cond b y v
either true x y u v own other = own refl
either false x y u v own other = other

module _ (i : LaidOut) (k : ℕ) (s : List Module) (a : ℕ) (bound : bindings_of (exchanged k i s) ≡ bindings_of s) where
  slot_same : (b : Binding) (j : ℕ) → slot_byte (exchanged k i s) b j ≡ slot_byte s b j
  slot_same b j = ap (λ (base : ℕ). digit (base + b.rva) j) (base_exchanged i k s b.exporter)

  of_image : (m : Module) (r : ℕ) (o : Option Binding) → byte_of_image (exchanged k i s) m r o ≡ byte_of_image s m r o
  of_image m r None = refl
  of_image m r (Some b) = slot_same b (r - b.slot)

  -- of another image
  in_other : (n r : ℕ) (m : Module) → byte_in_image (exchanged k i s) n r m ≡ byte_in_image s n r m
  in_other n r m =
      ap (λ (bs : List Binding). byte_of_image (exchanged k i s) m r (find (in_slot n m.magic r) bs)) bound
      ∙ of_image m r (find (in_slot n m.magic r) (bindings_of s))

  of_own : (m : Module) (o : Option Binding) → IsAlike i m a → m.base ≤ a → byte_of_image (exchanged k i s) (record m { image = i }) (a - m.base) o ≡ byte_of_image s m (a - m.base) o
  of_own m None alike le = alike.byte le
  of_own m (Some b) alike le = slot_same b (a - m.base - b.slot)

  -- of the replaced image
  in_own : (n : ℕ) (m : Module) → IsAlike i m a → m.base ≤ a → byte_in_image (exchanged k i s) n (a - m.base) (record m { image = i }) ≡ byte_in_image s n (a - m.base) m
  in_own n m alike le =
      ap (λ (bs : List Binding). byte_of_image (exchanged k i s) (record m { image = i }) (a - m.base) (find (in_slot n m.magic (a - m.base)) bs)) bound
      ∙ of_own m (find (in_slot n m.magic (a - m.base)) (bindings_of s)) alike le

  from_others : (n : ℕ) (t : List Module) → defined_from (exchanged k i s) n t a ≡ defined_from s n t a
  from_others n [] = refl
  from_others n (m ∷ t) =
      either (is_in m.base m.image.size a) (Some (byte_in_image (exchanged k i s) n (a - m.base) m)) (Some (byte_in_image s n (a - m.base) m)) (defined_from (exchanged k i s) (n + 1) t a) (defined_from s (n + 1) t a)
      (λ _. ap Some (in_other n (a - m.base) m)) (from_others (n + 1) t)

  from_same : (n j : ℕ) (t : List Module) → ((m : Module) → slice_get t j ≡ Some m → IsAlike i m a) → defined_from (exchanged k i s) n (exchanged j i t) a ≡ defined_from s n t a
  from_same n zero [] alike = refl
  from_same n zero (m ∷ t) alike =
      let own = alike m refl in
      ap (λ (size : ℕ). cond (is_in m.base size a) (Some (byte_in_image (exchanged k i s) n (a - m.base) (record m { image = i }))) (defined_from (exchanged k i s) (n + 1) t a)) own.size
      ∙ either (is_in m.base m.image.size a) (Some (byte_in_image (exchanged k i s) n (a - m.base) (record m { image = i }))) (Some (byte_in_image s n (a - m.base) m)) (defined_from (exchanged k i s) (n + 1) t a) (defined_from s (n + 1) t a)
      (λ here. ap Some (in_own n m own (leb-true _ _ (and_parts _ _ here).0))) (from_others (n + 1) t)
  from_same n (suc j) [] alike = refl
  from_same n (suc j) (m ∷ t) alike =
      either (is_in m.base m.image.size a) (Some (byte_in_image (exchanged k i s) n (a - m.base) m)) (Some (byte_in_image s n (a - m.base) m)) (defined_from (exchanged k i s) (n + 1) (exchanged j i t) a) (defined_from s (n + 1) t a)
      (λ _. ap Some (in_other n (a - m.base) m)) (from_same (n + 1) j t alike)

  -- the byte that the set defines
  pub defined_exchanged : ((m : Module) → slice_get s k ≡ Some m → IsAlike i m a) → defined_byte (exchanged k i s) a ≡ defined_byte s a
  unfolding defined_byte
  defined_exchanged alike = from_same 0 k s alike
