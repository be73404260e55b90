-- What holds of an object's file that was checked holds of the file's bytes and the form that it is read in.
use Rattle.std.proofs.Common.{◌≡◌, ℕ, List, subst}
use Rattle.coff_read.specs.EitherObject.{file_of, form_of}
use Rattle.coff_read.specs.Forms.{Form}
use Rattle.coff_read.specs.declared.either_object.EitherObject.{EitherObject}

pub of_file : (Holds : Form → List ℕ → Type 0) (object : EitherObject) (big : Form) (file : List ℕ) → (form_of object ≡ big) × (file_of object ≡ file) → Holds (form_of object) (file_of object) → Holds big file
of_file Holds object big file is holds = subst (λ (form : Form). Holds form file) is.0 (subst (λ (bytes : List ℕ). Holds (form_of object) bytes) is.1 holds)
