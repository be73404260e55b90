-- A layout as contracts see it.
use Rattle.std.specs.Prelude.{◌≡◌, ◌≤◌, ◌^◌, ◌&&◌, ℕ, Bool, nat_le, is_none, List}
use Rattle.pe_view.specs.View.{bytes_of}
use Rattle.pe_view.specs.Faults.{first_standing}
use Rattle.pe_head.specs.Head.{head_of}
use Rattle.pe_head.specs.declared.headers.Headers.{Headers}
use Rattle.pe_layout.specs.HeaderSource.{headers_in}
use Rattle.pe_layout.specs.Image.{LaidOut, image_from, image_of_file}
use Rattle.pe_layout.specs.SectionFaults.{placing_tests}
use Rattle.pe_layout.specs.declared.layout.Layout.{Layout}

-- its headers
abbrev pub headers_of : Layout → Headers
headers_of l = headers_in l.headers

-- the bytes of its file
abbrev pub file_of : Layout → List ℕ
file_of l = bytes_of l.view

-- its image, which is all that tables need; other crates do not unfold it
unfoldable pub image_of : Layout → LaidOut
image_of l = image_from l.image (headers_of l) (file_of l)

-- it has at most 2^31 bytes
pub size_small : (l : Layout) → (image_of l).size ≤ 2 ^ 31
unfolding image_of
size_small l = l.small

-- the layout of a file, with a number
pub record IsLayoutOf (file : List ℕ) (image : ℕ) (l : Layout) : Type 0 where
  pub headers : headers_of l ≡ head_of file
  pub bytes : file_of l ≡ file
  pub shows : image_of l ≡ image_of_file image file

-- headers lay out an image over some bytes: the image is not too large, its headers are inside it and these bytes, and no section
-- has one of faults 13 to 15
abbrev pub can_lay_out : ℕ → Headers → ℕ → Bool
can_lay_out image h size =
    nat_le h.size_of_image (2 ^ 31) && nat_le h.size_of_headers h.size_of_image && nat_le h.size_of_headers size
    && is_none (first_standing (placing_tests image h size))
