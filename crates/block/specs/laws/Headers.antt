-- Block headers: their bytes, and their fields in an image. Assumes nothing.
use Rattle.std.specs.Prelude.{◌≡◌, ℕ, ◌+◌, ◌^◌, ◌<◌, ◌≤◌, ◌⊎◌, List, ◌++◌, length, drop, slice_index, refl}
use Rattle.std.proofs.Common.{sym, ap, ◌∙◌, ⊎_elim, add-zero, arith}
use Rattle.block.specs.Bytes.{encode, field, put, Bytes}
use Rattle.block.specs.laws.Fields.{decode-encode, field_bound, field_ext, field-drop}
use Rattle.block.specs.laws.Writes.{drop-put, get_or-put_below, get_or-put_above}
use Rattle.block.specs.Layout.{header, fields, header_at, extent_at, kind_at, type_at, size_at, cue_at}

-- the fields of the header at h, as they are read

pub extent-field : (image : List ℕ) (h : ℕ) → extent_at image h ≡ field image h 4
unfolding header_at
extent-field image h = refl

pub kind_field : (image : List ℕ) (h : ℕ) → kind_at image h ≡ field image (h + 4) 2
unfolding header_at
kind_field image h = refl

pub size-field : (image : List ℕ) (h : ℕ) → size_at image h ≡ field image (h + 8) 4
unfolding header_at
size-field image h = refl

-- headers in bytes

-- a header has 16 bytes
pub length-header : (e k t s c : ℕ) → length (header e k t s c) ≡ 16
unfolding header encode
length-header e k t s c = refl

-- the fields' widths: what a header can hold
pub record Fitting (e k t s c : ℕ) : Type 0 where
  pub extent_fits : e < 2 ^ 32
  pub kind_fits : k < 2 ^ 16
  pub type_fits : t < 2 ^ 16
  pub size_fits : s < 2 ^ 32
  pub cue_fits : c < 2 ^ 32

-- header bytes are read back
header_at_front : (e k t s c : ℕ) (q : List ℕ) → Fitting e k t s c → header_at (header e k t s c ++ q) 0 ≡ fields e k t s c
unfolding header_at header field encode
header_at_front e k t s c q f =
    λ i. record {
      extent = decode-encode 4 e f.extent_fits i;
      kind = decode-encode 2 k f.kind_fits i;
      ty = decode-encode 2 t f.type_fits i;
      size = decode-encode 4 s f.size_fits i;
      cue = decode-encode 4 c f.cue_fits i;
    }

-- the header at h, of what stands from h on
header_at-from : (image : List ℕ) (h : ℕ) → header_at image h ≡ header_at (drop h image) 0
unfolding header_at
header_at-from image h =
    λ i. record {
      extent = (ap (λ (n : ℕ). field image n 4) (sym (add-zero h)) ∙ field-drop image h 0 4) i;
      kind = field-drop image h 4 2 i;
      ty = field-drop image h 6 2 i;
      size = field-drop image h 8 4 i;
      cue = field-drop image h 12 4 i;
    }

-- the same, where such bytes stand from h on
pub header_at-drop : (image : List ℕ) (h e k t s c : ℕ) (q : List ℕ) → drop h image ≡ header e k t s c ++ q → Fitting e k t s c → header_at image h ≡ fields e k t s c
header_at-drop image h e k t s c q d f = header_at-from image h ∙ ap (λ (x : List ℕ). header_at x 0) d ∙ header_at_front e k t s c q f

-- the same, where such bytes were put at h
pub header_at-put : (image : List ℕ) (h e k t s c : ℕ) → h + 16 ≤ length image → Fitting e k t s c → header_at (put image h (header e k t s c)) h ≡ fields e k t s c
header_at-put image h e k t s c room f =
    let n : length (header e k t s c) ≡ 16 = length-header e k t s c in
    header_at-drop (put image h (header e k t s c)) h e k t s c _ (drop-put image h (header e k t s c) (omega arith)) f

-- images that agree on the bytes of a header have that header
pub header_at_ext : (a b : List ℕ) (h : ℕ) → ((k : ℕ) → h ≤ k → k < h + 16 → slice_index a k ≡ slice_index b k) → header_at a h ≡ header_at b h
unfolding header_at
header_at_ext a b h e =
    λ i. record {
      extent = field_ext a b 4 h (λ k p q. e k (omega arith) (omega arith)) i;
      kind = field_ext a b 2 (h + 4) (λ k p q. e k (omega arith) (omega arith)) i;
      ty = field_ext a b 2 (h + 6) (λ k p q. e k (omega arith) (omega arith)) i;
      size = field_ext a b 4 (h + 8) (λ k p q. e k (omega arith) (omega arith)) i;
      cue = field_ext a b 4 (h + 12) (λ k p q. e k (omega arith) (omega arith)) i;
    }

-- bytes replaced elsewhere leave a header as it was
pub header_at-put_other : (image : List ℕ) (at : ℕ) (bs : List ℕ) (h : ℕ) → at + length bs ≤ length image → (h + 16 ≤ at) ⊎ (at + length bs ≤ h) → header_at (put image at bs) h ≡ header_at image h
header_at-put_other image at bs h fits d =
    ⊎_elim
    (λ (l : h + 16 ≤ at). header_at_ext (put image at bs) image h (λ k p q. get_or-put_below image at bs fits k (omega arith)))
    (λ (l : at + length bs ≤ h). header_at_ext (put image at bs) image h (λ k p q. get_or-put_above image at bs fits k (omega arith)))
    d

-- a header's fields fit their widths
pub header_at-fitting : (image : List ℕ) → Bytes image → (h : ℕ) → Fitting (extent_at image h) (kind_at image h) (type_at image h) (size_at image h) (cue_at image h)
unfolding header_at
header_at-fitting image b h =
    record {
      extent_fits = field_bound image b 4 h;
      kind_fits = field_bound image b 2 (h + 4);
      type_fits = field_bound image b 2 (h + 6);
      size_fits = field_bound image b 4 (h + 8);
      cue_fits = field_bound image b 4 (h + 12);
    }
