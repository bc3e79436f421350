-- Pointers of an object: its flag and tag number, and an address in its slot or wrapper frame. Assumes nothing.
use Rattle.std.specs.Prelude.{ℕ, ◌+◌, ◌/◌, ◌^◌, ◌≤◌, ◌<◌, ◌≡◌, true, ℤ, Some}
use Rattle.std.proofs.Common.{sym, ap, ◌∙◌}
use Rattle.frame.specs.Pointers.{unpack, pack, good_tag, reach, at, moved}
use Rattle.frame.specs.laws.Pointers.{moved_to, moved_range, moved_at, unpack-pack, unpack_range, pack-unpack, good_at, reach-at}
use Rattle.frame.specs.Tags.{pointer_to, tag_matches}
use Rattle.frame.specs.laws.Tags.{pointer_good, pointer_range, pointer_matches, pointer_address, pointer_at, matches_at, matches_pointer}
use Rattle.frame.specs.declared.parts.Pointer.{Pointer}

-- the word is a pointer of the object of `size` bytes whose header stands at h
pub record PointerOf (s h size word : ℕ) : Type 0 where
  pub shape : unpack word ≡ at (pointer_to s h size) (unpack word).address
  pub near : (unpack word).address / 2 ^ reach s (pointer_to s h size) ≡ h / 2 ^ reach s (pointer_to s h size)

module _ (s h size : ℕ) (few : s ≤ 15) (inside : h + 16 + size ≤ 2 ^ 30) where
  -- the object's own pointer, put together and taken apart
  pub unpack_pointer : unpack (pack (pointer_to s h size)) ≡ pointer_to s h size
  unpack_pointer = unpack-pack (pointer_to s h size) (pointer_range s h size few inside)

  -- its address is the start of the body
  pub unpack_address : (unpack (pack (pointer_to s h size))).address ≡ h + 16
  unpack_address = ap (λ (p : Pointer). p.address) unpack_pointer ∙ pointer_address s h size

module _ (s h size word : ℕ) where
  -- it reaches as far as the object's own
  pub same-reach : PointerOf s h size word → reach s (unpack word) ≡ reach s (pointer_to s h size)
  same-reach g = ap (reach s) g.shape ∙ reach-at s (pointer_to s h size) (unpack word).address

  -- its tag number is good
  pub object_tag : s ≤ 15 → h + 16 + size ≤ 2 ^ 30 → PointerOf s h size word → good_tag s (unpack word) ≡ true
  object_tag few inside g =
      ap (good_tag s) g.shape ∙ good_at s (pointer_to s h size) (unpack word).address ∙ pointer_good s h size few inside

  -- it has the object's very flag and tag number
  pub object_matches : PointerOf s h size word → tag_matches s h size (unpack word) ≡ true
  object_matches g =
      ap (tag_matches s h size) g.shape ∙ matches_at s h size (pointer_to s h size) (unpack word).address ∙ pointer_matches s h size

  -- an accepted move gives another one
  pub moved_pointer : (q : Pointer) (d : ℤ) → PointerOf s h size word → moved (unpack word) (reach s (unpack word)) d ≡ Some q → PointerOf s h size (pack q)
  moved_pointer q d g e =
      let n : ℕ = reach s (unpack word) in
      let m = moved_to (unpack word) q n d e in
      let u : unpack (pack q) ≡ q = unpack-pack q (moved_range (unpack word) q n d (unpack_range word) e) in
      let a : (unpack (pack q)).address ≡ q.address = ap (λ (p : Pointer). p.address) u in
      let f : q.address / 2 ^ reach s (pointer_to s h size) ≡ (unpack word).address / 2 ^ reach s (pointer_to s h size) = rw (← same-reach g) m.frame in
      record {
        shape =
            u ∙ moved_at (unpack word) q n d e ∙ ap (λ (p : Pointer). at p q.address) g.shape
            ∙ ap (at (pointer_to s h size)) (sym a);
        near = ap (λ (x : ℕ). x / 2 ^ reach s (pointer_to s h size)) a ∙ f ∙ g.near;
      }

  -- a word with the object's flag and tag number and the start of its body as address is its own pointer
  pub own_again : word < 2 ^ 64 → tag_matches s h size (unpack word) ≡ true → (unpack word).address ≡ h + 16 → pack (pointer_to s h size) ≡ word
  own_again fits m a =
      ap pack (sym (pointer_at s h size)) ∙ ap (λ (x : ℕ). pack (at (pointer_to s h size) x)) (sym a)
      ∙ ap pack (sym (matches_pointer s h size (unpack word) m)) ∙ pack-unpack word fits
