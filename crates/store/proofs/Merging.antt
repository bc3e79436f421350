-- Free, way out by way out: where the merged block starts and ends, and the bytes of it. Assumes nothing.
use Rattle.store.specs.Calls.{merge_of}
use Rattle.std.specs.Prelude.{Some, Err, ◌≡◌, refl, true, false, cond, List, ◌++◌, ℕ, ◌+◌, ◌-◌, ◌≤◌, ◌<◌, ltb, eqb, length, replicate}
use Rattle.std.proofs.Common.{sym, ap, ◌∙◌, arith, le-leb, le-ltb, eq-eqb, ne_eqb}
use Rattle.std.proofs.Math.Bool.{and-false}
use Rattle.std.proofs.lemmas.List.{length-replicate, replicate-append-replicate}
use Rattle.std.proofs.lemmas.Bool.{lt-leb}
use Rattle.block.specs.Bytes.{put}
use Rattle.block.specs.Layout.{free_header, sound, extent_at, kind_at, header_at}
use Rattle.block.specs.Walk.{walk_to}
use Rattle.block.specs.laws.Writes.{put-over}
use Rattle.block.specs.laws.Headers.{length-header}
use Rattle.block.specs.laws.Soundness.{sound_in}
use Rattle.block.specs.laws.WalkTo.{behind_in, walk_to_meets}
use Rattle.block.specs.declared.header.Header.{Header}
use Rattle.store.specs.Calls.{merge_start, released, merged}
use Rattle.store.specs.laws.Free.{merge_start_here, merge_start-free, merge_end_last, merge_end-next, released_merges, released_unsound}
use Rattle.store.specs.declared.answer.Refusal.TheVariants.{Unsound}

-- where the merged block starts

module _ (image : List ℕ) (before h : ℕ) where
  pub starts_first : before ≡ 0 → merge_start image before h ≡ h
  starts_first e = merge_start_here image h before (rw (le-ltb 0 before (omega arith)))

  pub starts_before : (before ≡ 0 → ⊥) → kind_at image before ≡ 1 → merge_start image before h ≡ before
  starts_before n k = merge_start-free image h before (omega arith) (eq-eqb _ _ k)

  pub starts_here : (kind_at image before ≡ 1 → ⊥) → merge_start image before h ≡ h
  starts_here n = merge_start_here image h before (rw (ne_eqb (kind_at image before) 1 n) (and-false (ltb 0 before)))

-- the walk meets the sound block at h, behind the one at `before`; `next` is where it ends
pub record Meets (image : List ℕ) (h before next : ℕ) : Type 0 where
  pub met : walk_to image h ≡ Some before
  pub follows : next ≡ h + extent_at image h
  pub is_sound : sound image h ≡ true

module _ {image : List ℕ} {h before next : ℕ} (m : Meets image h before next) where
  -- the block before h has room for a header
  pub before_in : before + 16 ≤ length image
  before_in = behind_in (walk_to_meets image h before m.met).behind (sound_in image h m.is_sound)

  -- What is then released.

  -- nothing follows
  pub released_last : length image ≤ next → released image h (walk_to image h) ≡ merge_of h (merge_start image before h) next
  released_last l =
      let n : length image ≤ h + extent_at image h = omega (arith, m.follows) in
      ap (released image h) m.met ∙ released_merges image h before (rw (le-leb _ _ n))
      ∙ rw (merge_end_last image (h + extent_at image h) n, m.follows) refl

  module _ (l : next < length image) where
    -- the next header is unsound
    pub released_bad : sound image next ≡ false → released image h (walk_to image h) ≡ Err Unsound
    released_bad o = let e = m.follows in ap (released image h) m.met ∙ released_unsound image h before (rw (← e, lt-leb _ _ l, o))

    -- it is the sound header d
    pub released-next : (d : Header) → d ≡ header_at image next → sound image next ≡ true
        → released image h (walk_to image h) ≡ merge_of h (merge_start image before h) (cond (eqb d.kind 1) (next + d.extent) next)
    released-next d k o =
        let e = m.follows in
        ap (released image h) m.met ∙ released_merges image h before (rw (← e, lt-leb _ _ l, o))
        ∙ rw (← e, merge_end-next image next l, k) refl

-- a header written over zeros
pub merged-over : (image : List ℕ) (from to : ℕ) → from + 16 ≤ to → to ≤ length image → put (put image from (replicate (to - from) 0)) from (free_header (to - from)) ≡ merged image from to
unfolding merged
merged-over image from to l u =
    let n : ℕ = to - from in
    let e : n ≡ 16 + (n - 16) = omega arith in
    let k : length (replicate {A = ℕ} n 0) ≡ n = length-replicate n 0 in
    let parts : replicate {A = ℕ} n 0 ≡ replicate 16 0 ++ replicate (n - 16) 0 =
    ap (λ (x : ℕ). replicate {A = ℕ} x 0) e ∙ sym (replicate-append-replicate {A = ℕ} 16 (n - 16) 0) in
    ap (λ (x : List ℕ). put (put image from x) from (free_header n)) parts
    ∙ put-over image from (replicate 16 0) (free_header n) (replicate (n - 16) 0) (sym (length-header n 1 0 0 0)) (omega (arith, ap length parts))
