-- Counting the blocks. Assumes nothing.
use Rattle.std.specs.Prelude.{◌≡◌, ℕ, ◌+◌, true, List, length, ◌≢◌, refl, Some}
use Rattle.std.proofs.Common.{ap, arith, eq-eqb, ne_eqb, eqb-true}
use Rattle.std.proofs.lemmas.Bool.{eqb-false}
use Rattle.block.specs.laws.Booleans.{by_bool}
use Rattle.block.specs.Layout.{header_at, extent_at, is_live, sound}
use Rattle.block.specs.laws.Soundness.{Live, sound_live}
use Rattle.block.specs.Walk.{Walked, stopped, unsound, ended, walk, no_counts, with_live, with_free, counting, count_of, count_blocks}
use Rattle.block.specs.laws.Walks.{walk_carries_on}
use Rattle.block.specs.declared.header.Header.{Header}
use Rattle.block.specs.declared.walk.Counts.{Counts}

-- counts are the same where each number is
pub same-counts : {a b : Counts} → a.objects ≡ b.objects → a.live ≡ b.live → a.free ≡ b.free → a.overhead ≡ b.overhead → a ≡ b
same-counts p q r s = λ i. record { objects = p i; live = q i; free = r i; overhead = s i }

module _ (a : Counts) (h : ℕ) (d : Header) where
  -- a live block is counted as live
  pub passes_live : d.kind ≡ 2 → counting.passes a h d ≡ with_live a d
  passes_live k = simp (eq-eqb _ _ k)

  -- every other as free
  pub passes-free : (d.kind ≢ 2) → counting.passes a h d ≡ with_free a d
  passes-free k = simp (ne_eqb _ _ k)

-- the counts that the walk ends with are the answer
pub count_is : (image : List ℕ) (a : Counts) → walk counting image no_counts ≡ ended a → count_blocks image ≡ Some a
unfolding count_blocks count_of
count_is image a e = ap count_of e

-- and no other are
count_ended : (w : Walked Counts) (a : Counts) → count_of w ≡ Some a → w ≡ ended a
unfolding count_of
count_ended (stopped b h) a e = cc
count_ended (unsound h) a e = cc
count_ended (ended b) a e = let x : b ≡ a = cc in ap ended x

-- every byte between the superblock and h is counted once
abbrev Balanced : Counts → ℕ → Type 0
Balanced a h = 16 + (a.live + a.free + a.overhead) ≡ h

-- passing a sound block keeps that
passes_balanced : (image : List ℕ) (a : Counts) (h : ℕ) → Balanced a h → sound image h ≡ true
    → Balanced (counting.passes a h (header_at image h)) (h + extent_at image h)
passes_balanced image a h p o =
    by_bool (is_live image h)
    (λ t. let l : Live (header_at image h) = sound_live image h o t in rw (passes_live a h (header_at image h) (eqb-true _ _ t)) (omega (arith, l.holds)))
    (λ t. rw (passes-free a h (header_at image h) (eqb-false _ _ t)) (omega arith))

-- live, free and overhead bytes are all bytes behind the superblock
pub count_balanced : (image : List ℕ) (a : Counts) → count_blocks image ≡ Some a → 16 + (a.live + a.free + a.overhead) ≡ length image
unfolding count_blocks
count_balanced image a e =
    walk_carries_on counting image Balanced (λ b h p o t. passes_balanced image b h p o) no_counts a refl (count_ended (walk counting image no_counts) a e)
