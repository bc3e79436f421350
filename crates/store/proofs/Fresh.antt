-- Set-up: laying out a fresh image. Assumes nothing.
use Rattle.std.specs.Prelude.{◌≡◌, refl, List, [], ◌++◌, ℕ, ◌+◌, ◌-◌, ◌≤◌, length, replicate}
use Rattle.std.proofs.Common.{sym, ap, ◌∙◌, append-nil, arith}
use Rattle.std.proofs.lemmas.List.{length-replicate, replicate-append-replicate}
use Rattle.block.specs.Bytes.{put}
use Rattle.block.specs.laws.Writes.{put-at}
use Rattle.block.specs.Layout.{superblock, free_header}
use Rattle.block.specs.laws.Headers.{length-header}
use Rattle.block.specs.laws.Superblock.{length-superblock}
use Rattle.store.specs.Calls.{fresh}

-- laying out

-- an image of zeros, where all of it is filled
zeroed : (image : List ℕ) (L : ℕ) → length image ≡ L → put image 0 (replicate L 0) ≡ replicate L 0
zeroed image L e =
    ap (λ (x : List ℕ). put x 0 (replicate L 0)) (sym (append-nil image))
    ∙ put-at [] image [] (replicate L 0) 0 refl (e ∙ sym (length-replicate L 0))
    ∙ append-nil (replicate L 0)

-- zeros in three parts: room for the superblock, for a header, and the rest
zeros : (L : ℕ) → 32 ≤ L → replicate {A = ℕ} L 0 ≡ replicate 16 0 ++ (replicate 16 0 ++ replicate (L - 32) 0)
zeros L h =
    let e : L ≡ 16 + (16 + (L - 32)) = omega arith in
    ap (λ (n : ℕ). replicate {A = ℕ} n 0) e
    ∙ sym (replicate-append-replicate {A = ℕ} 16 (16 + (L - 32)) 0)
    ∙ ap (λ (x : List ℕ). replicate 16 0 ++ x) (sym (replicate-append-replicate {A = ℕ} 16 (L - 32) 0))

-- the superblock and the header of the free block, written into zeros
pub laid_out : (image : List ℕ) (s L : ℕ) → length image ≡ L → 32 ≤ L
    → put (put (put image 0 (replicate L 0)) 0 (superblock s L (L - 16))) 16 (free_header (L - 16)) ≡ fresh s L
unfolding fresh
laid_out image s L e h =
    let front : List ℕ = superblock s L (L - 16) in
    let sixteen : length front ≡ 16 = length-superblock s L (L - 16) in
    let block : List ℕ = free_header (L - 16) in
    ap (λ (x : List ℕ). put (put x 0 front) 16 block) (zeroed image L e ∙ zeros L h)
    ∙ ap (λ (x : List ℕ). put x 16 block) (put-at [] (replicate 16 0) (replicate 16 0 ++ replicate (L - 32) 0) front 0 refl (sym sixteen))
    ∙ put-at front (replicate 16 0) (replicate (L - 32) 0) block 16 sixteen (sym (length-header (L - 16) 1 0 0 0))
