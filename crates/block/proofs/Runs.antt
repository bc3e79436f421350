-- The turns of the loops that copy runs of bytes, and runs as parts of slices. Assumes nothing.
use Rattle.std.proofs.Common.{◌≡◌, ℕ, ◌+◌, ◌-◌, ◌≤◌, List, ◌++◌, length, take, drop, refl, sym, ap, ◌∙◌, arith, length-drop, length-take-le, drop-drop, take-add}
use borrow.Rule.Slice.PartMut.{put_mid}
use Rattle.block.specs.Bytes.{put}
use Rattle.block.specs.laws.Writes.{put-append, put-before, drop-put_above, part_put_below}

-- copying from the first part on: what is copied, after k bytes more
pub down_turn : (l image : List ℕ) (to from n i k : ℕ) → to ≤ from → from + n ≤ length l → i + k ≤ n → image ≡ put l to (take i (drop from l))
    → put image (to + i) (take k (drop (from + i) image)) ≡ put l to (take (i + k) (drop from l))
down_turn l image to from n i k below fits h e =
    let s : List ℕ = drop from l in
    let long : length s ≡ length l - from = length-drop from l in
    let a : length (take i s) ≡ i = length-take-le i s (omega arith) in
    let b : length (take k (drop i s)) ≡ k = length-take-le k (drop i s) (simp length-drop (omega arith)) in
    let rest : drop (from + i) image ≡ drop i s =
    ap (drop (from + i)) e ∙ drop-put_above l to (take i s) (omega arith) (from + i) (omega arith) ∙ sym (drop-drop i from l)
    in
    ap (λ (x : List ℕ). put image (to + i) (take k x)) rest
    ∙ ap (λ (x : List ℕ). put x (to + i) (take k (drop i s))) e
    ∙ put-append l to (take i s) (take k (drop i s)) (to + i) (omega arith) (omega arith)
    ∙ ap (put l to) (sym (take-add i k s))

-- copying from the last part on: what is copied, after k bytes more
pub up_turn : (l image : List ℕ) (to from n i k : ℕ) → from ≤ to → to + n ≤ length l → k ≤ i → i ≤ n
    → image ≡ put l (to + i) (take (n - i) (drop (from + i) l))
    → put image (to + (i - k)) (take k (drop (from + (i - k)) image)) ≡ put l (to + (i - k)) (take (n - (i - k)) (drop (from + (i - k)) l))
up_turn l image to from n i k above fits h g e =
    let j : ℕ = i - k in
    let s : List ℕ = drop (from + j) l in
    let rest : List ℕ = take (n - i) (drop (from + i) l) in
    let b : length rest ≡ n - i = length-take-le (n - i) (drop (from + i) l) (simp length-drop (omega arith)) in
    let a : length (take k s) ≡ k = length-take-le k s (simp length-drop (omega arith)) in
    let piece : take k (drop (from + j) image) ≡ take k s =
    ap (λ (x : List ℕ). take k (drop (from + j) x)) e ∙ part_put_below l (to + i) rest (omega arith) (from + j) k (omega arith)
    in
    let u : from + j + k ≡ from + i = omega arith in
    let w : k + (n - i) ≡ n - j = omega arith in
    let whole : take k s ++ rest ≡ take (n - j) s =
    ap (λ (x : ℕ). take k s ++ take (n - i) (drop x l)) (sym u)
    ∙ ap (λ (x : List ℕ). take k s ++ take (n - i) x) (sym (drop-drop k (from + j) l))
    ∙ sym (take-add k (n - i) s)
    ∙ ap (λ (x : ℕ). take x s) w
    in
    ap (put image (to + j)) piece
    ∙ ap (λ (x : List ℕ). put x (to + j) (take k s)) e
    ∙ put-before l (to + j) (take k s) rest (to + i) (omega arith) (omega arith)
    ∙ ap (put l (to + j)) whole

-- a part of a slice written: the run in it is replaced
pub part_put : (image bs : List ℕ) (at to : ℕ) → at + length bs ≡ to → put_mid at (to - at) image bs ≡ put image at bs
unfolding put
part_put image bs at to e = let k : to - at ≡ length bs = omega arith in rw (k, drop-drop (length bs) at image) refl
