-- Replaced bytes.
-- In order: what stands in and around them; a number written and read back; neighbouring and overlapping runs. Assumes nothing.
use Rattle.std.specs.Prelude.{◌≡◌, ℕ, suc, ◌+◌, ◌-◌, ◌/◌, ◌^◌, ◌<◌, ◌≤◌, ◌⊎◌, List, [], ◌∷◌, ◌++◌, length, take, drop, slice_index, slice_set, refl}
use Rattle.std.proofs.Math.Path.{sym, ap}
use Rattle.std.proofs.Common.{◌∙◌, append_assoc, ⊎_elim, add-zero, arith, length-append, length-drop, length-set, take-append-drop, drop-drop, length-take-le, get_or-append-add, get_or-take, get_or-drop, take-suc-set, ext_get_or, take-take, take-add}
use Rattle.std.proofs.Math.ListN.{length-take}
use Rattle.std.proofs.lemmas.List.Edits.{sets, sets-eq}
use Rattle.std.proofs.Math.Seq.{take_at, drop_at, take-set-lt, drop-append-add}
use Rattle.std.proofs.lemmas.List.{set-append_left}
use Rattle.block.specs.Bytes.{encode, field, put}
use Rattle.block.specs.laws.Fields.{length-encode, encode_add, decode-encode, field_ext, field-drop, field_front}

-- replaced bytes

-- what they stand between
pub put_def : (image : List ℕ) (at : ℕ) (bs : List ℕ) → put image at bs ≡ take at image ++ (bs ++ drop (at + length bs) image)
unfolding put
put_def image at bs = refl

module _ (image : List ℕ) (at : ℕ) (bs : List ℕ) (fits : at + length bs ≤ length image) where
  -- the length stays
  pub length-put : length (put image at bs) ≡ length image
  unfolding put
  length-put = simp (length-append, length-take, length-drop) (omega arith)

  -- a run is its bytes stored one by one
  pub put_sets : put image at bs ≡ sets image at bs
  unfolding put
  put_sets = sym (append_assoc (take at image) bs (drop (at + length bs) image)) ∙ sym (sets-eq bs image at fits)

  -- from the run on: the run, and what stood behind it
  pub drop-put : drop at (put image at bs) ≡ bs ++ drop (at + length bs) image
  unfolding put
  drop-put = drop_at (take at image) _ at (length-take-le at image (omega arith))

  -- before the run: what stood there
  pub take_put : take at (put image at bs) ≡ take at image
  unfolding put
  take_put = take_at (take at image) _ at (length-take-le at image (omega arith))

  -- up to the run's end: what stood before it, and the run
  pub take-put-end : take (at + length bs) (put image at bs) ≡ take at image ++ bs
  unfolding put
  take-put-end =
      ap (take (at + length bs)) (sym (append_assoc (take at image) bs (drop (at + length bs) image)))
      ∙ take_at (take at image ++ bs) _ (at + length bs) (simp (length-append, length-take) (omega arith))

  -- a byte below the run
  pub get_or-put_below : (k : ℕ) → k < at → slice_index (put image at bs) k ≡ slice_index image k
  get_or-put_below k l = sym (get_or-take at (put image at bs) k 0 l) ∙ rw take_put (get_or-take at image k 0 l)

  -- an element at or above the replaced bytes' first
  get_or-put-from : (i : ℕ) → slice_index (put image at bs) (at + i) ≡ slice_index (bs ++ drop (at + length bs) image) i
  get_or-put-from i = sym (get_or-drop at (put image at bs) i 0) ∙ rw drop-put refl

  -- a byte above the run
  pub get_or-put_above : (k : ℕ) → at + length bs ≤ k → slice_index (put image at bs) k ≡ slice_index image k
  get_or-put_above k l =
      let j : ℕ = k - (at + length bs) in
      let e : k ≡ at + (length bs + j) = omega arith in
      let f : k ≡ at + length bs + j = omega arith in
      ap (λ (n : ℕ). slice_index (put image at bs) n) e
      ∙ get_or-put-from (length bs + j)
      ∙ get_or-append-add bs (drop (at + length bs) image) j 0
      ∙ get_or-drop (at + length bs) image j 0
      ∙ ap (λ (n : ℕ). slice_index image n) (sym f)

  -- what stands above the run
  pub drop-put_above : (m : ℕ) → at + length bs ≤ m → drop m (put image at bs) ≡ drop m image
  drop-put_above m l =
      let j : ℕ = m - (at + length bs) in
      let e : m ≡ at + (length bs + j) = omega arith in
      let f : at + length bs + j ≡ m = omega arith in
      ap (λ (n : ℕ). drop n (put image at bs)) e
      ∙ sym (drop-drop (length bs + j) at (put image at bs))
      ∙ ap (drop (length bs + j)) drop-put
      ∙ drop-append-add bs (drop (at + length bs) image) j
      ∙ drop-drop j (at + length bs) image
      ∙ ap (λ (n : ℕ). drop n image) f

  -- a part below the run
  pub part_put_below : (m k : ℕ) → m + k ≤ at → take k (drop m (put image at bs)) ≡ take k (drop m image)
  part_put_below m k l =
      let long : length (put image at bs) ≡ length image = length-put in
      let n : length (take k (drop m (put image at bs))) ≡ k = length-take-le k _ (simp length-drop (omega arith)) in
      let n' : length (take k (drop m image)) ≡ k = length-take-le k _ (simp length-drop (omega arith)) in
      ext_get_or
      0
      (take k (drop m (put image at bs)))
      (take k (drop m image))
      (n ∙ sym n')
      (λ i h.
      let h' : i < k = omega arith in
      get_or-take k (drop m (put image at bs)) i 0 h'
      ∙ get_or-drop m (put image at bs) i 0
      ∙ get_or-put_below (m + i) (omega arith)
      ∙ sym (get_or-drop m image i 0)
      ∙ sym (get_or-take k (drop m image) i 0 h'))

  -- a field elsewhere is as it was
  pub field-put_other : (at' w : ℕ) → (at' + w ≤ at) ⊎ (at + length bs ≤ at') → field (put image at bs) at' w ≡ field image at' w
  field-put_other at' w d =
      ⊎_elim
      (λ (l : at' + w ≤ at). field_ext (put image at bs) image w at' (λ k p q. get_or-put_below k (omega arith)))
      (λ (l : at + length bs ≤ at'). field_ext (put image at bs) image w at' (λ k p q. get_or-put_above k (omega arith)))
      d

-- a number that fits is read back
pub field_put : (image : List ℕ) (at w v : ℕ) → at + w ≤ length image → v < 256 ^ w → field (put image at (encode w v)) at w ≡ v
field_put image at w v l h =
    let n : length (encode w v) ≡ w = length-encode w v in
    ap (λ (k : ℕ). field (put image at (encode w v)) k w) (sym (add-zero at))
    ∙ field-drop (put image at (encode w v)) at 0 w
    ∙ ap (λ (q : List ℕ). field q 0 w) (drop-put image at (encode w v) (omega arith))
    ∙ field_front (encode w v) _ w n
    ∙ decode-encode w v h

-- two runs, one behind the other, are one
pub put-append : (image : List ℕ) (at : ℕ) (a b : List ℕ) (n : ℕ) → at + length a ≡ n → n + length b ≤ length image → put (put image at a) n b ≡ put image at (a ++ b)
unfolding put
put-append image at a b n e fits =
    let p : List ℕ = take at image in
    let r : List ℕ = drop (at + length a) image in
    let long : length (p ++ a) ≡ n = simp (length-append, length-take) (omega arith) in
    let front : take n (p ++ (a ++ r)) ≡ p ++ a = rw (← append_assoc p a r) (take_at (p ++ a) r n long) in
    let back : drop n (p ++ (a ++ r)) ≡ r = rw (← append_assoc p a r) (drop_at (p ++ a) r n long) in
    let sum : at + length a + length b ≡ at + length (a ++ b) = simp length-append (omega arith) in
    let ends : drop (n + length b) (p ++ (a ++ r)) ≡ drop (at + length (a ++ b)) image =
    sym (drop-drop (length b) n (p ++ (a ++ r))) ∙ ap (drop (length b)) back ∙ drop-drop (length b) (at + length a) image
    ∙ ap (λ (k : ℕ). drop k image) sum
    in
    rw (front, ends) (simp append_assoc)

-- the same, the second first
pub put-before : (image : List ℕ) (at : ℕ) (a b : List ℕ) (n : ℕ) → at + length a ≡ n → n + length b ≤ length image → put (put image n b) at a ≡ put image at (a ++ b)
put-before image at a b n e fits =
    let x : List ℕ = put image n b in
    let front : take at x ≡ take at image =
    sym (take-take at n x (omega arith)) ∙ ap (take at) (take_put image n b fits) ∙ take-take at n image (omega arith)
    in
    let back : drop (at + length a) x ≡ b ++ drop (n + length b) image = ap (λ (k : ℕ). drop k x) e ∙ drop-put image n b fits in
    let sum : n + length b ≡ at + length (a ++ b) = simp length-append (omega arith) in
    put_def x at a
    ∙ ap (λ (p : List ℕ). p ++ (a ++ drop (at + length a) x)) front
    ∙ ap (λ (q : List ℕ). take at image ++ (a ++ q)) back
    ∙ ap (λ (q : List ℕ). take at image ++ q) (sym (append_assoc a b (drop (n + length b) image)))
    ∙ ap (λ (k : ℕ). take at image ++ ((a ++ b) ++ drop k image)) sum
    ∙ sym (put_def image at (a ++ b))

-- a number written in two parts: its v low bytes, and the w others
pub put_parts : (image : List ℕ) (at v w n : ℕ) → at + (v + w) ≤ length image
    → put (put image at (encode v n)) (at + v) (encode w (n / 256 ^ v)) ≡ put image at (encode (v + w) n)
put_parts image at v w n fits =
    let l = length-encode v n in
    let m = length-encode w (n / 256 ^ v) in
    put-append image at (encode v n) (encode w (n / 256 ^ v)) (at + v) (omega arith) (omega arith) ∙ ap (put image at) (sym (encode_add v w n))

-- the same bytes, where the image is in parts
pub put-at : (p old q b : List ℕ) (at : ℕ) → length p ≡ at → length old ≡ length b → put (p ++ (old ++ q)) at b ≡ p ++ (b ++ q)
unfolding put
put-at p old q b at e f =
    let front : take at (p ++ (old ++ q)) ≡ p = take_at p (old ++ q) at e in
    let back : drop (at + length b) (p ++ (old ++ q)) ≡ q =
    sym (drop-drop (length b) at (p ++ (old ++ q))) ∙ ap (drop (length b)) (drop_at p (old ++ q) at e) ∙ drop_at old q (length b) f
    in
    rw (front, back) refl

-- one byte more in front of the run: stored first, stored last
pub put_cons : (image : List ℕ) (at b : ℕ) (bs : List ℕ) → at + suc (length bs) ≤ length image → put (slice_set image at b) (suc at) bs ≡ put image at (b ∷ bs)
put_cons image at b bs fits = put_sets (slice_set image at b) (suc at) bs (simp length-set (omega arith)) ∙ sym (put_sets image at (b ∷ bs) fits)

pub set-put_front : (image : List ℕ) (at b : ℕ) (bs : List ℕ) → at + suc (length bs) ≤ length image → slice_set (put image (suc at) bs) at b ≡ put image at (b ∷ bs)
unfolding put
set-put_front image at b bs fits =
    let r : List ℕ = bs ++ drop (suc at + length bs) image in
    let k : suc at + length bs ≡ at + suc (length bs) = omega arith in
    set-append_left (take (suc at) image) r at b (simp length-take (omega arith))
    ∙ ap (λ (x : List ℕ). x ++ r) (sym (take-set-lt (suc at) image at b (omega arith)) ∙ take-suc-set image at b (omega arith))
    ∙ append_assoc (take at image) (b ∷ []) r
    ∙ rw k refl

-- one byte more at the run's end
pub set-put-end : (image : List ℕ) (at b n : ℕ) (bs : List ℕ) → at + length bs ≡ n → n < length image
    → slice_set (put image at bs) n b ≡ put image at (bs ++ (b ∷ []))
set-put-end image at b n bs e fits =
    let long : length (put image at bs) ≡ length image = length-put image at bs (omega arith) in
    sym (put_sets (put image at bs) n (b ∷ []) (omega arith)) ∙ put-append image at bs (b ∷ []) n e (omega arith)

-- nothing replaced
pub put_nil : (image : List ℕ) (at : ℕ) → put image at [] ≡ image
unfolding put
put_nil image at = rw (add-zero at) (take-append-drop at image)

-- an image with a run in it, in parts
put_split : (image : List ℕ) (at : ℕ) (bs : List ℕ) → at + length bs ≤ length image → put image at bs ≡ take at image ++ (bs ++ drop (at + length bs) image)
put_split image at bs fits = sym (take-append-drop at (put image at bs)) ∙ rw (take_put image at bs fits, drop-put image at bs fits) refl

-- a run put over the front of a longer one
pub put-over : (image : List ℕ) (at : ℕ) (a b r : List ℕ) → length a ≡ length b → at + length (a ++ r) ≤ length image → put (put image at (a ++ r)) at b ≡ put image at (b ++ r)
put-over image at a b r e fits =
    let n : length (a ++ r) ≡ length (b ++ r) = simp (length-append, e) in
    let l : at + length (b ++ r) ≤ length image = rw n at fits in
    let q : List ℕ = drop (at + length (a ++ r)) image in
    let p : length (take at image) ≡ at = simp length-take (omega arith) in
    ap (λ (x : List ℕ). put x at b) (put_split image at (a ++ r) fits ∙ ap (λ (x : List ℕ). take at image ++ x) (append_assoc a r q))
    ∙ put-at (take at image) a (r ++ q) b at p e
    ∙ ap (λ (x : List ℕ). take at image ++ x) (sym (append_assoc b r q))
    ∙ ap (λ (k : ℕ). take at image ++ ((b ++ r) ++ drop (at + k) image)) n
    ∙ sym (put_split image at (b ++ r) l)

-- a run put over a shorter one from the same place swallows it
pub put_again : (image : List ℕ) (at : ℕ) (a b : List ℕ) → length a ≤ length b → at + length b ≤ length image → put (put image at a) at b ≡ put image at b
put_again image at a b l fits =
    let room : at + length a ≤ length image = omega arith in
    put_def (put image at a) at b
    ∙ ap (λ (x : List ℕ). x ++ (b ++ drop (at + length b) (put image at a))) (take_put image at a room)
    ∙ ap (λ (x : List ℕ). take at image ++ (b ++ x)) (drop-put_above image at a room (at + length b) (omega arith))
    ∙ sym (put_def image at b)

-- two runs apart from each other, in either order
pub put_swap : (image : List ℕ) (at : ℕ) (a : List ℕ) (n : ℕ) (b : List ℕ) → at + length a ≤ n → n + length b ≤ length image
    → put (put image at a) n b ≡ put (put image n b) at a
put_swap image at a n b l fits =
    let m : ℕ = at + length a in
    let r : ℕ = n - m in
    let e : n ≡ m + r = omega arith in
    let room : at + length a ≤ length image = omega arith in
    let x : List ℕ = put image at a in
    let y : List ℕ = put image n b in
    let z : List ℕ = b ++ drop (n + length b) image in
    let mid : List ℕ = take r (drop m image) in
    let front : take n x ≡ take at image ++ (a ++ mid) =
    ap (λ (k : ℕ). take k x) e ∙ take-add m r x ∙ ap (λ (q : List ℕ). q ++ take r (drop m x)) (take-put-end image at a room)
    ∙ ap (λ (q : List ℕ). take at image ++ a ++ take r q) (drop-put_above image at a room m (omega arith)) ∙ append_assoc (take at image) a mid
    in
    let split : take n image ≡ take m image ++ mid = ap (λ (k : ℕ). take k image) e ∙ take-add m r image in
    let back : drop m y ≡ mid ++ z =
    ap (drop m) (put_def image n b ∙ ap (λ (q : List ℕ). q ++ z) split ∙ append_assoc (take m image) mid z)
    ∙ drop_at (take m image) (mid ++ z) m (length-take-le m image (omega arith))
    in
    let begin : take at y ≡ take at image =
    sym (take-take at n y (omega arith)) ∙ ap (take at) (take_put image n b fits) ∙ take-take at n image (omega arith)
    in
    let parts : (take at image ++ (a ++ mid)) ++ z ≡ take at image ++ (a ++ (mid ++ z)) = simp append_assoc in
    put_def x n b
    ∙ ap (λ (q : List ℕ). q ++ (b ++ drop (n + length b) x)) front
    ∙ ap (λ (q : List ℕ). (take at image ++ (a ++ mid)) ++ (b ++ q)) (drop-put_above image at a room (n + length b) (omega arith))
    ∙ parts
    ∙ ap (λ (q : List ℕ). take at image ++ (a ++ q)) (sym back)
    ∙ ap (λ (q : List ℕ). q ++ (a ++ drop m y)) (sym begin)
    ∙ sym (put_def y at a)
