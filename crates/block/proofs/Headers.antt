-- How the code's tests and writes of a header add up. Assumes nothing.
use Rattle.std.proofs.lemmas.Bool.{lt-leb}
use Rattle.std.proofs.Common.{◌≡◌, ℕ, ◌+◌, ◌-◌, ◌%◌, ◌^◌, ◌<◌, ◌≤◌, true, false, ◌&&◌, eqb, leb, List, ◌++◌, length, sym, ap, ◌∙◌, append_assoc, arith, length-append, eq-eqb, ne_eqb, le-leb, leb-false, leb-true}
use Rattle.std.proofs.Math.Bool.{and_assoc, and-false, and-true}
use Rattle.block.specs.Bytes.{encode, put}
use Rattle.block.specs.laws.Fields.{length-encode}
use Rattle.block.specs.laws.Writes.{put-append}
use Rattle.block.specs.laws.Booleans.{by_bool, refuted, and_both, and_left, and_right}
use Rattle.block.specs.Layout.{within, extent_at, kind_at, type_at, size_at, cue_at, well_formed, sound}
use Rattle.block.specs.laws.Soundness.{sound_by, unsound_low, unsound_past}

-- five fields of 4, 2, 2, 4 and 4 bytes, written one behind the other: the form of a superblock and of a header
pub put_fields : (image : List ℕ) (h a b c d e : ℕ) → h + 16 ≤ length image
    → put (put (put (put (put image h (encode 4 a)) (h + 4) (encode 2 b)) (h + 6) (encode 2 c)) (h + 8) (encode 4 d)) (h + 12) (encode 4 e)
    ≡ put image h (encode 4 a ++ (encode 2 b ++ (encode 2 c ++ (encode 4 d ++ encode 4 e))))
put_fields image h a b c d e room =
    let la = length-encode 4 a in
    let lb = length-encode 2 b in
    let lc = length-encode 2 c in
    let ld = length-encode 4 d in
    let le = length-encode 4 e in
    let ab : List ℕ = encode 4 a ++ encode 2 b in
    let abc : List ℕ = ab ++ encode 2 c in
    let abcd : List ℕ = abc ++ encode 4 d in
    let lab : length ab ≡ 6 = length-append (encode 4 a) (encode 2 b) ∙ omega arith in
    let labc : length abc ≡ 8 = length-append ab (encode 2 c) ∙ omega arith in
    let labcd : length abcd ≡ 12 = length-append abc (encode 4 d) ∙ omega arith in
    rw (put-append image h (encode 4 a) (encode 2 b) (h + 4) (omega arith) (omega arith))
    (rw (put-append image h ab (encode 2 c) (h + 6) (omega arith) (omega arith))
    (rw (put-append image h abc (encode 4 d) (h + 8) (omega arith) (omega arith))
    (put-append image h abcd (encode 4 e) (h + 12) (omega arith) (omega arith) ∙ ap (put image h) (simp append_assoc))))

-- `a - b <= c`, wrapping: a is from b to b + c
pub wrapped_within : (r a b c : ℕ) → r < 2 ^ 64 → (r + b) % 2 ^ 64 ≡ a → b + c < 2 ^ 64 → leb r c ≡ leb b a && leb a (b + c)
wrapped_within r a b c f e l =
    by_bool (leb r c)
    (λ t. let k = leb-true r c t in t ∙ sym (and_both _ _ (le-leb b a (omega arith)) (le-leb a (b + c) (omega arith))))
    (λ t.
    let k = leb-false r c t in
    t
    ∙ sym
    (refuted (leb b a && leb a (b + c))
    (λ u. let m = leb-true b a (and_left _ (leb a (b + c)) u) in let n = leb-true a (b + c) (and_right (leb b a) _ u) in omega arith)))

-- the test h + e ≤ L, without the sum
ends_by : (L h e : ℕ) → h ≤ L → leb (h + e) L ≡ leb e (L - h)
ends_by L h e p =
    by_bool (leb e (L - h))
    (λ t. let q : e ≤ L - h = leb-true _ _ t in le-leb (h + e) L (omega arith) ∙ sym t)
    (λ t. let q : L - h < e = leb-false _ _ t in lt-leb (h + e) L (omega arith) ∙ sym t)

-- where there is room for a header
pub roomy : (len h : ℕ) → 32 ≤ len → within 16 (len - 16) h ≡ true → (16 ≤ h) × (h + 16 ≤ len)
roomy len h l e =
    let a = leb-true 16 h (and_left _ (leb h (len - 16)) e) in
    let b = leb-true h (len - 16) (and_right (leb 16 h) _ e) in
    (a, omega arith)

-- and where there is none
pub unroomy : (image : List ℕ) (h : ℕ) → 32 ≤ length image → within 16 (length image - 16) h ≡ false → sound image h ≡ false
unroomy image h l e =
    by_bool (leb 16 h)
    (λ t. let n : length image - 16 < h = leb-false _ _ (rw t at e) in unsound_past image h (omega arith))
    (λ t. unsound_low image h (leb-false 16 h t))

-- the tests of each kind, where there is room for a header
module _ (image : List ℕ) (h : ℕ) (low : 16 ≤ h) (room : h + 16 ≤ length image) where
  -- the block ends in the image
  abbrev inside : leb (h + extent_at image h) (length image) ≡ leb (extent_at image h) (length image - h)
  inside = ends_by (length image) h (extent_at image h) (omega arith)

  -- of a free block
  pub free_by : kind_at image h ≡ 1
      → sound image h
      ≡ leb 16 (extent_at image h)
      && leb (extent_at image h) (length image - h)
      && eqb (type_at image h) 0
      && eqb (size_at image h) 0
      && eqb (cue_at image h) 0
  unfolding well_formed
  free_by k = sound_by image h low room ∙ (simp (inside, eq-eqb _ _ k, and_assoc))

  -- of a live block
  pub live_by : kind_at image h ≡ 2
      → sound image h
      ≡ leb (16 + size_at image h) (extent_at image h)
      && leb (extent_at image h) (31 + size_at image h)
      && leb (extent_at image h) (length image - h)
  unfolding well_formed
  live_by k =
      let n = ne_eqb (kind_at image h) 1 (omega arith) in
      sound_by image h low room
      ∙ by_bool (leb (16 + size_at image h) (extent_at image h))
      (λ t. let q : 16 + size_at image h ≤ extent_at image h = leb-true _ _ t in
      by_bool (leb (extent_at image h) (length image - h))
      (λ u. simp (le-leb 16 (extent_at image h) (omega arith), inside, n, eq-eqb _ _ k, t, u, and-true))
      (λ u. simp (inside, t, u, and-false)))
      (λ t. simp (t, n, and-false))
