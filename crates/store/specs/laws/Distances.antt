-- Distances: what the two numbers say, and the call's rows. Assumes nothing.
use Rattle.store.specs.State.{measured_as}
use Rattle.std.specs.Prelude.{ℕ, zero, suc, ◌+◌, ◌-◌, ◌≤◌, ◌<◌, ◌≡◌, ◌&&◌, List, ◌↔◌, ltb, ℤ, pos, negsuc, ◌+ℤ◌, ◌-ℤ◌, Err, Ok}
use Rattle.std.proofs.Common.{◌∙◌, arith, ltb-true, ltb-false, leb-true, leb-false, lt-ltb, le-ltb, le-leb}
use Rattle.std.proofs.Math.Path.{refl, sym, ap}
use Rattle.std.proofs.Math.Dec.{leb}
use Rattle.std.proofs.Math.IntN.{sub_ℕ}
use Rattle.std.specs.Int.Signed.{mag, le_z}
use Rattle.std.proofs.lemmas.Bool.{lt-leb}
use Rattle.frame.specs.Pointers.{unpack}
use Rattle.frame.specs.declared.parts.Pointer.{Pointer}
use Rattle.block.specs.Layout.{size_at}
use Rattle.block.specs.laws.Booleans.{by_bool}
use Rattle.store.specs.State.{State}
use Rattle.store.specs.Calls.{opening, located, read_tag, from_start, to_end, in_body, distances_checks, distances_at, distances}
use Rattle.store.specs.laws.TagReading.{FoundAt, read-refused}
use Rattle.store.specs.declared.answer.Refusal.{Refusal}
use Rattle.store.specs.declared.locate.Reading.{Reading}

-- The difference of two numbers.

difference_low : (a b : ℕ) → a < b → sub_ℕ a b ≡ negsuc (b - suc a)
difference_low a b l = rw (lt-ltb a b l)

difference_high : (a b : ℕ) → b ≤ a → sub_ℕ a b ≡ pos (a - b)
difference_high a b l = rw (le-ltb a b l)

-- a claim about it, by the greater of the two
by_difference : (P : ℤ → Type 0) (a b : ℕ) → (a < b → P (negsuc (b - suc a))) → (b ≤ a → P (pos (a - b))) → P (sub_ℕ a b)
by_difference P a b f g =
    by_bool (ltb a b)
    (λ t. let l = ltb-true a b t in rw (difference_low a b l) (f l))
    (λ t. let l = ltb-false a b t in rw (difference_high a b l) (g l))

-- from b to a, and on from a to n past b
difference_sum : (a b n : ℕ) → sub_ℕ a b +ℤ sub_ℕ (b + n) a ≡ pos n
difference_sum a b n =
    by_difference (λ z. z +ℤ sub_ℕ (b + n) a ≡ pos n) a b
    (λ l. rw (difference_high (b + n) a (omega arith)) (difference_high (b + n - a) (suc (b - suc a)) (omega arith) ∙ ap pos (omega arith)))
    (λ l.
    by_difference (λ z. pos (a - b) +ℤ z ≡ pos n) (b + n) a
    (λ u. difference_high (a - b) (suc (a - suc (b + n))) (omega arith) ∙ ap pos (omega arith))
    (λ u. ap pos (omega arith)))

-- it is at least n
difference_least : (a b n : ℕ) → le_z (pos n) (sub_ℕ a b) ≡ leb (b + n) a
difference_least a b n =
    by_difference (λ z. le_z (pos n) z ≡ leb (b + n) a) a b
    (λ l. rw (lt-leb (b + n) a (omega arith)))
    (λ l.
    by_bool (leb (b + n) a)
    (λ t. let k = leb-true (b + n) a t in rw t (le-leb n (a - b) (omega arith)))
    (λ t. let k = leb-false (b + n) a t in rw t (lt-leb n (a - b) (omega arith))))

-- it is n
difference_at : (a b n : ℕ) → (sub_ℕ a b ≡ pos n) ↔ (a ≡ b + n)
difference_at a b n =
    by_difference (λ z. (z ≡ pos n) ↔ (a ≡ b + n)) a b
    (λ l. ((λ e. cc), λ e. absurd (omega arith)))
    (λ l. ((λ e. let z : a - b ≡ n = cc in omega arith), λ e. ap pos (omega arith)))

-- as the integers subtract
difference_is : (a b : ℕ) → pos a -ℤ pos b ≡ sub_ℕ a b
difference_is a zero = ap pos (omega arith) ∙ sym (difference_high a zero (omega arith))
difference_is a (suc b) = refl

-- it fits the bits that both fit
pub difference_fits : (a b n : ℕ) → a < n → b < n → mag (pos a -ℤ pos b) < n
difference_fits a b n k l = rw (difference_is a b) (by_difference (λ z. mag z < n) a b (λ u. omega arith) (λ u. omega arith))

-- What the two numbers say, of a pointer and an object of `size` bytes at h.

module _ (h : ℕ) (p : Pointer) where
  -- as the integers subtract
  pub start_is : pos p.address -ℤ pos (h + 16) ≡ from_start h p
  unfolding from_start
  start_is = difference_is p.address (h + 16)

  pub end_is : (size : ℕ) → pos (h + 16 + size) -ℤ pos p.address ≡ to_end h size p
  unfolding to_end
  end_is size = difference_is (h + 16 + size) p.address

  -- their sum
  pub distances-sum : (size : ℕ) → from_start h p +ℤ to_end h size p ≡ pos size
  unfolding from_start to_end
  distances-sum size = difference_sum p.address (h + 16) size

  -- n bytes behind the base
  pub start-at : (n : ℕ) → (from_start h p ≡ pos n) ↔ (p.address ≡ h + 16 + n)
  unfolding from_start
  start-at n = difference_at p.address (h + 16) n

  -- row 15
  start_none : (from_start h p ≡ pos 0) ↔ (p.address ≡ h + 16)
  start_none = let (to, back) = start-at 0 in ((λ e. to e ∙ omega arith), λ e. back (e ∙ omega arith))

  -- the bytes from the address to the end
  end_bytes : (size : ℕ) → p.address ≤ h + 16 + size → to_end h size p ≡ pos (h + 16 + size - p.address)
  unfolding to_end
  end_bytes size l = difference_high (h + 16 + size) p.address l

  -- row 13
  pub in_body_lem : (image : List ℕ) (n : ℕ) → in_body image h p n ≡ le_z (pos 0) (from_start h p) && le_z (pos n) (to_end h (size_at image h) p)
  unfolding in_body from_start to_end
  in_body_lem image n =
      let a : le_z (pos 0) (sub_ℕ p.address (h + 16)) ≡ leb (h + 16) p.address =
      difference_least p.address (h + 16) 0 ∙ ap (λ (k : ℕ). leb k p.address) (omega arith)
      in
      let b : le_z (pos n) (sub_ℕ (h + 16 + size_at image h) p.address) ≡ leb (p.address + n) (h + 16 + size_at image h) =
      difference_least (h + 16 + size_at image h) p.address n
      in
      rw (a, b) refl

-- as they are read of the object that a tag leads to

module _ (s : ℕ) (p : Pointer) (x : State) (o : Reading) (f : FoundAt s p x o) where
  pub found_body : (n : ℕ) → le_z (pos 0) o.offset && le_z (pos n) o.remaining ≡ in_body x.image o.header p n
  found_body n =
      ap (λ (r : Reading). le_z (pos 0) r.offset && le_z (pos n) r.remaining) f.read ∙ sym (in_body_lem o.header p x.image n)

  pub found_base : (o.offset ≡ pos 0) ↔ (p.address ≡ o.header + 16)
  found_base = rw f.read (start_none o.header p)

  pub found_remaining : p.address ≤ o.header + 16 + size_at x.image o.header
      → o.remaining ≡ pos (o.header + 16 + size_at x.image o.header - p.address)
  found_remaining l = ap (λ (r : Reading). r.remaining) f.read ∙ end_bytes o.header p (size_at x.image o.header) l

-- The call's rows.

module _ (x : State) (s : ℕ) (e : opening x ≡ Ok s) (word : ℕ) where
  -- row 10 or 11
  pub distances_unread : (r : Refusal) → located s (unpack word) x ≡ Err r → Err r ≡ distances word x
  unfolding distances distances_checks distances_at
  distances_unread r l = rw (e, l)

  pub distances_refused : (r : Refusal) → read_tag s (unpack word) x ≡ Err r → distances word x ≡ Err r
  distances_refused r q = sym (distances_unread r (read-refused s (unpack word) x r q))

  -- all are passed
  pub distances-given : (h : ℕ) → located s (unpack word) x ≡ Ok h
      → measured_as (from_start h (unpack word)) (to_end h (size_at x.image h) (unpack word)) ≡ distances word x
  unfolding distances distances_checks distances_at
  distances-given h l = rw (e, l)

  -- in numbers
  pub distances-located : (h : ℕ) → located s (unpack word) x ≡ Ok h
      → distances word x
      ≡ measured_as (sub_ℕ (unpack word).address (h + 16)) (sub_ℕ (h + 16 + size_at x.image h) (unpack word).address)
  unfolding from_start to_end
  distances-located h l = sym (distances-given h l)
