-- An object's tag and its pointer.
-- In order: the test of a tag in constant time; the pointer to an object; its pointer with its entry. Not here: wrapper frames and entries (`Wrappers`). Assumes nothing.
use Rattle.std.specs.Prelude.{ℕ, ◌+◌, ◌-◌, ◌*◌, ◌/◌, ◌^◌, ◌≤◌, ◌<◌, ◌≡◌, refl, Bool, true, false, cond, ◌&&◌, not, leb, eqb, None, Some}
use Rattle.std.proofs.Common.{sym, ap, ◌∙◌, lt_of_not-le, lt_of_lt_of_le, mod-lt, arith, pow_pos, pow_mono, shr-shr}
use Rattle.std.proofs.lemmas.Option.{none-some, same_Some}
use Rattle.std.proofs.Math.Bool.{and-true}
use Rattle.std.proofs.Math.Nat.{mul-add-div_right}
use Rattle.std.proofs.Math.Decide.{ℕ_discrete}
use Rattle.std.proofs.Math.Pow.{shr_mono, high, low}
use borrow.Author.Tests.{le-leb, lt-leb, leb-true, leb-false, eq-eqb, ne_eqb, eqb-true, eqb-false, lt-ltb, not-true}
use Rattle.frame.specs.Frame.{frame_start, same_frame}
use Rattle.frame.specs.Pointers.{InRange, good_tag, reach, at}
use Rattle.frame.specs.laws.Pointers.{iff_equal, and_left, and_right, good_small, good_large}
use Rattle.frame.specs.Tags.{first_held, last_held, wrapper, is_small, tag_number, pointer_to, tag_matches, entry_of}
use Rattle.frame.specs.laws.Wrappers.{wrapper_iff, wrapper-at_most, slot_place}
use Rattle.frame.specs.declared.parts.Pointer.{Pointer}
use Rattle.frame.specs.declared.tag.Tagged.{Tagged}

-- The tag.

pub small_test : (n h size : ℕ) → leb (wrapper h size) n ≡ same_frame n (first_held h) (last_held h size)
small_test n h size = go (ℕ_discrete (first_held h / 2 ^ n) (last_held h size / 2 ^ n))
  where
    go : Dec (first_held h / 2 ^ n ≡ last_held h size / 2 ^ n) → leb (wrapper h size) n ≡ same_frame n (first_held h) (last_held h size)
    go (yes e) = le-leb _ _ ((wrapper_iff n h size).1 e) ∙ sym (eq-eqb _ _ e)
    go (no f) = lt-leb _ _ (lt_of_not-le (λ l. f ((wrapper_iff n h size).0 l))) ∙ sym (ne_eqb _ _ f)

-- the test of a tag in constant time: by the first byte and the last shifted by s, or by N and by N - 1
abbrev pub tag_test : ℕ → ℕ → ℕ → Pointer → Bool
tag_test s h size p =
    let a : ℕ = first_held h in
    let e : ℕ = last_held h size in
    cond p.flag (same_frame s a e && eqb (h - frame_start s h) p.tag) (same_frame p.tag a e && not (same_frame (p.tag - 1) a e))

cond_true : (b : Bool) (x y t : ℕ) → b && eqb (cond b x y) t ≡ b && eqb x t
cond_true true x y t = refl
cond_true false x y t = refl

cond_false : (b : Bool) (x y t : ℕ) → not b && eqb (cond b x y) t ≡ not b && eqb y t
cond_false true x y t = refl
cond_false false x y t = refl

-- N is t: no more than t, and not less
exactly : (N t : ℕ) → 0 < t → eqb N t ≡ leb N t && not (leb N (t - 1))
exactly N t l = go (ℕ_discrete N t) (leb N t) refl
  where
    go : Dec (N ≡ t) → (b : Bool) → leb N t ≡ b → eqb N t ≡ b && not (leb N (t - 1))
    go (yes e) b h = rw (eq-eqb N t e, ← h, le-leb N t (omega arith), lt-leb N (t - 1) (omega arith))
    go (no f) true h = let k = leb-true N t h in rw (ne_eqb N t f, le-leb N (t - 1) (omega arith))
    go (no f) false h = ne_eqb N t f

above : (N s t : ℕ) → s < t → not (leb N s) && eqb N t ≡ eqb N t
above N s t l = go (leb N s) refl
  where
    go : (b : Bool) → leb N s ≡ b → not b && eqb N t ≡ eqb N t
    go true h = let k = leb-true N s h in sym (ne_eqb N t (λ e. omega arith))
    go false h = refl

-- working flag and tag number out afresh comes to that test
pub tag_test_lem : (s h size : ℕ) (p : Pointer) → good_tag s p ≡ true → tag_matches s h size p ≡ tag_test s h size p
unfolding tag_matches tag_number
tag_test_lem s h size p g = go p.flag refl
  where
    N : ℕ
    N = wrapper h size

    go : (b : Bool) → p.flag ≡ b
        → cond b (leb N s) (not (leb N s)) && eqb (cond (leb N s) (h - frame_start s h) N) p.tag
        ≡ cond b (same_frame s (first_held h) (last_held h size) && eqb (h - frame_start s h) p.tag)
        (same_frame p.tag (first_held h) (last_held h size) && not (same_frame (p.tag - 1) (first_held h) (last_held h size)))
    go true f = cond_true (leb N s) (h - frame_start s h) N p.tag ∙ ap (λ b. b && eqb (h - frame_start s h) p.tag) (small_test s h size)
    go false f =
        let k = (good_large s p f g).0 in
        cond_false (leb N s) (h - frame_start s h) N p.tag ∙ above N s p.tag k ∙ exactly N p.tag (omega arith)
        ∙ ap (λ b. b && not (leb N (p.tag - 1))) (small_test p.tag h size)
        ∙ ap (λ b. same_frame p.tag (first_held h) (last_held h size) && not b) (small_test (p.tag - 1) h size)

-- Where the tag is read from the slot or the table, less is asked.

-- the last byte of the object that a small-framed tag leads to stands in the slot, too
abbrev pub slot_holds : ℕ → ℕ → Pointer → Bool
slot_holds s size p = eqb (last_held p.tag size / 2 ^ s) 0

-- the object at h reaches from the lower half of the address's frame to the upper one
abbrev pub frame_holds : ℕ → ℕ → Pointer → Bool
frame_holds h size p =
    eqb (h / 2 ^ (p.tag - 1)) (2 * (p.address / 2 ^ p.tag)) && eqb (last_held h size / 2 ^ (p.tag - 1)) (2 * (p.address / 2 ^ p.tag) + 1)

-- a header at a place of the address's slot is in that slot
pub slot_near : (s a t : ℕ) → t < 2 ^ s → (frame_start s a + t) / 2 ^ s ≡ a / 2 ^ s
slot_near s a t l = high (a / 2 ^ s) s l

-- and the last byte of an object is, where it is no slot further
slot_last : (q s t size : ℕ) → t < 2 ^ s → same_frame s (q * 2 ^ s + t) (q * 2 ^ s + t + 16 + size) ≡ eqb ((t + 16 + size) / 2 ^ s) 0
slot_last q s t size l =
    let n : ℕ = (t + 16 + size) / 2 ^ s in
    let near : (q * 2 ^ s + t) / 2 ^ s ≡ q = high q s l in
    let sum : q * 2 ^ s + t + 16 + size ≡ q * 2 ^ s + (t + 16 + size) = omega arith in
    let last : (q * 2 ^ s + t + 16 + size) / 2 ^ s ≡ q + n = ap (λ (x : ℕ). x / 2 ^ s) sum ∙ mul-add-div_right (pow_pos s) q (t + 16 + size) in
    rw (near, last) (iff_equal (λ e. eq-eqb n 0 (omega (arith, eqb-true q (q + n) e))) (λ e. eq-eqb q (q + n) (omega (arith, eqb-true n 0 e))))

-- so its tag and slot are the pointer's by construction
pub slot_matches : (s size : ℕ) (p : Pointer) → p.flag ≡ true → good_tag s p ≡ true
    → tag_matches s (frame_start s p.address + p.tag) size p ≡ slot_holds s size p
slot_matches s size p f g =
    let l = good_small s p f g in
    let h : ℕ = frame_start s p.address + p.tag in
    let placed : h - frame_start s h ≡ p.tag = slot_place s h ∙ low (p.address / 2 ^ s) s l in
    tag_test_lem s h size p g
    ∙ rw (f, eq-eqb (h - frame_start s h) p.tag placed, and-true (same_frame s h (last_held h size))) (slot_last (p.address / 2 ^ s) s p.tag size l)

-- two numbers in order with one half k, and not the same
halves_test : (x y k : ℕ) → x ≤ y → (eqb (x / 2) (y / 2) && not (eqb x y)) && eqb (x / 2) k ≡ eqb x (2 * k) && eqb y (2 * k + 1)
halves_test x y k l = iff_equal there back
  where
    there : (eqb (x / 2) (y / 2) && not (eqb x y)) && eqb (x / 2) k ≡ true → eqb x (2 * k) && eqb y (2 * k + 1) ≡ true
    there e =
        let a = and_left (eqb (x / 2) (y / 2) && not (eqb x y)) _ e in
        let same = eqb-true (x / 2) (y / 2) (and_left _ (not (eqb x y)) a) in
        let apart = eqb-false x y (not-true (eqb x y) (and_right (eqb (x / 2) (y / 2)) _ a)) in
        let low = eqb-true (x / 2) k (and_right (eqb (x / 2) (y / 2) && not (eqb x y)) _ e) in
        rw (eq-eqb x (2 * k) (omega arith), eq-eqb y (2 * k + 1) (omega arith))

    back : eqb x (2 * k) && eqb y (2 * k + 1) ≡ true → (eqb (x / 2) (y / 2) && not (eqb x y)) && eqb (x / 2) k ≡ true
    back e =
        let a = eqb-true x (2 * k) (and_left _ (eqb y (2 * k + 1)) e) in
        let b = eqb-true y (2 * k + 1) (and_right (eqb x (2 * k)) _ e) in
        rw (eq-eqb (x / 2) (y / 2) (omega arith), ne_eqb x y (λ z. omega arith), eq-eqb (x / 2) k (omega arith))

-- a large-framed object's header is in the lower half of its wrapper frame, and its last byte in the upper one
pub frame_matches : (s h size : ℕ) (p : Pointer) → p.flag ≡ false → good_tag s p ≡ true
    → tag_matches s h size p && same_frame p.tag h p.address ≡ frame_holds h size p
frame_matches s h size p f g =
    let m : ℕ = p.tag - 1 in
    let e : ℕ = last_held h size in
    let k : ℕ = p.address / 2 ^ p.tag in
    let above : m + 1 ≡ p.tag = omega (arith, (good_large s p f g).0) in
    let half : (a : ℕ) → a / 2 ^ p.tag ≡ a / 2 ^ m / 2 = λ a. ap (λ (i : ℕ). a / 2 ^ i) (sym above) ∙ sym (shr-shr a m 1) in
    rw (tag_test_lem s h size p g, f) (rw (half h, half e) (halves_test (h / 2 ^ m) (e / 2 ^ m) k (shr_mono m (omega arith))))

-- The pointer to an object.

pub pointer_small : (s h size : ℕ) → wrapper h size ≤ s → pointer_to s h size ≡ record { flag = true; tag = h - frame_start s h; address = h + 16 }
unfolding pointer_to tag_number
pointer_small s h size l = rw (le-leb (wrapper h size) s l)

pub pointer_large : (s h size : ℕ) → s < wrapper h size → pointer_to s h size ≡ record { flag = false; tag = wrapper h size; address = h + 16 }
unfolding pointer_to tag_number
pointer_large s h size l = rw (lt-leb (wrapper h size) s l)

-- the slot or frame that it may move in
pub reach_slot : (s h size : ℕ) → wrapper h size ≤ s → reach s (pointer_to s h size) ≡ s
unfolding reach
reach_slot s h size l = rw (pointer_small s h size l)

pub reach-wrapper : (s h size : ℕ) → s < wrapper h size → reach s (pointer_to s h size) ≡ wrapper h size
unfolding reach
reach-wrapper s h size l = rw (pointer_large s h size l)

-- its address is the start of the body
pub pointer_address : (s h size : ℕ) → (pointer_to s h size).address ≡ h + 16
unfolding pointer_to
pointer_address s h size = refl

-- with that address it is the same pointer
pub pointer_at : (s h size : ℕ) → at (pointer_to s h size) (h + 16) ≡ pointer_to s h size
unfolding pointer_to
pointer_at s h size = refl

-- an object is small-framed or large-framed
pub by_frame : {P : Type 0} (s h size : ℕ) → (wrapper h size ≤ s → P) → (s < wrapper h size → P) → P
by_frame {P} s h size small large = go (leb (wrapper h size) s) refl
  where
    go : (b : Bool) → leb (wrapper h size) s ≡ b → P
    go true e = small (leb-true _ _ e)
    go false e = large (leb-false _ _ e)

module _ (s h size : ℕ) (few : s ≤ 15) (inside : h + 16 + size ≤ 2 ^ 30) where
  -- its tag number is good
  pub pointer_good : good_tag s (pointer_to s h size) ≡ true
  unfolding good_tag
  pointer_good =
      by_frame s h size
      (λ l. rw (pointer_small s h size l) (lt-ltb (h - frame_start s h) (2 ^ s) (rw slot_place (mod-lt h (pow_pos s)))))
      (λ l. rw (pointer_large s h size l, lt-ltb s (wrapper h size) l, le-leb (wrapper h size) 31 (wrapper-at_most h size inside)))

  -- its parts fit their bits
  pub pointer_range : InRange (pointer_to s h size)
  pointer_range =
      by_frame s h size
      (λ l.
      rw (pointer_small s h size l)
      (record { tag = rw slot_place (lt_of_lt_of_le (mod-lt h (pow_pos s)) (pow_mono few)); address = omega arith }))
      (λ l. rw (pointer_large s h size l) (record { tag = omega (arith, wrapper-at_most h size inside); address = omega arith }))

-- it has that very flag and tag number
pub pointer_matches : (s h size : ℕ) → tag_matches s h size (pointer_to s h size) ≡ true
unfolding tag_matches pointer_to
pointer_matches s h size = go (is_small s h size)
  where
    go : (b : Bool) → cond b b (not b) && eqb (tag_number s h size) (tag_number s h size) ≡ true
    go true = eq-eqb (tag_number s h size) (tag_number s h size) refl
    go false = eq-eqb (tag_number s h size) (tag_number s h size) refl

-- the address says nothing about them
pub matches_at : (s h size : ℕ) (p : Pointer) (a : ℕ) → tag_matches s h size (at p a) ≡ tag_matches s h size p
unfolding tag_matches
matches_at s h size p a = refl

-- a flag that matches
flag_of : (b f : Bool) → cond f b (not b) ≡ true → f ≡ b
flag_of true true e = refl
flag_of true false e = e
flag_of false true e = sym e
flag_of false false e = refl

-- a pointer that has them is the object's, but for the address
pub matches_pointer : (s h size : ℕ) (p : Pointer) → tag_matches s h size p ≡ true → p ≡ at (pointer_to s h size) p.address
unfolding tag_matches pointer_to
matches_pointer s h size p e =
    let f : p.flag ≡ is_small s h size = flag_of (is_small s h size) p.flag (and_left _ (eqb (tag_number s h size) p.tag) e) in
    let t : p.tag ≡ tag_number s h size = sym (eqb-true _ _ (and_right (cond p.flag (is_small s h size) (not (is_small s h size))) _ e)) in
    λ i. record { flag = f i; tag = t i; address = p.address }

-- and with its entry

-- what `tag_object` answers: an object's pointer, with its entry where it is large-framed
unfoldable pub tagged : ℕ → ℕ → ℕ → Tagged
tagged s h size = record { pointer = pointer_to s h size; entry = cond (is_small s h size) None (Some (entry_of s h size)) }

pub tagged_pointer_lem : (s h size : ℕ) → (tagged s h size).pointer ≡ pointer_to s h size
unfolding tagged
tagged_pointer_lem s h size = refl

pub tagged_small : (s h size : ℕ) → wrapper h size ≤ s → tagged s h size ≡ record { pointer = pointer_to s h size; entry = None }
unfolding tagged
tagged_small s h size l = rw (le-leb (wrapper h size) s l)

pub tagged-large : (s h size : ℕ) → s < wrapper h size → tagged s h size ≡ record { pointer = pointer_to s h size; entry = Some (entry_of s h size) }
unfolding tagged
tagged-large s h size l = rw (lt-leb (wrapper h size) s l)

-- and what a tag says

pub tagged-is_small : (s h size : ℕ) → (tagged s h size).entry ≡ None → (wrapper h size ≤ s) × ((tagged s h size).pointer ≡ pointer_to s h size)
tagged-is_small s h size e =
    by_frame s h size
    (λ l. (l, tagged_pointer_lem s h size))
    (λ l. absurd (none-some _ (sym e ∙ ap (λ (t : Tagged). t.entry) (tagged-large s h size l))))

pub tagged_is_large : (s h size i : ℕ) → (tagged s h size).entry ≡ Some i
    → (s < wrapper h size) × ((tagged s h size).pointer ≡ pointer_to s h size) × (i ≡ entry_of s h size)
tagged_is_large s h size i e =
    by_frame s h size
    (λ l. absurd (none-some _ (sym (ap (λ (t : Tagged). t.entry) (tagged_small s h size l)) ∙ e)))
    (λ l. (l, tagged_pointer_lem s h size, same_Some _ _ (sym e ∙ ap (λ (t : Tagged). t.entry) (tagged-large s h size l))))
