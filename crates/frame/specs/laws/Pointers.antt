-- Tagged pointers: packing, tag numbers, moves. Assumes nothing.
use Rattle.std.specs.Prelude.{ℕ, zero, suc, ◌+◌, ◌*◌, ◌/◌, ◌%◌, ◌^◌, ◌≤◌, ◌<◌, ◌≡◌, refl, Bool, true, false, cond, ◌&&◌, leb, ltb, eqb, ℤ, pos, negsuc, ◌+ℤ◌, None, Option, Some}
use Rattle.std.proofs.Common.{sym, subst, mod-lt, arith, pow_pos, eq-eqb, ne_eqb, eqb-true, ltb-true, leb-true}
use Rattle.frame.specs.Frame.{same_frame}
use Rattle.frame.specs.Pointers.{bit, unpack, pack, InRange, good_tag, reach, at, landed, moved}
use Rattle.frame.specs.declared.parts.Pointer.{Pointer}

-- tests that hold together are equal
pub iff_equal : {a b : Bool} → (a ≡ true → b ≡ true) → (b ≡ true → a ≡ true) → a ≡ b
iff_equal {a = true} {b} there back = sym (there refl)
iff_equal {a = false} {b = true} there back = back refl
iff_equal {a = false} {b = false} there back = refl

-- a conjunction, taken apart
pub and_left : (a b : Bool) → a && b ≡ true → a ≡ true
and_left true b e = refl
and_left false b e = e

pub and_right : (a b : Bool) → a && b ≡ true → b ≡ true
and_right true b e = e
and_right false b e = cc

-- Parts and packing are inverse both ways.

bit_small : (f : Bool) → bit f < 2
bit_small true = omega arith
bit_small false = omega arith

bit_flag : (f : Bool) (n : ℕ) → n ≡ bit f → eqb n 1 ≡ f
bit_flag true n e = eq-eqb n 1 e
bit_flag false n e = ne_eqb n 1 (λ g. omega arith)

flag_bit : (n : ℕ) → n < 2 → bit (eqb n 1) ≡ n
flag_bit zero h = refl
flag_bit (suc zero) h = refl
flag_bit (suc (suc n)) h = absurd (omega arith)

pub unpack_range : (word : ℕ) → InRange (unpack word)
unfolding unpack
unpack_range word = record { tag = mod-lt (word / 2 ^ 48) (pow_pos 15); address = mod-lt word (pow_pos 48) }

pub unpack-pack : (p : Pointer) → InRange p → unpack (pack p) ≡ p
unfolding unpack pack
unpack-pack p r =
    let b = bit_small p.flag in
    let t = r.tag in
    let a = r.address in
    let word : ℕ = bit p.flag * 2 ^ 63 + p.tag * 2 ^ 48 + p.address in
    let f : word / 2 ^ 63 ≡ bit p.flag = omega arith in
    let t' : word / 2 ^ 48 % 2 ^ 15 ≡ p.tag = omega arith in
    let a' : word % 2 ^ 48 ≡ p.address = omega arith in
    λ i. record { flag = bit_flag p.flag (word / 2 ^ 63) f i; tag = t' i; address = a' i }

pub pack-unpack : (word : ℕ) → word < 2 ^ 64 → pack (unpack word) ≡ word
unfolding unpack pack
pack-unpack word h = let b = flag_bit (word / 2 ^ 63) (omega arith) in omega arith

-- parts that fit their bits make a word of 64
pub pack_small : (p : Pointer) → InRange p → pack p < 2 ^ 64
unfolding pack
pack_small p r = omega (arith, bit_small p.flag, r.tag, r.address)

-- The address says nothing about the tag.

pub good_at : (s : ℕ) (p : Pointer) (a : ℕ) → good_tag s (at p a) ≡ good_tag s p
unfolding good_tag
good_at s p a = refl

pub reach-at : (s : ℕ) (p : Pointer) (a : ℕ) → reach s (at p a) ≡ reach s p
unfolding reach
reach-at s p a = refl

-- A good tag number, taken apart.

pub good_small : (s : ℕ) (p : Pointer) → p.flag ≡ true → good_tag s p ≡ true → p.tag < 2 ^ s
unfolding good_tag
good_small s p f g = ltb-true _ _ (rw f at g)

pub good_large : (s : ℕ) (p : Pointer) → p.flag ≡ false → good_tag s p ≡ true → (s < p.tag) × (p.tag ≤ 31)
unfolding good_tag
good_large s p f g =
    let e : ltb s p.tag && leb p.tag 31 ≡ true = rw f at g in
    (ltb-true _ _ (and_left _ (leb p.tag 31) e), leb-true _ _ (and_right (ltb s p.tag) _ e))

pub reach_small : (s : ℕ) (p : Pointer) → p.flag ≡ true → reach s p ≡ s
unfolding reach
reach_small s p f = rw f

pub reach-large : (s : ℕ) (p : Pointer) → p.flag ≡ false → reach s p ≡ p.tag
unfolding reach
reach-large s p f = rw f

-- what `reach` answers: the exponent of the slot or frame that the address may move in, where the tag number is good
unfoldable pub reach_of : ℕ → Pointer → Option ℕ
reach_of s p = cond (good_tag s p) (Some (reach s p)) None

pub reach_bad : (s : ℕ) (p : Pointer) → reach_of s p ≡ None → good_tag s p ≡ false
unfolding reach_of
reach_bad s p h = go (good_tag s p) refl h
  where
    go : (b : Bool) → good_tag s p ≡ b → cond b (Some (reach s p)) None ≡ None → good_tag s p ≡ false
    go true g e = cc
    go false g e = g

-- the slot or frame that a pointer may move in
pub record Reaches (s : ℕ) (p : Pointer) (n : ℕ) : Type 0 where
  pub good : good_tag s p ≡ true
  pub exponent : n ≡ reach s p
  pub small : s ≤ 31 → n ≤ 31

pub reach_bound : (s : ℕ) (p : Pointer) → good_tag s p ≡ true → s ≤ 31 → reach s p ≤ 31
unfolding reach
reach_bound s p g l = go p.flag refl
  where
    go : (b : Bool) → p.flag ≡ b → cond b s p.tag ≤ 31
    go true f = l
    go false f = (good_large s p f g).1

pub reach-within : (s : ℕ) (p : Pointer) (n : ℕ) → reach_of s p ≡ Some n → Reaches s p n
unfolding reach_of
reach-within s p n h = go (good_tag s p) refl h
  where
    go : (b : Bool) → good_tag s p ≡ b → cond b (Some (reach s p)) None ≡ Some n → Reaches s p n
    go true g e = let q : n ≡ reach s p = cc in record { good = g; exponent = q; small = λ l. rw q (reach_bound s p g l) }
    go false g e = cc

-- An accepted move of p by d in a frame of size 2^n: q keeps flag and tag number and stays in the frame.
pub record Move (p : Pointer) (n : ℕ) (d : ℤ) (q : Pointer) : Type 0 where
  pub flag : q.flag ≡ p.flag
  pub tag : q.tag ≡ p.tag
  pub target : pos q.address ≡ pos p.address +ℤ d
  pub address : q.address < 2 ^ 48
  pub frame : q.address / 2 ^ n ≡ p.address / 2 ^ n

landed_if : (p q : Pointer) (n a : ℕ) (d : ℤ) (b : Bool) → b ≡ ltb a (2 ^ 48) && same_frame n a p.address → pos a ≡ pos p.address +ℤ d
    → cond b (Some (at p a)) None ≡ Some q → Move p n d q
landed_if p q n a d true e z h =
    let f : at p a ≡ q = cc in
    let inside = sym e in
    subst (Move p n d) f
    (record {
      flag = refl;
      tag = refl;
      target = z;
      address = ltb-true a (2 ^ 48) (and_left _ (same_frame n a p.address) inside);
      frame = eqb-true _ _ (and_right (ltb a (2 ^ 48)) _ inside);
    })
landed_if p q n a d false e z h = cc

landed-to : (p q : Pointer) (n : ℕ) (d z : ℤ) → z ≡ pos p.address +ℤ d → landed p n z ≡ Some q → Move p n d q
unfolding landed
landed-to p q n d (pos a) e h = landed_if p q n a d (ltb a (2 ^ 48) && same_frame n a p.address) refl e h
landed-to p q n d (negsuc a) e h = cc

pub moved_to : (p q : Pointer) (n : ℕ) (d : ℤ) → moved p n d ≡ Some q → Move p n d q
unfolding moved
moved_to p q n d h = landed-to p q n d (pos p.address +ℤ d) refl h

pub moved_range : (p q : Pointer) (n : ℕ) (d : ℤ) → InRange p → moved p n d ≡ Some q → InRange q
moved_range p q n d r h = let m = moved_to p q n d h in record { tag = rw m.tag r.tag; address = m.address }

-- a moved pointer is the same one at another address
pub moved_at : (p q : Pointer) (n : ℕ) (d : ℤ) → moved p n d ≡ Some q → q ≡ at p q.address
moved_at p q n d e = let m = moved_to p q n d e in λ i. record { flag = m.flag i; tag = m.tag i; address = q.address }
