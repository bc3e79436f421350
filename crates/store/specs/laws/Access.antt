-- Bytes through a pointer: rows 10, 11 and 13. Assumes nothing.
use Rattle.std.specs.Prelude.{ℕ, ◌+◌, ◌≤◌, ◌<◌, ◌≡◌, refl, Bool, true, false, ◌&&◌, cond, List, ◌↔◌, leb, pos, length, Err, Ok, Result}
use Rattle.std.proofs.lemmas.Grind.{common_steps}
use Rattle.std.specs.Int.Signed.{le_z}
use Rattle.std.proofs.Common.{sym, ap, ◌∙◌, inl, arith, le-leb}
use Rattle.frame.specs.declared.parts.Pointer.{Pointer}
use Rattle.block.specs.laws.Booleans.{by_bool, true_false}
use Rattle.block.specs.Layout.{size_at}
use Rattle.block.specs.Bytes.{put}
use Rattle.block.specs.laws.Headers.{header_at-put_other}
use Rattle.block.specs.declared.header.Header.{Header}
use Rattle.store.specs.State.{State, Answer, state, demand, and_then, Outcome, outcome, IsAccepted, refuse}
use Rattle.store.specs.Calls.{located, found_at, read_tag, in_body, accessed, good_width}
use Rattle.store.specs.laws.Distances.{in_body_lem}
use Rattle.store.specs.declared.locate.Reading.{Reading}
use Rattle.store.specs.laws.Refusals.{demand_met, and_then_met}
use Rattle.store.specs.laws.TagReading.{Located, located_parts, located-inside, located-at, located_kept}
use Rattle.store.specs.declared.answer.Refusal.{Refusal}
use Rattle.store.specs.declared.answer.Refusal.TheVariants.{OutOfBounds}

-- rows 10, 11 and 13 are passed: n bytes from a on lie in the body of an object
pub record Accessed (s : ℕ) (p : Pointer) (n : ℕ) (x : State) (a : ℕ) : Type 0 where
  pub header : ℕ
  pub object : Located s p x header
  pub address : a ≡ p.address
  pub low : header + 16 ≤ a
  pub high : a + n ≤ header + 16 + size_at x.image header
  pub inside : a + n ≤ length x.image

-- where the bytes of a body lie
pub body_range : (image : List ℕ) (h : ℕ) (p : Pointer) (n : ℕ) → in_body image h p n ≡ true → (h + 16 ≤ p.address) × (p.address + n ≤ h + 16 + size_at image h)
unfolding in_body
body_range image h p n b = (grind (arith, common_steps), grind (arith, common_steps))

-- and the other way
range_body : (image : List ℕ) (h : ℕ) (p : Pointer) (n : ℕ) → h + 16 ≤ p.address → p.address + n ≤ h + 16 + size_at image h → in_body image h p n ≡ true
unfolding in_body
range_body image h p n low high = rw (le-leb _ _ low, le-leb _ _ high)

-- no byte lies in a body of none
pub empty_body : (image : List ℕ) (h : ℕ) (p : Pointer) (n : ℕ) → size_at image h ≡ 0 → 0 < n → in_body image h p n ≡ false
empty_body image h p n z l =
    by_bool (in_body image h p n) (λ t. let (low, high) = body_range image h p n t in absurd (omega arith)) (λ t. t)

-- accepted bytes pass them
pub accessed_parts : (s : ℕ) (p : Pointer) (n : ℕ) (x : State) (a : ℕ) → accessed s p n x ≡ Ok a → Accessed s p n x a
unfolding accessed
accessed_parts s p n x a e =
    let (h, l, m) = and_then_met (located s p x) _ a e in
    let b = demand_met (in_body x.image h p n) OutOfBounds _ a m in
    let q : a ≡ p.address = cc in
    let o = located_parts s p x h l in
    let (low, high) = body_range x.image h p n b.0 in
    let inside = located-inside s p x h o in
    record { header = h; object = o; address = q; low = omega arith; high = omega arith; inside = omega arith }

-- row 13, where rows 10 and 11 are passed
pub accessed-at : (s : ℕ) (p : Pointer) (n : ℕ) (x : State) (h : ℕ) → located s p x ≡ Ok h
    → accessed s p n x
    ≡ demand (leb (h + 16) p.address && leb (p.address + n) (h + 16 + size_at x.image h)) OutOfBounds (Ok p.address)
unfolding accessed in_body
accessed-at s p n x h e = rw e

-- row 13

module _ (s : ℕ) (p : Pointer) (n : ℕ) (x : State) where
  pub not-located : (r : Refusal) → located s p x ≡ Err r → Err r ≡ accessed s p n x
  unfolding accessed
  not-located r e = rw e

  module _ (h : ℕ) (l : located s p x ≡ Ok h) where
    pub outside_body : in_body x.image h p n ≡ false → Err OutOfBounds ≡ accessed s p n x
    unfolding accessed
    outside_body b = rw (l, b)

    pub within_body : in_body x.image h p n ≡ true → Ok p.address ≡ accessed s p n x
    unfolding accessed
    within_body b = rw (l, b)

-- by what reading the tag gave
unfoldable pub reached_by : Result Reading Refusal → Pointer → ℕ → Answer
reached_by (Ok o) p n = demand (le_z (pos 0) o.offset && le_z (pos n) o.remaining) OutOfBounds (Ok p.address)
reached_by (Err r) p n = Err r

pub reached_by_lem : (s : ℕ) (p : Pointer) (n : ℕ) (x : State) → reached_by (read_tag s p x) p n ≡ accessed s p n x
unfolding reached_by read_tag found_at accessed
reached_by_lem s p n x = go (located s p x)
  where
    go : (a : Answer) → reached_by (found_at a x.image p) p n ≡ and_then a (λ h. demand (in_body x.image h p n) OutOfBounds (Ok p.address))
    go (Ok h) = ap (λ (b : Bool). demand b OutOfBounds (Ok p.address)) (sym (in_body_lem h p x.image n))
    go (Err r) = refl

-- the same bytes, once others are put there
pub accessed_again : (s : ℕ) (p : Pointer) (n : ℕ) (x : State) (a : ℕ) (bs : List ℕ) → Accessed s p n x a → length bs ≡ n
    → accessed s p n (state (put x.image a bs) x.table) ≡ Ok a
accessed_again s p n x a bs k e =
    let fits : a + length bs ≤ length x.image = omega (arith, e, k.inside) in
    let y : State = state (put x.image a bs) x.table in
    let size : size_at y.image k.header ≡ size_at x.image k.header =
    ap (λ (d : Header). d.size) (header_at-put_other x.image a bs k.header fits (inl k.low))
    in
    sym
    (within_body s p n y k.header (located-at s p y k.header (located_kept s p x k.header a bs k.object k.low fits))
    (range_body y.image k.header p n (omega (arith, k.low, k.address)) (omega (arith, k.high, k.address, size))))
    ∙ ap Ok (sym k.address)

-- bytes put at an address, where the test holds, with the value that the call gives
abbrev pub through : State → ℕ → Bool → ℕ → List ℕ → Outcome
through x v b a bytes = cond b (outcome (Ok v) (put x.image a bytes) x.table) (refuse OutOfBounds x)

-- is accepted exactly where it holds
pub through_iff : (x : State) (v : ℕ) (b : Bool) (a : ℕ) (bytes : List ℕ) → IsAccepted (through x v b a bytes) ↔ (b ≡ true)
through_iff x v true a bytes = ((λ e. refl), λ e. refl)
through_iff x v false a bytes = ((λ e. absurd (omega arith)), λ (e : false ≡ true). absurd (true_false e refl))

-- a good width is 1 to 8
pub width_range : (w : ℕ) → good_width w ≡ true → (1 ≤ w) × (w ≤ 8)
width_range w g = (grind (arith, common_steps), grind (arith, common_steps))
