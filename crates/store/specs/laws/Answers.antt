-- What the calls answer, by the answers of their first rows.
-- In order: a store that does not open; what a tag's reader asks for; by what it gave; the rows behind it. Assumes nothing.
use Rattle.std.specs.Prelude.{ℕ, ◌≡◌, ◌+◌, ◌≤◌, ◌<◌, ◌^◌, ℤ, Bool, true, false, List, eqb, length, refl, Err, Ok, Result}
use Rattle.std.proofs.Common.{sym, ap, ◌∙◌, subst, arith}
use Rattle.frame.specs.Pointers.{InRange, unpack}
use Rattle.frame.specs.laws.Pointers.{unpack_range}
use Rattle.frame.specs.declared.parts.Pointer.{Pointer}
use Rattle.block.specs.Bytes.{field}
use Rattle.block.specs.Layout.{extent_at, size_at}
use Rattle.block.specs.Walk.{walk_to}
use Rattle.store.specs.State.{State, Answer, Measurement, measured_as, demand, and_then}
use Rattle.store.specs.Calls.{opening, located, reading, found_at, read_tag, accessed, good_width, load_answer, move_answer, store_checks, fill_checks, copy_checks, text_at, copy_text_checks, distances_checks, distances_at, distances, free_total, merge_of, released, free_checks, released_at, total_fits, totalled, free_release}
use Rattle.store.specs.laws.Opening.{opening_parts}
use Rattle.store.specs.declared.answer.Refusal.{Refusal}
use Rattle.store.specs.declared.answer.Refusal.TheVariants.{Dangling, NotBase, WrongTotal}
use Rattle.store.specs.declared.locate.Reading.{Reading}

-- Row 4 or 5.

module _ (x : State) (r : Refusal) (e : opening x ≡ Err r) where
  pub load_shut : (word width : ℕ) → Err r ≡ load_answer word width x
  unfolding load_answer
  load_shut word width = rw e

  pub store_shut : (word width v : ℕ) → Err r ≡ store_checks word width v x
  unfolding store_checks
  store_shut word width v = rw e

  pub fill_shut : (word n : ℕ) → Err r ≡ fill_checks word n x
  unfolding fill_checks
  fill_shut word n = rw e

  pub copy_shut : (target source n : ℕ) → Err r ≡ copy_checks target source n x
  unfolding copy_checks
  copy_shut target source n = rw e

  pub copy_text_shut : (target source : ℕ) → Err r ≡ copy_text_checks target source x
  unfolding copy_text_checks
  copy_text_shut target source = rw e

  pub move_shut : (word : ℕ) (d : ℤ) → Err r ≡ move_answer word d x
  unfolding move_answer
  move_shut word d = rw e

  pub distances_shut : (word : ℕ) → Err r ≡ distances word x
  unfolding distances distances_checks distances_at
  distances_shut word = rw e

pub free_total_shut : (x : State) (r : Refusal) → opening x ≡ Err r → Err r ≡ free_total x
unfolding free_total
free_total_shut x r e = rw e

-- What reading a tag asks for of a pointer's parts, where rows 4 and 5 are passed.

module _ (x : State) (s word : ℕ) (p : Pointer) (o : opening x ≡ Ok s) (e : p ≡ unpack word) where
  pub in_range_lem : InRange p
  in_range_lem = subst InRange (sym e) (unpack_range word)

  -- small-framed
  pub asks_small : p.flag ≡ true → (s < 16) × InRange p × (p.flag ≡ true) × (64 ≤ length x.image) × (length x.image ≤ 2 ^ 30)
  asks_small f = let b = opening_parts x s o in (omega (arith, b.high), in_range_lem, f, b.long, b.short)

  -- large-framed
  pub asks_large : p.flag ≡ false → (opening x ≡ Ok s) × InRange p × (p.flag ≡ false)
  asks_large f = (o, in_range_lem, f)

-- Reading a tag, by the answer of its tests.

pub found_by : (s : ℕ) (p : Pointer) (x : State) (a : Answer) → a ≡ located s p x → found_at a x.image p ≡ read_tag s p x
unfolding read_tag
found_by s p x a e = rw e

pub found-refused : (r : Refusal) (image : List ℕ) (p : Pointer) → Err r ≡ found_at (Err r) image p
unfolding found_at
found-refused r image p = refl

-- the header's test decides on 11

pub found-verified : (b : Bool) (image : List ℕ) (h size : ℕ) (p : Pointer) → b ≡ true → size ≡ size_at image h
    → Ok (reading h size p) ≡ found_at (demand b Dangling (Ok h)) image p
unfolding found_at
found-verified b image h size p e n = rw (e, n) refl

pub found_dangling : (b : Bool) (image : List ℕ) (h : ℕ) (p : Pointer) → b ≡ false → Err Dangling ≡ found_at (demand b Dangling (Ok h)) image p
unfolding found_at
found_dangling b image h p e = rw e

-- What the calls answer, by what reading the tag gave.

pub text_unread : (s : ℕ) (p : Pointer) (x : State) (r : Refusal) → located s p x ≡ Err r → Err r ≡ text_at s p x
unfolding text_at
text_unread s p x r e = rw e

-- the distances
unfoldable pub measured_by : Result Reading Refusal → Measurement
measured_by (Ok o) = measured_as o.offset o.remaining
measured_by (Err r) = Err r

-- row 15
unfoldable pub based_by : Result Reading Refusal → Pointer → Answer
based_by (Ok o) p = demand (eqb p.address o.base) NotBase (Ok o.header)
based_by (Err r) p = Err r

module _ (x : State) (s word : ℕ) (e : opening x ≡ Ok s) where
  pub distances-read : measured_by (read_tag s (unpack word) x) ≡ distances word x
  unfolding distances distances_checks read_tag measured_by found_at distances_at
  distances-read = rw e (go (located s (unpack word) x))
    where
      go : (a : Answer) → measured_by (found_at a x.image (unpack word)) ≡ distances_at a x.image (unpack word)
      go (Ok h) = refl
      go (Err r) = refl

  pub distances-found : (o : Reading) → read_tag s (unpack word) x ≡ Ok o → distances word x ≡ measured_as o.offset o.remaining
  unfolding measured_by
  distances-found o q = sym distances-read ∙ ap measured_by q

  pub free_based : based_by (read_tag s (unpack word) x) (unpack word) ≡ free_checks word x
  unfolding free_checks read_tag based_by found_at
  free_based = rw e (go (located s (unpack word) x))
    where
      go : (a : Answer) → based_by (found_at a x.image (unpack word)) (unpack word)
          ≡ and_then a (λ h. demand (eqb (unpack word).address (h + 16)) NotBase (Ok h))
      go (Ok h) = refl
      go (Err r) = refl

  -- rows 10, 11 and 13 decide on a load
  pub load_open : (width : ℕ) → good_width width ≡ true
      → and_then (accessed s (unpack word) width x) (λ a. Ok (field x.image a width)) ≡ load_answer word width x
  unfolding load_answer
  load_open width w = rw (e, w) refl

-- Free, by the answers of its rows.

module _ (word : ℕ) (x : State) where
  pub free_unchecked : (r : Refusal) → free_checks word x ≡ Err r → Err r ≡ free_release word x
  unfolding free_release totalled released_at
  free_unchecked r e = rw e

  pub free_checked : (h : ℕ) → free_checks word x ≡ Ok h → totalled (released x.image h (walk_to x.image h)) x.image ≡ free_release word x
  unfolding free_release released_at
  free_checked h e = rw e

-- row 22
pub totalled_wrong : (image : List ℕ) (h from to : ℕ) → total_fits image (extent_at image h) ≡ false → totalled (merge_of h from to) image ≡ Err WrongTotal
unfolding totalled
totalled_wrong image h from to e = rw e refl
