-- Heaps of plain objects, each with one pointer, allocate's answer, and one byte or more: what lists without moves and empty objects leave.
-- In order: allocate's answers; one object more, written, less; a pointer's owner; what allocate and store do (free: `proofs/PlainFrees`). Not here: the
-- image. Assumes nothing.
use Rattle.std.proofs.Common.{ℕ, zero, suc, ◌+◌, ◌-◌, ◌^◌, ◌<◌, ◌≡◌, refl, Bool, true, false, cond, ◌&&◌, List, [], ◌∷◌, ◌++◌, length, take, drop, get_or, eqb, Err, Ok, Option, None, Some, ltb, sym, ap, ◌∙◌, subst, suc-add, arith, eq-eqb, ne_eqb, eqb-true, le-leb}
use Rattle.std.proofs.Math.Bool.{or-false}
use mathlib.Core.List.Memᴰ
use Rattle.frame.specs.Pointers.{unpack}
use Rattle.block.specs.Bytes.{encode}
use Rattle.block.specs.laws.Booleans.{by_bool, and_both}
use Rattle.store.specs.State.{returned}
use Rattle.store.specs.Calls.{good_width}
use Rattle.store.specs.Step.{allocates, stores}
use Rattle.store.specs.laws.Refusals.{refused_some}
use Rattle.store.specs.State.{Answer}
use Rattle.store.specs.declared.answer.Refusal.{Refusal}
use Rattle.history.specs.Heap.{Object, Heap, start, member, holds, owner_of, inside, written, new_object, change, without, write, hear}
use Rattle.history.specs.History.{In, Pairwise, header_of, known}
use Rattle.history.specs.Release.{answers}

-- a plain object
pub record Plain (o : Object) : Type 0 where
  pub alone : o.pointers ≡ o.answer ∷ []
  pub small : o.answer < 2 ^ 64
  pub some_byte : 0 < o.size

-- all objects are plain
abbrev pub AllPlain : Heap → Type 0
AllPlain [] = Unit {0}
AllPlain (o ∷ os) = Plain o × AllPlain os

-- Allocate's answers.

answers_none : answers [] ≡ []
unfolding answers
answers_none = refl

-- there is one for each object
pub length-answers : (heap : Heap) → length (answers heap) ≡ length heap
unfolding answers
length-answers [] = refl
length-answers (o ∷ os) = ap suc (length-answers os)

-- in its place
answer_at : (heap : Heap) (i : ℕ) (d : Object) → i < length heap → get_or (answers heap) i 0 ≡ (get_or heap i d).answer
unfolding answers
answer_at [] i d l = absurd (omega arith)
answer_at (o ∷ os) zero d l = refl
answer_at (o ∷ os) (suc i) d l = answer_at os i d (omega arith)

-- One object more.

answers-append : (heap : Heap) (o : Object) → answers (heap ++ (o ∷ [])) ≡ answers heap ++ (o.answer ∷ [])
unfolding answers
answers-append [] o = refl
answers-append (x ∷ xs) o = ap (λ (r : List ℕ). x.answer ∷ r) (answers-append xs o)

plain-append : (heap : Heap) (o : Object) → AllPlain heap → Plain o → AllPlain (heap ++ (o ∷ []))
plain-append [] o a p = (p, tt)
plain-append (x ∷ xs) o a p = (a.0, plain-append xs o a.1 p)

-- One object written.

-- the same answers, and plain objects stay plain
record Alike (heap heap' : Heap) : Type 0 where
  same : answers heap' ≡ answers heap
  plain : AllPlain heap → AllPlain heap'

alike_itself : (heap : Heap) → Alike heap heap
alike_itself heap = record { same = refl; plain = λ a. a }

alike_cond : {heap a b : Heap} (t : Bool) → Alike heap a → Alike heap b → Alike heap (cond t a b)
alike_cond true p q = p
alike_cond false p q = q

alike_behind : (x y : Object) (xs ys : Heap) → y.answer ≡ x.answer → (Plain x → Plain y) → Alike xs ys → Alike (x ∷ xs) (y ∷ ys)
unfolding answers
alike_behind x y xs ys e f a =
    record {
      same = ap (λ (r : ℕ). r ∷ answers ys) e ∙ ap (λ (r : List ℕ). x.answer ∷ r) a.same;
      plain = λ p. (f p.0, a.plain p.1);
    }

plain-written : (p : ℕ) (bytes : List ℕ) (o : Object) → Plain o → Plain (written p bytes o)
plain-written p bytes o a = record { alone = a.alone; small = a.small; some_byte = a.some_byte }

change_alike : (p : ℕ) (bytes : List ℕ) (heap : Heap) (q : ℕ) → Alike heap (change (written p bytes) heap q)
unfolding change
change_alike p bytes [] q = alike_itself []
change_alike p bytes (x ∷ xs) q =
    alike_cond (holds x q)
    (alike_behind x (written p bytes x) xs xs refl (plain-written p bytes x) (alike_itself xs))
    (alike_behind x x xs (change (written p bytes) xs q) refl (λ a. a) (change_alike p bytes xs q))

-- whoever owns the pointer, and whether the bytes lie inside
write_alike : (owner : Option Object) (p n : ℕ) (bytes : List ℕ) (heap : Heap) → Alike heap (write owner p n bytes heap)
unfolding write
write_alike None p n bytes heap = alike_itself heap
write_alike (Some o) p n bytes heap = alike_cond (inside o p n) (change_alike p bytes heap p) (alike_itself heap)

-- One object less.

-- one answer, one header place
pub answer_place : (o o' : Object) → o.answer ≡ o'.answer → header_of o ≡ header_of o'
answer_place o o' e = ap (λ (a : ℕ). (unpack a).address - 16) e

-- no two objects have the same answer, since they have different header places
pub answers_apart : (heap : Heap) → Pairwise heap (λ o o'. header_of o ≡ header_of o' → ⊥) → Pairwise heap (λ o o'. o.answer ≡ o'.answer → ⊥)
answers_apart heap a i j d l u e = a i j d l u (answer_place (get_or heap i d) (get_or heap j d) e)

-- taking an object out by its answer takes its place out, and no other
pub answers-without : (heap : Heap) (i : ℕ) → i < length heap → Pairwise heap (λ o o'. o.answer ≡ o'.answer → ⊥)
    → answers (without heap (get_or (answers heap) i 0)) ≡ take i (answers heap) ++ drop (i + 1) (answers heap)
unfolding without answers
answers-without [] i l a = absurd (omega arith)
answers-without (x ∷ xs) zero l a = rw (eq-eqb x.answer x.answer refl) refl
answers-without (x ∷ xs) (suc i) l a =
    let other : x.answer ≡ get_or (answers xs) i 0 → ⊥ = λ e. a 0 (suc i) x (omega arith) l (e ∙ answer_at xs i x (omega arith)) in
    let rest = answers-without xs i (omega arith) (λ j k d m u. a (suc j) (suc k) d (omega arith) (omega arith)) in
    rw (ne_eqb x.answer (get_or (answers xs) i 0) other, suc-add i 1) (ap (λ (r : List ℕ). x.answer ∷ r) rest)

pub plain-without : (heap : Heap) (p : ℕ) → AllPlain heap → AllPlain (without heap p)
unfolding without
plain-without [] p a = tt
plain-without (x ∷ xs) p a =
    by_bool (eqb x.answer p)
    (λ t. rw t a.1)
    (λ t. rw t (a.0, plain-without xs p a.1))

-- A pointer's owner.

-- the object whose answer the pointer is
pub record Owner (heap : Heap) (p : ℕ) : Type 0 where
  pub object : Object
  pub owns : owner_of heap p ≡ Some object
  pub is_known : known heap p ≡ true
  pub lives : In object heap
  pub plain : Plain object
  pub answered : object.answer ≡ p

-- a plain object holds its answer, and nothing else
holds_plain : (o : Object) (p : ℕ) → Plain o → holds o p ≡ eqb p o.answer
unfolding member
holds_plain o p a = ap (member p) a.alone ∙ or-false (eqb p o.answer)

owner_first : (x : Object) (xs : Heap) (p : ℕ) → Plain x → x.answer ≡ p → Owner (x ∷ xs) p
unfolding owner_of known
owner_first x xs p a e =
    let t : holds x p ≡ true = holds_plain x p a ∙ eq-eqb p x.answer (sym e) in
    record { object = x; owns = rw t; is_known = rw t; lives = Memᴰ.head refl; plain = a; answered = e }

owner_behind : (x : Object) (xs : Heap) (p : ℕ) → Plain x → Owner xs p → Owner (x ∷ xs) p
unfolding owner_of known
owner_behind x xs p a w =
    by_bool (holds x p)
    (λ t. owner_first x xs p a (sym (eqb-true p x.answer (sym (holds_plain x p a) ∙ t))))
    (λ t. record {
      object = w.object;
      owns = rw t w.owns;
      is_known = rw t w.is_known;
      lives = Memᴰ.tail w.lives;
      plain = w.plain;
      answered = w.answered;
    })

-- each answer has one
pub owner_at : (heap : Heap) (i : ℕ) → AllPlain heap → i < length heap → Owner heap (get_or (answers heap) i 0)
unfolding answers
owner_at [] i a l = absurd (omega arith)
owner_at (x ∷ xs) zero a l = owner_first x xs x.answer a.0 refl
owner_at (x ∷ xs) (suc i) a l = owner_behind x xs (get_or (answers xs) i 0) a.0 (owner_at xs i a.1 (omega arith))

module _ {heap : Heap} {p : ℕ} (o : Owner heap p) where
  -- it is a word of 64 bits
  pub owner_small : p < 2 ^ 64
  owner_small = subst (λ (q : ℕ). q < 2 ^ 64) o.answered o.plain.small

  -- and its object's first byte lies inside
  pub owner_inside : inside o.object p 1 ≡ true
  unfolding inside
  owner_inside =
      rw (← o.answered)
      (and_both _ _ (le-leb (start o.object) (start o.object) (omega arith))
      (le-leb (start o.object + 1) (start o.object + o.object.size) (omega (arith, o.plain.some_byte))))

-- What allocate and store do.

-- The objects are plain, and these are their answers.
pub record Held (heap : Heap) (ps : List ℕ) : Type 0 where
  pub same : answers heap ≡ ps
  pub plain : AllPlain heap

-- none
pub held_none : Held [] []
held_none = record { same = answers_none; plain = tt }

module _ (heap : Heap) (plain : AllPlain heap) where
  -- one more, with its answer
  pub allocate_held : (size type p : ℕ) → 0 < size → p < 2 ^ 64 → Held (hear heap (allocates size type) (Ok p)) (answers heap ++ (p ∷ []))
  unfolding hear
  allocate_held size type p n l =
      record {
        same = answers-append heap (new_object p size 0);
        plain = plain-append heap (new_object p size 0) plain (record { alone = refl; small = l; some_byte = n });
      }

  -- a declined one adds none
  pub declined_held : (size type : ℕ) (r : Refusal) → Held (hear heap (allocates size type) (Err r)) (answers heap)
  unfolding hear
  declined_held size type r = rw (ne_eqb (returned (Err r)) 0 (refused_some r)) (record { same = refl; plain = plain })

  -- a store changes bytes alone
  pub store_held : (p width v : ℕ) (a : Answer) → Held (hear heap (stores p width v) a) (answers heap)
  unfolding hear
  store_held p width v a =
      let e : Alike heap (hear heap (stores p width v) a) =
      alike_cond (good_width width && ltb v (256 ^ width)) (write_alike (owner_of heap p) p width (encode width v) heap) (alike_itself heap)
      in
      record { same = e.same; plain = e.plain plain }
