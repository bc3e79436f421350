-- Text copy: its rows, what is known where they are passed, and what it leaves. Assumes nothing.
use Rattle.std.specs.Prelude.{ℕ, ◌+◌, ◌-◌, ◌≤◌, ◌<◌, ◌≡◌, Bool, true, false, ◌&&◌, leb, length, take, drop, Err, None, Ok, Option, Some}
use Rattle.std.proofs.Common.{sym, ap, subst, arith, length-take}
use Rattle.std.proofs.Math.Path.{refl}
use Rattle.frame.specs.Pointers.{unpack}
use Rattle.frame.specs.declared.parts.Pointer.{Pointer}
use Rattle.block.specs.Bytes.{put}
use Rattle.block.specs.Layout.{size_at}
use Rattle.block.specs.Text.{text_of}
use Rattle.block.specs.laws.Text.{text_bound}
use Rattle.store.specs.State.{State, outcome, demand, refuse}
use Rattle.store.specs.Calls.{opening, located, in_body, accessed, text_answer, body_from, text_at, copy_text_checks, copy_text}
use Rattle.store.specs.laws.Refusals.{demand_met, and_then_met}
use Rattle.store.specs.laws.TagReading.{located_parts, located-inside}
use Rattle.store.specs.laws.Access.{Accessed, body_range, accessed_parts, through}
use Rattle.store.specs.declared.answer.Refusal.{Refusal}
use Rattle.store.specs.declared.answer.Refusal.TheVariants.{OutOfBounds, Unterminated}

-- The text at a pointer.

-- row 20, or its length
pub text_ended : (n : ℕ) → Ok n ≡ text_answer (Some n)
unfolding text_answer
text_ended n = refl

pub text_endless : Err Unterminated ≡ text_answer None
unfolding text_answer
text_endless = refl

-- an accepted one ends
text_answered : (t : Option ℕ) (n : ℕ) → text_answer t ≡ Ok n → t ≡ Some n
unfolding text_answer
text_answered (Some m) n e = let q : m ≡ n = cc in ap Some q
text_answered None n e = cc

-- rows 13 and 20, where rows 10 and 11 are passed
pub text_located : (s : ℕ) (p : Pointer) (x : State) (h : ℕ) → located s p x ≡ Ok h
    → text_at s p x
    ≡ demand (leb (h + 16) p.address && leb (p.address + 1) (h + 16 + size_at x.image h)) OutOfBounds
    (text_answer (text_of (body_from x.image h p)))
unfolding text_at in_body
text_located s p x h e = rw e

-- each way out

module _ (s : ℕ) (p : Pointer) (x : State) where
  module _ (h : ℕ) (l : located s p x ≡ Ok h) where
    pub text_outside : in_body x.image h p 1 ≡ false → Err OutOfBounds ≡ text_at s p x
    unfolding text_at
    text_outside b = rw (l, b)

    pub text_within : in_body x.image h p 1 ≡ true → text_answer (text_of (body_from x.image h p)) ≡ text_at s p x
    unfolding text_at
    text_within b = rw (l, b) refl

-- where rows 10, 11, 13 and 20 are passed, the text and its zero byte lie in the image
pub text_inside : (s : ℕ) (p : Pointer) (x : State) (n : ℕ) → text_at s p x ≡ Ok n → p.address + (n + 1) ≤ length x.image
unfolding text_at
text_inside s p x n e =
    let (h, l, m) = and_then_met (located s p x) _ n e in
    let b = demand_met (in_body x.image h p 1) OutOfBounds _ n m in
    let (low, first) = body_range x.image h p 1 b.0 in
    let ends : n < length (body_from x.image h p) = text_bound (body_from x.image h p) n (text_answered (text_of (body_from x.image h p)) n b.1) in
    let long : length (body_from x.image h p) ≤ h + 16 + size_at x.image h - p.address = simp length-take (omega arith) in
    omega (arith, located-inside s p x h (located_parts s p x h l))

-- The rows.

module _ (x : State) (s : ℕ) (e : opening x ≡ Ok s) where
  module _ (target source : ℕ) where
    -- the source's rows 10, 11, 13 and 20
    pub copy_text_unread : (r : Refusal) → text_at s (unpack source) x ≡ Err r → Err r ≡ copy_text_checks target source x
    unfolding copy_text_checks
    copy_text_unread r t = rw (e, t)

    module _ (n : ℕ) (t : text_at s (unpack source) x ≡ Ok n) where
      -- then the target's 10, 11 and 13, of m bytes
      pub copy_text-refused : (m : ℕ) → m ≡ n + 1 → (r : Refusal) → accessed s (unpack target) m x ≡ Err r → Err r ≡ copy_text_checks target source x
      unfolding copy_text_checks
      copy_text-refused m q r a = rw (e, t, ← q, a)

      -- all are passed
      pub copy_text_passed : (m : ℕ) → m ≡ n + 1 → (at : ℕ) → accessed s (unpack target) m x ≡ Ok at → Ok (n + 1) ≡ copy_text_checks target source x
      unfolding copy_text_checks
      copy_text_passed m q at a = rw (e, t, ← q, a)

-- the rows of text copy are passed: n bytes go from the source's address, in the image, to the target's, in a body
pub record CopiesText (target source : ℕ) (x : State) (n : ℕ) : Type 0 where
  pub exponent : ℕ
  pub from : (unpack source).address + n ≤ length x.image
  pub to : Accessed exponent (unpack target) n x (unpack target).address

-- an accepted text copy passes them
pub copy_text_parts : (target source : ℕ) (x : State) (n : ℕ) → copy_text_checks target source x ≡ Ok n → CopiesText target source x n
unfolding copy_text_checks
copy_text_parts target source x n e =
    let (s, o, m) = and_then_met (opening x) _ n e in
    let (k, u, v) = and_then_met (text_at s (unpack source) x) _ n m in
    let (b, t, w) = and_then_met (accessed s (unpack target) (k + 1) x) _ n v in
    let q : k + 1 ≡ n = cc in
    let d = accessed_parts s (unpack target) (k + 1) x b t in
    rw (← q)
    (record {
      exponent = s;
      from = text_inside s (unpack source) x k u;
      to = subst (λ (c : ℕ). Accessed s (unpack target) (k + 1) x c) d.address d;
    })

-- a refused text copy leaves all as it was
pub copy_text_declined : (target source : ℕ) (x : State) (r : Refusal) → copy_text_checks target source x ≡ Err r
    → outcome (Err r) x.image x.table ≡ copy_text target source x
unfolding copy_text
copy_text_declined target source x r e = rw e

-- an accepted one puts the text and its zero byte at the target
pub copy_text_done : (target source : ℕ) (x : State) (n : ℕ) → copy_text_checks target source x ≡ Ok n
    → outcome (Ok n) (put x.image (unpack target).address (take n (drop (unpack source).address x.image))) x.table ≡ copy_text target source x
unfolding copy_text
copy_text_done target source x n e = rw e

-- What it comes to, where rows 4 and 5 are passed.

module _ (s : ℕ) (x : State) (o : opening x ≡ Ok s) (t p : ℕ) where
  -- where the text is known, and the test of the target's bytes
  pub copy_text-through : (n : ℕ) (b : Bool) → text_at s (unpack p) x ≡ Ok n
      → accessed s (unpack t) (n + 1) x ≡ demand b OutOfBounds (Ok (unpack t).address)
      → copy_text t p x ≡ through x (n + 1) b (unpack t).address (take (n + 1) (drop (unpack p).address x.image))
  copy_text-through n true e f = sym (copy_text_done t p x (n + 1) (sym (copy_text_passed x s o t p n e (n + 1) refl _ f)))
  copy_text-through n false e f = sym (copy_text_declined t p x OutOfBounds (sym (copy_text-refused x s o t p n e (n + 1) refl OutOfBounds f)))

  -- where there is none
  pub copy_text_refuses : (r : Refusal) → text_at s (unpack p) x ≡ Err r → copy_text t p x ≡ refuse r x
  copy_text_refuses r e = sym (copy_text_declined t p x r (sym (copy_text_unread x s o t p r e)))
