-- What the draws of a workload leave.
-- In order: their calls, one by one; the log; image and table; how many calls there are, and when none is left out. Not here: the abstract heap. Assumes nothing.
use Rattle.std.proofs.Common.{◌≡◌, ℕ, zero, suc, ◌+◌, ◌*◌, ◌<◌, ◌≤◌, Bool, true, false, List, [], ◌∷◌, ◌++◌, length, take, drop, refl, sym, ap, ◌∙◌, append_assoc, append-nil, arith, le-leb, leb-true}
use Rattle.block.specs.Bytes.{put}
use Rattle.block.specs.laws.Booleans.{by_bool}
use Rattle.block.specs.laws.Writes.{length-put, take-put-end, drop-put_above}
use Rattle.call_log.specs.Run.{left_by}
use Rattle.call_log.specs.Written.{record_of, log_of}
use Rattle.call_log.specs.laws.Run.{left_none, left-first}
use Rattle.call_log.specs.laws.Written.{log_none, log_first}
use Rattle.call_log.specs.declared.record.Call.{Call}
use Rattle.workload.specs.Traffic.{Progress, next_choice, next_call, has_space, recorded, draws_from, calls_from}
use Rattle.workload.specs.Claims.{stepped}
use Rattle.workload.proofs.Draws.{draws_none, draws_next, draws_full}
use Rattle.workload.proofs.Writers.{length_most}

-- no draw, no call
pub calls_none : (r : Progress) → calls_from 0 r ≡ []
unfolding calls_from
calls_none r = refl

module _ (n : ℕ) (r : Progress) where
  -- the log has space for the next record
  pub calls-next : has_space r ≡ true → calls_from (suc n) r ≡ next_call r ∷ calls_from n (recorded r)
  unfolding calls_from
  calls-next e = rw (e, calls_from) refl

  -- it has not
  pub calls_full : has_space r ≡ false → calls_from (suc n) r ≡ []
  unfolding calls_from
  calls_full e = rw (e, calls_from) refl

-- The log.

-- What draws make of a log: behind what was written stand the records of the calls, and the rest stays.
pub record Logged (r : Progress) (cs : List Call) (e : Progress) : Type 0 where
  pub grown : r.written ≤ e.written
  pub inside : e.written ≤ length r.log
  pub same_length : length e.log ≡ length r.log
  pub written_is : take e.written e.log ≡ take r.written r.log ++ log_of cs
  pub later_is : drop e.written e.log ≡ drop e.written r.log

-- no call
logged_none : (r : Progress) → r.written ≤ length r.log → Logged r [] r
logged_none r l =
    record {
      grown = omega arith;
      inside = l;
      same_length = refl;
      written_is = sym (ap (λ (l : List ℕ). take r.written r.log ++ l) log_none ∙ append-nil (take r.written r.log));
      later_is = refl;
    }

-- one more in front
logged-next : (r : Progress) (cs : List Call) (e : Progress) → has_space r ≡ true → Logged (recorded r) cs e → Logged r (next_call r ∷ cs) e
unfolding recorded
logged-next r cs e t k =
    let bs : List ℕ = record_of (next_call r) in
    let l : r.written + length bs ≤ length r.log = leb-true _ _ t in
    record {
      grown = omega (arith, k.grown);
      inside = omega (arith, k.inside, length-put r.log r.written bs l);
      same_length = k.same_length ∙ length-put r.log r.written bs l;
      written_is =
          k.written_is ∙ ap (λ (x : List ℕ). x ++ log_of cs) (take-put-end r.log r.written bs l)
          ∙ append_assoc (take r.written r.log) bs (log_of cs)
          ∙ ap (λ (x : List ℕ). take r.written r.log ++ x) (sym (log_first (next_call r) cs));
      later_is = k.later_is ∙ drop-put_above r.log r.written bs l e.written k.grown;
    }

-- a record that there is space for ends in the log
recorded-inside : (r : Progress) → has_space r ≡ true → (recorded r).written ≤ length (recorded r).log
unfolding recorded
recorded-inside r t =
    let bs : List ℕ = record_of (next_call r) in
    let l : r.written + length bs ≤ length r.log = leb-true _ _ t in
    omega (arith, length-put r.log r.written bs l)

-- the draws write the records of their calls
pub draws_logged : (n : ℕ) (r : Progress) → r.written ≤ length r.log → Logged r (calls_from n r) (draws_from n r).at
draws_logged zero r l = rw (calls_none r, draws_none r) (logged_none r l)
draws_logged (suc n) r l =
    by_bool (has_space r)
    (λ t. rw (calls-next n r t, draws_next n r t)
    (logged-next r (calls_from n (recorded r)) (draws_from n (recorded r)).at t (draws_logged n (recorded r) (recorded-inside r t))))
    (λ f. rw (calls_full n r f, draws_full n r f) (logged_none r l))

-- Image and table.

-- the calls, made one after the other, leave those that the draws leave
pub draws_left : (n : ℕ) (r : Progress) → left_by (calls_from n r) r.store ≡ (draws_from n r).at.store
unfolding recorded
draws_left zero r = rw (calls_none r, draws_none r) (left_none r.store)
draws_left (suc n) r =
    by_bool (has_space r)
    (λ t. rw (calls-next n r t, draws_next n r t) (left-first (next_call r) (calls_from n (recorded r)) r.store ∙ draws_left n (recorded r)))
    (λ f. rw (calls_full n r f, draws_full n r f) (left_none r.store))

-- How many calls there are.

-- a call for each draw, or fewer where the log was full
abbrev pub Enough : Bool → ℕ → ℕ → Type 0
Enough true n calls = calls < n
Enough false n calls = calls ≡ n

enough_next : (full : Bool) (n calls : ℕ) → Enough full n calls → Enough full (suc n) (suc calls)
enough_next true n calls l = omega arith
enough_next false n calls e = ap suc e

pub draws_enough : (n : ℕ) (r : Progress) → Enough (draws_from n r).full n (length (calls_from n r))
draws_enough zero r = rw (calls_none r, draws_none r) refl
draws_enough (suc n) r =
    by_bool (has_space r)
    (λ t. rw (calls-next n r t, draws_next n r t)
    (enough_next (draws_from n (recorded r)).full n (length (calls_from n (recorded r))) (draws_enough n (recorded r))))
    (λ f. rw (calls_full n r f, draws_full n r f) (omega arith))

-- each call is a step of the generator
pub draws_stepped : (n : ℕ) (r : Progress) → (draws_from n r).at.generator ≡ stepped (length (calls_from n r)) r.generator
unfolding recorded stepped
draws_stepped zero r = rw (calls_none r, draws_none r) refl
draws_stepped (suc n) r =
    by_bool (has_space r)
    (λ t. rw (calls-next n r t, draws_next n r t) (draws_stepped n (recorded r)))
    (λ f. rw (calls_full n r f, draws_full n r f) refl)

-- a log with space for so many of the longest records is not full
pub draws_roomy : (n : ℕ) (r : Progress) → r.written + 22 * n ≤ length r.log → (draws_from n r).full ≡ false
unfolding recorded
draws_roomy zero r l = rw (draws_none r) refl
draws_roomy (suc n) r l =
    let bs : List ℕ = record_of (next_call r) in
    let most : length bs ≤ 22 = length_most (next_choice r) in
    let fits : r.written + length bs ≤ length r.log = omega arith in
    let long : length (put r.log r.written bs) ≡ length r.log = length-put r.log r.written bs fits in
    rw (draws_next n r (le-leb _ _ fits)) (draws_roomy n (recorded r) (omega arith))
