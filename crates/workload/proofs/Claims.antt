-- The claims. In order: what follows an accepted set-up, field by field; a refused one; shapes. Assumes nothing.
use Rattle.std.proofs.Common.{◌≡◌, ℕ, ◌<◌, ◌≤◌, Bool, true, false, cond, eqb, ◌⊎◌, List, [], length, refl, Err, Ok, None, sym, ap, ◌∙◌, subst, inl, inr, arith, eqb-true}
use Rattle.std.proofs.lemmas.Bool.{eqb-false}
use Rattle.block.specs.laws.Booleans.{by_bool}
use Rattle.store.specs.State.{State, IsAccepted, returned}
use Rattle.store.specs.Calls.{set_up}
use Rattle.store.specs.Claims.{KeepsShape}
use Rattle.store.specs.laws.Refusals.{refused_some}
use Rattle.store.specs.laws.SetUp.{set_up_lengths}
use Rattle.store.specs.laws.Shapes.{shape_itself, shape_lengths}
use Rattle.store.specs.State.{Answer}
use Rattle.store.proofs.Claims.{refusals_keep, shapes_kept}
use Rattle.history.specs.History.{begun, all_admitted}
use Rattle.call_log.specs.Records.{Records, records}
use Rattle.call_log.specs.Run.{answers, left_by, run_of}
use Rattle.call_log.specs.declared.record.Call.{Call}
use Rattle.call_log.proofs.Claims.{logs_read_back}
use Rattle.workload.specs.Traffic.{traffic_number, bytes_written, Progress, Ended, draws_from, started, LoggedOutcome, logged_by, after_set_up, traffic}
use Rattle.workload.specs.Claims.{calls_made, all_asked, Recorded, Counted, EqualFresh, RunsAgain, AllRepeatable, Untouched, RefusedSetUp, Shaped, StayShaped}
use Rattle.workload.proofs.Premise.{load-made, load_shaped}
use Rattle.workload.proofs.Runs.{draws_logged, draws_left, Enough, draws_enough, draws_stepped, draws_roomy}

-- what the number tells of a workload's end

abbrev number : Bool → ℕ
number full = cond full 23 0

number_is : (full : Bool) → (number full ≡ 0) ⊎ (number full ≡ 23)
number_is true = inr refl
number_is false = inl refl

done_enough : (full : Bool) (n calls : ℕ) → Enough full n calls → number full ≡ 0 → calls ≡ n
done_enough true n calls e z = absurd (omega arith)
done_enough false n calls e z = e

full_enough : (full : Bool) (n calls : ℕ) → Enough full n calls → number full ≡ 23 → calls < n
full_enough true n calls e z = e
full_enough false n calls e z = absurd (omega arith)

module _ (s g draws : ℕ) (x : State) (log : List ℕ) where
  -- where the draws begin and end
  abbrev begins : Progress
  begins = started g (set_up s x).after log

  abbrev ends : Ended
  ends = draws_from draws begins

  module _ (e : IsAccepted (set_up s x)) where
    -- what follows an accepted set-up
    followed : logged_by ends ≡ traffic s g draws x log
    unfolding traffic
    followed = sym (go (set_up s x).answer e)
      where
        go : (a : Answer) → returned a ≡ 0 → after_set_up (set_up s x) g draws log a ≡ logged_by ends
        go (Ok v) q = refl
        go (Err r) q = absurd (refused_some r q)

    recorded_is : Recorded (calls_made s g draws x log) log (logged_by ends)
    recorded_is =
        let k = draws_logged draws begins (omega arith) in
        record {
          written = k.written_is;
          later = k.later_is;
          read_back = ap records k.written_is ∙ logs_read_back.whole (calls_made s g draws x log) (load-made s x e g draws log).are_recordable;
        }

    counted_is : Counted g draws log (calls_made s g draws x log) (logged_by ends)
    counted_is =
        let k = draws_enough draws begins in
        record {
          number = number_is ends.full;
          done = done_enough ends.full draws _ k;
          full = full_enough ends.full draws _ k;
          roomy = λ l. ap number (draws_roomy draws begins (omega arith));
          state = draws_stepped draws begins;
        }

    runs_again : (y : State) → EqualFresh s x y → RunsAgain s x y (calls_made s g draws x log) (logged_by ends)
    runs_again y f =
        let cs : List Call = calls_made s g draws x log in
        let back = recorded_is.read_back in
        let (p, q) = shape_lengths s x (set_up s x).after (shapes_kept.set_up_lem s x) in
        let (p', q') = shape_lengths s y (set_up s y).after (shapes_kept.set_up_lem s y) in
        let left_is : left_by cs (set_up s y).after ≡ ends.at.store = ap (left_by cs) f ∙ draws_left draws begins in
        record {
          sets_up =
              set_up_lengths s x y (sym p' ∙ ap (λ (z : State). length z.image) f ∙ p) (sym q' ∙ ap (λ (z : State). length z.table) f ∙ q) e;
          admitted =
              ap (λ (r : Records). all_admitted (all_asked r.calls) (begun s y)) back
              ∙ ap (λ (z : State). all_admitted (all_asked cs) (record { state = z; heap = [] })) f
              ∙ (load-made s x e g draws log).are_admitted;
          same =
              ap (λ (r : Records). run_of r (set_up s y).after) back
              ∙ (λ i. record { answered = answers cs (f i); fault = None; after = left_is i });
        }

-- every workload is repeatable
pub all_repeatable : AllRepeatable
unfolding AllRepeatable
all_repeatable s g draws x log e =
    let t = followed s g draws x log e in
    let m = load-made s x e g draws log in
    record {
      recorded = subst (Recorded (calls_made s g draws x log) log) t (recorded_is s g draws x log e);
      counted = subst (Counted g draws log (calls_made s g draws x log)) t (counted_is s g draws x log e);
      again = λ y f. subst (RunsAgain s x y (calls_made s g draws x log)) t (runs_again s g draws x log e y f);
      well = m.well;
      held = record { live = m.live; few = m.few };
    }

-- a refused set-up ends it
refused-after : (s g draws : ℕ) (x : State) (log : List ℕ) → (IsAccepted (set_up s x) → ⊥) → (a : Answer) → (set_up s x).answer ≡ a
    → (traffic_number (after_set_up (set_up s x) g draws log a).answer ≡ returned a) × Untouched x log (after_set_up (set_up s x) g draws log a)
refused-after s g draws x log n (Ok v) q = absurd (n (ap returned q))
refused-after s g draws x log n (Err r) q =
    (refl, record { store_kept = (refusals_keep.set_up_lem s x n).0; log_kept = refl; no_state = refl; none_written = refl })

pub refused-set_up : RefusedSetUp
unfolding RefusedSetUp traffic
refused-set_up s g draws x log n = refused-after s g draws x log n (set_up s x).answer refl

-- shapes: of an accepted workload
accepted_shaped : (s g draws : ℕ) (x : State) (log : List ℕ) → IsAccepted (set_up s x) → Shaped s x log (traffic s g draws x log)
accepted_shaped s g draws x log e =
    let k = draws_logged draws (started g (set_up s x).after log) (omega arith) in
    subst (Shaped s x log) (followed s g draws x log e)
    (record {
      store = load_shaped s x e g draws log;
      log_length = k.same_length;
      inside = k.inside;
    })

-- of one that is untouched
untouched_shaped : (s : ℕ) (x : State) (log : List ℕ) (t : LoggedOutcome) → Untouched x log t → Shaped s x log t
untouched_shaped s x log t u =
    record {
      store = subst (KeepsShape s x) (sym u.store_kept) (shape_itself s x);
      log_length = ap length u.log_kept;
      inside = subst (λ (m : ℕ). m ≤ length log) (sym u.none_written) (omega arith);
    }

pub stay_shaped : StayShaped
unfolding StayShaped RefusedSetUp
stay_shaped s g draws x log =
    let r : ℕ = returned (set_up s x).answer in
    by_bool (eqb r 0)
    (λ t. accepted_shaped s g draws x log (eqb-true r 0 t))
    (λ t. untouched_shaped s x log (traffic s g draws x log) (refused-set_up s g draws x log (eqb-false r 0 t)).1)

-- the bytes written lie in the log
pub load_inside : (s g draws : ℕ) (x : State) (log : List ℕ)
    → (bytes_written (traffic s g draws x log).answer ≤ length log) × (length (traffic s g draws x log).log ≡ length log)
unfolding StayShaped
load_inside s g draws x log = let k = stay_shaped s g draws x log in (k.inside, k.log_length)
