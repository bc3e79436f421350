-- The draws, one by one.
-- In order: the three ways on; the same by the choice of a draw; what follows set-up. Assumes nothing.
use Rattle.std.proofs.Common.{◌≡◌, ℕ, suc, ◌+◌, ◌<◌, ◌≤◌, true, false, List, length, refl, sym, ap, ◌∙◌, le-leb}
use Rattle.std.proofs.lemmas.Bool.{lt-leb}
use Rattle.block.specs.Bytes.{put}
use Rattle.store.specs.State.{State}
use Rattle.call_log.specs.Run.{made}
use Rattle.call_log.specs.Written.{record_of}
use Rattle.workload.specs.Generator.{advanced}
use Rattle.workload.specs.Choice.{call_of, pointers_after}
use Rattle.workload.specs.Traffic.{Progress, next_choice, has_space, recorded, draws_from}
use Rattle.workload.specs.declared.choosing.Choice.{Choice}

-- no draw is left
pub draws_none : (r : Progress) → draws_from 0 r ≡ record { full = false; at = r }
unfolding draws_from
draws_none r = refl

module _ (n : ℕ) (r : Progress) where
  -- the log has space for the next record
  pub draws_next : has_space r ≡ true → draws_from (suc n) r ≡ draws_from n (recorded r)
  unfolding draws_from
  draws_next e = rw (e, draws_from) refl

  -- it has not
  pub draws_full : has_space r ≡ false → draws_from (suc n) r ≡ record { full = true; at = r }
  unfolding draws_from
  draws_full e = rw (e, draws_from) refl

-- a workload by its parts
abbrev pub progress : ℕ → List ℕ → State → List ℕ → ℕ → Progress
progress g ps x log written = record { generator = g; pointers = ps; store = x; log = log; written = written }

-- The choice c is that of the next draw.
module _ (n : ℕ) (r : Progress) (c : Choice) (e : c ≡ next_choice r) where
  -- there is no space for its record
  pub no_space : length r.log < r.written + length (record_of (call_of c)) → draws_from (suc n) r ≡ record { full = true; at = r }
  no_space l = draws_full n r (lt-leb _ _ (rw e at l))

  -- there is: its call is made and recorded, the pointers are renewed, and the draws go on from there
  pub one_made : (s : Progress) → r.written + length (record_of (call_of c)) ≤ length r.log → s.generator ≡ advanced r.generator
      → s.pointers ≡ pointers_after c (made (call_of c) r.store).answer r.pointers → s.store ≡ (made (call_of c) r.store).after
      → s.log ≡ put r.log r.written (record_of (call_of c)) → s.written ≡ r.written + length (record_of (call_of c)) → draws_from n s ≡ draws_from (suc n) r
  unfolding recorded
  one_made s l g p x b w =
      let same : s ≡ recorded r = λ i. record { generator = g i; pointers = (rw e at p) i; store = (rw e at x) i; log = (rw e at b) i; written = (rw e at w) i } in
      ap (draws_from n) same ∙ sym (draws_next n r (le-leb _ _ (rw e at l)))
