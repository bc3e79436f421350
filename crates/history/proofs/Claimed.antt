-- The claim on two orders of frees or releases, used on the worked example (`specs/Examples`). Assumes nothing.
use Rattle.std.proofs.Common.{◌≡◌, arith}
use Rattle.store.specs.State.{State}
use Rattle.store.specs.Calls.{free, release_cue}
use Rattle.history.specs.Heap.{new_object}
use Rattle.history.specs.Commuting.{EitherOrder}
use Rattle.history.specs.Examples.{lent, neighbours, left, neighbour, neighbours_commute}

-- What the claim says of them, without computing it: image and table are the same whichever of the outer two is freed first, and whichever of cue 0 and cue
-- 2^32 - 1, or of cue 9 and cue 0, is released first.
pub claimed : EitherOrder → let x : State = left.state in
    ((free (neighbour 2).answer (free (neighbour 0).answer x).after).after ≡ (free (neighbour 0).answer (free (neighbour 2).answer x).after).after)
    × ((release_cue 0xFFFFFFFF (release_cue 0 x).after).after ≡ (release_cue 0 (release_cue 0xFFFFFFFF x).after).after)
    × ((release_cue 0 (release_cue 9 x).after).after ≡ (release_cue 9 (release_cue 0 x).after).after)
unfolding EitherOrder
claimed claim =
    let agree = claim 6 lent neighbours_commute.0 neighbours neighbours_commute.1 in (
      (agree.frees 0 2 (new_object 0 0 0) (omega arith) (omega (arith, neighbours_commute.2))).same,
      (agree.releases 0 0xFFFFFFFF (omega arith) (omega arith) (λ e. omega (arith, e))).same,
      (agree.releases 9 0 (omega arith) (omega arith) (λ e. omega (arith, e))).same,
    )
