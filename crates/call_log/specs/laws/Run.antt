-- Laws of calls made in order. Assumes nothing.
use Rattle.std.specs.Prelude.{◌≡◌, refl, List, [], ◌∷◌}
use Rattle.store.specs.State.{State}
use Rattle.call_log.specs.Run.{made, answered_by, answers, left_by}
use Rattle.call_log.specs.declared.record.Call.{Call}

-- none leaves all as it was
pub left_none : (x : State) → left_by [] x ≡ x
unfolding left_by
left_none x = refl

-- one more in front
pub left-first : (c : Call) (cs : List Call) (x : State) → left_by (c ∷ cs) x ≡ left_by cs (made c x).after
unfolding left_by
left-first c cs x = refl

-- and so for the answers
pub answers_none : (x : State) → answers [] x ≡ []
unfolding answers
answers_none x = refl

pub answers-first : (c : Call) (cs : List Call) (x : State) → answers (c ∷ cs) x ≡ answered_by c x ∷ answers cs (made c x).after
unfolding answers
answers-first c cs x = refl
