-- Laws of lists of calls: one call more in front, one more behind, and what an admitted list leads to. Assumes nothing.
use Rattle.std.proofs.Common.{◌≡◌, refl, true, ◌&&◌, List, [], ◌∷◌, ◌++◌, ap, ◌∙◌}
use Rattle.std.proofs.Common.{arith}
use Rattle.std.proofs.Math.Bool.{and-true}
use Rattle.block.specs.laws.Booleans.{and_both}
use Rattle.store.specs.Step.{Call}
use Rattle.history.specs.History.{admitted, Configuration, next, after, all_admitted}

-- No call, and one more in front.

pub after_none : (x : Configuration) → after [] x ≡ x
unfolding after
after_none x = refl

pub after_first : (c : Call) (cs : List Call) (x : Configuration) → after (c ∷ cs) x ≡ after cs (next c x)
unfolding after
after_first c cs x = refl

pub admitted_none : (x : Configuration) → all_admitted [] x ≡ true
unfolding all_admitted
admitted_none x = refl

pub admitted-first : (c : Call) (cs : List Call) (x : Configuration) → admitted x.heap c ≡ true → all_admitted cs (next c x) ≡ true
    → all_admitted (c ∷ cs) x ≡ true
unfolding all_admitted
admitted-first c cs x p q = and_both _ _ p q

-- One more behind.

after_last : (cs : List Call) (c : Call) (x : Configuration) → after (cs ++ (c ∷ [])) x ≡ next c (after cs x)
unfolding after
after_last [] c x = refl
after_last (d ∷ ds) c x = after_last ds c (next d x)

admitted_last : (cs : List Call) (c : Call) (x : Configuration)
    → all_admitted (cs ++ (c ∷ [])) x ≡ all_admitted cs x && admitted (after cs x).heap c
unfolding after all_admitted
admitted_last [] c x = and-true (admitted x.heap c)
admitted_last (d ∷ ds) c x = grind (arith, admitted_last ds c (next d x))

-- An admitted list leads from one image, table and heap to another.
pub record Reached (from to : Configuration) : Type 0 where
  pub calls : List Call
  pub are_admitted : all_admitted calls from ≡ true
  pub leave : after calls from ≡ to

-- the empty one
pub reached_itself : (x : Configuration) → Reached x x
reached_itself x = record { calls = []; are_admitted = admitted_none x; leave = after_none x }

-- one call further
pub reached_next : {from to : Configuration} (c : Call) → Reached from to → admitted to.heap c ≡ true → Reached from (next c to)
reached_next {from = from} c r a =
    record {
      calls = r.calls ++ (c ∷ []);
      are_admitted =
          admitted_last r.calls c from
          ∙ and_both _ _ r.are_admitted (ap (λ (y : Configuration). admitted y.heap c) r.leave ∙ a);
      leave = after_last r.calls c from ∙ ap (next c) r.leave;
    }
