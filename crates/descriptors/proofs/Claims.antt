-- The claims on lists of descriptors and on layouts. Assumes nothing.
use Rattle.std.proofs.Common.{ℕ, subst}
use Rattle.block.specs.laws.Booleans.{refuted}
use Rattle.descriptors.specs.Descriptors.{good_list}
use Rattle.descriptors.specs.Claims.{RefusesBad, Has, AnswersHas, EndsBeforeSize}
use Rattle.descriptors.specs.laws.Lists.{describes_stands}
use Rattle.descriptors.specs.laws.Bad.{some_bad, none_bad, unless_bad}
use Rattle.descriptors.specs.laws.Layouts.{computed_has, has_computed, had_inside}

pub refuses_bad : RefusesBad
refuses_bad =
    record {
      refused = λ list. (some_bad list, λ b. refuted (good_list list) (λ g. none_bad list g b));
      passed = λ list. (none_bad list, unless_bad list);
    }

-- Layouts.

pub answers_has : AnswersHas
unfolding AnswersHas
answers_has list g type p wanted o d = (
  (λ h. subst (λ (x : ℕ). Has list x wanted o) d.type_is (computed_has list wanted p o (describes_stands list g type p d) h)),
  λ h. has_computed list g type wanted o h p d,
)

pub ends-before-size : EndsBeforeSize
unfolding EndsBeforeSize
ends-before-size list g type p wanted o d h =
    had_inside list wanted p o (describes_stands list g type p d) (has_computed list g type wanted o h p d)
