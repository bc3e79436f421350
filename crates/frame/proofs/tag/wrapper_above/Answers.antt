-- `frame::tag::wrapper_above`: the ends differ above the slot, so that halving them s times at once is `number_above`. Assumes nothing.
use mathlib.Core.Path.{◌≡◌, sym, ap, ap₂, ◌∙◌}
use Prim.Native.Nat.{ℕ, ◌+◌, ◌/◌, ◌^◌, ◌≤◌}
use native.Mathlib.Omega.{arith}
use Rattle.frame.specs.Frame.{frame_number}
use Rattle.frame.specs.Tags.{first_held, last_held, wrapper}
use Rattle.frame.specs.laws.Frames.{number_above}
use Rattle.frame.specs.laws.Wrappers.{wrapper_iff, wrapper-at_most}
use Rattle.frame.proofs.tag.wrapper_above.Goals as goal

-- the sum is the wrapper frame's exponent
sum : (s h size a b n : ℕ) → a ≡ first_held h → b ≡ last_held h size → n ≡ frame_number (a / 2 ^ s) (b / 2 ^ s) → (first_held h / 2 ^ s ≡ last_held h size / 2 ^ s → ⊥) → s + n ≡ wrapper h size
unfolding wrapper
sum s h size a b n p q e d =
    ap (λ (x : ℕ). s + x) (e ∙ ap₂ (λ (x y : ℕ). frame_number (x / 2 ^ s) (y / 2 ^ s)) p q)
    ∙ sym (number_above s (first_held h) (last_held h size) d)

pub overflow_add-result : goal.overflow_add-result
overflow_add-result c =
    let a = c.args in
    let apart : first_held a.h / 2 ^ a.s ≡ last_held a.h a.size / 2 ^ a.s → ⊥ = λ e. let l : wrapper a.h a.size ≤ a.s = (wrapper_iff a.s a.h a.size).1 e in omega (arith, l, c.requires.3) in
    let e : a.s + c.frame_number.result ≡ wrapper a.h a.size = sum a.s a.h a.size _ _ _ c.first_held.ensures c.last_held.ensures c.frame_number.ensures apart in
    omega (arith, e, wrapper-at_most a.h a.size c.requires.2)

pub returns : goal.returns
returns c =
    let a = c.args in
    let apart : first_held a.h / 2 ^ a.s ≡ last_held a.h a.size / 2 ^ a.s → ⊥ = λ e. let l : wrapper a.h a.size ≤ a.s = (wrapper_iff a.s a.h a.size).1 e in omega (arith, l, c.requires.3) in
    sum a.s a.h a.size _ _ _ c.first_held.ensures c.last_held.ensures c.frame_number.ensures apart
