use Rattle.std.proofs.Common.{◌≡◌, ℕ, List, ◌∙◌, w64, arith}
use Rattle.std.specs.Int.{from_le_bytes}
use Rattle.block.specs.Bytes.{field}
use Rattle.block.specs.laws.Fields.{field_zero, field_step}
use Rattle.placement.proofs.answer.Placement.order_word.Goals as goal

-- eight bytes, lowest first, taken one by one
eight : (bytes : List ℕ) → from_le_bytes w64 bytes ≡ field bytes 0 8
eight bytes = let step = field_step bytes in
    omega (arith, step 0 7, step 1 6, step 2 5, step 3 4, step 4 3, step 5 2, step 6 1, step 7 0, field_zero bytes 8)

pub returns : goal.returns
returns c = c.from_le_bytes.ensures ∙ eight _
