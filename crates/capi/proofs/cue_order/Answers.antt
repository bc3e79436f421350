-- `capi::cue_order`: what `order` found, of which the order's places are bytes; or a refusal's number, and zeros. Assumes nothing.
use Rattle.placement.specs.Placement.{refusal_number}
use Rattle.placement.specs.laws.Answered.{refused_word}
use Rattle.capi.proofs.cue_order.Goals as goal

-- a refusal's order is 0
pub returns-in-Err : goal.returns-in-Err
returns-in-Err c = rw (c.number.ensures, ← c.in-Err.ensures, refused_word (refusal_number c.in-Err.r))
