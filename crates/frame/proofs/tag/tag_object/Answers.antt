-- `frame::tag_object` meets its contract: one test by shifts says whether the object is small-framed; only a large-framed one has its frame number found.
-- Assumes nothing.
use Rattle.std.proofs.Common.{◌≤◌, ◌<◌, ◌^◌, div-mul-le_self, arith}
use Rattle.frame.specs.Tags.{wrapper}
use Rattle.frame.specs.laws.Wrappers.{wrapper-at_most}
use Rattle.frame.specs.laws.Tags.{tagged, pointer_small, pointer_large, tagged_small, tagged-large}
use Rattle.frame.proofs.Tests.{small, large}
use Rattle.frame.proofs.tag.tag_object.Goals as goal

pub wrapper_above-n-requires : goal.wrapper_above-n-requires
wrapper_above-n-requires c = (c.requires.0, c.requires.1, c.requires.2, large _ _ c.first_held.ensures c.last_held.ensures (c.if-same_frame.ensures))

pub entry_index-requires : goal.entry_index-requires
entry_index-requires c =
    let a = c.args in
    let l : a.s < wrapper a.h a.size = large _ _ c.first_held.ensures c.last_held.ensures (c.if-same_frame.ensures) in
    omega (arith, l, c.wrapper_above-n.ensures, wrapper-at_most a.h a.size c.requires.2, div-mul-le_self a.h (2 ^ c.wrapper_above-n.result))

-- small-framed
pub returns-then-same_frame : goal.returns-then-same_frame
unfolding tagged
returns-then-same_frame c =
    let a = c.args in
    let l : wrapper a.h a.size ≤ a.s = small _ _ c.first_held.ensures c.last_held.ensures (c.if-same_frame.ensures) in
    rw (c.frame_start.ensures, tagged_small _ _ _ l, pointer_small _ _ _ l)

-- large-framed
pub returns-else-same_frame : goal.returns-else-same_frame
unfolding tagged
returns-else-same_frame c =
    let a = c.args in
    let l : a.s < wrapper a.h a.size = large _ _ c.first_held.ensures c.last_held.ensures (c.if-same_frame.ensures) in
    rw (c.entry_index.ensures, c.wrapper_above-n.ensures, tagged-large _ _ _ l, pointer_large _ _ _ l)
