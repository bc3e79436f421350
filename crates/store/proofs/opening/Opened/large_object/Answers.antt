-- `store::Opened::large_object` meets its contract: 10 by the tag number; 11 where its frame starts past the image, where no live header stands at the place that
-- its entry holds, or the object does not reach from half to half of the frame. Assumes nothing.
use Rattle.std.proofs.Common.{arith}
use Rattle.std.proofs.lemmas.Grind.{common_steps}
use Rattle.frame.specs.laws.Pointers.{good_large}
use Rattle.frame.specs.laws.Wrappers.{entry_used}
use Rattle.store.proofs.Lent.{opens}
use Rattle.store.proofs.Tags.{object_inside, tag_bad, frame_past, frame_empty, frame_left, frame_object}
use Rattle.store.proofs.opening.Opened.large_object.Goals as goal

pub frame_tag_good-requires : goal.frame_tag_good-requires
frame_tag_good-requires c = grind (arith, common_steps, opens c.args.self.now)

pub frame_start-requires : goal.frame_start-requires
frame_start-requires c = grind (arith, common_steps, good_large)

pub entry_index-requires : goal.entry_index-requires
entry_index-requires c = grind (arith, common_steps, good_large, opens c.args.self.now)

pub live_size-requires : goal.live_size-requires
live_size-requires c = grind (arith, common_steps, opens c.args.self.now)

pub frame_holds-requires : goal.frame_holds-requires
frame_holds-requires c = grind (arith, common_steps, good_large, opens c.args.self.now, object_inside)

pub measure-requires : goal.measure-requires
measure-requires c = grind (arith, common_steps, object_inside)

-- row 10
pub returns-then-not-frame_tag_good : goal.returns-then-not-frame_tag_good
returns-then-not-frame_tag_good c = grind (arith, common_steps, tag_bad)

-- row 11
pub returns-then-self-frame_start : goal.returns-then-self-frame_start
returns-then-self-frame_start c = grind (arith, common_steps, frame_past)

pub returns-in_err-size : goal.returns-in_err-size
returns-in_err-size c = grind (arith, common_steps, frame_empty)

pub returns-then-not-frame_holds : goal.returns-then-not-frame_holds
returns-then-not-frame_holds c = grind (arith, common_steps, frame_left)

-- the object
pub returns : goal.returns
returns c = grind (arith, common_steps, frame_object)

pub bounds-self-entry_index : goal.bounds-self-entry_index
bounds-self-entry_index c = grind (arith, common_steps, opens c.args.self.now, good_large, entry_used)

pub offset_bounds-self-entry_index : goal.offset_bounds-self-entry_index
offset_bounds-self-entry_index c = grind (arith, common_steps, opens c.args.self.now, good_large, entry_used)
