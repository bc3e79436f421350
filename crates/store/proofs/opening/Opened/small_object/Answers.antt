-- `store::Opened::small_object` meets its contract: 10 by the tag number; 11 where no live header stands at its place of the slot, or the slot does not hold its
-- object. Assumes nothing.
use Rattle.std.proofs.Common.{arith}
use Rattle.std.proofs.lemmas.Grind.{common_steps}
use Rattle.store.proofs.Lent.{opens}
use Rattle.store.proofs.Tags.{object_inside, tag_bad, slot_empty, slot_left, slot_object}
use Rattle.store.proofs.opening.Opened.small_object.Goals as goal

pub slot_tag_good-requires : goal.slot_tag_good-requires
slot_tag_good-requires c = grind (arith, common_steps, opens c.args.self.now)

pub frame_start-requires : goal.frame_start-requires
frame_start-requires c = grind (arith, common_steps, opens c.args.self.now)

pub live_size-requires : goal.live_size-requires
live_size-requires c = grind (arith, common_steps, opens c.args.self.now)

pub slot_holds-requires : goal.slot_holds-requires
slot_holds-requires c = grind (arith, common_steps, opens c.args.self.now, object_inside)

pub measure-requires : goal.measure-requires
measure-requires c = grind (arith, common_steps, object_inside)

-- row 10
pub returns-then-not-slot_tag_good : goal.returns-then-not-slot_tag_good
returns-then-not-slot_tag_good c = grind (arith, common_steps, tag_bad)

-- row 11
pub returns-in_err-size : goal.returns-in_err-size
returns-in_err-size c = grind (arith, common_steps, slot_empty)

pub returns-then-not-slot_holds : goal.returns-then-not-slot_holds
returns-then-not-slot_holds c = grind (arith, common_steps, slot_left)

-- the object
pub returns : goal.returns
returns c = grind (arith, common_steps, slot_object)
