-- `store::coalesce` meets its contract. It ends in one of four ways: the walk does not meet h; the block at h is the last of the image; the header that follows is
-- unsound; or it is sound. Assumes nothing.
use Rattle.std.proofs.lemmas.Grind.{common_steps}
use Rattle.std.proofs.Common.{arith}
use Rattle.block.specs.laws.Soundness.{sound_in, sound-end, examined_is_sound, examined_is_unsound}
use Rattle.store.specs.laws.Free.{released_lost}
use Rattle.store.proofs.Merging.{before_in, released_last, released_bad, released-next}
use Rattle.store.proofs.release.coalesce.Goals as goal

pub extent_at-requires : goal.extent_at-requires
extent_at-requires c = sound_in _ _ c.requires

pub overflow_add-next : goal.overflow_add-next
overflow_add-next c = grind (arith, common_steps, sound-end)

pub merge_start-from-requires : goal.merge_start-from-requires
merge_start-from-requires c = grind (arith, common_steps, before_in)

pub merge_end-requires : goal.merge_end-requires
merge_end-requires c = grind (arith, common_steps, sound-end, examined_is_sound)

-- row 7: h is not met
pub returns-in_err-before : goal.returns-in_err-before
returns-in_err-before c = grind (arith, common_steps, released_lost)

-- nothing follows
pub returns-then-next-image : goal.returns-then-next-image
returns-then-next-image c = grind (arith, common_steps, released_last)

-- row 7: the next header is unsound
pub returns-in_err-d : goal.returns-in_err-d
returns-in_err-d c = grind (arith, common_steps, sound-end, examined_is_unsound c.args.image.now, released_bad)

-- it is sound
pub returns : goal.returns
returns c = grind (arith, common_steps, sound-end, examined_is_sound, released-next)
