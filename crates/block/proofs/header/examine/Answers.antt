-- `block::header::examine`: where the first three tests pass, there is room for a header at h, behind the superblock, and `is_sound` decides. Assumes nothing.
use Rattle.std.proofs.Common.{sym, ap, ◌∙◌, arith, Some, ⊎_elim}
use Rattle.block.specs.laws.Soundness.{unsound_low, unsound_past, examined-sound, examined_unsound}
use Rattle.block.proofs.header.examine.Goals as goal

-- no room for a header
pub returns-in_err-last : goal.returns-in_err-last
returns-in_err-last c = rw c.from_residual.ensures (sym (examined_unsound _ _ (unsound_past _ _ (omega (arith, c.in_err-last.ensures)))))

-- not at h
pub returns-then-h-lt16 : goal.returns-then-h-lt16
returns-then-h-lt16 c = sym (examined_unsound _ _ (⊎_elim (λ l. unsound_low _ _ l) (λ l. unsound_past _ _ (omega (arith, l, c.in_ok-last.ensures))) c.then-h-lt16.either))

-- the header is sound
pub returns-then-is_sound : goal.returns-then-is_sound
returns-then-is_sound c = ap Some c.read_header.ensures ∙ sym (examined-sound _ _ (sym c.if-is_sound.ensures))

-- the header is unsound
pub returns-else-is_sound : goal.returns-else-is_sound
returns-else-is_sound c = sym (examined_unsound _ _ (sym c.if-is_sound.ensures))
