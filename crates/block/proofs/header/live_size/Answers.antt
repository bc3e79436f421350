-- `block::header::live_size`: no room, another kind, and an unsound header are no object; else the size is read. Assumes nothing.
use Rattle.std.proofs.Common.{sym, ap, ◌∙◌, arith, Some}
use Rattle.block.specs.laws.Soundness.{object_live, object_unsound, object_dead}
use Rattle.block.proofs.Headers.{unroomy}
use Rattle.block.proofs.header.live_size.Goals as goal
use Rattle.block.proofs.header.live_size.Goals.{then-kind_at-ne-LIVE-via-then-kind_at-ne-LIVE, then-kind_at-ne-LIVE-via-else-kind_at-ne-LIVE+then-not-live_sound}

-- no room for a header
pub returns-then-not-has_room : goal.returns-then-not-has_room
returns-then-not-has_room c = sym (object_unsound _ _ (unroomy _ _ c.requires (sym c.if-not-has_room.ensures)))

-- another kind, or an unsound header
pub returns-then-kind_at-ne-LIVE : goal.returns-then-kind_at-ne-LIVE
returns-then-kind_at-ne-LIVE c =
    sym
    (elim c.then-kind_at-ne-LIVE.branch [
      | then-kind_at-ne-LIVE-via-then-kind_at-ne-LIVE w ↦ object_dead _ _ (λ e. omega (arith, w.if-kind_at-ne-LIVE.true, c.kind_at.ensures, e))
      | then-kind_at-ne-LIVE-via-else-kind_at-ne-LIVE+then-not-live_sound w ↦ object_unsound _ _ (sym w.if-not-live_sound.ensures)
    ])

-- the size
pub returns : goal.returns
returns c = ap Some c.size_at.ensures ∙ sym (object_live _ _ (sym c.if-not-live_sound.ensures) (sym c.kind_at.ensures ∙ c.if-kind_at-ne-LIVE.false))
