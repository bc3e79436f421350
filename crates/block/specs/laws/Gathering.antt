-- The walk that gathers the objects of a cue. Assumes nothing.
use Rattle.std.specs.Prelude.{◌≡◌, ℕ, true, List, [], ◌==◌, refl}
use Rattle.std.proofs.Common.{eqb-true}
use Rattle.block.specs.laws.Booleans.{and_left}
use Rattle.block.specs.Walk.{walk, is_of_cue, gathering, walk_cue}
use Rattle.block.specs.declared.header.Header.{Header}

-- a block of a cue is live
pub cue_live : (cue : ℕ) (d : Header) → is_of_cue cue d ≡ true → d.kind ≡ 2
cue_live cue d e = eqb-true _ _ (and_left _ (d.cue == cue) e)

-- the walk starts with nothing gathered
pub walk_cue_is : (cue : ℕ) (image : List ℕ) → walk (gathering cue) image [] ≡ walk_cue cue image
unfolding walk_cue
walk_cue_is cue image = refl
