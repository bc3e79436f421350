-- The places that a cue's walk gathers on an image with a layout. Assumes nothing.
use Rattle.std.proofs.Common.{ℕ, ◌+◌, ◌≡◌, refl, Bool, true, false, cond, List, [], ◌∷◌, ◌++◌, eqb, sym, ap, ◌∙◌, append_assoc, append-nil}
use Rattle.block.specs.Walk.{ended, walk_from, gathering, walk_cue}
use Rattle.block.specs.laws.Walks.{walk_begins, walk_ended}
use Rattle.block.specs.laws.Gathering.{walk_cue_is}
use Rattle.history.proofs.Gaps.{extent, Layout, last, item, Placed}
use Rattle.history.proofs.Rendered.{Part, part_next}
use Rattle.history.proofs.Focus.{focus_whole}
use Rattle.history.proofs.Walking.{pass_gap, pass_block}

-- the places of the cue's blocks in a layout that starts at h
unfoldable pub places_in : ℕ → ℕ → Layout → List ℕ
places_in cue h (last g) = []
places_in cue h (item g b l) =
    cond (eqb b.cue cue) ((h + g) ∷ places_in cue (h + g + extent b) l) (places_in cue (h + g + extent b) l)

-- one place more, behind what was gathered or in front of the rest
one_more : (b : Bool) (a : List ℕ) (h : ℕ) (rest : List ℕ) → cond b (a ++ (h ∷ [])) a ++ rest ≡ a ++ cond b (h ∷ rest) rest
one_more true a h rest = append_assoc a (h ∷ []) rest
one_more false a h rest = refl

-- from h on, those of the layout are gathered
gather_from : (cue : ℕ) (image : List ℕ) (h : ℕ) (l : Layout) (a : List ℕ) → Part image h l
    → walk_from (gathering cue) image a h ≡ ended (a ++ places_in cue h l)
unfolding places_in
gather_from cue image h (last g) a p =
    pass_gap (gathering cue) (λ k d. refl) image h (last g) a a p (λ e. refl) refl
    ∙ walk_ended (gathering cue) image a (h + g) p.whole
    ∙ ap ended (sym (append-nil a))
gather_from cue image h (item g b l) a p =
    let found : Bool = eqb b.cue cue in
    pass_gap (gathering cue) (λ k d. refl) image h (item g b l) a a p (λ e. refl) refl
    ∙ pass_block (gathering cue) (λ k d. refl) image h g b l a p
    ∙ gather_from cue image (h + g + extent b) l (cond found (a ++ ((h + g) ∷ [])) a) (part_next image h g b l p)
    ∙ ap ended (one_more found a (h + g) (places_in cue (h + g + extent b) l))

-- the walk gathers those of the whole layout
pub gather_layout : (cue : ℕ) (image : List ℕ) (l : Layout) → Placed image l → walk_cue cue image ≡ ended (places_in cue 16 l)
gather_layout cue image l p =
    sym (walk_cue_is cue image) ∙ sym (walk_begins (gathering cue) image []) ∙ gather_from cue image 16 l [] (focus_whole image l p).part
