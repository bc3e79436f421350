-- What a count of the blocks finds on an image with a layout. Assumes nothing.
use Rattle.std.proofs.Common.{Some, ℕ, ◌+◌, ◌≡◌, refl, List, sym, ap, ◌∙◌, arith}
use Rattle.block.specs.Layout.{fields}
use Rattle.block.specs.Walk.{ended, walk_from, no_counts, with_live, with_free, counting, count_blocks}
use Rattle.block.specs.laws.Walks.{walk_begins, walk_ended}
use Rattle.block.specs.laws.Counting.{same-counts, count_is}
use Rattle.block.specs.declared.walk.Counts.{Counts}
use Rattle.history.proofs.Gaps.{extent, headed, Layout, last, item, counts, Placed}
use Rattle.history.proofs.Looks.{gap}
use Rattle.history.proofs.Rendered.{Part, part_next}
use Rattle.history.proofs.Walking.{pass_gap, pass_block}
use Rattle.history.proofs.Focus.{focus_whole}

-- two counts, added up
abbrev plus : Counts → Counts → Counts
plus a b = record { objects = a.objects + b.objects; live = a.live + b.live; free = a.free + b.free; overhead = a.overhead + b.overhead }

-- past a gap, its free block is counted, if there is one
count_gap : (image : List ℕ) (h : ℕ) (l : Layout) (a : Counts) → Part image h l
    → walk_from counting image a h ≡ walk_from counting image (with_free a (fields (gap l) 1 0 0 0)) (h + gap l)
count_gap image h l a p = grind (arith, pass_gap)

-- from h on, all of the layout
count_from : (image : List ℕ) (h : ℕ) (l : Layout) (a : Counts) → Part image h l → walk_from counting image a h ≡ ended (plus a (counts l))
count_from image h (last g) a p =
    count_gap image h (last g) a p
    ∙ walk_ended counting image (with_free a (fields g 1 0 0 0)) (h + g) p.whole
    ∙ ap ended (same-counts (omega arith) (omega arith) refl (omega arith))
count_from image h (item g b l) a p =
    let c : Counts = with_live (with_free a (fields g 1 0 0 0)) (headed b) in
    count_gap image h (item g b l) a p
    ∙ pass_block counting (λ k d. refl) image h g b l (with_free a (fields g 1 0 0 0)) p
    ∙ count_from image (h + g + extent b) l c (part_next image h g b l p)
    ∙ ap ended (same-counts (omega arith) (omega arith) (omega arith) (omega arith))

-- a count of an image gives the counts of its layout
pub count_layout : (image : List ℕ) (l : Layout) → Placed image l → count_blocks image ≡ Some (counts l)
count_layout image l p =
    count_is image (counts l)
    (sym (walk_begins counting image no_counts)
    ∙ count_from image 16 l no_counts (focus_whole image l p).part
    ∙ ap ended (same-counts (omega arith) (omega arith) (omega arith) (omega arith)))
