-- The count of an image's blocks, turn by turn. Assumes nothing.
use Rattle.std.proofs.Common.{◌≡◌, ℕ, ◌+◌, ◌-◌, ◌*◌, ◌≤◌, List, length, sym, refl, ap, ◌∙◌, subst, arith, Some}
use Rattle.block.specs.Walk.{no_counts, counting, count_blocks}
use Rattle.block.specs.laws.Counting.{same-counts, passes_live, passes-free, count_is}
use Rattle.block.specs.laws.Turns.{Walking, Seen, live_holds, free_empty, begins, at-end, goes_on}
use Rattle.block.specs.declared.header.Header.{Header}
use Rattle.block.specs.declared.walk.Counts.{Counts}

-- the counts up to h: what is neither live nor free is overhead
abbrev counts_up_to : ℕ → ℕ → ℕ → ℕ → Counts
counts_up_to h objects live free = record { objects = objects; live = live; free = free; overhead = h - (16 + live + free) }

-- the invariant of the count: the blocks up to h are counted, and live headers, live bytes and free bytes fit below h
pub record Counting (image : List ℕ) (h objects live free : ℕ) : Type 0 where
  pub rest : Walking counting image no_counts (counts_up_to h objects live free) h
  pub below : 16 + 16 * objects + live + free ≤ h

-- at 16 no block is counted yet
pub counts_none : (image : List ℕ) → Counting image 16 0 0 0
counts_none image = record { rest = begins counting image no_counts; below = omega arith }

module _ {image : List ℕ} {h objects live free : ℕ} (w : Counting image h objects live free) where
  -- all blocks are counted
  pub counts_all : h ≡ length image
      → Some (record { objects = objects; live = live; free = free; overhead = length image - 16 - live - free }) ≡ count_blocks image
  counts_all e =
      ap Some (same-counts refl refl refl (omega arith)) ∙ sym (count_is image (counts_up_to h objects live free) (sym (at-end w.rest e)))

  module _ {d : Header} (e : Seen image h d) where
    -- a block more, whose counts are o, n and f
    counts_more : {o n f : ℕ} → counting.passes (counts_up_to h objects live free) h d ≡ counts_up_to (h + d.extent) o n f → 16 + 16 * o + n + f ≤ h + d.extent
        → Counting image (h + d.extent) o n f
    counts_more q l = record { rest = subst (λ (x : Counts). Walking counting image no_counts x (h + d.extent)) q (goes_on w.rest e refl); below = l }

    -- a live one
    pub counts_live : d.kind ≡ 2 → Counting image (h + d.extent) (objects + 1) (live + d.size) free
    counts_live k =
        let holds : 16 + d.size ≤ d.extent = live_holds e k in
        counts_more (passes_live _ h d k ∙ same-counts refl refl refl (omega (arith, w.below))) (omega (arith, w.below))

    -- a free one
    pub counts-free : (d.kind ≡ 2 → ⊥) → Counting image (h + d.extent) objects (live + d.size) (free + d.extent)
    counts-free k =
        let none : d.size ≡ 0 = free_empty e k in
        counts_more (passes-free _ h d k ∙ same-counts refl (omega arith) refl (omega (arith, w.below))) (omega (arith, w.below, e.long))
