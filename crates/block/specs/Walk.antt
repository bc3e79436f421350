-- The walk over the blocks of an image, from 16 on, from block to block by their extents: document 01, "Calls"; the counts and the
-- objects of a cue: document 02, W3 and W6. Assumes nothing.
use Rattle.std.specs.Prelude.{◌≡◌, ℕ, zero, suc, ◌+◌, ◌-◌, ◌<◌, ◌≤◌, Bool, true, false, cond, ◌&&◌, List, [], ◌∷◌, ◌++◌, length, ◌==◌, nat_le, None, Option, Some}
use Rattle.block.specs.Layout.{header_at, extent_at, is_free, sound}
use Rattle.block.specs.declared.header.Header.{Header}
use Rattle.block.specs.declared.walk.Fit.{Fit}
use Rattle.block.specs.declared.walk.Fit.TheVariants as fit
use Rattle.block.specs.declared.walk.Counts.{Counts}

-- how a walk ends: at a block that it stops at, with what it gathered before; at an unsound header; or at the image's end
pub data Walked (A : Type 0) : Type 0 where
  stopped : A → ℕ → Walked A
  unsound : ℕ → Walked A
  ended : A → Walked A

-- what a walk looks for, and what it gathers from each block that it passes; both see the block's place and header
pub record Search (A : Type 0) : Type 0 where
  pub stops : ℕ → Header → Bool
  pub passes : A → ℕ → Header → A

-- at most `steps` blocks from h on
unfoldable pub walk_in : {A : Type 0} → Search A → ℕ → List ℕ → A → ℕ → Walked A
walk_in s zero image a h = unsound h
walk_in s (suc steps) image a h =
    elim (h == length image) [
      | true ↦ ended a
      | false ↦ elim (sound image h) [
        | false ↦ unsound h
        | true ↦ elim (s.stops h (header_at image h)) [
          | true ↦ stopped a h
          | false ↦ walk_in s steps image (s.passes a h (header_at image h)) (h + (header_at image h).extent)
        ]
      ]
    ]

-- the walk from h on. A sound block has 16 bytes or more, so that these steps are never used up.
unfoldable pub walk_from : {A : Type 0} → Search A → List ℕ → A → ℕ → Walked A
walk_from s image a h = walk_in s (suc (length image)) image a h

-- the walk over the whole image
unfoldable pub walk : {A : Type 0} → Search A → List ℕ → A → Walked A
walk s image a = walk_from s image a 16

-- a free block with an extent of `need` or more
abbrev pub fitting : ℕ → Search Unit
fitting need = record { stops = λ h d. (d.kind == 1) && nat_le need d.extent; passes = λ a h d. a }

-- the answer of first fit, from how the walk ended
unfoldable pub fit_of : Walked Unit → Fit
fit_of (stopped a h) = fit.At h
fit_of (unsound h) = fit.Unsound h
fit_of (ended a) = fit.End

-- the first block that is unsound, or free with an extent of `need` or more
unfoldable pub first_fit : List ℕ → ℕ → Fit
first_fit image need = fit_of (walk (fitting need) image tt)

-- the place `target`, or the first above it; what is gathered is the place of the last block passed
abbrev pub reaching : ℕ → Search ℕ
reaching target = record { stops = λ h d. nat_le target h; passes = λ a h d. h }

-- the answer of the walk to a block: met only where it stopped at the target itself
unfoldable pub met_of : ℕ → Walked ℕ → Option ℕ
met_of target (stopped a h) = cond (h == target) (Some a) None
met_of target (unsound h) = None
met_of target (ended a) = None

-- the walk to the block at `target`; the value is the place of the block before it, 0 where there is none
unfoldable pub walk_to : List ℕ → ℕ → Option ℕ
walk_to image target = met_of target (walk (reaching target) image 0)

-- no block is counted yet
abbrev pub no_counts : Counts
no_counts = record { objects = 0; live = 0; free = 0; overhead = 0 }

-- the overhead bytes of a live block: 16 for its header, and its extent's bytes beyond header and size
abbrev pub overhead_of : Header → ℕ
overhead_of d = 16 + (d.extent - (16 + d.size))

-- a live block more: an object, its raw size, its overhead bytes
abbrev pub with_live : Counts → Header → Counts
with_live a d = record { objects = a.objects + 1; live = a.live + d.size; free = a.free; overhead = a.overhead + overhead_of d }

-- a free block more: its extent
abbrev pub with_free : Counts → Header → Counts
with_free a d = record { objects = a.objects; live = a.live; free = a.free + d.extent; overhead = a.overhead }

-- every block is passed, and counted; a sound one that is not live is free
abbrev pub counting : Search Counts
counting = record { stops = λ h d. false; passes = λ a h d. cond (d.kind == 2) (with_live a d) (with_free a d) }

-- the answer of a count; its walk never stops before the end
unfoldable pub count_of : Walked Counts → Option Counts
count_of (stopped a h) = None
count_of (unsound h) = None
count_of (ended a) = Some a

-- the counts of an image's blocks, or that a header is unsound
unfoldable pub count_blocks : List ℕ → Option Counts
count_blocks image = count_of (walk counting image no_counts)

-- a live block of the cue
abbrev pub is_of_cue : ℕ → Header → Bool
is_of_cue cue d = d.kind == 2 && d.cue == cue

-- every block is passed; what is gathered is the places of the cue's live blocks, in the order of their addresses
abbrev pub gathering : ℕ → Search (List ℕ)
gathering cue = record { stops = λ h d. false; passes = λ a h d. cond (is_of_cue cue d) (a ++ (h ∷ [])) a }

-- the walk that gathers them
unfoldable pub walk_cue : ℕ → List ℕ → Walked (List ℕ)
walk_cue cue image = walk (gathering cue) image []

-- a place that the walk comes to
pub data OnWalk (image : List ℕ) : ℕ → Type 0 where
  first : OnWalk image 16
  next : (h : ℕ) → OnWalk image h → sound image h ≡ true → OnWalk image (h + extent_at image h)

-- the block at h is the lowest on the walk that is free and long enough
pub record LowestFit (image : List ℕ) (need h : ℕ) : Type 0 where
  pub on_walk : OnWalk image h
  pub is_sound : sound image h ≡ true
  pub is_free_lem : is_free image h ≡ true
  pub fits_in : need ≤ extent_at image h
  pub lowest : (k : ℕ) → OnWalk image k → k < h → is_free image k ≡ true → need ≤ extent_at image k → ⊥

-- Demand 2: first fit takes the lowest block that fits.
unfoldable pub TakesLowest : Type 0
TakesLowest = (image : List ℕ) (need h : ℕ) → first_fit image need ≡ fit.At h → LowestFit image need h
