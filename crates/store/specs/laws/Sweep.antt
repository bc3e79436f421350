-- Release's one pass over the blocks keeps back the free block that a run of neighbours comes to. Assumes nothing.
use Rattle.std.specs.Prelude.{ℕ, ◌+◌, ◌≤◌, ◌≡◌, refl, Bool, true, false, List, length}
use Rattle.block.specs.laws.Booleans.{true_false}
use Rattle.block.specs.Layout.{header_at}
use Rattle.store.specs.Calls.{merged}
use Rattle.store.specs.laws.Free.{length_merged, merged-behind, merged_again}

-- the image with the run from `from` to h written, where there is one
unfoldable pub settled : Bool → List ℕ → ℕ → ℕ → List ℕ
settled true image from h = merged image from h
settled false image from h = image

-- a run has room for a header behind the superblock, and ends in the image
pub record Run (run : Bool) (image : List ℕ) (from h : ℕ) : Type 0 where
  pub low : run ≡ true → 16 ≤ from
  pub room : run ≡ true → from + 16 ≤ h
  pub high : h ≤ length image

-- where there is none, only the place is asked about
pub no_run : {image : List ℕ} {from h : ℕ} → h ≤ length image → Run false image from h
no_run l = record { low = λ e. absurd (true_false e refl); room = λ e. absurd (true_false e refl); high = l }

-- writing it changes no length
pub length-settled : {run : Bool} {image : List ℕ} {from h : ℕ} → Run run image from h → length (settled run image from h) ≡ length image
unfolding settled
length-settled {run = true} {image} {from} {h} r = length_merged image from h (r.room refl) r.high
length-settled {run = false} {image} {from} {h} r = refl

-- and no header from h on
pub settled-behind : {run : Bool} {image : List ℕ} {from h : ℕ} → Run run image from h → (k : ℕ) → h ≤ k
    → header_at (settled run image from h) k ≡ header_at image k
unfolding settled
settled-behind {run = true} {image} {from} {h} r k l = merged-behind image from h (r.room refl) r.high k l
settled-behind {run = false} {image} {from} {h} r k l = refl

-- the longer run swallows it
pub settled_again : {run : Bool} {image : List ℕ} {from h : ℕ} → Run run image from h → (end : ℕ) → h ≤ end → end ≤ length image
    → merged (settled run image from h) from end ≡ merged image from end
unfolding settled
settled_again {run = true} {image} {from} {h} r end l high = merged_again image from h end (r.room refl) l high
settled_again {run = false} {image} {from} {h} r end l high = refl
